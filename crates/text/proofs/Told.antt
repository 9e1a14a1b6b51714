-- What the readers answer, taken apart and put together.
use mathlib.Core.Path.{◌≡◌, refl, ◌∙◌, ap, ap₂, subst}
use mathlib.Core.List.{List}
use Prim.Native.Nat.{ℕ, ◌≤◌}
use native.Mathlib.Omega.{arith}
use lib.IntN.{ℤ}
use Rattle.answers.specs.Refusals.{TEXT}
use Rattle.answers.specs.Judge.{Judged, Judged.good, Judged.fails}
use Rattle.std.specs.Prelude.{Result, Ok, Err}
use Rattle.std.specs.Result.{IsErrAnd}
use Rattle.text.specs.declared.laying.Layout.{Layout}
use Rattle.text.specs.Tree.{Tree}
use Rattle.text.specs.Reader.{Span, span}
use Rattle.text.specs.Inside.Laid.{Part, Said, Reads}
use Rattle.text.proofs.Trees.{size-some}

-- a good answer: the tree that was read
pub record Told (j : Judged Span) (s : List ℕ) (at n : ℕ) (c : List (List ℤ)) (next count : ℕ) (d : List (List ℤ)) : Type 0 where
  pub tree : Tree
  pub is : j ≡ good (span tree next)
  pub part : Part s at n c (span tree next) next count d
  pub some : 1 ≤ count

module _ {j : Judged Span} {s : List ℕ} {at : ℕ} {a b : Layout} where
  pub told : {r : Result ℕ ℕ} {next : ℕ} → Reads j s at a r b → r ≡ Ok next → Told j s at a.nodes a.rows next b.nodes b.rows
  told {next = next} h e = go j refl (subst (λ (q : Result ℕ ℕ). Said j s at a q b) e h.said)
    where
      go : (i : Judged Span) → j ≡ i → Said i s at a (Ok next) b → Told j s at a.nodes a.rows next b.nodes b.rows
      go (good p) f w = record {
        tree = p.tree;
        is = f ∙ ap (λ (k : ℕ). good (span p.tree k)) w.next_is;
        part = subst (λ (k : ℕ). Part s at a.nodes a.rows (span p.tree k) next b.nodes b.rows) w.next_is w;
        some = omega (arith, w.count_is, size-some p.tree);
      }
      go (fails refusal p) f w = absurd w

  pub faults : {r : Result ℕ ℕ} {place : ℕ} → Reads j s at a r b → r ≡ Err place → j ≡ fails TEXT place
  faults {place = place} h e = go j refl (subst (λ (q : Result ℕ ℕ). Said j s at a q b) e h.said)
    where
      go : (i : Judged Span) → j ≡ i → Said i s at a (Err place) b → j ≡ fails TEXT place
      go (good p) f w = absurd w
      go (fails refusal p) f w = f ∙ ap₂ fails w.0 w.1

  pub answered : {t : Tree} {next : ℕ} → j ≡ good (span t next) → Part s at a.nodes a.rows (span t next) next b.nodes b.rows → Reads j s at a (Ok next) b
  answered f w = record { said = rw f w }

  pub failed : {r : Result ℕ ℕ} {place : ℕ} → IsErrAnd r (λ y. y ≡ place) → j ≡ fails TEXT place → Reads j s at a r b
  failed {r = Ok next} h e = absurd h
  failed {r = Err place} h e = record { said = rw (h, e) (refl, refl) }
