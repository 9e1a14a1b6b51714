-- The text is read as a formula exactly if it is one, with its one tree; and if not, the reader refuses at the end of the longest prefix that some formula
-- begins with.
use mathlib.Core.Path.{◌≡◌, refl, sym, ◌∙◌, ap, ap₂, subst}
use mathlib.Core.List.{List, ◌++◌, append_assoc, append-nil}
use Prim.Native.Nat.{ℕ, ◌+◌, ◌≤◌, ◌<◌}
use native.Mathlib.Omega.{arith}
use lib.Dec.{leb}
use lib.ListN.{length, take, drop, length-append, get_or-eq_default, get_or-append, take-append-drop}
use lib.Seq.{drop-length, take_all, take_at, take-take, get_or-take, length-take-le}
use borrow.Author.Tests.{leb-true}
use Rattle.answers.specs.Refusals.{TEXT}
use Rattle.answers.specs.Judge.{Judged, Judged.good, Judged.fails, holding, and_then}
use Rattle.text.specs.Limits.{deepest}
use Rattle.text.specs.Tree.{Tree}
use Rattle.text.specs.Grammar.{Level.sum, Is, Formula, Longest}
use Rattle.text.specs.Signs.{is_digit}
use Rattle.text.specs.Reader.{Span, span, byte_at, is_times, is_sign, read_whole}
use Rattle.text.proofs.Byte.{decide}
use Rattle.text.proofs.Words.{WordAt, Agree}
use Rattle.text.proofs.Parts.{Begun, reading, End, Good}
use Rattle.text.proofs.Sound.{reading-good}
use Rattle.answers.proofs.Judging.{good-fails}
use Rattle.text.proofs.Branches.{all_read}
use Rattle.text.proofs.Only.{reads}

-- the sum that is read at the beginning
abbrev first : List ℕ → Judged Span
first s = reading sum deepest s 0

-- a formula is read, also of a text that differs from it only past what was looked at
formula-first : (s r : List ℕ) (t : Tree) → Agree (End (first s)) s r → Formula r t → first s ≡ good (span t (length r))
unfolding is_digit is_times is_sign
formula-first s r t agree d =
    let whole : WordAt r 0 (length r) r = record { end = omega arith; split = rw (drop-length r, append-nil) } in
    let past : byte_at r (length r) ≡ 0 = get_or-eq_default r 0 (omega arith) in
    reads s r d whole agree (rw past (refl, refl, refl, refl))

module _ (s : List ℕ) where
  pub read-formula : (t : Tree) → Formula s t → read_whole s ≡ good t
  read-formula t d = all_read s (formula-first s s t (λ q h. refl) d) (omega arith)

  -- ---- Where the reading ends.

  begun-within : {P : List ℕ → Type 0} {p : ℕ} {rest : List ℕ} → Begun P s 0 p rest → p ≤ length s
  begun-within {p = p} d = omega (arith, d.stands.end, ap length d.stands.split, length-append d.word (drop p s))

  begun-word : {P : List ℕ → Type 0} {p : ℕ} {rest : List ℕ} (d : Begun P s 0 p rest) → take p s ≡ d.word
  begun-word {p = p} d = ap (take p) d.stands.split ∙ take_at d.word (drop p s) p (omega (arith, d.stands.end))

  none-longer : (p : ℕ) → End (first s) ≡ p → p < length s → (other : List ℕ) (t : Tree) → Formula (take (p + 1) s ++ other) t → ⊥
  none-longer p e h other t d =
      let r : List ℕ = take (p + 1) s ++ other in
      let front = length-take-le (p + 1) s (omega arith) in
      let agree : Agree (End (first s)) s r =
      λ q k. sym (get_or-append (take (p + 1) s) other 0 q (omega arith) ∙ get_or-take (p + 1) s q 0 (omega arith)) in
      omega (arith, ap End (formula-first s r t agree d), length-append (take (p + 1) s) other)

  ends-longest : {p : ℕ} {rest : List ℕ} {t : Tree} → End (first s) ≡ p → Begun (λ w. Formula w t) s 0 p rest → Longest s p
  ends-longest {p} {rest} {t} e d = record {
    within = begun-within d;
    rest = rest;
    tree = t;
    begins = rw (begun-word d) d.is;
    none = λ q longer inside other u f.
        none-longer p e (omega arith) (drop (p + 1) (take q s) ++ other) u (rw (← append_assoc, ← take-take (p + 1) q s (omega arith), take-append-drop) f);
  }

  -- what is said of the text
  abbrev Says : Judged Tree → Type 0
  Says (good t) = Formula s t
  Says (fails refusal p) = (refusal ≡ TEXT) × Longest s p

  whole_says : Says (read_whole s)
  unfolding read_whole and_then holding
  whole_says = go (first s) refl (reading-good sum deepest s 0)
    where
      go : (g : Judged Span) → first s ≡ g → Good (Is sum deepest) s 0 g
          → Says (and_then g (λ p. holding (leb (length s) p.next) TEXT p.next (good p.tree)))
      go (good q) e d =
          decide (leb (length s) q.next)
          (λ f. rw (f, ← take_all q.next s (leb-true (length s) q.next f), begun-word d, ← append-nil d.word) d.is)
          (λ f. rw f (refl, ends-longest (ap End e) d))
      go (fails refusal p) e d = (d.0, ends-longest (ap End e) d.1.begun)

  pub formula-read : (t : Tree) → read_whole s ≡ good t → Formula s t
  formula-read t e = subst Says e whole_says

  pub stops-longest : (refusal p : ℕ) → read_whole s ≡ fails refusal p → (refusal ≡ TEXT) × Longest s p
  stops-longest refusal p e = subst Says e whole_says

  pub stops-none : (refusal p : ℕ) → read_whole s ≡ fails refusal p → (t : Tree) → Formula s t → ⊥
  stops-none refusal p e t d = good-fails (sym (read-formula t d) ∙ e)

pub tree-one : {s : List ℕ} {t u : Tree} → Formula s t → Formula s u → t ≡ u
tree-one {s} {t} {u} d c = let e = read-formula s t d in let f = read-formula s u c in cc

-- ---- There is one longest prefix.

no_longer : {s : List ℕ} {p q : ℕ} → Longest s p → Longest s q → p < q → ⊥
no_longer {q = q} a b h = a.none q h b.within b.rest b.tree b.begins

pub longest-one : {s : List ℕ} {p q : ℕ} → Longest s p → Longest s q → p ≡ q
longest-one a b = omega (arith, no_longer a b, no_longer b a)

pub longest-stops : (s : List ℕ) (p : ℕ) → Longest s p → ((t : Tree) → Formula s t → ⊥) → read_whole s ≡ fails TEXT p
longest-stops s p l none = go (read_whole s) (whole_says s)
  where
    go : (j : Judged Tree) → Says s j → j ≡ fails TEXT p
    go (good t) d = absurd (none t d)
    go (fails refusal q) d = ap₂ fails d.0 (longest-one d.1 l)
