-- What `form_table` answers, check by check: a refusal, or the packed sum of the last node.
use mathlib.Core.Path.{◌≡◌, refl, sym, ◌∙◌, ap, ap₂, subst}
use mathlib.Core.Bool.{true, false}
use mathlib.Core.List.{List, []}
use Prim.Native.Nat.{ℕ, suc, ◌+◌, ◌*◌, ◌-◌, ◌/◌, ◌≤◌}
use native.Mathlib.Omega.{arith}
use lib.IntN.{ℤ}
use lib.ListN.{length, take, drop, length-map}
use lib.Seq.{sets}
use Rattle.algebra.specs.Limits.{variables, most_terms, work_places}
use Rattle.algebra.specs.Word.{terms, EachValid}
use Rattle.algebra.specs.Held.{words_of, coefficients_of}
use Rattle.algebra.specs.Accepted.{Accepted}
use Rattle.answers.specs.Refusals.{SHAPE, number}
use Rattle.answers.specs.Answers.{Told.done, Told.refused, told, outcome}
use Rattle.answers.specs.declared.Refused.{Refused}
use Rattle.std.specs.Prelude.{Result, Ok, Err}
use Rattle.packed.specs.Packed.{packed, most_bytes}
use Rattle.packed.specs.Result.{packed_into}
use Rattle.packed.proofs.Results.{result_room, result-written}
use Rattle.sums.proofs.Holding.{spells, holds, each-valid, accepted-holdable}
use Rattle.sums.specs.Part.{part}
use Rattle.answers.specs.Judge.{Judged, Judged.good, Judged.fails, and_then}
use Rattle.formula.specs.Table.{Entry, judge_nodes, is_shape}
use Rattle.formula.specs.Simplify.{last_sum, table_sum}
use Rattle.formula.specs.Inside.Last.{terms_told, KeepsLast}
use Rattle.sums.proofs.Parts.{lent-front}
use Rattle.formula.proofs.Passing.{passed_length, table-length, shape-judge, no-shape-judge, judge-says}
use Rattle.formula.proofs.Meaning.{last-accepted}
use Rattle.formula.proofs.Simplifying.{shape-says}

-- ---- SHAPE, and a node that is refused.

module _ (table : List ℤ) (area : List ℕ) where
  pub no_shape : is_shape (length table) ≡ false → outcome (refused SHAPE 0) area ≡ packed_into (table_sum table) area
  unfolding table_sum and_then packed_into
  no_shape h = rw (no-shape-judge table h)

  by-nodes : is_shape (length table) ≡ true → {j : Judged (List Entry)} → judge_nodes [] table ≡ j
      → packed_into (and_then j (λ nodes. good (last_sum nodes))) area ≡ packed_into (table_sum table) area
  unfolding table_sum
  by-nodes h e = rw (shape-judge table h, e)

  refused-so : (j : Judged (List Entry)) (refusal p : ℕ) → refused refusal p ≡ terms_told j
      → outcome (refused refusal p) area ≡ packed_into (and_then j (λ nodes. good (last_sum nodes))) area
  unfolding and_then packed_into
  refused-so (good es) refusal p e = let z : ◌≡◌ {A = ℕ} 0 1 = cc in absurd (omega arith)
  refused-so (fails r q) refusal p e = ap (λ t. outcome t area) e

  pub node-refused : is_shape (length table) ≡ true → {r : Result ℕ Refused} {e : Refused} → r ≡ Err e → told r ≡ terms_told (judge_nodes [] table)
      → outcome (told (Err e)) area ≡ packed_into (table_sum table) area
  node-refused h {e = e} is says = refused-so (judge_nodes [] table) (number e.refusal) e.place (sym (ap told is) ∙ says) ∙ by-nodes h refl

-- ---- All nodes have passed, and the last one's sum stands in its part.

-- the index of the last node
abbrev pub last_of : List ℤ → ℕ
last_of table = length table / 3 - 1

pub record Formed (table : List ℤ) (ws : List ℕ) (cs : List ℤ) (count : ℕ) : Type 0 where
  pub shape : is_shape (length table) ≡ true
  pub es : List Entry
  pub judged : judge_nodes [] table ≡ good es
  pub words_are : take count (part (last_of table) ws) ≡ words_of (last_sum es)
  pub coefficients_are : take count (part (last_of table) cs) ≡ coefficients_of (last_sum es)
  pub accepted : Accepted variables (last_sum es)
  pub many : length (last_sum es) ≡ count

pub formed : (table : List ℤ) (ws : List ℕ) (cs : List ℤ) {count : ℕ} {r : Result ℕ Refused} → is_shape (length table) ≡ true → r ≡ Ok count
    → told r ≡ terms_told (judge_nodes [] table) → KeepsLast (judge_nodes [] table) ws cs → Formed table ws cs count
formed table ws cs {count} {r} shape is says keeps = go (judge_nodes [] table) refl
  where
    go : (j : Judged (List Entry)) → judge_nodes [] table ≡ j → Formed table ws cs count
    go (fails refusal p) e =
        let never : done count ≡ refused refusal p = sym (ap told is) ∙ says ∙ ap terms_told e in
        let z : ◌≡◌ {A = ℕ} 0 1 = cc in absurd (omega arith)
    go (good es) e =
        let done-so : done count ≡ done (length (last_sum es)) = sym (ap told is) ∙ says ∙ ap terms_told e in
        let many : length (last_sum es) ≡ count = cc in
        let three = (shape-says (length table) shape).three_each in
        let all = judge-says table (omega (arith, three)) e in
        let last : length es - 1 ≡ last_of table = omega (arith, passed_length all.passed, table-length all.ks, ap length all.table_is) in
        record {
          shape = shape;
          es = es;
          judged = e;
          words_are = ap₂ (λ (n m : ℕ). take n (part m ws)) (sym many) (sym last) ∙ keeps.words_are es e;
          coefficients_are = ap₂ (λ (n m : ℕ). take n (part m cs)) (sym many) (sym last) ∙ keeps.coefficients_are es e;
          accepted = last-accepted all.passed;
          many = many;
        }

module _ {table : List ℤ} {ws : List ℕ} {cs : List ℤ} {count : ℕ} (f : Formed table ws cs count) where
  abbrev start : ℕ
  start = most_terms * last_of table

  -- what the code lends of an area
  abbrev front : {A : Type 0} → List A → List A
  front xs = take (start + count - start) (drop start xs)

  pub in-work : most_terms * suc (last_of table) ≤ work_places
  in-work = let s = shape-says (length table) f.shape in omega (arith, s.few, s.some)

  pub in-part : count ≤ most_terms
  in-part = omega (arith, f.many, f.accepted.few)

  words_lent : front ws ≡ words_of (last_sum f.es)
  words_lent = lent-front (last_of table) count in-part ws ∙ f.words_are

  coefficients_lent : front cs ≡ coefficients_of (last_sum f.es)
  coefficients_lent = lent-front (last_of table) count in-part cs ∙ f.coefficients_are

  pub as-many : length (take (start + count - start) (drop start cs)) ≡ length (take (start + count - start) (drop start ws))
  as-many = ap length coefficients_lent ∙ length-map (last_sum f.es) _ ∙ sym (ap length words_lent ∙ length-map (last_sum f.es) _)

  pub valid : EachValid (take (start + count - start) (drop start ws))
  valid = subst EachValid (sym words_lent) (each-valid (holds (accepted-holdable f.accepted)))

  last-held : terms (front ws) (front cs) ≡ last_sum f.es
  last-held = ap₂ terms words_lent coefficients_lent ∙ spells (accepted-holdable f.accepted)

  module _ (area : List ℕ) (room : most_bytes variables ≤ length area) where
    pub has_room : 0 + length (packed (terms (take (start + count - start) (drop start ws)) (take (start + count - start) (drop start cs)))) ≤ length area
    has_room = result_room (last_sum f.es) (start + count - start) (drop start ws) (drop start cs) area last-held f.accepted room

    pub all-written : {n : ℕ} {area' : List ℕ} → n ≡ 0 + length (packed (terms (take (start + count - start) (drop start ws)) (take (start + count - start) (drop start cs))))
        → area' ≡ sets area 0 (packed (terms (take (start + count - start) (drop start ws)) (take (start + count - start) (drop start cs)))) → outcome (done n) area' ≡ packed_into (table_sum table) area
    unfolding and_then
    all-written there now =
        result-written (last_sum f.es) (start + count - start) (drop start ws) (drop start cs) area last-held f.accepted room there now ∙ by-nodes table area f.shape f.judged
