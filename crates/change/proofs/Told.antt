-- What is told of a sum that was judged: it is good, and stands in the first places of two areas, or it is refused.
use mathlib.Core.Path.{◌≡◌, refl, sym, ◌∙◌, ap}
use mathlib.Core.List.{List}
use Prim.Native.Nat.{ℕ}
use lib.IntN.{ℤ}
use lib.ListN.{length, take, length-map}
use Rattle.algebra.specs.Sum.{Sum}
use Rattle.algebra.specs.Held.{words_of, coefficients_of}
use Rattle.answers.specs.Answers.{Told.done, Told.refused, outcome}
use Rattle.answers.specs.Judge.{Judged, Judged.good, Judged.fails, and_then}
use Rattle.answers.proofs.Judging.{good-fails, refused-done}
use Rattle.answers.proofs.Writes.{written-front}
use Rattle.packed.specs.Result.{held_into}
use Rattle.change.specs.Inside.Kept.{HoldsGood}

-- a sum of n terms was judged good, and stands there
pub record ToldAt (judged : Judged Sum) (ws : List ℕ) (cs : List ℤ) (n : ℕ) : Type 0 where
  pub sum : Sum
  pub is_good : judged ≡ good sum
  pub many : length sum ≡ n
  pub words_are : take n ws ≡ words_of sum
  pub coefficients_are : take n cs ≡ coefficients_of sum

pub stands-good : {judged : Judged Sum} {ws : List ℕ} {cs : List ℤ} {n : ℕ} → ToldAt judged ws cs n → HoldsGood judged (done n) ws cs
stands-good {judged} s =
    let only : (t : Sum) → judged ≡ good t → s.sum ≡ t = λ t e. let both : good s.sum ≡ good t = sym s.is_good ∙ e in cc in
    record {
      says = rw (s.is_good, s.many) refl;
      words_are = λ t e. rw (← only t e, s.many) s.words_are;
      coefficients_are = λ t e. rw (← only t e, s.many) s.coefficients_are;
    }

-- ---- What the code answers, having held the sum in two areas.

pub done-stands : (judged : Judged Sum) (ws₀ : List ℕ) (cs₀ : List ℤ) {ws : List ℕ} {cs : List ℤ} {n : ℕ} → outcome (done n) (ws, cs) ≡ held_into judged ws₀ cs₀ → ToldAt judged ws cs n
unfolding held_into
done-stands (fails refusal place) ws₀ cs₀ e = absurd (refused-done (sym (ap (λ o. o.answer) e)))
done-stands (good s) ws₀ cs₀ {n = n} e =
    let so : done n ≡ done (length s) = ap (λ o. o.answer) e in
    let many : length s ≡ n = cc in
    record {
      sum = s;
      is_good = refl;
      many = many;
      words_are = (written-front (words_of s) ws₀ (ap (λ o. o.areas.0) e) (length-map s _ ∙ many)).0;
      coefficients_are = (written-front (coefficients_of s) cs₀ (ap (λ o. o.areas.1) e) (length-map s _ ∙ many)).0;
    }

-- what would have followed is not asked, and any areas will do
pub refused-so : (judged : Judged Sum) (f : Sum → Judged Sum) {areas : List ℕ × List ℤ} (ws₀ : List ℕ) (cs₀ : List ℤ) {refusal place : ℕ}
    → outcome (refused refusal place) areas ≡ held_into judged ws₀ cs₀ → (ws : List ℕ) (cs : List ℤ) → HoldsGood (and_then judged f) (refused refusal place) ws cs
unfolding held_into and_then
refused-so (good s) f ws₀ cs₀ e ws cs = absurd (refused-done (ap (λ o. o.answer) e))
refused-so (fails refusal place) f ws₀ cs₀ e ws cs =
    record { says = ap (λ o. o.answer) e; words_are = λ s g. absurd (good-fails (sym g)); coefficients_are = λ s g. absurd (good-fails (sym g)) }
