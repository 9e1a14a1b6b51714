-- What becomes of the text once the packed sum was read: the fault that was met, or the text of the sum that two arrays hold.
use mathlib.Core.Path.{◌≡◌, sym, ◌∙◌, ap, ap₂, subst}
use mathlib.Core.List.{List}
use Prim.Native.Nat.{ℕ, ◌≤◌}
use native.Mathlib.Omega.{arith}
use lib.IntN.{ℤ}
use lib.ListN.{length, take}
use Rattle.algebra.specs.Limits.{variables}
use Rattle.algebra.specs.Sum.{Sum}
use Rattle.algebra.specs.Word.{terms, EachValid}
use Rattle.answers.specs.Answers.{Told, Told.done, outcome}
use Rattle.answers.specs.Areas.{written}
use Rattle.packed.proofs.Results.{Handed, Whole}
use Rattle.sums.proofs.First.{first-written, first-is, first-valid}
use Rattle.spelling.specs.Spelling.{sum_text}
use Rattle.spelling.specs.WriteText.{text_places, write_text}
use Rattle.spelling.specs.Promised.{WriteTextRefuses.at_sum}
use Rattle.spelling.proofs.Widths.{text-fits}
use Rattle.spelling.proofs.Written.{refuses-write-text, of-sum}

-- two slices hold the sum, and its text is what is to be written
pub record Taken (bytes area : List ℕ) (ws : List ℕ) (cs : List ℤ) : Type 0 where
  pub sum : Sum
  pub valid : EachValid ws
  pub terms_are : terms ws cs ≡ sum
  pub fits : length (sum_text (terms ws cs)) ≤ length area
  pub says : write_text bytes area ≡ outcome (done (length (sum_text sum))) (written (sum_text sum) area)

module _ (bytes area : List ℕ) (room : text_places ≤ length area) where
  pub text-handed : {t : Told} → Handed bytes t → outcome t area ≡ write_text bytes area
  text-handed h = ap (λ (t : Told). outcome t area) h.says ∙ sym (refuses-write-text bytes area (at_sum room h.fault))

  -- they are the first places of two arrays
  pub taken : (ws₀ : List ℕ) (cs₀ : List ℤ) {ws : List ℕ} {cs : List ℤ} {n : ℕ} → Whole bytes ws₀ cs₀ ws cs n
      → {ws' : List ℕ} {cs' : List ℤ} → ws' ≡ take n ws → cs' ≡ take n cs → Taken bytes area ws' cs'
  taken ws₀ cs₀ w words coefficients =
      let f = first-written ws₀ cs₀ w.words_are w.coefficients_are w.many w.of_bytes.accepted in
      let is = ap₂ terms words coefficients ∙ first-is f in
      record {
        sum = w.sum;
        valid = subst (λ (l : List ℕ). EachValid l) (sym words) (first-valid f);
        terms_are = is;
        fits = rw is (omega (arith, text-fits variables (omega arith) w.sum w.of_bytes.accepted));
        says = of-sum bytes area room w.of_bytes;
      }

pub text-done : {bytes area : List ℕ} {ws : List ℕ} {cs : List ℤ} → Taken bytes area ws cs → {k : ℕ} {area' : List ℕ}
    → k ≡ length (sum_text (terms ws cs)) → area' ≡ written (sum_text (terms ws cs)) area → outcome (done k) area' ≡ write_text bytes area
text-done {area = area} t there now =
    ap₂ (λ (m : ℕ) (l : List ℕ). outcome (done m) l) there now ∙ ap (λ (s : Sum). outcome (done (length (sum_text s))) (written (sum_text s) area)) t.terms_are ∙ sym t.says
