-- Terms with their signs, as the machine tests them. (Both it and its callers hold a coefficient in 64 bits.)
use mathlib.Core.Path.{◌≡◌, sym, ◌∙◌, ap, ap₂}
use mathlib.Core.Bool.{true, false}
use mathlib.Core.List.{List, ◌∷◌, ◌++◌}
use Prim.Native.Nat.{ℕ, suc}
use lib.IntN.{ℤ, pos, nat_abs}
use lib.ListN.{length}
use lib.Signed.{le_z}
use mir.Syntax.{w64}
use mir.Val.{SFits}
use mir.ValLaws.{to_z-of_z}
use Rattle.algebra.specs.Pattern.{Pattern}
use Rattle.algebra.specs.Sum.{term}
use Rattle.numbers.proofs.Signs.{held, at-pos, at-neg}
use Rattle.text.specs.Signs.{plus_sign, minus_sign}
use Rattle.spelling.specs.Spelling.{powers, factors_text, term_text, first_sign, next_sign, first_text, next_text}

module _ (z : ℤ) (f : SFits w64 z) where
  -- ---- Before a term that is not the first.

  pub sign-up : le_z (pos 0) (held z) ≡ true → plus_sign ≡ next_sign z
  unfolding next_sign
  sign-up t = rw (at-pos z f t).is

  pub sign-down : le_z (pos 0) (held z) ≡ false → minus_sign ≡ next_sign z
  unfolding next_sign
  sign-down t = rw (at-neg z f t).is

  -- ---- A term, by its absolute coefficient.

  module _ (p : Pattern) {size : ℕ} (e : size ≡ nat_abs (held z)) where
    unsigned : term_text (term z p) ≡ factors_text size (powers 0 p)
    unfolding term_text
    unsigned = ap (λ (n : ℕ). factors_text n (powers 0 p)) (sym (e ∙ ap nat_abs (to_z-of_z w64 z f)))

    pub first-up : le_z (pos 0) (held z) ≡ true → first_text (term z p) ≡ factors_text size (powers 0 p)
    unfolding first_text first_sign
    first-up t = ap (λ c. first_sign c ++ term_text (term z p)) (at-pos z f t).is ∙ unsigned

    pub first-down : le_z (pos 0) (held z) ≡ false → first_text (term z p) ≡ minus_sign ∷ factors_text size (powers 0 p)
    unfolding first_text first_sign
    first-down t = ap (λ c. first_sign c ++ term_text (term z p)) (at-neg z f t).is ∙ ap (λ (l : List ℕ). minus_sign ∷ l) unsigned

    pub next-length : length (next_text (term z p)) ≡ suc (length (factors_text size (powers 0 p)))
    unfolding next_text
    next-length = ap (λ (l : List ℕ). suc (length l)) unsigned

    pub next_is : {sign : ℕ} → sign ≡ next_sign (held z) → next_text (term z p) ≡ sign ∷ factors_text size (powers 0 p)
    unfolding next_text
    next_is is = ap₂ ◌∷◌ (sym (is ∙ ap next_sign (to_z-of_z w64 z f))) unsigned
