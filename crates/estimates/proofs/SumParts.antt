-- What the loops keep that add terms up: what is kept of the terms so far.
use mathlib.Core.Path.{◌≡◌, refl, sym, ◌∙◌, ap, ap₂}
use mathlib.Core.List.{List, [], ◌∷◌, ◌++◌}
use Prim.Native.Nat.{ℕ, ◌+◌, ◌*◌, ◌≤◌, ◌<◌}
use native.Mathlib.Omega.{arith}
use native.Mathlib.Numerals.{add-one}
use lib.IntN.{ℤ, pos, nat_abs, ◌+ℤ◌, ◌*ℤ◌, +ℤ_idr}
use lib.ListN.{length, get_or, take, drop, take-append-drop}
use lib.Seq.{take-suc, take_all, length-take-le}
use mir.Syntax.{w64}
use mir.Val.{SFits}
use Rattle.algebra.specs.Limits.{largest_weight}
use Rattle.algebra.specs.Pattern.{Pattern}
use Rattle.algebra.specs.Sum.{term}
use Rattle.algebra.specs.Word.{exponents, terms_by, terms}
use Rattle.algebra.specs.Held.{first_terms}
use Rattle.algebra.specs.Value.{pattern_value, total, value}
use Rattle.algebra.specs.Margin.{pattern_size, size, unsigned}
use Rattle.algebra.proofs.Numbers.Absolute.{abs-add}
use Rattle.algebra.proofs.Patterns.Held.{held-append}
use Rattle.algebra.proofs.Sums.Margins.{size-append, term-abs}
use Rattle.algebra.proofs.Sums.Values.{append-value, cons-value}
use Rattle.answers.proofs.Signed.{fits-abs}
use Rattle.estimates.specs.declared.factors.Both.{Both}
use Rattle.estimates.specs.declared.valuing.Parts.{Parts}
use Rattle.estimates.specs.Inside.Held.{Holds}
use Rattle.estimates.specs.Inside.Parts.{Keeps, Allowed, Added}

-- ---- A term more.

module _ (kept : Parts) (a : Allowed kept) (term : Both) where
  module _ (near : kept.most + term.most ≤ largest_weight) where
    -- the product at the readings is no larger than the raised one
    pub within : nat_abs term.value ≤ term.most
    within = term.sound (omega arith)

    pub estimate-fits : SFits w64 (kept.estimate +ℤ term.value)
    estimate-fits = fits-abs (kept.estimate +ℤ term.value) (omega (arith, abs-add kept.estimate term.value, a.estimate_within, a.plain_within, within))

  -- what is kept stays within, as long as it is allowed
  pub still : {kept' : Parts} → Added kept term kept' → kept'.most ≤ largest_weight → Allowed kept'
  still more near =
      let in_all : kept.most + term.most ≤ largest_weight = omega (arith, more.most_is) in
      record {
        most_allowed = near;
        plain_within = omega (arith, more.most_is, more.plain_is near, a.plain_within, within in_all);
        estimate_within = omega (arith, ap nat_abs (more.estimate_is near), abs-add kept.estimate term.value, more.plain_is near, a.estimate_within);
      }

pub nothing-allowed : Allowed (record { most = 0; estimate = pos 0; plain = 0 })
nothing-allowed = record { most_allowed = omega arith; plain_within = omega arith; estimate_within = omega arith }

-- ---- The terms so far: exact.

pub record Adding (ws : List ℕ) (cs : List ℤ) (x : List ℤ) (y : List ℕ) (kept : Parts) (k : ℕ) : Type 0 where
  pub most_is : kept.most ≡ size (first_terms k ws cs) y
  pub estimate_is : kept.estimate ≡ value (first_terms k ws cs) x
  pub plain_is : kept.plain ≡ size (first_terms k ws cs) (unsigned x)
  pub as_many : length cs ≡ length ws
  pub inside : k ≤ length ws

pub start : {ws : List ℕ} {cs x : List ℤ} {y : List ℕ} → length cs ≡ length ws → Adding ws cs x y (record { most = 0; estimate = pos 0; plain = 0 }) 0
unfolding terms terms_by size value total
start as_many = record {
  most_is = refl;
  estimate_is = refl;
  plain_is = refl;
  as_many = as_many;
  inside = omega arith;
}

one_more : {A : Type 0} (l : List A) (k : ℕ) (d : A) → k < length l → take (k + 1) l ≡ take k l ++ (get_or l k d ∷ [])
one_more l k d h = rw add-one (take-suc l k d h)

module _ {ws : List ℕ} {cs x : List ℤ} {y : List ℕ} {kept : Parts} {k : ℕ} (a : Adding ws cs x y kept k) where
  module _ (h : k < length ws) where
    abbrev c : ℤ
    c = get_or cs k (pos 0)

    abbrev p : Pattern
    p = exponents (get_or ws k 0)

    -- one term more, at the end
    next : first_terms (k + 1) ws cs ≡ first_terms k ws cs ++ (term c p ∷ [])
    unfolding terms terms_by
    next =
        let here : k < length cs = omega (arith, a.as_many) in
        ap₂ terms (one_more ws k 0 h) (one_more cs k (pos 0) here)
        ∙ held-append exponents (take k ws) (take k cs) (get_or ws k 0 ∷ []) (get_or cs k (pos 0) ∷ [])
        (length-take-le k ws (omega arith) ∙ sym (length-take-le k cs (omega arith)))

    size-more : (y : List ℕ) → size (first_terms (k + 1) ws cs) y ≡ size (first_terms k ws cs) y + nat_abs c * pattern_size p y
    unfolding size
    size-more y = ap (λ s. size s y) next ∙ size-append y (first_terms k ws cs) (term c p ∷ []) ∙ omega arith

    value-more : value (first_terms (k + 1) ws cs) x ≡ value (first_terms k ws cs) x +ℤ c *ℤ pattern_value p x
    unfolding value total
    value-more =
        ap (λ s. value s x) next ∙ append-value (first_terms k ws cs) (term c p ∷ []) x
        ∙ ap (λ z. value (first_terms k ws cs) x +ℤ z) (cons-value (term c p) [] x ∙ +ℤ_idr (c *ℤ pattern_value p x))

    split : terms ws cs ≡ first_terms (k + 1) ws cs ++ terms (drop (k + 1) ws) (drop (k + 1) cs)
    unfolding terms
    split =
        ap₂ terms (sym (take-append-drop (k + 1) ws)) (sym (take-append-drop (k + 1) cs))
        ∙ held-append exponents (take (k + 1) ws) (take (k + 1) cs) (drop (k + 1) ws) (drop (k + 1) cs)
        (length-take-le (k + 1) ws (omega arith) ∙ sym (length-take-le (k + 1) cs (omega (arith, a.as_many))))

    -- once the terms so far are too much, so are all
    all : size (first_terms (k + 1) ws cs) y ≤ size (terms ws cs) y
    all = omega (arith, ap (λ s. size s y) split, size-append y (first_terms (k + 1) ws cs) (terms (drop (k + 1) ws) (drop (k + 1) cs)))

    module _ (term' : Both) (here : Holds term'.most term'.value (nat_abs c * pattern_size p y) (c *ℤ pattern_value p x)) {kept' : Parts} (more : Added kept term' kept') where
      pub again : kept'.most ≤ largest_weight → Adding ws cs x y kept' (k + 1)
      again near =
          let low : nat_abs c * pattern_size p y ≤ largest_weight = omega (arith, more.most_is, here.most_is) in
          let is = here.product_is low in
          let most-more : kept'.most ≡ kept.most + nat_abs c * pattern_size p y = omega (arith, more.most_is, here.most_is) in
          let plain_more : kept'.plain ≡ kept.plain + nat_abs (c *ℤ pattern_value p x) = more.plain_is near ∙ ap (λ z. kept.plain + nat_abs z) is in
          record {
            most_is = omega (arith, most-more, a.most_is, size-more y);
            estimate_is = more.estimate_is near ∙ ap₂ (λ u v. u +ℤ v) a.estimate_is is ∙ sym value-more;
            plain_is = omega (arith, plain_more, term-abs (term c p) x, a.plain_is, size-more (unsigned x));
            as_many = a.as_many;
            inside = omega arith;
          }

      pub beyond : largest_weight < kept'.most → Keeps kept' (terms ws cs) x y
      beyond far = record {
        most_is = omega (arith, more.most_is, here.most_is, a.most_is, size-more y, all);
        estimate_is = λ low. absurd (omega arith);
        plain_is = λ low. absurd (omega arith);
      }

  pub ended : length ws ≤ k → Keeps kept (terms ws cs) x y
  ended h =
      let short : length cs ≤ k = omega (arith, a.as_many) in
      let all : first_terms k ws cs ≡ terms ws cs = ap₂ terms (take_all k ws h) (take_all k cs short) in
      record {
        most_is = omega (arith, a.most_is, ap (λ s. size s y) all);
        estimate_is = λ low. a.estimate_is ∙ ap (λ s. value s x) all;
        plain_is = λ low. a.plain_is ∙ ap (λ s. size s (unsigned x)) all;
      }
