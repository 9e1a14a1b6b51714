-- Parts of an area: one that is lent and comes back, and those before it, which stay.
use mathlib.Core.Path.{◌≡◌, refl, sym, ◌∙◌, ap}
use mathlib.Core.List.{List, [], ◌∷◌, ◌++◌}
use Prim.Native.Nat.{ℕ, zero, suc, ◌+◌, ◌*◌, ◌-◌, ◌≤◌, ◌<◌}
use native.Mathlib.Omega.{arith}
use lib.ListN.{length, take, drop, length-drop}
use lib.Seq.{take_at, take-take, drop_at, drop-drop, length-take-le}
use borrow.Rule.Slice.PartMut.{mid_of, put_mid, take_put}
use Rattle.algebra.specs.Limits.{most_terms}
use Rattle.sums.specs.Part.{part}

-- the length of the slice that is lent for node i, as the code computes it
abbrev pub span : ℕ → ℕ
span i = most_terms * i + most_terms - most_terms * i

span-is : (i : ℕ) → span i ≡ most_terms
span-is i = omega arith

module _ {A : Type 0} (i : ℕ) where
  -- the slice that is lent
  pub lent : (xs : List A) → mid_of (most_terms * i) (span i) xs ≡ part i xs
  lent xs = ap (λ (m : ℕ). mid_of (most_terms * i) m xs) (span-is i)

  -- a slice of its first n places, as the code computes its length
  pub lent-front : (n : ℕ) → n ≤ most_terms → (xs : List A) → take (most_terms * i + n - most_terms * i) (drop (most_terms * i) xs) ≡ take n (part i xs)
  lent-front n few xs =
      let many : most_terms * i + n - most_terms * i ≡ n = omega arith in
      ap (λ (m : ℕ). take m (drop (most_terms * i) xs)) many ∙ sym (take-take n most_terms (drop (most_terms * i) xs) few)

  module _ (xs : List A) (room : most_terms * suc i ≤ length xs) where
    pub part_length : length (part i xs) ≡ most_terms
    part_length = length-take-le most_terms (drop (most_terms * i) xs) (simp length-drop (omega arith))

    pub lent_length : most_terms ≤ length (mid_of (most_terms * i) (span i) xs)
    lent_length = omega (arith, ap length (lent xs), part_length)

    -- and its elements when it is back
    module _ (ys : List A) (same : length ys ≡ most_terms) where
      past : drop (most_terms * i) (put_mid (most_terms * i) (span i) xs ys) ≡ ys ++ drop (span i) (drop (most_terms * i) xs)
      past = drop_at (take (most_terms * i) xs) (ys ++ drop (span i) (drop (most_terms * i) xs)) (most_terms * i) (length-take-le (most_terms * i) xs (omega arith))

      pub part-put : part i (put_mid (most_terms * i) (span i) xs ys) ≡ ys
      part-put = ap (take most_terms) past ∙ take_at ys (drop (span i) (drop (most_terms * i) xs)) most_terms same

      pub before-put : take (most_terms * i) (put_mid (most_terms * i) (span i) xs ys) ≡ take (most_terms * i) xs
      before-put = take_put (most_terms * i) (span i) xs ys (omega arith)

      pub after-put : drop (most_terms * suc i) (put_mid (most_terms * i) (span i) xs ys) ≡ drop (most_terms * suc i) xs
      after-put =
          let place : most_terms * suc i ≡ most_terms * i + most_terms = omega arith in
          ap (λ (m : ℕ). drop m (put_mid (most_terms * i) (span i) xs ys)) place
          ∙ sym (drop-drop most_terms (most_terms * i) (put_mid (most_terms * i) (span i) xs ys))
          ∙ ap (drop most_terms) past
          ∙ drop_at ys (drop (span i) (drop (most_terms * i) xs)) most_terms same
          ∙ ap (λ (m : ℕ). drop m (drop (most_terms * i) xs)) (span-is i)
          ∙ drop-drop most_terms (most_terms * i) xs
          ∙ ap (λ (m : ℕ). drop m xs) (sym place)

-- ---- What stays before a place keeps its parts.

-- a part that ends before place n is a part of the first n places
cut : {A : Type 0} (m a n : ℕ) (xs : List A) → a + m ≤ n → take m (drop a (take n xs)) ≡ take m (drop a xs)
cut m zero n xs h = take-take m n xs (omega arith)
cut m (suc a) zero xs h = absurd (omega arith)
cut m (suc a) (suc n) [] h = refl
cut m (suc a) (suc n) (x ∷ xs) h = cut m a n xs (omega arith)

within : {i j : ℕ} → j < i → most_terms * j + most_terms ≤ most_terms * i
within h = omega arith

pub part-before : {A : Type 0} (i j : ℕ) (xs ys : List A) → j < i → take (most_terms * i) xs ≡ take (most_terms * i) ys → part j xs ≡ part j ys
part-before i j xs ys h e =
    sym (cut most_terms (most_terms * j) (most_terms * i) xs (within h)) ∙ ap (part j) e ∙ cut most_terms (most_terms * j) (most_terms * i) ys (within h)

-- ---- What stays after a place stays after a further one.

pub drop-further : {A : Type 0} (m n : ℕ) (xs ys : List A) → m ≤ n → drop m xs ≡ drop m ys → drop n xs ≡ drop n ys
drop-further m n xs ys h e =
    let place : m + (n - m) ≡ n = omega arith in
    rw place at (sym (drop-drop (n - m) m xs) ∙ ap (drop (n - m)) e ∙ drop-drop (n - m) m ys)
