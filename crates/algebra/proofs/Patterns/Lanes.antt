-- The degree of any word, by lanes of two fields: the lower field of each lane is masked out, the lanes add up, and the remainder adds the lanes up.
use mathlib.Core.Path.{◌≡◌, refl, sym, ◌∙◌, ap, ap₂}
use mathlib.Core.List.{[], ◌∷◌, map}
use Prim.Native.Nat.{ℕ, ◌+◌, ◌*◌, ◌^◌, ◌/◌, ◌%◌, ◌-◌, ◌≤◌, ◌<◌}
use native.Mathlib.Omega.{arith}
use native.Mathlib.Nat.{div-div-eq-div-mul}
use lib.Bits.{bit_and, and_zero_l, and_mask, and_block}
use lib.ListN.{length, length-map}
use Rattle.algebra.specs.Pattern.{Pattern, times, degree}
use Rattle.algebra.specs.Word.{word_of, fields_of, exponents}
use Rattle.algebra.proofs.Patterns.Laws.{degree-times}
use Rattle.algebra.proofs.Patterns.Fields.{Below, Below.none, Below.more, fields-below, fields-length, word_lt, word-fields-lt, place-bits, word-times, word-degree}

abbrev lane : ℕ
lane = 65536

-- the lower field of each lane
abbrev lower : Pattern → Pattern
lower p = map (λ (e : ℕ). e % 256) p

-- as many lanes, with all ones in the lower field
abbrev ones : Pattern → Pattern
ones p = map (λ (e : ℕ). 255) p

lower-below : (p : Pattern) → Below lane (lower p)
lower-below [] = none
lower-below (e ∷ p) = more {e = e % 256} (omega arith) (lower-below p)

ones_below : (p : Pattern) → Below lane (ones p)
ones_below [] = none
ones_below (e ∷ p) = more {e = 255} (omega arith) (ones_below p)

-- a mask of ones in the lower fields leaves them
masked : {p : Pattern} → Below lane p → bit_and (word_of lane p) (word_of lane (ones p)) ≡ word_of lane (lower p)
unfolding word_of
masked none = and_zero_l 0
masked (more {e} {p} h t) =
    let n = length p in
    let place : lane ^ n ≡ 2 ^ (16 * n) = place-bits 16 n in
    let r : word_of lane p < 2 ^ (16 * n) = rw (← place) (word_lt t) in
    let s : word_of lane (ones p) < 2 ^ (16 * n) = rw (← place, ← length-map {B = ℕ} p (λ (e : ℕ). 255)) (word_lt (ones_below p)) in
    rw (length-map {B = ℕ} p (λ (e : ℕ). 255), length-map p (λ (e : ℕ). e % 256), place, and_block (16 * n) e 255 (word_of lane p) (word_of lane (ones p)) r s, and_mask e 8, masked t)

-- the word that has ones in the lower fields of four lanes
abbrev pub mask : ℕ
mask = 71777214294589695

abbrev lanes : ℕ → Pattern
lanes w = fields_of lane 4 w

mask_is : (w : ℕ) → word_of lane (ones (lanes w)) ≡ mask
unfolding word_of fields_of
mask_is w = refl

lanes-masked : (w : ℕ) → w < 2 ^ 64 → bit_and w mask ≡ word_of lane (lower (lanes w))
lanes-masked w h =
    ap₂ bit_and (sym (word-fields-lt lane 4 w (omega arith) h)) (sym (mask_is w))
    ∙ masked (fields-below lane 4 w (omega arith))

-- the lower fields of a word's lanes, and those of the word a field lower, are all its fields
fields-are : (w : ℕ) → degree (lower (lanes w)) + degree (lower (lanes (w / 256))) ≡ degree (exponents w)
unfolding degree fields_of exponents
fields-are w = woven
    (higher w (lane ^ 3)) (cut (w / lane ^ 3)) (higher w (lane ^ 2)) (cut (w / lane ^ 2)) (higher w lane) (cut (w / lane)) (higher w 1) (cut (w / 1))
  where
    -- a lane has its lower field by one remainder
    cut : (x : ℕ) → x % lane % 256 ≡ x % 256
    cut x = omega arith

    -- and its upper field a field lower
    higher : (x m : ℕ) → x / 256 / m % lane % 256 ≡ x / (256 * m) % 256
    higher x m = cut (x / 256 / m) ∙ ap (λ (y : ℕ). y % 256) (div-div-eq-div-mul x 256 m)

    woven : {a b c d e f g h i j k l m n o p : ℕ} → a ≡ i → b ≡ j → c ≡ k → d ≡ l → e ≡ m → f ≡ n → g ≡ o → h ≡ p
        → (b + (d + (f + (h + 0)))) + (a + (c + (e + (g + 0)))) ≡ i + (j + (k + (l + (m + (n + (o + (p + 0)))))))
    woven q r s t u v w x = omega (arith, q, r, s, t, u, v, w, x)

lanes_small : (w : ℕ) → degree (lower (lanes w)) ≤ 1020
unfolding degree fields_of
lanes_small w = omega arith

pub lanes-degree : (w : ℕ) → w < 2 ^ 64 → (bit_and w mask + bit_and (w / 256) mask) % (lane - 1) ≡ degree (exponents w)
lanes-degree w h =
    let low = lower (lanes w) in
    let high = lower (lanes (w / 256)) in
    let alike : length low ≡ length high = length-map {B = ℕ} (lanes w) _ ∙ fields-length lane 4 w ∙ sym (length-map {B = ℕ} (lanes (w / 256)) _ ∙ fields-length lane 4 (w / 256)) in
    let all : degree (times low high) ≡ degree (exponents w) = degree-times low high ∙ fields-are w in
    ap₂ (λ (m n : ℕ). (m + n) % (lane - 1)) (lanes-masked w h) (lanes-masked (w / 256) (omega arith))
    ∙ ap (λ (m : ℕ). m % (lane - 1)) (sym (word-times lane low high alike))
    ∙ word-degree (lane - 1) (times low high) (omega (arith, all, fields-are w, lanes_small w, lanes_small (w / 256)))
    ∙ all
