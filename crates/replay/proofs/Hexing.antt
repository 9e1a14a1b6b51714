-- Numbers in hex digits.
use mathlib.Core.Path.{◌≡◌, refl, sym, ap, ◌∙◌}
use mathlib.Core.List.{List, [], ◌∷◌, ◌++◌}
use Prim.Native.Nat.{ℕ, zero, suc, ◌+◌, ◌*◌, ◌-◌, ◌/◌, ◌%◌, ◌^◌, ◌≤◌, ◌<◌, min, max}
use native.Mathlib.Numerals.{add-one}
use native.Mathlib.Decide.{dec_lt}
use native.Mathlib.Nat.{mul-suc, pow-succ', pow-le-pow_right}
use native.Mathlib.Omega.{arith}
use lib.ListN.{length, get_or, take, length-append}
use lib.Seq.{sets, length-take-le}
use Rattle.std.proofs.lemmas.List.{take_more, append-nil}
use Rattle.std.proofs.lemmas.Grind.{flat_map-append}
use Rattle.numbers.proofs.Writing.{sets-append}
use Rattle.io.specs.Digits.{hex_digit_ascii, last_digits, IsDigitCount}
use Rattle.replay.specs.Hex.{hex_digits, in_hex}

-- one digit more of what is read
module _ (text : List ℕ) (i n d : ℕ) (inside : i < length text) (digit : d < 16) where
  pub digits-more : take i text ≡ hex_digits i n → get_or text i 0 ≡ hex_digit_ascii d → take (i + 1) text ≡ hex_digits (i + 1) (16 * n + d)
  unfolding hex_digits
  digits-more before is =
      let high : n ≡ (16 * n + d) / 16 = omega arith in
      let low : d ≡ (16 * n + d) % 16 = omega arith in
      let more : take (i + 1) text ≡ take i text ++ (hex_digit_ascii d ∷ []) = take_more text i 0 inside ∙ ap (λ (b : ℕ). take i text ++ (b ∷ [])) is in
      more ∙ ap (λ (l : List ℕ). l ++ (hex_digit_ascii d ∷ [])) before
      ∙ ap (λ (m : ℕ). hex_digits i m ++ (hex_digit_ascii d ∷ [])) high
      ∙ ap (λ (m : ℕ). hex_digits i ((16 * n + d) / 16) ++ (hex_digit_ascii m ∷ [])) low
      ∙ rw add-one refl

-- and the number that they make
pub bits-more : (n d i : ℕ) → i < 16 → n < 16 ^ i → d < 16 → (16 * n + d < 16 ^ (i + 1)) × (16 * n + d < 2 ^ 64)
bits-more n d i inside small digit =
    let next : i + 1 ≡ suc i = omega arith in
    let more : 16 ^ suc i ≡ 16 * 16 ^ i = pow-succ' 16 i in
    let short : suc i ≤ 16 = omega arith in
    let top : 16 ^ suc i ≤ 16 ^ 16 = pow-le-pow_right (omega arith) short in
    let here : 16 * n + d < 16 ^ suc i = omega (arith, more, small, digit) in
    (rw next here, omega (arith, here, top))

-- ---- One number, in as many digits as it takes.

digits-length : (base k n : ℕ) → length (last_digits base k n) ≡ k
digits-length base zero n = refl
digits-length base (suc k) n =
    omega (arith, length-append (last_digits base k (n / base)) (hex_digit_ascii (n % base) ∷ []), digits-length base k (n / base))

hex_digits-length : (k n : ℕ) → length (hex_digits k n) ≡ k
unfolding hex_digits
hex_digits-length k n = digits-length 16 k n

-- no more than are enough for it
few-digits : (base least n k top : ℕ) → IsDigitCount base least n k → 0 < base → least ≤ top → n < base ^ top → k ≤ top
few-digits base least n k top fewest some enough small = go (dec_lt top k)
  where
    go : Dec (top < k) → k ≤ top
    go (yes h) =
        let before : top ≤ k - 1 = omega arith in
        absurd (omega (arith, fewest.2 (omega arith), pow-le-pow_right some before))
    go (no h) = omega (arith, h)

-- a value takes as many digits as it is asked for, as there are enough
pub exact-digits : (n k least : ℕ) → IsDigitCount 16 (min (max least 1) 16) n k → 1 ≤ least → least ≤ 16 → n < 16 ^ least → k ≡ least
exact-digits n k least count some most small =
    let asked : min (max least 1) 16 ≡ least = omega arith in
    let exact : IsDigitCount 16 least n k = rw asked at count in
    omega (arith, few-digits 16 least n k least exact (omega arith) (omega arith) small, exact.0)

pub value-digits : (n k least at : ℕ) (text area₀ : List ℕ) {area : List ℕ} {r : ℕ} → k ≡ least → take k text ≡ last_digits 16 k n → r ≡ at + length (take k text)
    → area ≡ sets area₀ at (take k text) → (r ≡ at + least) × (area ≡ sets area₀ at (hex_digits least n))
unfolding hex_digits
value-digits n k least at text area₀ same is there now =
    let digits : take k text ≡ last_digits 16 least n = is ∙ ap (λ (m : ℕ). last_digits 16 m n) same in
    (there ∙ ap (λ (m : ℕ). at + m) (ap (length {A = ℕ}) digits ∙ digits-length 16 least n), now ∙ ap (sets area₀ at) digits)

-- ---- One value after the other.

module _ {A : Type 0} (k : ℕ) (bits : A → ℕ) where
  pub hex-length : (vs : List A) → length (in_hex k bits vs) ≡ k * length vs
  hex-length [] = omega arith
  hex-length (v ∷ vs) = omega (arith, length-append (hex_digits k (bits v)) (in_hex k bits vs), hex_digits-length k (bits v), hex-length vs, mul-suc k (length vs))

  -- those before place i, and the one that stands there
  pub hex-more : (vs : List A) (i : ℕ) (v : A) → i < length vs → v ≡ get_or vs i v → in_hex k bits (take (i + 1) vs) ≡ in_hex k bits (take i vs) ++ hex_digits k (bits v)
  hex-more vs i v inside is =
      ap (in_hex k bits) (take_more vs i v inside ∙ ap (λ (w : A). take i vs ++ (w ∷ [])) (sym is))
      ∙ flat_map-append (λ (w : A). hex_digits k (bits w)) (take i vs) (v ∷ [])
      ∙ ap (λ (l : List ℕ). in_hex k bits (take i vs) ++ l) (append-nil (hex_digits k (bits v)))

  -- one value more was written behind the others
  pub hex-step : (vs : List A) (i : ℕ) (v : A) → i < length vs → v ≡ get_or vs i v → (area₀ : List ℕ) (at : ℕ) {place place' : ℕ} {area area' : List ℕ} → place ≡ at + k * i
      → area ≡ sets area₀ at (in_hex k bits (take i vs)) → place' ≡ place + k → area' ≡ sets area place (hex_digits k (bits v))
      → (place' ≡ at + k * (i + 1)) × (area' ≡ sets area₀ at (in_hex k bits (take (i + 1) vs)))
  hex-step vs i v inside is area₀ at {place} {place'} {area} {area'} there stands after now =
      let digits = hex_digits k (bits v) in
      let before = in_hex k bits (take i vs) in
      let many : length before ≡ k * i = hex-length (take i vs) ∙ ap (λ (n : ℕ). k * n) (length-take-le i vs (omega arith)) in
      let ends : place ≡ at + length before = omega (arith, there, many) in (
        rw add-one (omega (arith, after, there, mul-suc k i)),
        now ∙ ap (λ (a : List ℕ). sets a place digits) stands ∙ ap (λ (n : ℕ). sets (sets area₀ at before) n digits) ends
            ∙ sets-append area₀ at before digits ∙ ap (sets area₀ at) (sym (hex-more vs i v inside is)),
      )
