-- The numbers of a text: when one takes a digit more, what is read then, and how far it reaches.
use mathlib.Core.Path.{◌≡◌, refl, sym}
use mathlib.Core.Bool.{true, false, ◌&&◌, and-false}
use mathlib.Core.List.{List, [], ◌∷◌}
use Prim.Native.Nat.{ℕ, ◌+◌, ◌-◌, ◌*◌, ◌≤◌, ◌<◌}
use native.Mathlib.Omega.{arith}
use lib.Dec.{T, leb, leb→le}
use lib.ListN.{length, drop, length-drop}
use borrow.Author.Tests.{le-leb}
use lib.Ieee.Fits.{and_l, and_r}
use lib.Ieee.Bits.{is_true}
use Rattle.text.specs.Signs.{zero_digit, is_digit}
use Rattle.text.specs.Reader.{byte_at, takes, more_digits, digits_at}
use Rattle.text.proofs.Byte.{decide, passes-inside, from_byte, first_byte, digit-from, digit-to}

-- ---- Whether a number takes a digit more.

module _ (top v b : ℕ) where
  pub only-digits : is_digit b ≡ false → false ≡ takes top v b
  unfolding takes
  only-digits e = rw e (sym (and-false (leb 1 v)))

  -- ---- What it says that b is taken.

  pub record Takes : Type 0 where
    pub some : 1 ≤ v
    pub digit : is_digit b ≡ true
    pub within : v * 10 + (b - zero_digit) ≤ top

  pub takes-says : takes top v b ≡ true → Takes
  unfolding takes
  takes-says e =
      let t : T (leb 1 v && (is_digit b && leb (v * 10 + (b - zero_digit)) top)) = rw e tt in
      record {
        some = leb→le 1 v (search and_l);
        digit = is_true (is_digit b) (search (and_l, and_r));
        within = leb→le (v * 10 + (b - zero_digit)) top (search and_r);
      }

  pub takes-is : Takes → takes top v b ≡ true
  unfolding takes
  takes-is t = rw (le-leb 1 v t.some, t.digit, le-leb (v * 10 + (b - zero_digit)) top t.within)

-- ---- The digits from a place on.

module _ (top : ℕ) (s : List ℕ) (v next : ℕ) where
  pub more-takes : takes top v (byte_at s next) ≡ true
      → more_digits top v next (drop next s) ≡ more_digits top (v * 10 + (byte_at s next - zero_digit)) (next + 1) (drop (next + 1) s)
  unfolding more_digits
  more-takes t =
      let b : ℕ = byte_at s next in
      let some = digit-from b (takes-says top v b t).digit in
      rw (from_byte s next b refl (omega arith), t)

  stops : (bytes : List ℕ) → takes top v (byte_at bytes 0) ≡ false → more_digits top v next bytes ≡ record { value = v; next = next }
  unfolding more_digits
  stops [] t = refl
  stops (b ∷ rest) t = rw t

  pub more-stops : takes top v (byte_at s next) ≡ false → more_digits top v next (drop next s) ≡ record { value = v; next = next }
  more-stops t = stops (drop next s) (rw (first_byte s next) t)

-- ---- How far a number reaches.

-- the number at a place is v, and `next` is the place after it
abbrev pub Number : ℕ → List ℕ → ℕ → ℕ → ℕ → Type 0
Number top s at v next = (v ≡ (digits_at top s at).value) × (next ≡ (digits_at top s at).next)

pub digit-inside : (s : List ℕ) (i : ℕ) → is_digit (byte_at s i) ≡ true → i < length s
unfolding is_digit
digit-inside s i d = passes-inside is_digit refl s i d

-- it is at most `top`, and the place after it lies between the two
pub record Reaches (top from to v next : ℕ) : Type 0 where
  pub small : v ≤ top
  pub ahead : from ≤ next
  pub within : next ≤ to

module _ (top : ℕ) where
  more-reaches : (most v next : ℕ) (bytes : List ℕ) → top ≤ most → v ≤ most
      → let n = more_digits top v next bytes in Reaches most next (next + length bytes) n.value n.next
  unfolding more_digits
  more-reaches most v next [] h k = record { small = k; ahead = omega arith; within = omega arith }
  more-reaches most v next (b ∷ rest) h k =
      decide (takes top v b)
      (λ e. let t = takes-says top v b e in
      let r = more-reaches most (v * 10 + (b - zero_digit)) (next + 1) rest h (omega arith) in
      rw e (record { small = r.small; ahead = omega arith; within = omega arith }))
      (λ e. rw e (record { small = k; ahead = omega arith; within = omega arith }))

  pub more-ahead : (v next : ℕ) (bytes : List ℕ) → next ≤ (more_digits top v next bytes).next
  more-ahead v next bytes = (more-reaches (top + v) v next bytes (omega arith) (omega arith)).ahead

  pub digits-ahead : (s : List ℕ) (i : ℕ) → i < (digits_at top s i).next
  unfolding digits_at
  digits-ahead s i = omega (arith, more-ahead (byte_at s i - zero_digit) (i + 1) (drop (i + 1) s))

  pub digits-reach : (s : List ℕ) (at : ℕ) {v next : ℕ} → Number top s at v next → is_digit (byte_at s at) ≡ true → 9 ≤ top
      → Reaches top (at + 1) (length s) v next
  unfolding digits_at
  digits-reach s at e d h =
      let l = digit-inside s at d in
      let r = more-reaches top (byte_at s at - zero_digit) (at + 1) (drop (at + 1) s) (omega arith) (omega (arith, digit-to (byte_at s at) d)) in
      rw (e.0, e.1) (record { small = r.small; ahead = r.ahead; within = omega (arith, length-drop (at + 1) s) })
