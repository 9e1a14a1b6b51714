-- What the loop of `read_number` keeps: the number so far, with what is left of it, is the whole.
use mathlib.Core.Path.{◌≡◌, sym, ◌∙◌, ap}
use mathlib.Core.Bool.{true, false}
use mathlib.Core.List.{List}
use Prim.Native.Nat.{ℕ, ◌+◌, ◌-◌, ◌*◌, ◌≤◌, ◌<◌}
use native.Mathlib.Omega.{arith}
use lib.ListN.{length, drop}
use Rattle.text.specs.Signs.{zero_digit, is_digit}
use Rattle.text.specs.Reader.{Digits, byte_at, takes, more_digits, digits_at}
use Rattle.text.proofs.Byte.{digit-from, digit-to}
use Rattle.text.proofs.Digits.{Number, takes-says, more-takes, more-stops, digit-inside}

pub record Reading (top : ℕ) (s : List ℕ) (at v next : ℕ) : Type 0 where
  pub whole : more_digits top v next (drop next s) ≡ digits_at top s at
  pub small : v ≤ top
  pub within : next ≤ length s

-- the byte at a place is taken
pub record Taken (top : ℕ) (s : List ℕ) (v next : ℕ) : Type 0 where
  pub takes_it : takes top v (byte_at s next) ≡ true
  pub least : zero_digit ≤ byte_at s next
  pub small : v * 10 + (byte_at s next - zero_digit) ≤ top
  pub within : next < length s

module _ (top : ℕ) (s : List ℕ) where
  pub taken : {v next : ℕ} → takes top v (byte_at s next) ≡ true → Taken top s v next
  taken {v} {next} t =
      let p = takes-says top v (byte_at s next) t in
      record { takes_it = t; least = digit-from (byte_at s next) p.digit; small = p.within; within = digit-inside s next p.digit }

  module _ (at : ℕ) where
    pub start : {v : ℕ} → v ≡ byte_at s at - zero_digit → is_digit (byte_at s at) ≡ true → 9 ≤ top → Reading top s at v (at + 1)
    unfolding digits_at
    start e d h = record {
      whole = rw e;
      small = omega (arith, digit-to (byte_at s at) d);
      within = omega (arith, digit-inside s at d);
    }

    module _ {v next : ℕ} (r : Reading top s at v next) where
      pub again : {b : ℕ} → b ≡ byte_at s next → Taken top s v next → Reading top s at (v * 10 + (b - zero_digit)) (next + 1)
      again e t = record {
        whole = rw e (sym (more-takes top s v next t.takes_it) ∙ r.whole);
        small = rw e t.small;
        within = omega arith;
      }

      pub ended : takes top v (byte_at s next) ≡ false → Number top s at v next
      ended t = let e = sym (more-stops top s v next t) ∙ r.whole in (ap (λ (n : Digits). n.value) e, ap (λ (n : Digits). n.next) e)

pub ruleset reading = (digit-from, digit-inside, taken, start, again, ended)
