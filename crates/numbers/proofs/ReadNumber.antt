-- What the reader's loop keeps: what is left to read, above what was read, is what `read_number` answers.
use mathlib.Core.Path.{◌≡◌, refl, sym, ap, ◌∙◌}
use mathlib.Core.List.{List}
use Prim.Native.Nat.{ℕ, suc, zero-le, ◌+◌, ◌-◌, ◌*◌, ◌^◌, ◌≤◌, ◌<◌}
use native.Mathlib.Omega.{arith}
use native.Mathlib.Nat.{mul-le-mul_left, pow-le-pow_right, pow-succ'}
use lib.ListN.{length, get_or}
use Rattle.numbers.specs.Item.{Item, Item.got, Item.stopped, mapped, Fault, Fault.cut, Fault.bad}
use Rattle.numbers.specs.Number.{read_groups, read_number}
use Rattle.numbers.proofs.Groups.{above, at-end, at-tenth, at-over, at-idle, at_last, at_next}

above-none : (r : Item Fault ℕ) → above 0 1 r ≡ r
unfolding mapped
above-none (got x next) = ap (λ (v : ℕ). got v next) (omega arith)
above-none (stopped what place) = refl

above-above : (a u b w : ℕ) (r : Item Fault ℕ) → above a u (above b w r) ≡ above (a + u * b) (u * w) r
unfolding mapped
above-above a u b w (got x next) = ap (λ (v : ℕ). got v next) (omega arith)
above-above a u b w (stopped what place) = refl

pub record Reads (s : List ℕ) (at place more low unit : ℕ) : Type 0 where
  pub left : read_number s at ≡ above low unit (read_groups more s at place)
  pub scale : unit * 128 ^ more ≡ 2 ^ 63
  pub small : low < unit

pub start : (s : List ℕ) (at : ℕ) → Reads s at at 9 0 1
unfolding read_number
start s at = record { left = sym (above-none _); scale = refl; small = omega arith }

shift : (more unit : ℕ) → unit * 128 ^ suc more ≡ unit * 128 * 128 ^ more
shift more unit = rw (pow-succ' 128 more) (omega arith)

module _ {s : List ℕ} {at place more low unit : ℕ} (r : Reads s at place more low unit) where
  -- what is answered for the groups that are left
  answer : {m : ℕ} {x : Item Fault ℕ} → more ≡ m → read_groups m s at place ≡ x → above low unit x ≡ read_number s at
  answer e f = sym (r.left ∙ ap (λ (m : ℕ). above low unit (read_groups m s at place)) e ∙ ap (above low unit) f)

  answer-got : {m x next : ℕ} (value : ℕ) → value ≡ low + unit * x → more ≡ m → read_groups m s at place ≡ got x next → got value next ≡ read_number s at
  unfolding mapped
  answer-got {next = next} value v e f = ap (λ (v : ℕ). got v next) v ∙ answer e f

  pub ended : length s ≤ place → stopped cut (length s) ≡ read_number s at
  unfolding mapped
  ended end = answer refl (at-end s at place more end)

  -- the tenth group
  module _ (tenth : more ≡ 0) where
    pub tenth-fits : low + unit < 2 ^ 64
    tenth-fits = omega (arith, r.small, rw tenth at r.scale)

    pub tenth-taken : place < length s → get_or s place 0 ≡ 1 → got (low + unit) (place + 1) ≡ read_number s at
    tenth-taken inside one = answer-got (low + unit) (rw one (omega arith)) tenth (at-tenth s at place inside one)

    pub tenth-bad : place < length s → (get_or s place 0 ≡ 1 → ⊥) → stopped bad at ≡ read_number s at
    unfolding mapped
    tenth-bad inside other = answer tenth (at-over s at place inside other)

  -- a group before the tenth
  module _ (some : more ≡ 0 → ⊥) where
    earlier : more ≡ suc (more - 1)
    earlier = omega arith

    next-scale : unit * 128 * 128 ^ (more - 1) ≡ 2 ^ 63
    next-scale = sym (shift (more - 1) unit) ∙ ap (λ (m : ℕ). unit * 128 ^ m) (sym earlier) ∙ r.scale

    -- no number that the step computes is above the next unit, which fits
    pub unit-fits : unit * 128 < 2 ^ 64
    unit-fits = omega (arith, next-scale, mul-le-mul_left (unit * 128) (pow-le-pow_right {n = 128} (omega arith) {j = more - 1} zero-le))

    group-below : (b : ℕ) → b < 128 → low + unit * b < unit * 128
    group-below b h = omega (arith, r.small, mul-le-mul_left unit h)

    pub sum_fits : (b : ℕ) → b < 128 → low + unit * b < 2 ^ 64
    sum_fits b h = omega (arith, unit-fits, group-below b h)

    pub group-fits : (b : ℕ) → b < 128 → unit * b < 2 ^ 64
    group-fits b h = omega (arith, sum_fits b h)

    pub idle-bad : place < length s → get_or s place 0 ≡ 0 → at < place → stopped bad at ≡ read_number s at
    unfolding mapped
    idle-bad inside none late = answer earlier (at-idle s at place inside (more - 1) none late)

    pub last_taken : (value : ℕ) → value ≡ low + unit * get_or s place 0 → place < length s → get_or s place 0 < 128 → (at < place → 0 < get_or s place 0)
        → got value (place + 1) ≡ read_number s at
    last_taken value v inside small used = answer-got value v earlier (at_last s at place inside (more - 1) small used)

    pub again : place < length s → 128 ≤ get_or s place 0 → get_or s place 0 - 128 < 128
        → Reads s at (place + 1) (more - 1) (low + unit * (get_or s place 0 - 128)) (unit * 128)
    again inside high rest = record {
      left = sym (answer earlier (at_next s at place inside (more - 1) high)) ∙ above-above low unit (get_or s place 0 - 128) 128 _;
      scale = next-scale;
      small = group-below (get_or s place 0 - 128) rest;
    }
