-- The number that a C host gets: it does not run over, and the host can take it apart.
use mathlib.Core.Path.{◌≡◌, refl, sym, ◌∙◌, ap, ap₂}
use mathlib.Core.Bool.{Bool, true, false}
use Prim.Native.Nat.{ℕ, ◌+◌, ◌*◌, ◌^◌, ◌/◌, ◌%◌, ◌≤◌, ◌<◌}
use native.Mathlib.Omega.{arith}
use native.Mathlib.Decide.{dec_lt}
use native.Mathlib.Nat.{mul-le-mul, mul-le-mul_right, mod-lt, div-add-mod'}
use borrow.Author.Tests.{lt-ltb, le-ltb}
use lib.Dec.{T, ltb→lt, lt→ltb}
use Rattle.answers.specs.Refusals.{NODES, number}
use Rattle.answers.specs.Answers.{Told, Told.done, Told.refused, told, Outcome, outcome, check}
use Rattle.answers.specs.Host.{host_number, narrow_unit, wide_unit, hosted, refused_by, heard}
use Rattle.answers.specs.Promised.{Numbered, Placed, Hearable}
use Rattle.answers.specs.Inside.Fits.{fits_host, largest_unit}
use Rattle.answers.specs.declared.Refusal.{Refusal}
use Rattle.answers.specs.declared.Refusal.TheVariants.{Room, Shape, Node, Degree, Weight, Spread, Sum, List, Variable, Reading, Range, Text, Nodes}
use Rattle.std.specs.Prelude.{Result, Ok, Err}
use Rattle.answers.specs.declared.Refused.{Refused}

pub between : {n : ℕ} → 0 < n → n ≤ NODES → Numbered n
between some most = record { some = some; most = most }

pub numbered : (r : Refusal) → Numbered (number r)
numbered Room = between (omega arith) (omega arith)
numbered Shape = between (omega arith) (omega arith)
numbered Node = between (omega arith) (omega arith)
numbered Degree = between (omega arith) (omega arith)
numbered Weight = between (omega arith) (omega arith)
numbered Spread = between (omega arith) (omega arith)
numbered Sum = between (omega arith) (omega arith)
numbered List = between (omega arith) (omega arith)
numbered Variable = between (omega arith) (omega arith)
numbered Reading = between (omega arith) (omega arith)
numbered Range = between (omega arith) (omega arith)
numbered Text = between (omega arith) (omega arith)
numbered Nodes = between (omega arith) (omega arith)

module _ {unit : ℕ} {a : Result ℕ Refused} {r : Refused} (is : a ≡ Err r) (fits : T (fits_host unit (told a))) where
  place-fits : r.place < unit
  place-fits = ltb→lt r.place unit (rw is at fits)

  pub number_fits : unit ≤ largest_unit → {n : ℕ} → n ≡ number r.refusal → n * unit + r.place < 2 ^ 64
  number_fits small e = omega (arith, place-fits, mul-le-mul (rw (sym e) at (numbered r.refusal).most) small)

-- ---- Different answers have different numbers.

-- one refusal more counts more than any place
more : (unit p' : ℕ) {r r' p : ℕ} → p < unit → r < r' → r * unit + p < r' * unit + p'
more unit p' {r} {r'} h l = omega (arith, mul-le-mul_right unit l)

apart : (unit r r' p p' : ℕ) → p < unit → p' < unit → r * unit + p ≡ r' * unit + p' → (r ≡ r') × (p ≡ p')
apart unit r r' p p' h h' e = go (dec_lt r r') (dec_lt r' r)
  where
    go : Dec (r < r') → Dec (r' < r) → (r ≡ r') × (p ≡ p')
    go (yes l) d = absurd (omega (arith, e, more unit p' h l))
    go (no n) (yes l) = absurd (omega (arith, e, more unit p h' l))
    go (no n) (no n') = let same : r ≡ r' = omega (arith, n, n') in (same, omega (arith, e, ap (λ (m : ℕ). m * unit) same))

module _ (unit : ℕ) where
  pub host-apart : (a b : Result ℕ Refused) → T (fits_host unit (told a)) → T (fits_host unit (told b)) → host_number unit (told a) ≡ host_number unit (told b)
      → told a ≡ told b
  host-apart (Ok n) (Ok m) f g e = ap done e
  host-apart (Ok n) (Err r) f g e = absurd (omega (arith, e, ltb→lt n unit f, mul-le-mul_right unit (numbered r.refusal).some))
  host-apart (Err r) (Ok n) f g e = absurd (omega (arith, e, ltb→lt n unit g, mul-le-mul_right unit (numbered r.refusal).some))
  host-apart (Err r) (Err s) f g e =
      let parts = apart unit (number r.refusal) (number s.refusal) r.place s.place (ltb→lt r.place unit f) (ltb→lt s.place unit g) e in
      ap₂ (λ (m n : ℕ). refused m n) parts.0 parts.1

-- ---- What a host hears.

-- whatever the unit, a place below it and the refusal are found again
again : (unit refusal place : ℕ) → place < unit → refused_by unit (refusal * unit + place) ≡ refused refusal place
again unit refusal place h =
    let number = refusal * unit + place in
    let parts = apart unit (number / unit) refusal (number % unit) place (mod-lt number (omega arith)) h (div-add-mod' number unit) in
    ap₂ (λ (m n : ℕ). refused m n) parts.0 parts.1

pub wide-heard : (t : Told) → Hearable wide_unit t → heard (host_number wide_unit t) ≡ t
wide-heard (done n) w = rw (lt-ltb n narrow_unit w)
wide-heard (refused refusal place) w =
    let number = refusal * wide_unit + place in
    let above : wide_unit ≤ number = omega (arith, w.numbered.some) in
    rw (le-ltb number narrow_unit (omega arith), le-ltb number wide_unit above) (again wide_unit refusal place w.below)

pub narrow-heard : (t : Told) → Hearable narrow_unit t → heard (host_number narrow_unit t) ≡ t
narrow-heard (done n) w = rw (lt-ltb n narrow_unit w)
narrow-heard (refused refusal place) w =
    let number = refusal * narrow_unit + place in
    let h = w.below in
    let above : narrow_unit ≤ number = omega (arith, w.numbered.some) in
    let under : number < wide_unit = omega (arith, w.numbered.most) in
    rw (le-ltb number narrow_unit above, lt-ltb number wide_unit under) (again narrow_unit refusal place h)

-- the number, and the areas, tell the whole outcome
module _ {Areas : Type 0} (unit : ℕ) (o : Outcome Areas) (told-so : heard (host_number unit o.answer) ≡ o.answer) where
  pub outcome-heard : {number : ℕ} {a : Areas} → (number, a) ≡ hosted unit o → o ≡ outcome (heard number) a
  outcome-heard e =
      ap₂ (λ (t : Told) (x : Areas). outcome t x) (sym told-so ∙ ap (λ (p : ℕ × Areas). heard p.0) (sym e)) (ap (λ (p : ℕ × Areas). p.1) (sym e))

-- ---- How an operation is shown to stay within a unit.

module _ {Areas : Type 0} {unit : ℕ} where
  -- of what is behind each answer
  pub within : (o : Outcome Areas) → ((n : ℕ) (a : Areas) → o ≡ outcome (done n) a → n < narrow_unit)
      → ((refusal place : ℕ) (a : Areas) → o ≡ outcome (refused refusal place) a → Placed unit refusal place) → Hearable unit o.answer
  within o d r = go o.answer refl
    where
      go : (t : Told) → o.answer ≡ t → Hearable unit t
      go (done n) e = d n o.areas (ap (λ t. outcome t o.areas) e)
      go (refused refusal place) e = r refusal place o.areas (ap (λ t. outcome t o.areas) e)

  -- check by check
  pub within-check : (b : Bool) (refusal place : ℕ) (a : Areas) (rest : Outcome Areas) → Placed unit refusal place → (T b → Hearable unit rest.answer)
      → Hearable unit (check b refusal place a rest).answer
  within-check true refusal place a rest p k = k tt
  within-check false refusal place a rest p k = p

pub within-fits : (unit : ℕ) → narrow_unit ≤ unit → (t : Told) → Hearable unit t → T (fits_host unit t)
within-fits unit large (done n) w = lt→ltb n unit (omega (arith, large, w))
within-fits unit large (refused refusal place) w = lt→ltb place unit w.below
