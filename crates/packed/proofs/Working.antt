-- An operation with two work areas and a result area: ROOM, and after any other answer both work areas are cleared.
use mathlib.Core.Path.{◌≡◌, sym, ◌∙◌, ap, ap₂}
use mathlib.Core.Bool.{Bool, true, false, ◌&&◌, true≢false}
use mathlib.Core.List.{List, ◌++◌}
use Prim.Native.Nat.{ℕ}
use lib.Dec.{T, leb, leb→le}
use lib.IntN.{ℤ, pos}
use lib.ListN.{length, drop, replicate, length-replicate}
use borrow.Author.Tests.{le-leb}
use Rattle.algebra.specs.Limits.{variables, work_places}
use Rattle.algebra.specs.Sum.{Sum}
use lib.Ieee.Fits.{and_l, and_r}
use lib.Ieee.Bits.{is_true}
use Rattle.algebra.proofs.Numbers.Test.{false-is}
use Rattle.answers.specs.Refusals.{ROOM}
use Rattle.answers.specs.Answers.{Told, Told.refused, Outcome, outcome, check}
use Rattle.answers.specs.Areas.{cleared}
use Rattle.answers.specs.Judge.{Judged}
use Rattle.packed.specs.Packed.{most_bytes}
use Rattle.packed.specs.Result.{WorkAreas, packed_into, beside}
use Rattle.packed.specs.Promised.{WorkRoom}

-- three tests in a row
pub each_holds : (a b c : Bool) → a && (b && c) ≡ true → T a × T b × T c
each_holds a b c e =
    let t : T (a && (b && c)) = rw e tt in
    let rest = and_r a (b && c) t in
    (and_l a (b && c) t, and_l b c rest, and_r b c rest)

module _ (ws : List ℕ) (cs : List ℤ) (area : List ℕ) where
  abbrev pub has_room : Bool
  has_room = leb work_places (length ws) && (leb work_places (length cs) && leb (most_bytes variables) (length area))

  -- what such an operation leaves, whatever it has judged; each writes this out in its own definition
  unfoldable pub worked : Judged Sum → Outcome WorkAreas
  worked judged = check has_room ROOM 0 (ws, cs, area) (beside (cleared 0 work_places ws) (cleared (pos 0) work_places cs) (packed_into judged area))

  room-tested : WorkRoom ws cs area → has_room ≡ true
  room-tested r =
      rw (le-leb work_places (length ws) r.patterns_room, le-leb work_places (length cs) r.coefficients_room, le-leb (most_bytes variables) (length area) r.result_room)

  pub tested-room : has_room ≡ true → WorkRoom ws cs area
  tested-room e =
      let h = each_holds (leb work_places (length ws)) (leb work_places (length cs)) (leb (most_bytes variables) (length area)) e in
      record {
        patterns_room = leb→le work_places (length ws) h.0;
        coefficients_room = leb→le work_places (length cs) h.1;
        result_room = leb→le (most_bytes variables) (length area) h.2;
      }

  pub tested-none : has_room ≡ false → WorkRoom ws cs area → ⊥
  tested-none e r = true≢false (sym (room-tested r) ∙ e)

module _ (judged : Judged Sum) (ws : List ℕ) (cs : List ℤ) (area : List ℕ) where
  pub with-room : WorkRoom ws cs area → worked ws cs area judged ≡ beside (cleared 0 work_places ws) (cleared (pos 0) work_places cs) (packed_into judged area)
  unfolding worked
  with-room r = rw (room-tested ws cs area r)

  pub without-room : (WorkRoom ws cs area → ⊥) → worked ws cs area judged ≡ outcome (refused ROOM 0) (ws, cs, area)
  unfolding worked
  without-room f = rw (false-is (has_room ws cs area) (λ t. f (tested-room ws cs area (is_true (has_room ws cs area) t))))

cleared-same : {A : Type 0} (zero : A) (count : ℕ) (xs ys : List A) → drop count xs ≡ drop count ys → cleared zero count xs ≡ cleared zero count ys
cleared-same zero count xs ys h = ap (λ l. replicate count zero ++ l) (rw (length-replicate count zero) h)

-- the code clears both work areas after whatever was answered: ws' and cs' are what the work left there
pub all-cleared : (judged : Judged Sum) (ws : List ℕ) (cs : List ℤ) (area : List ℕ) {t : Told} (ws' : List ℕ) (cs' : List ℤ) (area' : List ℕ) {ws'' : List ℕ} {cs'' : List ℤ}
    → WorkRoom ws cs area → outcome t area' ≡ packed_into judged area
    → drop work_places ws' ≡ drop work_places ws
    → drop work_places cs' ≡ drop work_places cs
    → ws'' ≡ cleared 0 work_places ws'
    → cs'' ≡ cleared (pos 0) work_places cs'
    → outcome t (ws'', cs'', area') ≡ worked ws cs area judged
all-cleared judged ws cs area ws' cs' area' {ws''} {cs''} room e words-stay coefficients_stay words coefficients =
    ap (beside ws'' cs'') e
    ∙ ap₂ (λ (l : List ℕ) (m : List ℤ). beside l m (packed_into judged area)) (words ∙ cleared-same 0 work_places ws' ws words-stay)
    (coefficients ∙ cleared-same (pos 0) work_places cs' cs coefficients_stay)
    ∙ sym (with-room judged ws cs area room)
