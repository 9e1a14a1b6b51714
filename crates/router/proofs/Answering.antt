-- The answer of the estimate is written: both numbers, one after the other.
use mathlib.Core.Path.{◌≡◌, sym, ◌∙◌, ap, ap₂}
use mathlib.Core.List.{List, ◌++◌}
use Prim.Native.Nat.{ℕ, ◌+◌, ◌≤◌}
use native.Mathlib.Omega.{arith}
use lib.IntN.{ℤ, pos}
use lib.ListN.{length, drop, length-append}
use lib.Seq.{sets, sets-eq}
use Rattle.answers.specs.Areas.{written}
use Rattle.numbers.specs.Bytes.{whole_bytes, signed_bytes}
use Rattle.numbers.proofs.Writing.{sets-append}
use Rattle.numbers.proofs.Complement.{bytes-length}
use Rattle.router.specs.Estimate.{answer_bytes, answer_of}

both-written : (xs ys area : List ℕ) → length xs + length ys ≤ length area → sets (sets area 0 xs) (length xs) ys ≡ written (xs ++ ys) area
both-written xs ys area room =
    let all = xs ++ ys in
    let from : length xs ≡ 0 + length xs = omega arith in
    let to : 0 + length all ≡ length all = omega arith in
    ap (λ (k : ℕ). sets (sets area 0 xs) k ys) from ∙ sets-append area 0 xs ys ∙ sets-eq all area 0 (omega (arith, length-append xs ys))
    ∙ ap (λ (k : ℕ). all ++ drop k area) to

pub answer-written : {x y e : ℤ} {m : ℕ} (area : List ℕ) {area₁ area₂ : List ℕ} → answer_bytes ≤ length area → x ≡ e → y ≡ pos m → area₁ ≡ sets area 0 (signed_bytes whole_bytes x)
    → area₂ ≡ sets area₁ whole_bytes (signed_bytes whole_bytes y) → area₂ ≡ written (answer_of e m) area
answer-written {x} {y} area room x-is y-is first second =
    let long-x = bytes-length whole_bytes x in
    let long-y = bytes-length whole_bytes y in
    second ∙ ap (λ l. sets l whole_bytes (signed_bytes whole_bytes y)) first ∙ ap (λ (k : ℕ). sets (sets area 0 (signed_bytes whole_bytes x)) k (signed_bytes whole_bytes y)) (sym long-x)
    ∙ both-written (signed_bytes whole_bytes x) (signed_bytes whole_bytes y) area (omega (arith, long-x, long-y, room))
    ∙ ap₂ (λ v w. written (signed_bytes whole_bytes v ++ signed_bytes whole_bytes w) area) x-is y-is
