-- No more of an input need be read than the longest text and two bytes: what is printed is the same.
use mathlib.Core.Path.{◌≡◌, sym, ◌∙◌, ap}
use mathlib.Core.List.{List}
use Prim.Native.Nat.{ℕ, ◌<◌}
use native.Mathlib.Omega.{arith}
use borrow.Author.Tests.{leb-true, leb-false, lt-leb}
use lib.Dec.{leb}
use lib.ListN.{length, take}
use lib.Seq.{take_all, length-take-le}
use Rattle.answers.specs.Refusals.{TEXT}
use Rattle.answers.specs.Judge.{Judged.fails, holding, and_then}
use Rattle.text.specs.Limits.{longest_text}
use Rattle.text.specs.Text.{judge_text, text_sum}
use Rattle.text.proofs.Byte.{decide}
use Rattle.listing.specs.Listing.{without_newline, most_input, list}
use Rattle.listing.proofs.Newline.{one-longer}

too_long : (text : List ℕ) → longest_text < length text → text_sum text ≡ fails TEXT longest_text
unfolding text_sum judge_text holding and_then
too_long text h = rw (lt-leb (length text) longest_text h)

sum-enough : (input : List ℕ) → text_sum (without_newline (take most_input input)) ≡ text_sum (without_newline input)
sum-enough input =
    decide (leb (length input) most_input)
    (λ e. ap (λ l. text_sum (without_newline l)) (take_all most_input input (leb-true (length input) most_input e)))
    (λ e. let long = leb-false (length input) most_input e in
    let cut = length-take-le most_input input (omega arith) in
    too_long (without_newline (take most_input input)) (omega (arith, cut, one-longer (take most_input input)))
    ∙ sym (too_long (without_newline input) (omega (arith, one-longer input))))

pub input-enough : (input area : List ℕ) → list (take most_input input) area ≡ list input area
unfolding list
input-enough input area = rw (sum-enough input)
