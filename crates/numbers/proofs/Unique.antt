-- Each public function's contract leaves one outcome, as its caller sees it: the result, and what it finds in an area that it lent.
use mathlib.Core.Path.{◌≡◌, refl, sym, ap, ◌∙◌}
use Prim.Native.Nat.{ℕ}
use Rattle.answers.proofs.Outcomes.{same}
use Rattle.answers.specs.Promised.{One, OneLent}
use Rattle.numbers.specs.Item.{Item, Item.got, Item.stopped, Fault, Fault.cut, Fault.bad}
use Rattle.std.specs.Prelude.{Ok, Err}
use Rattle.numbers.specs.Inside.Read.{Reading, item_of}
use Rattle.numbers.specs.declared.Fault.TheVariants.{Cut, Bad}
use Rattle.numbers.proofs.read_number.Reads as read_number
use Rattle.numbers.proofs.write_number.Reads as write-number
use Rattle.numbers.proofs.code.Reads as code
use Rattle.numbers.proofs.decode.Reads as decode
use Rattle.numbers.proofs.absolute.Reads as absolute
use Rattle.numbers.proofs.bytes.write_bytes.Reads as write_bytes
use Rattle.numbers.proofs.bytes.write_whole.Reads as write-whole
use Rattle.numbers.proofs.decimal.write_decimal.Reads as write-decimal
use Rattle.numbers.proofs.decimal.write_signed.Reads as write-signed

-- ---- Different answers say different things.

answer_of : Item Fault ℕ → Reading
answer_of (got v next) = Ok (v, next)
answer_of (stopped cut place) = Err (Cut place)
answer_of (stopped bad place) = Err (Bad place)

answer-of : (r : Reading) → answer_of (item_of r) ≡ r
unfolding answer_of
answer-of (Ok (v, next)) = refl
answer-of (Err (Cut place)) = refl
answer-of (Err (Bad place)) = refl

pub item-one : (r r' : Reading) → item_of r ≡ item_of r' → r ≡ r'
item-one r r' h = sym (answer-of r) ∙ ap answer_of h ∙ answer-of r'

-- ---- The functions.

pub read-number-one : One read_number.Learnt
read-number-one k a r r' e e' h h' = item-one r r' (same h h')

-- Refused when tried: six bits of a group.
pub write-number-one : OneLent write-number.Learnt (λ k e. e.0.now)
write-number-one k a r r' e e' h h' = (same h.0 h'.0, same h.1 h'.1)

pub code_one : One code.Learnt
code_one k a r r' e e' h h' = same h h'

-- Refused when tried: one less; the odd codes for the numbers from 0 up.
pub decode-one : One decode.Learnt
decode-one k a r r' e e' h h' = same h h'

-- Refused when tried: one less for a negative number; 0 taken for negative.
pub absolute-one : One absolute.Learnt
absolute-one k a r r' e e' h h' = same h h'

-- Refused when tried: writes zeros; answers the place where it began.
pub write-bytes-one : OneLent write_bytes.Learnt (λ k e. e.0.now)
write-bytes-one k a r r' e e' h h' = (same h.0 h'.0, same h.1 h'.1)

pub write-whole-one : OneLent write-whole.Learnt (λ k e. e.0.now)
write-whole-one k a r r' e e' h h' = (refl, same h h')

-- Refused when tried: four-digit numbers are taken for longer ones; the last four digits are those of the last three.
pub write-decimal-one : OneLent write-decimal.Learnt (λ k e. e.0.now)
write-decimal-one k a r r' e e' h h' = (same h.0 h'.0, same h.1 h'.1)

-- Refused when tried: 0 is printed as a negative number.
pub write-signed-one : OneLent write-signed.Learnt (λ k e. e.0.now)
write-signed-one k a r r' e e' h h' = (same h.0 h'.0, same h.1 h'.1)
