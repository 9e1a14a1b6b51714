-- Each public function's contract leaves one outcome, as its caller sees it: the answer, and every place of every lent area.
use mathlib.Core.Path.{ap}
use mathlib.Core.List.{List}
use Prim.Native.Nat.{ℕ}
use lib.IntN.{ℤ}
use Rattle.answers.proofs.Outcomes.{same}
use Rattle.answers.specs.Promised.{One, OneLent}
use Rattle.answers.proofs.Unique.{told-one, refusal-one, outcome-one}
use Rattle.numbers.proofs.Unique.{item-one}
use Rattle.packed.proofs.read_count.Reads as read_count
use Rattle.packed.proofs.read_sum.Reads as read-sum
use Rattle.packed.proofs.reader.read_item.Reads as read-item
use Rattle.packed.proofs.refused.Reads as refused
use Rattle.packed.proofs.sum_at_fault.Reads as at-fault
use Rattle.packed.proofs.take_whole.Reads as take_whole
use Rattle.packed.proofs.unpack.Reads as unpack
use Rattle.packed.proofs.pack.Reads as pack
use Rattle.packed.proofs.writer.write_sum.Reads as write-sum

-- the two operations
pub unpack-one : OneLent unpack.Learnt {L = List ℕ × List ℤ} (λ k e. (e.1.0.now, e.1.1.0.now))
unpack-one k a r r' e e' h h' = outcome-one r r' (same h h')

pub pack_one : OneLent pack.Learnt (λ k e. e.1.1.1.0.now)
pack_one k a r r' e e' h h' = outcome-one r r' (same h h')

-- what other crates call
-- Refused when tried: a number of two bytes whose last is 0; the place after a byte is one too far; the second group counts 64.
pub read-item-one : One read-item.Learnt
read-item-one k a r r' e e' h h' = item-one r r' (same h h')

-- Refused when tried: refuses a count of 128; a count that is too large is bad at place 0.
pub read-count-one : One read_count.Learnt
read-count-one k a r r' e e' h h' = item-one r r' (same h.0 h'.0)

-- Refused when tried: ROOM in SUM's stead where the bytes end too soon; VARIABLE in SUM's stead elsewhere.
pub refused-one : One refused.Learnt
refused-one k a r r' e e' h h' = told-one r r' (same h h')

pub sum-at-fault-one : One at-fault.Learnt
sum-at-fault-one k a r r' e e' h h' = refusal-one r r' (same h h')

-- Refused when tried: good terms are taken whatever follows them; the words are not cleared where bytes are left over.
pub take-whole-one : OneLent take_whole.Learnt {L = List ℕ × List ℤ} (λ k e. (e.1.1.1.0.now, e.1.1.1.1.0.now))
take-whole-one k a r r' e e' h h' = outcome-one r r' (same h h')

-- Refused when tried: reads at 0; refuses a count of 128.
pub read-sum-one : OneLent read-sum.Learnt {L = List ℕ × List ℤ} (λ k e. (e.1.1.0.now, e.1.1.1.0.now))
read-sum-one k a r r' e e' h h' =
    let all = same h h' in
    (item-one r r' (ap (λ x. x.0) all), ap (λ x. (x.1, x.2)) all)

-- Refused when tried: the count 0; the exponent of a eight times.
pub write-sum-one : OneLent write-sum.Learnt (λ k e. e.0.now)
write-sum-one k a r r' e e' h h' = (same h.0 h'.0, same h.1 h'.1)
