-- What an operation knows that reads packed sums and answers with one: each sum, or its fault; and that the result is written.
use mathlib.Core.Path.{◌≡◌, refl, sym, ◌∙◌, ap, ap₂, subst}
use mathlib.Core.List.{List}
use Prim.Native.Nat.{ℕ, ◌+◌, ◌≤◌, ◌<◌}
use native.Mathlib.Omega.{arith}
use native.Mathlib.Nat.{zero-add}
use lib.IntN.{ℤ}
use lib.ListN.{length, get_or, length-map}
use lib.Seq.{sets, sets-eq}
use Rattle.algebra.specs.Limits.{variables, largest_degree}
use Rattle.algebra.specs.Sum.{Sum}
use Rattle.algebra.specs.Word.{terms}
use Rattle.algebra.specs.Accepted.{Accepted}
use Rattle.algebra.specs.Held.{words_of, coefficients_of, first_terms}
use Rattle.algebra.proofs.Sums.Every.{degree-every}
use Rattle.algebra.proofs.Sums.Ordered.{parts}
use Rattle.algebra.proofs.Sums.Held.{terms-again}
use Rattle.answers.specs.Refusals.{SUM}
use Rattle.answers.specs.Answers.{Told, Told.done, Told.refused, outcome}
use Rattle.answers.specs.Areas.{written}
use Rattle.answers.specs.Judge.{Judged, Judged.good, Judged.fails, and_then}
use Rattle.std.specs.Prelude.{Err}
use Rattle.numbers.specs.declared.Fault as declared
use Rattle.answers.proofs.Judging.{then-good, then-fails}
use Rattle.answers.proofs.Writes.{written-front}
use Rattle.numbers.specs.Item.{Item, Item.got, Item.stopped, mapped, Fault, Fault.cut, Fault.bad}
use Rattle.numbers.proofs.Items.{place_of}
use Rattle.numbers.specs.Inside.Read.{item_of}
use Rattle.numbers.proofs.Items.{Alike, Alike.both, alike_then, fault-met, number-fault, came_from}
use Rattle.packed.specs.Packed.{packed, most_bytes}
use Rattle.packed.specs.ReadSum.{read_whole}
use Rattle.packed.specs.Inside.Held.{read_into, read_count, read_rest, fault}
use Rattle.packed.specs.Whole.{judged}
use Rattle.packed.specs.Result.{packed_into}
use Rattle.packed.specs.Promised.{PackedSum, AtFault, AtFault.is_cut, AtFault.is_bad}
use Rattle.packed.specs.Inside.Arrays.{whole_into}
use Rattle.packed.proofs.Sizes.{packed-most}
use Rattle.packed.proofs.Trip.{whole-read, whole-written}
use Rattle.packed.proofs.Places.{place-small}
use Rattle.packed.proofs.TakeSum.{whole_split, whole-rest}
use Rattle.packed.proofs.Taking.{ReadAt}
use Rattle.packed.proofs.Unpacking.{whole-refused, whole-done}

-- ---- The bytes that are given.

pub fault-judged : {A : Type 0} {item : Item Fault A} {place : ℕ} (refusal : ℕ) → AtFault item place → judged refusal item ≡ fails refusal place
fault-judged refusal (is_cut e) = ap (judged refusal) e
fault-judged refusal (is_bad e) = ap (judged refusal) e

pub sum-judged : {bytes : List ℕ} {s : Sum} → PackedSum bytes s → judged SUM (read_whole variables bytes) ≡ good s
sum-judged {bytes} {s} p = ap (λ l. judged SUM (read_whole variables l)) p.bytes_are ∙ ap (judged SUM) (whole-read variables s p.accepted)

-- the place fits in two bytes, as a host's number needs it
pub fault-small : (bytes : List ℕ) → ((i : ℕ) → get_or bytes i 0 < 256) → {place : ℕ} → AtFault (read_whole variables bytes) place → place < 65536
fault-small bytes byte (is_cut e) = omega (arith, place-small bytes byte, ap place_of e)
fault-small bytes byte (is_bad e) = omega (arith, place-small bytes byte, ap place_of e)

-- one of the two
pub data Reading (bytes : List ℕ) : Type 0 where
  a_sum : (s : Sum) → PackedSum bytes s → Reading bytes
  a_fault : (place : ℕ) → AtFault (read_whole variables bytes) place → Reading bytes

pub reading : (bytes : List ℕ) → ((i : ℕ) → get_or bytes i 0 < 256) → Reading bytes
reading bytes byte = go (read_whole variables bytes) refl
  where
    go : (item : Item Fault Sum) → read_whole variables bytes ≡ item → Reading bytes
    go (got s end) e = let w = whole-written bytes byte variables s end e in a_sum s (record { accepted = w.1; bytes_are = w.0 })
    go (stopped cut place) e = a_fault place (is_cut e)
    go (stopped bad place) e = a_fault place (is_bad e)

-- the first places of two areas, to which the words and coefficients of an accepted sum were written, hold the sum
pub written-terms : {s : Sum} (ws : List ℕ) (cs : List ℤ) {ws' : List ℕ} {cs' : List ℤ} {count : ℕ} → Accepted variables s → ws' ≡ written (words_of s) ws → cs' ≡ written (coefficients_of s) cs
    → length s ≡ count → first_terms count ws' cs' ≡ s
written-terms {s} ws cs accepted words coefficients many =
    ap₂ terms (written-front (words_of s) ws words (length-map s _ ∙ many)).0 (written-front (coefficients_of s) cs coefficients (length-map s _ ∙ many)).0
    ∙ terms-again s (parts variables s accepted.is_ordered).long (degree-every largest_degree s accepted.low)

-- the refusal that is handed on
pub record Handed (bytes : List ℕ) (t : Told) : Type 0 where
  pub place : ℕ
  pub says : t ≡ refused SUM place
  pub fault : AtFault (read_whole variables bytes) place

-- ---- What `read_count` and `take_whole` answer, one after the other.

handed : {bytes : List ℕ} {x : Item Fault ℕ} {t : Told} → Alike x (read_whole variables bytes) → t ≡ fault SUM x → Handed bytes t
handed {bytes} {x} {t} a says = go (read_whole variables bytes) refl a says
  where
    go : {x : Item Fault ℕ} (item : Item Fault Sum) → read_whole variables bytes ≡ item → Alike x item → t ≡ fault SUM x → Handed bytes t
    go (stopped cut place) read both says = record { place = place; says = says; fault = is_cut read }
    go (stopped bad place) read both says = record { place = place; says = says; fault = is_bad read }
    go (got _ _) read x7 says = elim x7 [ ]

pub count-refused : (bytes : List ℕ) (f : declared.Fault) → item_of (Err f) ≡ read_count bytes 0 → {t : Told} → t ≡ fault SUM (item_of (Err f)) → Handed bytes t
count-refused bytes f e says = handed (subst (Alike (item_of (Err f))) (sym (whole_split variables bytes)) (alike_then _ (number-fault f (read_count bytes 0) e))) says

-- the sum that two arrays hold
pub record Whole (bytes ws : List ℕ) (cs : List ℤ) (ws' : List ℕ) (cs' : List ℤ) (count : ℕ) : Type 0 where
  pub sum : Sum
  pub of_bytes : PackedSum bytes sum
  pub many : length sum ≡ count
  pub words_are : ws' ≡ written (words_of sum) ws
  pub coefficients_are : cs' ≡ written (coefficients_of sum) cs

module _ (bytes : List ℕ) {count next : ℕ} (counted : read_count bytes 0 ≡ got count next) (ws : List ℕ) (cs : List ℤ) {ws' : List ℕ} {cs' : List ℤ} where
  pub rest-refused : {refusal p : ℕ} → outcome (refused refusal p) (ws', cs') ≡ whole_into count (judged SUM (read_rest variables count bytes next)) ws cs → Handed bytes (refused refusal p)
  rest-refused e =
      let stop = whole-refused count bytes next ws cs e in
      handed (subst (Alike stop.0) (sym (whole-rest variables bytes counted)) stop.1) stop.2

  pub rest-taken : ((i : ℕ) → get_or bytes i 0 < 256) → {n : ℕ} → outcome (done n) (ws', cs') ≡ whole_into count (judged SUM (read_rest variables count bytes next)) ws cs
      → Whole bytes ws cs ws' cs' count
  rest-taken byte e =
      let all = whole-done count bytes next ws cs e in
      let t = all.2 in
      let w = whole-written bytes byte variables t.sum all.0 (whole-rest variables bytes counted ∙ t.read) in
      record { sum = t.sum; of_bytes = record { accepted = w.1; bytes_are = w.0 }; many = t.many; words_are = t.words_are; coefficients_are = t.coefficients_are }

-- ---- What `read_sum` answers: the fault that was met, or the sum that the areas hold.

counted : (item : Item Fault Sum) (ws : List ℕ) (cs : List ℤ) → (read_into item ws cs).0 ≡ mapped length item
unfolding read_into mapped
counted (got s next) ws cs = refl
counted (stopped what place) ws cs = refl

module _ (item : Item Fault Sum) (ws : List ℕ) (cs : List ℤ) {ws' : List ℕ} {cs' : List ℤ} where
  pub into-stopped : (f : declared.Fault) → (item_of (Err f), ws', cs') ≡ read_into item ws cs → Alike (item_of (Err f)) item
  into-stopped f e = fault-met f length item (ap (λ x. x.0) e ∙ counted item ws cs)

  pub into-read : {count end : ℕ} → (got count end, ws', cs') ≡ read_into item ws cs → ReadAt item ws cs ws' cs' count end
  unfolding read_into
  into-read {count} {end} e =
      let from = came_from length item count end (sym (ap (λ x. x.0) e ∙ counted item ws cs)) in
      let held = e ∙ ap (λ i. read_into i ws cs) from.is in
      record { sum = from.value; read = from.is; many = from.shown; words_are = ap (λ x. x.1) held; coefficients_are = ap (λ x. x.2) held }

-- ---- The checks go on with the sum, or end with its fault.

module _ (bytes : List ℕ) (f : Sum → Judged Sum) (area : List ℕ) where
  pub sum-given : {s : Sum} → PackedSum bytes s → packed_into (and_then (judged SUM (read_whole variables bytes)) f) area ≡ packed_into (f s) area
  sum-given p = ap (λ j. packed_into j area) (then-good f (sum-judged p))

  pub sum-refused : {place : ℕ} → AtFault (read_whole variables bytes) place
      → packed_into (and_then (judged SUM (read_whole variables bytes)) f) area ≡ outcome (refused SUM place) area
  unfolding packed_into
  sum-refused a = ap (λ j. packed_into j area) (then-fails f (fault-judged SUM a))

-- ---- The result is written.

module _ (s : Sum) (count : ℕ) (ws : List ℕ) (cs : List ℤ) (area : List ℕ) (held : first_terms count ws cs ≡ s) (accepted : Accepted variables s) (room : most_bytes variables ≤ length area) where
  pub result_room : 0 + length (packed (first_terms count ws cs)) ≤ length area
  result_room = rw held (omega (arith, packed-most variables s accepted))

  pub result-written : {n : ℕ} {area' : List ℕ} → n ≡ 0 + length (packed (first_terms count ws cs)) → area' ≡ sets area 0 (packed (first_terms count ws cs))
      → outcome (done n) area' ≡ packed_into (good s) area
  unfolding packed_into
  result-written there now =
      let bytes = packed (first_terms count ws cs) in
      let stands : sets area 0 bytes ≡ written bytes area = rw (zero-add (length bytes)) at (sets-eq bytes area 0 result_room) in
      ap₂ (λ (m : ℕ) (l : List ℕ). outcome (done m) l) (there ∙ zero-add (length bytes)) (now ∙ stands)
      ∙ ap (λ (l : Sum). packed_into (good l) area) held
