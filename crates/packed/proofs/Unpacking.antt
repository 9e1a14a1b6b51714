-- What the readers of a whole sum and `unpack` leave behind, once the terms stand in arrays of the caller's own.
use mathlib.Core.Path.{◌≡◌, refl, sym, ◌∙◌, ap, ap₂, subst}
use mathlib.Core.List.{List, []}
use Prim.Native.Nat.{ℕ, ◌≤◌, ◌<◌}
use native.Mathlib.Omega.{arith}
use borrow.Author.Tests.{le-leb, lt-leb}
use lib.Dec.{leb, leb→le, le→leb}
use lib.IntN.{ℤ, pos}
use lib.ListN.{length, take, length-map, length-replicate, replicate}
use Rattle.algebra.specs.Limits.{variables, most_terms}
use Rattle.algebra.specs.Sum.{Term, Sum}
use Rattle.algebra.specs.Held.{words_of, coefficients_of}
use Rattle.algebra.specs.Word.{word}
use Rattle.answers.specs.Refusals.{ROOM, SUM}
use Rattle.answers.specs.Answers.{Told, Told.done, Told.refused, outcome}
use Rattle.answers.specs.Areas.{written, cleared}
use Rattle.std.specs.Prelude.{Some}
use Rattle.answers.proofs.Judging.{refused-done, done-same}
use Rattle.answers.proofs.Writes.{written-front, written_over}
use Rattle.numbers.specs.Item.{Item, Item.got, Item.stopped, Fault, Fault.bad}
use Rattle.numbers.proofs.Items.{Alike, Alike.both, alike_then, then-got, provided-yes, provided-no}
use Rattle.packed.specs.ReadSum.{read_terms, read_sum, read_whole}
use Rattle.packed.specs.Inside.Held.{read_into, read_count, read_rest, fault}
use Rattle.packed.specs.Inside.Arrays.{Takes}
use Rattle.packed.specs.Whole.{judged}
use Rattle.packed.specs.Result.{held_into}
use Rattle.packed.specs.Inside.Arrays.{whole_into}
use Rattle.packed.specs.Unpack.{unpack}
use Rattle.packed.proofs.TakeSum.{sum-split, sum-terms, whole_split, whole-rest, terms-many, rest-many}
use Rattle.packed.proofs.Taking.{ReadAt, taken-read}

-- ---- What two arrays hold goes to two areas.

module _ {item : Item Fault Sum} {ws₀ : List ℕ} {cs₀ : List ℤ} {ws : List ℕ} {cs : List ℤ} {n end : ℕ} (t : ReadAt item ws₀ cs₀ ws cs n end) {count : ℕ} (many : length t.sum ≡ count) where
  words-first : (take count ws ≡ words_of t.sum) × (count ≤ length ws)
  words-first = written-front (words_of t.sum) ws₀ t.words_are (length-map t.sum _ ∙ many)

  coefficients-first : (take count cs ≡ coefficients_of t.sum) × (count ≤ length cs)
  coefficients-first = written-front (coefficients_of t.sum) cs₀ t.coefficients_are (length-map t.sum _ ∙ many)

-- ---- `read_sum`.

pub into-stops : {x : Item Fault ℕ} {all : Item Fault Sum} (ws : List ℕ) (cs : List ℤ) → Alike x all → (x, ws, cs) ≡ read_into all ws cs
unfolding read_into
into-stops ws cs both = refl

module _ (s : List ℕ) (at : ℕ) where
  -- a fault of the count, or of the terms, is one of the sum
  pub count-faulty : {x : Item Fault ℕ} → Alike x (read_count s at) → Alike x (read_sum variables s at)
  count-faulty {x} a = subst (Alike x) (sym (sum-split variables s at)) (alike_then _ a)

  module _ {count next : ℕ} (counted : read_count s at ≡ got count next) where
    pub terms-faulty : {x : Item Fault ℕ} → Alike x (read_terms variables count [] s next) → Alike x (read_sum variables s at)
    terms-faulty {x} a = subst (Alike x) (sym (sum-terms variables s at counted)) a

    pub into-areas : {ws₀ : List ℕ} {cs₀ : List ℤ} {ws : List ℕ} {cs : List ℤ} {n end : ℕ} → ReadAt (read_terms variables count [] s next) ws₀ cs₀ ws cs n end
        → (area : List ℕ) (area-cs : List ℤ) {area' : List ℕ} {area-cs' : List ℤ} → area' ≡ written (take count ws) area → area-cs' ≡ written (take count cs) area-cs
        → (got n end, area', area-cs') ≡ read_into (read_sum variables s at) area area-cs
    unfolding read_into
    into-areas {n} {end} t area area-cs words_are coefficients_are =
        let many = terms-many variables count [] t.sum s next end t.read in
        let first : got n end ≡ got (length t.sum) end = ap (λ (k : ℕ). got k end) (sym t.many) in
        let words = words_are ∙ ap (λ l. written l area) (words-first t many).0 in
        let coefficients = coefficients_are ∙ ap (λ l. written l area-cs) (coefficients-first t many).0 in
        (λ i. (first i, words i, coefficients i)) ∙ ap (λ item. read_into item area area-cs) (sym (sum-terms variables s at counted ∙ t.read))

-- ---- `take_whole`: what follows the terms is tested too.

pub whole-stops : {x : Item Fault ℕ} {all : Item Fault Sum} {t : Told} (count : ℕ) (ws : List ℕ) (cs : List ℤ) {ws' : List ℕ} {cs' : List ℤ} → Alike x all → t ≡ fault SUM x
    → (ws' ≡ cleared 0 count ws) × (cs' ≡ cleared (pos 0) count cs) → outcome t (ws', cs') ≡ whole_into count (judged SUM all) ws cs
unfolding whole_into
whole-stops count ws cs both says clear = rw (says, clear.0, clear.1)

pub rest-stops : {x : Item Fault ℕ} (count : ℕ) (s : List ℕ) (at : ℕ) → Alike x (read_terms variables count [] s at) → Alike x (read_rest variables count s at)
unfolding read_rest
rest-stops count s at a = alike_then _ a

module _ (count : ℕ) (s : List ℕ) (at : ℕ) {ws₀ : List ℕ} {cs₀ : List ℤ} {ws : List ℕ} {cs : List ℤ} {n end : ℕ} (t : ReadAt (read_terms variables count [] s at) ws₀ cs₀ ws cs n end) where
  all-many : length t.sum ≡ count
  all-many = terms-many variables count [] t.sum s at end t.read

  pub left_over : {ws' : List ℕ} {cs' : List ℤ} → end < length s → ws' ≡ cleared 0 count ws → cs' ≡ cleared (pos 0) count cs
      → outcome (refused SUM end) (ws', cs') ≡ whole_into count (judged SUM (read_rest variables count s at)) ws₀ cs₀
  unfolding read_rest whole_into
  left_over {ws'} {cs'} h words coefficients =
      let over = provided-no bad end _ (leb (length s) end) (λ k. omega (arith, leb→le (length s) end k)) in
      let zeros : List ℕ = replicate count 0 in
      let fewer-words : length (words_of t.sum) ≤ length zeros = omega (arith, length-map t.sum (λ (u : Term). word u.pattern), all-many, length-replicate {A = ℕ} count 0) in
      let fewer-coefficients : length (coefficients_of t.sum) ≤ length (replicate count (pos 0)) = omega (arith, length-map t.sum (λ (u : Term). u.coefficient), all-many, length-replicate count (pos 0)) in
      let ws-are : ws' ≡ cleared 0 count ws₀ = words ∙ ap (cleared 0 count) t.words_are ∙ written_over zeros (words_of t.sum) ws₀ fewer-words in
      let cs-are : cs' ≡ cleared (pos 0) count cs₀ = coefficients ∙ ap (cleared (pos 0) count) t.coefficients_are ∙ written_over (replicate count (pos 0)) (coefficients_of t.sum) cs₀ fewer-coefficients in
      ap₂ (λ (l : List ℕ) (m : List ℤ). outcome (refused SUM end) (l, m)) ws-are cs-are
      ∙ ap (λ r. whole_into count (judged SUM r) ws₀ cs₀) (sym (then-got _ t.read ∙ over))

  pub whole-read : length s ≤ end → outcome (done count) (ws, cs) ≡ whole_into count (judged SUM (read_rest variables count s at)) ws₀ cs₀
  unfolding read_rest whole_into
  whole-read h =
      let all = provided-yes bad end _ (leb (length s) end) (le→leb (length s) end h) in
      (λ i. outcome (done (sym all-many i)) (t.words_are i, t.coefficients_are i))
      ∙ ap (λ r. whole_into count (judged SUM r) ws₀ cs₀) (sym (then-got _ t.read ∙ all))

-- good terms that end with the bytes
pub whole-good : {count : ℕ} {s : List ℕ} {at end : ℕ} {ws₀ : List ℕ} {cs₀ : List ℤ} {ws : List ℕ} {cs : List ℤ} → Takes count s at (Some end) ws₀ cs₀ ws cs → length s ≤ end
    → outcome (done count) (ws, cs) ≡ whole_into count (judged SUM (read_rest variables count s at)) ws₀ cs₀
whole-good {count} {s} {at} {end} {ws₀} {cs₀} t h = whole-read count s at (taken-read count _ ws₀ cs₀ (t.are end refl)) h

-- ---- What a caller of `take_whole` knows.

module _ (count : ℕ) (s : List ℕ) (at : ℕ) (ws : List ℕ) (cs : List ℤ) {ws' : List ℕ} {cs' : List ℤ} where
  -- the sum that was read
  pub whole-done : {n : ℕ} → outcome (done n) (ws', cs') ≡ whole_into count (judged SUM (read_rest variables count s at)) ws cs
      → (end : ℕ) × (n ≡ count) × (ReadAt (read_rest variables count s at) ws cs ws' cs' count end)
  unfolding whole_into
  whole-done {n} e = go (read_rest variables count s at) refl e
    where
      go : (item : Item Fault Sum) → read_rest variables count s at ≡ item → outcome (done n) (ws', cs') ≡ whole_into count (judged SUM item) ws cs
          → (end : ℕ) × (n ≡ count) × (ReadAt (read_rest variables count s at) ws cs ws' cs' count end)
      go (got sum end) read f =
          let many = rest-many variables count sum s at end read in
          let all = done-same f in
          (end, all.0 ∙ many, record { sum = sum; read = read; many = many; words_are = ap (λ x. x.0) all.1; coefficients_are = ap (λ x. x.1) all.1 })
      go (stopped what place) read f = absurd (refused-done (ap (λ o. o.answer) (sym f)))

  -- the fault that was met
  pub whole-refused : {refusal p : ℕ} → outcome (refused refusal p) (ws', cs') ≡ whole_into count (judged SUM (read_rest variables count s at)) ws cs
      → (x : Item Fault ℕ) × (Alike x (read_rest variables count s at)) × (refused refusal p ≡ fault SUM x)
  unfolding whole_into
  whole-refused {refusal} {p} e = go (read_rest variables count s at) e
    where
      go : (item : Item Fault Sum) → outcome (refused refusal p) (ws', cs') ≡ whole_into count (judged SUM item) ws cs
          → (x : Item Fault ℕ) × (Alike x item) × (refused refusal p ≡ fault SUM x)
      go (got sum end) f = absurd (refused-done (ap (λ o. o.answer) f))
      go (stopped what place) f = (stopped what place, both, ap (λ o. o.answer) f)

-- ---- `unpack_by`.

both-refuse : {x : Item Fault ℕ} {all : Item Fault Sum} (ws : List ℕ) (cs : List ℤ) → Alike x all → outcome (fault SUM x) (ws, cs) ≡ held_into (judged SUM all) ws cs
unfolding held_into
both-refuse ws cs both = refl

module _ (count : ℕ) (s : List ℕ) (at : ℕ) (ws : List ℕ) (cs : List ℤ) {ws' : List ℕ} {cs' : List ℤ} (area : List ℕ) (area-cs : List ℤ) where
  pub areas-stay : {refusal p : ℕ} → outcome (refused refusal p) (ws', cs') ≡ whole_into count (judged SUM (read_rest variables count s at)) ws cs
      → outcome (refused refusal p) (area, area-cs) ≡ held_into (judged SUM (read_rest variables count s at)) area area-cs
  areas-stay e =
      let stop = whole-refused count s at ws cs e in
      ap (λ (t : Told). outcome t (area, area-cs)) stop.2 ∙ both-refuse area area-cs stop.1

  pub areas-hold : {n : ℕ} → outcome (done n) (ws', cs') ≡ whole_into count (judged SUM (read_rest variables count s at)) ws cs → {area' : List ℕ} {area-cs' : List ℤ} → area' ≡ written (take count ws') area → area-cs' ≡ written (take count cs') area-cs
      → outcome (done n) (area', area-cs') ≡ held_into (judged SUM (read_rest variables count s at)) area area-cs
  unfolding held_into
  areas-hold {n} e words_are coefficients_are =
      let whole = whole-done count s at ws cs e in
      let t = whole.2 in
      let says : done n ≡ done (length t.sum) = ap done (whole.1 ∙ sym t.many) in
      let words = words_are ∙ ap (λ l. written l area) (words-first t t.many).0 in
      let coefficients = coefficients_are ∙ ap (λ l. written l area-cs) (coefficients-first t t.many).0 in
      (λ i. outcome (says i) (words i, coefficients i)) ∙ ap (λ item. held_into (judged SUM item) area area-cs) (sym t.read)

-- ---- `unpack`.

module _ (bytes ws : List ℕ) (cs : List ℤ) where
  pub few_words : length ws < most_terms → outcome (refused ROOM 0) (ws, cs) ≡ unpack bytes ws cs
  unfolding unpack
  few_words h = rw (lt-leb most_terms (length ws) h)

  pub few_coefficients : most_terms ≤ length ws → length cs < most_terms → outcome (refused ROOM 0) (ws, cs) ≡ unpack bytes ws cs
  unfolding unpack
  few_coefficients h k = rw (le-leb most_terms (length ws) h, lt-leb most_terms (length cs) k)

  module _ (words_room : most_terms ≤ length ws) (coefficients_room : most_terms ≤ length cs) where
    pub has_room : unpack bytes ws cs ≡ held_into (judged SUM (read_whole variables bytes)) ws cs
    unfolding unpack
    has_room = rw (le-leb most_terms (length ws) words_room, le-leb most_terms (length cs) coefficients_room)

    pub unpack-stops : {x : Item Fault ℕ} {t : Told} → Alike x (read_count bytes 0) → t ≡ fault SUM x → outcome t (ws, cs) ≡ unpack bytes ws cs
    unpack-stops {x} a says = ap (λ (t : Told). outcome t (ws, cs)) says ∙ both-refuse ws cs (subst (Alike x) (sym (whole_split variables bytes)) (alike_then _ a)) ∙ sym has_room

    pub unpack-rest : {count next : ℕ} → read_count bytes 0 ≡ got count next → held_into (judged SUM (read_rest variables count bytes next)) ws cs ≡ unpack bytes ws cs
    unpack-rest counted = sym (has_room ∙ ap (λ r. held_into (judged SUM r) ws cs) (whole-rest variables bytes counted))
