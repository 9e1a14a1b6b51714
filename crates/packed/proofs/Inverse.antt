-- The operations `pack` and `unpack`, as their callers see them: exactly when each is done, and that each undoes the other.
use mathlib.Core.Path.{◌≡◌, refl, sym, ◌∙◌, ap, ap₂}
use mathlib.Core.Bool.{Bool, true, false, ◌&&◌}
use mathlib.Core.List.{List, [], ◌∷◌}
use Prim.Native.Nat.{ℕ, ◌≤◌, ◌<◌}
use native.Mathlib.Omega.{arith}
use lib.Dec.{T, leb, eqb, leb→le, eqb→eq}
use lib.IntN.{ℤ}
use lib.ListN.{length, get_or, take, length-map}
use lib.Seq.{length-take-le}
use Rattle.algebra.specs.Limits.{variables, largest_degree, most_terms}
use Rattle.algebra.specs.Sum.{Sum}
use Rattle.algebra.specs.Word.{terms, EachValid}
use lib.Ieee.Fits.{and_l, and_r}
use Rattle.algebra.proofs.Patterns.Word.{word-valid}
use Rattle.algebra.proofs.Sums.Held.{terms-again}
use Rattle.algebra.proofs.Sums.Every.{Every, Long, UpTo, degree-every}
use Rattle.algebra.proofs.Sums.Ordered.{parts}
use Rattle.answers.specs.Refusals.{SUM}
use Rattle.answers.specs.Answers.{Told.done, Outcome, outcome, check}
use Rattle.answers.specs.Areas.{written}
use Rattle.answers.proofs.Judging.{refused-done, done-same}
use Rattle.answers.proofs.Writes.{written-front}
use Rattle.numbers.specs.Item.{Item, Item.got, Item.stopped, Fault}
use Rattle.packed.specs.Packed.{packed, most_bytes}
use Rattle.algebra.specs.Accepted.{Accepted}
use Rattle.packed.specs.ReadSum.{read_whole}
use Rattle.packed.specs.Pack.{good_terms, pack}
use Rattle.algebra.specs.Held.{words_of, coefficients_of, first_terms}
use Rattle.packed.specs.Whole.{judged}
use Rattle.packed.specs.Result.{held_into}
use Rattle.packed.specs.Unpack.{unpack}
use Rattle.packed.specs.Promised.{Unpacks, PackFits, Packs}
use Rattle.packed.proofs.Good.{AllValid, each-valid, valid-each, accepted-good, good-terms}
use Rattle.packed.proofs.Trip.{whole-read, whole-written}
use Rattle.packed.proofs.Front.{front_length, front-words, front-coefficients}
use Rattle.packed.proofs.Unpacking.{has_room}
use Rattle.packed.proofs.Packing.{all_good, accepted}

-- where a test refuses, an operation that is done has passed it
done-passed : {Areas : Type 0} {k : ℕ} {y : Areas} (b : Bool) (x : Outcome Areas) (r place : ℕ) (a : Areas) → check b r place a x ≡ outcome (done k) y → T b × (x ≡ outcome (done k) y)
done-passed true x r place a e = (tt, e)
done-passed false x r place a e = absurd (refused-done (ap (λ o. o.answer) e))

-- ---- `unpack` is done exactly with the bytes of an accepted sum.

pub unpack-accepts : (s : Sum) (ws : List ℕ) (cs : List ℤ) → Accepted variables s → most_terms ≤ length ws → most_terms ≤ length cs
    → unpack (packed s) ws cs ≡ outcome (done (length s)) (written (words_of s) ws, written (coefficients_of s) cs)
unfolding held_into
unpack-accepts s ws cs a words_room coefficients_room = has_room (packed s) ws cs words_room coefficients_room ∙ rw (whole-read variables s a)

pub unpack-accepted : {bytes ws : List ℕ} {cs : List ℤ} {count : ℕ} {ws' : List ℕ} {cs' : List ℤ} → ((i : ℕ) → get_or bytes i 0 < 256)
    → unpack bytes ws cs ≡ outcome (done count) (ws', cs') → Unpacks bytes ws cs count ws' cs'
unfolding unpack held_into
unpack-accepted {bytes} {ws} {cs} {count} {ws'} {cs'} byte e =
    let words-fit = leb most_terms (length ws) in
    let coefficients-fit = leb most_terms (length cs) in
    let room = done-passed (words-fit && coefficients-fit) _ _ _ _ e in
    let words_room = leb→le most_terms (length ws) (and_l words-fit coefficients-fit room.0) in
    let coefficients_room = leb→le most_terms (length cs) (and_r words-fit coefficients-fit room.0) in
    go words_room coefficients_room (read_whole variables bytes) refl room.1
  where
    go : most_terms ≤ length ws → most_terms ≤ length cs → (r : Item Fault Sum) → read_whole variables bytes ≡ r
        → held_into (judged SUM r) ws cs
        ≡ outcome (done count) (ws', cs')
        → Unpacks bytes ws cs count ws' cs'
    go words_room coefficients_room (got s end) read e =
        let was = whole-written bytes byte variables s end read in
        let same = done-same e in
        record {
          sum = s;
          accepted = was.1;
          bytes_are = was.0;
          many = same.0;
          words_are = ap (λ x. x.0) (sym same.1);
          coefficients_are = ap (λ x. x.1) (sym same.1);
          words_room = words_room;
          coefficients_room = coefficients_room;
        }
    go words_room coefficients_room (stopped what place) read e = absurd (refused-done (ap (λ o. o.answer) e))

-- ---- `pack` is done exactly with the terms of an accepted sum.

pub pack-accepts : (s : Sum) (count : ℕ) (ws : List ℕ) (cs : List ℤ) (area : List ℕ) → Accepted variables s → EachValid (take count ws) → first_terms count ws cs ≡ s
    → count ≤ length ws → count ≤ length cs → most_bytes variables ≤ length area
    → pack count ws cs area ≡ outcome (done (length (packed s))) (written (packed s) area)
pack-accepts s count ws cs area a valid held words coefficients room =
    let many : length s ≡ count = ap length (sym held) ∙ front_length count ws cs words coefficients in
    let long = length-take-le count ws words in
    let alike : length (take count ws) ≡ length (take count cs) = long ∙ sym (length-take-le count cs coefficients) in
    let passed : PackFits count ws cs area = record { room = room; few = omega (arith, many, a.few); patterns_enough = words; coefficients_enough = coefficients } in
    let all-good' = good-terms [] (take count ws) (take count cs) (valid-each (take count ws) valid) alike (rw held (accepted-good variables s a)) ∙ long in
    sym (all_good passed all-good') ∙ rw held

pub pack-accepted : {count : ℕ} {ws : List ℕ} {cs : List ℤ} {area : List ℕ} {length-done : ℕ} {area' : List ℕ}
    → pack count ws cs area ≡ outcome (done length-done) area' → Packs count ws cs area length-done area'
unfolding pack
pack-accepted {count} {ws} {cs} {area} e =
    let words-fit = leb count (length ws) in
    let coefficients-fit = leb count (length cs) in
    let room = done-passed (leb (most_bytes variables) (length area)) _ _ _ _ e in
    let shape = done-passed (leb count most_terms && (words-fit && coefficients-fit)) _ _ _ _ room.1 in
    let good = done-passed (eqb (good_terms [] (take count ws) (take count cs)) count) _ _ _ _ shape.1 in
    let same = done-same good.1 in
    let both = and_r (leb count most_terms) (words-fit && coefficients-fit) shape.0 in
    let passed : PackFits count ws cs area = record {
      room = leb→le (most_bytes variables) (length area) room.0;
      few = leb→le count most_terms (and_l (leb count most_terms) (words-fit && coefficients-fit) shape.0);
      patterns_enough = leb→le count (length ws) (and_l words-fit coefficients-fit both);
      coefficients_enough = leb→le count (length cs) (and_r words-fit coefficients-fit both);
    } in
    let sum = accepted passed (eqb→eq (good_terms [] (take count ws) (take count cs)) count good.0) in
    record {
      fits = passed;
      valid = each-valid (take count ws) sum.0;
      accepted = sum.1;
      many = same.0;
      result_is = sym same.1;
    }

-- ---- Each undoes the other.

words_valid : (s : Sum) → Every (Long variables) s → Every (UpTo largest_degree) s → AllValid (words_of s)
words_valid [] long low = tt
words_valid (t ∷ s) long low = (word-valid t.pattern long.0 low.0, words_valid s long.1 low.1)

-- unpacking what was packed gives the terms again, in any areas with room
pub pack-unpack : (count : ℕ) (ws : List ℕ) (cs : List ℤ) (area : List ℕ) (length-done : ℕ) (area' : List ℕ)
    → pack count ws cs area ≡ outcome (done length-done) area'
    → (ws₀ : List ℕ) (cs₀ : List ℤ) → most_terms ≤ length ws₀ → most_terms ≤ length cs₀
    → unpack (take length-done area') ws₀ cs₀ ≡ outcome (done count) (written (take count ws) ws₀, written (take count cs) cs₀)
pack-unpack count ws cs area length-done area' e ws₀ cs₀ words_room coefficients_room =
    let p = pack-accepted e in
    let s = first_terms count ws cs in
    let bytes : take length-done area' ≡ packed s = (written-front (packed s) area p.result_is p.many).0 in
    let fits = p.fits in
    let words = front-words count ws cs fits.patterns_enough fits.coefficients_enough p.valid in
    let coefficients = front-coefficients count ws cs fits.patterns_enough fits.coefficients_enough in
    rw bytes (rw (words, coefficients, front_length count ws cs fits.patterns_enough fits.coefficients_enough) at (unpack-accepts s ws₀ cs₀ p.accepted words_room coefficients_room))

-- packing what was unpacked gives the bytes again, in any area with room
pub unpack-pack : (bytes ws : List ℕ) (cs : List ℤ) (count : ℕ) (ws' : List ℕ) (cs' : List ℤ) → ((i : ℕ) → get_or bytes i 0 < 256)
    → unpack bytes ws cs ≡ outcome (done count) (ws', cs')
    → (area : List ℕ) → most_bytes variables ≤ length area
    → pack count ws' cs' area ≡ outcome (done (length bytes)) (written bytes area)
unpack-pack bytes ws cs count ws' cs' byte e area room =
    let u = unpack-accepted byte e in
    let s = u.sum in
    let words = written-front (words_of s) ws u.words_are (length-map s _ ∙ u.many) in
    let coefficients = written-front (coefficients_of s) cs u.coefficients_are (length-map s _ ∙ u.many) in
    let long = (parts variables s u.accepted.is_ordered).long in
    let low = degree-every largest_degree s u.accepted.low in
    let held = ap₂ terms words.0 coefficients.0 ∙ terms-again s long low in
    rw u.bytes_are (pack-accepts s count ws' cs' area u.accepted (rw words.0 (each-valid (words_of s) (words_valid s long low))) held words.1 coefficients.1 room)
