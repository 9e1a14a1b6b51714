-- Every place that a reader of packed sums answers is near its start: a sum that is read takes only so many bytes, and one number more may
-- be looked at before it is found at fault.
use mathlib.Core.Path.{◌≡◌, refl, ◌∙◌, ap}
use mathlib.Core.Bool.{Bool, true, false, ◌&&◌}
use mathlib.Core.List.{List, [], ◌∷◌}
use Prim.Native.Nat.{ℕ, zero, suc, ◌+◌, ◌*◌, ◌≤◌, ◌<◌}
use native.Mathlib.Omega.{arith}
use native.Mathlib.Nat.{mul-suc, mul-le-mul_left}
use lib.Dec.{leb, leb→le}
use lib.IntN.{ℤ}
use lib.ListN.{length, get_or}
use Rattle.algebra.specs.Limits.{variables, largest_degree, most_terms}
use Rattle.algebra.specs.Sum.{term, Sum, weight}
use Rattle.answers.proofs.Judging.{done_refused}
use Rattle.numbers.specs.Item.{Item, Item.got, Item.stopped, Fault, Fault.cut, Fault.bad}
use Rattle.numbers.proofs.Items.{place_of}
use Rattle.numbers.specs.Number.{most_groups, number_bytes, read_number}
use Rattle.numbers.specs.Code.{decode}
use Rattle.numbers.proofs.Items.{end-place, place-then, place-mapped, place-provided, CutAt, fault-then, fault-mapped, fault-provided, fault-none, bad-cut}
use Rattle.numbers.proofs.Numbers.{number-written, number_cut, number-bad, number-length, number-one, number-two}
use Rattle.answers.specs.Refusals.{ROOM, SUM}
use Rattle.answers.specs.Answers.{Told.refused, outcome, check}
use Rattle.packed.specs.Whole.{judged}
use Rattle.packed.specs.Result.{held_into}
use Rattle.packed.specs.Unpack.{unpack}
use Rattle.packed.specs.Packed.{most_term_bytes, most_bytes}
use Rattle.packed.specs.ReadSum.{read_coefficient, read_exponents, read_term, read_terms, read_sum, read_whole}
use Rattle.packed.proofs.Sizes.{term-length}
use Rattle.packed.proofs.Trip.{term-written}

module _ (s : List ℕ) (byte : (i : ℕ) → get_or s i 0 < 256) where
  pub number-place : (at : ℕ) → place_of (read_number s at) ≤ at + most_groups
  number-place at = go (read_number s at) refl
    where
      go : (r : Item Fault ℕ) → read_number s at ≡ r → place_of r ≤ at + most_groups
      go (got v next) e = omega (arith, (number-written s at v next byte e).ends, number-length v)
      go (stopped cut place) e = omega (arith, (number_cut s at place e).1)
      go (stopped bad place) e = omega (arith, number-bad s at place e)

  -- the place after a number is known by its size
  number-next : (at v next : ℕ) → read_number s at ≡ got v next → next ≡ at + length (number_bytes v)
  number-next at v next e = (number-written s at v next byte e).ends

  exponents-place : (n d at : ℕ) → place_of (read_exponents n d s at) ≤ at + n + most_groups
  unfolding read_exponents
  exponents-place zero d at = omega arith
  exponents-place (suc n) d at =
      place-then (at + suc n + most_groups) (read_number s at) _ (omega (arith, number-place at)) (λ e next r.
      place-provided bad (at + suc n + most_groups) (leb (d + e) largest_degree) at _ (omega arith) (λ low.
      let small : e < 128 = omega (arith, leb→le (d + e) largest_degree low) in
      let one : next ≡ at + 1 = number-next at e next r ∙ rw (number-one e small) in
      let i : place_of (read_exponents n (d + e) s next) ≤ at + suc n + most_groups = omega (arith, one, exponents-place n (d + e) next) in
      place-mapped (at + suc n + most_groups) _ (read_exponents n (d + e) s next) i))

  coefficient-place : (before at : ℕ) → place_of (read_coefficient before s at) ≤ at + most_groups
  unfolding read_coefficient
  coefficient-place before at =
      place-then (at + most_groups) (read_number s at) _ (number-place at) (λ c next r.
      place-provided bad (at + most_groups) _ at _ (omega arith) (λ _. end-place (number-place at) r))

  term-place : (n : ℕ) (before : Sum) (at : ℕ) → place_of (read_term n before s at) ≤ at + most_term_bytes n + most_groups
  unfolding read_term
  term-place n before at =
      place-then (at + most_term_bytes n + most_groups) (read_coefficient (weight before) s at) _ (omega (arith, coefficient-place (weight before) at)) (λ c next r.
      let i : place_of (read_exponents n 0 s next) ≤ at + most_term_bytes n + most_groups = omega (arith, end-place (coefficient-place (weight before) at) r, exponents-place n 0 next) in
      place-then (at + most_term_bytes n + most_groups) (read_exponents n 0 s next) _ i (λ p end q.
      place-provided bad (at + most_term_bytes n + most_groups) _ at _ (omega arith) (λ _. end-place i q)))

  terms-place : (n left : ℕ) (before : Sum) (at : ℕ) → place_of (read_terms n left before s at) ≤ at + most_term_bytes n * left + most_groups
  unfolding read_terms
  terms-place n zero before at = omega arith
  terms-place n (suc left) before at =
      let most = at + most_term_bytes n * suc left + most_groups in
      let grow = mul-suc (most_term_bytes n) left in
      place-then most (read_term n before s at) _ (omega (arith, term-place n before at)) (λ t next r.
      let w = term-written s byte n before t at next r in
      let i : place_of (read_terms n left (t ∷ before) s next) ≤ most =
      omega (arith, w.stands.ends, term-length t w.fit, terms-place n left (t ∷ before) next) in
      place-mapped most _ (read_terms n left (t ∷ before) s next) i)

  pub sum-place : (n at : ℕ) → place_of (read_sum n s at) ≤ at + most_bytes n + most_groups
  unfolding read_sum
  sum-place n at =
      place-then (at + most_bytes n + most_groups) (read_number s at) _ (omega (arith, number-place at)) (λ count next r.
      place-provided bad (at + most_bytes n + most_groups) (leb count most_terms) at _ (omega arith) (λ few.
      let h = leb→le count most_terms few in
      omega (arith, number-next at count next r, number-two count (omega arith), terms-place n count [] next, mul-le-mul_left (most_term_bytes n) h)))

  pub whole-place : (n : ℕ) → place_of (read_whole n s) ≤ most_bytes n + most_groups
  unfolding read_whole
  whole-place n =
      let h : place_of (read_sum n s 0) ≤ most_bytes n + most_groups = omega (arith, sum-place n 0) in
      place-then (most_bytes n + most_groups) (read_sum n s 0) _ h (λ sum end r.
      place-provided bad (most_bytes n + most_groups) (leb (length s) end) end _ (end-place h r) (λ _. end-place h r))

  -- the place of every answer fits in two bytes, as the host's number needs it
  pub place-small : place_of (read_whole variables s) < 65536
  place-small = omega (arith, whole-place variables)

-- a cut is at the input's length
module _ (s : List ℕ) where
  number-end : (at : ℕ) → CutAt (length s) (read_number s at)
  number-end at p e = (number_cut s at p e).0

  exponents-end : (n d at : ℕ) → CutAt (length s) (read_exponents n d s at)
  unfolding read_exponents
  exponents-end zero d at = fault-none (length s) [] at
  exponents-end (suc n) d at =
      fault-then (length s) (read_number s at) _ (number-end at) (λ e next.
      fault-provided (length s) bad-cut (leb (d + e) largest_degree) at _ (fault-mapped (length s) _ (read_exponents n (d + e) s next) (exponents-end n (d + e) next)))

  terms-end : (n left : ℕ) (before : Sum) (at : ℕ) → CutAt (length s) (read_terms n left before s at)
  unfolding read_terms read_term read_coefficient
  terms-end n zero before at = fault-none (length s) [] at
  terms-end n (suc left) before at =
      fault-then (length s) (read_term n before s at) _ term-end (λ t next. fault-mapped (length s) _ (read_terms n left (t ∷ before) s next) (terms-end n left (t ∷ before) next))
    where
      term-end : CutAt (length s) (read_term n before s at)
      term-end =
          fault-then (length s) (read_coefficient (weight before) s at) _
          (fault-then (length s) (read_number s at) _ (number-end at) (λ c next. fault-provided (length s) bad-cut _ at _ (fault-none (length s) (decode c) next)))
          (λ c next. fault-then (length s) (read_exponents n 0 s next) _ (exponents-end n 0 next) (λ p end. fault-provided (length s) bad-cut _ at _ (fault-none (length s) (term c p) end)))

  pub sum-cut : (n at p : ℕ) → read_sum n s at ≡ stopped cut p → p ≡ length s
  unfolding read_sum
  sum-cut n at =
      fault-then (length s) (read_number s at) _ (number-end at) (λ count next. fault-provided (length s) bad-cut (leb count most_terms) at _ (terms-end n count [] next))

  pub whole-cut : (n p : ℕ) → read_whole n s ≡ stopped cut p → p ≡ length s
  unfolding read_whole
  whole-cut n = fault-then (length s) (read_sum n s 0) _ (sum-cut n 0) (λ sum end. fault-provided (length s) bad-cut (leb (length s) end) end _ (fault-none (length s) sum end))

-- the place of a refusal
refused-place : {Areas : Type 0} {r q p : ℕ} {x y : Areas} {k : ℕ} → outcome (refused r p) x ≡ outcome (refused q k) y → p ≡ k
refused-place {r = r} {q = q} {p = p} {k = k} e = let told : refused r p ≡ refused q k = ap (λ o. o.answer) e in cc

-- unpack's is below 65,536 too
pub unpack-place : (bytes ws : List ℕ) (cs : List ℤ) {r place : ℕ} {areas : List ℕ × List ℤ} → ((i : ℕ) → get_or bytes i 0 < 256)
    → unpack bytes ws cs ≡ outcome (refused r place) areas → place < 65536
unfolding unpack held_into
unpack-place bytes ws cs {r} {place} {areas} byte e =
    room (leb most_terms (length ws) && leb most_terms (length cs)) e
  where
    read : (item : Item Fault Sum) → place_of item < 65536
        → held_into (judged SUM item) ws cs ≡ outcome (refused r place) areas
        → place < 65536
    read (got s end) h e = absurd (done_refused e)
    read (stopped cut p) h e = omega (arith, refused-place e)
    read (stopped bad p) h e = omega (arith, refused-place e)

    room : (b : Bool)
        → check {Areas = List ℕ × List ℤ} b ROOM 0 (ws, cs) (held_into (judged SUM (read_whole variables bytes)) ws cs)
        ≡ outcome (refused r place) areas
        → place < 65536
    room true e = read (read_whole variables bytes) (place-small bytes byte) e
    room false e = omega (arith, refused-place e)
