-- Packing and unpacking are inverse, both ways.
use mathlib.Core.Path.{◌≡◌, refl, sym, ◌∙◌, ap, subst}
use mathlib.Core.List.{List, [], ◌∷◌, ◌++◌, append_assoc, append-nil}
use Prim.Native.Nat.{ℕ, zero, suc, ◌+◌, ◌^◌, ◌≤◌, ◌<◌}
use native.Mathlib.Omega.{arith}
use native.Mathlib.Nat.{zero-add}
use lib.Dec.{leb, leb→le, le→leb}
use lib.ListN.{length, get_or, drop, length-append, drop_of_length-le}
use lib.Seq.{drop-drop, drop-append_seam}
use Rattle.algebra.specs.Limits.{largest_degree, most_terms}
use Rattle.algebra.specs.Pattern.{Pattern, degree}
use Rattle.algebra.specs.Sum.{Term, Sum, weight}
use Rattle.numbers.specs.Item.{Item.got, Fault.bad}
use Rattle.numbers.specs.Number.{number_bytes, read_number}
use Rattle.numbers.specs.Code.{code, decode}
use Rattle.numbers.proofs.Items.{then-got, mapped-got, provided-yes, through, passed, came_from, got-value, got-next, carry}
use Rattle.numbers.proofs.Numbers.{number_read, number-written}
use Rattle.numbers.proofs.Codes.{code-decode, decode-code, code-size}
use Rattle.packed.specs.Packed.{exponent_bytes, term_bytes, bytes_of_terms, packed}
use Rattle.algebra.specs.Accepted.{Accepted}
use Rattle.packed.specs.Judge.{weighs, follows}
use Rattle.packed.specs.ReadSum.{read_coefficient, read_exponents, read_term, read_terms, read_sum, read_whole}
use Rattle.packed.proofs.Good.{Fit, Good, Good.none, Good.more, weighs-light, accepted-good, good-accepted}

-- a list that goes on with a and then b goes on, after a, with b
pub after : {A : Type 0} (s : List A) (at : ℕ) (a b : List A) → drop at s ≡ a ++ b → drop (at + length a) s ≡ b
after s at a b e = sym (drop-drop (length a) at s) ∙ ap (drop (length a)) e ∙ drop-append_seam a b

-- ---- What was packed is read again.

module _ (s : List ℕ) where
  exponents-read : (n d : ℕ) (p : Pattern) (at : ℕ) (rest : List ℕ) → length p ≡ n → d + degree p ≤ largest_degree
      → drop at s ≡ exponent_bytes p ++ rest → read_exponents n d s at ≡ got p (at + length (exponent_bytes p))
  unfolding read_exponents exponent_bytes degree
  exponents-read zero d [] at rest long low e = ap (got []) (omega arith)
  exponents-read zero d (x ∷ p) at rest long low e = absurd (omega arith)
  exponents-read (suc n) d [] at rest long low e = absurd (omega arith)
  exponents-read (suc n) d (x ∷ p) at rest long low e =
      let e' : drop at s ≡ number_bytes x ++ (exponent_bytes p ++ rest) = e ∙ append_assoc (number_bytes x) (exponent_bytes p) rest in
      let r = number_read s at x (exponent_bytes p ++ rest) (omega arith) e' in
      let i = exponents-read n (d + x) p (at + length (number_bytes x)) rest (omega arith) (omega arith) (after s at (number_bytes x) (exponent_bytes p ++ rest) e') in
      then-got _ r
      ∙ provided-yes bad at _ (leb (d + x) largest_degree) (le→leb (d + x) largest_degree (omega arith))
      ∙ mapped-got (λ q. x ∷ q) i
      ∙ ap (got (x ∷ p)) (omega (arith, length-append (number_bytes x) (exponent_bytes p)))

  term-read : (n : ℕ) (before : Sum) (t : Term) (at : ℕ) (rest : List ℕ) → Fit n before t → drop at s ≡ term_bytes t ++ rest
      → read_term n before s at ≡ got t (at + length (term_bytes t))
  unfolding read_term read_coefficient term_bytes
  term-read n before t at rest f e =
      let c = t.coefficient in
      let p = t.pattern in
      let e' : drop at s ≡ number_bytes (code c) ++ (exponent_bytes p ++ rest) = e ∙ append_assoc (number_bytes (code c)) (exponent_bytes p) rest in
      let small : code c < 2 ^ 64 = omega (arith, code-size c, weighs-light (weight before) c f.light) in
      let r = number_read s at (code c) (exponent_bytes p ++ rest) small e' in
      let i = exponents-read n 0 p (at + length (number_bytes (code c))) rest f.long (omega (arith, f.low)) (after s at (number_bytes (code c)) (exponent_bytes p ++ rest) e') in
      then-got _ (then-got _ r ∙ rw (decode-code c) (provided-yes bad at _ (weighs (weight before) c) f.light))
      ∙ then-got _ i
      ∙ provided-yes bad at _ (follows before p) f.after
      ∙ ap (got t) (omega (arith, length-append (number_bytes (code c)) (exponent_bytes p)))

  pub terms-read : (n : ℕ) (before sum : Sum) (at : ℕ) (rest : List ℕ) → Good n before sum → drop at s ≡ bytes_of_terms sum ++ rest
      → read_terms n (length sum) before s at ≡ got sum (at + length (bytes_of_terms sum))
  unfolding read_terms bytes_of_terms
  terms-read n before [] at rest g e = ap (got []) (omega arith)
  terms-read n before (t ∷ sum) at rest (more f g) e =
      let e' : drop at s ≡ term_bytes t ++ (bytes_of_terms sum ++ rest) = e ∙ append_assoc (term_bytes t) (bytes_of_terms sum) rest in
      let i = terms-read n (t ∷ before) sum (at + length (term_bytes t)) rest g (after s at (term_bytes t) (bytes_of_terms sum ++ rest) e') in
      then-got _ (term-read n before t at (bytes_of_terms sum ++ rest) f e')
      ∙ mapped-got (λ rest. t ∷ rest) i
      ∙ ap (got (t ∷ sum)) (omega (arith, length-append (term_bytes t) (bytes_of_terms sum)))

  -- a packed sum at any place of the bytes
  pub sum-read : (n : ℕ) (sum : Sum) (at : ℕ) (rest : List ℕ) → Accepted n sum → drop at s ≡ packed sum ++ rest
      → read_sum n s at ≡ got sum (at + length (packed sum))
  unfolding read_sum packed
  sum-read n sum at rest a e =
      let e' : drop at s ≡ number_bytes (length sum) ++ (bytes_of_terms sum ++ rest) = e ∙ append_assoc (number_bytes (length sum)) (bytes_of_terms sum) rest in
      let r = number_read s at (length sum) (bytes_of_terms sum ++ rest) (omega (arith, a.few)) e' in
      let i = terms-read n [] sum (at + length (number_bytes (length sum))) rest (accepted-good n sum a) (after s at (number_bytes (length sum)) (bytes_of_terms sum ++ rest) e') in
      then-got _ r
      ∙ provided-yes bad at _ (leb (length sum) most_terms) (le→leb (length sum) most_terms a.few)
      ∙ i
      ∙ ap (got sum) (omega (arith, length-append (number_bytes (length sum)) (bytes_of_terms sum)))

-- unpacking what packing gives returns that sum
pub whole-read : (n : ℕ) (sum : Sum) → Accepted n sum → read_whole n (packed sum) ≡ got sum (length (packed sum))
unfolding read_whole
whole-read n sum a =
    then-got _ (sum-read (packed sum) n sum 0 [] a (sym (append-nil (packed sum))))
    ∙ rw (zero-add (length (packed sum)))
    (provided-yes bad (length (packed sum)) _ (leb (length (packed sum)) (length (packed sum))) (le→leb (length (packed sum)) (length (packed sum)) (omega arith)))

-- ---- What is read was packed.

-- from `at` up to `end` stand these bytes
pub record BytesAt (s : List ℕ) (at : ℕ) (bytes : List ℕ) (end : ℕ) : Type 0 where
  pub bytes_are : drop at s ≡ bytes ++ drop end s
  pub ends : end ≡ at + length bytes

pub stands-none : (s : List ℕ) (at : ℕ) → BytesAt s at [] at
stands-none s at = record { bytes_are = refl; ends = omega arith }

pub stands-both : {s : List ℕ} {at : ℕ} {a : List ℕ} {next : ℕ} {b : List ℕ} {end : ℕ} → BytesAt s at a next → BytesAt s next b end → BytesAt s at (a ++ b) end
stands-both {s} {at} {a} {next} {b} {end} h k = record {
  bytes_are = h.bytes_are ∙ ap (λ l. a ++ l) k.bytes_are ∙ sym (append_assoc a b (drop end s));
  ends = omega (arith, h.ends, k.ends, length-append a b);
}

-- exponents that were read are as many as asked for, and within the degree
pub exponents-fit : (s : List ℕ) (n d : ℕ) (p : Pattern) (at end : ℕ) → d ≤ largest_degree → read_exponents n d s at ≡ got p end
    → (length p ≡ n) × (d + degree p ≤ largest_degree)
unfolding read_exponents degree
exponents-fit s zero d p at end low e = carry (λ p end. (length p ≡ zero) × (d + degree p ≤ largest_degree)) e (refl, omega arith)
exponents-fit s (suc n) d p at end low e =
    let first = through _ _ _ _ e in
    let judged = passed _ _ _ _ _ _ first.second in
    let rest = came_from _ _ _ _ judged.1 in
    let i = exponents-fit s n (d + first.value) rest.value first.next end (leb→le (d + first.value) largest_degree judged.0) rest.is in
    subst (λ p. (length p ≡ suc n) × (d + degree p ≤ largest_degree)) rest.shown (ap suc i.0, omega (arith, i.1))

module _ (s : List ℕ) (byte : (i : ℕ) → get_or s i 0 < 256) where
  pub number-stands : {at v next : ℕ} → read_number s at ≡ got v next → BytesAt s at (number_bytes v) next
  number-stands {at} {v} {next} e = let w = number-written s at v next byte e in record { bytes_are = w.bytes; ends = w.ends }

  exponents-written : (n d : ℕ) (p : Pattern) (at end : ℕ) → read_exponents n d s at ≡ got p end → BytesAt s at (exponent_bytes p) end
  unfolding read_exponents exponent_bytes
  exponents-written zero d p at end e = carry (λ p. BytesAt s at (exponent_bytes p)) e (stands-none s at)
  exponents-written (suc n) d p at end e =
      let first = through _ _ _ _ e in
      let rest = came_from _ _ _ _ (passed _ _ _ _ _ _ first.second).1 in
      let i = exponents-written n (d + first.value) rest.value first.next end rest.is in
      subst (λ p. BytesAt s at (exponent_bytes p) end) rest.shown (stands-both (number-stands first.first) i)

  pub record OneTerm (n : ℕ) (before : Sum) (at : ℕ) (t : Term) (end : ℕ) : Type 0 where
    pub fit : Fit n before t
    pub stands : BytesAt s at (term_bytes t) end

  pub term-written : (n : ℕ) (before : Sum) (t : Term) (at end : ℕ) → read_term n before s at ≡ got t end → OneTerm n before at t end
  unfolding read_term read_coefficient term_bytes
  term-written n before t at end e =
      let item = through _ _ _ _ e in
      let number = through _ _ _ _ item.first in
      let judged = passed _ _ _ _ _ _ number.second in
      let c = number.value in
      let exps = through _ _ _ _ item.second in
      let last = passed _ _ _ _ _ _ exps.second in
      let x = exponents-fit s n 0 exps.value item.next exps.next (omega arith) exps.first in
      let same : decode c ≡ item.value = got-value judged.1 in
      let bytes : number_bytes (code item.value) ≡ number_bytes c = ap number_bytes (ap code (sym same) ∙ code-decode c) in
      carry (OneTerm n before at) last.1
      record {
        fit = record { light = rw same at judged.0; low = let h = x.1 in omega arith; after = last.0; long = x.0 };
        stands = rw bytes (stands-both (rw (got-next judged.1) at (number-stands number.first)) (exponents-written n 0 exps.value item.next exps.next exps.first));
      }

  record Terms (n left : ℕ) (before : Sum) (at : ℕ) (sum : Sum) (end : ℕ) : Type 0 where
    good : Good n before sum
    many : length sum ≡ left
    stands : BytesAt s at (bytes_of_terms sum) end

  terms-written : (n left : ℕ) (before sum : Sum) (at end : ℕ) → read_terms n left before s at ≡ got sum end → Terms n left before at sum end
  unfolding read_terms bytes_of_terms
  terms-written n zero before sum at end e =
      carry (Terms n zero before at) e record { good = none; many = refl; stands = stands-none s at }
  terms-written n (suc left) before sum at end e =
      let first = through _ _ _ _ e in
      let rest = came_from _ _ _ _ first.second in
      let t = term-written n before first.value at first.next first.first in
      let i = terms-written n left (first.value ∷ before) rest.value first.next end rest.is in
      subst (λ sum. Terms n (suc left) before at sum end) rest.shown
      record { good = more t.fit i.good; many = ap suc i.many; stands = stands-both t.stands i.stands }

  pub record Packed (n at : ℕ) (sum : Sum) (end : ℕ) : Type 0 where
    pub accepted : Accepted n sum
    pub stands : BytesAt s at (packed sum) end

  pub sum-written : (n : ℕ) (sum : Sum) (at end : ℕ) → read_sum n s at ≡ got sum end → Packed n at sum end
  unfolding read_sum packed
  sum-written n sum at end e =
      let count = through _ _ _ _ e in
      let judged = passed _ _ _ _ _ _ count.second in
      let t = terms-written n count.value [] sum count.next end judged.1 in
      let few : length sum ≤ most_terms = omega (arith, t.many, leb→le count.value most_terms judged.0) in
      record {
        accepted = good-accepted n sum few t.good;
        stands = rw t.many (stands-both (number-stands count.first) t.stands);
      }

  -- bytes that unpack are exactly the bytes that packing gives
  pub whole-written : (n : ℕ) (sum : Sum) (end : ℕ) → read_whole n s ≡ got sum end → (s ≡ packed sum) × (Accepted n sum)
  unfolding read_whole
  whole-written n sum end e =
      let read = through _ _ _ _ e in
      let last = passed _ _ _ _ _ _ read.second in
      let w = sum-written n read.value 0 read.next read.first in
      let none : drop read.next s ≡ [] = drop_of_length-le s (leb→le (length s) read.next last.0) in
      carry (λ sum end. (s ≡ packed sum) × (Accepted n sum)) last.1
      (w.stands.bytes_are ∙ ap (λ l. packed read.value ++ l) none ∙ append-nil (packed read.value), w.accepted)
