-- What the loop over terms keeps: the terms before stand in the two arrays, and what is left is read after them.
use mathlib.Core.Path.{◌≡◌, refl, sym, ◌∙◌, ap, ap₂, subst}
use mathlib.Core.Bool.{true, false}
use mathlib.Core.List.{List, [], ◌∷◌, ◌++◌, map, map-append, append_assoc}
use Prim.Native.Nat.{ℕ, suc, ◌+◌, ◌-◌, ◌≤◌, ◌<◌}
use native.Mathlib.Omega.{arith}
use native.Mathlib.Nat.{add_comm}
use lib.IntN.{ℤ, nat_abs}
use lib.ListN.{length, take, set, length-set, length-map}
use Rattle.std.specs.Prelude.{Option, Some, None}
use Rattle.algebra.specs.declared.Pattern as declared
use Rattle.packed.specs.Inside.Last.{may_follow}
use Rattle.algebra.specs.Limits.{variables, largest_degree, largest_weight}
use Rattle.algebra.specs.Pattern.{degree}
use Rattle.algebra.specs.Inside.Filled.{filled}
use Rattle.algebra.specs.Sum.{Term, term, Sum, weight}
use Rattle.algebra.specs.Word.{exponents, Valid}
use Rattle.algebra.proofs.Patterns.Laws.{filled-length, filled-degree}
use Rattle.algebra.proofs.Patterns.Word.{word-valid, exponents-word}
use Rattle.answers.specs.Areas.{written}
use Rattle.answers.proofs.Writes.{written_next, written-kept}
use Rattle.numbers.specs.Item.{Item, Item.got, Item.stopped, provided, mapped, Fault, Fault.bad}
use Rattle.numbers.specs.Code.{code, decode}
use Rattle.numbers.proofs.Items.{then-got, mapped-id, mapped-mapped, through, passed, got-value, From, Alike, Alike.both, alike_then, alike-mapped, alike_same}
use Rattle.numbers.proofs.Codes.{decode-code}
use Rattle.packed.specs.Judge.{follows}
use Rattle.packed.specs.ReadSum.{read_coefficient, read_exponents, read_term, read_terms}
use Rattle.algebra.specs.Held.{coefficients_of}
use Rattle.packed.specs.Inside.Arrays.{word_for, words_for, Holds}
use Rattle.packed.proofs.Good.{weighs-light}
use Rattle.packed.proofs.Trip.{exponents-fit}
use Rattle.packed.proofs.Last.{Last, last_none, last_some}

-- ---- The terms before, the last of them first, put before the rest in their order.

abbrev onto : Sum → Sum → Sum
onto [] rest = rest
onto (t ∷ before) rest = onto before (t ∷ rest)

onto-rest : (before rest : Sum) → onto before rest ≡ onto before [] ++ rest
onto-rest [] rest = refl
onto-rest (t ∷ before) rest =
    onto-rest before (t ∷ rest)
    ∙ sym (append_assoc (onto before []) (t ∷ []) rest)
    ∙ ap (λ l. l ++ rest) (sym (onto-rest before (t ∷ [])))

onto-length : (before rest : Sum) → length (onto before rest) ≡ length before + length rest
onto-length [] rest = omega arith
onto-length (t ∷ before) rest = omega (arith, onto-length before (t ∷ rest))

-- one term more, in an area that holds f of each term
onto-written : {A : Type 0} (f : Term → A) (before : Sum) (t : Term) (area : List A) (k : ℕ) → length before ≡ k → k < length area
    → set (written (map f (onto before [])) area) k (f t) ≡ written (map f (onto (t ∷ before) [])) area
onto-written f before t area k e h =
    let long : length (map f (onto before [])) ≡ k = omega (arith, length-map (onto before []) f, onto-length before []) in
    ap (λ (i : ℕ). set (written (map f (onto before [])) area) i (f t)) (sym long)
    ∙ written_next (map f (onto before [])) area (f t) (omega arith)
    ∙ ap (λ l. written l area) (sym (map-append f (onto before []) (t ∷ [])) ∙ ap (map f) (sym (onto-rest before (t ∷ []))))

-- what met a fault has read no sum
no-sum : {A : Type 0} {all : Item Fault Sum} {x : Item Fault ℕ} {y : Item Fault A} → Alike x y → x ≡ mapped length all → {sum : Sum} {end : ℕ} → all ≡ got sum end → ⊥
unfolding mapped
no-sum both e is = let z : ◌≡◌ {A = ℕ} 0 1 = cc in omega arith

-- ---- The loop.

pub record Takes (s : List ℕ) (at n count : ℕ) (words₀ : List ℕ) (coefficients₀ : List ℤ) (words : List ℕ) (coefficients : List ℤ) (place total : ℕ) (last : Option declared.Pattern) (k : ℕ) : Type 0 where
  pub before : Sum
  pub left : read_terms n count [] s at ≡ mapped (onto before) (read_terms n (count - k) before s place)
  pub many : length before ≡ k
  pub weighed : total ≡ weight before
  pub light : total ≤ largest_weight
  pub last_is : Last n before last
  pub words_are : words ≡ written (words_for (onto before [])) words₀
  pub coefficients_are : coefficients ≡ written (coefficients_of (onto before [])) coefficients₀
  pub inside : k ≤ count
  pub most : n ≤ variables
  pub words_room : count ≤ length words₀
  pub coefficients_room : count ≤ length coefficients₀
  pub same_words : length words ≡ length words₀
  pub same_coefficients : length coefficients ≡ length coefficients₀

pub start : (s : List ℕ) (at n count : ℕ) (words : List ℕ) (coefficients : List ℤ) → n ≤ variables → count ≤ length words → count ≤ length coefficients
    → Takes s at n count words coefficients words coefficients at 0 None 0
unfolding weight
start s at n count words coefficients most enough room =
    let all : count - 0 ≡ count = omega arith in
    record {
      before = [];
      left = rw all (sym (mapped-id (read_terms n count [] s at)));
      many = refl;
      weighed = refl;
      light = omega arith;
      last_is = last_none n;
      words_are = refl;
      coefficients_are = refl;
      inside = omega arith;
      most = most;
      words_room = enough;
      coefficients_room = room;
      same_words = refl;
      same_coefficients = refl;
    }

module _ {s : List ℕ} {at n count : ℕ} {words₀ : List ℕ} {coefficients₀ : List ℤ} {words : List ℕ} {coefficients : List ℤ} {place total : ℕ} {last : Option declared.Pattern} {k : ℕ}
    (t : Takes s at n count words₀ coefficients₀ words coefficients place total last k) where
  -- whatever comes, only the first `count` places are other than before
  words_kept : words ≡ written (take count words) words₀
  words_kept =
      let many = length-map (onto t.before []) (λ (u : Term). word_for u.pattern) in
      written-kept (words_for (onto t.before [])) words₀ count t.words_are (omega (arith, many, onto-length t.before [], t.many, t.inside)) (omega (arith, t.words_room, t.same_words))

  coefficients_kept : coefficients ≡ written (take count coefficients) coefficients₀
  coefficients_kept =
      let many = length-map (onto t.before []) (λ (u : Term). u.coefficient) in
      written-kept (coefficients_of (onto t.before [])) coefficients₀ count t.coefficients_are (omega (arith, many, onto-length t.before [], t.many, t.inside)) (omega (arith, t.coefficients_room, t.same_coefficients))

  -- what is left begins with a term
  next-left : k < count → read_terms n count [] s at ≡ mapped (onto t.before) (read_terms n (suc (count - (k + 1))) t.before s place)
  next-left h =
      let one : count - k ≡ suc (count - (k + 1)) = omega arith in
      t.left ∙ ap (λ (i : ℕ). mapped (onto t.before) (read_terms n i t.before s place)) one

  -- a fault of the next term is one of the whole
  term-stops : k < count → {x : Item Fault ℕ} → Alike x (read_term n t.before s place) → x ≡ mapped length (read_terms n count [] s at)
  unfolding read_terms
  term-stops h a = alike_same (alike-mapped length (alike-mapped _ (alike_then _ a))) ∙ ap (mapped length) (sym (next-left h))

  pub first_stops : k < count → {x : Item Fault ℕ} → Alike x (read_coefficient total s place) → x ≡ mapped length (read_terms n count [] s at)
  unfolding read_term
  first_stops h {x} a = term-stops h (alike_then _ (subst (λ (n : ℕ). Alike x (read_coefficient n s place)) t.weighed a))

  module _ (h : k < count) {c next : ℕ} (first : From code (read_coefficient total s place) c next) where
    first-is : read_coefficient (weight t.before) s place ≡ got first.value next
    first-is = ap (λ (n : ℕ). read_coefficient n s place) (sym t.weighed) ∙ first.is

    pub rest-stops : {x : Item Fault ℕ} → Alike x (read_exponents n 0 s next) → x ≡ mapped length (read_terms n count [] s at)
    unfolding read_term
    rest-stops {x} a = term-stops h (subst (Alike x) (sym (then-got _ first-is)) (alike_then _ a))

    -- the coefficient, and the sum so far with it
    coefficient-is : decode c ≡ first.value
    coefficient-is = ap decode (sym first.shown) ∙ decode-code first.value

    pub heavier : total + nat_abs (decode c) ≤ largest_weight
    unfolding read_coefficient
    heavier =
        let number = through _ _ _ _ first.is in
        let judged = passed _ _ _ _ _ _ number.second in
        let same : decode number.value ≡ decode c = got-value judged.1 ∙ sym coefficient-is in
        rw same at (weighs-light total (decode number.value) judged.0)

    module _ {w end : ℕ} (rest : From word_for (read_exponents n 0 s next) w end) where
      p-fits : (length rest.value ≡ n) × (0 + degree rest.value ≤ largest_degree)
      p-fits = exponents-fit s n 0 rest.value next end (omega arith) rest.is

      long : length (filled variables rest.value) ≡ variables
      long = filled-length variables rest.value (omega (arith, p-fits.0, t.most))

      low : degree (filled variables rest.value) ≤ largest_degree
      low = let h = p-fits.1 in omega (arith, filled-degree variables rest.value)

      pub valid : Valid w
      valid = subst Valid rest.shown (word-valid (filled variables rest.value) long low)

      exponents-are : exponents w ≡ filled variables rest.value
      exponents-are = ap exponents (sym rest.shown) ∙ exponents-word (filled variables rest.value) long low

      -- the order's test, as the code makes it
      test-is : follows t.before rest.value ≡ may_follow last (exponents w)
      test-is = t.last_is.is rest.value p-fits.0 ∙ ap (may_follow last) (sym exponents-are)

      term-so-far : read_term n t.before s place ≡ provided (follows t.before rest.value) bad place (got (term first.value rest.value) end)
      unfolding read_term
      term-so-far = then-got _ first-is ∙ then-got _ rest.is

      pub disorder : may_follow last (exponents w) ≡ false → stopped bad place ≡ mapped length (read_terms n count [] s at)
      unfolding provided
      disorder e = term-stops h (subst (Alike (stopped bad place)) (sym (term-so-far ∙ rw (test-is ∙ e))) both)

      pub again : {total' : ℕ} {z : ℤ} → may_follow last (exponents w) ≡ true → z ≡ decode c → total' ≡ total + nat_abs (decode c)
          → Takes s at n count words₀ coefficients₀ (set words k w) (set coefficients k z) end total' (Some (record { 0 = w })) (k + 1)
      unfolding read_terms weight provided
      again {total'} {z} e coefficient grown = record {
        before = term first.value rest.value ∷ t.before;
        left =
            next-left h
            ∙ ap (mapped (onto t.before)) (then-got _ (term-so-far ∙ rw (test-is ∙ e)))
            ∙ mapped-mapped (λ l. term first.value rest.value ∷ l) (onto t.before) _;
        many = omega (arith, t.many);
        weighed = grown ∙ rw (coefficient-is, t.weighed) (add_comm (weight t.before) (nat_abs first.value));
        light = omega (arith, grown, heavier);
        last_is = last_some n t.before (term first.value rest.value) (record { 0 = w }) valid exponents-are p-fits.0;
        words_are =
            ap₂ (λ (l : List ℕ) (v : ℕ). set l k v) t.words_are (sym rest.shown)
            ∙ onto-written (λ (u : Term). word_for u.pattern) t.before (term first.value rest.value) words₀ k t.many (omega (arith, t.words_room));
        coefficients_are =
            ap₂ (λ (l : List ℤ) (v : ℤ). set l k v) t.coefficients_are (coefficient ∙ coefficient-is)
            ∙ onto-written (λ (u : Term). u.coefficient) t.before (term first.value rest.value) coefficients₀ k t.many (omega (arith, t.coefficients_room));
        inside = omega arith;
        most = t.most;
        words_room = t.words_room;
        coefficients_room = t.coefficients_room;
        same_words = length-set words k w ∙ t.same_words;
        same_coefficients = length-set coefficients k z ∙ t.same_coefficients;
      }

  -- at the end the terms before are all
  all_read : count ≤ k → read_terms n count [] s at ≡ got (onto t.before []) place
  unfolding read_terms mapped
  all_read h =
      let none : count - k ≡ 0 = omega arith in
      t.left ∙ ap (λ (i : ℕ). mapped (onto t.before) (read_terms n i t.before s place)) none

  pub ended : count ≤ k → (got count place ≡ mapped length (read_terms n count [] s at)) × (Holds count (read_terms n count [] s at) words₀ coefficients₀ words coefficients)
  unfolding mapped
  ended h = (
    sym (ap (mapped length) (all_read h) ∙ ap (λ (n : ℕ). got n place) (omega (arith, onto-length t.before [], t.many, t.inside))),
    record {
      words_kept = words_kept;
      coefficients_kept = coefficients_kept;
      words_are = λ sum end e. t.words_are ∙ ap (λ l. written (words_for l) words₀) (got-value (sym (all_read h) ∙ e));
      coefficients_are = λ sum end e. t.coefficients_are ∙ ap (λ l. written (coefficients_of l) coefficients₀) (got-value (sym (all_read h) ∙ e));
    },
  )

  -- a refusal says nothing more of the arrays: the terms were not all read
  pub refuses : {A : Type 0} {x : Item Fault ℕ} {y : Item Fault A} → Alike x y → x ≡ mapped length (read_terms n count [] s at)
      → (x ≡ mapped length (read_terms n count [] s at)) × (Holds count (read_terms n count [] s at) words₀ coefficients₀ words coefficients)
  refuses a e = (
    e,
    record {
      words_kept = words_kept;
      coefficients_kept = coefficients_kept;
      words_are = λ sum end is. absurd (no-sum a e is);
      coefficients_are = λ sum end is. absurd (no-sum a e is);
    },
  )
