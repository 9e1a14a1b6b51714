-- One coefficient, and the exponents of one pattern, as the code reads them.
use mathlib.Core.Path.{◌≡◌, refl, sym, ◌∙◌, ap, ap₂}
use mathlib.Core.List.{List, [], ◌∷◌, ◌++◌, append_assoc, append-nil}
use Prim.Native.Nat.{ℕ, suc, ◌+◌, ◌-◌, ◌^◌, ◌≤◌, ◌<◌}
use native.Mathlib.Omega.{arith}
use lib.Dec.{T, leb, leb→le, le→leb}
use lib.IntN.{ℤ, nat_abs}
use lib.ListN.{length, set, length-append}
use mir.Syntax.{w64}
use mir.Val.{of_z, to_z}
use mir.ValLaws.{to_z-of_z}
use Rattle.algebra.specs.Limits.{variables, largest_degree, largest_weight}
use Rattle.algebra.specs.Pattern.{Pattern, empty_pattern, times, degree}
use Rattle.algebra.specs.Inside.Filled.{filled}
use Rattle.algebra.specs.Word.{word, exponents, Valid}
use Rattle.algebra.proofs.Patterns.Laws.{filled-length, filled-degree, filled_next, alone-length, alone-degree, degree-append}
use Rattle.algebra.proofs.Patterns.Word.{word-valid, exponents-word}
use Rattle.numbers.specs.Item.{Item, Item.got, Item.stopped, mapped, Fault, Fault.bad}
use Rattle.numbers.specs.Number.{read_number}
use Rattle.numbers.specs.Code.{code, decode}
use Rattle.numbers.proofs.Items.{then-got, mapped-id, mapped-mapped, provided-yes, provided-no, Alike, alike_then, alike-mapped, alike_same}
use Rattle.numbers.proofs.Codes.{code-decode, decode-fits}
use Rattle.packed.specs.Judge.{weighs}
use Rattle.packed.specs.ReadSum.{read_coefficient, read_exponents}
use Rattle.packed.specs.Inside.Arrays.{word_for}
use Rattle.algebra.proofs.Numbers.Absolute.{no_size, some_size}
use Rattle.packed.proofs.Good.{weighs-some, weighs-light, weighs_is}

-- ---- A coefficient.

-- a code's number and its size, as the code holds them
pub number_is : (c : ℕ) {z : ℤ} → c < 2 ^ 64 → z ≡ decode c → to_z w64 (of_z w64 z) ≡ decode c
number_is c fits is = ap (λ (x : ℤ). to_z w64 (of_z w64 x)) is ∙ to_z-of_z w64 (decode c) (decode-fits c fits)

pub size_is : (c : ℕ) {z : ℤ} {size : ℕ} → c < 2 ^ 64 → z ≡ decode c → size ≡ nat_abs (to_z w64 (of_z w64 z)) → size ≡ nat_abs (decode c)
size_is c fits is e = e ∙ ap nat_abs (number_is c fits is)

module _ (weight : ℕ) (s : List ℕ) (at c next : ℕ) (read : read_number s at ≡ got c next) where
  refuse : (T (weighs weight (decode c)) → ⊥) → stopped bad at ≡ mapped code (read_coefficient weight s at)
  unfolding read_coefficient mapped
  refuse h = sym (ap (mapped code) (then-got _ read ∙ provided-no bad at _ (weighs weight (decode c)) h))

  pub coefficient-zero : nat_abs (decode c) ≡ 0 → stopped bad at ≡ mapped code (read_coefficient weight s at)
  coefficient-zero h = refuse (λ t. no_size (decode c) h (weighs-some weight (decode c) t))

  pub coefficient-heavy : largest_weight < weight + nat_abs (decode c) → stopped bad at ≡ mapped code (read_coefficient weight s at)
  coefficient-heavy h = refuse (λ t. omega (arith, weighs-light weight (decode c) t))

  pub coefficient-taken : (nat_abs (decode c) ≡ 0 → ⊥) → weight + nat_abs (decode c) ≤ largest_weight → got c next ≡ mapped code (read_coefficient weight s at)
  unfolding read_coefficient mapped
  coefficient-taken some light =
      sym (ap (mapped code) (then-got _ read ∙ provided-yes bad at _ (weighs weight (decode c)) (weighs_is weight (decode c) (some_size (decode c) some) light))
      ∙ ap (λ (k : ℕ). got k next) (code-decode c))

pub coefficient-stopped : (weight : ℕ) (s : List ℕ) (at : ℕ) {x : Item Fault ℕ} → Alike x (read_number s at) → x ≡ mapped code (read_coefficient weight s at)
unfolding read_coefficient
coefficient-stopped weight s at a = alike_same (alike-mapped code (alike_then _ a))

-- ---- Exponents.

-- what the loop keeps: p has been read, and what is left is read after it
pub record Reads (s : List ℕ) (at count : ℕ) (w d place v : ℕ) : Type 0 where
  pub p : Pattern
  pub left : read_exponents count 0 s at ≡ mapped (λ q. p ++ q) (read_exponents (count - v) d s place)
  pub many : length p ≡ v
  pub sum : degree p ≡ d
  pub low : d ≤ largest_degree
  pub shown : w ≡ word_for p
  pub inside : v ≤ count
  pub most : count ≤ variables

pub start : (s : List ℕ) (at count w : ℕ) → w ≡ word (empty_pattern variables) → count ≤ variables → Reads s at count w 0 at 0
unfolding degree
start s at count w e most =
    let all : count - 0 ≡ count = omega arith in
    record {
      p = [];
      left = rw all (sym (mapped-id (read_exponents count 0 s at)));
      many = refl;
      sum = refl;
      low = omega arith;
      shown = e;
      inside = omega arith;
      most = most;
    }

module _ {s : List ℕ} {at count w d place v : ℕ} (r : Reads s at count w d place v) where
  held-long : length (filled variables r.p) ≡ variables
  held-long = filled-length variables r.p (omega (arith, r.many, r.inside, r.most))

  held_low : degree (filled variables r.p) ≤ largest_degree
  held_low = omega (arith, filled-degree variables r.p, r.sum, r.low)

  held-is : exponents w ≡ filled variables r.p
  held-is = ap exponents r.shown ∙ exponents-word (filled variables r.p) held-long held_low

  -- what is left begins with a number
  next-left : v < count → read_exponents count 0 s at ≡ mapped (λ q. r.p ++ q) (read_exponents (suc (count - (v + 1))) d s place)
  next-left h =
      let one : count - v ≡ suc (count - (v + 1)) = omega arith in
      r.left ∙ ap (λ (n : ℕ). mapped (λ q. r.p ++ q) (read_exponents n d s place)) one

  pub stops : v < count → {x : Item Fault ℕ} → Alike x (read_number s place) → x ≡ mapped word_for (read_exponents count 0 s at)
  unfolding read_exponents
  stops h a = alike_same (alike-mapped word_for (alike-mapped _ (alike_then _ a))) ∙ ap (mapped word_for) (sym (next-left h))

  module _ (h : v < count) {e next : ℕ} (read : read_number s place ≡ got e next) where
    pub too-high : largest_degree < d + e → stopped bad place ≡ mapped word_for (read_exponents count 0 s at)
    unfolding read_exponents mapped
    too-high high =
        sym (ap (mapped word_for) (next-left h ∙ ap (mapped (λ q. r.p ++ q)) (then-got _ read ∙ provided-no bad place _ (leb (d + e) largest_degree) (λ t. omega (arith, leb→le (d + e) largest_degree t)))))

    module _ (fits : d + e ≤ largest_degree) where
      inside-all : v < variables
      inside-all = omega (arith, r.most)

      alone-low : degree (set (empty_pattern variables) v e) ≤ largest_degree
      alone-low = omega (arith, alone-degree variables v e inside-all)

      alone-is : {u : ℕ} → u ≡ word (set (empty_pattern variables) v e) → exponents u ≡ set (empty_pattern variables) v e
      alone-is is = ap exponents is ∙ exponents-word (set (empty_pattern variables) v e) (alone-length variables v e) alone-low

      -- what the product asks for
      pub asks : {u : ℕ} → u ≡ word (set (empty_pattern variables) v e) → (Valid w) × ((Valid u) × (degree (exponents w) + degree (exponents u) ≤ largest_degree))
      asks is = (
        rw r.shown (word-valid (filled variables r.p) held-long held_low),
        (
          rw is (word-valid (set (empty_pattern variables) v e) (alone-length variables v e) alone-low),
          rw (held-is, alone-is is) (omega (arith, filled-degree variables r.p, r.sum, alone-degree variables v e inside-all)),
        ),
      )

      pub again : {u w' : ℕ} → u ≡ word (set (empty_pattern variables) v e) → w' ≡ word (times (exponents w) (exponents u)) → Reads s at count w' (d + e) next (v + 1)
      unfolding read_exponents degree
      again {u} {w'} is product = record {
        p = r.p ++ (e ∷ []);
        left =
            next-left h
            ∙ ap (mapped (λ q. r.p ++ q)) (then-got _ read ∙ provided-yes bad place _ (leb (d + e) largest_degree) (le→leb (d + e) largest_degree fits))
            ∙ mapped-mapped (λ q. e ∷ q) (λ q. r.p ++ q) (read_exponents (count - (v + 1)) (d + e) s next)
            ∙ (λ i. mapped (λ q. sym (append_assoc r.p (e ∷ []) q) i) (read_exponents (count - (v + 1)) (d + e) s next));
        many = omega (arith, length-append r.p (e ∷ []), r.many);
        sum = omega (arith, degree-append r.p (e ∷ []), r.sum);
        low = fits;
        shown =
            product
            ∙ ap word (ap₂ times held-is (alone-is is ∙ ap (λ (k : ℕ). set (empty_pattern variables) k e) (sym r.many))
            ∙ filled_next variables r.p e (omega (arith, r.many, inside-all)));
        inside = omega arith;
        most = r.most;
      }

  pub ended : count ≤ v → got w place ≡ mapped word_for (read_exponents count 0 s at)
  unfolding read_exponents mapped
  ended h =
      let none : count - v ≡ 0 = omega arith in
      sym (ap (mapped word_for) (r.left ∙ ap (λ (n : ℕ). mapped (λ q. r.p ++ q) (read_exponents n d s place)) none)
      ∙ ap (λ (k : ℕ). got k place) (ap word_for (append-nil r.p) ∙ sym r.shown))
