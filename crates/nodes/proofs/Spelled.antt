-- Three numbers are read as a node exactly when they are that node's numbers.
use mathlib.Core.Path.{◌≡◌, refl, sym, ◌∙◌, ap, ap₂, subst, subst₂}
use mathlib.Core.Bool.{Bool, true, false, ◌&&◌, and-false}
use mathlib.Core.List.{List, [], ◌∷◌}
use Prim.Native.Nat.{ℕ, zero, suc}
use native.Mathlib.Omega.{arith}
use lib.Dec.{T}
use lib.IntN.{ℤ, pos, negsuc, nat_abs}
use lib.ListN.{length, get_or}
use Rattle.std.proofs.lemmas.Bool.Decides.{nat_tests}
use Rattle.algebra.specs.Limits.{variables, largest_degree}
use Rattle.algebra.specs.Sum.{is_zero}
use Rattle.answers.specs.Refusals.{NODE}
use Rattle.answers.specs.Judge.{Judged, Judged.good, Judged.fails, holding}
use Rattle.nodes.specs.Node.{Kind, Kind.integer, Kind.variable, Kind.sum, Kind.product, Kind.power, numbers_of, is_node, is_in, is_kind, read_node}

-- what is read from a list of three numbers
abbrev pub read_numbers : ℕ → List ℤ → Judged Kind
read_numbers i numbers = read_node i (get_or numbers 0 (pos 0)) (get_or numbers 1 (pos 0)) (get_or numbers 2 (pos 0))

pub three-are : (numbers : List ℤ) → length numbers ≡ 3 → numbers ≡ get_or numbers 0 (pos 0) ∷ get_or numbers 1 (pos 0) ∷ get_or numbers 2 (pos 0) ∷ []
three-are [] h = absurd (omega arith)
three-are (x ∷ []) h = absurd (omega arith)
three-are (x ∷ y ∷ []) h = absurd (omega arith)
three-are (x ∷ y ∷ z ∷ []) h = refl
three-are (x ∷ y ∷ z ∷ a ∷ l) h = absurd (omega arith)

pub numbers-three : (k : Kind) → length (numbers_of k) ≡ 3
numbers-three (integer n) = refl
numbers-three (variable v) = refl
numbers-three (sum a b) = refl
numbers-three (product a b) = refl
numbers-three (power a e) = refl

-- ---- A node is read from its numbers.

pub numbers-read : (i : ℕ) (k : Kind) → T (is_node i k) → read_numbers i (numbers_of k) ≡ good k
unfolding read_node is_kind is_in holding
numbers-read i (integer n) t = refl
numbers-read i (variable v) t = grind (arith, nat_tests)
numbers-read i (sum a b) t = grind (arith, nat_tests)
numbers-read i (product a b) t = grind (arith, nat_tests)
numbers-read i (power a e) t = grind (arith, nat_tests)

-- there are no other kinds
large-kind : (i kind : ℕ) (first second : ℤ) → fails NODE i ≡ read_node i (pos (suc (suc (suc (suc (suc kind)))))) first second
unfolding read_node is_kind
large-kind i kind first second = grind (arith, nat_tests)

negative-kind : (i kind : ℕ) (first second : ℤ) → fails NODE i ≡ read_node i (negsuc kind) first second
unfolding read_node is_kind
negative-kind i kind first second = refl

-- ---- What is read is a node with these numbers, or there is none.

-- node i has these numbers
pub record Spells (i : ℕ) (numbers : List ℤ) (k : Kind) : Type 0 where
  pub node_is : T (is_node i k)
  pub numbers_are : numbers_of k ≡ numbers

abbrev pub Reads : ℕ → List ℤ → Judged Kind → Type 0
Reads i numbers (good k) = Spells i numbers k
Reads i numbers (fails refusal place) = (refusal ≡ NODE) × (place ≡ i) × ((k : Kind) → T (is_node i k) → numbers_of k ≡ numbers → ⊥)

good-fails : {A : Type 0} {a : A} {r p : ℕ} → good a ≡ fails r p → ⊥
good-fails e = let z : ◌≡◌ {A = ℕ} 0 1 = cc in absurd (omega arith)

-- refused numbers are those of no node
refused : (i : ℕ) (numbers : List ℤ) → read_numbers i numbers ≡ fails NODE i → Reads i numbers (fails NODE i)
refused i numbers e = (refl, refl, λ k t n. good-fails (sym (numbers-read i k t) ∙ ap (read_numbers i) n ∙ e))

-- a kind's test, after which k is read
tested : (i : ℕ) (numbers : List ℤ) (b : Bool) (k : Kind) → (T b → Spells i numbers k) → read_numbers i numbers ≡ holding b NODE i (good k)
    → Reads i numbers (holding b NODE i (good k))
unfolding holding
tested i numbers true k f e = f tt
tested i numbers false k f e = refused i numbers e

integer-spelled : (i : ℕ) (first second : ℤ) → T (is_zero second) → Spells i (pos 0 ∷ first ∷ second ∷ []) (integer first)
integer-spelled i first (pos zero) t = record { node_is = tt; numbers_are = refl }
integer-spelled i first (pos (suc n)) t = absurd t
integer-spelled i first (negsuc n) t = absurd t

variable-spelled : (i : ℕ) (first second : ℤ) → T (is_in variables first && is_zero second) → Spells i (pos 1 ∷ first ∷ second ∷ []) (variable (nat_abs first))
unfolding is_in
variable-spelled i (pos n) (pos zero) t = record { node_is = grind (arith, nat_tests); numbers_are = refl }
variable-spelled i (pos n) (pos (suc m)) t = absurd (rw and-false at t)
variable-spelled i (pos n) (negsuc m) t = absurd (rw and-false at t)
variable-spelled i (negsuc n) second t = absurd t

sum_spelled : (i : ℕ) (first second : ℤ) → T (is_in i first && is_in i second) → Spells i (pos 2 ∷ first ∷ second ∷ []) (sum (nat_abs first) (nat_abs second))
unfolding is_in
sum_spelled i (pos n) (pos m) t = record { node_is = t; numbers_are = refl }
sum_spelled i (pos n) (negsuc m) t = absurd (rw and-false at t)
sum_spelled i (negsuc n) second t = absurd t

product-spelled : (i : ℕ) (first second : ℤ) → T (is_in i first && is_in i second) → Spells i (pos 3 ∷ first ∷ second ∷ []) (product (nat_abs first) (nat_abs second))
unfolding is_in
product-spelled i (pos n) (pos m) t = record { node_is = t; numbers_are = refl }
product-spelled i (pos n) (negsuc m) t = absurd (rw and-false at t)
product-spelled i (negsuc n) second t = absurd t

power-spelled : (i : ℕ) (first second : ℤ) → T (is_in i first && is_in (suc largest_degree) second) → Spells i (pos 4 ∷ first ∷ second ∷ []) (power (nat_abs first) (nat_abs second))
unfolding is_in
power-spelled i (pos n) (pos m) t = record { node_is = grind (arith, nat_tests); numbers_are = refl }
power-spelled i (pos n) (negsuc m) t = absurd (rw and-false at t)
power-spelled i (negsuc n) second t = absurd t

module _ (i : ℕ) (first second : ℤ) where
  three-read : (kind : ℤ) → Reads i (kind ∷ first ∷ second ∷ []) (read_node i kind first second)
  unfolding read_node is_kind
  three-read (pos zero) = tested i _ (is_zero second) (integer first) (integer-spelled i first second) refl
  three-read (pos (suc zero)) = tested i _ (is_in variables first && is_zero second) (variable (nat_abs first)) (variable-spelled i first second) refl
  three-read (pos (suc (suc zero))) = tested i _ (is_in i first && is_in i second) (sum (nat_abs first) (nat_abs second)) (sum_spelled i first second) refl
  three-read (pos (suc (suc (suc zero)))) = tested i _ (is_in i first && is_in i second) (product (nat_abs first) (nat_abs second)) (product-spelled i first second) refl
  three-read (pos (suc (suc (suc (suc zero))))) =
      tested i _ (is_in i first && is_in (suc largest_degree) second) (power (nat_abs first) (nat_abs second)) (power-spelled i first second) refl
  three-read (pos (suc (suc (suc (suc (suc kind)))))) = subst (Reads i _) (large-kind i kind first second) (refused i _ (sym (large-kind i kind first second)))
  three-read (negsuc kind) = subst (Reads i _) (negative-kind i kind first second) (refused i _ (sym (negative-kind i kind first second)))

pub read-says : (i : ℕ) (numbers : List ℤ) → length numbers ≡ 3 → {r : Judged Kind} → read_numbers i numbers ≡ r → Reads i numbers r
read-says i numbers h {r} e =
    let three = three-read i (get_or numbers 1 (pos 0)) (get_or numbers 2 (pos 0)) (get_or numbers 0 (pos 0)) in
    subst₂ (Reads i) (sym (three-are numbers h)) e three

-- the numbers of no node are refused
pub none_read : (i : ℕ) (numbers : List ℤ) → length numbers ≡ 3 → ((k : Kind) → T (is_node i k) → numbers_of k ≡ numbers → ⊥)
    → read_numbers i numbers ≡ fails NODE i
none_read i numbers h f = go (read_numbers i numbers) refl
  where
    go : (r : Judged Kind) → read_numbers i numbers ≡ r → read_numbers i numbers ≡ fails NODE i
    go (good k) e = let s = read-says i numbers h e in absurd (f k s.node_is s.numbers_are)
    go (fails refusal place) e = let s = read-says i numbers h e in e ∙ ap₂ fails s.0 s.1
