-- Trees that pass: a statement without node indices, and that the nodes of such a tree pass after any others that have.
use mathlib.Core.Path.{◌≡◌, refl, ◌∙◌, ap}
use mathlib.Core.List.{List, [], ◌∷◌, ◌++◌, append_assoc}
use Prim.Native.Nat.{ℕ, ◌+◌, ◌*◌, ◌-◌, ◌^◌, ◌≤◌, ◌<◌, max}
use native.Mathlib.Omega.{arith}
use lib.Dec.{T, lt→ltb}
use lib.IntN.{pos, negsuc}
use lib.ListN.{length, get_or}
use lib.Seq.{get_or_at}
use Rattle.algebra.specs.Limits.{variables, largest_degree, most_terms, largest_weight}
use Rattle.algebra.specs.Arithmetic as arithmetic
use Rattle.algebra.specs.Arithmetic.{◌⊕◌, ◌⊗◌, sum_spread, product_spread, power_spread}
use Rattle.nodes.specs.Node.{Kind, Kind.integer, Kind.variable, Kind.sum, Kind.product, Kind.power, is_node}
use Rattle.nodes.specs.Formal.{formal_degree, formal_weight, node_spread, node_sum}
use Rattle.formula.specs.Table.{Entry, entry, sums, entry_of}
use Rattle.formula.specs.Simplify.{last_sum}
use Rattle.formula.specs.Checks.{Passed, Passed.none, Passed.more}
use Rattle.formula.proofs.Sound.{node_at, degree-of, weight-of, sum_of}
use Rattle.text.specs.Tree as tree
use Rattle.text.specs.Tree.{Tree, node_count, own, nodes_of}
use Rattle.text.proofs.Kept.{Kept, kept-all, kept_more, kept_then}
use Rattle.text.proofs.Trees.{size-some}
use Rattle.text.proofs.Table.{both-before, base-before}

-- within the limits
pub record Within (e : Entry) (patterns : ℕ) : Type 0 where
  pub degree : e.degree ≤ largest_degree
  pub weight : e.weight ≤ largest_weight
  pub spread : patterns ≤ most_terms

-- what is kept of a node, by what is kept of its children
abbrev pub sum_entry : Entry → Entry → Entry
sum_entry d e = entry (max d.degree e.degree) (d.weight + e.weight) (d.sum ⊕ e.sum)

abbrev pub product_entry : Entry → Entry → Entry
product_entry d e = entry (d.degree + e.degree) (d.weight * e.weight) (d.sum ⊗ e.sum)

abbrev pub power_entry : Entry → ℕ → Entry
power_entry d x = entry (d.degree * x) (d.weight ^ x) (arithmetic.power variables d.sum x)

abbrev pub minus_one : Entry
minus_one = entry 0 1 (arithmetic.integer variables (negsuc 0))

-- all nodes of the tree pass, and e is what is kept of its own
pub data Passing : Tree → Entry → Type 0 where
  number : {v : ℕ} → v ≤ largest_weight → Passing (tree.Tree.number v) (entry 0 v (arithmetic.integer variables (pos v)))
  letter : {v : ℕ} → v < variables → Passing (tree.Tree.letter v) (entry 1 1 (arithmetic.variable variables v))
  plus : {t u : Tree} {d e : Entry} → Passing t d → Passing u e → Within (sum_entry d e) (sum_spread d.sum e.sum) → Passing (tree.Tree.plus t u) (sum_entry d e)
  times : {t u : Tree} {d e : Entry} → Passing t d → Passing u e → Within (product_entry d e) (product_spread d.sum e.sum)
      → Passing (tree.Tree.times t u) (product_entry d e)
  raised : {t : Tree} {d : Entry} {x : ℕ} → Passing t d → x ≤ largest_degree → Within (power_entry d x) (power_spread variables d.sum x)
      → Passing (tree.Tree.raised t x) (power_entry d x)
  minus : {t : Tree} {d : Entry} → Passing t d → Within (product_entry minus_one d) (product_spread minus_one.sum d.sum)
      → Passing (tree.Tree.minus t) (product_entry minus_one d)

-- ---- What is kept of a node, by its index.

module _ (es : List Entry) where
  sum-entry : (a b : ℕ) {d e : Entry} → node_at es a ≡ d → node_at es b ≡ e → entry_of es (sum a b) ≡ sum_entry d e
  unfolding formal_degree formal_weight node_sum
  sum-entry a b h k = rw (degree-of es a, degree-of es b, weight-of es a, weight-of es b, sum_of es a, sum_of es b, h, k)

  sum-spread : (a b : ℕ) {d e : Entry} → node_at es a ≡ d → node_at es b ≡ e → node_spread (sums es) (sum a b) ≡ sum_spread d.sum e.sum
  unfolding node_spread
  sum-spread a b h k = rw (sum_of es a, sum_of es b, h, k)

  product-entry : (a b : ℕ) {d e : Entry} → node_at es a ≡ d → node_at es b ≡ e → entry_of es (product a b) ≡ product_entry d e
  unfolding formal_degree formal_weight node_sum
  product-entry a b h k = rw (degree-of es a, degree-of es b, weight-of es a, weight-of es b, sum_of es a, sum_of es b, h, k)

  product-spread : (a b : ℕ) {d e : Entry} → node_at es a ≡ d → node_at es b ≡ e → node_spread (sums es) (product a b) ≡ product_spread d.sum e.sum
  unfolding node_spread
  product-spread a b h k = rw (sum_of es a, sum_of es b, h, k)

  power-entry : (a x : ℕ) {d : Entry} → node_at es a ≡ d → entry_of es (power a x) ≡ power_entry d x
  unfolding formal_degree formal_weight node_sum
  power-entry a x h = rw (degree-of es a, weight-of es a, sum_of es a, h)

  power-spread : (a x : ℕ) {d : Entry} → node_at es a ≡ d → node_spread (sums es) (power a x) ≡ power_spread variables d.sum x
  unfolding node_spread
  power-spread a x h = rw (sum_of es a, h)

-- ---- Nodes after others.

-- what stands past the last entry
abbrev no_entry : Entry
no_entry = entry 0 0 []

-- the nodes ks have passed, with m entries, of which the first n are those of `before`
record Known (n m : ℕ) (before : List Entry) (ks : List Kind) (es : List Entry) : Type 0 where
  passed : Passed ks es
  kept : Kept no_entry n m before es

-- the tree's nodes have passed after the nodes ks, n of them
record After (n : ℕ) (before : List Entry) (ks : List Kind) (t : Tree) (e : Entry) : Type 0 where
  entries : List Entry
  known : Known n (n + node_count t) before (ks ++ nodes_of n t) entries
  last : node_at entries (own n t) ≡ e

known-then : {n m l : ℕ} {before es fs : List Entry} {ks js : List Kind} → Known n m before ks es → Known m l es js fs → n ≤ m → Known n l before js fs
known-then a b h = record { passed = b.passed; kept = kept_then no_entry a.kept b.kept h }

-- one node more
module _ {n m : ℕ} {before : List Entry} {ks : List Kind} {es : List Entry} (a : Known n m before ks es) (h : n ≤ m) (k : Kind) {e : Entry} {spread : ℕ}
    (node : T (is_node m k)) (is : entry_of es k ≡ e) (spreads : node_spread (sums es) k ≡ spread) (w : Within e spread) where
  known_more : Known n (m + 1) before (ks ++ (k ∷ [])) (es ++ (entry_of es k ∷ []))
  known_more = record {
    passed = more {k = k} a.passed (record {
      node = rw a.kept.long node;
      degree = omega (arith, ap (λ (x : Entry). x.degree) is, w.degree);
      weight = omega (arith, ap (λ (x : Entry). x.weight) is, w.weight);
      spread = omega (arith, spreads, w.spread);
    });
    kept = kept_more no_entry (entry_of es k) a.kept h;
  }

  known-last : node_at (es ++ (entry_of es k ∷ [])) m ≡ e
  known-last = get_or_at es (entry_of es k) [] no_entry m a.kept.long ∙ is

  -- it is a tree's own
  own-node : {js : List Kind} {t : Tree} → js ++ nodes_of n t ≡ ks ++ (k ∷ []) → m + 1 ≡ n + node_count t → After n before js t e
  own-node {t = t} nodes many = record {
    entries = es ++ (entry_of es k ∷ []);
    known = rw (nodes, ← many) known_more;
    last = let at : own n t ≡ m = omega (arith, many) in rw at known-last;
  }

-- the first of two trees, after the second
still : {n m : ℕ} {before fs : List Entry} {ks js : List Kind} {t : Tree} {e : Entry} (a : After n before ks t e) → Known (n + node_count t) m a.entries js fs → node_at fs (own n t) ≡ e
still {n} {t = t} a b = b.kept.same (own n t) (omega (arith, size-some t)) ∙ a.last

module _ {n : ℕ} {before : List Entry} {ks : List Kind} {t : Tree} {d : Entry} (a : After n before ks t d) where
  -- a node with two children
  module _ {u : Tree} {e : Entry} (b : After (n + node_count t) a.entries (ks ++ nodes_of n t) u e) where
    both : Known n (n + node_count t + node_count u) before ((ks ++ nodes_of n t) ++ nodes_of (n + node_count t) u) b.entries
    both = known-then a.known b.known (omega arith)

    children : T (is_node (n + node_count t + node_count u) (sum (own n t) (own (n + node_count t) u)))
    children = both-before (n + node_count t + node_count u) (own n t) (own (n + node_count t) u) (omega (arith, size-some t)) (omega (arith, size-some u))

    after_plus : Within (sum_entry d e) (sum_spread d.sum e.sum) → After n before ks (tree.Tree.plus t u) (sum_entry d e)
    unfolding nodes_of node_count
    after_plus w =
        own-node both (omega arith) (sum (own n t) (own (n + node_count t) u)) children
        (sum-entry b.entries _ _ (still a b.known) b.last) (sum-spread b.entries _ _ (still a b.known) b.last) w
        (simp append_assoc) (omega arith)

    after-times : Within (product_entry d e) (product_spread d.sum e.sum) → After n before ks (tree.Tree.times t u) (product_entry d e)
    unfolding nodes_of node_count
    after-times w =
        own-node both (omega arith) (product (own n t) (own (n + node_count t) u)) children
        (product-entry b.entries _ _ (still a b.known) b.last) (product-spread b.entries _ _ (still a b.known) b.last) w
        (simp append_assoc) (omega arith)

  after-raised : (x : ℕ) → x ≤ largest_degree → Within (power_entry d x) (power_spread variables d.sum x) → After n before ks (tree.Tree.raised t x) (power_entry d x)
  unfolding nodes_of node_count
  after-raised x low w =
      own-node a.known (omega arith) (power (own n t) x) (base-before (n + node_count t) (own n t) x (omega (arith, size-some t)) low)
      (power-entry a.entries _ x a.last) (power-spread a.entries _ x a.last) w
      (simp append_assoc) (omega arith)

  one-within : Within minus_one 0
  one-within = record { degree = omega arith; weight = omega arith; spread = omega arith }

  after_a_minus : Within (product_entry minus_one d) (product_spread minus_one.sum d.sum) → After n before ks (tree.Tree.minus t) (product_entry minus_one d)
  unfolding nodes_of node_count formal_degree formal_weight node_sum node_spread
  after_a_minus w =
      let es : List Entry = a.entries ++ (minus_one ∷ []) in
      let self : Known (n + node_count t) (n + node_count t) a.entries (ks ++ nodes_of n t) a.entries = record { passed = a.known.passed; kept = kept-all no_entry a.known.kept.long } in
      let one = known_more self (omega arith) (integer (negsuc 0)) tt refl refl one-within in
      let last = known-last self (omega arith) (integer (negsuc 0)) tt refl refl one-within in
      own-node (known-then a.known one (omega arith)) (omega arith) (product (n + node_count t) (own n t))
      (both-before (n + node_count t + 1) (n + node_count t) (own n t) (omega arith) (omega (arith, size-some t)))
      (product-entry es (n + node_count t) (own n t) last (still a one)) (product-spread es (n + node_count t) (own n t) last (still a one)) w
      (simp append_assoc) (omega arith)

passing-after : {t : Tree} {e : Entry} → Passing t e → {n : ℕ} {ks : List Kind} {es : List Entry} → Passed ks es → length es ≡ n → After n es ks t e
unfolding nodes_of node_count formal_degree formal_weight node_sum node_spread
passing-after (number {v} light) p h =
    own-node (record { passed = p; kept = kept-all no_entry h }) (omega arith) (integer (pos v)) tt refl refl
    (record { degree = omega arith; weight = light; spread = omega arith }) refl (omega arith)
passing-after (letter {v} inside) p h =
    own-node (record { passed = p; kept = kept-all no_entry h }) (omega arith) (variable v) (lt→ltb v variables inside) refl refl
    (record { degree = omega arith; weight = omega arith; spread = omega arith }) refl (omega arith)
passing-after (plus q r w) p h = let a = passing-after q p h in after_plus a (passing-after r a.known.passed a.known.kept.long) w
passing-after (times q r w) p h = let a = passing-after q p h in after-times a (passing-after r a.known.passed a.known.kept.long) w
passing-after (raised {x = x} q low w) p h = after-raised (passing-after q p h) x low w
passing-after (minus q w) p h = after_a_minus (passing-after q p h) w

-- ---- All nodes of a tree.

-- they pass, and e is what is kept of the tree's own, which is the last of them
pub record TreePassed (t : Tree) (e : Entry) : Type 0 where
  pub entries : List Entry
  pub passed : Passed (nodes_of 0 t) entries
  pub many : length entries ≡ node_count t
  pub own_is : node_at entries (own 0 t) ≡ e

pub tree-passes : {t : Tree} {e : Entry} → Passing t e → TreePassed t e
tree-passes q = let a = passing-after q none refl in record { entries = a.entries; passed = a.known.passed; many = omega (arith, a.known.kept.long); own_is = a.last }

-- so the last of their sums is the one that is kept of it
pub last-kept : {t : Tree} {e : Entry} (p : TreePassed t e) → last_sum p.entries ≡ e.sum
last-kept {t} p =
    let at : length p.entries - 1 ≡ own 0 t = omega (arith, p.many) in
    ap (λ (j : ℕ). get_or (sums p.entries) j []) at ∙ sum_of p.entries (own 0 t) ∙ ap (λ (x : Entry). x.sum) p.own_is
