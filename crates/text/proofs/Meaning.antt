-- The formula of a tree's nodes has the tree's value.
use mathlib.Core.Path.{◌≡◌, refl, ◌∙◌, ap, ap₂}
use mathlib.Core.List.{List, [], ◌∷◌, ◌++◌}
use Prim.Native.Nat.{ℕ, ◌+◌, ◌-◌}
use native.Mathlib.Omega.{arith}
use lib.IntN.{ℤ, pos, negsuc, neg_ℤ, ◌+ℤ◌, ◌*ℤ◌, pow}
use lib.ListN.{length, get_or}
use lib.Seq.{get_or_at}
use Rattle.algebra.proofs.Numbers.Whole.{negℤ-*ℤ, one-*ℤ}
use Rattle.nodes.specs.Node.{Kind}
use Rattle.formula.specs.Meaning.{each_node, node_value, formula_value}
use Rattle.text.specs.Tree.{Tree, Tree.number, Tree.letter, Tree.plus, Tree.times, Tree.raised, Tree.minus, node_count, own, nodes_of, tree_value}
use Rattle.text.proofs.Trees.{size-some, nodes-length}
use Rattle.text.proofs.Kept.{Kept, kept-all, kept_more, kept_then}

each-then : {A : Type 0} (step : List A → Kind → A) (before : List A) (ks js : List Kind)
    → each_node step before (ks ++ js) ≡ each_node step (each_node step before ks) js
unfolding each_node
each-then step before [] js = refl
each-then step before (k ∷ ks) js = each-then step (before ++ (step before k ∷ [])) ks js

module _ (x : List ℤ) where
  -- the tree's nodes come after n others
  record Valued (n : ℕ) (t : Tree) (before after : List ℤ) : Type 0 where
    kept : Kept (pos 0) n (n + node_count t) before after
    value : get_or after (own n t) (pos 0) ≡ tree_value t x

  still-valued : {n m : ℕ} {t : Tree} {before vs ws : List ℤ} → Valued n t before vs → Kept (pos 0) (n + node_count t) m vs ws → get_or ws (own n t) (pos 0) ≡ tree_value t x
  still-valued {n} {t = t} a b = b.same (own n t) (omega (arith, size-some t)) ∙ a.value

  own-valued : {n m : ℕ} {t : Tree} {before vs : List ℤ} (v : ℤ) → Kept (pos 0) n m before vs → m + 1 ≡ n + node_count t → v ≡ tree_value t x
      → Valued n t before (vs ++ (v ∷ []))
  own-valued {n} {t = t} {vs = vs} v a e is = record {
    kept = rw (← e) (kept_more (pos 0) v a (omega (arith, size-some t)));
    value = get_or_at vs v [] (pos 0) (own n t) (omega (arith, a.long)) ∙ is;
  }

  -- after the node of -1
  minus-valued : {n : ℕ} {t : Tree} {before : List ℤ} (vs : List ℤ) → Valued n t before vs → let ws = vs ++ (negsuc 0 ∷ []) in
      Valued n (minus t) before (ws ++ ((get_or ws (n + node_count t) (pos 0) *ℤ get_or ws (own n t) (pos 0)) ∷ []))
  unfolding tree_value node_count
  minus-valued {n} {t} vs a =
      let one_more = kept_more (pos 0) (negsuc 0) (kept-all (pos 0) a.kept.long) (omega arith) in
      let left = get_or_at vs (negsuc 0) [] (pos 0) (n + node_count t) a.kept.long in
      own-valued _ (kept_then (pos 0) a.kept one_more (omega arith)) (omega arith)
      (ap₂ ◌*ℤ◌ left (still-valued a one_more) ∙ negℤ-*ℤ (pos 1) (tree_value t x) ∙ ap neg_ℤ (one-*ℤ (tree_value t x)))

  tree-valued : (t : Tree) (n : ℕ) (before : List ℤ) → length before ≡ n → Valued n t before (each_node (node_value x) before (nodes_of n t))
  unfolding nodes_of each_node node_value tree_value node_count
  tree-valued (number v) n before h = own-valued _ (kept-all (pos 0) h) (omega arith) refl
  tree-valued (letter v) n before h = own-valued _ (kept-all (pos 0) h) (omega arith) refl
  tree-valued (plus t u) n before h =
      let a = tree-valued t n before h in
      let b = tree-valued u (n + node_count t) _ a.kept.long in
      rw (each-then, each-then) (own-valued _ (kept_then (pos 0) a.kept b.kept (omega arith)) (omega arith) (ap₂ ◌+ℤ◌ (still-valued a b.kept) b.value))
  tree-valued (times t u) n before h =
      let a = tree-valued t n before h in
      let b = tree-valued u (n + node_count t) _ a.kept.long in
      rw (each-then, each-then) (own-valued _ (kept_then (pos 0) a.kept b.kept (omega arith)) (omega arith) (ap₂ ◌*ℤ◌ (still-valued a b.kept) b.value))
  tree-valued (raised t e) n before h =
      let a = tree-valued t n before h in
      rw each-then (own-valued _ a.kept (omega arith) (ap (λ z. pow z e) a.value))
  tree-valued (minus t) n before h = rw each-then (minus-valued _ (tree-valued t n before h))

pub tree-value : (t : Tree) (x : List ℤ) → formula_value (nodes_of 0 t) x ≡ tree_value t x
unfolding formula_value
tree-value t x =
    let last : length (nodes_of 0 t) - 1 ≡ own 0 t = omega (arith, nodes-length 0 t) in
    rw last (tree-valued x t 0 [] refl).value
