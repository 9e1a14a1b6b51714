-- A table's nodes all pass, or one check is the first that fails; and the nodes are judged exactly so.
use mathlib.Core.Path.{◌≡◌, refl, sym, ◌∙◌, ap, subst}
use mathlib.Core.Bool.{true, false}
use mathlib.Core.List.{List, [], ◌∷◌, ◌++◌, append_assoc, append-nil}
use Prim.Native.Nat.{ℕ, ◌+◌, ◌*◌, ◌%◌, ◌<◌}
use native.Mathlib.Omega.{arith}
use native.Mathlib.Decide.{dec_lt}
use borrow.Author.Tests.{le-leb, lt-leb}
use lib.Dec.{T}
use lib.IntN.{ℤ}
use lib.ListN.{length, length-append}
use Rattle.algebra.specs.Limits.{largest_degree, most_terms, largest_weight}
use Rattle.answers.specs.Refusals.{SHAPE, NODE, DEGREE, WEIGHT, SPREAD}
use Rattle.answers.specs.Judge.{Judged, Judged.good, Judged.fails, holding, and_then}
use Rattle.nodes.specs.Node.{Kind, numbers_of, table_of, is_node}
use Rattle.nodes.specs.Formal.{formal_degree, formal_weight, node_spread}
use Rattle.formula.specs.Table.{Entry, degrees, weights, sums, entry_of, judge_node, judge_nodes, is_shape, judge_table}
use Rattle.formula.specs.Checks.{Passes, Passed, Passed.none, Passed.more, Fault, Fault.node, Fault.degree, Fault.weight, Fault.spread, FirstFault}
use Rattle.formula.proofs.Sound.{AllSound, none-sound, more-sound, entry-sound}
use Rattle.nodes.proofs.Spelled.{read_numbers, three-are, numbers-three, numbers-read, read-says, none_read}

-- ---- Nodes that have passed.

pub passed-sound : {ks : List Kind} {es : List Entry} → Passed ks es → AllSound es
passed-sound none = none-sound
passed-sound (more {before = before} {k = k} p q) =
    let all = passed-sound p in
    more-sound before (entry_of before k) all (entry-sound before all k q.node q.degree q.weight q.spread)

pub passed_length : {ks : List Kind} {es : List Entry} → Passed ks es → length es ≡ length ks
passed_length none = refl
passed_length (more {ks = ks} {before = before} {k = k} p q) =
    length-append before (entry_of before k ∷ []) ∙ ap (λ (n : ℕ). n + 1) (passed_length p) ∙ sym (length-append ks (k ∷ []))

-- ---- Their table.

pub table-length : (ks : List Kind) → length (table_of ks) ≡ 3 * length ks
unfolding table_of
table-length [] = refl
table-length (k ∷ ks) = omega (arith, length-append (numbers_of k) (table_of ks), numbers-three k, table-length ks)

pub table_more : (ks : List Kind) (k : Kind) (rest : List ℤ) → table_of (ks ++ (k ∷ [])) ++ rest ≡ table_of ks ++ (numbers_of k ++ rest)
unfolding table_of
table_more [] k rest = ap (λ l. l ++ rest) (append-nil (numbers_of k))
table_more (j ∷ ks) k rest =
    append_assoc (numbers_of j) (table_of (ks ++ (k ∷ []))) rest ∙ ap (λ l. numbers_of j ++ l) (table_more ks k rest)
    ∙ sym (append_assoc (numbers_of j) (table_of ks) (numbers_of k ++ rest))

-- ---- One node is judged by its first three numbers.

three-judged : (before : List Entry) (numbers rest : List ℤ) → length numbers ≡ 3
    → judge_nodes before (numbers ++ rest)
    ≡ and_then (read_numbers (length before) numbers) (λ k. and_then (judge_node before k) (λ e. judge_nodes (before ++ (e ∷ [])) rest))
unfolding judge_nodes
three-judged before numbers rest h = ap (λ l. judge_nodes before (l ++ rest)) (three-are numbers h)

module _ (before : List Entry) (k : Kind) where
  pub node-judged : (rest : List ℤ) → T (is_node (length before) k)
      → judge_nodes before (numbers_of k ++ rest) ≡ and_then (judge_node before k) (λ e. judge_nodes (before ++ (e ∷ [])) rest)
  unfolding and_then
  node-judged rest t = three-judged before (numbers_of k) rest (numbers-three k) ∙ rw (numbers-read (length before) k t)

  node-passes : (rest : List ℤ) → Passes before k → judge_nodes before (numbers_of k ++ rest) ≡ judge_nodes (before ++ (entry_of before k ∷ [])) rest
  unfolding and_then judge_node holding
  node-passes rest q =
      node-judged rest q.node
      ∙ rw (
        le-leb (formal_degree (degrees before) k) largest_degree q.degree,
        le-leb (formal_weight (weights before) k) largest_weight q.weight,
        le-leb (node_spread (sums before) k) most_terms q.spread,
      )

fault-stops : (before : List Entry) {numbers : List ℤ} {refusal : ℕ} → Fault before numbers refusal → length numbers ≡ 3 → (rest : List ℤ)
    → judge_nodes before (numbers ++ rest) ≡ fails refusal (length before)
unfolding and_then judge_node holding
fault-stops before (node {numbers = numbers} f) h rest = three-judged before numbers rest h ∙ rw (none_read (length before) numbers h f)
fault-stops before (degree k t d) h rest = node-judged before k rest t ∙ rw (lt-leb (formal_degree (degrees before) k) largest_degree d)
fault-stops before (weight k t d w) h rest =
    node-judged before k rest t
    ∙ rw (le-leb (formal_degree (degrees before) k) largest_degree d, lt-leb (formal_weight (weights before) k) largest_weight w)
fault-stops before (spread k t d w s) h rest =
    node-judged before k rest t
    ∙ rw (
      le-leb (formal_degree (degrees before) k) largest_degree d,
      le-leb (formal_weight (weights before) k) largest_weight w,
      lt-leb (node_spread (sums before) k) most_terms s,
    )

-- ---- The table.

-- nodes that have passed are judged so, whatever follows them
passed-before : {ks : List Kind} {before : List Entry} → Passed ks before → (rest : List ℤ) → judge_nodes [] (table_of ks ++ rest) ≡ judge_nodes before rest
unfolding table_of
passed-before none rest = refl
passed-before (more {ks = ks} {before = before} {k = k} p q) rest =
    ap (judge_nodes []) (table_more ks k rest) ∙ passed-before p (numbers_of k ++ rest) ∙ node-passes before k rest q

pub passed-judge : {ks : List Kind} {es : List Entry} → Passed ks es → judge_nodes [] (table_of ks) ≡ good es
unfolding judge_nodes
passed-judge {ks} p = ap (judge_nodes []) (sym (append-nil (table_of ks))) ∙ passed-before p []

-- the table is that of nodes that all pass
pub record AllPass (table : List ℤ) (es : List Entry) : Type 0 where
  pub ks : List Kind
  pub table_is : table ≡ table_of ks
  pub passed : Passed ks es

pub all-judge : {table : List ℤ} {es : List Entry} → AllPass table es → judge_nodes [] table ≡ good es
all-judge a = ap (judge_nodes []) a.table_is ∙ passed-judge a.passed

pub fault-judge : {table : List ℤ} {refusal p : ℕ} → FirstFault table refusal p → judge_nodes [] table ≡ fails refusal p
fault-judge {refusal = refusal} f =
    ap (judge_nodes []) f.table_is ∙ passed-before f.passed (f.numbers ++ f.rest) ∙ fault-stops f.before f.fault f.three f.rest
    ∙ ap (fails refusal) f.at_node

-- ---- SHAPE comes first.

module _ (table : List ℤ) where
  pub shape-judge : is_shape (length table) ≡ true → judge_table table ≡ judge_nodes [] table
  unfolding judge_table holding
  shape-judge s = rw s

  pub no-shape-judge : is_shape (length table) ≡ false → judge_table table ≡ fails SHAPE 0
  unfolding judge_table holding
  no-shape-judge s = rw s

-- ---- Every table's nodes pass, or it has a first fault.

-- three numbers after the nodes `before`
data Meets (before : List Entry) (numbers : List ℤ) : Type 0 where
  passes : (k : Kind) → numbers_of k ≡ numbers → Passes before k → Meets before numbers
  stops : (refusal : ℕ) → Fault before numbers refusal → Meets before numbers

node-meets : (before : List Entry) (k : Kind) → T (is_node (length before) k) → Meets before (numbers_of k)
node-meets before k t =
    go (dec_lt largest_degree (formal_degree (degrees before) k)) (dec_lt largest_weight (formal_weight (weights before) k)) (dec_lt most_terms (node_spread (sums before) k))
  where
    go : Dec (largest_degree < formal_degree (degrees before) k) → Dec (largest_weight < formal_weight (weights before) k) → Dec (most_terms < node_spread (sums before) k)
        → Meets before (numbers_of k)
    go (yes d) w s = stops DEGREE (degree k t d)
    go (no d) (yes w) s = stops WEIGHT (weight k t (omega (arith, d)) w)
    go (no d) (no w) (yes s) = stops SPREAD (spread k t (omega (arith, d)) (omega (arith, w)) s)
    go (no d) (no w) (no s) = passes k refl (record { node = t; degree = omega (arith, d); weight = omega (arith, w); spread = omega (arith, s) })

meets : (before : List Entry) (numbers : List ℤ) → length numbers ≡ 3 → Meets before numbers
meets before numbers h = go (read_numbers (length before) numbers) refl
  where
    go : (r : Judged Kind) → read_numbers (length before) numbers ≡ r → Meets before numbers
    go (good k) e = let s = read-says (length before) numbers h e in subst (Meets before) s.numbers_are (node-meets before k s.node_is)
    go (fails refusal place) e = stops NODE (node (read-says (length before) numbers h e).2)

pub data Verdict (table : List ℤ) : Type 0 where
  all : (es : List Entry) → AllPass table es → Verdict table
  first : (refusal p : ℕ) → FirstFault table refusal p → Verdict table

verdict-after : {ks : List Kind} {before : List Entry} → Passed ks before → (rest : List ℤ) → length rest % 3 ≡ 0 → Verdict (table_of ks ++ rest)
verdict-after {ks} {before} p [] h = all before (record { ks = ks; table_is = append-nil (table_of ks); passed = p })
verdict-after p (x ∷ []) h = absurd (omega arith)
verdict-after p (x ∷ y ∷ []) h = absurd (omega arith)
verdict-after {ks} {before} p (x ∷ y ∷ z ∷ rest) h = go (meets before (x ∷ y ∷ z ∷ []) refl) (λ js es q. verdict-after q rest (omega arith))
  where
    go : Meets before (x ∷ y ∷ z ∷ []) → ((js : List Kind) (es : List Entry) → Passed js es → Verdict (table_of js ++ rest))
        → Verdict (table_of ks ++ x ∷ y ∷ z ∷ rest)
    go (passes k n q) next =
        subst Verdict (table_more ks k rest ∙ ap (λ l. table_of ks ++ (l ++ rest)) n)
        (next (ks ++ (k ∷ [])) (before ++ (entry_of before k ∷ [])) (more p q))
    go (stops refusal f) next =
        first refusal (length before)
        (record {
          ks = ks;
          before = before;
          numbers = x ∷ y ∷ z ∷ [];
          rest = rest;
          table_is = refl;
          three = refl;
          passed = p;
          at_node = refl;
          fault = f;
        })

pub verdict : (table : List ℤ) → length table % 3 ≡ 0 → Verdict table
unfolding table_of
verdict table h = verdict-after none table h

-- so what is judged is exactly this
abbrev pub Judges : List ℤ → Judged (List Entry) → Type 0
Judges table (good es) = AllPass table es
Judges table (fails refusal p) = FirstFault table refusal p

pub judge-says : (table : List ℤ) → length table % 3 ≡ 0 → {r : Judged (List Entry)} → judge_nodes [] table ≡ r → Judges table r
judge-says table h e = subst (Judges table) e (go (verdict table h))
  where
    go : Verdict table → Judges table (judge_nodes [] table)
    go (all es a) = subst (Judges table) (sym (all-judge a)) a
    go (first refusal p f) = subst (Judges table) (sym (fault-judge f)) f
