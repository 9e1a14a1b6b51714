-- What is listed of a typed formula means what the formula means; and which refusals there are.
use mathlib.Core.Path.{◌≡◌, refl, sym, ◌∙◌, ap, subst}
use mathlib.Core.Bool.{Bool, true, false}
use mathlib.Core.List.{List}
use mathlib.Core.Logic.{◌⊎◌, inl, inr}
use Prim.Native.Nat.{ℕ, ◌≤◌}
use borrow.Author.Tests.{leb-true}
use lib.Dec.{leb}
use lib.IntN.{ℤ}
use lib.ListN.{length}
use Rattle.algebra.specs.Limits.{variables, most_nodes}
use Rattle.algebra.specs.Sum.{Sum}
use Rattle.algebra.specs.Value.{value}
use Rattle.algebra.specs.Accepted.{Accepted}
use Rattle.answers.specs.Refusals.{TEXT, NODES}
use Rattle.answers.specs.Judge.{Judged, Judged.good, Judged.fails, holding, and_then}
use Rattle.nodes.specs.Node.{table_of}
use Rattle.formula.specs.Meaning.{formula_value}
use Rattle.formula.specs.Table.{Entry, judge_table}
use Rattle.formula.specs.Simplify.{last_sum, table_sum}
use Rattle.formula.proofs.Meaning.{last-accepted, passed-means}
use Rattle.formula.proofs.Tables.{table-one}
use Rattle.text.specs.Limits.{longest_text}
use Rattle.text.specs.Tree.{Tree, node_count, nodes_of, tree_value}
use Rattle.text.specs.Grammar.{Formula}
use Rattle.text.specs.Reader.{read_whole}
use Rattle.text.specs.Text.{judge_text, text_sum}
use Rattle.text.proofs.Fitting.{TooMuch, Passable, formula-passable}
use Rattle.text.proofs.Formulas.{formula-read, stops-longest}
use Rattle.text.proofs.Meaning.{tree-value}
use Rattle.listing.proofs.Answered.{judged-passes}

-- ---- The text.

-- a formula within the limits of texts
pub record Typed (text : List ℕ) (t : Tree) : Type 0 where
  pub formula : Formula text t
  pub short : length text ≤ longest_text
  pub few : node_count t ≤ most_nodes

abbrev Judges : List ℕ → Judged Tree → Type 0
Judges text (good t) = Typed text t
Judges text (fails refusal p) = (refusal ≡ TEXT) ⊎ (refusal ≡ NODES)

text-judged : (text : List ℕ) → Judges text (judge_text text)
unfolding judge_text holding and_then
text-judged text = go (leb (length text) longest_text) refl (read_whole text) refl
  where
    counted : (t : Tree) → Formula text t → length text ≤ longest_text → (b : Bool) → leb (node_count t) most_nodes ≡ b → Judges text (holding b NODES 0 (good t))
    counted t d short true e = record { formula = d; short = short; few = leb-true (node_count t) most_nodes e }
    counted t d short false e = inr refl

    go : (b : Bool) → leb (length text) longest_text ≡ b → (j : Judged Tree) → read_whole text ≡ j
        → Judges text (holding b TEXT longest_text (and_then j (λ t. holding (leb (node_count t) most_nodes) NODES 0 (good t))))
    go true s (good t) e = counted t (formula-read text t e) (leb-true (length text) longest_text s) (leb (node_count t) most_nodes) refl
    go true s (fails refusal p) e = inl (stops-longest text refusal p e).0
    go false s j e = inl refl

-- ---- Its sum.

-- a sum with the value of the typed formula, wherever it is taken
pub record Means (text : List ℕ) (s : Sum) : Type 0 where
  pub tree : Tree
  pub typed : Typed text tree
  pub accepted : Accepted variables s
  pub values : (x : List ℤ) → value s x ≡ tree_value tree x

abbrev Says : List ℕ → Judged Sum → Type 0
Says text (good s) = Means text s
Says text (fails refusal p) = ((refusal ≡ TEXT) ⊎ (refusal ≡ NODES)) ⊎ TooMuch refusal

sum-says : (text : List ℕ) → Says text (text_sum text)
unfolding text_sum table_sum and_then
sum-says text = go (judge_text text) (text-judged text)
  where
    table : (t : Tree) → Typed text t → (j : Judged (List Entry)) → judge_table (table_of (nodes_of 0 t)) ≡ j → Says text (and_then j (λ nodes. good (last_sum nodes)))
    table t d (good nodes) e =
        let a = judged-passes (table_of (nodes_of 0 t)) nodes e in
        let ks = table-one (nodes_of 0 t) a.ks a.table_is in
        record {
          tree = t;
          typed = d;
          accepted = last-accepted a.passed;
          values = λ x. (passed-means a.passed).values x ∙ ap (λ js. formula_value js x) (sym ks) ∙ tree-value t x;
        }
    table t d (fails refusal p) e = inr (subst Passable e (formula-passable d.formula d.few))

    go : (j : Judged Tree) → Judges text j → Says text (and_then j (λ t. table_sum (table_of (nodes_of 0 t))))
    go (good t) d = table t d (judge_table (table_of (nodes_of 0 t))) refl
    go (fails refusal p) d = inl d

pub sum-means : (text : List ℕ) {s : Sum} → text_sum text ≡ good s → Means text s
sum-means text e = subst (Says text) e (sum-says text)

pub sum-refused : (text : List ℕ) {refusal p : ℕ} → text_sum text ≡ fails refusal p → ((refusal ≡ TEXT) ⊎ (refusal ≡ NODES)) ⊎ TooMuch refusal
sum-refused text e = subst (Says text) e (sum-says text)
