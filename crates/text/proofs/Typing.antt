-- Reading a typed formula, as its caller sees it: exactly when it is done, with which nodes, and exactly when it is refused, and how.
use mathlib.Core.Path.{◌≡◌, refl, sym, subst}
use mathlib.Core.List.{List}
use Prim.Native.Nat.{ℕ, ◌≤◌}
use native.Mathlib.Omega.{arith}
use lib.Dec.{leb}
use lib.IntN.{ℤ}
use lib.ListN.{length}
use borrow.Author.Tests.{leb-true, leb-false}
use Rattle.algebra.specs.Limits.{most_nodes}
use Rattle.answers.specs.Answers.{Told, Told.done, Told.refused, Outcome, outcome}
use Rattle.answers.specs.Areas.{written}
use Rattle.answers.specs.Judge.{Judged, Judged.good, Judged.fails}
use Rattle.nodes.specs.Node.{table_of}
use Rattle.text.specs.Limits.{longest_text, table_places}
use Rattle.text.specs.Tree.{Tree, node_count, nodes_of}
use Rattle.text.specs.Reader.{read_whole}
use Rattle.text.specs.Text.{read_formula}
use Rattle.text.specs.Promised.{Typed, TextRefuses, TextRefuses.no_room, TextRefuses.too_long, TextRefuses.no_formula, TextRefuses.too_many}
use Rattle.text.proofs.Byte.{decide}
use Rattle.text.proofs.Answering as answer
use Rattle.text.proofs.Formulas.{read-formula, formula-read, stops-longest, stops-none, longest-stops}

module _ (text : List ℕ) (table : List ℤ) where
  pub typed-accepts : {n : ℕ} {table' : List ℤ} → Typed text table n table' → read_formula text table ≡ outcome (done n) table'
  typed-accepts d = sym (answer.all_done text table d.room d.short (read-formula text d.tree d.formula) d.many (omega arith) d.table_is)

  pub refuses-typed : {refusal p : ℕ} {table' : List ℤ} → TextRefuses text table refusal p table' → read_formula text table ≡ outcome (refused refusal p) table'
  refuses-typed (no_room h) = sym (answer.no_room text table h)
  refuses-typed (too_long r h) = sym (answer.too_long text table r h)
  refuses-typed (no_formula {p = p} r s none l) = sym (answer.no_formula text table r s (longest-stops text p l none))
  refuses-typed (too_many {t = t} r s d h) = sym (answer.too_many text table r s (read-formula text t d) h)

  -- ---- There are no other outcomes.

  -- what stands behind an answer, and behind an outcome
  abbrev Behind : Told → List ℤ → Type 0
  Behind (done n) table' = Typed text table n table'
  Behind (refused refusal p) table' = TextRefuses text table refusal p table'

  abbrev Explains : Outcome (List ℤ) → Type 0
  Explains o = Behind o.answer o.areas

  refused-so : {refusal p : ℕ} {table' : List ℤ} → TextRefuses text table refusal p table' → Explains (read_formula text table)
  refused-so d = subst Explains (sym (refuses-typed d)) d

  read-so : table_places ≤ length table → length text ≤ longest_text → (j : Judged Tree) → read_whole text ≡ j → Explains (read_formula text table)
  read-so r s (good t) e =
      let d = formula-read text t e in
      decide (leb (node_count t) most_nodes)
      (λ f. let typed : Typed text table (node_count t) (written (table_of (nodes_of 0 t)) table) = record {
        tree = t;
        room = r;
        short = s;
        formula = d;
        few = leb-true (node_count t) most_nodes f;
        many = refl;
        table_is = refl;
      } in subst Explains (sym (typed-accepts typed)) typed)
      (λ f. refused-so (too_many r s d (leb-false (node_count t) most_nodes f)))
  read-so r s (fails refusal p) e = refused-so (no_formula r s (stops-none text refusal p e) (stops-longest text refusal p e).1)

  explained : Explains (read_formula text table)
  explained =
      decide (leb table_places (length table))
      (λ e. let r = leb-true table_places (length table) e in
      decide (leb (length text) longest_text)
      (λ f. read-so r (leb-true (length text) longest_text f) (read_whole text) refl)
      (λ f. refused-so (too_long r (leb-false (length text) longest_text f))))
      (λ e. refused-so (no_room (leb-false table_places (length table) e)))

  pub typed-means : {n : ℕ} {table' : List ℤ} → read_formula text table ≡ outcome (done n) table' → Typed text table n table'
  typed-means e = subst Explains e explained

  pub typed-refuses : {refusal p : ℕ} {table' : List ℤ} → read_formula text table ≡ outcome (refused refusal p) table' → TextRefuses text table refusal p table'
  typed-refuses e = subst Explains e explained
