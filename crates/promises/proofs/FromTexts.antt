-- The three operations one after the other, text to table, table to bytes, bytes to answer, come to the estimate of the text, or to the first refusal.
use mathlib.Core.Path.{◌≡◌, sym, ◌∙◌, ap}
use mathlib.Core.Bool.{Bool, true, false}
use mathlib.Core.List.{List, []}
use Prim.Native.Nat.{ℕ, ◌≤◌}
use borrow.Author.Tests.{le-leb}
use lib.Dec.{leb}
use lib.IntN.{ℤ, pos}
use lib.ListN.{length}
use Rattle.algebra.specs.Limits.{most_nodes, work_places}
use Rattle.algebra.specs.Sum.{Sum}
use Rattle.answers.specs.Refusals.{ROOM}
use Rattle.answers.specs.Answers.{Told.refused, Outcome, outcome, check}
use Rattle.answers.specs.Areas.{cleared}
use Rattle.answers.specs.Judge.{Judged, Judged.good, Judged.fails, holding, and_then}
use Rattle.answers.proofs.Judging.{then-good, then-fails, refused-done}
use Rattle.packed.specs.Result.{WorkAreas, packed_into, beside}
use Rattle.packed.proofs.Results.{sum-judged}
use Rattle.packed.proofs.Working.{has_room, worked}
use Rattle.nodes.specs.Node.{table_of}
use Rattle.formula.specs.Table.{is_shape, judge_nodes, judge_table}
use Rattle.formula.specs.Simplify.{last_sum, table_sum, simplify}
use Rattle.formula.proofs.Passing.{table-length, shape-judge, passed-judge}
use Rattle.formula.proofs.Simplifying.{nodes-shape}
use Rattle.formula.specs.Promised.{Simplified}
use Rattle.text.specs.Limits.{longest_text, table_places}
use Rattle.text.specs.Tree.{Tree, node_count, nodes_of}
use Rattle.text.specs.Grammar.{Formula}
use Rattle.text.specs.Text.{judge_text, table_into, read_formula, text_sum}
use Rattle.text.proofs.Formulas.{read-formula}
use Rattle.text.proofs.Typing.{typed-means}
use Rattle.estimates.specs.Range.{judge_terms}
use Rattle.router.specs.Estimate.{judge_estimate}
use Rattle.promises.specs.Becomes.{Simplifies, ReadsAs}
use Rattle.promises.specs.FromText.{estimate_of}
use Rattle.promises.proofs.Becoming.{simplified, simplified-bytes, read_table}

-- ---- What is judged.

-- the tree of a text that is a formula within the limits
text-tree : (text : List ℕ) (t : Tree) → Formula text t → length text ≤ longest_text → node_count t ≤ most_nodes → judge_text text ≡ good t
unfolding judge_text holding and_then
text-tree text t d short few = rw (le-leb (length text) longest_text short, read-formula text t d, le-leb (node_count t) most_nodes few)

-- the sum of a table that simplify takes
table-sum : {table : List ℤ} {ws : List ℕ} {cs : List ℤ} {area : List ℕ} {n : ℕ} {areas : WorkAreas} (d : Simplified table ws cs area n areas) → table_sum table ≡ good d.sum
unfolding table_sum
table-sum {table} d =
    let shape : is_shape (length table) ≡ true = ap (λ t. is_shape (length t)) d.table_is ∙ ap is_shape (table-length d.ks) ∙ nodes-shape (length d.ks) d.some d.few in
    let judged : judge_table table ≡ good d.entries = shape-judge table shape ∙ ap (judge_nodes []) d.table_is ∙ passed-judge d.passed in
    then-good (λ nodes. good (last_sum nodes)) judged ∙ ap good (sym d.sum_is)

-- ---- What a refusal that is not about room says of what was judged.

told-fails : {A : Type 0} {r q p k : ℕ} → refused q k ≡ refused r p → ◌≡◌ {A = Judged A} (fails q k) (fails r p)
told-fails e = cc

told-room : {r p : ℕ} → refused ROOM 0 ≡ refused r p → r ≡ ROOM
told-room e = cc

worked-refused : (j : Judged Sum) (ws : List ℕ) (cs : List ℤ) (area : List ℕ) {r p : ℕ} {areas : WorkAreas} → worked ws cs area j ≡ outcome (refused r p) areas → (r ≡ ROOM → ⊥) → j ≡ fails r p
unfolding worked packed_into
worked-refused j ws cs area {r} {p} {areas} e not-room = room (has_room ws cs area) j (ap (λ (o : Outcome WorkAreas). o.answer) e)
  where
    room : (b : Bool) (j : Judged Sum) → (check b ROOM 0 (ws, cs, area) (beside (cleared 0 work_places ws) (cleared (pos 0) work_places cs) (packed_into j area))).answer ≡ refused r p → j ≡ fails r p
    room false j e = absurd (not-room (told-room e))
    room true (good s) e = absurd (refused-done (sym e))
    room true (fails q k) e = told-fails e

read-refused : (text : List ℕ) (area : List ℤ) {r p : ℕ} {area' : List ℤ} → read_formula text area ≡ outcome (refused r p) area' → (r ≡ ROOM → ⊥) → judge_text text ≡ fails r p
unfolding read_formula table_into
read-refused text area {r} {p} e not-room = room (leb table_places (length area)) (judge_text text) (ap (λ (o : Outcome (List ℤ)). o.answer) e)
  where
    room : (b : Bool) (j : Judged Tree) → (check b ROOM 0 area (table_into j area)).answer ≡ refused r p → j ≡ fails r p
    room false j e = absurd (not-room (told-room e))
    room true (good t) e = absurd (refused-done (sym e))
    room true (fails q k) e = told-fails e

-- ---- From the text to the estimate.

-- the reader refuses the text, and not for room
pub text-refused : (text : List ℕ) (area : List ℤ) {r p : ℕ} {area' : List ℤ} → read_formula text area ≡ outcome (refused r p) area' → (r ≡ ROOM → ⊥)
    → (readings tolerances : List ℕ) → estimate_of text readings tolerances ≡ fails r p
unfolding estimate_of text_sum
text-refused text area e not-room readings tolerances =
    then-fails (λ s. judge_terms s readings tolerances) (then-fails (λ t. table_sum (table_of (nodes_of 0 t))) (read-refused text area e not-room))

module _ {text : List ℕ} {table : List ℤ} (t : ReadsAs text table) where
  -- the sum of the text is that of its table
  text-table : text_sum text ≡ table_sum table
  unfolding text_sum
  text-table =
      let d = typed-means text t.area t.is_done in
      then-good (λ u. table_sum (table_of (nodes_of 0 u))) (text-tree text d.tree d.formula d.short d.few) ∙ ap table_sum (sym (read_table d.formula t))

  -- simplify refuses the table, and not for room
  pub table-refused : (ws : List ℕ) (cs : List ℤ) (area : List ℕ) {r p : ℕ} {areas : WorkAreas} → simplify table ws cs area ≡ outcome (refused r p) areas → (r ≡ ROOM → ⊥)
      → (readings tolerances : List ℕ) → estimate_of text readings tolerances ≡ fails r p
  unfolding estimate_of simplify worked
  table-refused ws cs area e not-room readings tolerances =
      then-fails (λ s. judge_terms s readings tolerances) (text-table ∙ worked-refused (table_sum table) ws cs area e not-room)

  -- simplify is done: the rest is the estimate's
  pub text-estimate : {bytes : List ℕ} → Simplifies table bytes → (readings tolerances : List ℕ) → judge_estimate bytes readings tolerances ≡ estimate_of text readings tolerances
  unfolding judge_estimate estimate_of
  text-estimate r readings tolerances =
      ap (λ j. and_then j (λ s. judge_terms s readings tolerances)) (sum-judged (simplified-bytes r) ∙ sym (text-table ∙ table-sum (simplified r)))
