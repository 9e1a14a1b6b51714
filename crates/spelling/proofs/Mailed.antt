-- A sum that was written and typed in again: what its text means, that no other sum has it, and that reading and simplifying give the packed sum back.
use mathlib.Core.Path.{◌≡◌, refl, sym, ◌∙◌, ap, subst}
use mathlib.Core.List.{List}
use Prim.Native.Nat.{ℕ, ◌*◌, ◌≤◌, ◌<◌}
use native.Mathlib.Omega.{arith}
use lib.IntN.{ℤ}
use lib.ListN.{length, take}
use Rattle.algebra.specs.Limits.{variables, most_nodes}
use Rattle.algebra.specs.Sum.{Sum}
use Rattle.algebra.specs.Accepted.{Accepted}
use Rattle.answers.specs.Refusals.{TEXT, NODES}
use Rattle.answers.specs.Answers.{Told.done, Told.refused, outcome}
use Rattle.answers.specs.Areas.{written}
use Rattle.answers.proofs.Writes.{written-front}
use Rattle.packed.specs.Packed.{packed}
use Rattle.packed.specs.Result.{WorkAreas}
use Rattle.packed.proofs.Good.{accepted-good}
use Rattle.packed.specs.Promised.{PackedSum}
use Rattle.packed.specs.Promised.{WorkRoom, cleared_with}
use Rattle.nodes.specs.Node.{table_of}
use Rattle.formula.specs.Simplify.{simplify}
use Rattle.formula.specs.Meaning.{Means}
use Rattle.formula.proofs.Tables.{table-one}
use Rattle.formula.proofs.Meaning.{passed-means, means-one}
use Rattle.formula.proofs.Simplifying.{simplify-means, simplify-accepts}
use Rattle.text.specs.Limits.{longest_text, table_places}
use Rattle.text.specs.Tree.{Tree, node_count, nodes_of}
use Rattle.text.specs.Grammar.{Formula}
use Rattle.text.specs.Text.{read_formula}
use Rattle.text.proofs.Formulas.{tree-one}
use Rattle.text.proofs.Trees.{size-some, nodes-length}
use Rattle.text.proofs.TreePasses.{last-kept}
use Rattle.text.specs.Promised.{Typed, TextRefuses.too_long, TextRefuses.too_many}
use Rattle.text.proofs.Typing.{typed-accepts, typed-means, refuses-typed}
use Rattle.text.proofs.Joining.{typed-table}
use Rattle.spelling.specs.Spelling.{sum_text, sum_tree}
use Rattle.spelling.specs.Promised.{Named}
use Rattle.spelling.proofs.Formulas.{all_named, text-formula}
use Rattle.spelling.proofs.SumPasses.{text-passes}

-- the reader names all variables today
pub accepted-named : (s : Sum) → Accepted variables s → Named s
accepted-named s a = all_named s (accepted-good variables s a)

-- ---- What the text means.

pub text-means : (s : Sum) → Accepted variables s → Means (nodes_of 0 (sum_tree s)) s
text-means s a = let p = text-passes s a in subst (Means (nodes_of 0 (sum_tree s))) (last-kept p) (passed-means p.passed)

-- ---- No other sum has it.

pub text-one : {s t : Sum} → Accepted variables s → Accepted variables t → Named s → Named t → sum_text s ≡ sum_text t → s ≡ t
text-one {s} {t} a b named named' e =
    let again = subst (λ (w : List ℕ). Formula w (sum_tree t)) (sym e) (text-formula variables t b named') in
    let trees : sum_tree s ≡ sum_tree t = tree-one (text-formula variables s a named) again in
    means-one (text-means s a) (subst (λ (u : Tree). Means (nodes_of 0 u) t) (sym trees) (text-means t b))

-- two packed sums with the same text are the same bytes
pub bytes_one : {s t : Sum} {bytes bytes' : List ℕ} → PackedSum bytes s → PackedSum bytes' t → Named s → Named t → sum_text s ≡ sum_text t → bytes ≡ bytes'
bytes_one p q named named' e = p.bytes_are ∙ ap packed (text-one p.accepted q.accepted named named' e) ∙ sym q.bytes_are

-- ---- Typed in again.

module _ (s : Sum) (a : Accepted variables s) (named : Named s) where
  -- wherever the reader takes the text, and the simplifier the table
  pub mailed : (table : List ℤ) (ws : List ℕ) (cs : List ℤ) (area : List ℕ) {n m : ℕ} {table' : List ℤ} {areas : WorkAreas}
      → read_formula (sum_text s) table ≡ outcome (done n) table' → simplify (take (3 * n) table') ws cs area ≡ outcome (done m) areas
      → take m areas.2 ≡ packed s
  mailed table ws cs area {n} {m} {table'} e f =
      let d = typed-means (sum_text s) table e in
      let r = simplify-means (take (3 * n) table') ws cs area f in
      let tree = tree-one d.formula (text-formula variables s a named) in
      let tables = ap (λ u. table_of (nodes_of 0 u)) (sym tree) ∙ sym (typed-table d) ∙ r.table_is in
      let nodes = table-one (nodes_of 0 (sum_tree s)) r.ks tables in
      let sums = means-one r.means (subst (λ ks. Means ks s) nodes (text-means s a)) in
      (written-front (packed r.sum) area (ap (λ x. x.2) r.areas_are) (sym r.many)).0 ∙ ap packed sums

  -- ---- And they do take it, if there are not too many bytes or nodes.

  module _ (table : List ℤ) (room : table_places ≤ length table) where
    pub text-typed : length (sum_text s) ≤ longest_text → node_count (sum_tree s) ≤ most_nodes
        → Typed (sum_text s) table (node_count (sum_tree s)) (written (table_of (nodes_of 0 (sum_tree s))) table)
    text-typed short few = record {
      tree = sum_tree s;
      room = room;
      short = short;
      formula = text-formula variables s a named;
      few = few;
      many = refl;
      table_is = refl;
    }

    pub text-taken : length (sum_text s) ≤ longest_text → node_count (sum_tree s) ≤ most_nodes
        → read_formula (sum_text s) table ≡ outcome (done (node_count (sum_tree s))) (written (table_of (nodes_of 0 (sum_tree s))) table)
    text-taken short few = typed-accepts (sum_text s) table (text-typed short few)

    pub too-many-bytes : longest_text < length (sum_text s) → read_formula (sum_text s) table ≡ outcome (refused TEXT longest_text) table
    too-many-bytes h = refuses-typed (sum_text s) table (too_long room h)

    pub too-many-nodes : length (sum_text s) ≤ longest_text → most_nodes < node_count (sum_tree s) → read_formula (sum_text s) table ≡ outcome (refused NODES 0) table
    too-many-nodes short h = refuses-typed (sum_text s) table (too_many room short (text-formula variables s a named) h)

    -- the table that the reader leaves, simplified in any areas with room
    pub mailed-taken : length (sum_text s) ≤ longest_text → node_count (sum_tree s) ≤ most_nodes → (ws : List ℕ) (cs : List ℤ) (area : List ℕ) → WorkRoom ws cs area
        → simplify (take (3 * node_count (sum_tree s)) (written (table_of (nodes_of 0 (sum_tree s))) table)) ws cs area
        ≡ outcome (done (length (packed s))) (cleared_with ws cs (written (packed s) area))
    unfolding text-typed
    mailed-taken short few ws cs area r =
        let p = text-passes s a in
        let many = nodes-length 0 (sum_tree s) in
        ap (λ l. simplify l ws cs area) (typed-table (text-typed short few))
        ∙ simplify-accepts ws cs area r p.passed (omega (arith, many, size-some (sum_tree s))) (omega (arith, many))
        ∙ ap (λ t. outcome (done (length (packed t))) (cleared_with ws cs (written (packed t) area))) (last-kept p)
