-- Whatever becomes a packed sum has the value of that sum.
use mathlib.Core.Path.{◌≡◌, refl, sym, ◌∙◌, ap}
use mathlib.Core.List.{List}
use Prim.Native.Nat.{ℕ, ◌<◌}
use lib.IntN.{ℤ}
use lib.ListN.{get_or}
use Rattle.algebra.specs.Limits.{variables}
use Rattle.algebra.specs.Sum.{Sum}
use Rattle.answers.specs.Judge.{Judged.good}
use Rattle.answers.proofs.Writes.{written-front}
use Rattle.packed.specs.Packed.{packed}
use Rattle.packed.proofs.Sizes.{packed-bytes}
use Rattle.packed.proofs.Results.{sum-judged}
use Rattle.packed.specs.Promised.{PackedSum}
use Rattle.nodes.specs.Node.{Kind, table_of}
use Rattle.formula.specs.Meaning.{formula_value}
use Rattle.formula.proofs.Tables.{table-one}
use Rattle.formula.proofs.Simplifying.{simplify-means}
use Rattle.formula.specs.Promised.{Simplified}
use Rattle.text.specs.Tree.{Tree, nodes_of}
use Rattle.text.specs.Grammar.{Formula}
use Rattle.text.proofs.Formulas.{tree-one}
use Rattle.text.proofs.Typing.{typed-means}
use Rattle.text.proofs.Joining.{typed-table}
use Rattle.text.proofs.Meaning.{tree-value}
use Rattle.promises.specs.Promised.{HasValues}
use Rattle.promises.specs.Becomes.{Simplifies, ReadsAs, Becomes, Becomes.a_sum, Becomes.a_table, Becomes.a_text}

-- ---- Packed bytes.

-- they are those of one sum
pub packed-one : {bytes : List ℕ} {s t : Sum} → PackedSum bytes s → PackedSum bytes t → s ≡ t
packed-one {s = s} {t = t} p q = let e : good s ≡ good t = sym (sum-judged p) ∙ sum-judged q in cc

-- each is below 256
pub packed-small : {bytes : List ℕ} {s : Sum} → PackedSum bytes s → (i : ℕ) → get_or bytes i 0 < 256
packed-small {s = s} p = rw p.bytes_are (packed-bytes variables s p.accepted)

-- ---- A table that was simplified, and a text that was read.

module _ {table : List ℤ} {bytes : List ℕ} (r : Simplifies table bytes) where
  pub simplified : Simplified table r.words r.coefficients r.area r.count r.areas
  simplified = simplify-means table r.words r.coefficients r.area r.is_done

  pub simplified-bytes : PackedSum bytes simplified.sum
  simplified-bytes =
      let d = simplified in
      let front = (written-front (packed d.sum) r.area (ap (λ a. a.2) d.areas_are) (sym d.many)).0 in
      record { accepted = d.accepted; bytes_are = sym r.bytes_are ∙ front }

pub read_table : {text : List ℕ} {tree : Tree} {table : List ℤ} → Formula text tree → ReadsAs text table → table ≡ table_of (nodes_of 0 tree)
read_table {text} formula t =
    let d = typed-means text t.area t.is_done in
    sym t.table_is ∙ typed-table d ∙ ap (λ u. table_of (nodes_of 0 u)) (tree-one d.formula formula)

-- ---- Values.

table-values : (ks : List Kind) {bytes : List ℕ} → Simplifies (table_of ks) bytes → HasValues bytes (formula_value ks)
table-values ks r =
    let d = simplified r in
    record {
      sum = d.sum;
      of_bytes = simplified-bytes r;
      values = λ x. ap (λ js. formula_value js x) (table-one ks d.ks d.table_is) ∙ sym (d.means.values x);
    }

pub becomes-values : {bytes : List ℕ} {f : List ℤ → ℤ} → Becomes bytes f → HasValues bytes f
becomes-values (a_sum s accepted are) = record { sum = s; of_bytes = record { accepted = accepted; bytes_are = sym are }; values = λ x. refl }
becomes-values (a_table ks r) = table-values ks r
becomes-values {bytes} (a_text text tree table formula t r) =
    let v = table-values (nodes_of 0 tree) {bytes = bytes} (rw (read_table formula t) at r) in
    record { sum = v.sum; of_bytes = v.of_bytes; values = λ x. sym (tree-value tree x) ∙ v.values x }
