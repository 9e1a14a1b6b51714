-- Two spellings of one formula become one record: where two formulas have the same coefficient at every pattern, their packed bytes are the same.
use mathlib.Core.Path.{◌≡◌, sym, ◌∙◌, ap, subst}
use mathlib.Core.List.{List}
use Prim.Native.Nat.{ℕ}
use lib.IntN.{ℤ}
use lib.ListN.{length}
use Rattle.algebra.specs.Limits.{variables}
use Rattle.algebra.specs.Pattern.{Pattern}
use Rattle.algebra.specs.Value.{coefficient}
use Rattle.algebra.proofs.Sums.Equal.{ordered-equal}
use Rattle.packed.specs.Packed.{packed}
use Rattle.packed.specs.Promised.{PackedSum}
use Rattle.nodes.specs.Node.{Kind, table_of}
use Rattle.formula.specs.Meaning.{formula_coefficient}
use Rattle.formula.proofs.Tables.{table-one}
use Rattle.text.specs.Tree.{Tree, nodes_of}
use Rattle.text.specs.Grammar.{Formula}
use Rattle.promises.specs.Becomes.{Simplifies, ReadsAs}
use Rattle.promises.proofs.Becoming.{simplified, simplified-bytes, packed-one, read_table}

-- the sum that a table became has its formula's coefficients
table-coefficient : (ks : List Kind) {bytes : List ℕ} (r : Simplifies (table_of ks) bytes) (p : Pattern) → coefficient (simplified r).sum p ≡ formula_coefficient ks p
table-coefficient ks r p = let d = simplified r in d.means.coefficients p ∙ ap (λ l. formula_coefficient l p) (sym (table-one ks d.ks d.table_is))

module _ (ks js : List Kind) {bytes bytes' : List ℕ} (r : Simplifies (table_of ks) bytes) (q : Simplifies (table_of js) bytes') where
  pub one-record : ((p : Pattern) → length p ≡ variables → formula_coefficient ks p ≡ formula_coefficient js p) → bytes ≡ bytes'
  one-record same =
      let s = (simplified r).sum in
      let t = (simplified q).sum in
      let sums : s ≡ t = ordered-equal variables s t (simplified r).accepted.is_ordered (simplified q).accepted.is_ordered (λ p long. table-coefficient ks r p ∙ same p long ∙ sym (table-coefficient js q p)) in
      (simplified-bytes r).bytes_are ∙ ap packed sums ∙ sym (simplified-bytes q).bytes_are

  -- and only those: the same bytes are the same coefficients
  pub record-one : bytes ≡ bytes' → (p : Pattern) → formula_coefficient ks p ≡ formula_coefficient js p
  record-one same p =
      let t = (simplified q).sum in
      let sums = packed-one (simplified-bytes r) (subst (λ (l : List ℕ). PackedSum l t) (sym same) (simplified-bytes q)) in
      sym (table-coefficient ks r p) ∙ ap (λ s. coefficient s p) sums ∙ table-coefficient js q p

-- of typed formulas, by the nodes of their trees
pub one-record-typed : {text text' : List ℕ} {tree tree' : Tree} {table table' : List ℤ} {bytes bytes' : List ℕ}
    → Formula text tree → ReadsAs text table → Simplifies table bytes → Formula text' tree' → ReadsAs text' table' → Simplifies table' bytes'
    → ((p : Pattern) → length p ≡ variables → formula_coefficient (nodes_of 0 tree) p ≡ formula_coefficient (nodes_of 0 tree') p) → bytes ≡ bytes'
one-record-typed {tree = tree} {tree'} formula t r formula' t' r' same =
    one-record (nodes_of 0 tree) (nodes_of 0 tree') (rw (read_table formula t) at r) (rw (read_table formula' t') at r') same
