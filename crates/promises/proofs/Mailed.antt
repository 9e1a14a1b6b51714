-- A packed sum that is written, mailed and typed in again: the same bytes come back, wherever the reader takes the text; and it takes every text within its limits.
use mathlib.Core.Path.{◌≡◌, sym, ◌∙◌, ap, subst}
use mathlib.Core.List.{List}
use Prim.Native.Nat.{ℕ, ◌≤◌, ◌<◌}
use native.Mathlib.Omega.{arith}
use native.Mathlib.Decide.{dec_lt}
use lib.IntN.{ℤ}
use lib.ListN.{length, get_or}
use Rattle.algebra.specs.Limits.{variables, most_nodes}
use Rattle.algebra.specs.Sum.{Sum}
use Rattle.algebra.specs.Accepted.{Accepted}
use Rattle.answers.proofs.Writes.{written-front}
use Rattle.packed.specs.Packed.{packed}
use Rattle.formula.specs.Simplify.{simplify}
use Rattle.text.specs.Limits.{longest_text, table_places}
use Rattle.text.specs.Tree.{node_count}
use Rattle.text.specs.Grammar.{Formula}
use Rattle.text.specs.Text.{read_formula}
use Rattle.spelling.specs.Spelling.{sum_text, sum_tree}
use Rattle.spelling.specs.Promised.{Named}
use Rattle.spelling.proofs.Formulas.{text-formula}
use Rattle.spelling.proofs.Values.{text-value}
use Rattle.spelling.proofs.Written.{write-text-means}
use Rattle.spelling.proofs.Mailed as spelling
use Rattle.spelling.proofs.Mailed.{accepted-named, bytes_one}
use Rattle.promises.specs.Becomes.{Simplifies, ReadsAs, WritesAs}
use Rattle.promises.specs.Promised.{Spells, TypedAgain, TypedAgain.taken, TypedAgain.too_long, TypedAgain.too_many}

-- ---- What was written is the text of a sum.

pub written-spells : {bytes text : List ℕ} → ((i : ℕ) → get_or bytes i 0 < 256) → WritesAs bytes text → Spells bytes text
written-spells {bytes} byte w =
    let d = write-text-means bytes byte w.area w.is_done in
    let s = d.sum in
    let text = sym w.text_is ∙ (written-front (sum_text s) w.area d.area_is (sym d.many)).0 in
    record {
      sum = s;
      of_bytes = d.of_bytes;
      text_is = text;
      formula = subst (λ (l : List ℕ). Formula l (sum_tree s)) (sym text) (text-formula variables s d.of_bytes.accepted (accepted-named s d.of_bytes.accepted));
      values = text-value s;
    }

-- ---- Typed in again.

module _ {bytes text : List ℕ} (p : Spells bytes text) where
  named : Named p.sum
  named = accepted-named p.sum p.of_bytes.accepted

  again-mailed : {table : List ℤ} {bytes' : List ℕ} → ReadsAs text table → Simplifies table bytes' → bytes' ≡ bytes
  again-mailed r s =
      sym s.bytes_are
      ∙ spelling.mailed p.sum p.of_bytes.accepted named r.area s.words s.coefficients s.area
      (ap (λ (l : List ℕ). read_formula l r.area) (sym p.text_is) ∙ r.is_done)
      (ap (λ (t : List ℤ). simplify t s.words s.coefficients s.area) r.table_is ∙ s.is_done)
      ∙ sym p.of_bytes.bytes_are

  again-typed : (table : List ℤ) → table_places ≤ length table → TypedAgain bytes text table
  again-typed table room =
      rw (p.text_is, p.of_bytes.bytes_are) (go p.sum p.of_bytes.accepted named (dec_lt longest_text (length (sum_text p.sum))) (dec_lt most_nodes (node_count (sum_tree p.sum))))
    where
      go : (s : Sum) → Accepted variables s → Named s → Dec (longest_text < length (sum_text s)) → Dec (most_nodes < node_count (sum_tree s)) → TypedAgain (packed s) (sum_text s) table
      go s a named (yes long) nodes = too_long long (spelling.too-many-bytes s a named table room long)
      go s a named (no short) (yes many) =
          let fits : length (sum_text s) ≤ longest_text = omega (arith, short) in
          too_many fits (text-formula variables s a named) many (spelling.too-many-nodes s a named table room fits many)
      go s a named (no short) (no few) =
          let fits : length (sum_text s) ≤ longest_text = omega (arith, short) in
          let within : node_count (sum_tree s) ≤ most_nodes = omega (arith, few) in
          taken fits within (spelling.text-taken s a named table room fits within) (spelling.mailed-taken s a named table room fits within)

module _ {bytes text : List ℕ} (byte : (i : ℕ) → get_or bytes i 0 < 256) (w : WritesAs bytes text) where
  -- read and simplified in whatever areas, the text becomes the same bytes
  pub mailed : {table : List ℤ} {bytes' : List ℕ} → ReadsAs text table → Simplifies table bytes' → bytes' ≡ bytes
  mailed r s = again-mailed (written-spells byte w) r s

  -- in a table area with room it is taken, or it has too many bytes or nodes for the reader; the simplifier never refuses it
  pub mailed-taken : (table : List ℤ) → table_places ≤ length table → TypedAgain bytes text table
  mailed-taken table room = again-typed (written-spells byte w) table room

-- ---- No other bytes have the text.

pub text-one : {bytes bytes' text : List ℕ} → ((i : ℕ) → get_or bytes i 0 < 256) → ((i : ℕ) → get_or bytes' i 0 < 256) → WritesAs bytes text → WritesAs bytes' text → bytes ≡ bytes'
text-one byte byte' w w' =
    let p = written-spells byte w in
    let q = written-spells byte' w' in
    bytes_one p.of_bytes q.of_bytes (accepted-named p.sum p.of_bytes.accepted) (accepted-named q.sum q.of_bytes.accepted) (sym p.text_is ∙ q.text_is)
