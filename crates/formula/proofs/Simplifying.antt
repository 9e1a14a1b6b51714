-- Simplify, as its caller sees it: exactly when it is done, with which sum, and exactly when it is refused, and how.
use mathlib.Core.Path.{◌≡◌, refl, sym, ◌∙◌, ap, subst}
use mathlib.Core.Bool.{Bool, true, false}
use mathlib.Core.List.{List, []}
use Prim.Native.Nat.{ℕ, ◌*◌, ◌%◌, ◌/◌, ◌≤◌, ◌<◌}
use native.Mathlib.Omega.{arith}
use lib.Dec.{leb, eqb, leb→le, eqb→eq}
use lib.IntN.{ℤ, pos}
use lib.ListN.{length}
use borrow.Author.Tests.{le-leb}
use Rattle.algebra.specs.Limits.{most_nodes, work_places}
use Rattle.answers.specs.Refusals.{SHAPE}
use Rattle.answers.specs.Answers.{Told, Told.done, Told.refused, Outcome, outcome}
use Rattle.answers.specs.Areas.{written, cleared}
use Rattle.answers.specs.Judge.{Judged, Judged.good, and_then}
use Rattle.packed.specs.Packed.{packed}
use Rattle.packed.specs.Result.{WorkAreas, packed_into, beside}
use Rattle.packed.proofs.Working.{each_holds, has_room, tested-room, tested-none, worked, with-room, without-room}
use Rattle.packed.specs.Promised.{WorkRoom, cleared_with}
use Rattle.nodes.specs.Node.{Kind, table_of}
use Rattle.formula.specs.Table.{Entry, judge_nodes, is_shape}
use Rattle.formula.specs.Inside.Shape.{Shaped}
use Rattle.formula.specs.Simplify.{last_sum, table_sum, simplify}
use Rattle.formula.specs.Checks.{Passed, FirstFault}
use Rattle.formula.specs.Promised.{Simplified, SimplifyRefuses, SimplifyRefuses.no_room, SimplifyRefuses.no_shape, SimplifyRefuses.at_node}
use Rattle.formula.proofs.Passing.{table-length, AllPass, all-judge, fault-judge, shape-judge, no-shape-judge, Verdict, Verdict.all, Verdict.first, verdict}
use Rattle.formula.proofs.Meaning.{last-accepted, passed-means}

-- ---- SHAPE.

pub shape-says : (n : ℕ) → is_shape n ≡ true → Shaped n (n / 3)
unfolding is_shape
shape-says n e =
    let h = each_holds (eqb (n % 3) 0) (leb 1 (n / 3)) (leb (n / 3) most_nodes) e in
    record {
      three_each = omega (arith, eqb→eq (n % 3) 0 h.0);
      some = leb→le 1 (n / 3) h.1;
      few = leb→le (n / 3) most_nodes h.2;
    }

pub nodes-shape : (m : ℕ) → 0 < m → m ≤ most_nodes → is_shape (3 * m) ≡ true
unfolding is_shape
nodes-shape m some few =
    let none_left : 3 * m % 3 ≡ 0 = omega arith in
    let as_many : 3 * m / 3 ≡ m = omega arith in
    rw (none_left, as_many, le-leb 1 m some, le-leb m most_nodes few)

-- ---- The outcomes.

module _ (table : List ℤ) (ws : List ℕ) (cs : List ℤ) (area : List ℕ) where
  -- what it leaves is what any operation with work areas leaves that has judged this sum
  pub simplify-worked : simplify table ws cs area ≡ worked ws cs area (table_sum table)
  unfolding simplify worked
  simplify-worked = refl

  -- ---- Check by check.

  -- the nodes have been judged, whatever came of it
  after-shape : WorkRoom ws cs area → is_shape (length table) ≡ true → {j : Judged (List Entry)} → judge_nodes [] table ≡ j
      → simplify table ws cs area
      ≡ beside (cleared 0 work_places ws) (cleared (pos 0) work_places cs) (packed_into (and_then j (λ nodes. good (last_sum nodes))) area)
  unfolding table_sum
  after-shape r s e = simplify-worked ∙ with-room (table_sum table) ws cs area r ∙ rw (shape-judge table s, e)

  after-nodes : WorkRoom ws cs area → is_shape (length table) ≡ true → {es : List Entry} → AllPass table es
      → let bytes = packed (last_sum es) in simplify table ws cs area ≡ outcome (done (length bytes)) (cleared_with ws cs (written bytes area))
  unfolding packed_into and_then
  after-nodes r s a = after-shape r s (all-judge a)

  without-shape : WorkRoom ws cs area → is_shape (length table) ≡ false → simplify table ws cs area ≡ outcome (refused SHAPE 0) (cleared_with ws cs area)
  unfolding table_sum packed_into and_then
  without-shape r s = simplify-worked ∙ with-room (table_sum table) ws cs area r ∙ rw (no-shape-judge table s)

  at-fault : {refusal p : ℕ} → WorkRoom ws cs area → is_shape (length table) ≡ true → FirstFault table refusal p
      → simplify table ws cs area ≡ outcome (refused refusal p) (cleared_with ws cs area)
  unfolding packed_into and_then
  at-fault r s f = after-shape r s (fault-judge f)

  pub refuses-simplify : {refusal p : ℕ} {areas : WorkAreas} → SimplifyRefuses table ws cs area refusal p areas → simplify table ws cs area ≡ outcome (refused refusal p) areas
  refuses-simplify (no_room f) = simplify-worked ∙ without-room (table_sum table) ws cs area f
  refuses-simplify (no_shape r s) = without-shape r s
  refuses-simplify (at_node r s f) = at-fault r s f

-- nodes that all pass are accepted
pub simplify-accepts : {ks : List Kind} {es : List Entry} (ws : List ℕ) (cs : List ℤ) (area : List ℕ)
    → WorkRoom ws cs area → Passed ks es → 0 < length ks → length ks ≤ most_nodes
    → let bytes = packed (last_sum es) in simplify (table_of ks) ws cs area ≡ outcome (done (length bytes)) (cleared_with ws cs (written bytes area))
simplify-accepts {ks} ws cs area r p some few =
    after-nodes (table_of ks) ws cs area r (ap is_shape (table-length ks) ∙ nodes-shape (length ks) some few) (record { ks = ks; table_is = refl; passed = p })

-- ---- There are no other outcomes.

module _ (table : List ℤ) (ws : List ℕ) (cs : List ℤ) (area : List ℕ) where
  -- what stands behind an answer, and behind an outcome
  abbrev Behind : Told → WorkAreas → Type 0
  Behind (done n) areas = Simplified table ws cs area n areas
  Behind (refused refusal p) areas = SimplifyRefuses table ws cs area refusal p areas

  abbrev Explains : Outcome WorkAreas → Type 0
  Explains o = Behind o.answer o.areas

  refused-so : {refusal p : ℕ} {areas : WorkAreas} → SimplifyRefuses table ws cs area refusal p areas → Explains (simplify table ws cs area)
  refused-so d = subst Explains (sym (refuses-simplify table ws cs area d)) d

  judged : WorkRoom ws cs area → is_shape (length table) ≡ true → Verdict table → Explains (simplify table ws cs area)
  judged r s (all es a) =
      let shape = shape-says (length table) s in
      let three_each = ap length a.table_is ∙ table-length a.ks in
      subst Explains (sym (after-nodes table ws cs area r s a))
      (record {
        ks = a.ks;
        entries = es;
        sum = last_sum es;
        room = r;
        table_is = a.table_is;
        some = omega (arith, shape.some, three_each);
        few = omega (arith, shape.few, three_each);
        passed = a.passed;
        sum_is = refl;
        means = passed-means a.passed;
        accepted = last-accepted a.passed;
        many = refl;
        areas_are = refl;
      })
  judged r s (first refusal p f) = refused-so (at_node r s f)

  explained : Explains (simplify table ws cs area)
  explained = go (has_room ws cs area) refl (is_shape (length table)) refl
    where
      go : (b : Bool) → has_room ws cs area ≡ b → (c : Bool) → is_shape (length table) ≡ c → Explains (simplify table ws cs area)
      go true r true s = judged (tested-room ws cs area r) s (verdict table (omega (arith, (shape-says (length table) s).three_each)))
      go true r false s = refused-so (no_shape (tested-room ws cs area r) s)
      go false r c s = refused-so (no_room (tested-none ws cs area r))

  pub simplify-means : {n : ℕ} {areas : WorkAreas} → simplify table ws cs area ≡ outcome (done n) areas → Simplified table ws cs area n areas
  simplify-means e = subst Explains e explained

  pub simplify-refuses : {refusal p : ℕ} {areas : WorkAreas} → simplify table ws cs area ≡ outcome (refused refusal p) areas
      → SimplifyRefuses table ws cs area refusal p areas
  simplify-refuses e = subst Explains e explained
