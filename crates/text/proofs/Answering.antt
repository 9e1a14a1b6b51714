-- What the operation on typed formulas answers, check by check, and what stands in the table that it lays out first.
use mathlib.Core.Path.{◌≡◌, ◌∙◌, ap}
use mathlib.Core.Bool.{true}
use mathlib.Core.List.{List, map}
use Prim.Native.Nat.{ℕ, ◌≤◌, ◌<◌}
use native.Mathlib.Omega.{arith}
use lib.Dec.{leb}
use lib.IntN.{ℤ}
use lib.ListN.{length, take, replicate, length-replicate}
use lib.Seq.{sets, sets-eq, take_at}
use borrow.Author.Tests.{le-leb, lt-leb}
use Rattle.algebra.specs.Limits.{most_nodes}
use Rattle.answers.specs.Refusals.{ROOM, TEXT, NODES}
use Rattle.answers.specs.Answers.{Told.done, Told.refused, outcome}
use Rattle.answers.specs.Areas.{written}
use Rattle.answers.specs.Judge.{Judged.good, Judged.fails, holding, and_then}
use Rattle.std.specs.List.{flat_map}
use Rattle.std.proofs.lemmas.List.{length-map}
use Rattle.nodes.specs.Node.{numbers_of, table_of}
use Rattle.text.specs.declared.laying.Layout.{Layout}
use Rattle.text.specs.Limits.{longest_text, table_places}
use Rattle.text.specs.Tree.{Tree, node_count, nodes_of}
use Rattle.text.specs.Reader.{span, read_whole}
use Rattle.text.specs.Text.{judge_text, table_into, read_formula}
use Rattle.text.specs.Inside.Laid.{Part}
use Rattle.text.proofs.Trees.{nodes-length}
use Rattle.text.proofs.Nodes.{rows-table}

-- ---- The checks.

module _ (text : List ℕ) (table : List ℤ) where
  pub no_room : length table < table_places → outcome (refused ROOM 0) table ≡ read_formula text table
  unfolding read_formula
  no_room h = rw (lt-leb table_places (length table) h)

  module _ (room : table_places ≤ length table) where
    has_room : leb table_places (length table) ≡ true
    has_room = le-leb table_places (length table) room

    pub too_long : longest_text < length text → outcome (refused TEXT longest_text) table ≡ read_formula text table
    unfolding read_formula judge_text table_into holding
    too_long h = rw (has_room, lt-leb (length text) longest_text h)

    module _ (short : length text ≤ longest_text) where
      is-short : leb (length text) longest_text ≡ true
      is-short = le-leb (length text) longest_text short

      pub no_formula : {place : ℕ} → read_whole text ≡ fails TEXT place → outcome (refused TEXT place) table ≡ read_formula text table
      unfolding read_formula judge_text table_into holding and_then
      no_formula e = rw (has_room, is-short, e)

      module _ {t : Tree} (e : read_whole text ≡ good t) where
        pub too_many : most_nodes < node_count t → outcome (refused NODES 0) table ≡ read_formula text table
        unfolding read_formula judge_text table_into holding and_then
        too_many h = rw (has_room, is-short, e, lt-leb (node_count t) most_nodes h)

        pub all_done : {nodes : ℕ} {table' : List ℤ} → nodes ≡ node_count t → nodes ≤ most_nodes → table' ≡ written (table_of (nodes_of 0 t)) table
            → outcome (done nodes) table' ≡ read_formula text table
        unfolding read_formula judge_text table_into holding and_then
        all_done many few are = rw (many, are, has_room, is-short, e, le-leb (node_count t) most_nodes (omega arith))

-- ---- A tree laid out in a table of its own: the numbers of its nodes stand in front.

pub record LaidOut (t : Tree) (nodes : ℕ) (own : List (List ℤ)) : Type 0 where
  pub many : nodes ≡ node_count t
  pub front : flat_map (λ x. x) (take nodes own) ≡ table_of (nodes_of 0 t)

pub stands : (text : List ℕ) (a b : Layout) {t : Tree} {next : ℕ} {none : List ℤ} → a.rows ≡ replicate most_nodes none → a.nodes ≡ 0
    → Part text 0 a.nodes a.rows (span t next) next b.nodes b.rows → b.nodes ≤ most_nodes → LaidOut t b.nodes b.rows
stands text a b {t} {none = none} new zero w few =
    let rows = map numbers_of (nodes_of 0 t) in
    let many : b.nodes ≡ node_count t = omega (arith, w.count_is) in
    let long : length rows ≡ b.nodes = omega (arith, length-map (nodes_of 0 t) numbers_of, nodes-length 0 t) in
    let places : length a.rows ≡ most_nodes = ap length new ∙ length-replicate most_nodes none in
    let is : b.rows ≡ sets a.rows 0 rows = rw zero at (w.laid (omega arith)) in
    let front : take b.nodes b.rows ≡ rows = ap (take b.nodes) (is ∙ sets-eq rows a.rows 0 (omega arith)) ∙ take_at rows _ b.nodes long in
    record { many = many; front = rw front (rows-table (nodes_of 0 t)) }
