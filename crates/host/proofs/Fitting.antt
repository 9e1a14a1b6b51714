-- Every operation's answer is within the unit: what it returns when it is done, and the place of every refusal, are far below 2^32.
use mathlib.Core.Path.{◌≡◌, refl, ◌∙◌, ap}
use mathlib.Core.Bool.{◌&&◌}
use mathlib.Core.List.{List, [], ◌∷◌, ◌++◌}
use Prim.Native.Nat.{ℕ, ◌*◌, ◌≤◌, ◌<◌}
use native.Mathlib.Omega.{arith}
use lib.Dec.{leb, eqb, leb→le, eqb→eq}
use lib.IntN.{ℤ}
use lib.ListN.{length, get_or, take, length-append}
use lib.Seq.{length-take-le}
use Rattle.algebra.specs.Limits.{variables, most_terms, most_nodes}
use Rattle.algebra.specs.Accepted.{Accepted}
use Rattle.algebra.specs.Sum.{Sum}
use Rattle.algebra.specs.Held.{first_terms}
use lib.Ieee.Fits.{and_l, and_r}
use Rattle.answers.specs.Refusals.{SUM}
use Rattle.answers.specs.Answers.{Told.done, outcome, check}
use Rattle.answers.specs.Areas.{written}
use Rattle.answers.specs.Host.{narrow_unit, wide_unit}
use Rattle.packed.specs.Packed.{packed, most_bytes}
use Rattle.packed.specs.ReadSum.{read_whole}
use Rattle.packed.specs.Whole.{judged}
use Rattle.packed.specs.Result.{WorkAreas, held_into}
use Rattle.packed.specs.Unpack.{unpack}
use Rattle.packed.specs.Pack.{good_terms, pack}
use Rattle.packed.proofs.Sizes.{packed-most}
use Rattle.packed.proofs.Good.{good-most}
use Rattle.packed.proofs.Packing.{accepted}
use Rattle.packed.specs.Promised.{PackFits}
use Rattle.packed.proofs.Results.{fault-small, fault-judged, sum-judged, Reading, Reading.a_sum, Reading.a_fault, reading}
use Rattle.packed.specs.Promised.{AtFault}
use Rattle.nodes.specs.Node.{table_of}
use Rattle.formula.specs.Table.{Entry}
use Rattle.formula.specs.Simplify.{simplify}
use Rattle.formula.specs.Checks as formula-checks
use Rattle.formula.proofs.Passing.{passed_length, table-length}
use Rattle.formula.specs.Promised.{SimplifyRefuses}
use Rattle.formula.proofs.Simplifying as simplifying
use Rattle.text.specs.Text.{read_formula}
use Rattle.text.specs.Promised.{TextRefuses}
use Rattle.text.proofs.Typing as typing
use Rattle.numbers.specs.Item.{Item.got, Fault.cut, Fault.bad}
use Rattle.change.specs.Pairs.{Pair, ListFault, ListFault.item, ListFault.unknown, read_list, refusal_of}
use Rattle.change.specs.Checks as change-checks
use Rattle.change.specs.Slope.{slope}
use Rattle.change.specs.Substitute.{substitute}
use Rattle.change.proofs.ListBytes.{list_written}
use Rattle.numbers.proofs.Items.{place_of}
use Rattle.change.proofs.ListPlaces.{list-small}
use Rattle.change.specs.Promised.{SlopeRefuses, SubstituteRefuses}
use Rattle.change.proofs.Sloped as sloping
use Rattle.change.proofs.Substituting as substituting
use Rattle.spelling.specs.WriteText.{write_text}
use Rattle.spelling.specs.Promised.{WriteTextRefuses}
use Rattle.spelling.proofs.Widths.{text-fits}
use Rattle.spelling.proofs.Written as writing
use Rattle.answers.proofs.Hosting.{between, within, within-check}
use Rattle.answers.specs.Promised.{Numbered, Placed, Hearable}

placed : {refusal place : ℕ} → Numbered refusal → place < wide_unit → Placed wide_unit refusal place
placed numbered below = record { numbered = numbered; below = below }

at_zero : {refusal : ℕ} → Numbered refusal → Placed wide_unit refusal 0
at_zero numbered = placed numbered (omega arith)

-- the length of a packed result
result-below : {n : ℕ} {s : Sum} → Accepted variables s → n ≡ length (packed s) → n < narrow_unit
result-below {s = s} a e = omega (arith, e, packed-most variables s a)

-- ---- Texts and tables.

module _ (text : List ℕ) (table : List ℤ) where
  text-refusal : {refusal place : ℕ} {table' : List ℤ} → TextRefuses text table refusal place table' → Placed wide_unit refusal place
  text-refusal (TextRefuses.no_room short) = at_zero (between (omega arith) (omega arith))
  text-refusal (TextRefuses.too_long room long) = placed (between (omega arith) (omega arith)) (omega arith)
  text-refusal (TextRefuses.no_formula room short none longest) = placed (between (omega arith) (omega arith)) (omega (arith, longest.within))
  text-refusal (TextRefuses.too_many room short formula many) = at_zero (between (omega arith) (omega arith))

  pub text-within : Hearable wide_unit (read_formula text table).answer
  text-within =
      within (read_formula text table)
      (λ n a e. let t = typing.typed-means text table e in omega (arith, t.many, t.few))
      (λ r p a e. text-refusal (typing.typed-refuses text table e))

node-refusal : {before : List Entry} {numbers : List ℤ} {refusal : ℕ} → formula-checks.Fault before numbers refusal → Numbered refusal
node-refusal (formula-checks.Fault.node none) = between (omega arith) (omega arith)
node-refusal (formula-checks.Fault.degree k n d) = between (omega arith) (omega arith)
node-refusal (formula-checks.Fault.weight k n d w) = between (omega arith) (omega arith)
node-refusal (formula-checks.Fault.spread k n d w s) = between (omega arith) (omega arith)

-- a node that is at fault stands in the table
node-place : (table : List ℤ) {refusal place : ℕ} → length table ≤ 3 * most_nodes → formula-checks.FirstFault table refusal place → place < most_nodes
node-place table few f =
    let all = ap length f.table_is ∙ length-append (table_of f.ks) (f.numbers ++ f.rest) in
    omega (arith, few, all, table-length f.ks, length-append f.numbers f.rest, f.three, passed_length f.passed, f.at_node)

module _ (table : List ℤ) (ws : List ℕ) (cs : List ℤ) (area : List ℕ) where
  simplify-refusal : {refusal place : ℕ} {areas : WorkAreas} → SimplifyRefuses table ws cs area refusal place areas → Placed wide_unit refusal place
  simplify-refusal (SimplifyRefuses.no_room none) = at_zero (between (omega arith) (omega arith))
  simplify-refusal (SimplifyRefuses.no_shape room shape) = at_zero (between (omega arith) (omega arith))
  simplify-refusal (SimplifyRefuses.at_node room shape f) =
      let shaped = simplifying.shape-says (length table) shape in
      placed (node-refusal f.fault) (omega (arith, node-place table (omega (arith, shaped.three_each, shaped.few)) f))

  pub simplify-within : Hearable wide_unit (simplify table ws cs area).answer
  simplify-within =
      within (simplify table ws cs area)
      (λ n a e. let s = simplifying.simplify-means table ws cs area e in result-below s.accepted s.many)
      (λ r p a e. simplify-refusal (simplifying.simplify-refuses table ws cs area e))

-- ---- Packed sums.

module _ (bytes : List ℕ) (byte : (i : ℕ) → get_or bytes i 0 < 256) where
  sum-refusal : {place : ℕ} → AtFault (read_whole variables bytes) place → Placed wide_unit SUM place
  sum-refusal a = placed (between (omega arith) (omega arith)) (omega (arith, fault-small bytes byte a))

  pub unpack-within : (ws : List ℕ) (cs : List ℤ) → Hearable wide_unit (unpack bytes ws cs).answer
  unfolding unpack held_into
  unpack-within ws cs = within-check (leb most_terms (length ws) && leb most_terms (length cs)) _ _ _ _ (at_zero (between (omega arith) (omega arith))) (λ room. read (reading bytes byte))
    where
      read : Reading bytes → Hearable wide_unit (held_into (judged SUM (read_whole variables bytes)) ws cs).answer
      read (a_sum s p) = rw (sum-judged p) (omega (arith, p.accepted.few))
      read (a_fault place a) = rw (fault-judged SUM a) (sum-refusal a)

  slope-refusal : {v refusal place : ℕ} {area area' : List ℕ} → SlopeRefuses bytes v area refusal place area' → Placed wide_unit refusal place
  slope-refusal (SlopeRefuses.no_room short) = at_zero (between (omega arith) (omega arith))
  slope-refusal (SlopeRefuses.at_sum room a) = sum-refusal a
  slope-refusal (SlopeRefuses.no_variable room p none) = at_zero (between (omega arith) (omega arith))
  slope-refusal (SlopeRefuses.heavy room p known above) = at_zero (between (omega arith) (omega arith))
  slope-refusal (SlopeRefuses.wide room p known light above) = at_zero (between (omega arith) (omega arith))

  pub slope-within : (v : ℕ) (area : List ℕ) → Hearable wide_unit (slope bytes v area).answer
  slope-within v area =
      within (slope bytes v area)
      (λ n a e. let s = sloping.slope-means bytes byte v area e in result-below s.result_accepted s.many)
      (λ r p a e. slope-refusal (sloping.slope-refuses bytes byte v area e))

  write-refusal : {refusal place : ℕ} {area area' : List ℕ} → WriteTextRefuses bytes area refusal place area' → Placed wide_unit refusal place
  write-refusal (WriteTextRefuses.no_room short) = at_zero (between (omega arith) (omega arith))
  write-refusal (WriteTextRefuses.at_sum room a) = sum-refusal a

  pub write-within : (area : List ℕ) → Hearable wide_unit (write_text bytes area).answer
  write-within area =
      within (write_text bytes area)
      (λ n a e. let w = writing.write-text-means bytes byte area e in omega (arith, w.many, text-fits variables (omega arith) w.sum w.of_bytes.accepted))
      (λ r p a e. write-refusal (writing.write-text-refuses bytes byte area e))

module _ (count : ℕ) (ws : List ℕ) (cs : List ℤ) (area : List ℕ) where
  abbrev good : ℕ
  good = good_terms [] (take count ws) (take count cs)

  -- ROOM and SHAPE are passed, and the terms are judged
  judged-within : PackFits count ws cs area → Hearable wide_unit (check (eqb good count) SUM good area (let bytes = packed (first_terms count ws cs) in outcome (done (length bytes)) (written bytes area))).answer
  judged-within p =
      let inside : good ≤ count = omega (arith, good-most [] (take count ws) (take count cs), length-take-le count ws p.patterns_enough) in
      within-check (eqb good count) _ _ _ _ (placed (between (omega arith) (omega arith)) (omega (arith, inside, p.few)))
      (λ all. result-below (accepted p (eqb→eq good count all)).1 refl)

  pub pack-within : Hearable wide_unit (pack count ws cs area).answer
  unfolding pack
  pack-within =
      let few = leb count most_terms in
      let words = leb count (length ws) in
      let coefficients = leb count (length cs) in
      within-check (leb (most_bytes variables) (length area)) _ _ _ _ (at_zero (between (omega arith) (omega arith))) (λ room.
      within-check (few && (words && coefficients)) _ _ _ _ (at_zero (between (omega arith) (omega arith))) (λ shape.
      let both = and_r few (words && coefficients) shape in
      judged-within (record {
        room = leb→le (most_bytes variables) (length area) room;
        few = leb→le count most_terms (and_l few (words && coefficients) shape);
        patterns_enough = leb→le count (length ws) (and_l words coefficients both);
        coefficients_enough = leb→le count (length cs) (and_r words coefficients both);
      })))

-- ---- Substitution lists.

list-refusal : (what : ListFault) → Numbered (refusal_of what)
list-refusal (item cut) = between (omega arith) (omega arith)
list-refusal (item bad) = between (omega arith) (omega arith)
list-refusal unknown = between (omega arith) (omega arith)

pair-refusal : {p : Pair} {s : Sum} {refusal : ℕ} → change-checks.Fails p s refusal → Numbered refusal
pair-refusal (change-checks.Fails.degree d) = between (omega arith) (omega arith)
pair-refusal (change-checks.Fails.weight d w) = between (omega arith) (omega arith)
pair-refusal (change-checks.Fails.spread d w s) = between (omega arith) (omega arith)

module _ (bytes list ws : List ℕ) (cs : List ℤ) (area : List ℕ) (byte : (i : ℕ) → get_or bytes i 0 < 256) (list-byte : (i : ℕ) → get_or list i 0 < 256) where
  -- a pair that is at fault stands in the list
  pair_place : {ps : List Pair} {s : Sum} {last refusal j : ℕ} → read_list variables list ≡ got ps last → change-checks.FirstFault ps s refusal j → j < variables
  pair_place {ps} {s} {last} read f =
      let all = ap length f.pairs_are ∙ length-append f.passed (f.p ∷ f.rest) in
      omega (arith, all, (list_written list list-byte variables ps last read).few, f.at_pair)

  substitute-refusal : {refusal place : ℕ} {areas : WorkAreas} → SubstituteRefuses bytes list ws cs area refusal place areas → Placed wide_unit refusal place
  substitute-refusal (SubstituteRefuses.no_room none) = at_zero (between (omega arith) (omega arith))
  substitute-refusal (SubstituteRefuses.at_sum room a) = sum-refusal bytes byte a
  substitute-refusal (SubstituteRefuses.at_list {what = what} room p e) = placed (list-refusal what) (omega (arith, list-small list list-byte, ap place_of e))
  substitute-refusal (SubstituteRefuses.at_pair room p read f) = placed (pair-refusal f.fails) (omega (arith, pair_place read f))

  pub substitute-within : Hearable wide_unit (substitute bytes list ws cs area).answer
  substitute-within =
      within (substitute bytes list ws cs area)
      (λ n a e. let s = substituting.substitute-means bytes list ws cs area byte list-byte e in result-below s.accepted s.many)
      (λ r p a e. substitute-refusal (substituting.substitute-refuses bytes list ws cs area byte list-byte e))
