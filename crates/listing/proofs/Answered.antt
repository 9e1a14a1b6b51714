-- What the operations answer, as the sum that is listed or the refusal.
use mathlib.Core.Path.{◌≡◌, refl, sym, ◌∙◌, ap}
use mathlib.Core.Bool.{Bool, true, false}
use mathlib.Core.List.{List}
use Prim.Native.Nat.{ℕ, ◌*◌, ◌%◌, ◌≤◌}
use native.Mathlib.Omega.{arith}
use lib.Dec.{leb}
use lib.IntN.{ℤ, pos}
use lib.ListN.{length, take, drop, length-append}
use borrow.Author.Tests.{le-leb}
use Rattle.algebra.specs.Limits.{variables, most_terms, work_places}
use Rattle.algebra.specs.Sum.{Sum}
use Rattle.algebra.specs.Accepted.{Accepted}
use Rattle.algebra.specs.Held.{words_of, coefficients_of}
use Rattle.answers.specs.Refusals.{ROOM}
use Rattle.answers.specs.Answers.{Told.done, Told.refused, told, Outcome, outcome, check}
use Rattle.answers.specs.Areas.{written, cleared}
use Rattle.answers.specs.declared.Refused.{Refused}
use Rattle.std.specs.Prelude.{Result, Ok, Err, IsOk}
use Rattle.answers.proofs.Writes.{written-front}
use Rattle.packed.specs.Unpack.{unpack}
use Rattle.packed.specs.Packed.{packed}
use Rattle.packed.specs.Result.{WorkAreas, packed_into, beside}
use Rattle.packed.proofs.Working.{with-room}
use Rattle.packed.specs.Promised.{WorkRoom}
use Rattle.packed.proofs.Inverse.{unpack-accepts}
use Rattle.sums.proofs.First.{first-written, first-is}
use Rattle.answers.specs.Judge.{Judged, Judged.good, Judged.fails, and_then}
use Rattle.nodes.specs.Node.{table_of}
use Rattle.formula.specs.Table.{Entry, judge_table, is_shape}
use Rattle.formula.specs.Simplify.{last_sum, table_sum, simplify}
use Rattle.formula.proofs.Meaning.{last-accepted}
use Rattle.formula.proofs.Passing.{table-length, AllPass, judge-says, shape-judge, no-shape-judge}
use Rattle.formula.proofs.Simplifying.{shape-says, simplify-worked}
use Rattle.text.specs.Limits.{table_places}
use Rattle.text.specs.Tree.{Tree, nodes_of}
use Rattle.text.specs.Text.{judge_text, table_into, read_formula, text_sum}
use Rattle.answers.proofs.Judging.{good-fails, done_refused, done-same}
use Rattle.text.proofs.Trees.{nodes-length}
use Rattle.listing.specs.Inside.Forming.{Forms}
use Rattle.listing.specs.Lines.{most_lines, sum_lines, refusal_line}
use Rattle.listing.specs.Listing.{listed, without_newline, list}

-- ---- Answers.

refused-same : {A B : Type 0} {x y : A} {r s p q : ℕ} → outcome (refused r p) x ≡ outcome (refused s q) y → ◌≡◌ {A = Judged B} (fails r p) (fails s q)
refused-same {A} {B} e = let told-alike = ap (λ (o : Outcome A). o.answer) e in cc

-- ---- Packed bytes are always unpacked.

-- they are those of the sum
pub record Packs (bytes : List ℕ) (sum : Sum) : Type 0 where
  pub accepted : Accepted variables sum
  pub bytes_are : bytes ≡ packed sum

module _ (bytes ws : List ℕ) (cs : List ℤ) (words_room : most_terms ≤ length ws) (coefficients_room : most_terms ≤ length cs) {s : Sum} (p : Packs bytes s) where
  gives : unpack bytes ws cs ≡ outcome (done (length s)) (written (words_of s) ws, written (coefficients_of s) cs)
  gives = ap (λ (l : List ℕ). unpack l ws cs) p.bytes_are ∙ unpack-accepts s ws cs p.accepted words_room coefficients_room

  pub unpacked : {judged : Judged Sum} → judged ≡ good s → (r : Result ℕ Refused) {ws' : List ℕ} {cs' : List ℤ} → outcome (told r) (ws', cs') ≡ unpack bytes ws cs → Forms judged r ws' cs'
  unpacked is (Ok count) e =
      let same = done-same (e ∙ gives) in
      let words = ap (λ (x : List ℕ × List ℤ). x.0) same.1 in
      let coefficients = ap (λ (x : List ℕ × List ℤ). x.1) same.1 in
      let f = first-written ws cs words coefficients (sym same.0) p.accepted in
      record { sum = s; is = is; accepted = p.accepted; words = f.words_room; coefficients = f.coefficients_room; terms_are = first-is f }
  unpacked is (Err r) e = absurd (done_refused (sym (e ∙ gives)))

-- ---- Tables.

-- a formula that was simplified: its bytes stand in the first places of the area
pub record Simple (table : List ℤ) (n : ℕ) (area : List ℕ) : Type 0 where
  pub sum : Sum
  pub is : table_sum table ≡ good sum
  pub short : n ≤ length area
  pub packs : Packs (take n area) sum

pub judged-passes : (table : List ℤ) (nodes : List Entry) → judge_table table ≡ good nodes → AllPass table nodes
judged-passes table nodes e = go (is_shape (length table)) refl
  where
    go : (b : Bool) → is_shape (length table) ≡ b → AllPass table nodes
    go true s =
        let three : length table % 3 ≡ 0 = omega (arith, (shape-says (length table) s).three_each) in
        judge-says table three (sym (shape-judge table s) ∙ e)
    go false s = absurd (good-fails (sym e ∙ no-shape-judge table s))

module _ (table : List ℤ) (ws : List ℕ) (cs : List ℤ) (area : List ℕ) (room : WorkRoom ws cs area) where
  judged : simplify table ws cs area ≡ beside (cleared 0 work_places ws) (cleared (pos 0) work_places cs) (packed_into (table_sum table) area)
  judged = simplify-worked table ws cs area ∙ with-room (table_sum table) ws cs area room

  module _ {ws' : List ℕ} {cs' : List ℤ} {area' : List ℕ} where
    pub simplified : {n : ℕ} → outcome (done n) (ws', cs', area') ≡ simplify table ws cs area → Simple table n area'
    unfolding table_sum and_then packed_into
    simplified {n} e = go (judge_table table) refl (e ∙ judged)
      where
        go : (j : Judged (List Entry)) → judge_table table ≡ j
            → outcome (done n) (ws', cs', area') ≡ beside (cleared 0 work_places ws) (cleared (pos 0) work_places cs) (packed_into (and_then j (λ nodes. good (last_sum nodes))) area)
            → Simple table n area'
        go (good nodes) is f =
            let s = last_sum nodes in
            let front = written-front (packed s) area (ap (λ (x : WorkAreas). x.2) (done-same f).1) (sym (done-same f).0) in
            record {
              sum = s;
              is = rw is;
              short = front.1;
              packs = record { accepted = last-accepted (judged-passes table nodes is).passed; bytes_are = front.0 };
            }
        go (fails refusal node) is f = absurd (done_refused f)

    pub not-simplified : {refusal place : ℕ} → outcome (refused refusal place) (ws', cs', area') ≡ simplify table ws cs area → table_sum table ≡ fails refusal place
    unfolding packed_into
    not-simplified {refusal} {place} e = go (table_sum table) (e ∙ judged)
      where
        go : (j : Judged Sum) → outcome (refused refusal place) (ws', cs', area') ≡ beside (cleared 0 work_places ws) (cleared (pos 0) work_places cs) (packed_into j area)
            → j ≡ fails refusal place
        go (good s) f = absurd (done_refused (sym f))
        go (fails r node) f = refused-same (sym f)

-- ---- Typed formulas.

-- one that was read
pub record Typed (text : List ℕ) (n : ℕ) (table : List ℤ) : Type 0 where
  pub short : 3 * n ≤ length table
  pub is : text_sum text ≡ table_sum (take (3 * n) table)

module _ (text : List ℕ) (table : List ℤ) (room : table_places ≤ length table) where
  read : read_formula text table ≡ table_into (judge_text text) table
  unfolding read_formula
  read = rw (le-leb table_places (length table) room)

  module _ {table' : List ℤ} where
    pub typed : {n : ℕ} → outcome (done n) table' ≡ read_formula text table → Typed text n table'
    unfolding text_sum and_then table_into
    typed {n} e = go (judge_text text) refl (e ∙ read)
      where
        go : (j : Judged Tree) → judge_text text ≡ j → outcome (done n) table' ≡ table_into j table → Typed text n table'
        go (good t) is f =
            let ks = nodes_of 0 t in
            let long = table-length ks ∙ ap (λ (k : ℕ). 3 * k) (nodes-length 0 t ∙ sym (done-same f).0) in
            let front = written-front (table_of ks) table (done-same f).1 long in
            record { short = front.1; is = rw is (ap table_sum (sym front.0)) }
        go (fails refusal place) is f = absurd (done_refused f)

    pub not-typed : {refusal place : ℕ} → outcome (refused refusal place) table' ≡ read_formula text table → text_sum text ≡ fails refusal place
    unfolding text_sum and_then table_into
    not-typed {refusal} {place} e = go (judge_text text) (e ∙ read)
      where
        go : (j : Judged Tree) → outcome (refused refusal place) table' ≡ table_into j table → and_then j (λ t. table_sum (table_of (nodes_of 0 t))) ≡ fails refusal place
        go (good t) f = absurd (done_refused (sym f))
        go (fails r p) f = refused-same (sym f)

-- ---- What is listed.

pub listed-sum : {j : Judged Sum} {s : Sum} → j ≡ good s → listed j ≡ sum_lines s
unfolding listed
listed-sum e = rw e

pub listed-refusal : {j : Judged Sum} {refusal place : ℕ} → j ≡ fails refusal place → listed j ≡ refusal_line refusal place
unfolding listed
listed-refusal e = rw e

-- lines that are equal are written alike
pub listed-as : {l m : List ℕ} (area : List ℕ) {area' : List ℕ} {n : ℕ} → l ≡ m → (n ≡ length m) × (area' ≡ written m area) → (n ≡ length l) × (area' ≡ written l area)
listed-as area e ends = (ends.0 ∙ ap (length {A = ℕ}) (sym e), ends.1 ∙ ap (λ (x : List ℕ). written x area) (sym e))

-- ---- Listing itself: with room it is done, with no more bytes than the area has.

pub list-done : (input area : List ℕ) → most_lines variables ≤ length area → (r : Result ℕ Refused) {area' : List ℕ} → outcome (told r) area' ≡ list input area → IsOk r
unfolding list
list-done input area room (Ok n) e = refl
list-done input area room (Err r) e = absurd (done_refused (sym (rw (le-leb (most_lines variables) (length area) room) at e)))

pub list-within : (input area : List ℕ) (r : Result ℕ Refused) {area' : List ℕ} {n : ℕ} → outcome (told r) area' ≡ list input area → r ≡ Ok n → n ≤ length area'
unfolding list
list-within input area r {area'} {n} e is =
    go (leb (most_lines variables) (length area)) (listed (text_sum (without_newline input))) (sym (ap (λ (a : Result ℕ Refused). outcome (told a) area') is) ∙ e)
  where
    go : (b : Bool) (lines : List ℕ) → outcome (done n) area' ≡ check b ROOM 0 area (outcome (done (length lines)) (written lines area)) → n ≤ length area'
    go true lines f = omega (arith, (done-same f).0, ap (length {A = ℕ}) (done-same f).1, length-append lines (drop (length lines) area))
    go false lines f = absurd (done_refused f)
