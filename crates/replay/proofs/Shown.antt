-- What each operation says that it wrote stands within its area.
use mathlib.Core.Path.{◌≡◌, refl, sym, ap, ◌∙◌}
use mathlib.Core.Bool.{Bool, true, false, ◌&&◌}
use mathlib.Core.List.{List, []}
use Prim.Native.Nat.{ℕ, ◌*◌, ◌<◌}
use native.Mathlib.Omega.{arith}
use lib.Dec.{eqb, leb}
use lib.IntN.{ℤ, pos}
use lib.ListN.{length, get_or, take, length-append, length-map}
use Rattle.algebra.specs.Limits.{variables, most_terms, work_places}
use Rattle.algebra.specs.Sum.{Sum}
use Rattle.algebra.specs.Held.{words_of, coefficients_of, first_terms}
use Rattle.answers.specs.Refusals.{ROOM, SHAPE, SUM}
use Rattle.answers.specs.Answers.{Told, Outcome, outcome, check}
use Rattle.answers.specs.Areas.{cleared}
use Rattle.answers.specs.Host.{hosted, narrow_unit, heard}
use Rattle.answers.specs.Judge.{Judged, Judged.good, Judged.fails}
use Rattle.packed.specs.Packed.{packed, most_bytes}
use Rattle.packed.specs.ReadSum.{read_whole}
use Rattle.packed.specs.Whole.{judged}
use Rattle.packed.specs.Result.{WorkAreas, held_into, packed_into, beside}
use Rattle.packed.proofs.Working.{worked}
use Rattle.packed.specs.Unpack.{unpack}
use Rattle.packed.specs.Pack.{good_terms, pack}
use Rattle.formula.specs.Simplify.{table_sum, simplify}
use Rattle.formula.proofs.Passing.{table-length}
use Rattle.change.specs.Slope.{slope}
use Rattle.change.specs.Substitute.{judge_substitute, substitute}
use Rattle.estimates.specs.Range.{Estimate}
use Rattle.router.specs.Estimate.{judge_estimate, answer_bytes, answer_of, answer_into, estimate}
use Rattle.numbers.specs.Bytes.{whole_bytes, signed_bytes}
use Rattle.numbers.proofs.Complement.{bytes-length}
use Rattle.router.proofs.ForHost.{estimate-heard}
use Rattle.nodes.specs.Node.{table_of}
use Rattle.text.specs.Tree.{Tree, nodes_of}
use Rattle.text.specs.Limits.{table_places}
use Rattle.text.specs.Text.{judge_text, table_into, read_formula}
use Rattle.text.proofs.Trees.{nodes-length}
use Rattle.spelling.specs.Spelling.{sum_text}
use Rattle.spelling.specs.WriteText.{text_places, text_into, write_text}
use Rattle.replay.specs.Telling.{Shows}
use Rattle.replay.proofs.Shows.{shows-refused, shows-written, shows-singly, checked}

packed-shows : (j : Judged Sum) (area : List ℕ) {t : Told} {x : List ℕ} → outcome t x ≡ packed_into j area → Shows 1 (length x) t
unfolding packed_into
packed-shows (good s) area e = shows-singly (packed s) area e refl
packed-shows (fails refusal place) area e = shows-refused e

worked-shows : (j : Judged Sum) (ws : List ℕ) (cs : List ℤ) (area : List ℕ) {t : Told} {ws' : List ℕ} {cs' : List ℤ} {x : List ℕ}
    → outcome t (ws', cs', x) ≡ worked ws cs area j → Shows 1 (length x) t
unfolding worked
worked-shows j ws cs area {t} {ws'} {cs'} {x} e = go (leb work_places (length ws) && (leb work_places (length cs) && leb (most_bytes variables) (length area))) e
  where
    only : Outcome WorkAreas → Outcome (List ℕ)
    only o = outcome o.answer o.areas.2

    go : (b : Bool) → outcome t (ws', cs', x) ≡ check b ROOM 0 (ws, cs, area) (beside (cleared 0 work_places ws) (cleared (pos 0) work_places cs) (packed_into j area))
        → Shows 1 (length x) t
    go true f = packed-shows j area (ap only f)
    go false f = shows-refused f

pub simplify-shows : (table : List ℤ) (ws : List ℕ) (cs : List ℤ) (area : List ℕ) {t : Told} {ws' : List ℕ} {cs' : List ℤ} {x : List ℕ}
    → outcome t (ws', cs', x) ≡ simplify table ws cs area → Shows 1 (length x) t
unfolding simplify worked
simplify-shows table ws cs area e = worked-shows (table_sum table) ws cs area e

pub substitute-shows : (bytes list ws : List ℕ) (cs : List ℤ) (area : List ℕ) {t : Told} {ws' : List ℕ} {cs' : List ℤ} {x : List ℕ}
    → outcome t (ws', cs', x) ≡ substitute bytes list ws cs area → Shows 1 (length x) t
unfolding substitute worked
substitute-shows bytes list ws cs area e = worked-shows (judge_substitute bytes list) ws cs area e

pub slope-shows : (bytes : List ℕ) (v : ℕ) (area : List ℕ) {t : Told} {x : List ℕ} → outcome t x ≡ slope bytes v area → Shows 1 (length x) t
unfolding slope
slope-shows bytes v area e = checked (leb (most_bytes variables) (length area)) ROOM 0 area _ (λ f. packed-shows _ area f) e

pub write-shows : (bytes area : List ℕ) {t : Told} {x : List ℕ} → outcome t x ≡ write_text bytes area → Shows 1 (length x) t
unfolding write_text text_into
write-shows bytes area e = checked (leb text_places (length area)) ROOM 0 area _ (λ f. go (judged SUM (read_whole variables bytes)) f) e
  where
    go : (j : Judged Sum) {t : Told} {x : List ℕ} → outcome t x ≡ text_into j area → Shows 1 (length x) t
    go (good s) f = shows-singly (sum_text s) area f refl
    go (fails refusal place) f = shows-refused f

pub pack-shows : (count : ℕ) (ws : List ℕ) (cs : List ℤ) (area : List ℕ) {t : Told} {x : List ℕ} → outcome t x ≡ pack count ws cs area → Shows 1 (length x) t
unfolding pack
pack-shows count ws cs area e =
    let bytes = packed (first_terms count ws cs) in
    let found = good_terms [] (take count ws) (take count cs) in
    checked (leb (most_bytes variables) (length area)) ROOM 0 area _
    (λ f. checked (leb count most_terms && (leb count (length ws) && leb count (length cs))) SHAPE 0 area _
    (λ g. checked (eqb found count) SUM found area _
    (λ h. shows-singly bytes area h refl) g) f) e

pub unpack-shows : (bytes ws : List ℕ) (cs : List ℤ) {t : Told} {ws' : List ℕ} {cs' : List ℤ} → outcome t (ws', cs') ≡ unpack bytes ws cs
    → Shows 1 (length ws') t × Shows 1 (length cs') t
unfolding unpack held_into
unpack-shows bytes ws cs {t} {ws'} {cs'} e = go (leb most_terms (length ws) && leb most_terms (length cs)) (judged SUM (read_whole variables bytes)) e
  where
    words : Outcome (List ℕ × List ℤ) → Outcome (List ℕ)
    words o = outcome o.answer o.areas.0

    coefficients : Outcome (List ℕ × List ℤ) → Outcome (List ℤ)
    coefficients o = outcome o.answer o.areas.1

    go : (b : Bool) (j : Judged Sum) → outcome t (ws', cs') ≡ check b ROOM 0 (ws, cs) (held_into j ws cs) → Shows 1 (length ws') t × Shows 1 (length cs') t
    go true (good s) f = (shows-singly (words_of s) ws (ap words f) (length-map s _), shows-singly (coefficients_of s) cs (ap coefficients f) (length-map s _))
    go true (fails refusal place) f = (shows-refused f, shows-refused f)
    go false j f = (shows-refused f, shows-refused f)

pub text-shows : (text : List ℕ) (table : List ℤ) {t : Told} {x : List ℤ} → outcome t x ≡ read_formula text table → Shows 3 (length x) t
unfolding read_formula table_into
text-shows text table {t} {x} e = go (leb table_places (length table)) (judge_text text) e
  where
    go : (b : Bool) (j : Judged Tree) → outcome t x ≡ check b ROOM 0 table (table_into j table) → Shows 3 (length x) t
    go true (good tree) f =
        let nodes = nodes_of 0 tree in
        shows-written (table_of nodes) table f (table-length nodes ∙ ap (λ (k : ℕ). 3 * k) (nodes-length 0 tree))
    go true (fails refusal place) f = shows-refused f
    go false j f = shows-refused f

answer-length : (e : ℤ) (m : ℕ) → length (answer_of e m) ≡ answer_bytes
answer-length e m =
    omega (arith, length-append (signed_bytes whole_bytes e) (signed_bytes whole_bytes (pos m)), bytes-length whole_bytes e, bytes-length whole_bytes (pos m))

-- of the number that a C host gets
pub estimate-shows : (bytes : List ℕ) → ((i : ℕ) → get_or bytes i 0 < 256) → (readings tolerances area : List ℕ) {number : ℕ} {x : List ℕ}
    → (number, x) ≡ hosted narrow_unit (estimate bytes readings tolerances area) → Shows 1 (length x) (heard number)
unfolding estimate answer_into
estimate-shows bytes byte readings tolerances area {number} {x} e =
    go (leb answer_bytes (length area)) (judge_estimate bytes readings tolerances) (sym (estimate-heard bytes byte readings tolerances area e))
  where
    go : (b : Bool) (j : Judged Estimate) → outcome (heard number) x ≡ check b ROOM 0 area (answer_into j area) → Shows 1 (length x) (heard number)
    go true (good v) f = shows-singly (answer_of v.estimate v.margin) area f (answer-length v.estimate v.margin)
    go true (fails refusal place) f = shows-refused f
    go false j f = shows-refused f
