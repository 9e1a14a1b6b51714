-- Substitute, as its caller sees it: exactly when it is done, with which sum, and exactly when it is refused, and how.
use mathlib.Core.Path.{◌≡◌, refl, sym, ◌∙◌, ap, subst}
use mathlib.Core.Bool.{Bool, true, false}
use mathlib.Core.List.{List}
use Prim.Native.Nat.{ℕ, ◌≤◌, ◌<◌}
use native.Mathlib.Omega.{arith}
use lib.IntN.{ℤ, pos}
use lib.ListN.{length, get_or}
use Rattle.algebra.specs.Limits.{variables, work_places}
use Rattle.algebra.specs.Sum.{Sum}
use Rattle.algebra.specs.Accepted.{Accepted}
use Rattle.answers.specs.Refusals.{SUM}
use Rattle.answers.specs.Answers.{Told, Told.done, Told.refused, Outcome, outcome}
use Rattle.answers.specs.Areas.{written, cleared}
use Rattle.answers.specs.Judge.{Judged}
use Rattle.answers.proofs.Judging.{then-good, then-fails}
use Rattle.packed.specs.Packed.{packed}
use Rattle.packed.specs.Result.{WorkAreas, packed_into, beside}
use Rattle.packed.proofs.Results.{fault-judged, sum-judged, Reading, Reading.a_sum, Reading.a_fault, reading}
use Rattle.packed.specs.Promised.{PackedSum, WorkRoom, cleared_with}
use Rattle.packed.proofs.Working.{has_room, tested-room, tested-none, worked, with-room, without-room}
use Rattle.numbers.specs.Item.{Item, Item.got, Item.stopped}
use Rattle.change.specs.Pairs.{Pair, list_bytes, ListFault, read_list, list_judged}
use Rattle.change.specs.Substitute.{judge_pairs, judge_substitute, substitute}
use Rattle.change.specs.Checks.{Applied}
use Rattle.change.specs.Promised.{AllGood, Substituted, SubstituteRefuses, SubstituteRefuses.no_room, SubstituteRefuses.at_sum, SubstituteRefuses.at_list, SubstituteRefuses.at_pair}
use Rattle.change.proofs.ListBytes.{list_read, list_written}
use Rattle.change.proofs.Passing.{applied-judge, fault-judge, Verdict, Verdict.all, Verdict.first, verdict}
use Rattle.change.proofs.Meaning.{applied-accepted, applied-value}

-- ---- The outcomes.

module _ (bytes list ws : List ℕ) (cs : List ℤ) (area : List ℕ) where
  -- what it leaves is what any operation with work areas leaves that has judged this sum
  pub substitute-worked : substitute bytes list ws cs area ≡ worked ws cs area (judge_substitute bytes list)
  unfolding substitute worked
  substitute-worked = refl

  -- ---- Check by check.

  after-room : WorkRoom ws cs area → {j : Judged Sum} → judge_substitute bytes list ≡ j
      → substitute bytes list ws cs area ≡ beside (cleared 0 work_places ws) (cleared (pos 0) work_places cs) (packed_into j area)
  after-room r e = substitute-worked ∙ with-room (judge_substitute bytes list) ws cs area r ∙ ap (λ j. beside (cleared 0 work_places ws) (cleared (pos 0) work_places cs) (packed_into j area)) e

  after_both : {s : Sum} {ps : List Pair} {last : ℕ} → PackedSum bytes s → read_list variables list ≡ got ps last
      → judge_substitute bytes list ≡ judge_pairs 0 ps s
  unfolding judge_substitute
  after_both read listed-so = then-good _ (sum-judged read) ∙ then-good _ (ap list_judged listed-so)

  all-applied : WorkRoom ws cs area → {s t : Sum} {ps : List Pair} {last : ℕ} → PackedSum bytes s → read_list variables list ≡ got ps last
      → Applied ps s t → substitute bytes list ws cs area ≡ outcome (done (length (packed t))) (cleared_with ws cs (written (packed t) area))
  unfolding packed_into
  all-applied r read listed-so a = after-room r (after_both read listed-so ∙ applied-judge 0 a)

  pub refuses-substitute : {refusal p : ℕ} {areas : WorkAreas} → SubstituteRefuses bytes list ws cs area refusal p areas → substitute bytes list ws cs area ≡ outcome (refused refusal p) areas
  unfolding judge_substitute packed_into
  refuses-substitute (no_room f) = substitute-worked ∙ without-room (judge_substitute bytes list) ws cs area f
  refuses-substitute (at_sum r e) = after-room r (then-fails _ (fault-judged SUM e))
  refuses-substitute (at_list r read e) = after-room r (then-good _ (sum-judged read) ∙ then-fails _ (ap list_judged e))
  refuses-substitute (at_pair r read listed-so f) = after-room r (after_both read listed-so ∙ fault-judge f)

-- a packed sum and the bytes of pairs that all pass are accepted
pub substitute-accepts : {s t : Sum} {ps : List Pair} (ws : List ℕ) (cs : List ℤ) (area : List ℕ)
    → WorkRoom ws cs area → Accepted variables s → AllGood variables ps → length ps ≤ variables → Applied ps s t
    → substitute (packed s) (list_bytes ps) ws cs area ≡ outcome (done (length (packed t))) (cleared_with ws cs (written (packed t) area))
substitute-accepts {s} {t} {ps} ws cs area r a g few p =
    all-applied (packed s) (list_bytes ps) ws cs area r (record { accepted = a; bytes_are = refl }) (list_read variables ps (omega arith) few g) p

-- ---- There are no other outcomes.

module _ (bytes list ws : List ℕ) (cs : List ℤ) (area : List ℕ) (byte : (i : ℕ) → get_or bytes i 0 < 256) (list-byte : (i : ℕ) → get_or list i 0 < 256) where
  -- what stands behind an answer, and behind an outcome
  abbrev Behind : Told → WorkAreas → Type 0
  Behind (done n) areas = Substituted bytes list ws cs area n areas
  Behind (refused refusal p) areas = SubstituteRefuses bytes list ws cs area refusal p areas

  abbrev Explains : Outcome WorkAreas → Type 0
  Explains o = Behind o.answer o.areas

  refused-so : {refusal p : ℕ} {areas : WorkAreas} → SubstituteRefuses bytes list ws cs area refusal p areas → Explains (substitute bytes list ws cs area)
  refused-so d = subst Explains (sym (refuses-substitute bytes list ws cs area d)) d

  pairs-tried : WorkRoom ws cs area → {s : Sum} {ps : List Pair} {last : ℕ} → PackedSum bytes s → read_list variables list ≡ got ps last
      → Verdict ps s → Explains (substitute bytes list ws cs area)
  pairs-tried r {s} {ps} {last} read listed-so (first refusal j f) = refused-so (at_pair r read listed-so f)
  pairs-tried r {s} {ps} {last} read listed-so (all t a) =
      let list-was = list_written list list-byte variables ps last listed-so in
      subst Explains (sym (all-applied bytes list ws cs area r read listed-so a))
      (record {
        sum = s;
        ps = ps;
        result = t;
        room = r;
        bytes_are = read.bytes_are;
        sum_accepted = read.accepted;
        list_is = list-was.bytes_are;
        few = list-was.few;
        pairs_good = list-was.good;
        applied = a;
        accepted = applied-accepted list-was.good read.accepted a;
        values = applied-value list-was.good a;
        many = refl;
        areas_are = refl;
      })

  explained : Explains (substitute bytes list ws cs area)
  explained = room (has_room ws cs area) refl
    where
      pairs : WorkRoom ws cs area → {s : Sum} → PackedSum bytes s → (r : Item ListFault (List Pair)) → read_list variables list ≡ r → Explains (substitute bytes list ws cs area)
      pairs h {s} read (got ps last) e = pairs-tried h read e (verdict ps s)
      pairs h read (stopped what p) e = refused-so (at_list h read e)

      sum : WorkRoom ws cs area → Reading bytes → Explains (substitute bytes list ws cs area)
      sum h (a_sum s read) = pairs h read (read_list variables list) refl
      sum h (a_fault p f) = refused-so (at_sum h f)

      room : (b : Bool) → has_room ws cs area ≡ b → Explains (substitute bytes list ws cs area)
      room true h = sum (tested-room ws cs area h) (reading bytes byte)
      room false h = refused-so (no_room (tested-none ws cs area h))

  pub substitute-means : {n : ℕ} {areas : WorkAreas} → substitute bytes list ws cs area ≡ outcome (done n) areas → Substituted bytes list ws cs area n areas
  substitute-means e = subst Explains e explained

  pub substitute-refuses : {refusal p : ℕ} {areas : WorkAreas} → substitute bytes list ws cs area ≡ outcome (refused refusal p) areas
      → SubstituteRefuses bytes list ws cs area refusal p areas
  substitute-refuses e = subst Explains e explained
