-- What `substitute_list` answers, check by check: the fault of the sum, of the list or of a pair, or the packed result.
use mathlib.Core.Path.{◌≡◌, refl, sym, ◌∙◌, ap, ap₂, subst}
use mathlib.Core.List.{List}
use Prim.Native.Nat.{ℕ, ◌≤◌, ◌<◌}
use native.Mathlib.Omega.{arith}
use lib.IntN.{ℤ}
use lib.ListN.{length, get_or, take}
use lib.Seq.{length-take-le}
use Rattle.algebra.specs.Limits.{variables, most_terms, work_places}
use Rattle.algebra.specs.Sum.{Sum}
use Rattle.algebra.specs.Held.{first_terms}
use Rattle.answers.specs.Answers.{Told, Told.done, Told.refused, outcome}
use Rattle.answers.specs.Judge.{Judged, Judged.good, Judged.fails}
use Rattle.answers.proofs.Judging.{then-good, then-fails}
use Rattle.packed.specs.Result.{packed_into}
use Rattle.packed.proofs.Results.{Handed, sum-given, sum-refused}
use Rattle.numbers.specs.Item.{Item, Item.got, mapped}
use Rattle.change.specs.Pairs.{Pair, ListFault, read_list, list_judged}
use Rattle.change.specs.Substitute.{judge_pairs, judge_substitute}
use Rattle.change.specs.declared.lists.Entry.{Entry}
use Rattle.change.specs.Inside.Kept.{listed_of, list_fault, pairs_from, Kept, KeepsRead, CanApply, terms_told, HoldsGood}
use Rattle.std.specs.Prelude.{Err}
use Rattle.change.specs.declared.lists.ListFault as list
use Rattle.change.proofs.ListBytes.{list_written}
use Rattle.change.specs.Promised.{AllGood}
use Rattle.numbers.proofs.Items.{Alike, Alike.both}
use Rattle.change.proofs.TakeList.{pairs-stopped, pairs-read}
use Rattle.change.proofs.Passing.{judge-applied}
use Rattle.change.proofs.Meaning.{applied-accepted}
use Rattle.sums.proofs.First.{First, first_few, first-is, first-held}
use Rattle.change.proofs.Given.{SumGiven}

-- ---- The list was read, and its n pairs are kept.

pub record Kept-list (pairs : List ℕ) (es : List Entry) (ws : List ℕ) (cs : List ℤ) (n : ℕ) : Type 0 where
  pub ps : List Pair
  pub last : ℕ
  pub read : read_list variables pairs ≡ got ps last
  pub all_good : AllGood variables ps
  pub few : n ≤ variables
  pub kept : Kept 0 (take n es) ws cs
  pub pairs_are : pairs_from 0 (take n es) ws cs ≡ ps

pub kept-list : (pairs : List ℕ) → ((i : ℕ) → get_or pairs i 0 < 256) → {n end : ℕ} {es : List Entry} {ws : List ℕ} {cs : List ℤ} → got n end ≡ mapped length (read_list variables pairs) → KeepsRead (read_list variables pairs) es ws cs → Kept-list pairs es ws cs n
kept-list pairs byte {es = es} {ws = ws} {cs = cs} says keeps =
    let from = pairs-read (read_list variables pairs) says in
    let w = list_written pairs byte variables from.value _ from.is in
    record {
      ps = from.value;
      last = _;
      read = from.is;
      all_good = w.good;
      few = omega (arith, from.shown, w.few);
      kept = subst (λ (m : ℕ). Kept 0 (take m es) ws cs) from.shown (keeps.kept _ _ from.is);
      pairs_are = ap (λ (m : ℕ). pairs_from 0 (take m es) ws cs) (sym from.shown) ∙ keeps.pairs_are _ _ from.is;
    }

-- what applying them to the sum asks
pub can-apply : {bytes fp : List ℕ} {fc : List ℤ} {m : ℕ} {pairs : List ℕ} {es : List Entry} {ws : List ℕ} {cs : List ℤ} {n : ℕ} → SumGiven bytes fp fc m → Kept-list pairs es ws cs n
    → n ≤ length es → work_places ≤ length ws → work_places ≤ length cs → CanApply (take n es) ws cs fp fc m
can-apply {es = es} {n = n} g l entries_room words_room coefficients_room = record {
  inside = omega (arith, l.few, length-take-le n es entries_room);
  words_room = words_room;
  coefficients_room = coefficients_room;
  kept = l.kept;
  few = first_few g.first;
  sum = first-held g.first;
}

-- ---- The answers.

module _ (bytes pairs area : List ℕ) where
  pub bad_sum : {t : Told} → Handed bytes t → outcome t area ≡ packed_into (judge_substitute bytes pairs) area
  unfolding judge_substitute
  bad_sum h = ap (λ t. outcome t area) h.says ∙ sym (sum-refused bytes _ area h.fault)

  module _ {fp : List ℕ} {fc : List ℤ} {m : ℕ} (g : SumGiven bytes fp fc m) where
    pub bad-list : (f : list.ListFault) → listed_of (Err f) ≡ mapped length (read_list variables pairs)
        → {t : Told} → t ≡ list_fault (listed_of (Err f)) → outcome t area ≡ packed_into (judge_substitute bytes pairs) area
    unfolding judge_substitute packed_into
    bad-list f e h = go (listed_of (Err f)) (read_list variables pairs) refl (pairs-stopped f (read_list variables pairs) e) h
      where
        go : (x : Item ListFault ℕ) (y : Item ListFault (List Pair)) → read_list variables pairs ≡ y → Alike x y → {t : Told} → t ≡ list_fault x
            → outcome t area ≡ packed_into (judge_substitute bytes pairs) area
        go x y is both h =
            ap (λ t. outcome t area) h ∙ sym (sum-given bytes _ area g.of_bytes ∙ ap (λ j. packed_into j area) (then-fails _ (ap list_judged is)))

    module _ {es : List Entry} {ws : List ℕ} {cs : List ℤ} {n : ℕ} (l : Kept-list pairs es ws cs n) where
      -- how the code's pairs are judged, on the code's sum
      abbrev pub judged_there : Judged Sum
      judged_there = judge_pairs 0 (pairs_from 0 (take n es) ws cs) (first_terms m fp fc)

      there : judged_there ≡ judge_pairs 0 l.ps g.sum
      there = ap₂ (judge_pairs 0) l.pairs_are (first-is g.first)

      by-pairs : {j : Judged Sum} → judged_there ≡ j → packed_into j area ≡ packed_into (judge_substitute bytes pairs) area
      unfolding judge_substitute
      by-pairs e =
          ap (λ j. packed_into j area) (sym e ∙ there)
          ∙ sym (sum-given bytes _ area g.of_bytes ∙ ap (λ j. packed_into j area) (then-good _ (ap list_judged l.read)))

      pub bad-pair : {refusal place : ℕ} → refused refusal place ≡ terms_told judged_there → outcome (refused refusal place) area ≡ packed_into (judge_substitute bytes pairs) area
      unfolding packed_into
      bad-pair {refusal} {place} e = go judged_there e ∙ by-pairs refl
        where
          go : (j : Judged Sum) → refused refusal place ≡ terms_told j → outcome (refused refusal place) area ≡ packed_into j area
          go (good t) e = let z : ◌≡◌ {A = ℕ} 0 1 = cc in absurd (omega arith)
          go (fails r q) e = ap (λ t. outcome t area) e

      -- all pairs are applied, and what they make stands in the first places of two arrays
      pub record Made (fp' : List ℕ) (fc' : List ℤ) (k : ℕ) : Type 0 where
        pub sum : Sum
        pub first : First sum fp' fc' k
        pub judged : packed_into (good sum) area ≡ packed_into (judge_substitute bytes pairs) area

      pub made : {k : ℕ} {fp' : List ℕ} {fc' : List ℤ} → HoldsGood judged_there (done k) fp' fc'
          → most_terms ≡ length fp' → most_terms ≡ length fc' → Made fp' fc' k
      made {k} {fp'} {fc'} holds words coefficients = go judged_there refl
        where
          go : (j : Judged Sum) → judged_there ≡ j → Made fp' fc' k
          go (fails refusal q) e =
              let never : done k ≡ refused refusal q = holds.says ∙ ap terms_told e in
              let z : ◌≡◌ {A = ℕ} 0 1 = cc in absurd (omega arith)
          go (good t) e =
              let done-so : done k ≡ done (length t) = holds.says ∙ ap terms_told e in
              let many : length t ≡ k = cc in
              let accepted = applied-accepted l.all_good g.of_bytes.accepted (judge-applied (sym there ∙ e)) in
              let few : k ≤ most_terms = omega (arith, many, accepted.few) in
              record {
                sum = t;
                first = record {
                  words_are = rw many at (holds.words_are t e);
                  coefficients_are = rw many at (holds.coefficients_are t e);
                  many = many;
                  accepted = accepted;
                  words_room = omega (arith, words);
                  coefficients_room = omega (arith, coefficients);
                };
                judged = by-pairs e;
              }
