-- Two areas whose first places hold a sum by ranks, or nothing, once their other places are cleared: as if the sum were written to areas of zeros.
use mathlib.Core.Path.{◌≡◌, refl, sym, ◌∙◌, ap, ap₂, subst}
use mathlib.Core.List.{List, [], ◌++◌, map, append-nil, append_assoc}
use Prim.Native.Nat.{ℕ, ◌+◌, ◌-◌, ◌^◌, ◌≤◌, ◌<◌}
use native.Mathlib.Omega.{arith}
use lib.IntN.{ℤ, pos}
use lib.ListN.{length, get_or, take, drop, length-append, length-take, length-drop, length-map, drop_of_length-le, replicate, length-replicate, replicate-append-replicate}
use lib.Seq.{drop_at, drop-append-le, length-take-le}
use borrow.Rule.Slice.PartMut.{put_mid}
use Rattle.algebra.specs.Sum.{Term, Sum}
use Rattle.algebra.specs.Word.{word, EachValid}
use Rattle.algebra.specs.Inside.Rank.{rank_of, word_at, words_at}
use Rattle.algebra.specs.Held.{words_of, coefficients_of}
use Rattle.algebra.proofs.Patterns.Rank.{words-again}
use Rattle.answers.specs.Areas.{written, cleared}
use Rattle.answers.proofs.Writes.{written-front}
use Rattle.std.specs.Prelude.{Option, Some, None}
use Rattle.std.specs.Option.{unwrap_or}
use Rattle.sums.specs.Formed.{Formed, Formed.formed, Formed.over, formed_of}
use Rattle.sums.specs.Rows.{Added, ranks_of, running_into}
use Rattle.sums.proofs.Holding.{map-take, Holdable, each-valid, holds}
use Rattle.sums.proofs.Ranking.{front-ranks}

-- ---- One area.

module _ {A : Type 0} (zero : A) where
  -- an area that is cleared as a whole is zeros alone
  all-cleared : (n : ℕ) (area : List A) → length area ≤ n → cleared zero n area ≡ replicate n zero
  all-cleared n area few =
      ap (λ (l : List A). replicate n zero ++ l) (drop_of_length-le area {i = length (replicate n zero)} (omega (arith, length-replicate n zero))) ∙ append-nil (replicate n zero)

  drop-zeros : (n m : ℕ) → m ≤ n → drop m (replicate n zero) ≡ replicate (n - m) zero
  drop-zeros n m inside =
      let both : m + (n - m) ≡ n = omega arith in
      ap (λ (i : ℕ). drop m (replicate i zero)) (sym both) ∙ ap (drop m) (sym (replicate-append-replicate m (n - m) zero))
      ∙ drop_at (replicate m zero) (replicate (n - m) zero) m (length-replicate m zero)

  -- the values stand in the first places, and the others are cleared
  rest-cleared : (values area₀ area rest : List A) (k : ℕ) → take k area ≡ values → length values ≡ k → k ≤ length area → length area ≡ length area₀
      → rest ≡ replicate (length area - k) zero
      → put_mid k (length area - k) area rest ≡ written values (cleared zero (length area₀) area₀)
  rest-cleared values area₀ area rest k front many inside same is =
      let left = length area - k in
      let zeros = replicate left zero in
      let none : drop left (drop k area) ≡ [] = drop_of_length-le (drop k area) {i = left} (omega (arith, length-drop k area)) in
      let after : drop (length values) (cleared zero (length area₀) area₀) ≡ zeros =
      ap₂ (λ (i : ℕ) (l : List A). drop i l) many (all-cleared (length area₀) area₀ (omega arith) ∙ ap (λ (n : ℕ). replicate n zero) (sym same)) ∙ drop-zeros (length area) k inside
      in
      ap₂ (λ (l m : List A). l ++ m) front (ap₂ (λ (l m : List A). l ++ m) is none ∙ append-nil zeros) ∙ ap (λ (l : List A). values ++ l) (sym after)

  -- values that were written to the first places of an area, cleared as a whole, of which the code lent them: the other places stay
  part-cleared : (values area part : List A) (end : ℕ) → end ≤ length area → part ≡ written values (cleared zero (length (take end area)) (take end area)) → length part ≡ length (take end area)
      → part ++ drop end area ≡ written values (cleared zero end area)
  part-cleared values area part end inside is same =
      let all : length (take end area) ≡ end = length-take-le end area inside in
      let zeros : cleared zero (length (take end area)) (take end area) ≡ replicate end zero =
      all-cleared (length (take end area)) (take end area) (omega arith) ∙ ap (λ (n : ℕ). replicate n zero) all
      in
      let few : length values ≤ end = omega (arith, same, all, ap length is, length-append values (drop (length values) (cleared zero (length (take end area)) (take end area)))) in
      ap (λ (l : List A). l ++ drop end area) (is ∙ ap (λ (l : List A). values ++ drop (length values) l) zeros)
      ∙ append_assoc values (drop (length values) (replicate end zero)) (drop end area)
      ∙ ap (λ (l : List A). values ++ l)
      (sym (drop-append-le (length values) (replicate end zero) (drop end area) (omega (arith, length-replicate end zero)))
      ∙ ap (λ (n : ℕ). drop (length values) (replicate end zero ++ drop n area)) (sym (length-replicate end zero)))

-- ---- Both.

-- the number of terms that stand there
abbrev pub number_of : Formed ℕ → ℕ
number_of (formed n) = n
number_of over = 0

-- what the code makes of its answer
pub number-unwrapped : (r : Option ℕ) → unwrap_or r 0 ≡ number_of (formed_of r)
number-unwrapped (Some n) = refl
number-unwrapped None = refl

pub number-inside : (f : Formed Sum) {answer : Formed ℕ} (ks : List ℕ) {cs : List ℤ} {all : ℕ} → Added f answer (words_at ks) cs → all ≡ number_of answer → (all ≤ length ks) × (all ≤ length cs)
number-inside (formed s) ks {cs} {all} a is =
    let many : all ≡ length s = is ∙ ap number_of a.number_is in (
      omega (arith, length-take (length s) (words_at ks), length-map ks word_at, ap length (a.words_are s refl), length-map s (λ (t : Term). word t.pattern)),
      omega (arith, length-take (length s) cs, ap length (a.coefficients_are s refl), length-map s (λ (t : Term). t.coefficient)),
    )
number-inside over ks {all = all} a is = let none : all ≡ 0 = is ∙ ap number_of a.number_is in (omega arith, omega arith)

-- the ranks of the sum stand where its words do
pub ranks-stand : {f : Formed Sum} {answer : Formed ℕ} (ks : List ℕ) {cs : List ℤ} → Added f answer (words_at ks) cs → ((i : ℕ) → get_or ks i 0 < 2 ^ 64) → ((s : Sum) → f ≡ formed s → Holdable s)
    → (s : Sum) → f ≡ formed s → take (length s) ks ≡ ranks_of s
ranks-stand ks a small holdable s is =
    let words = a.words_are s is in
    front-ranks (length s) ks small (subst EachValid (sym words) (each-valid (holds (holdable s is)))) ∙ ap (map rank_of) words

module _ {answer : Formed ℕ} (ks₀ : List ℕ) (cs₀ : List ℤ) (ks : List ℕ) (cs : List ℤ) (all : ℕ) (is : all ≡ number_of answer) (same-ranks : length ks ≡ length ks₀) (same_coefficients : length cs ≡ length cs₀)
    {ps : List ℕ} {ds : List ℤ} (ranks : ps ≡ replicate (length ks - all) 0)
    (coefficients : ds ≡ replicate (length cs - all) (pos 0)) where
  pub cleared-into : (f : Formed Sum) → Added f answer (words_at ks) cs → ((s : Sum) → f ≡ formed s → take (length s) ks ≡ ranks_of s)
      → (answer, put_mid all (length ks - all) ks ps, put_mid all (length cs - all) cs ds) ≡ running_into f (cleared 0 (length ks₀) ks₀) (cleared (pos 0) (length cs₀) cs₀)
  unfolding running_into
  cleared-into (formed s) a stand =
      let many : all ≡ length s = is ∙ ap number_of a.number_is in
      let inside = number-inside (formed s) ks a is in
      rw (
        a.number_is,
        rest-cleared 0 (ranks_of s) ks₀ ks ps all (ap (λ (n : ℕ). take n ks) many ∙ stand s refl) (length-map (words_of s) rank_of ∙ length-map s _ ∙ sym many) inside.0 same-ranks ranks,
        rest-cleared (pos 0) (coefficients_of s) cs₀ cs ds all (ap (λ (n : ℕ). take n cs) many ∙ a.coefficients_are s refl) (length-map s _ ∙ sym many) inside.1 same_coefficients coefficients,
      )
  cleared-into over a stand =
      let none : all ≡ 0 = is ∙ ap number_of a.number_is in
      let inside = number-inside over ks a is in
      rw (
        a.number_is,
        rest-cleared 0 [] ks₀ ks ps all (ap (λ (n : ℕ). take n ks) none) (sym none) inside.0 same-ranks ranks,
        rest-cleared (pos 0) [] cs₀ cs ds all (ap (λ (n : ℕ). take n cs) none) (sym none) inside.1 same_coefficients coefficients,
      )

-- the same where the code lent the first places of two areas
pub lent-into : (f : Formed Sum) {answer : Formed ℕ} (ks₀ : List ℕ) (cs₀ : List ℤ) {end : ℕ} {ks : List ℕ} {cs : List ℤ} → end ≤ length ks₀ → end ≤ length cs₀
    → (answer, ks, cs) ≡ running_into f (cleared 0 (length (take end ks₀)) (take end ks₀)) (cleared (pos 0) (length (take end cs₀)) (take end cs₀))
    → length ks ≡ length (take end ks₀) → length cs ≡ length (take end cs₀)
    → (answer, ks ++ drop end ks₀, cs ++ drop end cs₀) ≡ running_into f (cleared 0 end ks₀) (cleared (pos 0) end cs₀)
unfolding running_into
lent-into (formed s) ks₀ cs₀ {end} {ks} {cs} ranks-room coefficients_room told same-ranks same_coefficients =
    rw (
      ap (λ x. x.0) told,
      part-cleared 0 (ranks_of s) ks₀ ks end ranks-room (ap (λ x. x.1) told) same-ranks,
      part-cleared (pos 0) (coefficients_of s) cs₀ cs end coefficients_room (ap (λ x. x.2) told) same_coefficients,
    )
lent-into over ks₀ cs₀ {end} {ks} {cs} ranks-room coefficients_room told same-ranks same_coefficients =
    rw (
      ap (λ x. x.0) told,
      part-cleared 0 [] ks₀ ks end ranks-room (ap (λ x. x.1) told) same-ranks,
      part-cleared (pos 0) [] cs₀ cs end coefficients_room (ap (λ x. x.2) told) same_coefficients,
    )

-- ---- And back: a sum that was written by ranks stands there by words.

pub ranked-added : (f : Formed Sum) → ((s : Sum) → f ≡ formed s → Holdable s) → (ks₀ : List ℕ) (cs₀ : List ℤ) {answer : Formed ℕ} (ks : List ℕ) {cs : List ℤ} → (answer, ks, cs) ≡ running_into f ks₀ cs₀
    → Added f answer (words_at ks) cs
unfolding running_into
ranked-added (formed s) holdable ks₀ cs₀ ks {cs} told =
    let front = (written-front (ranks_of s) ks₀ (ap (λ x. x.1) told) (length-map (words_of s) rank_of ∙ length-map s _)).0 in
    let words : take (length s) (words_at ks) ≡ words_of s = sym (map-take word_at (length s) ks) ∙ ap words_at front ∙ words-again (words_of s) (each-valid (holds (holdable s refl))) in
    record {
      number_is = ap (λ x. x.0) told;
      words_are = λ t e. subst (λ (u : Sum). take (length u) (words_at ks) ≡ words_of u) (inside t e) words;
      coefficients_are = λ t e.
          subst (λ (u : Sum). take (length u) cs ≡ coefficients_of u) (inside t e) (written-front (coefficients_of s) cs₀ (ap (λ x. x.2) told) (length-map s _)).0;
    }
  where
    inside : (t : Sum) → formed s ≡ formed t → s ≡ t
    inside t e = cc
ranked-added over holdable ks₀ cs₀ ks told = record { number_is = ap (λ x. x.0) told; words_are = λ t e. absurd (never t e); coefficients_are = λ t e. absurd (never t e) }
  where
    never : (t : Sum) → over ≡ formed t → ⊥
    never t e = let z : ◌≡◌ {A = ℕ} 0 1 = cc in omega arith
