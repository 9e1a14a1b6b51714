-- When `unpack` and `pack` refuse: exactly where a check fails, the first of them in document 01's order. Their areas then stay.
use mathlib.Core.Path.{◌≡◌, refl, sym, ◌∙◌, ap, subst}
use mathlib.Core.Bool.{Bool, true, false, cond}
use mathlib.Core.List.{List, [], ◌∷◌}
use Prim.Native.Nat.{ℕ, suc, ◌<◌}
use native.Mathlib.Omega.{arith}
use native.Mathlib.Decide.{dec_lt}
use lib.IntN.{ℤ}
use lib.ListN.{length, take}
use lib.Seq.{length-take-le}
use Rattle.algebra.specs.Limits.{variables, most_terms}
use Rattle.algebra.specs.Sum.{term, Sum}
use Rattle.algebra.specs.Word.{exponents}
use Rattle.answers.specs.Refusals.{SUM}
use Rattle.answers.specs.Answers.{Told, Told.done, Told.refused, Outcome, outcome}
use Rattle.numbers.specs.Item.{Item, Item.got, Item.stopped, Fault, Fault.cut, Fault.bad}
use Rattle.packed.specs.Packed.{most_bytes}
use Rattle.packed.specs.ReadSum.{read_whole}
use Rattle.packed.specs.Whole.{judged}
use Rattle.packed.specs.Result.{held_into}
use Rattle.packed.specs.Unpack.{unpack}
use Rattle.packed.specs.Pack.{is_good, good_terms, pack}
use Rattle.packed.specs.Promised.{AtFault.is_cut, AtFault.is_bad, UnpackRefuses, UnpackRefuses.few_words, UnpackRefuses.few_coefficients, UnpackRefuses.at_sum, PackFits, FirstBad, FirstBad.here, FirstBad.later, PackRefuses}
use Rattle.packed.proofs.Results.{fault-judged}
use Rattle.packed.proofs.Unpacking as unpacking
use Rattle.packed.proofs.Unpacking.{has_room}
use Rattle.packed.proofs.Packing as packing

-- ---- `unpack`.

module _ (bytes ws : List ℕ) (cs : List ℤ) where
  pub refuses-unpack : {refusal p : ℕ} → UnpackRefuses bytes ws cs refusal p → unpack bytes ws cs ≡ outcome (refused refusal p) (ws, cs)
  unfolding held_into
  refuses-unpack (few_words h) = sym (unpacking.few_words bytes ws cs h)
  refuses-unpack (few_coefficients h k) = sym (unpacking.few_coefficients bytes ws cs h k)
  refuses-unpack (at_sum h k a) = has_room bytes ws cs h k ∙ ap (λ j. held_into j ws cs) (fault-judged SUM a)

  -- what stands behind an answer
  abbrev UnpackBehind : Told → List ℕ × List ℤ → Type 0
  UnpackBehind (done n) areas = Unit {0}
  UnpackBehind (refused refusal p) areas = UnpackRefuses bytes ws cs refusal p × (areas ≡ (ws, cs))

  abbrev UnpackExplains : Outcome (List ℕ × List ℤ) → Type 0
  UnpackExplains o = UnpackBehind o.answer o.areas

  unpack-explained : UnpackExplains (unpack bytes ws cs)
  unfolding held_into
  unpack-explained = go (dec_lt (length ws) most_terms) (dec_lt (length cs) most_terms) (read_whole variables bytes) refl
    where
      by : {refusal p : ℕ} → UnpackRefuses bytes ws cs refusal p → UnpackExplains (unpack bytes ws cs)
      by d = subst UnpackExplains (sym (refuses-unpack d)) (d, refl)

      go : Dec (length ws < most_terms) → Dec (length cs < most_terms) → (item : Item Fault Sum) → read_whole variables bytes ≡ item → UnpackExplains (unpack bytes ws cs)
      go (yes short) d item e = by (few_words short)
      go (no long) (yes short) item e = by (few_coefficients (omega (arith, long)) short)
      go (no long) (no also-long) (got s end) e =
          subst UnpackExplains (sym (has_room bytes ws cs (omega (arith, long)) (omega (arith, also-long)) ∙ ap (λ r. held_into (judged SUM r) ws cs) e)) tt
      go (no long) (no also-long) (stopped cut place) e = by (at_sum (omega (arith, long)) (omega (arith, also-long)) (is_cut e))
      go (no long) (no also-long) (stopped bad place) e = by (at_sum (omega (arith, long)) (omega (arith, also-long)) (is_bad e))

  pub unpack-refuses : {refusal p : ℕ} {areas : List ℕ × List ℤ} → unpack bytes ws cs ≡ outcome (refused refusal p) areas → UnpackRefuses bytes ws cs refusal p × (areas ≡ (ws, cs))
  unpack-refuses e = subst UnpackExplains e unpack-explained

-- ---- `pack`.

first-bad : (before : Sum) (ws : List ℕ) (cs : List ℤ) → length ws ≡ length cs → good_terms before ws cs < length ws → FirstBad before ws cs (good_terms before ws cs)
unfolding good_terms
first-bad before [] cs same h = absurd (omega arith)
first-bad before (w ∷ ws) [] same h = absurd (omega arith)
first-bad before (w ∷ ws) (c ∷ cs) same h = go (is_good before w c) refl h (first-bad (term c (exponents w) ∷ before) ws cs (omega (arith, same)))
  where
    go : {after : ℕ} (b : Bool) → is_good before w c ≡ b → cond b (suc after) 0 < suc (length ws) → (after < length ws → FirstBad (term c (exponents w) ∷ before) ws cs after)
        → FirstBad before (w ∷ ws) (c ∷ cs) (cond b (suc after) 0)
    go true e h rest = later e (rest (omega (arith, h)))
    go false e h rest = here e

bad-found : {before : Sum} {ws : List ℕ} {cs : List ℤ} {p : ℕ} → FirstBad before ws cs p → (good_terms before ws cs ≡ p) × (p < length ws)
unfolding good_terms
bad-found (here e) = (rw e, omega arith)
bad-found (later e b) = let found = bad-found b in (rw (e, found.0), omega (arith, found.1))

module _ (count : ℕ) (ws : List ℕ) (cs : List ℤ) (area : List ℕ) where
  pub refuses-pack : {refusal p : ℕ} → PackRefuses count ws cs area refusal p → pack count ws cs area ≡ outcome (refused refusal p) area
  refuses-pack (PackRefuses.no_room h) = sym (packing.no_room count ws cs area h)
  refuses-pack (PackRefuses.too_many room h) = sym (packing.too_many count ws cs area room h)
  refuses-pack (PackRefuses.few_words room few h) = sym (packing.few_words count ws cs area room few h)
  refuses-pack (PackRefuses.few_coefficients room few words h) = sym (packing.few_coefficients count ws cs area room few words h)
  refuses-pack (PackRefuses.bad_term passed b) =
      let found = bad-found b in
      sym (packing.bad_term passed (omega (arith, found.0, found.1, length-take-le count ws passed.patterns_enough))) ∙ ap (λ (n : ℕ). outcome (refused SUM n) area) found.0

  abbrev PackBehind : Told → List ℕ → Type 0
  PackBehind (done n) area' = Unit {0}
  PackBehind (refused refusal p) area' = PackRefuses count ws cs area refusal p × (area' ≡ area)

  abbrev PackExplains : Outcome (List ℕ) → Type 0
  PackExplains o = PackBehind o.answer o.areas

  pack-explained : PackExplains (pack count ws cs area)
  pack-explained = go (dec_lt (length area) (most_bytes variables)) (dec_lt most_terms count) (dec_lt (length ws) count) (dec_lt (length cs) count)
    where
      by : {refusal p : ℕ} → PackRefuses count ws cs area refusal p → PackExplains (pack count ws cs area)
      by d = subst PackExplains (sym (refuses-pack d)) (d, refl)

      judged-terms : PackFits count ws cs area → Dec (good_terms [] (take count ws) (take count cs) < count) → PackExplains (pack count ws cs area)
      judged-terms passed (yes fewer) =
          let long = length-take-le count ws passed.patterns_enough in
          by (PackRefuses.bad_term passed (first-bad [] (take count ws) (take count cs) (long ∙ sym (length-take-le count cs passed.coefficients_enough)) (omega (arith, fewer, long))))
      judged-terms passed (no all) = subst PackExplains (packing.all_good passed (packing.every-good passed (omega (arith, all)))) tt

      go : Dec (length area < most_bytes variables) → Dec (most_terms < count) → Dec (length ws < count) → Dec (length cs < count) → PackExplains (pack count ws cs area)
      go (yes short) many words coefficients = by (PackRefuses.no_room short)
      go (no long) (yes many) words coefficients = by (PackRefuses.too_many (omega (arith, long)) many)
      go (no long) (no few) (yes short) coefficients = by (PackRefuses.few_words (omega (arith, long)) (omega (arith, few)) short)
      go (no long) (no few) (no words) (yes short) = by (PackRefuses.few_coefficients (omega (arith, long)) (omega (arith, few)) (omega (arith, words)) short)
      go (no long) (no few) (no words) (no coefficients) =
          judged-terms (record { room = omega (arith, long); few = omega (arith, few); patterns_enough = omega (arith, words); coefficients_enough = omega (arith, coefficients) })
          (dec_lt (good_terms [] (take count ws) (take count cs)) count)

  pub pack-refuses : {refusal p : ℕ} {area' : List ℕ} → pack count ws cs area ≡ outcome (refused refusal p) area' → PackRefuses count ws cs area refusal p × (area' ≡ area)
  pack-refuses e = subst PackExplains e pack-explained
