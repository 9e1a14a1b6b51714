-- What `pack` answers, test by test. Good terms make a sum that can be packed, and the result area has room for it.
use mathlib.Core.Path.{◌≡◌, sym, ◌∙◌, ap₂}
use mathlib.Core.List.{List, []}
use Prim.Native.Nat.{ℕ, ◌+◌, ◌≤◌, ◌<◌}
use native.Mathlib.Omega.{arith}
use native.Mathlib.Nat.{zero-add}
use lib.IntN.{ℤ}
use lib.ListN.{length, take}
use lib.Seq.{sets, sets-eq, length-take-le}
use borrow.Author.Tests.{le-leb, lt-leb, eq-eqb, ne_eqb}
use Rattle.algebra.specs.Limits.{variables, most_terms}
use Rattle.algebra.specs.Word.{EachValid}
use Rattle.answers.specs.Refusals.{ROOM, SHAPE, SUM}
use Rattle.answers.specs.Answers.{Told.done, Told.refused, outcome}
use Rattle.answers.specs.Areas.{written}
use Rattle.packed.specs.Packed.{packed, most_bytes}
use Rattle.algebra.specs.Accepted.{Accepted}
use Rattle.packed.specs.Pack.{good_terms, pack}
use Rattle.algebra.specs.Held.{first_terms}
use Rattle.packed.specs.Promised.{PackFits}
use Rattle.packed.proofs.Good.{AllValid, each-valid, good-accepted, good-most, terms-good}
use Rattle.packed.proofs.Sizes.{packed-most}
use Rattle.packed.proofs.Front.{front_length}

module _ (count : ℕ) (ws : List ℕ) (cs : List ℤ) (area : List ℕ) where
  pub no_room : length area < most_bytes variables → outcome (refused ROOM 0) area ≡ pack count ws cs area
  unfolding pack
  no_room h = rw (lt-leb (most_bytes variables) (length area) h)

  pub too_many : most_bytes variables ≤ length area → most_terms < count → outcome (refused SHAPE 0) area ≡ pack count ws cs area
  unfolding pack
  too_many room h = rw (le-leb (most_bytes variables) (length area) room, lt-leb count most_terms h)

  pub few_words : most_bytes variables ≤ length area → count ≤ most_terms → length ws < count → outcome (refused SHAPE 0) area ≡ pack count ws cs area
  unfolding pack
  few_words room few h = rw (le-leb (most_bytes variables) (length area) room, le-leb count most_terms few, lt-leb count (length ws) h)

  pub few_coefficients : most_bytes variables ≤ length area → count ≤ most_terms → count ≤ length ws → length cs < count
      → outcome (refused SHAPE 0) area ≡ pack count ws cs area
  unfolding pack
  few_coefficients room few words h =
      rw (le-leb (most_bytes variables) (length area) room, le-leb count most_terms few, le-leb count (length ws) words, lt-leb count (length cs) h)

-- what is judged are the first `count` terms
pub judged : {good : ℕ} {words : List ℕ} {coefficients : List ℤ} (count : ℕ) (ws : List ℕ) (cs : List ℤ) → good ≡ good_terms [] words coefficients → words ≡ take count ws → coefficients ≡ take count cs
    → good ≡ good_terms [] (take count ws) (take count cs)
judged count ws cs is words coefficients = is ∙ ap₂ (good_terms []) words coefficients

-- ---- The tests are passed, and the terms are judged.

module _ {count : ℕ} {ws : List ℕ} {cs : List ℤ} {area : List ℕ} (p : PackFits count ws cs area) where
  abbrev good : ℕ
  good = good_terms [] (take count ws) (take count cs)

  sum-long : length (first_terms count ws cs) ≡ count
  sum-long = front_length count ws cs p.patterns_enough p.coefficients_enough

  pub bad_term : good_terms [] (take count ws) (take count cs) < count → outcome (refused SUM (good_terms [] (take count ws) (take count cs))) area ≡ pack count ws cs area
  unfolding pack
  bad_term h =
      rw (le-leb (most_bytes variables) (length area) p.room, le-leb count most_terms p.few, le-leb count (length ws) p.patterns_enough, le-leb count (length cs) p.coefficients_enough, ne_eqb good count (λ e. omega arith))

  pub all_good : good_terms [] (take count ws) (take count cs) ≡ count → outcome (done (length (packed (first_terms count ws cs)))) (written (packed (first_terms count ws cs)) area) ≡ pack count ws cs area
  unfolding pack
  all_good h =
      rw (le-leb (most_bytes variables) (length area) p.room, le-leb count most_terms p.few, le-leb count (length ws) p.patterns_enough, le-leb count (length cs) p.coefficients_enough, eq-eqb good count h)

  pub every-good : count ≤ good_terms [] (take count ws) (take count cs) → good_terms [] (take count ws) (take count cs) ≡ count
  every-good h = omega (arith, length-take-le count ws p.patterns_enough, good-most [] (take count ws) (take count cs))

  -- good terms make an accepted sum, of valid words
  pub accepted : good_terms [] (take count ws) (take count cs) ≡ count → (AllValid (take count ws)) × (Accepted variables (first_terms count ws cs))
  accepted h =
      let all = terms-good [] (take count ws) (take count cs) (h ∙ sym (length-take-le count ws p.patterns_enough)) in
      (all.0, good-accepted variables (first_terms count ws cs) (rw sum-long p.few) all.1)

  pub every-valid : good_terms [] (take count ws) (take count cs) ≡ count → EachValid (take count ws)
  every-valid h = each-valid (take count ws) (accepted h).0

  pub has_room : good_terms [] (take count ws) (take count cs) ≡ count → 0 + length (packed (first_terms count ws cs)) ≤ length area
  has_room h = omega (arith, p.room, packed-most variables (first_terms count ws cs) (accepted h).1)

  pub all-written : good_terms [] (take count ws) (take count cs) ≡ count → {length' : ℕ} {area' : List ℕ} → length' ≡ 0 + length (packed (first_terms count ws cs))
      → area' ≡ sets area 0 (packed (first_terms count ws cs)) → outcome (done length') area' ≡ pack count ws cs area
  all-written h there now =
      let bytes = packed (first_terms count ws cs) in
      let stands : sets area 0 bytes ≡ written bytes area = rw (zero-add (length bytes)) at (sets-eq bytes area 0 (has_room h)) in
      ap₂ (λ (n : ℕ) (l : List ℕ). outcome (done n) l) (there ∙ zero-add (length bytes)) (now ∙ stands) ∙ all_good h
