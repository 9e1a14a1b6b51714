-- What is promised of packed sums: when unpack and pack are done, and when each refuses. Other operations use the first part too, where they are given packed sums.
use Rattle.std.specs.Prelude.{◌≡◌, true, false, List, [], ◌∷◌, ℕ, suc, ◌≤◌, ◌<◌, ℤ, pos, length, take}
use Rattle.algebra.specs.Limits.{variables, most_terms, work_places}
use Rattle.algebra.specs.Sum.{term, Sum}
use Rattle.algebra.specs.Word.{exponents, EachValid}
use Rattle.algebra.specs.Held.{words_of, coefficients_of, first_terms}
use Rattle.algebra.specs.Accepted.{Accepted}
use Rattle.answers.specs.Refusals.{ROOM, SHAPE, SUM}
use Rattle.answers.specs.Areas.{written, cleared}
use Rattle.numbers.specs.Item.{Item, Item.stopped, Fault, Fault.cut, Fault.bad}
use Rattle.packed.specs.Packed.{packed, most_bytes}
use Rattle.packed.specs.ReadSum.{read_whole}
use Rattle.packed.specs.Pack.{is_good}
use Rattle.packed.specs.Result.{WorkAreas}

-- ---- What an operation is given.

-- the bytes are those of an accepted sum
pub record PackedSum (bytes : List ℕ) (s : Sum) : Type 0 where
  pub accepted : Accepted variables s
  pub bytes_are : bytes ≡ packed s

-- an item is cut or bad at a place
pub data AtFault {A : Type 0} (item : Item Fault A) (place : ℕ) : Type 0 where
  is_cut : item ≡ stopped cut place → AtFault item place
  is_bad : item ≡ stopped bad place → AtFault item place

-- two work areas and a result area are long enough
pub record WorkRoom (patterns : List ℕ) (coefficients : List ℤ) (result : List ℕ) : Type 0 where
  pub patterns_room : work_places ≤ length patterns
  pub coefficients_room : work_places ≤ length coefficients
  pub result_room : most_bytes variables ≤ length result

-- the areas after any answer but ROOM: both work areas cleared, and the result area
abbrev pub cleared_with : List ℕ → List ℤ → List ℕ → WorkAreas
cleared_with patterns coefficients result = (cleared 0 work_places patterns, cleared (pos 0) work_places coefficients, result)

-- ---- Unpack.

-- it is done: the bytes are those of a sum, and the two areas hold its terms
pub record Unpacks (bytes patterns : List ℕ) (coefficients : List ℤ) (count : ℕ) (patterns' : List ℕ) (coefficients' : List ℤ) : Type 0 where
  pub sum : Sum
  pub accepted : Accepted variables sum
  pub bytes_are : bytes ≡ packed sum
  pub many : length sum ≡ count
  pub words_are : patterns' ≡ written (words_of sum) patterns
  pub coefficients_are : coefficients' ≡ written (coefficients_of sum) coefficients
  pub words_room : most_terms ≤ length patterns
  pub coefficients_room : most_terms ≤ length coefficients

-- it is refused: the refusal, and its place. (The areas then stay, which the theorems say beside it.)
pub data UnpackRefuses (bytes patterns : List ℕ) (coefficients : List ℤ) : ℕ → ℕ → Type 0 where
  few_words : length patterns < most_terms → UnpackRefuses bytes patterns coefficients ROOM 0
  few_coefficients : most_terms ≤ length patterns → length coefficients < most_terms → UnpackRefuses bytes patterns coefficients ROOM 0
  at_sum : {p : ℕ} → most_terms ≤ length patterns → most_terms ≤ length coefficients → AtFault (read_whole variables bytes) p → UnpackRefuses bytes patterns coefficients SUM p

-- ---- Pack.

-- ROOM and SHAPE are passed
pub record PackFits (count : ℕ) (patterns : List ℕ) (coefficients : List ℤ) (result : List ℕ) : Type 0 where
  pub room : most_bytes variables ≤ length result
  pub few : count ≤ most_terms
  pub patterns_enough : count ≤ length patterns
  pub coefficients_enough : count ≤ length coefficients

-- it is done: the words are valid, the terms make a sum, and the area holds its bytes
pub record Packs (count : ℕ) (patterns : List ℕ) (coefficients : List ℤ) (result : List ℕ) (length-done : ℕ) (result' : List ℕ) : Type 0 where
  pub fits : PackFits count patterns coefficients result
  pub valid : EachValid (take count patterns)
  pub accepted : Accepted variables (first_terms count patterns coefficients)
  pub many : length (packed (first_terms count patterns coefficients)) ≡ length-done
  pub result_is : result' ≡ written (packed (first_terms count patterns coefficients)) result

-- the first bad term: those before it are good. `before` has the terms before, the last of them first
pub data FirstBad : Sum → List ℕ → List ℤ → ℕ → Type 0 where
  here : {before : Sum} {w : ℕ} {ws : List ℕ} {c : ℤ} {cs : List ℤ} → is_good before w c ≡ false → FirstBad before (w ∷ ws) (c ∷ cs) 0
  later : {before : Sum} {w : ℕ} {ws : List ℕ} {c : ℤ} {cs : List ℤ} {p : ℕ} → is_good before w c ≡ true
      → FirstBad (term c (exponents w) ∷ before) ws cs p → FirstBad before (w ∷ ws) (c ∷ cs) (suc p)

-- it is refused: the refusal, and its place
pub data PackRefuses (count : ℕ) (patterns : List ℕ) (coefficients : List ℤ) (result : List ℕ) : ℕ → ℕ → Type 0 where
  no_room : length result < most_bytes variables → PackRefuses count patterns coefficients result ROOM 0
  too_many : most_bytes variables ≤ length result → most_terms < count → PackRefuses count patterns coefficients result SHAPE 0
  few_words : most_bytes variables ≤ length result → count ≤ most_terms → length patterns < count → PackRefuses count patterns coefficients result SHAPE 0
  few_coefficients : most_bytes variables ≤ length result → count ≤ most_terms → count ≤ length patterns → length coefficients < count → PackRefuses count patterns coefficients result SHAPE 0
  bad_term : {p : ℕ} → PackFits count patterns coefficients result → FirstBad [] (take count patterns) (take count coefficients) p → PackRefuses count patterns coefficients result SUM p
