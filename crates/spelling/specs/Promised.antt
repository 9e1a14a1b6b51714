-- What is promised of writing a packed sum as text: when it is done, with which text, and when it is refused, and how.
use Rattle.std.specs.Prelude.{◌≡◌, List, [], ◌∷◌, ℕ, ◌≤◌, ◌<◌, length}
use Rattle.algebra.specs.Limits.{variables}
use Rattle.algebra.specs.Sum.{Sum}
use Rattle.answers.specs.Refusals.{ROOM, SUM}
use Rattle.answers.specs.Areas.{written}
use Rattle.packed.specs.ReadSum.{read_whole}
use Rattle.packed.specs.Promised.{PackedSum, AtFault}
use Rattle.text.specs.Letters.{Letter.names, letter_of, name_of}
use Rattle.spelling.specs.Spelling.{Power, powers, sum_text}
use Rattle.spelling.specs.WriteText.{text_places}

-- it is done: the bytes are those of a sum, and the area begins with its text
pub record TextWritten (bytes area : List ℕ) (n : ℕ) (area' : List ℕ) : Type 0 where
  pub sum : Sum
  pub room : text_places ≤ length area
  pub of_bytes : PackedSum bytes sum
  pub many : n ≡ length (sum_text sum)
  pub area_is : area' ≡ written (sum_text sum) area

-- it is refused: the refusal, its place, and the area, which stays
pub data WriteTextRefuses (bytes area : List ℕ) : ℕ → ℕ → List ℕ → Type 0 where
  no_room : length area < text_places → WriteTextRefuses bytes area ROOM 0 area
  at_sum : {p : ℕ} → text_places ≤ length area → AtFault (read_whole variables bytes) p → WriteTextRefuses bytes area SUM p area

-- ---- What the text says.

-- the reader names the variable of each letter
abbrev pub EachNamed : List Power → Type 0
EachNamed [] = Unit {0}
EachNamed (f ∷ fs) = (letter_of (name_of f.variable) ≡ names f.variable) × EachNamed fs

-- and so in every term
abbrev pub Named : Sum → Type 0
Named [] = Unit {0}
Named (t ∷ s) = EachNamed (powers 0 t.pattern) × Named s
