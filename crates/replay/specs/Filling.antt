-- What lent areas are filled with, and what has become of them.
use Rattle.std.specs.Prelude.{◌≡◌, List, ℕ, ◌+◌, ◌*◌, ◌%◌, ◌≤◌, ◌<◌, ℤ, pos, length, get_or}
use Rattle.algebra.specs.Limits.{work_places}
use Rattle.replay.specs.declared.filling.Fate.{Fate}
use Rattle.replay.specs.declared.filling.Fate.TheVariants.{Stay, Zero, Spoilt}

-- place i of a byte area, and of a word area
abbrev pub filled_byte : ℕ → ℕ
filled_byte i = (37 * i + 11) % 256

abbrev pub filled_word : ℕ → ℕ
filled_word i = 2654435761 * i + 97

abbrev pub filled_signed : ℕ → ℤ
filled_signed i = pos (filled_word i)

-- every place from one on up to another holds what a rule gives for it
pub record Holds {A : Type 0} (zero : A) (rule : ℕ → A) (from to : ℕ) (area : List A) : Type 0 where
  pub each : (i : ℕ) → from ≤ i → i < to → get_or area i zero ≡ rule i

-- the places from one on hold what they were filled with
abbrev pub Stays : {A : Type 0} → A → (ℕ → A) → ℕ → List A → Type 0
Stays zero filled from area = Holds zero filled from (length area) area

-- the first 8,192 places are zero, and the others hold what they were filled with
abbrev pub Cleared : {A : Type 0} → A → (ℕ → A) → List A → Type 0
Cleared zero filled area = (work_places ≤ length area) × Holds zero (λ i. zero) 0 work_places area × Stays zero filled work_places area

-- the fate of a work area: the first of these that it is
abbrev pub FateIs : Type 0 → Type 0 → Fate → Type 0
FateIs stays zero Stay = stays
FateIs stays zero Zero = zero × (stays → ⊥)
FateIs stays zero Spoilt = (stays → ⊥) × (zero → ⊥)
