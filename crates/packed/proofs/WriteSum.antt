-- What the loop of `write_sum` keeps: the bytes left are those of the terms left. `area₀` and `place₀` are those after the count, where the
-- loop begins.
use mathlib.Core.Path.{◌≡◌, refl, sym, ◌∙◌, ap}
use mathlib.Core.List.{List, ◌++◌, append_assoc}
use Prim.Native.Nat.{ℕ, ◌+◌, ◌≤◌, ◌<◌}
use native.Mathlib.Omega.{arith}
use lib.IntN.{ℤ, pos}
use lib.ListN.{length, get_or, drop, length-append, drop_of_length-le}
use lib.Seq.{sets}
use Rattle.algebra.specs.Word.{exponents, terms}
use Rattle.numbers.specs.Number.{number_bytes}
use Rattle.numbers.specs.Code.{code}
use Rattle.packed.specs.Packed.{exponent_bytes, term_bytes, bytes_of_terms, packed}
use Rattle.packed.proofs.Front.{terms-length, terms-next}
use Rattle.numbers.proofs.Writing.{Writing, start, has_room, joined, next, ended}

-- the bytes of the terms from place k on
abbrev bytes_from : List ℕ → List ℤ → ℕ → List ℕ
bytes_from ws cs k = bytes_of_terms (drop k (terms ws cs))

-- the bytes of the exponents at place k
abbrev exponents_at : List ℕ → ℕ → List ℕ
exponents_at ws k = exponent_bytes (exponents (get_or ws k 0))

pub record WritingTerms (area₀ : List ℕ) (place₀ : ℕ) (ws : List ℕ) (cs : List ℤ) (area : List ℕ) (place k : ℕ) : Type 0 where
  pub writing : Writing area₀ place₀ (bytes_from ws cs 0) area place (bytes_from ws cs k)
  pub as_many : length cs ≡ length ws

-- ---- Before the loop the count is written.

module _ (ws : List ℕ) (cs : List ℤ) (as_many : length cs ≡ length ws) where
  counted : packed (terms ws cs) ≡ number_bytes (length ws) ++ bytes_from ws cs 0
  unfolding packed
  counted = ap (λ (n : ℕ). number_bytes n ++ bytes_of_terms (terms ws cs)) (terms-length ws cs as_many)

  pub count_room : (at room : ℕ) → at + length (packed (terms ws cs)) ≤ room → at + length (number_bytes (length ws)) ≤ room
  count_room at room h = omega (arith, ap (length {A = ℕ}) counted, length-append (number_bytes (length ws)) (bytes_from ws cs 0))

  pub counted_is : {area : List ℕ} {at : ℕ} {area₀ : List ℕ} {place₀ n : ℕ} → at + length (packed (terms ws cs)) ≤ length area → n ≡ length ws
      → place₀ ≡ at + length (number_bytes n) → area₀ ≡ sets area at (number_bytes n)
      → Writing area at (packed (terms ws cs)) area₀ place₀ (bytes_from ws cs 0)
  counted_is {area} {at} room many there now =
      next (number_bytes _) (bytes_from ws cs 0) (rw many counted) (start area at (packed (terms ws cs)) room) now there

  pub begin : {area : List ℕ} {at : ℕ} {all area₀ : List ℕ} {place₀ : ℕ} → Writing area at all area₀ place₀ (bytes_from ws cs 0)
      → WritingTerms area₀ place₀ ws cs area₀ place₀ 0
  begin {area} {at} {all} {area₀} {place₀} w =
      record { writing = start area₀ place₀ (bytes_from ws cs 0) w.room; as_many = as_many }

-- ---- One more term is due: the code of its coefficient, then its exponents.

pub record Due (area₀ : List ℕ) (place₀ : ℕ) (ws : List ℕ) (cs : List ℤ) (area : List ℕ) (place k n : ℕ) : Type 0 where
  pub writing : WritingTerms area₀ place₀ ws cs area place k
  pub more : k < length ws
  pub is : n ≡ code (get_or cs k (pos 0))

module _ {area₀ : List ℕ} {place₀ : ℕ} {ws : List ℕ} {cs : List ℤ} {area : List ℕ} {place k n : ℕ}
    (d : Due area₀ place₀ ws cs area place k n) where
  split : bytes_from ws cs k ≡ number_bytes n ++ (exponents_at ws k ++ bytes_from ws cs (k + 1))
  unfolding bytes_of_terms term_bytes
  split =
      ap bytes_of_terms (terms-next ws cs d.writing.as_many k d.more)
      ∙ append_assoc (number_bytes (code (get_or cs k (pos 0)))) (exponents_at ws k) (bytes_from ws cs (k + 1))
      ∙ ap (λ (m : ℕ). number_bytes m ++ (exponents_at ws k ++ bytes_from ws cs (k + 1))) (sym d.is)

  pub code-room : place + length (number_bytes n) ≤ length area
  code-room = has_room (number_bytes n) (exponents_at ws k ++ bytes_from ws cs (k + 1)) split d.writing.writing

  module _ {area' : List ℕ} {place' : ℕ} (there : place' ≡ place + length (number_bytes n)) (now : area' ≡ sets area place (number_bytes n)) where
    coded : Writing area₀ place₀ (bytes_from ws cs 0) area' place' (exponents_at ws k ++ bytes_from ws cs (k + 1))
    coded = next (number_bytes n) (exponents_at ws k ++ bytes_from ws cs (k + 1)) split d.writing.writing now there

    pub exponents-room : place' + length (exponents_at ws k) ≤ length area'
    exponents-room = has_room (exponents_at ws k) (bytes_from ws cs (k + 1)) refl coded

    pub again : {area'' : List ℕ} {place'' : ℕ} → place'' ≡ place' + length (exponents_at ws k) → area'' ≡ sets area' place' (exponents_at ws k)
        → WritingTerms area₀ place₀ ws cs area'' place'' (k + 1)
    again there' now' = record {
      writing = next (exponents_at ws k) (bytes_from ws cs (k + 1)) refl coded now' there';
      as_many = d.writing.as_many;
    }

-- ---- After the last term.

pub stops : {area₁ : List ℕ} {at : ℕ} {all area₀ : List ℕ} {place₀ : ℕ} {ws : List ℕ} {cs : List ℤ} {area : List ℕ} {place k : ℕ}
    → Writing area₁ at all area₀ place₀ (bytes_from ws cs 0) → WritingTerms area₀ place₀ ws cs area place k → length ws ≤ k
    → (place ≡ at + length all) × (area ≡ sets area₁ at all)
unfolding bytes_of_terms
stops {area₁} {at} {all} {area₀} {place₀} {ws} {cs} {area} {place} {k} counted w h =
    let short : length (terms ws cs) ≤ k = omega (arith, terms-length ws cs w.as_many) in
    ended (ap bytes_of_terms (drop_of_length-le (terms ws cs) short)) (joined counted w.writing)
