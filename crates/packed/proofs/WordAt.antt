-- The bytes of a word, the highest first, are its exponents.
use mathlib.Core.Path.{◌≡◌, refl, sym, ◌∙◌, ap, ap₂}
use mathlib.Core.List.{List, [], ◌∷◌}
use Prim.Native.Nat.{ℕ, zero, suc, ◌^◌, ◌<◌}
use lib.ListN.{length, get_or, take}
use native.Mathlib.Omega.{arith}
use mir.Syntax.{w64}
use Rattle.std.specs.Int.{bytes_high_first, to_be_bytes, from_be_bytes}
use Rattle.std.proofs.lemmas.Nat.{be_bytes_8}
use Rattle.algebra.specs.Limits.{variables}
use Rattle.algebra.specs.Word.{field_size, fields_of, word, exponents}
use Rattle.algebra.proofs.Patterns.Word.{word-exponents}
use Rattle.numbers.proofs.Complement.{byte-at}

fields-bytes : (n w : ℕ) → bytes_high_first n w ≡ fields_of field_size n w
unfolding fields_of
fields-bytes zero w = refl
fields-bytes (suc n) w = ap₂ (λ (b : ℕ) (l : List ℕ). b ∷ l) (byte-at n w) (fields-bytes n w)

pub word-bytes : (w : ℕ) → to_be_bytes w64 w ≡ exponents w
unfolding exponents
word-bytes w = fields-bytes variables w

-- bytes at a place are bytes
pub part-bytes : (n : ℕ) (l : List ℕ) → ((i : ℕ) → get_or l i 0 < 256) → (i : ℕ) → get_or (take n l) i 0 < 256
part-bytes zero l h i = omega arith
part-bytes (suc n) [] h i = omega arith
part-bytes (suc n) (x ∷ l) h zero = h 0
part-bytes (suc n) (x ∷ l) h (suc i) = part-bytes n l (λ j. h (suc j)) i

pub word-read : (bytes : List ℕ) (n : ℕ) → length bytes ≡ variables → ((i : ℕ) → get_or bytes i 0 < 256) → n < 2 ^ 64 → n ≡ from_be_bytes w64 bytes → n ≡ word bytes
word-read bytes n long byte fits is =
    sym (word-exponents n fits) ∙ ap word (sym (word-bytes n) ∙ be_bytes_8 bytes n long byte is)
