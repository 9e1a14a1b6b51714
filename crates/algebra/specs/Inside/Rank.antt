-- The rank of a pattern's word: its place in the term order, as one number. Running sums are held by ranks.
use Rattle.std.specs.Prelude.{List, map, ℕ, ◌+◌, ◌*◌, ◌^◌, ◌/◌, ◌%◌}
use Rattle.algebra.specs.Pattern.{degree}
use Rattle.algebra.specs.Word.{exponents}

-- the degree first, and then the word's quotient by 255
unfoldable pub rank_of : ℕ → ℕ
rank_of w = degree (exponents w) * 2 ^ 56 + w / 255

-- the word that has the rank k: the degree is its remainder by 255
unfoldable pub word_at : ℕ → ℕ
word_at k = 255 * (k % 2 ^ 56) + k / 2 ^ 56

abbrev pub words_at : List ℕ → List ℕ
words_at ks = map word_at ks
