-- How much there is room for.
use Rattle.std.specs.Prelude.{ℕ, ◌+◌, ◌*◌}

-- places of a lent area, of bytes and of words
abbrev pub most_bytes : ℕ
most_bytes = 40000

abbrev pub most_words : ℕ
most_words = 9000

-- bytes of an answer's line
abbrev pub most_answer : ℕ
most_answer = 2 * 16 * most_words + 128
