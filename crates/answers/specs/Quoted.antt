-- A quoted text as bytes. (Characters of one byte only are quoted here.)
use Rattle.std.specs.Prelude.{List, [], ◌∷◌, ℕ}
use Prim.Native.Char.{code}
use Prim.Native.String.{String, [] as end, ◌∷◌ as ◌then◌}

-- `end` is the text without a character, and `c then rest` the character c with a text after it
unfoldable pub quoted : String → List ℕ
quoted end = []
quoted (c then rest) = code c ∷ quoted rest
