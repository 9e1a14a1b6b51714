-- What stands between two fields of a line.
use Rattle.std.specs.Prelude.{ℕ}

abbrev pub blank : ℕ
blank = 32
