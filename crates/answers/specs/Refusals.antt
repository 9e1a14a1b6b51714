-- The thirteen refusals, by the numbers of document 01.
use Rattle.std.specs.Prelude.{ℕ}
use Rattle.answers.specs.declared.Refusal.{Refusal}
use Rattle.answers.specs.declared.Refusal.TheVariants as refusal

abbrev pub ROOM : ℕ
ROOM = 1

abbrev pub SHAPE : ℕ
SHAPE = 2

abbrev pub NODE : ℕ
NODE = 3

abbrev pub DEGREE : ℕ
DEGREE = 4

abbrev pub WEIGHT : ℕ
WEIGHT = 5

abbrev pub SPREAD : ℕ
SPREAD = 6

abbrev pub SUM : ℕ
SUM = 7

abbrev pub LIST : ℕ
LIST = 8

abbrev pub VARIABLE : ℕ
VARIABLE = 9

abbrev pub READING : ℕ
READING = 10

abbrev pub RANGE : ℕ
RANGE = 11

abbrev pub TEXT : ℕ
TEXT = 12

abbrev pub NODES : ℕ
NODES = 13

-- the number of each case of the code's enum
abbrev pub number : Refusal → ℕ
number refusal.Room = ROOM
number refusal.Shape = SHAPE
number refusal.Node = NODE
number refusal.Degree = DEGREE
number refusal.Weight = WEIGHT
number refusal.Spread = SPREAD
number refusal.Sum = SUM
number refusal.List = LIST
number refusal.Variable = VARIABLE
number refusal.Reading = READING
number refusal.Range = RANGE
number refusal.Text = TEXT
number refusal.Nodes = NODES
