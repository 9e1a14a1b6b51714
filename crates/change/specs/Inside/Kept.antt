-- What the code's reader of a list answers, and keeps: each pair's terms in a part of its own. For the contracts of private functions.
use Rattle.std.specs.Prelude.{◌≡◌, List, [], ◌∷◌, ℕ, suc, ◌≤◌, ◌<◌, ℤ, Result, Ok, Err, length, take, drop}
use Rattle.algebra.specs.Limits.{variables, most_terms, work_places}
use Rattle.algebra.specs.Sum.{Sum}
use Rattle.algebra.specs.Held.{words_of, coefficients_of, first_terms}
use Rattle.answers.specs.Refusals.{LIST}
use Rattle.answers.specs.Answers.{Told, Told.done, Told.refused}
use Rattle.answers.specs.Judge.{Judged, Judged.good, Judged.fails}
use Rattle.numbers.specs.Item.{Item, Item.got, Item.stopped, mapped, Fault.cut, Fault.bad}
use Rattle.sums.specs.Part.{part}
use Rattle.sums.specs.Held.{HeldSum}
use Rattle.change.specs.Pairs.{Pair, pair, ListFault, ListFault.item, ListFault.unknown, refusal_of}
use Rattle.numbers.specs.declared.Fault as number
use Rattle.numbers.specs.declared.Fault.TheVariants.{Cut, Bad}
use Rattle.change.specs.declared.lists.Entry.{Entry}
use Rattle.change.specs.declared.lists.ListFault as code
use Rattle.change.specs.declared.lists.ListFault.TheVariants.{Ended, Damaged, Unknown}

-- what the code answers of a list: the number of pairs, and the place after them; or its fault
abbrev pub listed_of : Result (ℕ × ℕ) code.ListFault → Item ListFault ℕ
listed_of (Ok (n, next)) = got n next
listed_of (Err (Ended place)) = stopped (item cut) place
listed_of (Err (Damaged place)) = stopped (item bad) place
listed_of (Err (Unknown place)) = stopped unknown place

-- the fault of an item, as one of the list
abbrev pub of_item : number.Fault → code.ListFault
of_item (Cut place) = Ended place
of_item (Bad place) = Damaged place

-- what a list at fault is refused with (a list that was read has no fault: nothing asks for its case)
abbrev pub list_fault : {A : Type 0} → Item ListFault A → Told
list_fault (got a next) = refused LIST next
list_fault (stopped what place) = refused (refusal_of what) place

-- ---- Pairs in entries and areas: the terms of pair j are in part j of ws and cs.

abbrev pub pair_at : Entry → List ℕ → List ℤ → ℕ → Pair
pair_at e ws cs j = pair e.variable (first_terms e.terms (part j ws) (part j cs))

-- the pairs of the entries, from part j on
unfoldable pub pairs_from : ℕ → List Entry → List ℕ → List ℤ → List Pair
pairs_from j [] ws cs = []
pairs_from j (e ∷ es) ws cs = pair_at e ws cs j ∷ pairs_from (suc j) es ws cs

-- pair j is kept: its variable is one of a to h, and its sum is accepted
pub record KeptAt (e : Entry) (ws : List ℕ) (cs : List ℤ) (j : ℕ) : Type 0 where
  pub known : e.variable < variables
  pub few : e.terms ≤ most_terms
  pub sum : HeldSum (take e.terms (part j ws)) (take e.terms (part j cs))

unfoldable pub Kept : ℕ → List Entry → List ℕ → List ℤ → Type 0
Kept j [] ws cs = Unit {0}
Kept j (e ∷ es) ws cs = KeptAt e ws cs j × Kept (suc j) es ws cs

-- if a list was read, its pairs are kept
pub record KeepsRead (read : Item ListFault (List Pair)) (es : List Entry) (ws : List ℕ) (cs : List ℤ) : Type 0 where
  pub kept : (ps : List Pair) (next : ℕ) → read ≡ got ps next → Kept 0 (take (length ps) es) ws cs
  pub pairs_are : (ps : List Pair) (next : ℕ) → read ≡ got ps next → pairs_from 0 (take (length ps) es) ws cs ≡ ps

-- what a reader of pairs answers and leaves in the entries and in two areas, where it read so; the areas stay past the places for work
pub record Leaves (read : Item ListFault (List Pair)) (answer : Item ListFault ℕ) (ws₀ : List ℕ) (cs₀ : List ℤ) (es : List Entry) (ws : List ℕ) (cs : List ℤ) : Type 0 where
  pub says : answer ≡ mapped length read
  pub keeps : KeepsRead read es ws cs
  pub words_stay : drop work_places ws ≡ drop work_places ws₀
  pub coefficients_stay : drop work_places cs ≡ drop work_places cs₀

-- what applying the pairs to a sum of n terms, in fp and fc, asks
pub record CanApply (es : List Entry) (ws : List ℕ) (cs : List ℤ) (fp : List ℕ) (fc : List ℤ) (n : ℕ) : Type 0 where
  pub inside : length es ≤ variables
  pub words_room : work_places ≤ length ws
  pub coefficients_room : work_places ≤ length cs
  pub kept : Kept 0 es ws cs
  pub few : n ≤ most_terms
  pub sum : HeldSum (take n fp) (take n fc)

-- ---- What is judged good.

-- its number of terms
abbrev pub terms_told : Judged Sum → Told
terms_told (good s) = done (length s)
terms_told (fails refusal place) = refused refusal place

-- that is answered, and two areas hold its terms in their first places
pub record HoldsGood (checked : Judged Sum) (answer : Told) (ws : List ℕ) (cs : List ℤ) : Type 0 where
  pub says : answer ≡ terms_told checked
  pub words_are : (s : Sum) → checked ≡ good s → take (length s) ws ≡ words_of s
  pub coefficients_are : (s : Sum) → checked ≡ good s → take (length s) cs ≡ coefficients_of s
