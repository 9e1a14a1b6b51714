-- One item read after another: forwards, where each item is known; backwards, from what all of them gave; and the places of the answers.
use mathlib.Core.Path.{◌≡◌, refl, sym, ◌∙◌, ap, subst}
use mathlib.Core.Bool.{Bool, true, false}
use Prim.Native.Nat.{ℕ, ◌≤◌}
use native.Mathlib.Omega.{arith}
use lib.Dec.{T}
use Rattle.numbers.specs.Item.{Item, Item.got, Item.stopped, and_then, provided, mapped, renamed, Fault, Fault.cut, Fault.bad}
use Rattle.std.specs.Prelude.{Result, Ok, Err, Some}
use Rattle.std.specs.Result.{result_ok}
use Rattle.numbers.specs.Inside.Read.{Reading, item_of, read_from}
use Rattle.numbers.specs.declared.Fault as declared
use Rattle.numbers.specs.declared.Fault.TheVariants.{Cut, Bad}

-- nothing is both
pub never : {F A : Type 0} {what : F} {place next : ℕ} {a : A} → stopped what place ≡ got a next → ⊥
never e = let z : ◌≡◌ {A = ℕ} 0 1 = cc in omega arith

-- ---- Forwards.

module _ {F A B : Type 0} (f : A → ℕ → Item F B) where
  pub then-got : {r : Item F A} {a : A} {next : ℕ} → r ≡ got a next → and_then r f ≡ f a next
  unfolding and_then
  then-got e = rw e

module _ {F A : Type 0} (what : F) (place : ℕ) (r : Item F A) where
  pub provided-yes : (b : Bool) → T b → provided b what place r ≡ r
  unfolding provided
  provided-yes true h = refl
  provided-yes false h = absurd h

  pub provided-no : (b : Bool) → (T b → ⊥) → provided b what place r ≡ stopped what place
  unfolding provided
  provided-no true h = absurd (h tt)
  provided-no false h = refl

module _ {F A B : Type 0} (f : A → B) where
  pub mapped-got : {r : Item F A} {a : A} {next : ℕ} → r ≡ got a next → mapped f r ≡ got (f a) next
  unfolding mapped
  mapped-got e = rw e

  pub mapped-mapped : {C : Type 0} (g : B → C) (r : Item F A) → mapped g (mapped f r) ≡ mapped (λ a. g (f a)) r
  unfolding mapped
  mapped-mapped g (got a next) = refl
  mapped-mapped g (stopped what place) = refl

pub mapped-id : {F A : Type 0} (r : Item F A) → mapped (λ a. a) r ≡ r
unfolding mapped
mapped-id (got a next) = refl
mapped-id (stopped what place) = refl

pub renamed-got : {F G A : Type 0} (g : F → G) {r : Item F A} {a : A} {next : ℕ} → r ≡ got a next → renamed g r ≡ got a next
unfolding renamed
renamed-got g e = rw e

pub then-then : {F A B C : Type 0} (r : Item F A) (f : A → ℕ → Item F B) (g : B → ℕ → Item F C) → and_then (and_then r f) g ≡ and_then r (λ a next. and_then (f a next) g)
unfolding and_then
then-then (got a next) f g = refl
then-then (stopped what place) f g = refl

-- ---- Backwards.

-- the value that went on from the first reading to the second
pub record Through {F A B : Type 0} (r : Item F A) (f : A → ℕ → Item F B) (b : B) (end : ℕ) : Type 0 where
  pub value : A
  pub next : ℕ
  pub first : r ≡ got value next
  pub second : f value next ≡ got b end

pub through : {F A B : Type 0} (r : Item F A) (f : A → ℕ → Item F B) (b : B) (end : ℕ) → and_then r f ≡ got b end → Through r f b end
unfolding and_then
through (got a next) f b end e = record { value = a; next = next; first = refl; second = e }
through (stopped what place) f b end e = absurd (never e)

pub passed : {F A : Type 0} (what : F) (b : Bool) (place : ℕ) (r : Item F A) (a : A) (next : ℕ) → provided b what place r ≡ got a next → (T b) × (r ≡ got a next)
unfolding provided
passed what true place r a next e = (tt, e)
passed what false place r a next e = absurd (never e)

pub got-value : {F A : Type 0} {a b : A} {m n : ℕ} → ◌≡◌ {A = Item F A} (got a m) (got b n) → a ≡ b
got-value e = cc

pub got-next : {F A : Type 0} {a b : A} {m n : ℕ} → ◌≡◌ {A = Item F A} (got a m) (got b n) → m ≡ n
got-next e = cc

-- what was read before f was taken of it
pub record From {F A B : Type 0} (f : A → B) (r : Item F A) (b : B) (end : ℕ) : Type 0 where
  pub value : A
  pub is : r ≡ got value end
  pub shown : f value ≡ b

pub came_from : {F A B : Type 0} (f : A → B) (r : Item F A) (b : B) (end : ℕ) → mapped f r ≡ got b end → From f r b end
unfolding mapped
came_from f (got a next) b end e = record { value = a; is = ap (got a) (got-next e); shown = got-value e }
came_from f (stopped what place) b end e = absurd (never e)

-- what holds of one answer holds of an equal one
pub carry : {F A : Type 0} (P : A → ℕ → Type 0) {a b : A} {m n : ℕ} → ◌≡◌ {A = Item F A} (got a m) (got b n) → P a m → P b n
carry P {a} {b} {m} {n} e h = subst (λ (k : ℕ). P b k) (got-next e) (subst (λ x. P x m) (got-value e) h)

-- what was read under other names of faults was read
pub renamed-from : {F G A : Type 0} (g : F → G) (r : Item F A) {a : A} {next : ℕ} → renamed g r ≡ got a next → r ≡ got a next
unfolding renamed
renamed-from g (got b m) e = let same : b ≡ _ = got-value e in let there : m ≡ _ = got-next e in rw (same, there) refl
renamed-from g (stopped what place) e = absurd (never e)

-- ---- Places.

-- the place that is answered: after what was read, or of the fault
abbrev pub place_of : {F A : Type 0} → Item F A → ℕ
place_of (got a next) = next
place_of (stopped what place) = place

pub end-place : {F A : Type 0} {r : Item F A} {a : A} {end most : ℕ} → place_of r ≤ most → r ≡ got a end → end ≤ most
end-place h e = rw e at h

pub place-then : {F A B : Type 0} (most : ℕ) (r : Item F A) (f : A → ℕ → Item F B) → place_of r ≤ most
    → ((a : A) (next : ℕ) → r ≡ got a next → place_of (f a next) ≤ most) → place_of (and_then r f) ≤ most
unfolding and_then
place-then most (got a next) f h k = k a next refl
place-then most (stopped what place) f h k = h

pub place-mapped : {F A B : Type 0} (most : ℕ) (f : A → B) (r : Item F A) → place_of r ≤ most → place_of (mapped f r) ≤ most
unfolding mapped
place-mapped most f (got a next) h = h
place-mapped most f (stopped what place) h = h

pub place-provided : {F A : Type 0} (what : F) (most : ℕ) (b : Bool) (place : ℕ) (r : Item F A) → place ≤ most → (T b → place_of r ≤ most) → place_of (provided b what place r) ≤ most
unfolding provided
place-provided what most true place r h k = k tt
place-provided what most false place r h k = h

pub place-renamed : {F G A : Type 0} (g : F → G) (r : Item F A) → place_of (renamed g r) ≡ place_of r
unfolding renamed
place-renamed g (got a next) = refl
place-renamed g (stopped what place) = refl

-- ---- Where a fault of one kind is, if it is met: all of it are at `end`. A cut is at the input's length.

abbrev pub FaultAt : {F A : Type 0} → F → ℕ → Item F A → Type 0
FaultAt what end item = (p : ℕ) → item ≡ stopped what p → p ≡ end

abbrev pub CutAt : {A : Type 0} → ℕ → Item Fault A → Type 0
CutAt end item = FaultAt cut end item

fault-place : {F A : Type 0} {what what' : F} {p q : ℕ} → ◌≡◌ {A = Item F A} (stopped what p) (stopped what' q) → p ≡ q
fault-place e = cc

fault-what : {F A : Type 0} {what what' : F} {p q : ℕ} → ◌≡◌ {A = Item F A} (stopped what p) (stopped what' q) → what ≡ what'
fault-what e = cc

module _ {F : Type 0} {what : F} (end : ℕ) where
  pub fault-then : {A B : Type 0} (r : Item F A) (f : A → ℕ → Item F B) → FaultAt what end r → ((a : A) (next : ℕ) → FaultAt what end (f a next)) → FaultAt what end (and_then r f)
  unfolding and_then
  fault-then (got a next) f h k p e = k a next p e
  fault-then (stopped other place) f h k p e = sym (fault-place e) ∙ h place (ap (λ (w : F). stopped w place) (fault-what e))

  pub fault-mapped : {A B : Type 0} (f : A → B) (r : Item F A) → FaultAt what end r → FaultAt what end (mapped f r)
  unfolding mapped
  fault-mapped f (got a next) h p e = absurd (never (sym e))
  fault-mapped f (stopped other place) h p e = sym (fault-place e) ∙ h place (ap (λ (w : F). stopped w place) (fault-what e))

  -- a test is for another fault
  pub fault-provided : {A : Type 0} {other : F} → (other ≡ what → ⊥) → (b : Bool) (place : ℕ) (r : Item F A) → FaultAt what end r → FaultAt what end (provided b other place r)
  unfolding provided
  fault-provided apart true place r h p e = h p e
  fault-provided apart false place r h p e = absurd (apart (fault-what e))

  pub fault-none : {A : Type 0} (a : A) (next : ℕ) → FaultAt what end (got a next)
  fault-none a next p e = absurd (never (sym e))

  -- under other names, if no two faults get the same one
  pub fault-renamed : {G A : Type 0} (g : F → G) → ((w : F) → g w ≡ g what → w ≡ what) → (r : Item F A) → FaultAt what end r → FaultAt (g what) end (renamed g r)
  unfolding renamed
  fault-renamed g one (got a next) h p e = absurd (never (sym e))
  fault-renamed g one (stopped other place) h p e = sym (fault-place e) ∙ h place (ap (λ (w : F). stopped w place) (one other (fault-what e)))

pub bad-cut : bad ≡ cut → ⊥
bad-cut e = let z : ◌≡◌ {A = ℕ} 0 1 = cc in omega arith

-- ---- Faults.

-- two readings have met the same fault
pub data Alike {F A B : Type 0} : Item F A → Item F B → Type 0 where
  both : {what : F} {place : ℕ} → Alike (stopped what place) (stopped what place)

module _ {F A B : Type 0} where
  pub alike_then : {C : Type 0} (f : B → ℕ → Item F C) {x : Item F A} {y : Item F B} → Alike x y → Alike x (and_then y f)
  unfolding and_then
  alike_then f both = both

  pub alike-mapped : {C : Type 0} (g : B → C) {x : Item F A} {y : Item F B} → Alike x y → Alike x (mapped g y)
  unfolding mapped
  alike-mapped g both = both

  pub alike-renamed : {G : Type 0} (g : F → G) {x : Item F A} {y : Item F B} → Alike x y → Alike (renamed g x) (renamed g y)
  unfolding renamed
  alike-renamed g both = both

  -- a test that fails
  pub alike-provided : (what : F) (place : ℕ) (r : Item F B) (b : Bool) → (T b → ⊥) → Alike {A = A} (stopped what place) (provided b what place r)
  alike-provided what place r b h = rw (provided-no what place r b h) both

pub alike_same : {F A : Type 0} {x y : Item F A} → Alike x y → x ≡ y
alike_same both = refl

pub alike-shown : {F A B : Type 0} (f : A → B) {x : Item F B} {y : Item F A} → Alike x y → x ≡ mapped f y
unfolding mapped
alike-shown f both = refl

-- ---- What the code answers.

-- a fault that was met is that of what is read
pub fault-met : {A : Type 0} (f : declared.Fault) (h : A → ℕ) (y : Item Fault A) → item_of (Err f) ≡ mapped h y → Alike (item_of (Err f)) y
unfolding mapped
fault-met (Cut place) h (got a next) e = absurd (never e)
fault-met (Bad place) h (got a next) e = absurd (never e)
fault-met f h (stopped what place) e = rw e both

pub number-fault : (f : declared.Fault) (y : Item Fault ℕ) → item_of (Err f) ≡ y → Alike (item_of (Err f)) y
number-fault f y e = fault-met f (λ n. n) y (e ∙ sym (mapped-id y))

-- an answer that is no value, without saying which fault it is
abbrev pub NoValue : Reading → Type 0
NoValue r = (v next : ℕ) → r ≡ Ok (v, next) → ⊥

-- has met the fault of what it answers
pub stop-met : {A : Type 0} (r : Reading) → NoValue r → (h : A → ℕ) (y : Item Fault A) → item_of r ≡ mapped h y → Alike (item_of r) y
stop-met (Ok (v, next)) k h y e = absurd (k v next refl)
stop-met (Err f) k h y e = fault-met f h y e

-- and one that is a value has it from there
pub answered : {A : Type 0} {v next : ℕ} (r : Reading) → r ≡ Ok (v, next) → (h : A → ℕ) (y : Item Fault A) → item_of r ≡ mapped h y → From h y v next
answered r is h y e = came_from h y _ _ (sym e ∙ ap item_of is)

-- what was read, where the answer is shown without its fault
pub ok-read : {v next : ℕ} {y : Item Fault ℕ} (r : Result ℕ declared.Fault) → Some v ≡ result_ok r → read_from r next ≡ y → y ≡ got v next
ok-read {v} {next} {y} (Ok u) is e = let same : u ≡ v = cc in sym e ∙ ap (λ (n : ℕ). got n next) same
ok-read (Err f) is e = let z : ◌≡◌ {A = ℕ} 0 1 = cc in absurd (omega arith)
