-- What `take_each` and `take` leave in the caller's own arrays: the terms that were read, or zeros.
use mathlib.Core.Path.{◌≡◌, refl, sym, ◌∙◌, ap, ap₂}
use mathlib.Core.List.{List, [], ◌∷◌}
use Prim.Native.Nat.{ℕ, ◌≤◌}
use native.Mathlib.Omega.{arith}
use lib.IntN.{ℤ, pos}
use lib.ListN.{length, take, length-take, length-map, replicate, length-replicate}
use lib.Seq.{length-take-le}
use Rattle.algebra.specs.Limits.{variables}
use Rattle.algebra.specs.Sum.{Sum}
use Rattle.algebra.specs.Word.{word}
use Rattle.algebra.specs.Held.{words_of, coefficients_of, first_terms}
use Rattle.algebra.proofs.Patterns.Laws.{filled-all}
use Rattle.algebra.proofs.Sums.Every.{Every, Long}
use Rattle.answers.specs.Areas.{written, cleared}
use Rattle.answers.proofs.Writes.{written_over}
use Rattle.numbers.specs.Item.{Item, Item.got, Item.stopped, mapped, Fault}
use Rattle.numbers.specs.Inside.Read.{Reading, item_of}
use Rattle.std.specs.Prelude.{Option, None, Ok, Err}
use Rattle.std.specs.Result.{is_err}
use mathlib.Core.Bool.{true, false}
use Rattle.numbers.specs.declared.Fault as declared
use Rattle.numbers.proofs.Items.{Alike, Alike.both, fault-met, came_from}
use Rattle.packed.specs.ReadSum.{read_terms}
use Rattle.packed.specs.Pack.{good_terms}
use Rattle.packed.specs.Inside.Arrays.{words_for, Holds, taken_into, Copies, Takes}
use Rattle.packed.proofs.Good.{each-valid, good-most, terms-good}
use Rattle.packed.proofs.TakeSum.{terms-many}
use Rattle.packed.proofs.Front.{front_length, front-words, front-coefficients}

-- ---- Places that were written before are forgotten.

module _ {A : Type 0} (count : ℕ) (area₀ : List A) {area : List A} (kept : area ≡ written (take count area) area₀) where
  over-kept : (values : List A) → length values ≡ count → written values area ≡ written values area₀
  over-kept values many = ap (written values) kept ∙ written_over values (take count area) area₀ (omega (arith, many, length-take count area))

  cleared-kept : (zero : A) → cleared zero count area ≡ cleared zero count area₀
  cleared-kept zero = over-kept (replicate count zero) (length-replicate count zero)

-- ---- `take_each`.

words-for : (s : Sum) → Every (Long variables) s → words_for s ≡ words_of s
words-for [] long = refl
words-for (t ∷ s) long = ap₂ (λ (w : ℕ) (ws : List ℕ). w ∷ ws) (ap word (filled-all variables t.pattern long.0)) (words-for s long.1)

module _ (count : ℕ) {ws₀ : List ℕ} {cs₀ : List ℤ} {ws : List ℕ} {cs : List ℤ} where
  pub each-stops : {x : Item Fault ℕ} {all : Item Fault Sum} {ws' : List ℕ} {cs' : List ℤ} → Alike x all → Holds count all ws₀ cs₀ ws cs → ws' ≡ cleared 0 count ws → cs' ≡ cleared (pos 0) count cs
      → (x, ws', cs') ≡ taken_into count all ws₀ cs₀
  unfolding taken_into
  each-stops both held words coefficients = rw (words ∙ cleared-kept count ws₀ held.words_kept 0, coefficients ∙ cleared-kept count cs₀ held.coefficients_kept (pos 0))

  -- every pattern that was read has all its exponents
  pub each-taken : {n next : ℕ} (all : Item Fault Sum) → got n next ≡ mapped length all → Holds count all ws₀ cs₀ ws cs
      → ((s : Sum) (end : ℕ) → all ≡ got s end → Every (Long variables) s) → (got n next, ws, cs) ≡ taken_into count all ws₀ cs₀
  unfolding taken_into
  each-taken {n} {next} all e held long =
      let from = came_from length all n next (sym e) in
      let first : got n next ≡ got (length from.value) next = ap (λ (k : ℕ). got k next) (sym from.shown) in
      let words = held.words_are from.value next from.is ∙ ap (λ l. written l ws₀) (words-for from.value (long from.value next from.is)) in
      let coefficients = held.coefficients_are from.value next from.is in
      (λ i. (first i, words i, coefficients i)) ∙ ap (λ item. taken_into count item ws₀ cs₀) (sym from.is)

  -- by whether the code's answer is a fault
  pub each-ok : (r : Reading) (all : Item Fault Sum) → is_err r ≡ false → item_of r ≡ mapped length all → Holds count all ws₀ cs₀ ws cs
      → ((s : Sum) (end : ℕ) → all ≡ got s end → Every (Long variables) s) → (item_of r, ws, cs) ≡ taken_into count all ws₀ cs₀
  each-ok (Ok (n, next)) all ok e held long = each-taken all e held long
  each-ok (Err f) all ok e held long = let z : ◌≡◌ {A = ℕ} 0 1 = cc in absurd (omega arith)

  pub each-err : (r : Reading) (all : Item Fault Sum) {ws' : List ℕ} {cs' : List ℤ} → is_err r ≡ true → item_of r ≡ mapped length all → Holds count all ws₀ cs₀ ws cs
      → ws' ≡ cleared 0 count ws → cs' ≡ cleared (pos 0) count cs → (item_of r, ws', cs') ≡ taken_into count all ws₀ cs₀
  each-err (Ok item) all err e held words coefficients = let z : ◌≡◌ {A = ℕ} 0 1 = cc in absurd (omega arith)
  each-err (Err f) all err e held words coefficients = each-stops (fault-met f length all e) held words coefficients

-- ---- `take`.

-- what was copied before is forgotten
taken-over : (count : ℕ) (all : Item Fault Sum) (ws₀ : List ℕ) (cs₀ : List ℤ) {ws : List ℕ} {cs : List ℤ} → ((s : Sum) (next : ℕ) → all ≡ got s next → length s ≡ count)
    → ws ≡ written (take count ws) ws₀ → cs ≡ written (take count cs) cs₀ → taken_into count all ws cs ≡ taken_into count all ws₀ cs₀
unfolding taken_into
taken-over count (got s next) ws₀ cs₀ many words coefficients =
    rw (over-kept count ws₀ words (words_of s) (length-map s _ ∙ many s next refl), over-kept count cs₀ coefficients (coefficients_of s) (length-map s _ ∙ many s next refl))
taken-over count (stopped what place) ws₀ cs₀ many words coefficients = rw (cleared-kept count ws₀ words 0, cleared-kept count cs₀ coefficients (pos 0))

-- what is read item by item is the same, whatever was taken before
pub taken-again : {count : ℕ} {s : List ℕ} {at : ℕ} {taken : Option ℕ} {ws₀ : List ℕ} {cs₀ : List ℤ} {ws : List ℕ} {cs : List ℤ} → Takes count s at taken ws₀ cs₀ ws cs
    → taken_into count (read_terms variables count [] s at) ws cs ≡ taken_into count (read_terms variables count [] s at) ws₀ cs₀
taken-again {count} {s} {at} {ws₀ = ws₀} {cs₀ = cs₀} t =
    taken-over count (read_terms variables count [] s at) ws₀ cs₀ (λ sum next e. terms-many variables count [] sum s at next e) t.words_kept t.coefficients_kept

-- so the answer of `take_each` is about the arrays as they were before
pub each-after : {count : ℕ} {s : List ℕ} {at : ℕ} {taken : Option ℕ} {ws₀ : List ℕ} {cs₀ : List ℤ} {ws : List ℕ} {cs : List ℤ} → Takes count s at taken ws₀ cs₀ ws cs
    → {r r' : Reading} {ws' : List ℕ} {cs' : List ℤ} → r ≡ r' → (item_of r, ws', cs') ≡ taken_into count (read_terms variables count [] s at) ws cs
    → (item_of r', ws', cs') ≡ taken_into count (read_terms variables count [] s at) ws₀ cs₀
each-after t {ws' = ws'} {cs' = cs'} is e = sym (ap (λ r. (item_of r, ws', cs')) is) ∙ e ∙ taken-again t

-- ---- `take_good`.

module _ {count : ℕ} {s : List ℕ} {at : ℕ} {copied : Option ℕ} {ws₀ : List ℕ} {cs₀ : List ℤ} {ws : List ℕ} {cs : List ℤ} (copies : Copies count s at copied ws₀ cs₀ ws cs) where
  pub not_good : Takes count s at None ws₀ cs₀ ws cs
  not_good = record { words_kept = copies.words_kept; coefficients_kept = copies.coefficients_kept; are = λ end is. let z : ◌≡◌ {A = ℕ} 0 1 = cc in absurd (omega arith) }

  -- all terms that were copied are good
  pub all_good : count ≤ length ws → count ≤ length cs → count ≤ good_terms [] (take count ws) (take count cs) → Takes count s at copied ws₀ cs₀ ws cs
  unfolding taken_into
  all_good words coefficients good = record {
    words_kept = copies.words_kept;
    coefficients_kept = copies.coefficients_kept;
    are = λ end is.
        let long = length-take-le count ws words in
        let every : good_terms [] (take count ws) (take count cs) ≡ count = omega (arith, good-most [] (take count ws) (take count cs)) in
        let valid = each-valid (take count ws) (terms-good [] (take count ws) (take count cs) (every ∙ sym long)).0 in
        let sum = first_terms count ws cs in
        let first : got count end ≡ got (length sum) end = ap (λ (k : ℕ). got k end) (sym (front_length count ws cs words coefficients)) in
        let words_are : ws ≡ written (words_of sum) ws₀ = copies.words_kept ∙ ap (λ l. written l ws₀) (sym (front-words count ws cs words coefficients valid)) in
        let coefficients_are : cs ≡ written (coefficients_of sum) cs₀ = copies.coefficients_kept ∙ ap (λ l. written l cs₀) (sym (front-coefficients count ws cs words coefficients)) in
        (λ i. (first i, words_are i, coefficients_are i)) ∙ ap (λ item. taken_into count item ws₀ cs₀) (sym (copies.are end is every));
  }

-- ---- What a caller of `take` knows.

-- the areas hold the sum that was read
pub record ReadAt (item : Item Fault Sum) (ws : List ℕ) (cs : List ℤ) (ws' : List ℕ) (cs' : List ℤ) (count end : ℕ) : Type 0 where
  pub sum : Sum
  pub read : item ≡ got sum end
  pub many : length sum ≡ count
  pub words_are : ws' ≡ written (words_of sum) ws
  pub coefficients_are : cs' ≡ written (coefficients_of sum) cs

counted : (count : ℕ) (item : Item Fault Sum) (ws : List ℕ) (cs : List ℤ) → (taken_into count item ws cs).0 ≡ mapped length item
unfolding taken_into mapped
counted count (got s next) ws cs = refl
counted count (stopped what place) ws cs = refl

module _ (count : ℕ) (item : Item Fault Sum) (ws : List ℕ) (cs : List ℤ) {ws' : List ℕ} {cs' : List ℤ} where
  pub taken-stopped : (f : declared.Fault) → (item_of (Err f), ws', cs') ≡ taken_into count item ws cs → Alike (item_of (Err f)) item
  taken-stopped f e = fault-met f length item (ap (λ x. x.0) e ∙ counted count item ws cs)

  pub taken-read : {n end : ℕ} → (got n end, ws', cs') ≡ taken_into count item ws cs → ReadAt item ws cs ws' cs' n end
  unfolding taken_into
  taken-read {n} {end} e =
      let from = came_from length item n end (sym (ap (λ x. x.0) e ∙ counted count item ws cs)) in
      let held = e ∙ ap (λ i. taken_into count i ws cs) from.is in
      record { sum = from.value; read = from.is; many = from.shown; words_are = ap (λ x. x.1) held; coefficients_are = ap (λ x. x.2) held }

-- after a fault the arrays are cleared
pub taken-cleared : {x : Item Fault ℕ} (count : ℕ) {item : Item Fault Sum} (ws : List ℕ) (cs : List ℤ) {ws' : List ℕ} {cs' : List ℤ} → Alike x item → (x, ws', cs') ≡ taken_into count item ws cs
    → (ws' ≡ cleared 0 count ws) × (cs' ≡ cleared (pos 0) count cs)
unfolding taken_into
taken-cleared count ws cs both e = (ap (λ x. x.1) e, ap (λ x. x.2) e)
