-- A packed sum in two steps: its count, and then its terms.
use mathlib.Core.Path.{◌≡◌, refl, sym, ◌∙◌, ap, subst}
use mathlib.Core.Bool.{Bool, true, false}
use mathlib.Core.List.{List, [], ◌∷◌}
use Prim.Native.Nat.{ℕ, zero, suc, ◌≤◌, ◌<◌}
use native.Mathlib.Omega.{arith}
use lib.Dec.{leb, leb→le, le→leb}
use lib.ListN.{length}
use Rattle.algebra.specs.Limits.{most_terms}
use Rattle.algebra.specs.Sum.{Term, Sum}
use Rattle.algebra.proofs.Sums.Every.{Every, Long}
use Rattle.numbers.specs.Item.{Item, Item.got, Item.stopped, and_then, provided, Fault, Fault.bad}
use Rattle.numbers.specs.Number.{read_number}
use Rattle.numbers.proofs.Items.{then-got, then-then, provided-yes, provided-no, through, passed, came_from, got-value, carry, Alike, alike_then, alike_same}
use Rattle.packed.specs.ReadSum.{read_term, read_terms, read_sum, read_whole}
use Rattle.packed.specs.Inside.Held.{read_count, read_rest}
use Rattle.packed.proofs.Trip.{exponents-fit}

-- ---- The count.

pub count-stops : (s : List ℕ) (at : ℕ) {x : Item Fault ℕ} → Alike x (read_number s at) → x ≡ read_count s at
unfolding read_count
count-stops s at a = alike_same (alike_then _ a)

module _ (s : List ℕ) (at : ℕ) {count next : ℕ} (read : read_number s at ≡ got count next) where
  pub count-over : most_terms < count → stopped bad at ≡ read_count s at
  unfolding read_count
  count-over h = sym (then-got _ read ∙ provided-no bad at _ (leb count most_terms) (λ t. omega (arith, leb→le count most_terms t)))

  pub count-taken : count ≤ most_terms → got count next ≡ read_count s at
  unfolding read_count
  count-taken h = sym (then-got _ read ∙ provided-yes bad at _ (leb count most_terms) (le→leb count most_terms h))

-- ---- The terms after it.

split-count : (at : ℕ) (f : ℕ → ℕ → Item Fault Sum) (r : Item Fault ℕ)
    → and_then r (λ count next. provided (leb count most_terms) bad at (f count next)) ≡ and_then (and_then r (λ count next. provided (leb count most_terms) bad at (got count next))) f
unfolding and_then provided
split-count at f (got count next) = go (leb count most_terms)
  where
    go : (b : Bool) → provided b bad at (f count next) ≡ and_then (provided b bad at (got count next)) f
    go true = refl
    go false = refl
split-count at f (stopped what place) = refl

module _ (n : ℕ) (s : List ℕ) where
  pub sum-split : (at : ℕ) → read_sum n s at ≡ and_then (read_count s at) (λ count next. read_terms n count [] s next)
  unfolding read_sum read_count
  sum-split at = split-count at (λ count next. read_terms n count [] s next) (read_number s at)

  pub whole_split : read_whole n s ≡ and_then (read_count s 0) (λ count next. read_rest n count s next)
  unfolding read_whole read_rest
  whole_split =
      ap (λ r. and_then r (λ sum end. provided (leb (length s) end) bad end (got sum end))) (sum-split 0)
      ∙ then-then (read_count s 0) (λ count next. read_terms n count [] s next) (λ sum end. provided (leb (length s) end) bad end (got sum end))

  pub sum-terms : (at : ℕ) {count next : ℕ} → read_count s at ≡ got count next → read_sum n s at ≡ read_terms n count [] s next
  sum-terms at counted = sum-split at ∙ then-got _ counted

  pub whole-rest : {count next : ℕ} → read_count s 0 ≡ got count next → read_whole n s ≡ read_rest n count s next
  whole-rest counted = whole_split ∙ then-got _ counted

-- ---- How many terms.

pub terms-many : (n left : ℕ) (before sum : Sum) (s : List ℕ) (at end : ℕ) → read_terms n left before s at ≡ got sum end → length sum ≡ left
unfolding read_terms
terms-many n zero before sum s at end e = ap length (sym (got-value e))
terms-many n (suc left) before sum s at end e =
    let first = through _ _ _ _ e in
    let rest = came_from _ _ _ _ first.second in
    ap length (sym rest.shown) ∙ ap suc (terms-many n left (first.value ∷ before) rest.value s first.next end rest.is)

pub terms-all : (n left : ℕ) (before sum : Sum) (s : List ℕ) (at end : ℕ) → read_terms n left before s at ≡ got sum end → Every (Long n) sum
unfolding read_terms read_term
terms-all n zero before sum s at end e = subst (Every (Long n)) (got-value e) tt
terms-all n (suc left) before sum s at end e =
    let first = through _ _ _ _ e in
    let rest = came_from _ _ _ _ first.second in
    let coefficient = through _ _ _ _ first.first in
    let exponents = through _ _ _ _ coefficient.second in
    let judged = passed _ _ _ _ _ _ exponents.second in
    let long = (exponents-fit s n 0 exponents.value coefficient.next exponents.next (omega arith) exponents.first).0 in
    subst (Every (Long n)) rest.shown
    (subst (λ (t : Term). length t.pattern ≡ n) (got-value judged.1) long, terms-all n left (first.value ∷ before) rest.value s first.next end rest.is)

pub rest-many : (n count : ℕ) (sum : Sum) (s : List ℕ) (at end : ℕ) → read_rest n count s at ≡ got sum end → length sum ≡ count
unfolding read_rest
rest-many n count sum s at end e =
    let all = through _ _ _ _ e in
    let last = passed _ _ _ _ _ _ all.second in
    carry (λ (sum : Sum) (end : ℕ). length sum ≡ count) last.1 (terms-many n count [] all.value s at all.next all.first)
