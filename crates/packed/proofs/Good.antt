-- An accepted sum is one whose terms are each good after those before it.
use mathlib.Core.Path.{◌≡◌, refl}
use mathlib.Core.Bool.{Bool, true, false, not, cond, ◌&&◌}
use mathlib.Core.List.{List, [], ◌∷◌}
use Prim.Native.Nat.{ℕ, zero, suc, ◌+◌, ◌≤◌}
use native.Mathlib.Omega.{arith}
use lib.Dec.{T, leb, leb→le, le→leb}
use lib.IntN.{ℤ, nat_abs}
use lib.ListN.{length}
use Rattle.algebra.specs.Limits.{variables, largest_degree, most_terms, largest_weight}
use Rattle.algebra.specs.Pattern.{degree}
use Rattle.algebra.specs.Word.{exponents, terms_by, terms, is_valid, Valid, EachValid}
use Rattle.algebra.specs.Sum.{Term, term, Sum, is_zero, ahead, in_order, no_zero, weight}
use lib.Ieee.Fits.{and_i, and_l, and_r}
use lib.Ieee.Bits.{is_true}
use Rattle.algebra.proofs.Patterns.Word.{exponents-length, valid-test, test-valid}
use Rattle.algebra.proofs.Sums.Every.{Every, Long, UpTo, degree-every, every-degree}
use Rattle.algebra.proofs.Sums.Ordered.{Parts, parts, whole, order-cons, order-head, order-tail, full-head, full-tail}
use Rattle.algebra.specs.Accepted.{Accepted}
use Rattle.packed.specs.Judge.{weighs, follows}
use Rattle.packed.specs.Pack.{is_good, good_terms}

pub record Fit (n : ℕ) (before : Sum) (t : Term) : Type 0 where
  pub light : T (weighs (weight before) t.coefficient)
  pub low : degree t.pattern ≤ largest_degree
  pub after : T (follows before t.pattern)
  pub long : length t.pattern ≡ n

-- each term is fit after those before it
pub data Good (n : ℕ) : Sum → Sum → Type 0 where
  none : {before : Sum} → Good n before []
  more : {before : Sum} {t : Term} {s : Sum} → Fit n before t → Good n (t ∷ before) s → Good n before (t ∷ s)

-- ---- What `weighs` and `follows` say.

module _ (before : ℕ) (c : ℤ) where
  pub weighs-some : T (weighs before c) → T (not (is_zero c))
  unfolding weighs
  weighs-some h = and_l (not (is_zero c)) (leb (before + nat_abs c) largest_weight) h

  pub weighs-light : T (weighs before c) → before + nat_abs c ≤ largest_weight
  unfolding weighs
  weighs-light h = leb→le (before + nat_abs c) largest_weight (and_r (not (is_zero c)) (leb (before + nat_abs c) largest_weight) h)

  pub weighs_is : T (not (is_zero c)) → before + nat_abs c ≤ largest_weight → T (weighs before c)
  unfolding weighs
  weighs_is h k = and_i (not (is_zero c)) (leb (before + nat_abs c) largest_weight) h (le→leb (before + nat_abs c) largest_weight k)

-- the term before and the first of s stand in order
abbrev Leads : Sum → Sum → Type 0
Leads before [] = Unit {0}
Leads before (t ∷ s) = T (follows before t.pattern)

leads-ahead : (t : Term) (before s : Sum) → T (ahead t.pattern s) → Leads (t ∷ before) s
unfolding ahead follows
leads-ahead t before [] h = tt
leads-ahead t before (u ∷ s) h = h

ahead-leads : (n : ℕ) (t : Term) (before s : Sum) → Good n (t ∷ before) s → T (ahead t.pattern s)
unfolding ahead follows
ahead-leads n t before [] g = tt
ahead-leads n t before (u ∷ s) (more f g) = f.after

-- ---- Both ways.

accepted-from : (n : ℕ) (before s : Sum) → weight before + weight s ≤ largest_weight → Every (UpTo largest_degree) s → Every (Long n) s
    → T (no_zero s) → T (in_order s) → Leads before s → Good n before s
unfolding weight
accepted-from n before [] light low long full strict leads = none
accepted-from n before (t ∷ s) light low long full strict leads =
    more
    record {
      light = weighs_is (weight before) t.coefficient (full-head t s full) (omega arith);
      low = low.0;
      after = leads;
      long = long.0;
    }
    (accepted-from n (t ∷ before) s (omega arith) low.1 long.1 (full-tail t s full) (order-tail t s strict) (leads-ahead t before s (order-head t s strict)))

leads-first : (s : Sum) → Leads [] s
unfolding follows
leads-first [] = tt
leads-first (t ∷ s) = tt

pub accepted-good : (n : ℕ) (s : Sum) → Accepted n s → Good n [] s
unfolding weight
accepted-good n s a =
    let p = parts n s a.is_ordered in
    accepted-from n [] s (omega (arith, a.light)) (degree-every largest_degree s a.low) p.long p.full p.strict (leads-first s)

good-weight : (n : ℕ) (before s : Sum) → weight before ≤ largest_weight → Good n before s → weight before + weight s ≤ largest_weight
unfolding weight
good-weight n before [] h g = omega arith
good-weight n before (t ∷ s) h (more f g) =
    let b = weighs-light (weight before) t.coefficient f.light in
    omega (arith, good-weight n (t ∷ before) s (omega arith) g)

good-parts : (n : ℕ) (before s : Sum) → Good n before s → Parts n s
unfolding in_order no_zero
good-parts n before [] g = record { strict = tt; full = tt; long = tt }
good-parts n before (t ∷ s) (more f g) =
    let p = good-parts n (t ∷ before) s g in
    record {
      strict = order-cons t s (ahead-leads n t before s g) p.strict;
      full = and_i (not (is_zero t.coefficient)) (no_zero s) (weighs-some (weight before) t.coefficient f.light) p.full;
      long = (f.long, p.long);
    }

good-low : (n : ℕ) (before s : Sum) → Good n before s → Every (UpTo largest_degree) s
good-low n before [] g = tt
good-low n before (t ∷ s) (more f g) = (f.low, good-low n (t ∷ before) s g)

pub good-accepted : (n : ℕ) (s : Sum) → length s ≤ most_terms → Good n [] s → Accepted n s
unfolding weight
good-accepted n s few g = record {
  is_ordered = whole n s (good-parts n [] s g);
  light = let h = good-weight n [] s (omega arith) g in omega arith;
  low = every-degree largest_degree s (good-low n [] s g);
  few = few;
}

-- ---- Terms held in words and coefficients, by the count of good ones.

abbrev pub AllValid : List ℕ → Type 0
AllValid [] = Unit {0}
AllValid (w ∷ ws) = Valid w × AllValid ws

pub each-valid : (ws : List ℕ) → AllValid ws → EachValid ws
each-valid [] valid i h = absurd (omega arith)
each-valid (w ∷ ws) valid zero h = valid.0
each-valid (w ∷ ws) valid (suc i) h = each-valid ws valid.1 i (omega arith)

pub valid-each : (ws : List ℕ) → EachValid ws → AllValid ws
valid-each [] each = tt
valid-each (w ∷ ws) each = (each 0 (omega arith), valid-each ws (λ k h. each (suc k) (omega (arith, h))))

module _ (before : Sum) (w : ℕ) (c : ℤ) where
  pub fit-good : Valid w → Fit variables before (term c (exponents w)) → T (is_good before w c)
  unfolding is_good
  fit-good valid f =
      and_i (weighs (weight before) c && is_valid w) (follows before (exponents w)) (and_i (weighs (weight before) c) (is_valid w) f.light (valid-test w valid)) f.after

  pub good-fit : T (is_good before w c) → (Valid w) × (Fit variables before (term c (exponents w)))
  unfolding is_good
  good-fit h =
      let both = and_l (weighs (weight before) c && is_valid w) (follows before (exponents w)) h in
      let valid = test-valid w (and_r (weighs (weight before) c) (is_valid w) both) in (
        valid,
        record {
          light = and_l (weighs (weight before) c) (is_valid w) both;
          low = valid.low;
          after = and_r (weighs (weight before) c && is_valid w) (follows before (exponents w)) h;
          long = exponents-length w;
        },
      )

pub good-most : (before : Sum) (ws : List ℕ) (cs : List ℤ) → good_terms before ws cs ≤ length ws
unfolding good_terms
good-most before [] cs = omega arith
good-most before (w ∷ ws) [] = omega arith
good-most before (w ∷ ws) (c ∷ cs) = pick (is_good before w c) (good-most (term c (exponents w) ∷ before) ws cs)
  where
    pick : (b : Bool) {k : ℕ} → k ≤ length ws → cond b (suc k) 0 ≤ suc (length ws)
    pick true h = omega arith
    pick false h = omega arith

pub good-terms : (before : Sum) (ws : List ℕ) (cs : List ℤ) → AllValid ws → length ws ≡ length cs → Good variables before (terms ws cs) → good_terms before ws cs ≡ length ws
unfolding good_terms terms terms_by
good-terms before [] cs valid e g = refl
good-terms before (w ∷ ws) [] valid e g = absurd (omega arith)
good-terms before (w ∷ ws) (c ∷ cs) valid e (more f g) =
    rw (is_true (is_good before w c) (fit-good before w c valid.0 f), good-terms (term c (exponents w) ∷ before) ws cs valid.1 (omega arith) g)

pub terms-good : (before : Sum) (ws : List ℕ) (cs : List ℤ) → good_terms before ws cs ≡ length ws → (AllValid ws) × (Good variables before (terms ws cs))
unfolding good_terms terms terms_by
terms-good before [] cs e = (tt, none)
terms-good before (w ∷ ws) [] e = absurd (omega arith)
terms-good before (w ∷ ws) (c ∷ cs) e = pick (is_good before w c) refl e (terms-good (term c (exponents w) ∷ before) ws cs)
  where
    pick : (b : Bool) → is_good before w c ≡ b → cond b (suc (good_terms (term c (exponents w) ∷ before) ws cs)) 0 ≡ suc (length ws)
        → (good_terms (term c (exponents w) ∷ before) ws cs ≡ length ws → (AllValid ws) × (Good variables (term c (exponents w) ∷ before) (terms ws cs)))
        → (AllValid (w ∷ ws)) × (Good variables before (term c (exponents w) ∷ terms ws cs))
    pick true h e ih =
        let fit = good-fit before w c (rw h tt) in
        let rest = ih (omega arith) in
        ((fit.0, rest.0), more fit.1 rest.1)
    pick false h e ih = absurd (omega arith)
