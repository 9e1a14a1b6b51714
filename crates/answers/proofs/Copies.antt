-- What a loop keeps that copies values to the first places of an area: the first i are written.
use mathlib.Core.Path.{◌≡◌, refl, sym, ◌∙◌, ap}
use mathlib.Core.List.{List}
use Prim.Native.Nat.{ℕ, ◌+◌, ◌≤◌, ◌<◌}
use native.Mathlib.Omega.{arith}
use native.Mathlib.Numerals.{add-one}
use lib.ListN.{length, get_or, take, set, length-set}
use lib.Seq.{take-suc, length-take-le}
use Rattle.answers.specs.Areas.{written}
use Rattle.answers.proofs.Writes.{written_next}

pub record Copying {A : Type 0} (area₀ values : List A) (count : ℕ) (area : List A) (i : ℕ) : Type 0 where
  pub so_far : area ≡ written (take i values) area₀
  pub same : length area ≡ length area₀
  pub inside : i ≤ count
  pub room : count ≤ length area₀
  pub enough : count ≤ length values

pub start : {A : Type 0} (area values : List A) (count : ℕ) → count ≤ length area → count ≤ length values → Copying area values count area 0
start area values count room enough = record { so_far = refl; same = refl; inside = omega arith; room = room; enough = enough }

pub again : {A : Type 0} (d : A) (area₀ values : List A) (count : ℕ) (area : List A) (i : ℕ) → Copying area₀ values count area i → i < count
    → Copying area₀ values count (set area i (get_or values i d)) (i + 1)
again d area₀ values count area i c h =
    let v = get_or values i d in
    let first : length (take i values) ≡ i = length-take-le i values (omega (arith, c.enough)) in
    record {
      so_far =
          rw (add-one i)
          (ap (λ l. set l i v) c.so_far
          ∙ ap (λ (k : ℕ). set (written (take i values) area₀) k v) (sym first)
          ∙ written_next (take i values) area₀ v (omega (arith, first, c.room))
          ∙ ap (λ l. written l area₀) (sym (take-suc values i d (omega (arith, c.enough)))));
      same = length-set area i v ∙ c.same;
      inside = omega arith;
      room = c.room;
      enough = c.enough;
    }

pub ended : {A : Type 0} (area₀ values : List A) (count : ℕ) (area : List A) (i : ℕ) → Copying area₀ values count area i → count ≤ i
    → area ≡ written (take count values) area₀
ended area₀ values count area i c h =
    let at-end : i ≡ count = omega (arith, c.inside) in
    c.so_far ∙ ap (λ (k : ℕ). written (take k values) area₀) at-end
