-- What the loop of `close` keeps of an area: what stood before the gap and what stood after it up to place k stands in the first places, and from place k on the area is as it was.
use mathlib.Core.Path.{◌≡◌, refl, sym, ◌∙◌, ap}
use mathlib.Core.List.{List, [], ◌∷◌, ◌++◌, append_assoc, append-nil}
use Prim.Native.Nat.{ℕ, suc, ◌+◌, ◌-◌, ◌≤◌, ◌<◌}
use native.Mathlib.Omega.{arith}
use native.Mathlib.Numerals.{add-one}
use lib.IntN.{ℤ}
use lib.ListN.{length, get_or, take, drop, set, length-set, length-drop, length-append, length-map}
use lib.Seq.{length-take-le, take-add, take-suc, take-suc-set, drop-set-lt, get_or-drop}
use Rattle.algebra.specs.Sum.{Term, Sum}
use Rattle.algebra.specs.Word.{word}
use Rattle.sums.specs.Rows.{closed, Gapped, Stands}
use Rattle.sums.proofs.Parts.{drop-further}

pub record Closing {A : Type 0} (area₀ : List A) (from to end : ℕ) (area : List A) (i k : ℕ) : Type 0 where
  pub so_far : take i area ≡ closed from to k area₀
  pub rest : drop k area ≡ drop k area₀
  pub same : length area ≡ length area₀
  pub place : i + to ≡ from + k
  pub gap : from ≤ to
  pub begun : to ≤ k
  pub inside : k ≤ end
  pub room : end ≤ length area₀

pub start : {A : Type 0} (area : List A) {from to end : ℕ} → from ≤ to → to ≤ end → end ≤ length area → Closing area from to end area from to
start area {from} {to} gap inside room =
    let none : to - to ≡ 0 = omega arith in
    record {
      so_far = rw none (sym (append-nil (take from area)));
      rest = refl;
      same = refl;
      place = omega arith;
      gap = gap;
      begun = omega arith;
      inside = inside;
      room = room;
    }

module _ {A : Type 0} {area₀ : List A} {from to end : ℕ} {area : List A} {i k : ℕ} (c : Closing area₀ from to end area i k) where
  -- the next element is still where it was
  kept : (d : A) → get_or area k d ≡ get_or area₀ k d
  kept d =
      let none : k + 0 ≡ k = omega arith in
      rw none at (sym (get_or-drop k area 0 d) ∙ ap (λ l. get_or l 0 d) c.rest ∙ get_or-drop k area₀ 0 d)

  pub again : k < end → (d : A) {v : A} → v ≡ get_or area k d → Closing area₀ from to end (set area i v) (i + 1) (k + 1)
  again more d {v} is =
      let moved = take (k - to) (drop to area₀) in
      let one : k + 1 - to ≡ suc (k - to) = omega (arith, c.begun) in
      let there : to + (k - to) ≡ k = omega (arith, c.begun) in
      let next : take (k + 1 - to) (drop to area₀) ≡ moved ++ (v ∷ []) =
      ap (λ (n : ℕ). take n (drop to area₀)) one
      ∙ take-suc (drop to area₀) (k - to) d (omega (arith, length-drop to area₀, c.begun, c.room))
      ∙ ap (λ x. moved ++ (x ∷ [])) (get_or-drop to area₀ (k - to) d ∙ ap (λ (n : ℕ). get_or area₀ n d) there ∙ sym (is ∙ kept d))
      in
      record {
        so_far =
            ap (λ (n : ℕ). take n (set area i v)) (add-one i)
            ∙ take-suc-set area i v (omega (arith, c.place, c.gap, c.room, c.same))
            ∙ ap (λ l. l ++ (v ∷ [])) c.so_far
            ∙ append_assoc (take from area₀) moved (v ∷ [])
            ∙ ap (λ l. take from area₀ ++ l) (sym next);
        rest = drop-set-lt (k + 1) area i v (omega (arith, c.place, c.gap)) ∙ drop-further k (k + 1) area area₀ (omega arith) c.rest;
        same = length-set area i v ∙ c.same;
        place = omega (arith, c.place);
        gap = c.gap;
        begun = omega (arith, c.begun);
        inside = omega arith;
        room = c.room;
      }

  pub ended : end ≤ k → (i ≡ from + (end - to)) × (take i area ≡ closed from to end area₀)
  ended h =
      let at-end : k ≡ end = omega (arith, c.inside) in
      (omega (arith, c.place, c.begun), c.so_far ∙ ap (λ (n : ℕ). closed from to n area₀) at-end)

-- without a gap everything stands already
pub no_gap : {A : Type 0} (area : List A) {from to end : ℕ} → from ≡ to → to ≤ end → take end area ≡ closed from to end area
no_gap area {from} {to} {end} none inside =
    let all : to + (end - to) ≡ end = omega arith in
    ap (λ (n : ℕ). take n area) (sym all) ∙ take-add to (end - to) area ∙ ap (λ (n : ℕ). take n area ++ take (end - to) (drop to area)) (sym none)

-- a sum with a gap in it stands in the first places once the gap is closed
pub gap-closed : {s : Sum} {ws : List ℕ} {cs : List ℤ} {from to end : ℕ} → Gapped s ws cs from to end → end ≤ length ws → {n : ℕ} {ws' : List ℕ} {cs' : List ℤ} → n ≡ from + (end - to)
    → take n ws' ≡ closed from to end ws → take n cs' ≡ closed from to end cs → Stands s n ws' cs'
gap-closed {s} {ws} {from = from} {to} {end} g room is words coefficients =
    let after : end - to ≤ length (drop to ws) = omega (arith, length-drop to ws) in
    record {
      number_is = omega (
        arith,
        length-map s (λ (t : Term). word t.pattern),
        ap length g.words_are,
        length-append (take from ws) (take (end - to) (drop to ws)),
        length-take-le from ws (omega (arith, g.some, g.inside)),
        length-take-le (end - to) (drop to ws) after,
      );
      words_are = words ∙ g.words_are;
      coefficients_are = coefficients ∙ g.coefficients_are;
    }
