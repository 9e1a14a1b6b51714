-- An area that is written from the back: before place k it is as it was, the values stand from there to place m, and the rest is as it was.
use mathlib.Core.Path.{◌≡◌, refl, sym, ◌∙◌, ap}
use mathlib.Core.List.{List, [], ◌∷◌, ◌++◌}
use Prim.Native.Nat.{ℕ, suc, ◌+◌, ◌-◌, ◌≤◌, ◌<◌}
use native.Mathlib.Omega.{arith}
use lib.ListN.{length, get_or, take, drop, set, length-set, take-append-drop, get_or-append}
use lib.Seq.{length-take-le, take-suc, take-take, take-append-le, get_or-take, append_snoc, set_at, take_at, drop_at}

pub record Backwards {A : Type 0} (area₀ : List A) (m : ℕ) (area : List A) (k : ℕ) (values : List A) : Type 0 where
  pub so_far : area ≡ take k area₀ ++ (values ++ drop m area₀)
  pub place : k + length values ≡ m
  pub room : m ≤ length area₀
  pub same : length area ≡ length area₀

pub start : {A : Type 0} (area : List A) (m : ℕ) → m ≤ length area → Backwards area m area m []
start area m room = record { so_far = sym (take-append-drop m area); place = omega arith; room = room; same = refl }

module _ {A : Type 0} {area₀ : List A} {m : ℕ} {area : List A} {k : ℕ} {values : List A} (b : Backwards area₀ m area k values) where
  front : length (take k area₀) ≡ k
  front = length-take-le k area₀ (omega (arith, b.place, b.room))

  -- the next value goes before the others
  pub again : 0 < k → (v : A) {w : A} → w ≡ v → Backwards area₀ m (set area (k - 1) w) (k - 1) (v ∷ values)
  again some v {w} is =
      let one : suc (k - 1) ≡ k = omega arith in
      let rest = values ++ drop m area₀ in
      let less = length-take-le (k - 1) area₀ (omega (arith, b.place, b.room)) in
      record {
        so_far =
            ap (λ (l : List A). set l (k - 1) w)
            (b.so_far ∙ ap (λ (i : ℕ). take i area₀ ++ rest) (sym one) ∙ ap (λ (l : List A). l ++ rest) (take-suc area₀ (k - 1) v (omega (arith, b.place, b.room)))
            ∙ append_snoc (take (k - 1) area₀) (get_or area₀ (k - 1) v) rest)
            ∙ set_at (take (k - 1) area₀) (get_or area₀ (k - 1) v) rest w (k - 1) less
            ∙ ap (λ (x : A). take (k - 1) area₀ ++ (x ∷ rest)) is;
        place = omega (arith, b.place);
        room = b.room;
        same = length-set area (k - 1) w ∙ b.same;
      }

  pub kept : (i : ℕ) (d : A) → i < k → get_or area i d ≡ get_or area₀ i d
  kept i d h =
      ap (λ (l : List A). get_or l i d) b.so_far ∙ get_or-append (take k area₀) (values ++ drop m area₀) d i (omega (arith, front)) ∙ get_or-take k area₀ i d h

  pub front_kept : (i : ℕ) → i ≤ k → take i area ≡ take i area₀
  front_kept i h = ap (take i) b.so_far ∙ take-append-le i (take k area₀) (values ++ drop m area₀) (omega (arith, front)) ∙ take-take i k area₀ h

  -- the values stand from place k on
  pub behind : take (m - k) (drop k area) ≡ values
  behind =
      ap (λ (l : List A). take (m - k) (drop k l)) b.so_far
      ∙ ap (take (m - k)) (drop_at (take k area₀) (values ++ drop m area₀) k front)
      ∙ take_at values (drop m area₀) (m - k) (omega (arith, b.place))
