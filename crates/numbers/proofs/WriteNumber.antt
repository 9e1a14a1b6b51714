-- What the writer's loop keeps: what is left to write is what `number_bytes` has left.
use mathlib.Core.Path.{◌≡◌, refl, sym, ap, ◌∙◌}
use mathlib.Core.List.{List}
use Prim.Native.Nat.{ℕ, zero, suc, ◌+◌, ◌*◌, ◌/◌, ◌%◌, ◌^◌, ◌≤◌, ◌<◌}
use native.Mathlib.Omega.{arith}
use native.Mathlib.Numerals.{add-one}
use lib.ListN.{length, set, length-set}
use lib.Seq.{sets}
use Rattle.numbers.specs.Number.{groups_of, number_bytes}
use Rattle.numbers.proofs.Groups.{groups-last, groups-next, groups-some}

pub record Writes (area₀ : List ℕ) (at n : ℕ) (area : List ℕ) (place left : ℕ) : Type 0 where
  pub more : ℕ
  pub stored : sets area₀ at (number_bytes n) ≡ sets area place (groups_of more left)
  pub ends : at + length (number_bytes n) ≡ place + length (groups_of more left)
  pub small : left < 2 * 128 ^ more
  pub room : place + length (groups_of more left) ≤ length area
  pub same : length area ≡ length area₀

pub start : (area : List ℕ) (at n : ℕ) → at + length (number_bytes n) ≤ length area → n < 2 ^ 64 → Writes area at n area at n
unfolding number_bytes
start area at n room fits = record { more = 9; stored = refl; ends = refl; small = fits; room = room; same = refl }

module _ {area₀ : List ℕ} {at n : ℕ} {area : List ℕ} {place left : ℕ} (w : Writes area₀ at n area place left) where
  pub inside : place < length area
  inside = omega (arith, w.room, groups-some w.more left)

  pub again : 128 ≤ left → Writes area₀ at n (set area place (128 + left % 128)) (place + 1) (left / 128)
  again high = go w.more w.stored w.ends w.small w.room
    where
      go : (more : ℕ) → sets area₀ at (number_bytes n) ≡ sets area place (groups_of more left)
          → at + length (number_bytes n) ≡ place + length (groups_of more left)
          → left < 2 * 128 ^ more → place + length (groups_of more left) ≤ length area
          → Writes area₀ at n (set area place (128 + left % 128)) (place + 1) (left / 128)
      go zero stored ends small room = absurd (omega arith)
      go (suc more) stored ends small room =
          let next = groups-next more left high in
          record {
            more = more;
            stored = stored ∙ rw (next, add-one);
            ends = ends ∙ rw next (omega arith);
            small = omega arith;
            room = omega (arith, rw next at room, length-set area place (128 + left % 128));
            same = length-set area place (128 + left % 128) ∙ w.same;
          }

  pub ended : left < 128 → (place + 1 ≡ at + length (number_bytes n)) × (set area place left ≡ sets area₀ at (number_bytes n))
  ended low =
      let last = groups-last w.more left low in
      (sym (w.ends ∙ ap (λ (l : List ℕ). place + length l) last), sym (w.stored ∙ ap (λ (l : List ℕ). sets area place l) last))
