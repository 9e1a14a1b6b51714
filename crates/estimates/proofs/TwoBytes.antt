-- The signed number of two bytes: std reads the one of the definition.
use mathlib.Core.Path.{◌≡◌, refl, sym, ◌∙◌, ap}
use mathlib.Core.List.{[], ◌∷◌}
use Prim.Native.Nat.{ℕ, suc, ◌-◌, ◌^◌, ◌<◌}
use native.Mathlib.Omega.{arith}
use native.Mathlib.Decide.{dec_lt}
use mir.Syntax.{w16}
use mir.Val.{to_z}
use mir.ValLaws.{to_z_pos, to_z-neg}
use Rattle.std.specs.Int.{from_le_bytes}
use Rattle.numbers.specs.Bytes.{plain_number, signed_number}
use Rattle.numbers.proofs.Complement.{lower, upper}

pub two-bytes : {low high : ℕ} → low < 256 → high < 256 → to_z w16 (from_le_bytes w16 (low ∷ high ∷ [])) ≡ signed_number (low ∷ high ∷ [])
unfolding plain_number
two-bytes {low} {high} l h = by_half (dec_lt n 32768)
  where
    n : ℕ
    n = from_le_bytes w16 (low ∷ high ∷ [])

    plain : plain_number (low ∷ high ∷ []) ≡ n
    plain = omega arith

    by_half : Dec (n < 32768) → to_z w16 n ≡ signed_number (low ∷ high ∷ [])
    by_half (yes half) = to_z_pos w16 n half ∙ sym (lower (low ∷ high ∷ []) {all = 65536} plain refl (omega arith))
    by_half (no half) =
        let less = 65536 - suc n in
        let back : n ≡ 2 ^ 16 - suc less = omega arith in
        ap (to_z w16) back ∙ to_z-neg w16 less (omega arith) ∙ sym (upper (low ∷ high ∷ []) {all = 65536} plain refl (omega arith) (omega arith))
