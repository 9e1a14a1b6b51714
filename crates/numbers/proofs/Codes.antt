-- Codes of signed numbers: one for each number, of about twice its size.
use mathlib.Core.Path.{◌≡◌, ap, ◌∙◌}
use Prim.Native.Nat.{ℕ, suc, ◌-◌, ◌*◌, ◌/◌, ◌%◌, ◌^◌, ◌≤◌, ◌<◌}
use native.Mathlib.Omega.{arith}
use native.Mathlib.Decide.{ℕ_discrete}
use lib.IntN.{ℤ, pos, negsuc, nat_abs}
use borrow.Author.Tests.{eq-eqb, ne_eqb}
use mir.Syntax.{w64}
use mir.Val.{SFits}
use Rattle.numbers.specs.Code.{code, decode}

-- ---- By the code: even or odd.

pub decode-even : (c : ℕ) → c % 2 ≡ 0 → decode c ≡ pos (c / 2)
unfolding decode
decode-even c h = rw (eq-eqb (c % 2) 0 h)

pub decode-odd : (c : ℕ) → (c % 2 ≡ 0 → ⊥) → decode c ≡ negsuc (c / 2)
unfolding decode
decode-odd c h = rw (ne_eqb (c % 2) 0 h)

by-parity : (P : ℤ → Type 0) (c : ℕ) → (c % 2 ≡ 0 → P (pos (c / 2))) → ((c % 2 ≡ 0 → ⊥) → P (negsuc (c / 2))) → P (decode c)
by-parity P c even odd = go (ℕ_discrete (c % 2) 0)
  where
    go : Dec (c % 2 ≡ 0) → P (decode c)
    go (yes h) = rw (decode-even c h) (even h)
    go (no h) = rw (decode-odd c h) (odd h)

pub code-decode : (c : ℕ) → code (decode c) ≡ c
unfolding code
code-decode c = by-parity (λ z. code z ≡ c) c (λ h. omega arith) (λ h. omega arith)

pub decode-fits : (c : ℕ) → c < 2 ^ 64 → SFits w64 (decode c)
decode-fits c fits = by-parity (SFits w64) c (λ h. record { sfits = omega arith }) (λ h. record { sfits = omega arith })

-- ---- By the number: its sign.

pub decode-code : (z : ℤ) → decode (code z) ≡ z
unfolding code
decode-code (pos n) = decode-even (2 * n) (omega arith) ∙ ap pos (omega arith)
decode-code (negsuc k) = decode-odd (2 * suc k - 1) (λ h. omega arith) ∙ ap negsuc (omega arith)

pub code-size : (z : ℤ) → code z ≤ 2 * nat_abs z
unfolding code
code-size (pos n) = omega arith
code-size (negsuc k) = omega arith

pub code_fits : (z : ℤ) → SFits w64 z → code z < 2 ^ 64
unfolding code
code_fits (pos n) fits = omega (arith, fits.sfits)
code_fits (negsuc k) fits = omega (arith, fits.sfits)
