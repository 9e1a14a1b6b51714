-- What is known of a result whose error was turned into another.
use Rattle.std.proofs.Common.{◌≡◌, refl, ap, ℕ, Result, Ok, Err, arith}
use Rattle.std.specs.Result.{MatchResult, IsErrAnd}
use Rattle.std.proofs.lemmas.Result.{err_from_is_err_and}

-- P says which errors `map_err` makes of which
abbrev pub MapsErr : {T E D : Type 0} → (E → D → Type 0) → Result T E → Result T D → Type 0
MapsErr P r r' = MatchResult r (λ x. r' ≡ Ok x) (λ e. IsErrAnd r' (P e))

pub was-ok : {T E D : Type 0} (P : E → D → Type 0) (r : Result T E) (r' : Result T D) {x : T} → MapsErr P r r' → r' ≡ Ok x → r ≡ Ok x
was-ok P (Ok y) r' {x} m is = let z : y ≡ x = cc in ap (λ (v : _). Ok v) z
was-ok P (Err e) r' m is = let p = err_from_is_err_and r' m in let first = p.1 in let z : ◌≡◌ {A = ℕ} 0 1 = cc in absurd (omega arith)

pub was-err : {T E D : Type 0} (P : E → D → Type 0) (r : Result T E) (r' : Result T D) {d : D} → MapsErr P r r' → r' ≡ Err d → (e : E) × (r ≡ Err e) × P e d
was-err P (Ok y) r' m is = let z : ◌≡◌ {A = ℕ} 0 1 = cc in absurd (omega arith)
was-err P (Err e) r' {d} m is = let p = err_from_is_err_and r' m in let first = p.1 in let z : p.0 ≡ d = cc in (e, refl, rw z at p.2)
