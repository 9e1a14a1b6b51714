-- Each exported function's contract leaves one outcome, as its caller sees it: the host's number, and every place of every lent area.
use mathlib.Core.Path.{◌≡◌, ap}
use mathlib.Core.List.{List}
use Prim.Native.Nat.{ℕ}
use lib.IntN.{ℤ}
use Rattle.answers.proofs.Outcomes.{same}
use Rattle.answers.specs.Promised.{OneLent}
use Rattle.packed.specs.Result.{WorkAreas}
use Rattle.host.proofs.reeveboom_text.Reads as text
use Rattle.host.proofs.reeveboom_simplify.Reads as simplify
use Rattle.host.proofs.reeveboom_unpack.Reads as unpack
use Rattle.host.proofs.reeveboom_pack.Reads as pack
use Rattle.host.proofs.reeveboom_slope.Reads as slope
use Rattle.host.proofs.reeveboom_substitute.Reads as substitute
use Rattle.host.proofs.reeveboom_estimate.Reads as estimate
use Rattle.host.proofs.reeveboom_write.Reads as write

-- two numbers with their areas are the same
pub number-one : {A : Type 0} {n n' : ℕ} {x x' : A} → ◌≡◌ {A = ℕ × A} (n, x) (n', x') → (n ≡ n') × (x ≡ x')
number-one {A} e = (ap (λ (p : ℕ × A). p.0) e, ap (λ (p : ℕ × A). p.1) e)

-- Refused when tried: no byte of the text is read.
pub reeveboom-text-one : OneLent text.Learnt (λ k e. e.1.0.now)
reeveboom-text-one k a r r' e e' h h' = number-one (same h h')

-- the result area is the second argument here, and the work areas come after it
-- Refused when tried: a refusal counts 65,536; no number of the table is read.
pub reeveboom-simplify-one : OneLent simplify.Learnt {L = WorkAreas} (λ k e. (e.1.1.0.now, e.1.1.1.0.now, e.1.0.now))
reeveboom-simplify-one k a r r' e e' h h' = number-one (same h h')

-- Refused when tried: a refusal counts 65,536; no byte of the sum is read.
pub reeveboom-unpack-one : OneLent unpack.Learnt {L = List ℕ × List ℤ} (λ k e. (e.1.0.now, e.1.1.0.now))
reeveboom-unpack-one k a r r' e e' h h' = number-one (same h h')

-- Refused when tried: a refusal counts 65,536; the count 1.
pub reeveboom-pack-one : OneLent pack.Learnt (λ k e. e.1.1.1.0.now)
reeveboom-pack-one k a r r' e e' h h' = number-one (same h h')

-- Refused when tried: a refusal counts 65,536; always by a.
pub reeveboom-slope-one : OneLent slope.Learnt (λ k e. e.1.1.0.now)
reeveboom-slope-one k a r r' e e' h h' = number-one (same h h')

-- Refused when tried: sum and list exchanged; the sum for the list too.
pub reeveboom-substitute-one : OneLent substitute.Learnt {L = WorkAreas} (λ k e. (e.1.1.1.0.now, e.1.1.1.1.0.now, e.1.1.0.now))
reeveboom-substitute-one k a r r' e e' h h' = number-one (same h h')

-- Refused when tried: a refusal counts 2^32.
pub reeveboom-estimate-one : OneLent estimate.Learnt (λ k e. e.1.1.1.0.now)
reeveboom-estimate-one k a r r' e e' h h' = number-one (same h h')

-- Refused when tried: a refusal counts 65,536; no byte of the sum is read.
pub reeveboom-write-one : OneLent write.Learnt (λ k e. e.1.0.now)
reeveboom-write-one k a r r' e e' h h' = number-one (same h h')
