-- Each exported function's contract leaves one outcome, as its caller sees it: the host's number, and every place of every lent area.
use mathlib.Core.List.{List}
use Prim.Native.Nat.{ℕ}
use lib.IntN.{ℤ}
use Rattle.answers.proofs.Outcomes.{same}
use Rattle.answers.specs.Promised.{OneLent}
use Rattle.packed.specs.Result.{WorkAreas}
use Rattle.host.proofs.Unique.{number-one}
use Rattle.host_c.proofs.reeveboom_text.Reads as text
use Rattle.host_c.proofs.reeveboom_simplify.Reads as simplify
use Rattle.host_c.proofs.reeveboom_unpack.Reads as unpack
use Rattle.host_c.proofs.reeveboom_pack.Reads as pack
use Rattle.host_c.proofs.reeveboom_slope.Reads as slope
use Rattle.host_c.proofs.reeveboom_substitute.Reads as substitute
use Rattle.host_c.proofs.reeveboom_estimate.Reads as estimate
use Rattle.host_c.proofs.reeveboom_write.Reads as write

pub reeveboom-text-one : OneLent text.Learnt (λ k e. e.1.0.now)
reeveboom-text-one k a r r' e e' h h' = number-one (same h h')

-- the result area is the second argument here, and the work areas come after it
pub reeveboom-simplify-one : OneLent simplify.Learnt {L = WorkAreas} (λ k e. (e.1.1.0.now, e.1.1.1.0.now, e.1.0.now))
reeveboom-simplify-one k a r r' e e' h h' = number-one (same h h')

pub reeveboom-unpack-one : OneLent unpack.Learnt {L = List ℕ × List ℤ} (λ k e. (e.1.0.now, e.1.1.0.now))
reeveboom-unpack-one k a r r' e e' h h' = number-one (same h h')

pub reeveboom-pack-one : OneLent pack.Learnt (λ k e. e.1.1.1.0.now)
reeveboom-pack-one k a r r' e e' h h' = number-one (same h h')

pub reeveboom-slope-one : OneLent slope.Learnt (λ k e. e.1.1.0.now)
reeveboom-slope-one k a r r' e e' h h' = number-one (same h h')

pub reeveboom-substitute-one : OneLent substitute.Learnt {L = WorkAreas} (λ k e. (e.1.1.1.0.now, e.1.1.1.1.0.now, e.1.1.0.now))
reeveboom-substitute-one k a r r' e e' h h' = number-one (same h h')

pub reeveboom-estimate-one : OneLent estimate.Learnt (λ k e. e.1.1.1.0.now)
reeveboom-estimate-one k a r r' e e' h h' = number-one (same h h')

pub reeveboom-write-one : OneLent write.Learnt (λ k e. e.1.0.now)
reeveboom-write-one k a r r' e e' h h' = number-one (same h h')
