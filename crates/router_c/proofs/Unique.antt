-- The exported function's contract leaves one outcome, as its caller sees it: the host's number, and every place of the lent area.
use mathlib.Core.Path.{ap}
use mathlib.Core.List.{List}
use Prim.Native.Nat.{ℕ}
use Rattle.answers.proofs.Outcomes.{same}
use Rattle.answers.specs.Promised.{OneLent}
use Rattle.router_c.proofs.reeveboom_estimate.Reads as reeveboom-estimate

pub reeveboom-estimate-one : OneLent reeveboom-estimate.Learnt (λ k e. e.1.1.1.0.now)
reeveboom-estimate-one k a r r' e e' h h' =
    let both = same h h' in
    (ap (λ (p : ℕ × List ℕ). p.0) both, ap (λ (p : ℕ × List ℕ). p.1) both)
