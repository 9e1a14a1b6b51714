-- Each public function's contract leaves one outcome, as its caller sees it: the answer, and every place of both areas that it lent.
use mathlib.Core.Path.{◌≡◌, refl, sym, ◌∙◌, ap, ap₂}
use mathlib.Core.List.{List}
use Prim.Native.Nat.{ℕ}
use lib.IntN.{ℤ}
use Rattle.std.specs.Prelude.{Option, Some, None}
use Rattle.answers.proofs.Outcomes.{same}
use Rattle.answers.specs.Promised.{One, OneLent}
use Rattle.sums.specs.Formed.{Formed, Formed.formed, Formed.over, formed_of}
use Rattle.sums.specs.declared.Size.{Size}
use Rattle.sums.proofs.size_of.Reads as size_of
use Rattle.sums.proofs.integer.Reads as integer
use Rattle.sums.proofs.variable.Reads as variable
use Rattle.sums.proofs.sum.Reads as sum
use Rattle.sums.proofs.multiply_by_term.Reads as multiply-by-term
use Rattle.sums.proofs.product.Reads as product
use Rattle.sums.proofs.power.Reads as power
use Rattle.sums.proofs.rows.add_row.Reads as add_row
use Rattle.sums.proofs.rows.begin.Reads as begin
use Rattle.sums.proofs.rows.add_product.Reads as add-product
use Rattle.sums.proofs.rows.finish.Reads as finish

-- ---- Different answers tell different things.

answer_of : Formed ℕ → Option ℕ
answer_of (formed n) = Some n
answer_of over = None

answer-of : (r : Option ℕ) → answer_of (formed_of r) ≡ r
unfolding answer_of
answer-of (Some n) = refl
answer-of None = refl

pub formed-one : (r r' : Option ℕ) → formed_of r ≡ formed_of r' → r ≡ r'
formed-one r r' h = sym (answer-of r) ∙ ap answer_of h ∙ answer-of r'

abbrev pub TwoAreas : Type 0
TwoAreas = List ℕ × List ℤ

-- two equal outcomes have the same answer and the same areas
pub told-one : (r r' : Option ℕ) {ws ws' : List ℕ} {cs cs' : List ℤ} → ◌≡◌ {A = Formed ℕ × List ℕ × List ℤ} (formed_of r, ws, cs) (formed_of r', ws', cs')
    → (r ≡ r') × (◌≡◌ {A = TwoAreas} (ws, cs) (ws', cs'))
told-one r r' h = (formed-one r r' (ap (λ x. x.0) h), ap (λ x. (x.1, x.2)) h)

-- the same where the answer is the number alone
pub number-told-one : (n n' : ℕ) {ws ws' : List ℕ} {cs cs' : List ℤ} → ◌≡◌ {A = Formed ℕ × List ℕ × List ℤ} (formed n, ws, cs) (formed n', ws', cs')
    → (n ≡ n') × (◌≡◌ {A = TwoAreas} (ws, cs) (ws', cs'))
number-told-one n n' h = (number-one (ap (λ x. x.0) h), ap (λ x. (x.1, x.2)) h)
  where
    number-one : formed n ≡ formed n' → n ≡ n'
    number-one e = cc

-- a size is its two numbers
size : {m n : Size} {d w : ℕ} → (m.degree ≡ d) × (m.weight ≡ w) → (n.degree ≡ d) × (n.weight ≡ w) → m ≡ n
size h h' = λ j. record { degree = same h.0 h'.0 j; weight = same h.1 h'.1 j }

-- ---- The functions.

pub size-of-one : One size_of.Learnt
size-of-one k a r r' e e' h h' = size h h'

-- Refused when tried: 1 has no term; zero has a term.
pub integer-one : OneLent integer.Learnt {L = TwoAreas} (λ k e. (e.1.0.now, e.1.1.0.now))
integer-one k a r r' e e' h h' = number-told-one r r' (same h h')

-- Refused when tried: its square; twice the variable.
pub variable-one : OneLent variable.Learnt {L = TwoAreas} (λ k e. (e.1.0.now, e.1.1.0.now))
variable-one k a r r' e e' h h' = number-told-one r r' (same h h')

-- Refused when tried: each pattern counts twice; 256 patterns are taken.
pub sum_one : OneLent sum.Learnt {L = TwoAreas} (λ k e. (e.1.1.0.now, e.1.1.1.0.now))
sum_one k a r r' e e' h h' = told-one r r' (same h h')

-- Refused when tried: the term's coefficient squared; a term with coefficient 1 goes, and one with 0 stays.
pub multiply-by-term-one : OneLent multiply-by-term.Learnt {L = TwoAreas} (λ k e. (e.1.1.1.0.now, e.1.1.1.1.0.now))
multiply-by-term-one k a r r' e e' h h' = number-told-one r r' (same h h')

-- Refused when tried: the square of one operand.
pub product-one : OneLent product.Learnt {L = TwoAreas} (λ k e. (e.1.1.0.now, e.1.1.1.0.now))
product-one k a r r' e e' h h' = told-one r r' (same h h')

-- Refused when tried: one step more; exponent 0 gives 0; a cube is formed as a square.
pub power-one : OneLent power.Learnt {L = TwoAreas} (λ k e. (e.1.1.0.now, e.1.1.1.0.now))
power-one k a r r' e e' h h' = told-one r r' (same h h')

pub add-row-one : OneLent add_row.Learnt {L = TwoAreas} (λ k e. (e.0.now, e.1.0.now))
add-row-one k a r r' e e' h h' = let all = same h h' in (ap (λ x. x.0) all, ap (λ x. (x.1, x.2)) all)

-- Refused when tried: no coefficient is copied.
pub begin-one : OneLent begin.Learnt {L = TwoAreas} (λ k e. (e.1.0.now, e.1.1.0.now))
begin-one k a r r' e e' h h' = (refl, ap₂ (λ ws cs. (ws, cs)) (same h.0 h'.0) (same h.1 h'.1))

-- Refused when tried: answers the old number of terms; the words after the sum are not cleared.
pub add-product-one : OneLent add-product.Learnt {L = TwoAreas} (λ k e. (e.0.now, e.1.0.now))
add-product-one k a r r' e e' h h' = told-one r r' (same h h')

-- Refused when tried: counts from 1; drops coefficients 1.
pub finish-one : OneLent finish.Learnt {L = TwoAreas} (λ k e. (e.1.0.now, e.1.1.0.now))
finish-one k a r r' e e' h h' = number-told-one r r' (same h h')
