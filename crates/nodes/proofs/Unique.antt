-- Each public function's contract leaves one outcome, as its caller sees it: the answer, and every place of every lent area.
use mathlib.Core.Path.{◌≡◌, refl, sym, ◌∙◌, ap, ap₂}
use mathlib.Core.List.{List, ◌++◌}
use Prim.Native.Nat.{ℕ, suc, ◌+◌, ◌*◌}
use native.Mathlib.Omega.{arith}
use lib.IntN.{ℤ}
use lib.ListN.{take, drop, take-append-drop}
use lib.Seq.{drop-drop}
use Rattle.algebra.specs.Limits.{most_terms}
use Rattle.answers.proofs.Outcomes.{same}
use Rattle.answers.specs.Promised.{One, OneLent}
use Rattle.algebra.specs.Sum.{Sum as AlgebraSum}
use Rattle.sums.specs.Formed.{Formed}
use Rattle.sums.proofs.Unique.{formed-one}
use Rattle.answers.specs.Judge.{Judged, Judged.good, Judged.fails}
use Rattle.nodes.specs.Node.{Kind, Kind.integer, Kind.variable, Kind.sum, Kind.product, Kind.power}
use Rattle.nodes.specs.Inside.Code.{kind_of, found_of}
use Rattle.sums.specs.Part.{part}
use Rattle.nodes.specs.Inside.Work.{FormedAt}
use Rattle.nodes.specs.declared.Kind as code
use Rattle.nodes.specs.declared.Kind.TheVariants.{Integer, Variable, Sum, Product, Power}
use Rattle.std.specs.Prelude.{Option, Some, None}
use Rattle.nodes.specs.declared.Node.{Node}
use Rattle.nodes.proofs.read_node.Reads as read-node
use Rattle.nodes.proofs.make_node.Reads as make-node
use Rattle.nodes.proofs.work.form.Reads as form

-- ---- Different answers tell different things: each is found again from what it tells.

code_of : Kind → code.Kind
code_of (integer n) = Integer n
code_of (variable v) = Variable v
code_of (sum a b) = Sum a b
code_of (product a b) = Product a b
code_of (power a e) = Power a e

code-of : (k : code.Kind) → code_of (kind_of k) ≡ k
unfolding code_of
code-of (Integer n) = refl
code-of (Variable v) = refl
code-of (Sum a b) = refl
code-of (Product a b) = refl
code-of (Power a e) = refl

answer_of : Judged Kind → Option code.Kind
answer_of (good k) = Some (code_of k)
answer_of (fails refusal place) = None

answer-of : (i : ℕ) (f : Option code.Kind) → answer_of (found_of i f) ≡ f
unfolding answer_of
answer-of i (Some k) = ap (λ (x : code.Kind). Some x) (code-of k)
answer-of i None = refl

pub found-one : (i : ℕ) (f g : Option code.Kind) → found_of i f ≡ found_of i g → f ≡ g
found-one i f g e = sym (answer-of i f) ∙ ap answer_of e ∙ answer-of i g

-- ---- An area is what stands before a part, the part, and what stands after it.

whole : {A : Type 0} (i : ℕ) (xs : List A) → take (most_terms * i) xs ++ (part i xs ++ drop (most_terms * suc i) xs) ≡ xs
whole i xs =
    let place : most_terms * i + most_terms ≡ most_terms * suc i = omega arith in
    ap (λ l. take (most_terms * i) xs ++ (part i xs ++ l)) (ap (λ (n : ℕ). drop n xs) (sym place) ∙ sym (drop-drop most_terms (most_terms * i) xs))
    ∙ ap (λ l. take (most_terms * i) xs ++ l) (take-append-drop most_terms (drop (most_terms * i) xs))
    ∙ take-append-drop (most_terms * i) xs

area-one : {A : Type 0} (i : ℕ) (xs ys : List A) → take (most_terms * i) xs ≡ take (most_terms * i) ys → part i xs ≡ part i ys → drop (most_terms * suc i) xs ≡ drop (most_terms * suc i) ys → xs ≡ ys
area-one i xs ys before inside after = sym (whole i xs) ∙ ap₂ (λ l m. l ++ m) before (ap₂ (λ l m. l ++ m) inside after) ∙ whole i ys

-- what was formed into a part
at_one : {i : ℕ} {f : Formed AlgebraSum} {a b : Formed ℕ} {ws ws' ws'' : List ℕ} {cs cs' cs'' : List ℤ} → FormedAt i f a ws cs ws' cs' → FormedAt i f b ws cs ws'' cs''
    → (a ≡ b) × (ws' ≡ ws'') × (cs' ≡ cs'')
at_one {i} {ws' = xs} {ws'' = ys} {cs' = us} {cs'' = vs} h k =
    let all = same h.in_part k.in_part in (
      ap (λ x. x.0) all,
      area-one i xs ys (same h.words_before k.words_before) (ap (λ x. x.1) all) (same h.words_after k.words_after),
      area-one i us vs (same h.coefficients_before k.coefficients_before) (ap (λ x. x.2) all) (same h.coefficients_after k.coefficients_after),
    )

-- a node is its three fields
node : {m n : Node} {d w : ℕ} {k : code.Kind} → (m.degree ≡ d) × (m.weight ≡ w) × (m.kind ≡ k) → (n.degree ≡ d) × (n.weight ≡ w) × (n.kind ≡ k) → m ≡ n
node h h' =
    λ j. record { degree = same h.0 h'.0 j; weight = same h.1 h'.1 j; kind = same h.2 h'.2 j }

-- ---- The functions.

-- Refused when tried: sums and products exchanged; an integer's second number is 1.
pub read-node-one : One read-node.Learnt
read-node-one k a r r' e e' h h' = found-one _ r r' (same h h')

-- Refused when tried: a product's degree is twice that of its first operand; a variable weighs 0.
pub make-node-one : One make-node.Learnt
make-node-one k a r r' e e' h h' = node h h'

-- Refused when tried: the first operand of a sum twice; the power 1.
pub form-one : OneLent form.Learnt {L = List ℕ × List ℤ} (λ k e. (e.1.1.1.0.now, e.1.1.1.1.0.now))
form-one k a r r' e e' h h' =
    let all = at_one h h' in
    (formed-one r r' all.0, ap₂ (λ (x : List ℕ) (y : List ℤ). (x, y)) all.1 all.2)
