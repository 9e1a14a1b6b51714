-- Readings of a text that agrees with another on what was looked at: one after another, and operands joined to what was read.
use mathlib.Core.Path.{◌≡◌, ◌∙◌, ap}
use mathlib.Core.Bool.{true, false}
use mathlib.Core.List.{List, [], ◌∷◌, ◌++◌}
use Prim.Native.Nat.{ℕ, ◌+◌, ◌-◌, ◌≤◌}
use native.Mathlib.Nat.{le_trans}
use native.Mathlib.Omega.{arith}
use lib.ListN.{length}
use Rattle.answers.specs.Judge.{Judged, Judged.good, and_then}
use Rattle.text.specs.Tree.{Tree}
use Rattle.text.specs.Reader.{Span, span, byte_at}
use Rattle.text.proofs.Words.{WordAt, stands-front, stands-back, stands-first, Agree}
use Rattle.text.proofs.Parts.{End}
use Rattle.answers.proofs.Judging.{then-good}
use Rattle.text.proofs.Ahead.{then-ahead, more-ahead}
use Rattle.text.proofs.Operands.{Operands, more, joined, Chain, chain-starts, chain-stops, goes_on, chain-again}

module _ (s r : List ℕ) where
  -- r has the bytes of s that were looked at
  abbrev pub Alike : Judged Span → Type 0
  Alike g = Agree (End g) s r

  -- then it has those of the first of two readings
  front : {whole : Judged Span} (g : Judged Span) (f : Span → Judged Span) → ((p : Span) → p.next ≤ End (f p)) → whole ≡ and_then g f → Alike whole → Alike g
  front g f ahead e alike = λ q k. alike q (rw e (le_trans k (then-ahead g f ahead)))

  pub reads_on : {whole g : Judged Span} {q : Span} (f : Span → Judged Span) → ((p : Span) → p.next ≤ End (f p)) → whole ≡ and_then g f
      → Alike whole → (Alike g → g ≡ good q) → whole ≡ f q
  reads_on {g = g} f ahead e alike h = e ∙ then-good f (h (front g f ahead e alike))

  -- ---- Operands joined to what was read.

  module _ (o : Operands) (ahead : (j : ℕ) → j ≤ End (o.operand j)) where
    pub starts : (F : Tree → Tree) {whole g : Judged Span} {q : Span} → whole ≡ and_then g (λ p. more o s (length s) (span (F p.tree) p.next))
        → Alike whole → (Alike g → g ≡ good q) → Chain o s whole (span (F q.tree) q.next)
    starts F {g = g} e alike h = chain-starts o s F e (h (front g _ (λ p. more-ahead s o ahead (length s) (span (F p.tree) p.next)) e alike))

    chain-at : {whole : Judged Span} {p : Span} → Chain o s whole p → Alike whole → byte_at s p.next ≡ byte_at r p.next
    chain-at {p = p} c alike = alike p.next (rw c.is (more-ahead s o ahead c.fuel p))

    pub stops : {whole : Judged Span} {p : Span} → Chain o s whole p → Alike whole → o.is_joint (byte_at r p.next) ≡ false → whole ≡ good p
    stops c alike e = chain-stops o s c (ap o.is_joint (chain-at c alike) ∙ e)

    pub continues : (i b : ℕ) (w v : List ℕ) {y : ℕ} {t u : Tree} {whole : Judged Span} → let x = i + length w in
        WordAt r i y (w ++ (b ∷ v)) → Alike whole → o.is_joint b ≡ true → (WordAt r i x w → byte_at r x ≡ b → Chain o s whole (span t x))
        → (WordAt r (x + 1) y v → Alike (o.operand (x + 1)) → o.operand (x + 1) ≡ good (span u y))
        → Chain o s whole (span (o.join b t u) y)
    continues i b w v {t = t} a alike f before operand =
        let x : ℕ = i + length w in
        let back = stands-back i w (b ∷ v) a in
        let rest = stands-back x (b ∷ []) v back in
        let so_far = before (stands-front i w (b ∷ v) a) (stands-first back) in
        let is = chain-at so_far alike ∙ stands-first back in
        let joint = ap o.is_joint is ∙ f in
        let looked = front (o.operand (x + 1)) _ (λ q. more-ahead s o ahead (so_far.fuel - 1) (joined o s (span t x) q)) (goes_on o s so_far joint) alike in
        rw is at (chain-again o s so_far joint (operand rest looked) (omega (arith, rest.end)))
