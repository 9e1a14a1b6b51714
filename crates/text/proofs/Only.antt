-- Each part that the grammar finds is what is read, also of a text that differs from it only past what was looked at.
use mathlib.Core.Path.{◌≡◌, refl, sym, ◌∙◌, ap}
use mathlib.Core.Bool.{false}
use mathlib.Core.List.{List, [], ◌∷◌, ◌++◌}
use Prim.Native.Nat.{ℕ, suc, ◌+◌}
use native.Mathlib.Nat.{le_trans}
use native.Mathlib.Omega.{arith}
use lib.Dec.{eqb}
use lib.ListN.{length}
use borrow.Author.Tests.{eqb-true}
use Rattle.answers.specs.Judge.{Judged.good}
use Rattle.text.specs.Limits.{largest_number, largest_exponent}
use Rattle.text.specs.Signs.{plus_sign, minus_sign, times_sign, power_sign, open_bracket, close_bracket, is_digit}
use Rattle.text.specs.Tree as tree
use Rattle.text.specs.Tree.{Tree}
use Rattle.text.specs.Grammar.{Level, Level.sum, Level.term, Level.factor, Level.atom, Is}
use Rattle.text.specs.Grammar.{Is.first, Is.minus, Is.plus, Is.less, Is.single, Is.times, Is.plain, Is.power, Is.number, Is.letter, Is.bracket}
use Rattle.text.specs.Reader.{Span, span, Digits, byte_at, read_exponent, is_times, is_sign, signed, in_brackets}
use Rattle.text.proofs.Byte.{decide, above-digits, letter-above}
use Rattle.text.proofs.Words.{WordAt, stands-front, stands-back, stands-first}
use Rattle.text.proofs.Parts.{reading}
use Rattle.text.proofs.Numerals.{numeral-first, digits-only}
use Rattle.text.proofs.Sound.{reading-ahead}
use Rattle.answers.proofs.Judging.{good-fails}
use Rattle.text.proofs.Branches.{closing, opened, closed, number_read, letter-read, no_power, exponent, factor-is, term_is, term-minus, sum-plain, sum-minus}
use Rattle.text.proofs.Ahead.{exponent-past, exponent-ahead, closing-ahead}
use Rattle.text.proofs.Operands.{factors, terms, Chain}
use Rattle.text.proofs.Chains.{Alike, reads_on, starts, stops, continues}

-- what may stand after a part
abbrev pub Follow : Level → ℕ → Type 0
Follow atom b = is_digit b ≡ false
Follow factor b = (is_digit b ≡ false) × (eqb b power_sign ≡ false)
Follow term b = (is_digit b ≡ false) × (eqb b power_sign ≡ false) × (is_times b ≡ false)
Follow sum b = (is_digit b ≡ false) × (eqb b power_sign ≡ false) × (is_times b ≡ false) × (is_sign b ≡ false)

-- after a part that may go on: a sum by a sign, a term by *
abbrev MayFollow : Level → ℕ → Type 0
MayFollow atom b = Follow atom b
MayFollow factor b = Follow factor b
MayFollow term b = Follow factor b
MayFollow sum b = Follow term b

-- the parts of r are read of s
module _ (s r : List ℕ) where
  -- p was read so far
  abbrev Reached : Level → ℕ → ℕ → Span → Type 0
  Reached atom l i p = reading atom l s i ≡ good p
  Reached factor l i p = reading factor l s i ≡ good p
  Reached term l i p = Chain (factors (in_brackets l s) s) s (reading term l s i) p
  Reached sum l i p = Chain (terms (in_brackets l s) s) s (reading sum l s i) p

  -- and no more
  ends : (k : Level) (l i : ℕ) {p : Span} → Alike s r (reading k l s i) → (MayFollow k (byte_at r p.next) → Reached k l i p)
      → Follow k (byte_at r p.next) → reading k l s i ≡ good p
  ends atom l i alike c f = c f
  ends factor l i alike c f = c f
  ends term l i alike c f = stops s r _ (reading-ahead factor l s) (c (f.0, f.1)) alike f.2
  ends sum l i alike c f = stops s r _ (reading-ahead term l s) (c (f.0, f.1, f.2)) alike f.3

  reached : {k : Level} {l i y : ℕ} {w : List ℕ} {t : Tree} → Is k l w t → WordAt r i y w → Alike s r (reading k l s i)
      → MayFollow k (byte_at r y) → Reached k l i (span t y)
  unfolding is_digit is_times is_sign signed
  reached {l = l} {i = i} (first d) a alike f =
      decide (eqb (byte_at s i) minus_sign)
      (λ e. let none = term-minus (in_brackets l s) s i (eqb-true (byte_at s i) minus_sign e) in
      let h : Alike s r (reading term l s i) = rw none (λ q k. alike q (le_trans k (reading-ahead sum l s i))) in
      absurd (good-fails (sym (ends term l i h (λ g. reached d a h g) f) ∙ none)))
      (λ e. starts s r _ (reading-ahead term l s) (λ t. t) (sum-plain (in_brackets l s) s i e) alike (λ h. ends term l i h (λ g. reached d a h g) f))
  reached {l = l} {i = i} (minus {w = w} d) a alike f =
      starts s r _ (reading-ahead term l s) tree.Tree.minus (sum-minus (in_brackets l s) s i (alike i (reading-ahead sum l s i) ∙ stands-first a)) alike
      (λ h. ends term l (i + 1) h (λ g. reached d (stands-back i (minus_sign ∷ []) w a) h g) f)
  reached {l = l} {i = i} (plus {w = w} {v = v} d c) a alike f =
      continues s r _ (reading-ahead term l s) i plus_sign w v a alike refl (λ b e. reached d b alike (rw e (refl, refl, refl)))
      (λ b h. ends term l (i + length w + 1) h (λ g. reached c b h g) f)
  reached {l = l} {i = i} (less {w = w} {v = v} d c) a alike f =
      continues s r _ (reading-ahead term l s) i minus_sign w v a alike refl (λ b e. reached d b alike (rw e (refl, refl, refl)))
      (λ b h. ends term l (i + length w + 1) h (λ g. reached c b h g) f)
  reached {l = l} {i = i} (single d) a alike f =
      starts s r _ (reading-ahead factor l s) (λ t. t) (term_is (in_brackets l s) s i) alike (λ h. reached d a h f)
  reached {l = l} {i = i} (times {w = w} {v = v} d c) a alike f =
      continues s r _ (reading-ahead factor l s) i times_sign w v a alike refl (λ b e. reached d b alike (rw e (refl, refl))) (λ b h. reached c b h f)
  reached {l = l} {i = i} {y = y} (plain {t = t} d) a alike f =
      let whole = reads_on s r (read_exponent s) (exponent-ahead s) (factor-is (in_brackets l s) s i) alike (λ h. reached d a h f.0) in
      let at = alike y (rw whole (exponent-ahead s (span t y))) in
      whole ∙ no_power s t y refl (ap (λ b. eqb b power_sign) at ∙ f.1)
  reached {l = l} {i = i} (power {w = w} {v = v} {t = t} d n) a alike f =
      let p : Span = span t (i + length w) in
      let back = stands-back i w (power_sign ∷ v) a in
      let rest = stands-back p.next (power_sign ∷ []) v back in
      let whole = reads_on s r (read_exponent s) (exponent-ahead s) (factor-is (in_brackets l s) s i) alike
      (λ h. reached d (stands-front i w (power_sign ∷ v) a) h (rw (stands-first back) refl)) in
      let at = alike p.next (rw whole (exponent-ahead s p)) ∙ stands-first back in
      let digit = ap is_digit (alike (p.next + 1) (rw whole (omega (arith, exponent-past s p at)))) ∙ numeral-first largest_exponent n rest in
      let step = whole ∙ exponent s t p.next refl at digit (refl, refl) in
      step ∙ ap (λ (m : Digits). good (span (tree.Tree.raised t m.value) m.next)) (digits-only largest_exponent s r n rest (rw step at alike) f.0)
  reached {l = l} {i = i} (number n) a alike f =
      let step = number_read s i refl (in_brackets l s) (ap is_digit (alike i (reading-ahead atom l s i)) ∙ numeral-first largest_number n a) (refl, refl) in
      step ∙ ap (λ (m : Digits). good (span (tree.Tree.number m.value) m.next)) (digits-only largest_number s r n a (rw step at alike) f)
  reached {l = l} {i = i} (letter {b = b} {v = v} e) a alike f =
      let above = letter-above b v e in
      let at = alike i (reading-ahead atom l s i) ∙ stands-first a in
      letter-read s i (sym at) (in_brackets l s) (λ z. omega arith) (above-digits b above) e ∙ rw a.end
  reached {i = i} (bracket {l = l} {w = w} {t = t} d) a alike f =
      let p : Span = span t (i + 1 + length w) in
      let inner = stands-back i (open_bracket ∷ []) (w ++ (close_bracket ∷ [])) a in
      let back = stands-back (i + 1) w (close_bracket ∷ []) inner in
      let whole = reads_on s r (closing s) (closing-ahead s) (opened s i refl (alike i (reading-ahead atom (suc l) s i) ∙ stands-first a) refl) alike
      (λ h. ends sum l (i + 1) h (λ g. reached d (stands-front (i + 1) w (close_bracket ∷ []) inner) h g) (rw (stands-first back) (refl, refl, refl, refl))) in
      let at = alike p.next (rw whole (closing-ahead s p)) ∙ stands-first back in
      whole ∙ closed s p.next refl t at ∙ rw back.end

  pub reads : {k : Level} {l i y : ℕ} {w : List ℕ} {t : Tree} → Is k l w t → WordAt r i y w → Alike s r (reading k l s i) → Follow k (byte_at r y)
      → reading k l s i ≡ good (span t y)
  reads {k} {l} {i} d a alike f = ends k l i alike (λ g. reached d a alike g) f
