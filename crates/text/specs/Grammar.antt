-- The grammar of typed formulas: which bytes are a sum, a term, a factor or an atom, with which tree.
use Rattle.std.specs.Prelude.{◌≡◌, List, [], ◌∷◌, ◌++◌, ℕ, suc, ◌+◌, ◌*◌, ◌≤◌, ◌<◌, length, take}
use Rattle.text.specs.Limits.{deepest, largest_number, largest_exponent}
use Rattle.text.specs.Signs.{plus_sign, minus_sign, times_sign, power_sign, open_bracket, close_bracket, zero_digit}
use Rattle.text.specs.Letters.{Letter.names, letter_of}
use Rattle.text.specs.Tree as tree
use Rattle.text.specs.Tree.{Tree}

-- a decimal number up to `top`, with no leading zero before another digit (`top` is 9 or more)
pub data Numeral (top : ℕ) : List ℕ → ℕ → Type 0 where
  digit : {d : ℕ} → d ≤ 9 → Numeral top ((zero_digit + d) ∷ []) d
  longer : {w : List ℕ} {v d : ℕ} → Numeral top w v → 1 ≤ v → d ≤ 9 → v * 10 + d ≤ top → Numeral top (w ++ ((zero_digit + d) ∷ [])) (v * 10 + d)

pub data Level : Type 0 where
  sum term factor atom : Level

-- the bytes are a sum (a term, a factor, an atom) with this tree, and brackets nest in it at most l deep
pub data Is : Level → ℕ → List ℕ → Tree → Type 0 where
  -- a sum: its first term, with a minus before it or not; then + or - and one more term, as often as wanted
  first : {l : ℕ} {w : List ℕ} {t : Tree} → Is term l w t → Is sum l w t
  minus : {l : ℕ} {w : List ℕ} {t : Tree} → Is term l w t → Is sum l (minus_sign ∷ w) (tree.Tree.minus t)
  plus : {l : ℕ} {w v : List ℕ} {t u : Tree} → Is sum l w t → Is term l v u → Is sum l (w ++ (plus_sign ∷ v)) (tree.Tree.plus t u)
  less : {l : ℕ} {w v : List ℕ} {t u : Tree} → Is sum l w t → Is term l v u → Is sum l (w ++ (minus_sign ∷ v)) (tree.Tree.plus t (tree.Tree.minus u))
  -- a term: factors with * between them
  single : {l : ℕ} {w : List ℕ} {t : Tree} → Is factor l w t → Is term l w t
  times : {l : ℕ} {w v : List ℕ} {t u : Tree} → Is term l w t → Is factor l v u → Is term l (w ++ (times_sign ∷ v)) (tree.Tree.times t u)
  -- a factor: an atom alone, or raised to an exponent
  plain : {l : ℕ} {w : List ℕ} {t : Tree} → Is atom l w t → Is factor l w t
  power : {l : ℕ} {w v : List ℕ} {t : Tree} {e : ℕ} → Is atom l w t → Numeral largest_exponent v e → Is factor l (w ++ (power_sign ∷ v)) (tree.Tree.raised t e)
  -- an atom: a number, a letter, or a sum in brackets
  number : {l : ℕ} {w : List ℕ} {v : ℕ} → Numeral largest_number w v → Is atom l w (tree.Tree.number v)
  letter : {l b v : ℕ} → letter_of b ≡ names v → Is atom l (b ∷ []) (tree.Tree.letter v)
  bracket : {l : ℕ} {w : List ℕ} {t : Tree} → Is sum l w t → Is atom (suc l) (open_bracket ∷ (w ++ (close_bracket ∷ []))) t

-- the text is a formula
abbrev pub Formula : List ℕ → Tree → Type 0
Formula text t = Is sum deepest text t

-- p is the length of the longest prefix that some formula begins with (the limits of length and of nodes are ignored)
pub record Longest (text : List ℕ) (p : ℕ) : Type 0 where
  pub within : p ≤ length text
  -- a formula that begins with the first p bytes
  pub rest : List ℕ
  pub tree : Tree
  pub begins : Formula (take p text ++ rest) tree
  -- none begins with a longer prefix
  pub none : (q : ℕ) → p < q → q ≤ length text → (other : List ℕ) (t : Tree) → Formula (take q text ++ other) t → ⊥
