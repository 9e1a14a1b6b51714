-- What a reading says of the text: a part of it was read, or one was begun that can be finished.
use mathlib.Core.Path.{◌≡◌}
use mathlib.Core.List.{List, [], ◌∷◌, ◌++◌, append_assoc, append-nil}
use Prim.Native.Nat.{ℕ, ◌+◌, ◌≤◌}
use native.Mathlib.Omega.{arith}
use Rattle.answers.specs.Refusals.{TEXT}
use Rattle.answers.specs.Judge.{Judged, Judged.good, Judged.fails, and_then}
use Rattle.text.specs.Tree.{Tree}
use Rattle.text.specs.Grammar.{Level, Level.sum, Level.term, Level.factor, Level.atom}
use Rattle.text.specs.Reader.{Span, byte_at, Reader, read_atom, read_factor, read_term, read_sum, in_brackets}
use Rattle.text.proofs.Words.{WordAt, stands-none, stands-byte, stands-then}

-- ---- Parts. P says what the words of the part are.

-- the bytes from place i up to place p are P, once `rest` is put after them
pub record Begun (P : List ℕ → Type 0) (s : List ℕ) (i p : ℕ) (rest : List ℕ) : Type 0 where
  pub word : List ℕ
  pub stands : WordAt s i p word
  pub is : P (word ++ rest)

module _ {s : List ℕ} {i : ℕ} {rest : List ℕ} where
  pub here : {P : List ℕ → Type 0} → P rest → Begun P s i i rest
  here h = record { word = []; stands = stands-none; is = h }

  pub after : {P : List ℕ → Type 0} {x p : ℕ} {w : List ℕ} → WordAt s i x w → Begun (λ v. P (w ++ v)) s x p rest → Begun P s i p rest
  after {w = w} a d = record { word = w ++ d.word; stands = stands-then a d.stands; is = rw append_assoc d.is }

module _ {s : List ℕ} {i p : ℕ} {rest : List ℕ} where
  pub mapped : {P Q : List ℕ → Type 0} → ((w : List ℕ) → P w → Q w) → Begun P s i p rest → Begun Q s i p rest
  mapped f d = after d.stands (here (f _ d.is))

  -- the first byte of the rest stands in the text
  pub taken : {P : List ℕ → Type 0} {b : ℕ} → Begun P s i p (b ∷ rest) → byte_at s p ≡ b → 1 ≤ b → Begun P s i (p + 1) rest
  taken d e h = after d.stands (after (stands-byte e h) (here d.is))

  -- a part, a byte, and what stands after it
  pub joined : {P Q R : List ℕ → Type 0} {x b : ℕ} → ((w v : List ℕ) → P w → Q v → R (w ++ (b ∷ v)))
      → Begun P s i x [] → byte_at s x ≡ b → 1 ≤ b → Begun Q s (x + 1) p rest → Begun R s i p rest
  joined rule d e h c = after d.stands (after (stands-byte e h) (after c.stands (here (rule _ _ (rw append-nil at d.is) c.is))))

-- ---- Readings.

-- what is read at a level, with brackets so deep
abbrev pub reading : Level → ℕ → List ℕ → Reader
reading sum l s = read_sum (in_brackets l s) s
reading term l s = read_term (in_brackets l s) s
reading factor l s = read_factor (in_brackets l s) s
reading atom l s = read_atom (in_brackets l s) s

-- the last place that was looked at
abbrev pub End : Judged Span → ℕ
End (good q) = q.next
End (fails refusal p) = p

-- some part with a tree can be finished
pub record StopsAt (P : List ℕ → Tree → Type 0) (s : List ℕ) (i p : ℕ) : Type 0 where
  pub rest : List ℕ
  pub tree : Tree
  pub begun : Begun (λ w. P w tree) s i p rest

pub fault : {P : List ℕ → Tree → Type 0} {s : List ℕ} {i p : ℕ} {rest : List ℕ} (t : Tree) → Begun (λ w. P w t) s i p rest → StopsAt P s i p
fault {rest = rest} t d = record { rest = rest; tree = t; begun = d }

abbrev pub Good : (List ℕ → Tree → Type 0) → List ℕ → ℕ → Judged Span → Type 0
Good P s i (good q) = Begun (λ w. P w q.tree) s i q.next []
Good P s i (fails refusal p) = (refusal ≡ TEXT) × StopsAt P s i p

pub good-ahead : (P : List ℕ → Tree → Type 0) (s : List ℕ) (i : ℕ) (g : Judged Span) → Good P s i g → i ≤ End g
good-ahead P s i (good q) d = omega (arith, d.stands.end)
good-ahead P s i (fails refusal p) d = omega (arith, d.1.begun.stands.end)

pub good-then : {P Q : List ℕ → Tree → Type 0} {s : List ℕ} {i j : ℕ} (g : Judged Span) (f : Span → Judged Span) → Good Q s j g
    → ((q : Span) → Begun (λ w. Q w q.tree) s j q.next [] → Good P s i (f q))
    → ((p : ℕ) (rest : List ℕ) (t : Tree) → Begun (λ w. Q w t) s j p rest → StopsAt P s i p)
    → Good P s i (and_then g f)
unfolding and_then
good-then (good q) f d go_on stop = go_on q d
good-then (fails refusal p) f d go_on stop = (d.0, stop p d.1.rest d.1.tree d.1.begun)
