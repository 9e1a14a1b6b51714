-- Words at a place of a text: where they end, what they are made of, and texts that agree up to a place.
use mathlib.Core.Path.{◌≡◌, refl, sym, ◌∙◌}
use mathlib.Core.List.{List, [], ◌∷◌, ◌++◌, append_assoc}
use Prim.Native.Nat.{ℕ, ◌+◌, ◌≤◌}
use native.Mathlib.Omega.{arith}
use lib.ListN.{length, drop, length-append}
use lib.Seq.{drop-drop, drop-append_seam}
use Rattle.text.specs.Reader.{byte_at}
use Rattle.text.proofs.Byte.{from_byte, first_byte}

-- the word stands in the text from place i up to place j
pub record WordAt (s : List ℕ) (i j : ℕ) (w : List ℕ) : Type 0 where
  pub end : j ≡ i + length w
  pub split : drop i s ≡ w ++ drop j s

module _ {s : List ℕ} where
  pub stands-none : {i : ℕ} → WordAt s i i []
  stands-none = record { end = omega arith; split = refl }

  pub stands-byte : {i b : ℕ} → byte_at s i ≡ b → 1 ≤ b → WordAt s i (i + 1) (b ∷ [])
  stands-byte {i} {b} e h = record { end = refl; split = from_byte s i b e h }

  pub stands-then : {i j k : ℕ} {w v : List ℕ} → WordAt s i j w → WordAt s j k v → WordAt s i k (w ++ v)
  stands-then {w = w} {v = v} a b = record {
    end = omega (arith, a.end, b.end, length-append w v);
    split = a.split ∙ rw (b.split, append_assoc);
  }

  -- ---- The parts of a word.

  module _ (i : ℕ) {k : ℕ} (w v : List ℕ) (a : WordAt s i k (w ++ v)) where
    pub stands-back : WordAt s (i + length w) k v
    stands-back = record {
      end = omega (arith, a.end, length-append w v);
      split = sym (drop-drop (length w) i s) ∙ rw (a.split, append_assoc, drop-append_seam);
    }

    pub stands-front : WordAt s i (i + length w) w
    stands-front = record { end = refl; split = a.split ∙ append_assoc w v (drop k s) ∙ rw stands-back.split }

  pub stands-first : {i k b : ℕ} {v : List ℕ} → WordAt s i k (b ∷ v) → byte_at s i ≡ b
  stands-first {i} a = sym (first_byte s i) ∙ rw a.split

-- ---- Two texts.

-- they have the same bytes up to place n, and at it
abbrev pub Agree : ℕ → List ℕ → List ℕ → Type 0
Agree n s r = (q : ℕ) → q ≤ n → byte_at s q ≡ byte_at r q
