-- What a loop keeps that writes bytes to an area, run after run: the bytes left, written from here on, complete what was to be written.
use mathlib.Core.Path.{◌≡◌, refl, sym, ◌∙◌, ap, ap₂, subst}
use mathlib.Core.List.{List, [], ◌∷◌, ◌++◌, append_assoc}
use Prim.Native.Nat.{ℕ, zero, suc, ◌+◌, ◌≤◌, ◌<◌}
use native.Mathlib.Omega.{arith}
use lib.ListN.{length, set, take, drop, length-append}
use lib.Seq.{sets, length-sets, sets-eq, drop-drop}
use borrow.Rule.Slice.PartMut.{put_mid}
use Rattle.answers.specs.Areas.{written}

-- two runs one after the other are one run
pub sets-append : {A : Type 0} (l : List A) (i : ℕ) (a b : List A) → sets (sets l i a) (i + length a) b ≡ sets l i (a ++ b)
sets-append l i [] b = ap (λ (k : ℕ). sets l k b) (omega arith)
sets-append l i (x ∷ a) b =
    let e : i + suc (length a) ≡ suc i + length a = omega arith in
    ap (λ (k : ℕ). sets (sets (set l i x) (suc i) a) k b) e ∙ sets-append (set l i x) (suc i) a b

-- a part of an area that is written at once
pub part-sets : {A : Type 0} (at k : ℕ) (area part vs : List A) → part ≡ vs → k ≡ length vs → at + length vs ≤ length area → put_mid at k area part ≡ sets area at vs
part-sets at k area part vs is long room =
    ap₂ (λ l r. take at area ++ (l ++ r)) is (drop-drop k at area ∙ ap (λ (n : ℕ). drop (at + n) area) long)
    ∙ sym (append_assoc (take at area) vs _)
    ∙ sym (sets-eq vs area at room)

pub record Writing (area₀ : List ℕ) (at : ℕ) (all area : List ℕ) (place : ℕ) (left : List ℕ) : Type 0 where
  pub stored : sets area₀ at all ≡ sets area place left
  pub ends : at + length all ≡ place + length left
  pub room : place + length left ≤ length area
  pub same : length area ≡ length area₀

pub start : (area : List ℕ) (at : ℕ) (all : List ℕ) → at + length all ≤ length area → Writing area at all area at all
start area at all room = record { stored = refl; ends = refl; room = room; same = refl }

-- a part that is written by itself
pub joined : {area₀ : List ℕ} {at : ℕ} {all area : List ℕ} {place : ℕ} {part area' : List ℕ} {place' : ℕ} {left : List ℕ}
    → Writing area₀ at all area place part → Writing area place part area' place' left → Writing area₀ at all area' place' left
joined w v = record { stored = w.stored ∙ v.stored; ends = w.ends ∙ v.ends; room = v.room; same = v.same ∙ w.same }

module _ {area₀ : List ℕ} {at : ℕ} {all area : List ℕ} {place : ℕ} where
  -- there is room for the first of the bytes left
  pub has_room : {left : List ℕ} (x y : List ℕ) → left ≡ x ++ y → Writing area₀ at all area place left → place + length x ≤ length area
  has_room {left} x y e w = omega (arith, w.room, ap (length {A = ℕ}) e, length-append x y)

  pub next : {left : List ℕ} (x y : List ℕ) → left ≡ x ++ y → Writing area₀ at all area place left → {area' : List ℕ} {place' : ℕ}
      → area' ≡ sets area place x → place' ≡ place + length x → Writing area₀ at all area' place' y
  next {left} x y e w {area'} {place'} now there =
      let whole : place + length left ≡ place' + length y = omega (arith, there, ap (length {A = ℕ}) e, length-append x y) in
      let kept : length area' ≡ length area = ap (length {A = ℕ}) now ∙ length-sets area place x in
      record {
        stored = w.stored ∙ rw (e, now, there) (sym (sets-append area place x y));
        ends = w.ends ∙ whole;
        room = omega (arith, w.room);
        same = kept ∙ w.same;
      }

  pub ended : {left : List ℕ} → left ≡ [] → Writing area₀ at all area place left
      → (place ≡ at + length all) × (area ≡ sets area₀ at all)
  ended {left} e w = (omega (arith, w.ends, ap (length {A = ℕ}) e), sym (w.stored ∙ ap (λ (l : List ℕ). sets area place l) e))

-- ---- Single bytes, and the last run.

module _ {area₀ : List ℕ} {at : ℕ} {all area : List ℕ} {place : ℕ} where
  pub left_as : {left left' : List ℕ} → left ≡ left' → Writing area₀ at all area place left → Writing area₀ at all area place left'
  left_as e w = subst (λ (l : List ℕ). Writing area₀ at all area place l) e w

  module _ {left : List ℕ} (w : Writing area₀ at all area place left) where
    pub byte-room : (b : ℕ) (rest : List ℕ) → left ≡ b ∷ rest → place < length area
    byte-room b rest e = omega (arith, w.room, ap (length {A = ℕ}) e)

    pub byte : (b : ℕ) (rest : List ℕ) → left ≡ b ∷ rest → Writing area₀ at all (set area place b) (place + 1) rest
    byte b rest e = next (b ∷ []) rest e w refl refl

    -- all that is left is written
    pub finished : {area' : List ℕ} {place' : ℕ} → place' ≡ place + length left → area' ≡ sets area place left
        → (place' ≡ at + length all) × (area' ≡ sets area₀ at all)
    finished there now = (there ∙ sym w.ends, now ∙ sym w.stored)

-- ---- From the first place on.

pub first : (area all : List ℕ) → length all ≤ length area → Writing area 0 all area 0 all
first area all room = start area 0 all (omega (arith, room))

pub completed : {area all area' : List ℕ} {place : ℕ} {left : List ℕ} → Writing area 0 all area' place left → {area'' : List ℕ} {place' : ℕ}
    → place' ≡ place + length left → area'' ≡ sets area' place left → (place' ≡ length all) × (area'' ≡ written all area)
completed {area} {all} w there now =
    let ends = finished w there now in
    let e : 0 + length all ≡ length all = omega arith in
    (ends.0 ∙ e, ends.1 ∙ sets-eq all area 0 (omega (arith, w.room, w.ends, w.same)) ∙ ap (λ (k : ℕ). all ++ drop k area) e)

-- ---- The first byte of a run that is written is written over.

module _ {A : Type 0} where
  set_twice : (l : List A) (i : ℕ) (a b : A) → set (set l i a) i b ≡ set l i b
  set_twice [] i a b = refl
  set_twice (x ∷ l) zero a b = refl
  set_twice (x ∷ l) (suc i) a b = ap (λ (r : List A). x ∷ r) (set_twice l i a b)

  set-swap : (l : List A) (i j : ℕ) (a b : A) → i < j → set (set l j a) i b ≡ set (set l i b) j a
  set-swap [] i j a b h = refl
  set-swap (x ∷ l) i zero a b h = absurd (omega arith)
  set-swap (x ∷ l) zero (suc j) a b h = refl
  set-swap (x ∷ l) (suc i) (suc j) a b h = ap (λ (r : List A). x ∷ r) (set-swap l i j a b (omega arith))

  sets-swap : (l : List A) (i j : ℕ) (a : A) (bs : List A) → i < j → set (sets l j bs) i a ≡ sets (set l i a) j bs
  sets-swap l i j a [] h = refl
  sets-swap l i j a (b ∷ bs) h = sets-swap (set l j b) i (suc j) a bs (omega arith) ∙ ap (λ (r : List A). sets r (suc j) bs) (set-swap l i j b a h)

  pub over_first : (l : List A) (i : ℕ) (a b : A) (bs : List A) → set (sets l i (b ∷ bs)) i a ≡ sets l i (a ∷ bs)
  over_first l i a b bs = sets-swap (set l i b) i (suc i) a bs (omega arith) ∙ ap (λ (r : List A). sets r (suc i) bs) (set_twice l i b a)
