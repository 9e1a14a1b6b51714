-- Groups of seven bits, for any number `more` of groups that may follow: what was written is read again, and what is read was written.
use mathlib.Core.Path.{◌≡◌, refl, ap, ap₂, ◌∙◌}
use mathlib.Core.Bool.{false, ◌&&◌}
use mathlib.Core.List.{List, [], ◌∷◌, ◌++◌}
use Prim.Native.Nat.{ℕ, zero, suc, zero-le, ◌+◌, ◌-◌, ◌*◌, ◌/◌, ◌%◌, ◌^◌, ◌≤◌, ◌<◌}
use native.Mathlib.Omega.{arith}
use native.Mathlib.Nat.{pow-le-pow_right}
use native.Mathlib.Numerals.{add-one}
use native.Mathlib.Decide.{dec_lt, ℕ_discrete}
use lib.Dec.{eqb, ltb}
use lib.ListN.{length, get_or, drop, length-drop}
use lib.Seq.{drop-cons}
use borrow.Author.Tests.{lt-ltb, le-ltb, eq-eqb, ne_eqb}
use Rattle.numbers.specs.Item.{Item, Item.got, Item.stopped, and_then, provided, mapped, Fault, Fault.cut, Fault.bad}
use Rattle.numbers.specs.Number.{groups_of, read_byte, read_groups}

-- ---- One step of writing.

pub groups-last : (more n : ℕ) → n < 128 → groups_of more n ≡ n ∷ []
unfolding groups_of
groups-last zero n h = refl
groups-last (suc more) n h = rw (lt-ltb n 128 h)

pub groups-next : (more n : ℕ) → 128 ≤ n → groups_of (suc more) n ≡ (128 + n % 128) ∷ groups_of more (n / 128)
unfolding groups_of
groups-next more n h = rw (le-ltb n 128 h)

-- ---- What is written: some groups, no more than allowed, each a byte.

pub groups-some : (more n : ℕ) → 1 ≤ length (groups_of more n)
unfolding groups_of
groups-some zero n = omega arith
groups-some (suc more) n = go (dec_lt n 128)
  where
    go : Dec (n < 128) → 1 ≤ length (groups_of (suc more) n)
    go (yes low) = rw (groups-last (suc more) n low) (omega arith)
    go (no high) = rw (groups-next more n (omega arith)) (omega arith)

pub groups-length : (more n : ℕ) → length (groups_of more n) ≤ suc more
unfolding groups_of
groups-length zero n = omega arith
groups-length (suc more) n = go (dec_lt n 128) (groups-length more (n / 128))
  where
    go : Dec (n < 128) → length (groups_of more (n / 128)) ≤ suc more → length (groups_of (suc more) n) ≤ suc (suc more)
    go (yes low) ih = rw (groups-last (suc more) n low) (omega arith)
    go (no high) ih = rw (groups-next more n (omega arith)) (omega arith)

pub groups-bytes : (more n : ℕ) → n < 2 * 128 ^ more → (i : ℕ) → get_or (groups_of more n) i 0 < 256
unfolding groups_of
groups-bytes zero n small zero = omega arith
groups-bytes zero n small (suc i) = omega arith
groups-bytes (suc more) n small i = go (dec_lt n 128) (groups-bytes more (n / 128) (omega arith)) i
  where
    go : Dec (n < 128) → ((i : ℕ) → get_or (groups_of more (n / 128)) i 0 < 256) → (i : ℕ) → get_or (groups_of (suc more) n) i 0 < 256
    go (yes low) ih zero = rw (groups-last (suc more) n low) (omega arith)
    go (yes low) ih (suc i) = rw (groups-last (suc more) n low) (omega arith)
    go (no high) ih zero = rw (groups-next more n (omega arith)) (omega arith)
    go (no high) ih (suc i) = rw (groups-next more n (omega arith)) (ih i)

-- ---- One step of reading.

-- a number read above low bits: x stands for low + unit · x
abbrev pub above : ℕ → ℕ → Item Fault ℕ → Item Fault ℕ
above low unit r = mapped (λ (high : ℕ). low + unit * high) r

-- a last group that is the first or not 0 passes
shortest : (b first at : ℕ) → (first < at → 0 < b) → eqb b 0 && ltb first at ≡ false
shortest b first at used = go (ℕ_discrete b 0) (dec_lt first at)
  where
    go : Dec (b ≡ 0) → Dec (first < at) → eqb b 0 && ltb first at ≡ false
    go (no some) d = rw (ne_eqb b 0 some)
    go (yes none) (yes late) = absurd (omega (arith, used late))
    go (yes none) (no early) = rw (none, le-ltb first at (omega arith))

module _ (s : List ℕ) (first at : ℕ) where
  pub at-end : (more : ℕ) → length s ≤ at → read_groups more s first at ≡ stopped cut (length s)
  unfolding read_groups read_byte and_then
  at-end zero h = rw (le-ltb at (length s) h)
  at-end (suc more) h = rw (le-ltb at (length s) h)

  module _ (inside : at < length s) where
    pub at-tenth : get_or s at 0 ≡ 1 → read_groups 0 s first at ≡ got (get_or s at 0) (at + 1)
    unfolding read_groups read_byte and_then provided
    at-tenth one = rw (lt-ltb at (length s) inside, eq-eqb (get_or s at 0) 1 one)

    pub at-over : (get_or s at 0 ≡ 1 → ⊥) → read_groups 0 s first at ≡ stopped bad first
    unfolding read_groups read_byte and_then provided
    at-over other = rw (lt-ltb at (length s) inside, ne_eqb (get_or s at 0) 1 other)

    module _ (more : ℕ) where
      pub at-idle : get_or s at 0 ≡ 0 → first < at → read_groups (suc more) s first at ≡ stopped bad first
      unfolding read_groups read_byte and_then provided
      at-idle none late = rw (lt-ltb at (length s) inside, none, lt-ltb first at late)

      pub at_last : get_or s at 0 < 128 → (first < at → 0 < get_or s at 0) → read_groups (suc more) s first at ≡ got (get_or s at 0) (at + 1)
      unfolding read_groups read_byte and_then provided
      at_last low used = rw (lt-ltb at (length s) inside, lt-ltb (get_or s at 0) 128 low, shortest (get_or s at 0) first at used)

      pub at_next : 128 ≤ get_or s at 0 → read_groups (suc more) s first at ≡ above (get_or s at 0 - 128) 128 (read_groups more s first (at + 1))
      unfolding read_groups read_byte and_then
      at_next high = rw (lt-ltb at (length s) inside, le-ltb (get_or s at 0) 128 high)

-- ---- Every reading, by its groups: the bytes end, a group is at fault, a group is the last, or more follow.

module _ (s : List ℕ) (first : ℕ) where
  pub by-groups : (P : ℕ → ℕ → Item Fault ℕ → Type 0)
      → ((more at : ℕ) → length s ≤ at → P more at (stopped cut (length s)))
      → ((more at : ℕ) → at < length s → P more at (stopped bad first))
      → ((more at : ℕ) → at < length s → get_or s at 0 < 128 → (more ≡ 0 → get_or s at 0 ≡ 1) → (first < at → 0 < get_or s at 0)
      → P more at (got (get_or s at 0) (at + 1)))
      → ((more at : ℕ) (r : Item Fault ℕ) → at < length s → 128 ≤ get_or s at 0 → P more (at + 1) r → P (suc more) at (above (get_or s at 0 - 128) 128 r))
      → (more at : ℕ) → P more at (read_groups more s first at)
  by-groups P ends faulty last next zero at = inside (dec_lt at (length s))
    where
      one : at < length s → Dec (get_or s at 0 ≡ 1) → P zero at (read_groups zero s first at)
      one h (yes e) = rw (at-tenth s first at h e) (last zero at h (omega arith) (λ _. e) (λ _. omega arith))
      one h (no e) = rw (at-over s first at h e) (faulty zero at h)

      inside : Dec (at < length s) → P zero at (read_groups zero s first at)
      inside (yes h) = one h (ℕ_discrete (get_or s at 0) 1)
      inside (no h) = rw (at-end s first at zero (omega arith)) (ends zero at (omega arith))
  by-groups P ends faulty last next (suc more) at = inside (dec_lt at (length s)) (by-groups P ends faulty last next more (at + 1))
    where
      ended : at < length s → get_or s at 0 < 128 → (first < at → 0 < get_or s at 0) → P (suc more) at (read_groups (suc more) s first at)
      ended h l used = rw (at_last s first at h more l used) (last (suc more) at h l (λ z. omega arith) used)

      low : at < length s → get_or s at 0 < 128 → Dec (get_or s at 0 ≡ 0) → Dec (first < at) → P (suc more) at (read_groups (suc more) s first at)
      low h l (yes none) (yes late) = rw (at-idle s first at h more none late) (faulty (suc more) at h)
      low h l (yes none) (no early) = ended h l (λ late. absurd (early late))
      low h l (no some) d = ended h l (λ late. omega arith)

      group : at < length s → Dec (get_or s at 0 < 128) → P more (at + 1) (read_groups more s first (at + 1)) → P (suc more) at (read_groups (suc more) s first at)
      group h (yes l) ih = low h l (ℕ_discrete (get_or s at 0) 0) (dec_lt first at)
      group h (no high) ih = rw (at_next s first at h more (omega arith)) (next more at _ h (omega arith) ih)

      inside : Dec (at < length s) → P more (at + 1) (read_groups more s first (at + 1)) → P (suc more) at (read_groups (suc more) s first at)
      inside (yes h) ih = group h (dec_lt (get_or s at 0) 128) ih
      inside (no h) ih = rw (at-end s first at (suc more) (omega arith)) (ends (suc more) at (omega arith))

-- ---- The places of the answers.

module _ (s : List ℕ) (first : ℕ) where
  -- a cut is at the end of the bytes, which is near; a fault is at the number's first byte; a number has a byte, and ends inside
  abbrev Placed : ℕ → ℕ → Item Fault ℕ → Type 0
  Placed more at (got v next) = (at < next) × (next ≤ length s)
  Placed more at (stopped cut place) = (place ≡ length s) × (place ≤ at + more)
  Placed more at (stopped bad place) = place ≡ first

  placed : (more at : ℕ) → Placed more at (read_groups more s first at)
  unfolding mapped
  placed more at = by-groups s first Placed (λ more at h. (refl, omega arith)) (λ more at h. refl) (λ more at h _ _ _. (omega arith, omega arith)) next more at
    where
      next : (more at : ℕ) (r : Item Fault ℕ) → at < length s → 128 ≤ get_or s at 0 → Placed more (at + 1) r → Placed (suc more) at (above (get_or s at 0 - 128) 128 r)
      next more at (got v end) h high p = (omega (arith, p.0), p.1)
      next more at (stopped cut place) h high p = (p.0, omega (arith, p.1))
      next more at (stopped bad place) h high p = p

  pub groups-cut : (more at p : ℕ) → read_groups more s first at ≡ stopped cut p → (p ≡ length s) × (p ≤ at + more)
  groups-cut more at p e = rw e at (placed more at)

  pub groups-bad : (more at p : ℕ) → read_groups more s first at ≡ stopped bad p → p ≡ first
  groups-bad more at p e = rw e at (placed more at)

  pub groups-inside : (more at v next : ℕ) → read_groups more s first at ≡ got v next → (at < next) × (next ≤ length s)
  groups-inside more at v next e = rw e at (placed more at)

-- ---- What was written is read again.

-- a list whose part from `at` on begins with b
record Head (s : List ℕ) (at b : ℕ) (t : List ℕ) : Type 0 where
  inside : at < length s
  byte : get_or s at 0 ≡ b
  rest : drop (at + 1) s ≡ t

head : (s : List ℕ) (at b : ℕ) (t : List ℕ) → drop at s ≡ b ∷ t → Head s at b t
head s at b t e =
    let h : at < length s = omega (arith, length-drop at s, ap length e) in
    let d = drop-cons s at 0 h in
    record { inside = h; byte = cc; rest = rw add-one cc }

pub read-written : (more n : ℕ) (s : List ℕ) (first at : ℕ) (rest : List ℕ) → n < 2 * 128 ^ more → (more ≡ 0 → 0 < n) → (first < at → 0 < n)
    → drop at s ≡ groups_of more n ++ rest → read_groups more s first at ≡ got n (at + length (groups_of more n))
unfolding groups_of mapped
read-written zero n s first at rest small some used e =
    let h = head s at n rest e in
    rw (at-tenth s first at h.inside (omega (arith, h.byte, some refl)), h.byte)
read-written (suc more) n s first at rest small some used e = go (dec_lt n 128) (read-written more (n / 128) s first (at + 1) rest)
  where
    go : Dec (n < 128)
        → (n / 128 < 2 * 128 ^ more → (more ≡ 0 → 0 < n / 128) → (first < at + 1 → 0 < n / 128) → drop (at + 1) s ≡ groups_of more (n / 128) ++ rest
        → read_groups more s first (at + 1) ≡ got (n / 128) (at + 1 + length (groups_of more (n / 128))))
        → read_groups (suc more) s first at ≡ got n (at + length (groups_of (suc more) n))
    go (yes low) ih =
        let l = groups-last (suc more) n low in
        let h = head s at n rest (rw l at e) in
        rw (l, at_last s first at h.inside more (rw h.byte low) (rw h.byte used), h.byte)
    go (no high) ih =
        let l = groups-next more n (omega arith) in
        let h = head s at (128 + n % 128) (groups_of more (n / 128) ++ rest) (rw l at e) in
        let i = ih (omega arith) (λ _. omega arith) (λ _. omega arith) h.rest in
        rw (l, at_next s first at h.inside more (omega (arith, h.byte)), h.byte, i) (ap₂ got (omega arith) (omega arith))

-- ---- What is read was written.

-- the bytes that were taken for v, from `at` up to `next`
pub record Taken (more : ℕ) (s : List ℕ) (first at v next : ℕ) : Type 0 where
  pub bytes : drop at s ≡ groups_of more v ++ drop next s
  pub ends : next ≡ at + length (groups_of more v)
  pub small : v < 2 * 128 ^ more
  pub used : first < at → 0 < v

module _ (s : List ℕ) (first : ℕ) (byte : (i : ℕ) → get_or s i 0 < 256) where
  abbrev Took : ℕ → ℕ → Item Fault ℕ → Type 0
  Took more at (got v next) = first ≤ at → Taken more s first at v next
  Took more at (stopped what place) = Unit {0}

  last : (more at : ℕ) → at < length s → get_or s at 0 < 128 → (more ≡ 0 → get_or s at 0 ≡ 1) → (first < at → 0 < get_or s at 0) → Took more at (got (get_or s at 0) (at + 1))
  last more at h low one used from =
      let l = groups-last more (get_or s at 0) low in
      record {
        bytes = rw (l, add-one) (drop-cons s at 0 h);
        ends = rw l;
        small = small more one;
        used = used;
      }
    where
      small : (m : ℕ) → (m ≡ 0 → get_or s at 0 ≡ 1) → get_or s at 0 < 2 * 128 ^ m
      small zero one = omega (arith, one refl)
      small (suc m) one = omega (arith, pow-le-pow_right {n = 128} (omega arith) {j = m} zero-le)

  next : (more at : ℕ) (r : Item Fault ℕ) → at < length s → 128 ≤ get_or s at 0 → Took more (at + 1) r → Took (suc more) at (above (get_or s at 0 - 128) 128 r)
  unfolding mapped
  next more at (stopped what place) h high t = tt
  next more at (got x end) h high t = λ from.
      let w = t (omega arith) in
      let some = w.used (omega arith) in
      let b = byte at in
      let v : ℕ = get_or s at 0 - 128 + 128 * x in
      let l : groups_of (suc more) v ≡ get_or s at 0 ∷ groups_of more x =
      groups-next more v (omega arith) ∙ ap₂ ◌∷◌ (omega arith) (ap (groups_of more) (omega arith)) in
      let d : drop (suc at) s ≡ groups_of more x ++ drop end s = rw add-one at w.bytes in
      record {
        bytes = rw l (drop-cons s at 0 h ∙ ap (◌∷◌ (get_or s at 0)) d);
        ends = rw l (omega (arith, w.ends));
        small = omega (arith, w.small);
        used = λ _. omega arith;
      }

  took : (more at : ℕ) → Took more at (read_groups more s first at)
  took = by-groups s first Took (λ more at h. tt) (λ more at h. tt) last next

pub taken : (more : ℕ) (s : List ℕ) (first at v next : ℕ) → first ≤ at → ((i : ℕ) → get_or s i 0 < 256)
    → read_groups more s first at ≡ got v next → Taken more s first at v next
taken more s first at v next from byte e = (rw e at (took s first byte more at)) from
