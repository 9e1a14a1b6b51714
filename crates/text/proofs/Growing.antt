-- What was read grows: the nodes, their number and the place after them, for each shape of tree.
use mathlib.Core.Path.{◌≡◌, refl}
use mathlib.Core.Bool.{Bool, true, false, cond}
use mathlib.Core.List.{List, [], ◌∷◌, ◌++◌}
use Prim.Native.Nat.{ℕ, ◌+◌, ◌-◌, ◌*◌, ◌≤◌, ◌<◌}
use native.Mathlib.Omega.{arith}
use lib.Dec.{eqb}
use lib.IntN.{ℤ, pos, negsuc}
use lib.ListN.{length}
use borrow.Author.Tests.{eqb-true}
use Rattle.nodes.specs.Node.{Kind, Kind.integer, Kind.variable, Kind.sum, Kind.product, Kind.power}
use Rattle.text.specs.Signs.{minus_sign}
use Rattle.text.specs.Tree.{Tree, Tree.number, Tree.letter, Tree.plus, Tree.times, Tree.raised, Tree.minus, node_count, own, nodes_of}
use Rattle.text.specs.Reader.{span, byte_at, signed, after_minus}
use Rattle.text.specs.Inside.Laid.{put_node, Part, signed_count, signed_table}
use Rattle.text.proofs.Byte.{decide, inside}
use Rattle.text.proofs.Trees.{nodes-length}
use Rattle.text.proofs.Nodes.{lays_one, lays-append, laid_more}

-- ---- Numbers and letters.

module _ (s : List ℕ) (at n : ℕ) (c : List (List ℤ)) {d : List (List ℤ)} {next : ℕ} (ahead : at < next) (within : next ≤ length s) where
  leaf-part : (t : Tree) (k : Kind) → node_count t ≡ 1 → nodes_of n t ≡ k ∷ [] → d ≡ put_node c n k → Part s at n c (span t next) next (n + 1) d
  leaf-part t k one own put = record {
    next_is = refl;
    count_is = omega arith;
    laid = λ h. rw own (lays_one n k c put (omega arith));
    ahead = ahead;
    within = within;
    few = omega arith;
  }

  pub number-part : (v : ℕ) → d ≡ put_node c n (integer (pos v)) → Part s at n c (span (number v) next) next (n + 1) d
  unfolding node_count nodes_of
  number-part v put = leaf-part (number v) (integer (pos v)) refl refl put

  pub letter-part : (v : ℕ) → d ≡ put_node c n (variable v) → Part s at n c (span (letter v) next) next (n + 1) d
  unfolding node_count nodes_of
  letter-part v put = leaf-part (letter v) (variable v) refl refl put

-- ---- What was read has more bytes around it, is raised, or has a sign.

module _ {s : List ℕ} {at n : ℕ} {c d : List (List ℤ)} {t : Tree} {next count : ℕ} (w : Part s at n c (span t next) next count d) where
  pub moved : {from end : ℕ} → from ≤ at → next ≤ end → end ≤ length s → Part s from n c (span t end) end count d
  moved h k within = record { next_is = refl; count_is = w.count_is; laid = w.laid; ahead = omega arith; within = within; few = omega arith }

  pub raised-part : (e : ℕ) {end : ℕ} {d' : List (List ℤ)} → next < end → end ≤ length s → d' ≡ put_node d count (power (count - 1) e)
      → Part s at n c (span (raised t e) end) end (count + 1) d'
  unfolding node_count nodes_of
  raised-part e {d' = d'} ahead within put = record {
    next_is = refl;
    count_is = omega arith;
    laid =
        laid_more t (raised t e) (power (count - 1) e ∷ []) n count c d d' w.count_is (rw w.count_is) w.laid
        (lays_one count (power (count - 1) e) d put);
    ahead = omega arith;
    within = within;
    few = omega arith;
  }

  -- with a sign, it was read from an earlier place on: two nodes more are a byte more
  signed_part : (b from : ℕ) → from ≤ at → signed_count b count + 2 * from ≤ count + 2 * at
      → Part s from n c (span (signed b t) next) next (signed_count b count) (signed_table b count d)
  unfolding signed signed_count signed_table node_count nodes_of
  signed_part b from h few = go (eqb b minus_sign) few
    where
      one : Kind
      one = integer (negsuc 0)

      opposite : Kind
      opposite = product count (count - 1)

      go : (m : Bool) → cond m (count + 2) count + 2 * from ≤ count + 2 * at
          → Part s from n c (span (cond m (minus t) t) next) next (cond m (count + 2) count)
          (cond m (put_node (put_node d count one) (count + 1) opposite) d)
      go true few =
          let first : List (List ℤ) = put_node d count one in
          let both : List (List ℤ) = put_node first (count + 1) opposite in
          record {
            next_is = refl;
            count_is = omega arith;
            laid =
                laid_more t (minus t) (one ∷ opposite ∷ []) n count c d both w.count_is (rw w.count_is) w.laid
                (lays-append (one ∷ []) (opposite ∷ []) count (count + 1) d first both refl
                (lays_one count one d refl) (lays_one (count + 1) opposite first refl));
            ahead = omega arith;
            within = w.within;
            few = omega arith;
          }
      go false few = moved h (omega arith) w.within

-- ---- The sign of a term, and where a sum's first term begins.

-- a sign adds two nodes or none
pub record Grown (count all : ℕ) : Type 0 where
  pub least : count ≤ all
  pub most : all ≤ count + 2

pub sign-grown : (b count : ℕ) {all : ℕ} → all ≡ signed_count b count → Grown count all
unfolding signed_count
sign-grown b count e =
    rw e
    (decide (eqb b minus_sign)
    (λ h. rw h (record { least = omega arith; most = omega arith }))
    (λ h. rw h (record { least = omega arith; most = omega arith })))

module _ (s : List ℕ) (at : ℕ) where
  pub start-ahead : at ≤ after_minus s at
  unfolding after_minus
  start-ahead = decide (eqb (byte_at s at) minus_sign) (λ e. rw e (omega arith)) (λ e. rw e (omega arith))

  pub start-within : at ≤ length s → after_minus s at ≤ length s
  unfolding after_minus
  start-within h =
      decide (eqb (byte_at s at) minus_sign)
      (λ e. rw e (omega (arith, inside s at minus_sign (eqb-true (byte_at s at) minus_sign e) (omega arith))))
      (λ e. rw e h)

  start-count : (count : ℕ) → signed_count (byte_at s at) count + 2 * at ≤ count + 2 * after_minus s at
  unfolding signed_count after_minus
  start-count count = decide (eqb (byte_at s at) minus_sign) (λ e. rw e (omega arith)) (λ e. rw e (omega arith))

  module _ {n : ℕ} {c d : List (List ℤ)} {t : Tree} {next count : ℕ} where
    pub first_part : Part s (after_minus s at) n c (span t next) next count d
        → Part s at n c (span (signed (byte_at s at) t) next) next (signed_count (byte_at s at) count) (signed_table (byte_at s at) count d)
    first_part w = signed_part w (byte_at s at) at start-ahead (start-count count)

    -- a later term
    pub next-part : (b : ℕ) → Part s (at + 1) n c (span t next) next count d
        → Part s at n c (span (signed b t) next) next (signed_count b count) (signed_table b count d)
    next-part b w = signed_part w b at (omega arith) (omega (arith, (sign-grown b count refl).most))

-- ---- Two parts are joined.

-- a tree of two is laid so, with its own node last
pub record Joint (join : Tree → Tree → Tree) (kind : ℕ → ℕ → Kind) : Type 0 where
  pub sizes : (t u : Tree) → node_count (join t u) ≡ node_count t + node_count u + 1
  pub nodes : (n : ℕ) (t u : Tree) → nodes_of n (join t u) ≡ nodes_of n t ++ (nodes_of (n + node_count t) u ++ (kind (own n t) (own (n + node_count t) u) ∷ []))

pub sums : Joint plus sum
unfolding node_count nodes_of
sums = record { sizes = λ t u. refl; nodes = λ n t u. refl }

pub products : Joint times product
unfolding node_count nodes_of
products = record { sizes = λ t u. refl; nodes = λ n t u. refl }

module _ {join : Tree → Tree → Tree} {kind : ℕ → ℕ → Kind} (j : Joint join kind) {s : List ℕ} {at n : ℕ} {c d : List (List ℤ)} {t : Tree} {next count : ℕ}
    (w : Part s at n c (span t next) next count d) where
  pub joined-part : {from end more : ℕ} {u : Tree} {e f : List (List ℤ)} → next ≤ from → Part s from count d (span u end) end more e
      → f ≡ put_node e more (kind (count - 1) (more - 1)) → Part s at n c (span (join t u) end) end (more + 1) f
  joined-part {more = more} {u} {e} {f} h v put =
      let own : Kind = kind (count - 1) (more - 1) in
      record {
        next_is = refl;
        count_is = omega (arith, j.sizes t u);
        laid =
            laid_more t (join t u) (nodes_of count u ++ (own ∷ [])) n count c d f w.count_is (rw (v.count_is, w.count_is) (j.nodes n t u)) w.laid
            (lays-append (nodes_of count u) (own ∷ []) count more d e f (omega (arith, nodes-length count u))
            (λ i. v.laid (omega (arith, nodes-length count u))) (lays_one more own e put));
        ahead = omega arith;
        within = v.within;
        few = omega arith;
      }
