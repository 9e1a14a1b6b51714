-- What the two loops keep: the operands that were joined so far, and their nodes.
use mathlib.Core.Path.{◌≡◌, refl}
use mathlib.Core.Bool.{true}
use mathlib.Core.List.{List}
use Prim.Native.Nat.{ℕ, ◌+◌, ◌-◌, ◌≤◌}
use native.Mathlib.Omega.{arith}
use lib.IntN.{ℤ}
use Rattle.answers.specs.Judge.{Judged}
use Rattle.nodes.specs.Node.{Kind.sum, Kind.product}
use Rattle.text.specs.Tree.{Tree, Tree.plus, Tree.times}
use Rattle.text.specs.Reader.{Span, span, byte_at, read_factor, is_times, read_term, is_sign, signed, after_minus, read_sum, in_brackets}
use Rattle.text.specs.Inside.Laid.{put_node, signed_count, signed_table, Part}
use Rattle.text.proofs.Growing.{sums, products, joined-part, first_part, next-part, sign-grown}
use Rattle.text.proofs.Branches.{term_is, sum_is}
use Rattle.text.proofs.Operands.{Operands, factors, terms, Chain, chain-starts, chain-again}
use Rattle.text.proofs.Told.{Told}

-- what was read so far, with the nodes of its tree
pub record Loop (o : Operands) (s : List ℕ) (whole : Judged Span) (at n : ℕ) (c : List (List ℤ)) (next count : ℕ) (d : List (List ℤ)) : Type 0 where
  pub tree : Tree
  pub chain : Chain o s whole (span tree next)
  pub part : Part s at n c (span tree next) next count d
  pub some : 1 ≤ count

-- ---- Factors joined by *.

abbrev pub TermLoop : ℕ → List ℕ → ℕ → ℕ → List (List ℤ) → ℕ → ℕ → List (List ℤ) → Type 0
TermLoop levels s at n c next count d = Loop (factors (in_brackets levels s) s) s (read_term (in_brackets levels s) s at) at n c next count d

module _ (levels : ℕ) (s : List ℕ) (at : ℕ) {n next count : ℕ} {c d : List (List ℤ)} where
  pub term-start : Told (read_factor (in_brackets levels s) s at) s at n c next count d → TermLoop levels s at n c next count d
  term-start t = record { tree = t.tree; chain = chain-starts _ s (λ u. u) (term_is _ s at) t.is; part = t.part; some = t.some }

  pub term-again : {end more : ℕ} {e f : List (List ℤ)} → TermLoop levels s at n c next count d → is_times (byte_at s next) ≡ true
      → Told (read_factor (in_brackets levels s) s (next + 1)) s (next + 1) count d end more e → f ≡ put_node e more (product (count - 1) (more - 1))
      → TermLoop levels s at n c end (more + 1) f
  term-again l h t put = record {
    tree = times l.tree t.tree;
    chain = chain-again _ s l.chain h t.is (omega arith);
    part = joined-part products l.part (omega arith) t.part put;
    some = omega arith;
  }

-- ---- Terms joined by + or -.

abbrev pub SumLoop : ℕ → List ℕ → ℕ → ℕ → List (List ℤ) → ℕ → ℕ → List (List ℤ) → Type 0
SumLoop levels s at n c next count d = Loop (terms (in_brackets levels s) s) s (read_sum (in_brackets levels s) s at) at n c next count d

module _ (levels : ℕ) (s : List ℕ) (at : ℕ) {n next count : ℕ} {c d : List (List ℤ)} where
  pub sum-start : {b all : ℕ} {e : List (List ℤ)} → Told (read_term (in_brackets levels s) s (after_minus s at)) s (after_minus s at) n c next count d
      → b ≡ byte_at s at → all ≡ signed_count b count → e ≡ signed_table b count d → SumLoop levels s at n c next all e
  sum-start t is many signs = rw (many, signs, is) (record {
    tree = signed (byte_at s at) t.tree;
    chain = chain-starts _ s (signed (byte_at s at)) (sum_is _ s at) t.is;
    part = first_part s at t.part;
    some = omega (arith, (sign-grown (byte_at s at) count refl).least);
  })

  pub sum-again : {b end more both : ℕ} {e f g : List (List ℤ)} → SumLoop levels s at n c next count d → is_sign (byte_at s next) ≡ true
      → Told (read_term (in_brackets levels s) s (next + 1)) s (next + 1) count d end more e → b ≡ byte_at s next
      → both ≡ signed_count b more → f ≡ signed_table b more e → g ≡ put_node f both (sum (count - 1) (both - 1)) → SumLoop levels s at n c end (both + 1) g
  sum-again {end = end} {both = both} {f = f} l h t is many signs put =
      let term : Tree = signed (byte_at s next) t.tree in
      let v : Part s next count d (span term end) end both f = rw (many, signs, is) (next-part s next (byte_at s next) t.part) in
      record {
        tree = plus l.tree term;
        chain = chain-again _ s l.chain h t.is (omega arith);
        part = joined-part sums l.part (omega arith) v put;
        some = omega arith;
      }
