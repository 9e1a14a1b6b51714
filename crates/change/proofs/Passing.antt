-- The pairs of a list all pass, or one check is the first that fails; and they are judged exactly so.
use mathlib.Core.Path.{◌≡◌, refl, sym, ◌∙◌, ap, subst}
use mathlib.Core.List.{List, [], ◌∷◌, ◌++◌}
use Prim.Native.Nat.{ℕ, suc, ◌+◌, ◌<◌}
use native.Mathlib.Omega.{arith}
use native.Mathlib.Decide.{dec_lt}
use native.Mathlib.Nat.{add-zero, zero-add}
use borrow.Author.Tests.{le-leb, lt-leb}
use lib.ListN.{length}
use Rattle.algebra.specs.Limits.{variables, largest_degree, most_terms, largest_weight}
use Rattle.algebra.specs.Sum.{Sum}
use Rattle.algebra.specs.Substitute.{pair_degree, pair_weight, pair_spread}
use Rattle.answers.specs.Judge.{Judged.good, Judged.fails, holding, and_then}
use Rattle.answers.proofs.Judging.{good-fails}
use Rattle.change.specs.Pairs.{Pair}
use Rattle.change.specs.Substitute.{put_in, judge_pair, judge_pairs}
use Rattle.change.specs.Checks.{Passes, Applied, Applied.none, Applied.more, Fails, Fails.degree, Fails.weight, Fails.spread, FirstFault}

-- ---- One pair.

module _ (j : ℕ) (p : Pair) (s : Sum) where
  pub passes-judge : Passes p s → judge_pair j p s ≡ good (put_in p s)
  unfolding judge_pair holding
  passes-judge q =
      rw (
        le-leb (pair_degree p.variable p.sum s) largest_degree q.degree,
        le-leb (pair_weight p.variable p.sum s) largest_weight q.weight,
        le-leb (pair_spread variables p.variable p.sum s) most_terms q.spread,
      )

  pub fails-judge : {refusal : ℕ} → Fails p s refusal → judge_pair j p s ≡ fails refusal j
  unfolding judge_pair holding
  fails-judge (degree d) = rw (lt-leb (pair_degree p.variable p.sum s) largest_degree d)
  fails-judge (weight d w) =
      rw (le-leb (pair_degree p.variable p.sum s) largest_degree d, lt-leb (pair_weight p.variable p.sum s) largest_weight w)
  fails-judge (spread d w m) =
      rw (
        le-leb (pair_degree p.variable p.sum s) largest_degree d,
        le-leb (pair_weight p.variable p.sum s) largest_weight w,
        lt-leb (pair_spread variables p.variable p.sum s) most_terms m,
      )

-- either it passes, or one check is the first that fails
pub data Tried (p : Pair) (s : Sum) : Type 0 where
  passes : Passes p s → Tried p s
  stops : (refusal : ℕ) → Fails p s refusal → Tried p s

pub tried : (p : Pair) (s : Sum) → Tried p s
tried p s =
    go (dec_lt largest_degree (pair_degree p.variable p.sum s)) (dec_lt largest_weight (pair_weight p.variable p.sum s))
    (dec_lt most_terms (pair_spread variables p.variable p.sum s))
  where
    go : Dec (largest_degree < pair_degree p.variable p.sum s) → Dec (largest_weight < pair_weight p.variable p.sum s)
        → Dec (most_terms < pair_spread variables p.variable p.sum s) → Tried p s
    go (yes d) w m = stops _ (degree d)
    go (no d) (yes w) m = stops _ (weight (omega (arith, d)) w)
    go (no d) (no w) (yes m) = stops _ (spread (omega (arith, d)) (omega (arith, w)) m)
    go (no d) (no w) (no m) = passes (record { degree = omega (arith, d); weight = omega (arith, w); spread = omega (arith, m) })

-- a pair that is judged good passes, and t is what it makes of s
pub judge-passes : (j : ℕ) (p : Pair) (s : Sum) {t : Sum} → judge_pair j p s ≡ good t → (Passes p s) × (t ≡ put_in p s)
judge-passes j p s {t} e = go (tried p s)
  where
    go : Tried p s → (Passes p s) × (t ≡ put_in p s)
    go (passes q) = let both : good t ≡ good (put_in p s) = sym e ∙ passes-judge j p s q in (q, cc)
    go (stops refusal f) = absurd (good-fails (sym e ∙ fails-judge j p s f))

-- ---- The pairs, from pair j on.

pub applied-judge : {ps : List Pair} {s t : Sum} (j : ℕ) → Applied ps s t → judge_pairs j ps s ≡ good t
unfolding judge_pairs and_then
applied-judge j none = refl
applied-judge j (more {p = p} {s = s} q a) = rw (passes-judge j p s q) (applied-judge (suc j) a)

-- pairs that pass are judged so, whatever follows them
passed-before : {passed : List Pair} {s between : Sum} (j : ℕ) → Applied passed s between → (rest : List Pair)
    → judge_pairs j (passed ++ rest) s ≡ judge_pairs (j + length passed) rest between
unfolding judge_pairs and_then
passed-before {between = between} j none rest = ap (λ (i : ℕ). judge_pairs i rest between) (sym (add-zero j))
passed-before {between = between} j (more {p = p} {ps = ps} {s = s} q a) rest =
    let next : suc j + length ps ≡ j + length (p ∷ ps) = omega arith in
    rw (passes-judge j p s q) (passed-before (suc j) a rest ∙ ap (λ (i : ℕ). judge_pairs i rest between) next)

pub fault-judge : {ps : List Pair} {s : Sum} {refusal k : ℕ} → FirstFault ps s refusal k → judge_pairs 0 ps s ≡ fails refusal k
unfolding judge_pairs and_then
fault-judge {s = s} {refusal = refusal} f =
    ap (λ (l : List Pair). judge_pairs 0 l s) f.pairs_are
    ∙ passed-before 0 f.applied (f.p ∷ f.rest)
    ∙ ap (λ j. and_then j (judge_pairs (suc (0 + length f.passed)) f.rest)) (fails-judge (0 + length f.passed) f.p f.between f.fails)
    ∙ ap (λ (i : ℕ). fails refusal i) (zero-add (length f.passed) ∙ f.at_pair)

-- ---- There is nothing else.

pub data Verdict (ps : List Pair) (s : Sum) : Type 0 where
  all : (t : Sum) → Applied ps s t → Verdict ps s
  first : (refusal k : ℕ) → FirstFault ps s refusal k → Verdict ps s

pub verdict : (ps : List Pair) (s : Sum) → Verdict ps s
verdict [] s = all s none
verdict (p ∷ ps) s = go (tried p s) (verdict ps (put_in p s))
  where
    go : Tried p s → Verdict ps (put_in p s) → Verdict (p ∷ ps) s
    go (stops refusal f) v =
        first refusal 0 (record { passed = []; p = p; rest = ps; between = s; pairs_are = refl; applied = none; at_pair = refl; fails = f })
    go (passes q) (all t a) = all t (more q a)
    go (passes q) (first refusal k f) =
        first refusal (suc k)
        (record {
          passed = p ∷ f.passed;
          p = f.p;
          rest = f.rest;
          between = f.between;
          pairs_are = ap (λ (l : List Pair). p ∷ l) f.pairs_are;
          applied = more q f.applied;
          at_pair = ap suc f.at_pair;
          fails = f.fails;
        })

pub judge-applied : {ps : List Pair} {s t : Sum} → judge_pairs 0 ps s ≡ good t → Applied ps s t
judge-applied {ps} {s} {t} e = go (verdict ps s)
  where
    go : Verdict ps s → Applied ps s t
    go (all u a) =
        let both : good u ≡ good t = sym (applied-judge 0 a) ∙ e in
        let same : u ≡ t = cc in
        subst (Applied ps s) same a
    go (first refusal k f) = absurd (good-fails (sym e ∙ fault-judge f))
