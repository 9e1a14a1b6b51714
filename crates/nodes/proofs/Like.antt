-- A node that is judged like one of a table, over ordered sums that are given: check by check, that `form` forms what is judged good, and that `make_node` computes the
-- two numbers that are tested.
use mathlib.Core.Path.{◌≡◌, refl, sym, ◌∙◌, ap, subst}
use mathlib.Core.List.{List, [], map}
use Prim.Native.Nat.{ℕ, ◌≤◌, ◌<◌}
use native.Mathlib.Omega.{arith}
use native.Mathlib.Decide.{dec_lt}
use borrow.Author.Tests.{le-leb, lt-leb}
use lib.IntN.{ℤ}
use lib.ListN.{length, get_or, length-map, get_or-map}
use Rattle.algebra.specs.Limits.{variables, largest_degree, most_terms, largest_weight}
use Rattle.algebra.specs.Sum.{Sum, degree_of, weight}
use Rattle.algebra.specs.Accepted.{Accepted}
use Rattle.answers.specs.Refusals.{DEGREE, WEIGHT, SPREAD}
use Rattle.answers.specs.Judge.{Judged, Judged.good, Judged.fails, holding}
use Rattle.answers.proofs.Judging.{good-fails}
use Rattle.sums.specs.Formed.{Formed.formed, Formed.over, within}
use Rattle.sums.proofs.Forming.{within-yes, within-no, within-formed}
use Rattle.weights.specs.Capped.{capped}
use Rattle.nodes.specs.Node.{Kind}
use Rattle.nodes.specs.Formal.{formal_degree, formal_weight, node_spread, node_sum}
use Rattle.nodes.specs.Like.{judge_like}
use Rattle.nodes.specs.Inside.Work.{sums_at, Keeps, node_formed, Ready}
use Rattle.nodes.specs.Inside.Children.{EachAtMost}
use Rattle.nodes.proofs.Working.{sums-length, sum-there}

-- ---- Check by check.

module _ (place : ℕ) (ss : List Sum) (k : Kind) where
  pub like-high : largest_degree < formal_degree (map degree_of ss) k → judge_like place ss k ≡ fails DEGREE place
  unfolding judge_like holding
  like-high d = rw (lt-leb (formal_degree (map degree_of ss) k) largest_degree d)

  module _ (low : formal_degree (map degree_of ss) k ≤ largest_degree) where
    pub like-heavy : largest_weight < formal_weight (map weight ss) k → judge_like place ss k ≡ fails WEIGHT place
    unfolding judge_like holding
    like-heavy w = rw (le-leb (formal_degree (map degree_of ss) k) largest_degree low, lt-leb (formal_weight (map weight ss) k) largest_weight w)

    module _ (light : formal_weight (map weight ss) k ≤ largest_weight) where
      pub like-wide : most_terms < node_spread ss k → judge_like place ss k ≡ fails SPREAD place
      unfolding judge_like holding
      like-wide s =
          rw (
            le-leb (formal_degree (map degree_of ss) k) largest_degree low,
            le-leb (formal_weight (map weight ss) k) largest_weight light,
            lt-leb (node_spread ss k) most_terms s,
          )

      pub like-good : node_spread ss k ≤ most_terms → judge_like place ss k ≡ good (node_sum ss k)
      unfolding judge_like holding
      like-good s =
          rw (
            le-leb (formal_degree (map degree_of ss) k) largest_degree low,
            le-leb (formal_weight (map weight ss) k) largest_weight light,
            le-leb (node_spread ss k) most_terms s,
          )

-- ---- And back.

-- what is judged good
pub record Liked (ss : List Sum) (k : Kind) (s : Sum) : Type 0 where
  pub low : formal_degree (map degree_of ss) k ≤ largest_degree
  pub light : formal_weight (map weight ss) k ≤ largest_weight
  pub few : node_spread ss k ≤ most_terms
  pub is : s ≡ node_sum ss k

-- the first check that fails, and those before it
pub data Unliked (ss : List Sum) (k : Kind) : ℕ → Type 0 where
  high : largest_degree < formal_degree (map degree_of ss) k → Unliked ss k DEGREE
  heavy : formal_degree (map degree_of ss) k ≤ largest_degree → largest_weight < formal_weight (map weight ss) k → Unliked ss k WEIGHT
  wide : formal_degree (map degree_of ss) k ≤ largest_degree → formal_weight (map weight ss) k ≤ largest_weight → most_terms < node_spread ss k → Unliked ss k SPREAD

module _ (place : ℕ) (ss : List Sum) (k : Kind) where
  pub liked-good : {s : Sum} → Liked ss k s → judge_like place ss k ≡ good s
  liked-good l = like-good place ss k l.low l.light l.few ∙ ap (λ (t : Sum). good t) (sym l.is)

  pub unliked-fails : {refusal : ℕ} → Unliked ss k refusal → judge_like place ss k ≡ fails refusal place
  unliked-fails (high d) = like-high place ss k d
  unliked-fails (heavy d w) = like-heavy place ss k d w
  unliked-fails (wide d w s) = like-wide place ss k d w s

  -- one of the two holds
  data Either : Type 0 where
    liked : Liked ss k (node_sum ss k) → Either
    unliked : (refusal : ℕ) → Unliked ss k refusal → Either

  either : Either
  either = go (dec_lt largest_degree (formal_degree (map degree_of ss) k)) (dec_lt largest_weight (formal_weight (map weight ss) k)) (dec_lt most_terms (node_spread ss k))
    where
      go : Dec (largest_degree < formal_degree (map degree_of ss) k) → Dec (largest_weight < formal_weight (map weight ss) k) → Dec (most_terms < node_spread ss k) → Either
      go (yes d) w s = unliked DEGREE (high d)
      go (no d) (yes w) s = unliked WEIGHT (heavy (omega (arith, d)) w)
      go (no d) (no w) (yes s) = unliked SPREAD (wide (omega (arith, d)) (omega (arith, w)) s)
      go (no d) (no w) (no s) = liked (record { low = omega (arith, d); light = omega (arith, w); few = omega (arith, s); is = refl })

  pub good-liked : {s : Sum} → judge_like place ss k ≡ good s → Liked ss k s
  good-liked {s} e = go either
    where
      go : Either → Liked ss k s
      go (unliked refusal u) = absurd (good-fails (sym e ∙ unliked-fails u))
      go (liked l) =
          let told : good s ≡ good (node_sum ss k) = sym e ∙ liked-good l in
          record { low = l.low; light = l.light; few = l.few; is = cc }

  pub fails-unliked : {refusal p : ℕ} → judge_like place ss k ≡ fails refusal p → Unliked ss k refusal × (p ≡ place)
  fails-unliked {refusal} {p} e = go either
    where
      go : Either → Unliked ss k refusal × (p ≡ place)
      go (liked l) = absurd (good-fails (sym (liked-good l) ∙ e))
      go (unliked other u) =
          let told : ◌≡◌ {A = Judged Sum} (fails refusal p) (fails other place) = sym e ∙ unliked-fails u in
          let same : other ≡ refusal = cc in
          (subst (λ (n : ℕ). Unliked ss k n) same u, cc)

-- a sum that was not formed has too many patterns
within-over : (spread : ℕ) (s : Sum) → within spread s ≡ over → most_terms < spread
within-over spread s e = go (dec_lt most_terms spread)
  where
    go : Dec (most_terms < spread) → most_terms < spread
    go (yes many) = many
    go (no few) =
        let told : formed s ≡ over = sym (within-yes spread s (omega (arith, few))) ∙ e in
        let z : ◌≡◌ {A = ℕ} 0 1 = cc in absurd (omega arith)

-- ---- Of sums that stand in parts of the work areas `form` forms it: degree and weight have passed, and the answer is the judgement.

module _ (place : ℕ) {i : ℕ} {ns : List ℕ} {ws : List ℕ} {cs : List ℤ} {k : Kind} (r : Ready i ns ws cs k) where
  abbrev ss : List Sum
  ss = sums_at i ns ws cs

  pub formed-good : {s : Sum} → node_formed (sums_at i ns ws cs) k ≡ formed s → judge_like place (sums_at i ns ws cs) k ≡ good s
  formed-good e =
      let yes = within-formed (node_spread ss k) (node_sum ss k) e in
      like-good place ss k r.low r.light yes.0 ∙ ap (λ (t : Sum). good t) yes.1

  pub over-fails : node_formed (sums_at i ns ws cs) k ≡ over → judge_like place (sums_at i ns ws cs) k ≡ fails SPREAD place
  over-fails e = like-wide place ss k r.low r.light (within-over (node_spread ss k) (node_sum ss k) e)

  pub good-formed : {s : Sum} → judge_like place (sums_at i ns ws cs) k ≡ good s → node_formed (sums_at i ns ws cs) k ≡ formed s
  good-formed e =
      let l = good-liked place ss k e in
      within-yes (node_spread ss k) (node_sum ss k) l.few ∙ ap (λ (t : Sum). formed t) (sym l.is)

  -- no other check can fail
  pub fails-over : {refusal p : ℕ} → judge_like place (sums_at i ns ws cs) k ≡ fails refusal p → (node_formed (sums_at i ns ws cs) k ≡ over) × (refusal ≡ SPREAD) × (p ≡ place)
  fails-over {refusal} {p} e = let u = fails-unliked place ss k e in go refusal u.0 u.1
    where
      go : (n : ℕ) → Unliked ss k n → p ≡ place → (node_formed (sums_at i ns ws cs) k ≡ over) × (n ≡ SPREAD) × (p ≡ place)
      go n (high d) at = absurd (omega (arith, d, r.low))
      go n (heavy d w) at = absurd (omega (arith, w, r.light))
      go n (wide d w s) at = (within-no (node_spread ss k) (node_sum ss k) s, refl, at)

-- ---- The numbers that `make_node` computes of the degrees and weights of the sums are those that are tested.

-- it can be asked about sums that stand in parts
module _ {i : ℕ} {ns : List ℕ} {ws : List ℕ} {cs : List ℤ} (keeps : Keeps i ns ws cs) where
  accepted : (j : ℕ) → j < i → Accepted variables (get_or (sums_at i ns ws cs) j [])
  accepted j h = rw (sum-there ns ws cs i j h) (keeps.holds j h).accepted

  inside : {n : ℕ} (f : Sum → ℕ) → n < length (map f (sums_at i ns ws cs)) → n < i
  inside f h = omega (arith, h, length-map (sums_at i ns ws cs) f, sums-length ns ws cs i)

  pub degrees-low : EachAtMost largest_degree (map degree_of (sums_at i ns ws cs))
  unfolding degree_of
  degrees-low j h = subst (λ (n : ℕ). n ≤ largest_degree) (sym (get_or-map degree_of (sums_at i ns ws cs) j [])) (accepted j (inside degree_of h)).low

  pub weights-light : EachAtMost largest_weight (map weight (sums_at i ns ws cs))
  unfolding weight
  weights-light j h = subst (λ (n : ℕ). n ≤ largest_weight) (sym (get_or-map weight (sums_at i ns ws cs) j [])) (accepted j (inside weight h)).light

-- a weight as the code keeps it is allowed exactly if the weight is
pub capped-allowed : (w : ℕ) → (capped w ≤ largest_weight → w ≤ largest_weight) × (w ≤ largest_weight → capped w ≤ largest_weight)
capped-allowed w = (λ h. omega (arith, h), λ h. omega (arith, h))

-- d and w are the code's
module _ (place : ℕ) (ss : List Sum) (k : Kind) {d w : ℕ} (degree_is : d ≡ formal_degree (map degree_of ss) k) (weight_is : w ≡ capped (formal_weight (map weight ss) k)) where
  pub made-high : largest_degree < d → judge_like place ss k ≡ fails DEGREE place
  made-high h = like-high place ss k (omega (arith, degree_is, h))

  pub made-heavy : d ≤ largest_degree → largest_weight < w → judge_like place ss k ≡ fails WEIGHT place
  made-heavy l h = like-heavy place ss k (omega (arith, degree_is, l)) (omega (arith, weight_is, h))

  -- both are allowed: so `form` can be asked
  pub made-allowed : d ≤ largest_degree → w ≤ largest_weight → (formal_degree (map degree_of ss) k ≤ largest_degree) × (formal_weight (map weight ss) k ≤ largest_weight)
  made-allowed l h = (omega (arith, degree_is, l), omega (arith, weight_is, h))
