-- The sums of the nodes before stand in their parts of the work areas; and that of one node more.
use mathlib.Core.Path.{◌≡◌, sym, ◌∙◌, ap, ap₂, subst}
use mathlib.Core.List.{List, [], ◌∷◌, ◌++◌}
use Prim.Native.Nat.{ℕ, ◌+◌, ◌*◌, ◌-◌, ◌<◌}
use native.Mathlib.Omega.{arith}
use native.Mathlib.Decide.{dec_lt}
use lib.IntN.{ℤ}
use lib.ListN.{length, get_or, take, set, length-append, length-map, get_or-append}
use lib.Seq.{ext_get_or, get_or_at, get_or-set_same, get_or-set_other}
use Rattle.algebra.specs.Limits.{most_terms}
use Rattle.algebra.specs.Sum.{Sum}
use Rattle.algebra.specs.Word.{terms}
use Rattle.algebra.specs.Held.{words_of, coefficients_of}
use Rattle.answers.proofs.Writes.{written-front}
use Rattle.sums.proofs.Holding.{spells, holds-sum, accepted-holdable}
use Rattle.sums.proofs.Answering.{Known}
use Rattle.sums.specs.Part.{part}
use Rattle.answers.specs.Judge.{Judged, Judged.good, Judged.fails}
use Rattle.formula.specs.Table.{Entry, entry, sums}
use Rattle.formula.specs.Simplify.{last_sum}
use Rattle.nodes.specs.Inside.Work.{sums_at, Keeps}
use Rattle.formula.specs.Inside.Last.{KeepsLast}
use Rattle.formula.proofs.Sound.{node_at, AllSound, sum_of, sound-accepted}
use Rattle.sums.proofs.Parts.{part-before}
use Rattle.nodes.proofs.Working.{sums-length, sum-there}

-- the sum s stands in the first n places of the part of node j
pub record KeptAt (n j : ℕ) (ws : List ℕ) (cs : List ℤ) (s : Sum) : Type 0 where
  pub many : length s ≡ n
  pub words_are : take n (part j ws) ≡ words_of s
  pub coefficients_are : take n (part j cs) ≡ coefficients_of s

-- that of each node, ns having the numbers of terms
abbrev pub AllStand : List Entry → List ℕ → List ℕ → List ℤ → Type 0
AllStand es ns ws cs = (j : ℕ) → j < length es → KeptAt (get_or ns j 0) j ws cs (node_at es j).sum

-- a sum that was formed into the part of node i
pub given-stands : {n : ℕ} (i : ℕ) (ws : List ℕ) (cs : List ℤ) (ws' : List ℕ) (cs' : List ℤ) (spread : ℕ) (s : Sum)
    → Known spread s (part i ws) (part i cs) (part i ws') (part i cs') n → KeptAt n i ws' cs' s
given-stands i ws cs ws' cs' spread s g = record {
  many = g.many;
  words_are = (written-front (words_of s) (part i ws) g.words_are (length-map s _ ∙ g.many)).0;
  coefficients_are = (written-front (coefficients_of s) (part i cs) g.coefficients_are (length-map s _ ∙ g.many)).0;
}

module _ (es : List Entry) {i : ℕ} (count : length es ≡ i) (ns ws : List ℕ) (cs : List ℤ) (stand : AllStand es ns ws cs) where
  -- the areas as the definitions of the work areas say it
  module _ (all : AllSound es) where
    before : {j : ℕ} → j < i → j < length es
    before h = omega (arith, count)

    pub stand-keeps : Keeps i ns ws cs
    stand-keeps = record {
      few = λ j h. omega (arith, (stand j (before h)).many, (all j (before h)).few);
      holds = λ j h. rw ((stand j (before h)).words_are, (stand j (before h)).coefficients_are) (holds-sum (sound-accepted (all j (before h))));
    }

    pub stand-sums : sums_at i ns ws cs ≡ sums es
    stand-sums =
        let as_many = sums-length ns ws cs i in
        ext_get_or [] (sums_at i ns ws cs) (sums es) (as_many ∙ sym (length-map es _ ∙ count)) (λ j h.
        let there : j < length es = omega (arith, h, as_many, count) in
        sum-there ns ws cs i j (omega (arith, h, as_many))
        ∙ ap₂ terms (stand j there).words_are (stand j there).coefficients_are
        ∙ spells (accepted-holdable (sound-accepted (all j there)))
        ∙ sym (sum_of es j))

  -- the next node's sum comes into its part, and the parts before stay
  pub stand-more : (e : Entry) (n : ℕ) (ws' : List ℕ) (cs' : List ℤ) → i < length ns
      → take (most_terms * i) ws' ≡ take (most_terms * i) ws
      → take (most_terms * i) cs' ≡ take (most_terms * i) cs
      → KeptAt n i ws' cs' e.sum
      → AllStand (es ++ (e ∷ [])) (set ns i n) ws' cs'
  stand-more e n ws' cs' room words coefficients s j h = go (dec_lt j i)
    where
      last : length (es ++ (e ∷ [])) ≡ length es + 1
      last = length-append es (e ∷ [])

      go : Dec (j < i) → KeptAt (get_or (set ns i n) j 0) j ws' cs' (node_at (es ++ (e ∷ [])) j).sum
      go (yes k) =
          let there : j < length es = omega (arith, count) in
          rw (get_or-set_other ns i j n 0 (λ same. omega arith), get_or-append es (e ∷ []) (entry 0 0 []) j there)
          (record {
            many = (stand j there).many;
            words_are = ap (take (get_or ns j 0)) (part-before i j ws' ws k words) ∙ (stand j there).words_are;
            coefficients_are = ap (take (get_or ns j 0)) (part-before i j cs' cs k coefficients) ∙ (stand j there).coefficients_are;
          })
      go (no k) =
          let at-end : j ≡ i = omega (arith, h, last, k, count) in
          rw (at-end, get_or-set_same ns i n 0 room, get_or_at es e [] (entry 0 0 []) i count) s

-- the last of them
module _ (es : List Entry) (ns ws : List ℕ) (cs : List ℤ) (stand : AllStand es ns ws cs) (some : 0 < length es) where
  last : KeptAt (get_or ns (length es - 1) 0) (length es - 1) ws cs (last_sum es)
  last = rw (sum_of es (length es - 1)) (stand (length es - 1) (omega arith))

  pub last-many : get_or ns (length es - 1) 0 ≡ length (last_sum es)
  last-many = sym last.many

  pub stand-last : KeptAt (length (last_sum es)) (length es - 1) ws cs (last_sum es)
  stand-last = rw last-many at last

pub last-keeps : {judged : Judged (List Entry)} {es : List Entry} {ws : List ℕ} {cs : List ℤ} → judged ≡ good es
    → KeptAt (length (last_sum es)) (length es - 1) ws cs (last_sum es) → KeepsLast judged ws cs
last-keeps {es = es} {ws = ws} {cs = cs} are s = record {
  words_are = λ nodes is. (last nodes (cc)).words_are;
  coefficients_are = λ nodes is. (last nodes (cc)).coefficients_are;
}
  where
    last : (nodes : List Entry) → es ≡ nodes → KeptAt (length (last_sum nodes)) (length nodes - 1) ws cs (last_sum nodes)
    last nodes same = subst (λ l. KeptAt (length (last_sum l)) (length l - 1) ws cs (last_sum l)) same s

-- nothing is said of the parts where a node is refused
pub none-keeps : {judged : Judged (List Entry)} {refusal p : ℕ} {ws : List ℕ} {cs : List ℤ} → judged ≡ fails refusal p → KeepsLast judged ws cs
none-keeps {judged} are = record { words_are = λ nodes is. absurd (never nodes is); coefficients_are = λ nodes is. absurd (never nodes is) }
  where
    never : (nodes : List Entry) → judged ≡ good nodes → ⊥
    never nodes is = let z : ◌≡◌ {A = ℕ} 0 1 = cc in omega arith
