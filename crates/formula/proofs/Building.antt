-- What the loop over the nodes keeps: the nodes before have passed, and their sums stand in the work areas. Each check of the next node
-- gives its refusal, or the node is one more of them.
use mathlib.Core.Path.{◌≡◌, refl, sym, ◌∙◌, ap, ap₂, subst}
use mathlib.Core.List.{List, [], ◌∷◌, ◌++◌, map, map-append, append-nil}
use Prim.Native.Nat.{ℕ, suc, ◌+◌, ◌*◌, ◌-◌, ◌/◌, ◌≤◌, ◌<◌}
use native.Mathlib.Omega.{arith}
use native.Mathlib.Numerals.{add-one}
use lib.Dec.{T}
use lib.IntN.{ℤ, pos}
use lib.ListN.{length, get_or, take, drop, set, length-append, length-set}
use lib.Seq.{take-suc-set}
use Rattle.algebra.specs.Limits.{largest_degree, most_terms, largest_weight, most_nodes, work_places}
use Rattle.algebra.specs.Sum.{Sum, degree_of, weight}
use Rattle.answers.specs.Refusals.{NODE, DEGREE, WEIGHT, SPREAD}
use Rattle.answers.specs.Answers.{Told, Told.done, Told.refused}
use Rattle.sums.specs.Formed.{formed_of}
use Rattle.std.specs.Prelude.{Option, Some, None, Err}
use Rattle.std.specs.Option.{ok_or}
use Rattle.sums.proofs.Answering.{given, refused as refused-formed}
use Rattle.answers.specs.Judge.{Judged, Judged.good, Judged.fails}
use Rattle.numbers.proofs.Signs.{held}
use mir.Syntax.{w64}
use mir.Val.{SFits}
use mir.ValLaws.{to_z-of_z}
use Rattle.nodes.specs.Node.{Kind, numbers_of, table_of, is_node, read_node}
use Rattle.nodes.specs.declared.Node.{Node}
use Rattle.nodes.specs.Inside.Code.{formal_degrees, formal_weights}
use Rattle.nodes.specs.Formal.{formal_degree, formal_weight, node_spread, node_sum}
use Rattle.nodes.specs.Inside.Children.{EachAtMost}
use Rattle.formula.specs.Table.{Entry, degrees, weights, sums, entry_of, judge_nodes}
use Rattle.formula.specs.Checks.{Passed, Passed.none, Passed.more, Fault, Fault.node as node-fault, Fault.degree as degree-fault, Fault.weight as weight-fault, Fault.spread as spread-fault}
use Rattle.sums.specs.Part.{part}
use Rattle.nodes.specs.Inside.Work.{sums_at, Keeps, node_formed, FormedAt}
use Rattle.formula.specs.Inside.Last.{terms_told, KeepsLast}
use Rattle.sums.proofs.Parts.{drop-further}
use Rattle.nodes.proofs.Spelled.{read_numbers, Spells, read-says}
use Rattle.formula.proofs.Sound.{AllSound, degree-of, weight-of, sound-at, own-degree, own-weight}
use Rattle.formula.proofs.Passing.{passed-sound, passed_length, table-length, table_more, fault-judge, all-judge}
use Rattle.formula.specs.Inside.Shape.{Shaped}
use Rattle.formula.proofs.Standing.{AllStand, given-stands, stand-keeps, stand-sums, stand-more, stand-last, last-many, last-keeps, none-keeps}

-- ---- What was read of three numbers, as the machine holds them.

pub read_held : (i : ℕ) (numbers : List ℤ) {r : Judged Kind} → SFits w64 (get_or numbers 0 (pos 0)) → SFits w64 (get_or numbers 1 (pos 0)) → SFits w64 (get_or numbers 2 (pos 0))
    → r ≡ read_node i (held (get_or numbers 0 (pos 0))) (held (get_or numbers 1 (pos 0))) (held (get_or numbers 2 (pos 0))) → r ≡ read_numbers i numbers
read_held i numbers fits fits' fits'' e = rw (to_z-of_z w64 _ fits, to_z-of_z w64 _ fits', to_z-of_z w64 _ fits'') at e

-- what is missing is refused
pub missing : {A E : Type 0} (o : Option A) {e x : E} → Err x ≡ ok_or o e → (o ≡ None) × (x ≡ e)
missing None h = (refl, cc)
missing (Some a) h = cc

-- ---- One node more, in the list of nodes.

numbered : (f : Entry → ℕ) (g : Node → ℕ) (es : List Entry) (e : Entry) (nodes : List Node) (i : ℕ) (n : Node) → i < length nodes → map g (take i nodes) ≡ map f es → g n ≡ f e
    → map g (take (i + 1) (set nodes i n)) ≡ map f (es ++ (e ∷ []))
numbered f g es e nodes i n room are is =
    rw (add-one i)
    (ap (map g) (take-suc-set nodes i n room) ∙ map-append g (take i nodes) (n ∷ []) ∙ ap₂ (λ (l : List ℕ) (m : ℕ). l ++ (m ∷ [])) are is ∙ sym (map-append f es (e ∷ [])))

-- ---- The loop: i nodes have been formed, ns has their numbers of terms, and `rest` is what is left of the table.

pub record Building (table : List ℤ) (ws₀ : List ℕ) (cs₀ : List ℤ) (ws : List ℕ) (cs : List ℤ) (nodes : List Node) (ns : List ℕ) (i : ℕ) (rest : List ℤ) : Type 0 where
  pub ks : List Kind
  pub es : List Entry
  pub passed : Passed ks es
  pub table_is : table ≡ table_of ks ++ rest
  pub count : length es ≡ i
  pub stand : AllStand es ns ws cs
  pub degrees_are : formal_degrees (take i nodes) ≡ degrees es
  pub weights_are : formal_weights (take i nodes) ≡ weights es
  pub shape : Shaped (length table) (length table / 3)
  pub nodes_long : length nodes ≡ most_nodes
  pub counts_long : length ns ≡ most_nodes
  pub words_room : work_places ≤ length ws
  pub coefficients_room : work_places ≤ length cs
  pub same_words : length ws ≡ length ws₀
  pub same_coefficients : length cs ≡ length cs₀
  pub words-stay : drop work_places ws ≡ drop work_places ws₀
  pub coefficients_stay : drop work_places cs ≡ drop work_places cs₀

pub start : (table : List ℤ) (ws : List ℕ) (cs : List ℤ) (nodes : List Node) (ns : List ℕ) → Shaped (length table) (length table / 3) → work_places ≤ length ws → work_places ≤ length cs
    → length nodes ≡ most_nodes → length ns ≡ most_nodes → {i : ℕ} → i ≡ 0 → {rest : List ℤ} → rest ≡ table → Building table ws cs ws cs nodes ns i rest
unfolding table_of
start table ws cs nodes ns shaped words_room coefficients_room nodes_long counts_long first all =
    rw (first, all) (
    record {
      ks = [];
      es = [];
      passed = none;
      table_is = refl;
      count = refl;
      stand = λ j h. absurd (omega arith);
      degrees_are = refl;
      weights_are = refl;
      shape = shaped;
      nodes_long = nodes_long;
      counts_long = counts_long;
      words_room = words_room;
      coefficients_room = coefficients_room;
      same_words = refl;
      same_coefficients = refl;
      words-stay = refl;
      coefficients_stay = refl;
    })

no_more : (l : List ℤ) → length l ≡ 0 → l ≡ []
no_more [] h = refl
no_more (x ∷ l) h = absurd (omega arith)

-- what is to be ensured of an answer
pub record Ensured (table : List ℤ) (ws₀ : List ℕ) (cs₀ : List ℤ) (ws : List ℕ) (cs : List ℤ) (answer : Told) : Type 0 where
  pub told_is : answer ≡ terms_told (judge_nodes [] table)
  pub keeps_last : KeepsLast (judge_nodes [] table) ws cs
  pub words-stay : drop work_places ws ≡ drop work_places ws₀
  pub coefficients_stay : drop work_places cs ≡ drop work_places cs₀

module _ {table : List ℤ} {ws₀ : List ℕ} {cs₀ : List ℤ} {ws : List ℕ} {cs : List ℤ} {nodes : List Node} {ns : List ℕ} {i : ℕ} {rest : List ℤ}
    (b : Building table ws₀ cs₀ ws cs nodes ns i rest) where
  all_sound : AllSound b.es
  all_sound = passed-sound b.passed

  pub degrees-low : EachAtMost largest_degree (formal_degrees (take i nodes))
  degrees-low j h = rw (b.degrees_are, degree-of b.es j) (sound-at b.es all_sound j).low

  pub weights-light : EachAtMost largest_weight (formal_weights (take i nodes))
  weights-light j h = rw (b.weights_are, weight-of b.es j) (sound-at b.es all_sound j).light

  pub keeps : Keeps i ns ws cs
  keeps = stand-keeps b.es b.count ns ws cs b.stand all_sound

  refuses : {refusal : ℕ} {ws' : List ℕ} {cs' : List ℤ} → judge_nodes [] table ≡ fails refusal i
      → drop work_places ws' ≡ drop work_places ws₀ → drop work_places cs' ≡ drop work_places cs₀ → Ensured table ws₀ cs₀ ws' cs' (refused refusal i)
  refuses are words coefficients = record { told_is = rw are refl; keeps_last = none-keeps are; words-stay = words; coefficients_stay = coefficients }

  stops : {refusal : ℕ} → judge_nodes [] table ≡ fails refusal i → Ensured table ws₀ cs₀ ws cs (refused refusal i)
  stops are = refuses are b.words-stay b.coefficients_stay

  left : 3 * i + length rest ≡ length table
  left = omega (arith, ap length b.table_is, length-append (table_of b.ks) rest, table-length b.ks, passed_length b.passed, b.count)

  -- nothing is left: what is answered is the number of terms of the last node
  pub ended : length rest < 3 → Ensured table ws₀ cs₀ ws cs (done (get_or ns (length table / 3 - 1) 0))
  ended h =
      let none_left : rest ≡ [] = no_more rest (omega (arith, left, b.shape.three_each)) in
      let all = b.table_is ∙ ap (λ l. table_of b.ks ++ l) none_left ∙ append-nil (table_of b.ks) in
      let are : judge_nodes [] table ≡ good b.es = all-judge (record { ks = b.ks; table_is = all; passed = b.passed }) in
      let last : length table / 3 - 1 ≡ length b.es - 1 = omega (arith, b.count, left, h) in
      let some : 0 < length b.es = omega (arith, b.count, left, h, b.shape.some) in
      record {
        told_is = rw (are, last, last-many b.es ns ws cs b.stand some) refl;
        keeps_last = last-keeps are (stand-last b.es ns ws cs b.stand some);
        words-stay = b.words-stay;
        coefficients_stay = b.coefficients_stay;
      }

-- ---- Node i is next, and has these numbers.

module _ {table : List ℤ} {ws₀ : List ℕ} {cs₀ : List ℤ} {ws : List ℕ} {cs : List ℤ} {nodes : List Node} {ns : List ℕ} {i : ℕ} (numbers rest : List ℤ)
    (b : Building table ws₀ cs₀ ws cs nodes ns i (numbers ++ rest)) (three : length numbers ≡ 3) where
  pub in-nodes : i < most_nodes
  in-nodes = omega (arith, left b, length-append numbers rest, three, b.shape.three_each, b.shape.few)

  fault-at : {refusal : ℕ} → Fault b.es numbers refusal → judge_nodes [] table ≡ fails refusal i
  fault-at f =
      fault-judge
      (record {
        ks = b.ks;
        before = b.es;
        numbers = numbers;
        rest = rest;
        table_is = b.table_is;
        three = three;
        passed = b.passed;
        at_node = b.count;
        fault = f;
      })

  pub no_node : read_numbers i numbers ≡ fails NODE i → Ensured table ws₀ cs₀ ws cs (refused NODE i)
  no_node e = stops b (fault-at (node-fault (λ k t same. (read-says i numbers three e).2 k (rw b.count at t) same)))

-- ---- They are those of the node k.

pub record Next (table : List ℤ) (ws₀ : List ℕ) (cs₀ : List ℤ) (ws : List ℕ) (cs : List ℤ) (nodes : List Node) (ns : List ℕ) (i : ℕ) (numbers rest : List ℤ) (k : Kind) : Type 0 where
  pub built : Building table ws₀ cs₀ ws cs nodes ns i (numbers ++ rest)
  pub three : length numbers ≡ 3
  pub read : read_numbers i numbers ≡ good k

module _ {table : List ℤ} {ws₀ : List ℕ} {cs₀ : List ℤ} {ws : List ℕ} {cs : List ℤ} {nodes : List Node} {ns : List ℕ} {i : ℕ} {numbers rest : List ℤ} {k : Kind}
    (n : Next table ws₀ cs₀ ws cs nodes ns i numbers rest k) where
  spelled : Spells i numbers k
  spelled = read-says i numbers n.three n.read

  pub node-is : T (is_node i k)
  node-is = spelled.node_is

  is-next : T (is_node (length n.built.es) k)
  is-next = rw n.built.count node-is

  pub few-nodes : i < most_nodes
  few-nodes = in-nodes numbers rest n.built n.three

  kind-fault : {refusal : ℕ} → Fault n.built.es (numbers_of k) refusal → judge_nodes [] table ≡ fails refusal i
  kind-fault {refusal} f = fault-at numbers rest n.built n.three (subst (λ l. Fault n.built.es l refusal) spelled.numbers_are f)

  degree_is : formal_degree (formal_degrees (take i nodes)) k ≡ formal_degree (degrees n.built.es) k
  degree_is = ap (λ l. formal_degree l k) n.built.degrees_are

  weight_is : formal_weight (formal_weights (take i nodes)) k ≡ formal_weight (weights n.built.es) k
  weight_is = ap (λ l. formal_weight l k) n.built.weights_are

  pub high : largest_degree < formal_degree (formal_degrees (take i nodes)) k → Ensured table ws₀ cs₀ ws cs (refused DEGREE i)
  high d = stops n.built (kind-fault (degree-fault k is-next (rw degree_is at d)))

  pub heavy : formal_degree (formal_degrees (take i nodes)) k ≤ largest_degree → largest_weight < formal_weight (formal_weights (take i nodes)) k → Ensured table ws₀ cs₀ ws cs (refused WEIGHT i)
  heavy d w = stops n.built (kind-fault (weight-fault k is-next (rw degree_is at d) (rw weight_is at w)))

-- ---- Its formal degree and weight are allowed: its sum is to be formed.

pub record Allowed (table : List ℤ) (ws₀ : List ℕ) (cs₀ : List ℤ) (ws : List ℕ) (cs : List ℤ) (nodes : List Node) (ns : List ℕ) (i : ℕ) (numbers rest : List ℤ) (k : Kind) : Type 0 where
  pub next : Next table ws₀ cs₀ ws cs nodes ns i numbers rest k
  pub low : formal_degree (formal_degrees (take i nodes)) k ≤ largest_degree
  pub light : formal_weight (formal_weights (take i nodes)) k ≤ largest_weight

module _ {table : List ℤ} {ws₀ : List ℕ} {cs₀ : List ℤ} {ws : List ℕ} {cs : List ℤ} {nodes : List Node} {ns : List ℕ} {i : ℕ} {numbers rest : List ℤ} {k : Kind}
    (a : Allowed table ws₀ cs₀ ws cs nodes ns i numbers rest k) where
  -- the nodes before
  abbrev es : List Entry
  es = a.next.built.es

  low-is : formal_degree (degrees es) k ≤ largest_degree
  low-is = rw (degree_is a.next) at a.low

  light-is : formal_weight (weights es) k ≤ largest_weight
  light-is = rw (weight_is a.next) at a.light

  sums-are : sums_at i ns ws cs ≡ sums es
  sums-are = stand-sums es a.next.built.count ns ws cs a.next.built.stand (all_sound a.next.built)

  pub sums-low : formal_degree (map degree_of (sums_at i ns ws cs)) k ≤ largest_degree
  sums-low = rw sums-are (omega (arith, own-degree es (all_sound a.next.built) k, low-is))

  pub sums-light : formal_weight (map weight (sums_at i ns ws cs)) k ≤ largest_weight
  sums-light = rw sums-are (omega (arith, own-weight es (all_sound a.next.built) k, light-is))

  -- what the code answers, and the areas then
  module _ (r : Option ℕ) {ws' : List ℕ} {cs' : List ℤ} (f : FormedAt i (node_formed (sums_at i ns ws cs) k) (formed_of r) ws cs ws' cs') where
    abbrev spread : ℕ
    spread = node_spread (sums_at i ns ws cs) k

    abbrev sum : Sum
    sum = node_sum (sums_at i ns ws cs) k

    further : most_terms * suc i ≤ work_places
    further = omega (arith, few-nodes a.next)

    words_after : drop work_places ws' ≡ drop work_places ws₀
    words_after = drop-further (most_terms * suc i) work_places ws' ws further f.words_after ∙ a.next.built.words-stay

    coefficients_after : drop work_places cs' ≡ drop work_places cs₀
    coefficients_after = drop-further (most_terms * suc i) work_places cs' cs further f.coefficients_after ∙ a.next.built.coefficients_stay

    pub over : r ≡ None → Ensured table ws₀ cs₀ ws' cs' (refused SPREAD i)
    over key =
        let wide = refused-formed spread sum (part i ws) (part i cs) (part i ws') (part i cs') r key f.in_part in
        refuses a.next.built (kind-fault a.next (spread-fault k (is-next a.next) low-is light-is (rw sums-are at wide))) words_after coefficients_after

    pub again : {n : ℕ} (m : Node) → r ≡ Some n → length ws' ≡ length ws → length cs' ≡ length cs
        → m.degree ≡ formal_degree (formal_degrees (take i nodes)) k → m.weight ≡ formal_weight (formal_weights (take i nodes)) k
        → Building table ws₀ cs₀ ws' cs' (set nodes i m) (set ns i n) (i + 1) rest
    again {n} m is same_words same_coefficients degree_made weight_made =
        let b = a.next.built in
        let g = given spread sum (part i ws) (part i cs) (part i ws') (part i cs') r is f.in_part in
        let e = entry_of es k in
        let spelt = (spelled a.next).numbers_are in
        let sum_is : sum ≡ e.sum = ap (λ l. node_sum l k) sums-are in
        let there : i < length nodes = omega (arith, few-nodes a.next, b.nodes_long) in
        record {
          ks = b.ks ++ (k ∷ []);
          es = es ++ (e ∷ []);
          passed = more b.passed (record { node = is-next a.next; degree = low-is; weight = light-is; spread = rw sums-are at g.few });
          table_is =
              b.table_is
              ∙ ap (λ l. table_of b.ks ++ (l ++ rest)) (sym spelt)
              ∙ sym (table_more b.ks k rest);
          count = length-append es (e ∷ []) ∙ ap (λ (m : ℕ). m + 1) b.count;
          stand =
              stand-more es b.count ns ws cs b.stand e n ws' cs' (omega (arith, few-nodes a.next, b.counts_long)) f.words_before
              f.coefficients_before (rw sum_is at (given-stands i ws cs ws' cs' spread sum g));
          degrees_are = numbered (λ (x : Entry). x.degree) (λ (x : Node). x.degree) es e nodes i m there b.degrees_are (degree_made ∙ degree_is a.next);
          weights_are = numbered (λ (x : Entry). x.weight) (λ (x : Node). x.weight) es e nodes i m there b.weights_are (weight_made ∙ weight_is a.next);
          shape = b.shape;
          nodes_long = length-set nodes i m ∙ b.nodes_long;
          counts_long = length-set ns i n ∙ b.counts_long;
          words_room = omega (arith, b.words_room);
          coefficients_room = omega (arith, b.coefficients_room);
          same_words = same_words ∙ b.same_words;
          same_coefficients = same_coefficients ∙ b.same_coefficients;
          words-stay = words_after;
          coefficients_stay = coefficients_after;
        }
