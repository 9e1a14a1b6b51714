-- Running sums as other crates see them, which do not open their areas: by the words of their patterns.
use mathlib.Core.Path.{◌≡◌, sym, ◌∙◌, ap, subst}
use mathlib.Core.List.{List, map}
use Prim.Native.Nat.{ℕ}
use lib.IntN.{ℤ}
use lib.ListN.{length, take, length-map}
use Rattle.algebra.specs.Sum.{Sum}
use Rattle.algebra.specs.Arithmetic.{pairs}
use Rattle.algebra.specs.Word.{terms, EachValid}
use Rattle.algebra.specs.Inside.Rank.{rank_of, word_at}
use Rattle.algebra.specs.Held.{words_of, coefficients_of, first_terms}
use Rattle.answers.specs.Areas.{written}
use Rattle.answers.proofs.Writes.{written-front}
use Rattle.sums.specs.Formed.{Formed, with_row}
use Rattle.sums.specs.Rows.{Added, running_into, running_words, CanAddProduct}
use Rattle.sums.proofs.Holding.{map-take, each-valid, holds}
use Rattle.sums.proofs.Fronts.{Placed}
use Rattle.sums.proofs.Ranking.{ranked-words}
use Rattle.sums.proofs.Pairing.{answer-holdable}
use Rattle.sums.proofs.Clearing.{ranked-added}
use Rattle.sums.proofs.AddingPairs.{can-add}

pub running-many : (ks : List ℕ) → length (running_words ks) ≡ length ks
running-many ks = length-map ks word_at

pub running-take : (n : ℕ) (ks : List ℕ) → running_words (take n ks) ≡ take n (running_words ks)
running-take n ks = map-take word_at n ks

-- what `begin` puts there: the code lends the places of a sum from 0 to n, which are `count` many
pub begun : {s : Sum} {n count : ℕ} {ws : List ℕ} {cs : List ℤ} → Placed s n ws cs → count ≡ n → (ks₀ : List ℕ) (ds₀ : List ℤ) {ks : List ℕ} {ds : List ℤ}
    → ks ≡ written (map rank_of (take count ws)) ks₀ → ds ≡ written (take count cs) ds₀ → Placed s n (running_words ks) ds
begun {s} {n} {count} {ws} {cs} p all-lent ks₀ ds₀ {ks} ranks coefficients =
    let words : take count ws ≡ words_of s = ap (λ (i : ℕ). take i ws) all-lent ∙ p.stands.words_are in
    let values : take count cs ≡ coefficients_of s = ap (λ (i : ℕ). take i cs) all-lent ∙ p.stands.coefficients_are in
    let each : EachValid (take count ws) = subst EachValid (sym words) (each-valid (holds p.holdable)) in
    record {
      stands = record {
        number_is = p.stands.number_is;
        words_are = sym (map-take word_at n ks) ∙ ranked-words (take count ws) ks₀ each ranks (ap length words ∙ length-map s _ ∙ sym p.stands.number_is) ∙ words;
        coefficients_are = (written-front (take count cs) ds₀ coefficients (ap length values ∙ length-map s _ ∙ sym p.stands.number_is)).0 ∙ values;
      };
      holdable = p.holdable;
    }

-- what `add_product` answers
pub product-added : {ks : List ℕ} {cs : List ℤ} {n : ℕ} {sp : List ℕ} {sc : List ℤ} {tp : List ℕ} {tc : List ℤ} → CanAddProduct ks cs n sp sc tp tc
    → (ks₀ : List ℕ) (cs₀ : List ℤ) {answer : Formed ℕ} (ks' : List ℕ) {cs' : List ℤ} → (answer, ks', cs') ≡ running_into (with_row (pairs (terms sp sc) (terms tp tc)) (first_terms n (running_words ks) cs)) ks₀ cs₀
    → Added (with_row (pairs (terms sp sc) (terms tp tc)) (first_terms n (running_words ks) cs)) answer (running_words ks') cs'
product-added g ks₀ cs₀ ks' told = ranked-added _ (answer-holdable (can-add g)) ks₀ cs₀ ks' told
