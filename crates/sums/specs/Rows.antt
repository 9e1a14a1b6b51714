-- Rows of products, added to a running sum in two areas of the caller's own.
use Rattle.std.specs.Prelude.{◌≡◌, ◌||◌, List, ◌++◌, map, ℕ, ◌+◌, ◌*◌, ◌-◌, ◌^◌, ◌≤◌, ◌<◌, min, T, leb, ℤ, pos, nat_abs, length, take, drop}
use Rattle.algebra.specs.Limits.{largest_degree, most_terms, largest_weight}
use Rattle.algebra.specs.Pattern.{degree}
use Rattle.algebra.specs.Sum.{term, Sum, degree_of, weight}
use Rattle.algebra.specs.Collect.{gather}
use Rattle.algebra.specs.Arithmetic.{row}
use Rattle.algebra.specs.Word.{exponents, terms, Valid}
use Rattle.algebra.specs.Inside.Rank.{rank_of, words_at}
use Rattle.algebra.specs.Held.{words_of, coefficients_of, first_terms}
use Rattle.answers.specs.Areas.{written, cleared}
use Rattle.sums.specs.Held.{Held}
use Rattle.sums.specs.Formed.{Formed, Formed.formed, Formed.over}

-- ---- One row: c times the pattern of the word w times each term of t. The running sum has n terms, in the first places of ws and cs.

pub record CanMerge (ws : List ℕ) (cs : List ℤ) (n w : ℕ) (c : ℤ) (tp : List ℕ) (tc : List ℤ) : Type 0 where
  pub running : Held (take n ws) (take n cs)
  pub few : n ≤ most_terms
  pub factor : Held tp tc
  pub valid : Valid w
  pub low : degree (exponents w) + degree_of (terms tp tc) ≤ largest_degree
  -- every coefficient fits 64 bits, whatever adds up; the row and the running sum need not be accepted together
  pub light : nat_abs c * weight (terms tp tc) + weight (first_terms n ws cs) < 2 ^ 63
  pub words_room : n + length tp ≤ length ws
  pub coefficients_room : n + length tp ≤ length cs

-- the row alone
pub record HasTerm (w : ℕ) (c : ℤ) (tp : List ℕ) (tc : List ℤ) : Type 0 where
  pub factor : Held tp tc
  pub valid : Valid w
  pub low : degree (exponents w) + degree_of (terms tp tc) ≤ largest_degree
  pub light : nat_abs c * weight (terms tp tc) ≤ largest_weight

-- the row and the running sum together; what cancels stays
abbrev pub joined : ℤ → ℕ → List ℕ → List ℤ → ℕ → List ℕ → List ℤ → Sum
joined c w tp tc n ws cs = gather (row (term c (exponents w)) (terms tp tc) ++ first_terms n ws cs)

-- how many terms they have, and the two areas once they stand in the first places: the places after them are 0 up to the last that a merge touches, and all
-- others stay
unfoldable pub joined_into : ℤ → ℕ → List ℕ → List ℤ → ℕ → List ℕ → List ℤ → ℕ × List ℕ × List ℤ
joined_into c w tp tc n ws cs =
    let s = joined c w tp tc n ws cs in
    let end = n + length tp in
    (length s, written (words_of s) (cleared 0 end ws), written (coefficients_of s) (cleared (pos 0) end cs))

-- what stands before place `from`, and from place `to` up to place `end`
abbrev pub closed : {A : Type 0} → ℕ → ℕ → ℕ → List A → List A
closed from to end l = take from l ++ take (end - to) (drop to l)

-- a sum stands in two areas up to place `end`, with a gap in it
pub record Gapped (s : Sum) (ws : List ℕ) (cs : List ℤ) (from to end : ℕ) : Type 0 where
  pub words_are : closed from to end ws ≡ words_of s
  pub coefficients_are : closed from to end cs ≡ coefficients_of s
  pub some : from ≤ to
  pub inside : to ≤ end

-- a sum stands in the first n places of two areas
pub record Stands (s : Sum) (n : ℕ) (ws : List ℕ) (cs : List ℤ) : Type 0 where
  pub number_is : n ≡ length s
  pub words_are : take n ws ≡ words_of s
  pub coefficients_are : take n cs ≡ coefficients_of s

-- ---- All pairs of two sums.

-- an area has room for n terms and as many rows of m terms: for all of them, or for 128 terms and one more row
abbrev pub RoomFor : ℕ → ℕ → ℕ → ℕ → Type 0
RoomFor n rows m places = T (leb (n + rows * m) places || leb (most_terms + m) places)

pub record CanAdd (ws : List ℕ) (cs : List ℤ) (n : ℕ) (sp : List ℕ) (sc : List ℤ) (tp : List ℕ) (tc : List ℤ) : Type 0 where
  pub running : Held (take n ws) (take n cs)
  pub few : n ≤ most_terms
  pub first : Held sp sc
  pub second : Held tp tc
  pub low : degree_of (terms sp sc) + degree_of (terms tp tc) ≤ largest_degree
  pub light : weight (terms sp sc) * weight (terms tp tc) + weight (first_terms n ws cs) ≤ largest_weight
  pub words_room : RoomFor n (length sp) (length tp) (length ws)
  pub coefficients_room : RoomFor n (length sp) (length tp) (length cs)

-- the number of terms
abbrev pub counted : Formed Sum → Formed ℕ
counted (formed s) = formed (length s)
counted over = over

-- the ranks of its patterns
abbrev pub ranks_of : Sum → List ℕ
ranks_of s = map rank_of (words_of s)

-- the number of terms, and two areas with the running sum in their first places, by ranks; without a sum the areas stay
unfoldable pub running_into : Formed Sum → List ℕ → List ℤ → Formed ℕ × List ℕ × List ℤ
running_into (formed s) ks cs = (formed (length s), written (ranks_of s) ks, written (coefficients_of s) cs)
running_into over ks cs = (over, ks, cs)

-- the code's answer, and the two areas: a sum stands in their first places; without a sum nothing is said of them
pub record Added (f : Formed Sum) (answer : Formed ℕ) (ws : List ℕ) (cs : List ℤ) : Type 0 where
  pub number_is : answer ≡ counted f
  pub words_are : (s : Sum) → f ≡ formed s → take (length s) ws ≡ words_of s
  pub coefficients_are : (s : Sum) → f ≡ formed s → take (length s) cs ≡ coefficients_of s

-- ---- A running sum for other crates.

-- the words of a running sum's patterns, in an area that its caller does not open
abbrev pub running_words : List ℕ → List ℕ
running_words ranks = words_at ranks

-- the places that a running sum of n terms takes up while so many pairs are added to it: no more than it and all pairs do, and no more than any running sum
-- and a row do
abbrev pub places_for : ℕ → ℕ → ℕ
places_for n pairs = min (n + pairs) (most_terms + most_terms)

-- all pairs of two sums can be added to a running sum of n terms
pub record CanAddProduct (ranks : List ℕ) (cs : List ℤ) (n : ℕ) (sp : List ℕ) (sc : List ℤ) (tp : List ℕ) (tc : List ℤ) : Type 0 where
  pub running : Held (take n (running_words ranks)) (take n cs)
  pub few : n ≤ most_terms
  pub first : Held sp sc
  pub second : Held tp tc
  pub low : degree_of (terms sp sc) + degree_of (terms tp tc) ≤ largest_degree
  pub light : weight (terms sp sc) * weight (terms tp tc) + weight (first_terms n (running_words ranks) cs) ≤ largest_weight
  pub words_room : places_for n (length sp * length tp) ≤ length ranks
  pub coefficients_room : places_for n (length sp * length tp) ≤ length cs
