-- An area that is written place by place, from the front.
use mathlib.Core.Path.{◌≡◌, refl, sym, ◌∙◌, ap, ap₂}
use mathlib.Core.List.{List, [], ◌∷◌, ◌++◌, append-nil}
use Prim.Native.Nat.{ℕ, suc, ◌+◌, ◌-◌, ◌≤◌, ◌<◌}
use native.Mathlib.Omega.{arith}
use lib.ListN.{length, get_or, take, drop, set, length-append, replicate, length-replicate, take-append-drop, drop_of_length-le}
use lib.Seq.{set_at, take_at, take_all, drop-cons, drop-drop, drop-append-add, get_or-drop, get_or-append-add, length-take-le, append_snoc}
use Rattle.answers.specs.Areas.{written, cleared}

module _ {A : Type 0} where
  -- the next place gets the next value
  pub written_next : (values area : List A) (v : A) → length values < length area
      → set (written values area) (length values) v ≡ written (values ++ (v ∷ [])) area
  written_next values area v h =
      let k = length values in
      let last : length (values ++ (v ∷ [])) ≡ suc k = omega (arith, length-append values (v ∷ [])) in
      ap (λ l. set (values ++ l) k v) (drop-cons area k v h)
      ∙ set_at values (get_or area k v) (drop (suc k) area) v k refl
      ∙ sym (append_snoc values v (drop (suc k) area))
      ∙ ap (λ (i : ℕ). (values ++ (v ∷ [])) ++ drop i area) (sym last)

  -- what was written stands in the first places
  pub written-front : (values area : List A) {area' : List A} {count : ℕ} → area' ≡ written values area → length values ≡ count
      → (take count area' ≡ values) × (count ≤ length area')
  written-front values area {area'} {count} are many =
      let rest = drop (length values) area in
      (ap (take count) are ∙ take_at values rest count many, omega (arith, ap length are, length-append values rest))

  -- the first places are written as a part of the area
  pub part-written : (values area : List A) (count : ℕ) {part : List A} → part ≡ values → length values ≡ count → part ++ drop count area ≡ written values area
  part-written values area count is many = ap₂ (λ l (n : ℕ). l ++ drop n area) is (sym many)

  pub part-cleared : (zero : A) (area : List A) (count : ℕ) {part : List A} → count ≤ length area → part ≡ replicate (length (take count area)) zero → part ++ drop count area ≡ cleared zero count area
  part-cleared zero area count room is =
      let long = length-take-le count area room in
      part-written (replicate count zero) area count (is ∙ ap (λ (n : ℕ). replicate n zero) long) (length-replicate count zero)

  -- past the values the area stays
  pub drop-written : (values area : List A) (n : ℕ) → length values ≤ n → drop n (written values area) ≡ drop n area
  drop-written values area n h =
      let m = n - length values in
      let is : n ≡ length values + m = omega arith in
      rw is (drop-append-add values (drop (length values) area) m ∙ drop-drop m (length values) area)

  pub getD-written : (values area : List A) (i : ℕ) (d : A) → length values ≤ i → get_or (written values area) i d ≡ get_or area i d
  getD-written values area i d h =
      let m = i - length values in
      let is : i ≡ length values + m = omega arith in
      rw is (get_or-append-add values (drop (length values) area) m d ∙ get_or-drop (length values) area m d)

  -- and as many values or more that are written afterwards leave nothing of the first ones
  pub written_over : (values before area : List A) → length before ≤ length values → written values (written before area) ≡ written values area
  written_over values before area h = ap (λ l. values ++ l) (drop-written before area (length values) h)

  -- at most `count` places were written: the others are as they were
  pub written-kept : (values area : List A) {area' : List A} (count : ℕ) → area' ≡ written values area → length values ≤ count → count ≤ length area'
      → area' ≡ written (take count area') area
  written-kept values area {area'} count are few room =
      sym (take-append-drop count area')
      ∙ ap (λ l. take count area' ++ l) (ap (drop count) are ∙ drop-written values area count few ∙ ap (λ (n : ℕ). drop n area) (sym (length-take-le count area' room)))

  -- an area that is written as a whole holds the values alone
  pub written_all : (values area : List A) → length values ≡ length area → written (take (length area) values) area ≡ values
  written_all values area many =
      let all = take_all (length area) values (omega (arith, many)) in
      let over : length area ≤ length values = omega (arith, many) in
      ap (λ l. written l area) all ∙ ap (λ l. values ++ l) (drop_of_length-le area over) ∙ append-nil values
