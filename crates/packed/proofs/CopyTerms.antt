-- What the loop of `copy_terms` keeps: where the words so far are valid, the bytes so far are those of the terms. So if all terms are good, they are what is read there.
use mathlib.Core.Path.{◌≡◌, refl, sym, ◌∙◌, ap, ap₂}
use mathlib.Core.List.{List, [], ◌∷◌, ◌++◌, append_assoc, append-nil}
use Prim.Native.Nat.{ℕ, zero, suc, ◌+◌, ◌≤◌, ◌<◌}
use native.Mathlib.Omega.{arith}
use lib.IntN.{ℤ}
use lib.ListN.{length, get_or, take, drop, set, length-set, length-append, length-drop, take-append-drop}
use lib.Seq.{drop-drop, get_or-drop, length-take-le}
use Rattle.std.specs.Prelude.{Some, None}
use Rattle.algebra.specs.Limits.{variables}
use Rattle.algebra.specs.Sum.{Sum, term}
use Rattle.algebra.specs.Word.{field_size, word, exponents, terms_by, terms, Valid}
use Rattle.algebra.proofs.Patterns.Fields.{Below, Below.none, Below.more}
use Rattle.algebra.proofs.Patterns.Held.{held-length, held-append}
use Rattle.algebra.proofs.Patterns.Word.{exponents-bytes}
use Rattle.answers.specs.Areas.{written}
use Rattle.answers.proofs.Writes.{written_next, written-front, written-kept}
use Rattle.numbers.specs.Item.{Item.got}
use Rattle.numbers.specs.Number.{number_bytes, read_number}
use Rattle.numbers.specs.Code.{code, decode}
use Rattle.numbers.proofs.Codes.{code-decode}
use Rattle.packed.specs.Packed.{exponent_bytes, term_bytes, bytes_of_terms}
use Rattle.packed.specs.Inside.Arrays.{Copies}
use Rattle.packed.proofs.Good.{AllValid, terms-good}
use Rattle.packed.proofs.Sizes.{exponent-bytes-are}
use Rattle.packed.proofs.Trip.{BytesAt, stands-none, stands-both, number-stands, terms-read}

-- ---- Lists that get one more.

valid-both : (a b : List ℕ) → AllValid (a ++ b) → (AllValid a) × (AllValid b)
valid-both [] b h = (tt, h)
valid-both (w ∷ a) b h = let r = valid-both a b h.1 in ((h.0, r.0), r.1)

bytes-both : (a b : Sum) → bytes_of_terms (a ++ b) ≡ bytes_of_terms a ++ bytes_of_terms b
unfolding bytes_of_terms
bytes-both [] b = refl
bytes-both (t ∷ a) b = ap (λ l. term_bytes t ++ l) (bytes-both a b) ∙ sym (append_assoc (term_bytes t) (bytes_of_terms a) (bytes_of_terms b))

bytes-more : (ws : List ℕ) (cs : List ℤ) (w : ℕ) (z : ℤ) → length ws ≡ length cs
    → bytes_of_terms (terms (ws ++ (w ∷ [])) (cs ++ (z ∷ []))) ≡ bytes_of_terms (terms ws cs) ++ term_bytes (term z (exponents w))
unfolding terms terms_by bytes_of_terms
bytes-more ws cs w z e =
    ap bytes_of_terms (held-append exponents ws cs (w ∷ []) (z ∷ []) e)
    ∙ bytes-both (terms ws cs) (term z (exponents w) ∷ [])
    ∙ ap (λ l. bytes_of_terms (terms ws cs) ++ l) (append-nil (term_bytes (term z (exponents w))))

-- ---- One term.

below-first : (n : ℕ) (l : List ℕ) → ((i : ℕ) → get_or l i 0 < field_size) → Below field_size (take n l)
below-first zero l h = none
below-first (suc n) [] h = none
below-first (suc n) (x ∷ l) h = more (h 0) (below-first n l (λ i. h (suc i)))

module _ (s : List ℕ) (byte : (i : ℕ) → get_or s i 0 < 256) where
  -- eight bytes whose word is valid are an exponent each
  exponents-stand : (next w : ℕ) → next + variables ≤ length s → w ≡ word (take variables (drop next s)) → Valid w
      → BytesAt s next (exponent_bytes (exponents w)) (next + variables)
  exponents-stand next w room is valid =
      let p = take variables (drop next s) in
      let long : length p ≡ variables = length-take-le variables (drop next s) (omega (arith, length-drop next s)) in
      let are : exponents w ≡ p = ap exponents is ∙ exponents-bytes p long (below-first variables (drop next s) (λ i. rw (get_or-drop next s i 0) (byte (next + i)))) in
      let bytes : exponent_bytes (exponents w) ≡ p = exponent-bytes-are (exponents w) valid.low ∙ are in
      rw bytes
      record {
        bytes_are = sym (take-append-drop variables (drop next s)) ∙ ap (λ l. p ++ l) (drop-drop variables next s);
        ends = ap (λ (n : ℕ). next + n) (sym long);
      }

  term-stands : (place c next w : ℕ) {z : ℤ} → read_number s place ≡ got c next → next + variables ≤ length s → w ≡ word (take variables (drop next s)) → z ≡ decode c → Valid w
      → BytesAt s place (term_bytes (term z (exponents w))) (next + variables)
  unfolding term_bytes
  term-stands place c next w {z} read room is value valid =
      let bytes : number_bytes (code z) ≡ number_bytes c = ap number_bytes (ap code value ∙ code-decode c) in
      rw bytes (stands-both (number-stands s byte read) (exponents-stand next w room is valid))

-- ---- The loop.

pub record Copying (s : List ℕ) (at count : ℕ) (words₀ : List ℕ) (coefficients₀ : List ℤ) (words : List ℕ) (coefficients : List ℤ) (place k : ℕ) : Type 0 where
  pub ws : List ℕ
  pub cs : List ℤ
  pub words_many : length ws ≡ k
  pub coefficients_many : length cs ≡ k
  pub words_are : words ≡ written ws words₀
  pub coefficients_are : coefficients ≡ written cs coefficients₀
  pub stands : AllValid ws → BytesAt s at (bytes_of_terms (terms ws cs)) place
  pub inside : k ≤ count
  pub words_room : count ≤ length words₀
  pub coefficients_room : count ≤ length coefficients₀
  pub same_words : length words ≡ length words₀
  pub same_coefficients : length coefficients ≡ length coefficients₀

pub start : (s : List ℕ) (at count : ℕ) (words : List ℕ) (coefficients : List ℤ) → count ≤ length words → count ≤ length coefficients
    → Copying s at count words coefficients words coefficients at 0
unfolding terms terms_by bytes_of_terms
start s at count words coefficients words_room coefficients_room = record {
  ws = [];
  cs = [];
  words_many = refl;
  coefficients_many = refl;
  words_are = refl;
  coefficients_are = refl;
  stands = λ valid. stands-none s at;
  inside = omega arith;
  words_room = words_room;
  coefficients_room = coefficients_room;
  same_words = refl;
  same_coefficients = refl;
}

-- one more value
one_more : {A : Type 0} (values area₀ : List A) {area : List A} (k : ℕ) (x : A) → length values ≡ k → k < length area₀ → area ≡ written values area₀
    → set area k x ≡ written (values ++ (x ∷ [])) area₀
one_more values area₀ {area} k x many room are =
    ap₂ (λ (l : _) (i : ℕ). set l i x) are (sym many) ∙ written_next values area₀ x (omega (arith, many))

module _ {s : List ℕ} {at count : ℕ} {words₀ : List ℕ} {coefficients₀ : List ℤ} {words : List ℕ} {coefficients : List ℤ} {place k : ℕ}
    (c : Copying s at count words₀ coefficients₀ words coefficients place k) where
  pub again : ((i : ℕ) → get_or s i 0 < 256) → k < count → {n next w : ℕ} {z : ℤ} → read_number s place ≡ got n next → next + variables ≤ length s
      → w ≡ word (take variables (drop next s)) → z ≡ decode n
      → Copying s at count words₀ coefficients₀ (set words k w) (set coefficients k z) (next + variables) (k + 1)
  again byte h {n} {next} {w} {z} read room is value = record {
    ws = c.ws ++ (w ∷ []);
    cs = c.cs ++ (z ∷ []);
    words_many = omega (arith, length-append c.ws (w ∷ []), c.words_many);
    coefficients_many = omega (arith, length-append c.cs (z ∷ []), c.coefficients_many);
    words_are = one_more c.ws words₀ k w c.words_many (omega (arith, c.words_room)) c.words_are;
    coefficients_are = one_more c.cs coefficients₀ k z c.coefficients_many (omega (arith, c.coefficients_room)) c.coefficients_are;
    stands = λ valid.
        let both = valid-both c.ws (w ∷ []) valid in
        rw (bytes-more c.ws c.cs w z (c.words_many ∙ sym c.coefficients_many))
        (stands-both (c.stands both.0) (term-stands s byte place n next w read room is value both.1.0));
    inside = omega arith;
    words_room = c.words_room;
    coefficients_room = c.coefficients_room;
    same_words = length-set words k w ∙ c.same_words;
    same_coefficients = length-set coefficients k z ∙ c.same_coefficients;
  }

  words_kept : words ≡ written (take count words) words₀
  words_kept = written-kept c.ws words₀ count c.words_are (omega (arith, c.words_many, c.inside)) (omega (arith, c.same_words, c.words_room))

  coefficients_kept : coefficients ≡ written (take count coefficients) coefficients₀
  coefficients_kept =
      written-kept c.cs coefficients₀ count c.coefficients_are (omega (arith, c.coefficients_many, c.inside)) (omega (arith, c.same_coefficients, c.coefficients_room))

  -- the terms are not all like that
  pub stops : Copies count s at None words₀ coefficients₀ words coefficients
  stops = record {
    words_kept = words_kept;
    coefficients_kept = coefficients_kept;
    are = λ end is good. let z : ◌≡◌ {A = ℕ} 0 1 = cc in absurd (omega arith);
  }

  pub ended : count ≤ k → Copies count s at (Some place) words₀ coefficients₀ words coefficients
  unfolding terms
  ended h = record {
    words_kept = words_kept;
    coefficients_kept = coefficients_kept;
    are = λ end is good.
        let full : k ≡ count = omega (arith, c.inside) in
        let words-first = (written-front c.ws words₀ c.words_are (c.words_many ∙ full)).0 in
        let coefficients-first = (written-front c.cs coefficients₀ c.coefficients_are (c.coefficients_many ∙ full)).0 in
        let sum = terms c.ws c.cs in
        let all = terms-good [] c.ws c.cs (rw (words-first, coefficients-first) at good ∙ sym (c.words_many ∙ full)) in
        let there = c.stands all.0 in
        let many : length sum ≡ count = held-length exponents c.ws c.cs (c.words_many ∙ sym c.coefficients_many) ∙ c.words_many ∙ full in
        let read = terms-read s variables [] sum at (drop place s) all.1 there.bytes_are in
        let same : place ≡ end = cc in
        rw (words-first, coefficients-first) (rw many at read ∙ ap (got sum) (sym there.ends ∙ same));
  }
