-- What the readers of terms leave in two arrays that are their callers' own.
use Rattle.std.specs.Prelude.{◌≡◌, List, [], map, ℕ, ℤ, pos, length, take, Option, Some}
use Rattle.algebra.specs.Limits.{variables}
use Rattle.algebra.specs.Pattern.{Pattern}
use Rattle.algebra.specs.Sum.{Term, Sum}
use Rattle.algebra.specs.Word.{word}
use Rattle.algebra.specs.Inside.Filled.{filled}
use Rattle.algebra.specs.Held.{words_of, coefficients_of, first_terms}
use Rattle.answers.specs.Answers.{Told.done, Told.refused, Outcome, outcome}
use Rattle.answers.specs.Areas.{written, cleared}
use Rattle.answers.specs.Judge.{Judged, Judged.good, Judged.fails}
use Rattle.numbers.specs.Item.{Item, Item.got, Item.stopped, Fault}
use Rattle.packed.specs.ReadSum.{read_terms}
use Rattle.packed.specs.Pack.{good_terms}

-- the word of a pattern of the first variables: the others have power 0
abbrev pub word_for : Pattern → ℕ
word_for p = word (filled variables p)

abbrev pub words_for : Sum → List ℕ
words_for s = map (λ (t : Term). word_for t.pattern) s

-- arrays that held ws₀ and cs₀ hold the sum, if one was read. Whatever was, only their first `count` places are other than before
pub record Holds (count : ℕ) (item : Item Fault Sum) (ws₀ : List ℕ) (cs₀ : List ℤ) (ws : List ℕ) (cs : List ℤ) : Type 0 where
  pub words_kept : ws ≡ written (take count ws) ws₀
  pub coefficients_kept : cs ≡ written (take count cs) cs₀
  pub words_are : (s : Sum) (next : ℕ) → item ≡ got s next → ws ≡ written (words_for s) ws₀
  pub coefficients_are : (s : Sum) (next : ℕ) → item ≡ got s next → cs ≡ written (coefficients_of s) cs₀

-- the number of terms, and the arrays with them; on a fault the first `count` places are cleared
unfoldable pub taken_into : ℕ → Item Fault Sum → List ℕ → List ℤ → Item Fault ℕ × List ℕ × List ℤ
taken_into count (got s next) ws cs = (got (length s) next, written (words_of s) ws, written (coefficients_of s) cs)
taken_into count (stopped what place) ws cs = (stopped what place, cleared 0 count ws, cleared (pos 0) count cs)

-- the same as an outcome, of an operation that reads all of its bytes
unfoldable pub whole_into : ℕ → Judged Sum → List ℕ → List ℤ → Outcome (List ℕ × List ℤ)
whole_into count (good s) ws cs = outcome (done (length s)) (written (words_of s) ws, written (coefficients_of s) cs)
whole_into count (fails refusal place) ws cs = outcome (refused refusal place) (cleared 0 count ws, cleared (pos 0) count cs)

-- terms were copied, not judged, into the first `count` places of two arrays that held ws₀ and cs₀, and `copied` has the place after them, or is `None`. If they were, and all are good, they are
-- the terms that are read there
pub record Copies (count : ℕ) (s : List ℕ) (at : ℕ) (copied : Option ℕ) (ws₀ : List ℕ) (cs₀ : List ℤ) (ws : List ℕ) (cs : List ℤ) : Type 0 where
  pub words_kept : ws ≡ written (take count ws) ws₀
  pub coefficients_kept : cs ≡ written (take count cs) cs₀
  pub are : (end : ℕ) → copied ≡ Some end → good_terms [] (take count ws) (take count cs) ≡ count → read_terms variables count [] s at ≡ got (first_terms count ws cs) end

-- good terms were read into the first `count` places of two arrays that held ws₀ and cs₀, and `taken` has the place after them; or it is `None`, and only these places are other than before
pub record Takes (count : ℕ) (s : List ℕ) (at : ℕ) (taken : Option ℕ) (ws₀ : List ℕ) (cs₀ : List ℤ) (ws : List ℕ) (cs : List ℤ) : Type 0 where
  pub words_kept : ws ≡ written (take count ws) ws₀
  pub coefficients_kept : cs ≡ written (take count cs) cs₀
  pub are : (end : ℕ) → taken ≡ Some end → (got count end, ws, cs) ≡ taken_into count (read_terms variables count [] s at) ws₀ cs₀
