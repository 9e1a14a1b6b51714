-- Typed formulas, with the nodes of their tables or where they stop: one table, which the checker computes. (Document 01's cases are in `promises`.)
use mathlib.Core.Path.{◌≡◌, refl}
use mathlib.Core.List.{List, [], ◌∷◌, ◌++◌}
use Prim.Native.Nat.{ℕ, zero, suc, ◌^◌}
use Prim.Native.String.{String}
use lib.IntN.{pos, negsuc}
use Rattle.answers.proofs.Tables.{◌also◌}
use Rattle.answers.specs.Promised.{Each}
use Rattle.answers.specs.Refusals.{TEXT, NODES}
use Rattle.answers.specs.Judge.{Judged, Judged.good, Judged.fails, holding, and_then}
use Rattle.nodes.specs.Node.{Kind, Kind.integer, Kind.variable, Kind.sum, Kind.product, Kind.power}
use Rattle.answers.specs.Quoted.{quoted}
use Rattle.text.specs.Signs.{is_digit}
use Rattle.text.specs.Letters.{letter_of}
use Rattle.text.specs.Tree.{Tree, node_count, nodes_of}
use Rattle.text.specs.Reader.{takes, more_digits, digits_at, read_atom, read_exponent, read_factor, read_more, is_times, read_term, is_sign, signed, after_minus, read_sum, in_brackets, read_whole}
use Rattle.text.specs.Text.{judge_text}

-- ---- A case is a text, with the nodes of its formula, or the refusal and its place.

pub record Case : Type 0 where
  pub text : List ℕ
  pub gives : Judged (List Kind)

abbrev pub nodes_in : Judged Tree → Judged (List Kind)
nodes_in (good t) = good (nodes_of 0 t)
nodes_in (fails refusal place) = fails refusal place

abbrev pub Says : Case → Type 0
Says c = nodes_in (judge_text c.text) ≡ c.gives

-- ---- Short names.

becomes : String → List Kind → Case
becomes text nodes = record { text = quoted text; gives = good nodes }

-- TEXT, at the place
stops : String → ℕ → Case
stops text place = record { text = quoted text; gives = fails TEXT place }

a : Kind
a = variable 0

b : Kind
b = variable 1

minus_one : Kind
minus_one = integer (negsuc 0)

-- so many bytes, one after the other
times : ℕ → List ℕ → List ℕ
times zero bytes = []
times (suc n) bytes = bytes ++ times n bytes

-- a letter in so many brackets
deep : ℕ → List ℕ
deep n = times n (quoted "(") ++ (quoted "a" ++ times n (quoted ")"))

-- ---- The table.

pub table : List Case
unfolding becomes stops a b minus_one times deep
table =
    -- exponents up to 60, once each
    becomes "a^60" (a ∷ power 0 60 ∷ [])
    ∷ becomes "a^60*a" (a ∷ power 0 60 ∷ a ∷ product 1 2 ∷ [])
    ∷ becomes "0^0" (integer (pos 0) ∷ power 0 0 ∷ [])
    ∷ stops "a^600" 4
    ∷ stops "a^00" 3
    ∷ stops "a^" 2
    ∷ stops "a^2^3" 3
    ∷ stops "a^-1" 2
    -- a minus is for the whole term, and stands before a sum's first term or between two; operators group to the left
    ∷ becomes "(a+b)^2-b^2" (a ∷ b ∷ sum 0 1 ∷ power 2 2 ∷ b ∷ power 4 2 ∷ minus_one ∷ product 6 5 ∷ sum 3 7 ∷ [])
    ∷ becomes "a-a" (a ∷ a ∷ minus_one ∷ product 2 1 ∷ sum 0 3 ∷ [])
    ∷ becomes "-a*b" (a ∷ b ∷ product 0 1 ∷ minus_one ∷ product 3 2 ∷ [])
    ∷ becomes "-a^2" (a ∷ power 0 2 ∷ minus_one ∷ product 2 1 ∷ [])
    ∷ becomes "a*(-b)" (a ∷ b ∷ minus_one ∷ product 2 1 ∷ product 0 3 ∷ [])
    ∷ becomes "a*b*a" (a ∷ b ∷ product 0 1 ∷ a ∷ product 2 3 ∷ [])
    ∷ stops "a*-b" 2
    ∷ stops "a+-b" 2
    ∷ stops "--a" 1
    -- numbers up to 2^62, with no leading zero
    ∷ becomes "4611686018427387904" (integer (pos (2 ^ 62)) ∷ [])
    ∷ becomes "4611686018427387904+1-1" (integer (pos (2 ^ 62)) ∷ integer (pos 1) ∷ sum 0 1 ∷ integer (pos 1) ∷ minus_one ∷ product 4 3 ∷ sum 2 5 ∷ [])
    ∷ becomes "0*4611686018427387904" (integer (pos 0) ∷ integer (pos (2 ^ 62)) ∷ product 0 1 ∷ [])
    ∷ stops "4611686018427387905" 18
    ∷ stops "46116860184273879040" 19
    ∷ stops "01" 1
    -- texts that could go on, a byte that stands nowhere, a letter that names nothing
    ∷ stops "" 0
    ∷ stops "-" 1
    ∷ stops "a+" 2
    ∷ stops "(a" 2
    ∷ stops "()" 1
    ∷ stops "a)" 1
    ∷ stops "a b" 1
    ∷ stops "ab" 1
    ∷ stops "i" 0
    -- 16 brackets, and 17
    ∷ record { text = deep 16; gives = good (a ∷ []) }
    ∷ record { text = deep 17; gives = fails TEXT 16 }
    -- 65 nodes; TEXT comes before NODES
    ∷ record { text = times 32 (quoted "a*") ++ quoted "a"; gives = fails NODES 0 }
    ∷ record { text = times 33 (quoted "a*"); gives = fails TEXT 66 }
    -- 1,024 bytes, and one more: then nothing else counts
    ∷ record { text = times 1024 (quoted " "); gives = fails TEXT 0 }
    ∷ record { text = times 1025 (quoted " "); gives = fails TEXT 1024 }
    ∷ []

pub cases-hold : Each Says table
unfolding table becomes stops a b minus_one times deep quoted nodes_of node_count holding and_then is_digit letter_of takes more_digits digits_at read_atom read_exponent read_factor read_more is_times read_term is_sign signed after_minus read_sum in_brackets read_whole judge_text
cases-hold =
    refl also refl also refl also refl also refl also refl also refl also refl
    also refl also refl also refl also refl also refl also refl also refl also refl also refl
    also refl also refl also refl also refl also refl also refl
    also refl also refl also refl also refl also refl also refl also refl also refl also refl
    also refl also refl
    also refl also refl
    also refl also refl
    also tt
