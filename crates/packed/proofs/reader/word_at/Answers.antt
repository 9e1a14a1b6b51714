-- `word_at` meets its contract: std puts eight bytes together as a word's exponents stand in it.
use mathlib.Core.Path.{◌≡◌, ◌∙◌, ap}
use mathlib.Core.List.{List}
use Prim.Native.Nat.{ℕ, ◌+◌, ◌-◌}
use native.Mathlib.Omega.{arith}
use borrow.Author.Rules.{rules}
use lib.ListN.{take, drop}
use lib.Seq.{get_or-drop}
use mir.Syntax.{w64}
use Rattle.std.specs.Int.{from_be_bytes}
use Rattle.algebra.specs.Limits.{variables}
use Rattle.packed.proofs.WordAt.{part-bytes, word-read}
use Rattle.packed.proofs.reader.word_at.Goals as goal

pub returns : goal.returns
returns c =
    let rest : List ℕ = drop c.args.at c.args.bytes.now in
    let many : c.args.at + variables - c.args.at ≡ variables = omega arith in
    let part : c.copy_from_slice.new.self ≡ take variables rest = c.copy_from_slice.ensures.after ∙ ap (λ (n : ℕ). take n rest) many in
    word-read (take variables rest) _ (search rules)
    (part-bytes variables rest (λ i. rw (get_or-drop c.args.at c.args.bytes.now i 0) (c.type_inv.bytes (c.args.at + i)).fits))
    (search rules) (c.from_be_bytes.ensures ∙ ap (from_be_bytes w64) part)
