-- What a C host learns: its number, and what the lent areas hold, tell the whole outcome of the operation. So whatever is proved of an operation done or refused holds of the number.
-- (That of the estimate is `estimate-heard` of `router`.)
use mathlib.Core.Path.{◌≡◌}
use mathlib.Core.List.{List}
use Prim.Native.Nat.{ℕ, ◌<◌}
use lib.IntN.{ℤ}
use lib.ListN.{get_or}
use Rattle.answers.specs.Answers.{Outcome, outcome}
use Rattle.answers.specs.Host.{hosted, wide_unit, heard}
use Rattle.packed.specs.Result.{WorkAreas}
use Rattle.packed.specs.Unpack.{unpack}
use Rattle.packed.specs.Pack.{pack}
use Rattle.formula.specs.Simplify.{simplify}
use Rattle.text.specs.Text.{read_formula}
use Rattle.change.specs.Slope.{slope}
use Rattle.change.specs.Substitute.{substitute}
use Rattle.spelling.specs.WriteText.{write_text}
use Rattle.answers.proofs.Hosting.{wide-heard, outcome-heard}
use Rattle.answers.specs.Promised.{Hearable}
use Rattle.host.proofs.Fitting.{text-within, simplify-within, unpack-within, pack-within, slope-within, substitute-within, write-within}

wide : {Areas : Type 0} (o : Outcome Areas) → Hearable wide_unit o.answer → {number : ℕ} {a : Areas} → (number, a) ≡ hosted wide_unit o → o ≡ outcome (heard number) a
wide o w e = outcome-heard wide_unit o (wide-heard o.answer w) e

module _ {number : ℕ} where
  pub text-heard : (text : List ℕ) (table : List ℤ) {table' : List ℤ} → (number, table') ≡ hosted wide_unit (read_formula text table) → read_formula text table ≡ outcome (heard number) table'
  text-heard text table e = wide (read_formula text table) (text-within text table) e

  pub simplify-heard : (table : List ℤ) (ws : List ℕ) (cs : List ℤ) (area : List ℕ) {areas : WorkAreas} → (number, areas) ≡ hosted wide_unit (simplify table ws cs area)
      → simplify table ws cs area ≡ outcome (heard number) areas
  simplify-heard table ws cs area e = wide (simplify table ws cs area) (simplify-within table ws cs area) e

  pub pack-heard : (count : ℕ) (ws : List ℕ) (cs : List ℤ) (area : List ℕ) {area' : List ℕ} → (number, area') ≡ hosted wide_unit (pack count ws cs area)
      → pack count ws cs area ≡ outcome (heard number) area'
  pack-heard count ws cs area e = wide (pack count ws cs area) (pack-within count ws cs area) e

  module _ (bytes : List ℕ) (byte : (i : ℕ) → get_or bytes i 0 < 256) where
    pub unpack-heard : (ws : List ℕ) (cs : List ℤ) {areas : List ℕ × List ℤ} → (number, areas) ≡ hosted wide_unit (unpack bytes ws cs) → unpack bytes ws cs ≡ outcome (heard number) areas
    unpack-heard ws cs e = wide (unpack bytes ws cs) (unpack-within bytes byte ws cs) e

    pub slope-heard : (v : ℕ) (area : List ℕ) {area' : List ℕ} → (number, area') ≡ hosted wide_unit (slope bytes v area) → slope bytes v area ≡ outcome (heard number) area'
    slope-heard v area e = wide (slope bytes v area) (slope-within bytes byte v area) e

    pub write-heard : (area : List ℕ) {area' : List ℕ} → (number, area') ≡ hosted wide_unit (write_text bytes area) → write_text bytes area ≡ outcome (heard number) area'
    write-heard area e = wide (write_text bytes area) (write-within bytes byte area) e

    pub substitute-heard : (list ws : List ℕ) (cs : List ℤ) (area : List ℕ) → ((i : ℕ) → get_or list i 0 < 256) → {areas : WorkAreas}
        → (number, areas) ≡ hosted wide_unit (substitute bytes list ws cs area) → substitute bytes list ws cs area ≡ outcome (heard number) areas
    substitute-heard list ws cs area list-byte e = wide (substitute bytes list ws cs area) (substitute-within bytes list ws cs area byte list-byte) e
