-- A contract that names the outcome leaves one.
use mathlib.Core.Path.{◌≡◌, sym, ◌∙◌}

pub same : {A : Type 0} {x y z : A} → x ≡ z → y ≡ z → x ≡ y
same h h' = h ∙ sym h'
