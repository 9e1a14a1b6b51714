-- Powers of a sum of two terms, as lists of coefficients and of words.
use Rattle.std.specs.Prelude.{List, [], ◌∷◌, ℕ, zero, suc, ◌+◌, ◌*◌, ℤ, nat_abs, ◌+ℤ◌, ◌*ℤ◌}

-- a power times its base, whose coefficients are x and y: each number is made of two that stand side by side; `left` stands before cs
unfoldable pub stepped : ℤ → ℤ → ℤ → List ℤ → List ℤ
stepped x y left [] = (left *ℤ y) ∷ []
stepped x y left (c ∷ cs) = (left *ℤ y +ℤ c *ℤ x) ∷ stepped x y c cs

-- the words of a power whose base has the words p and q: one p less and one q more each time
unfoldable pub mixed : ℕ → ℕ → ℕ → ℕ → List ℕ
mixed p q zero k = (k * q) ∷ []
mixed p q (suc m) k = (suc m * p + k * q) ∷ mixed p q m (suc k)

-- the absolute numbers of a list, added
unfoldable pub sizes : List ℤ → ℕ
sizes [] = 0
sizes (c ∷ cs) = nat_abs c + sizes cs
