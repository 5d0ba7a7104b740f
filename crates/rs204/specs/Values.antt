-- Values of single terms, the summands of a polynomial's values.
use Rattle.std.specs.Prelude.{ℕ, zero, suc, ◌*◌, List, [], ◌∷◌}
use Rattle.gf256.specs.Field.{mul, power}

-- the values of c * x^j at n powers of λ, from power i on
abbrev pub term_values : ℕ → ℕ → ℕ → ℕ → List ℕ
term_values c j i zero = []
term_values c j i (suc n) = mul c (power (i * j)) ∷ term_values c j (suc i) n
