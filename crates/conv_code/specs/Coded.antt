-- The coded bits of a path (EN 300 744, 4.3.3).
use Rattle.std.specs.Prelude.{◌≡◌, ℕ, zero, suc, ◌-◌, ◌≤◌, Bool, false, List, [], ◌∷◌, ◌++◌, length, drop}
use Rattle.code_paths.specs.Paths.{parity_x, parity_y}

-- the register before the first bit of a stream
abbrev pub zeros : List Bool
zeros = false ∷ false ∷ false ∷ false ∷ false ∷ false ∷ []

-- X of the first n steps of a path
abbrev pub xs_of : ℕ → List Bool → List Bool
xs_of zero p = []
xs_of (suc n) p = parity_x p ∷ xs_of n (drop 1 p)

-- Y of the first n steps of a path
abbrev pub ys_of : ℕ → List Bool → List Bool
ys_of zero p = []
ys_of (suc n) p = parity_y p ∷ ys_of n (drop 1 p)

-- the number of steps of a path, which has six bits more
abbrev pub steps_of : List Bool → ℕ
steps_of p = length p - 6

-- the register after path p: the last six bits of p
pub record IsAfter (register p : List Bool) : Type 0 where
  pub long : 6 ≤ length p
  pub is : register ≡ drop (steps_of p) p

-- These bits follow path p. Their coded bits are xs and ys, and the register after them is `new`.
pub record Codes (p bits xs ys new : List Bool) : Type 0 where
  pub x : xs ≡ xs_of (length bits) (drop (steps_of p) (p ++ bits))
  pub y : ys ≡ ys_of (length bits) (drop (steps_of p) (p ++ bits))
  pub after : IsAfter new (p ++ bits)
