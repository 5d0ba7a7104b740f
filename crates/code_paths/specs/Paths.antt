-- Paths through the trellis of the inner code, their total costs and their order (EN 300 744, 4.3.3).
use Rattle.std.specs.Prelude.{◌≡◌, ℕ, ◌+◌, ◌<◌, Bool, true, false, cond, List, [], ◌∷◌, length, take, drop, ◌⊎◌, ⊤}
use Rattle.std.specs.declared.option.Option.{Option}
use Rattle.std.specs.declared.option.Option.TheVariants.{None, Some}
use Rattle.spec_words.specs.Bits.{bit, xor}
use Rattle.code_paths.specs.declared.costs.CostPair.{CostPair}

-- X of a step, generator 171 octal. The list begins with the six register bits, oldest first; the seventh is the input.
abbrev pub parity_x : List Bool → Bool
parity_x p = xor (bit p 6) (xor (bit p 5) (xor (bit p 4) (xor (bit p 3) (bit p 0))))

-- Y of a step, generator 133 octal
abbrev pub parity_y : List Bool → Bool
parity_y p = xor (bit p 6) (xor (bit p 4) (xor (bit p 3) (xor (bit p 1) (bit p 0))))

-- the cost of a step: that of its X plus that of its Y
abbrev pub step_cost : CostPair → List Bool → ℕ
step_cost c p = cond (parity_x p) c.x1 c.x0 + cond (parity_y p) c.y1 c.y0

-- the cost of a path over a list of steps; a path is the register and one bit for each step
abbrev pub total : List CostPair → List Bool → ℕ
total [] p = 0
total (c ∷ cs) p = step_cost c p + total cs (drop 1 p)

-- p has 0 at the last position where p and q differ
pub record IsEarlier (p q : List Bool) : Type 0 where
  pub place : ℕ
  pub within : place < length p
  pub here : bit p place ≡ false
  pub there : bit q place ≡ true
  pub after : (k : ℕ) → place < k → bit p k ≡ bit q k

-- p costs less than q, or the same and is the earlier one
abbrev pub Before : List CostPair → List Bool → List Bool → Type 0
Before c p q = (total c p < total c q) ⊎ ((total c p ≡ total c q) × IsEarlier p q)

-- the register before the first step is free, or has these six bits
abbrev pub Starts : Option (List Bool) → List Bool → Type 0
Starts None p = ⊤
Starts (Some r) p = take 6 p ≡ r

-- p is a path over the steps with costs c, from a start that a allows
pub record IsPath (a : Option (List Bool)) (c : List CostPair) (p : List Bool) : Type 0 where
  pub long : length p ≡ 6 + length c
  pub start : Starts a p

-- p is the least of all paths that end in the six bits e
pub record LeastTo (a : Option (List Bool)) (c : List CostPair) (e p : List Bool) : Type 0 where
  pub path : IsPath a c p
  pub ends : drop (length c) p ≡ e
  pub first : (q : List Bool) → IsPath a c q → drop (length c) q ≡ e → (p ≡ q) ⊎ Before c p q

-- p is the least of all paths
pub record Least (a : Option (List Bool)) (c : List CostPair) (p : List Bool) : Type 0 where
  pub path : IsPath a c p
  pub first : (q : List Bool) → IsPath a c q → (p ≡ q) ⊎ Before c p q

-- no path ends in the six bits e
abbrev pub Unreached : Option (List Bool) → List CostPair → List Bool → Type 0
Unreached a c e = (q : List Bool) → IsPath a c q → drop (length c) q ≡ e → ⊥
