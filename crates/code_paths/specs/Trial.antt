-- Exhaustive search of all paths, in the order of the last differing position.
use Rattle.std.specs.Prelude.{◌≡◌, ℕ, ◌+◌, ◌-◌, ◌*◌, ◌<◌, ◌≤◌, Bool, true, false, List, [], ◌∷◌, length, drop, ⊤}
use Rattle.std.specs.Prelude.{IsTrue, ◌⊎◌}
use Rattle.std.specs.declared.option.Option.{Option}
use Rattle.std.specs.declared.option.Option.TheVariants.{None, Some}
use Rattle.code_paths.specs.declared.costs.CostPair.{CostPair}
use Rattle.code_paths.specs.Paths.{total, IsPath, Before}

-- a bit as a number
abbrev pub digit : Bool → ℕ
digit true = 1
digit false = 0

-- a list of bits as a number, the last bit the highest: of two lists of the same length the earlier has the lower
-- number
abbrev pub weight : List Bool → ℕ
weight [] = 0
weight (b ∷ p) = digit b + 2 * weight p

-- the last six bits are free, or are these
abbrev pub Ends : Option (List Bool) → List Bool → Type 0
Ends None p = ⊤
Ends (Some e) p = drop (length p - 6) p ≡ e

-- p is the least of all paths with such a start and end
pub record IsFirst (a e : Option (List Bool)) (c : List CostPair) (p : List Bool) : Type 0 where
  pub path : IsPath a c p
  pub ends : Ends e p
  pub first : (q : List Bool) → IsPath a c q → Ends e q → (p ≡ q) ⊎ Before c p q

-- of the paths with a number below k, `best` is the least, if `any` is true
pub record BestBelow (a e : Option (List Bool)) (c : List CostPair) (k : ℕ) (any : Bool) (cost : ℕ) (best : List Bool) :
    Type 0 where
  pub path : IsTrue any → IsPath a c best
  pub ends : IsTrue any → Ends e best
  pub cost_is : IsTrue any → cost ≡ total c best
  pub below : IsTrue any → weight best < k
  pub first : IsTrue any → (q : List Bool) → IsPath a c q → Ends e q → weight q < k → (total c best < total c q)
      ⊎ ((total c best ≡ total c q) × (weight best ≤ weight q))
  pub none : any ≡ false → (q : List Bool) → IsPath a c q → Ends e q → weight q < k → ⊥
