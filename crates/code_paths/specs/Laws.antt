-- Laws of paths, of parts and of the bits given.
use Rattle.std.specs.Prelude.{◌≡◌, ℕ, ◌+◌, ◌<◌, ◌≤◌, Bool, true, false, not, List, [], ◌∷◌, ◌++◌, drop}
use Rattle.std.specs.declared.option.Option.{Option}
use Rattle.code_paths.specs.declared.costs.CostPair.{CostPair}
use Rattle.code_paths.specs.Paths.{total, step_cost, LeastTo, Least, Unreached}
use Rattle.code_paths.specs.Streams.{IsPrefix, Shared, Given, Ended, Reports}

-- the cost of a path to register z m after one more step on bit b
abbrev pub longer_total : List CostPair → CostPair → List Bool → Bool → List Bool → Bool → ℕ
longer_total c x p z m b = total c p + step_cost x (z ∷ (m ++ b ∷ []))

-- Register m b is reached from registers 0 m (even) and 1 m (odd). The least path to it extends the least path p to the
-- even one, unless that costs more than extending the least path q to the odd one.
pub record ExtendsTo (a : Option (List Bool)) (c : List CostPair) (x : CostPair) (m : List Bool) (b : Bool) : Type
    0 where
  pub even : (p q : List Bool) → LeastTo a c (false ∷ m) p → LeastTo a c (true ∷ m) q
      → longer_total c x p false m b ≤ longer_total c x q true m b → LeastTo a (c ++ x ∷ []) (m ++ b ∷ []) (p ++ b ∷ [])
  pub odd : (p q : List Bool) → LeastTo a c (false ∷ m) p → LeastTo a c (true ∷ m) q
      → longer_total c x q true m b < longer_total c x p false m b → LeastTo a (c ++ x ∷ []) (m ++ b ∷ []) (q ++ b ∷ [])
  pub only : (z : Bool) (p : List Bool) → LeastTo a c (z ∷ m) p → Unreached a c (not z ∷ m)
      → LeastTo a (c ++ x ∷ []) (m ++ b ∷ []) (p ++ b ∷ [])
  pub none : Unreached a c (false ∷ m) → Unreached a c (true ∷ m) → Unreached a (c ++ x ∷ []) (m ++ b ∷ [])

-- every least path extends so
abbrev pub PathsExtend : Type 0
PathsExtend = (a : Option (List Bool)) (c : List CostPair) (x : CostPair) (m : List Bool) (b : Bool)
    → ExtendsTo a c x m b

-- bits once given stay
abbrev pub GivenGrows : Type 0
GivenGrows = (most : ℕ) (a : Option (List Bool)) (c more : List CostPair) (g h : List Bool) → Given most a c g
    → Given most a (c ++ more) h → IsPrefix g h

-- reports once made stay
abbrev pub ReportsGrow : Type 0
ReportsGrow = (most : ℕ) (a : Option (List Bool)) (c more : List CostPair) (rs ts : List ℕ) → Reports most a c rs
    → Reports most a (c ++ more) ts → (us : List ℕ) × (ts ≡ rs ++ us)

-- the shared prefix is a prefix of the least path, over these costs and any that follow
abbrev pub SharedBeginsLeast : Type 0
SharedBeginsLeast = (a : Option (List Bool)) (c more : List CostPair) (s p : List Bool) → Shared a c s
    → Least a (c ++ more) p → IsPrefix s (drop 6 p)

-- the bits given, the bits at the end and the reports are unique
abbrev pub GivenOnce : Type 0
GivenOnce = (most : ℕ) (a : Option (List Bool)) (c : List CostPair) (g h : List Bool) → Given most a c g
    → Given most a c h → g ≡ h

-- the bits at the end are unique
abbrev pub EndedOnce : Type 0
EndedOnce = (most : ℕ) (a : Option (List Bool)) (c : List CostPair) (g h : List Bool) → Ended most a c g
    → Ended most a c h → g ≡ h

-- the reports are unique
abbrev pub ReportsOnce : Type 0
ReportsOnce = (most : ℕ) (a : Option (List Bool)) (c : List CostPair) (rs ts : List ℕ) → Reports most a c rs
    → Reports most a c ts → rs ≡ ts

-- the bits given are a prefix of the bits at the end
abbrev pub GivenBeginsEnded : Type 0
GivenBeginsEnded = (most : ℕ) (a : Option (List Bool)) (c : List CostPair) (g h : List Bool) → Given most a c g
    → Ended most a c h → IsPrefix g h
