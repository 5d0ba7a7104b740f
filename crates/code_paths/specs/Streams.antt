-- What a stream of costs defines: parts, reports, the bits given so far and the bits at the end (this project's
-- profile).
use Rattle.std.specs.Prelude.{◌≡◌, ℕ, ◌+◌, ◌<◌, ◌≤◌, Bool, List, [], ◌∷◌, ◌++◌, length, take, drop}
use Rattle.std.specs.declared.option.Option.{Option}
use Rattle.std.specs.declared.option.Option.TheVariants.{Some}
use Rattle.code_paths.specs.declared.costs.CostPair.{CostPair}
use Rattle.code_paths.specs.Paths.{LeastTo, Least}

-- p is a prefix of q
pub record IsPrefix (p q : List Bool) : Type 0 where
  pub rest : List Bool
  pub is : q ≡ p ++ rest

-- after the register, the least path to every reachable end begins with these bits
abbrev pub IsCommon : Option (List Bool) → List CostPair → List Bool → Type 0
IsCommon a c s = (e p : List Bool) → LeastTo a c e p → IsPrefix s (drop 6 p)

-- the shared prefix: the longest such list of bits
pub record Shared (a : Option (List Bool)) (c : List CostPair) (s : List Bool) : Type 0 where
  pub common : IsCommon a c s
  pub longest : (r : List Bool) → IsCommon a c r → length r ≤ length s

-- the steps after the shared prefix exceed the path memory
pub record IsOverdue (most : ℕ) (a : Option (List Bool)) (c : List CostPair) : Type 0 where
  pub shared : List Bool
  pub is_shared : Shared a c shared
  pub over : most + length shared < length c

-- no prefix of fewer steps is overdue
abbrev pub IsQuiet : ℕ → Option (List Bool) → List CostPair → ℕ → Type 0
IsQuiet most a c steps = (t : ℕ) → t < steps → IsOverdue most a (take t c) → ⊥

-- a part of a stream: its costs and its least path
pub record Part : Type 0 where
  pub costs : List CostPair
  pub path : List Bool

-- the final register of a part
abbrev pub end_of : Part → List Bool
end_of part = drop (length part.costs) part.path

-- A part ends at the first step where the steps after the shared prefix exceed the path memory.
pub record IsPart (most : ℕ) (a : Option (List Bool)) (part : Part) : Type 0 where
  pub quiet : IsQuiet most a part.costs (length part.costs)
  pub over : IsOverdue most a part.costs
  pub least : Least a part.costs part.path

-- The costs c from start a are these ended parts, then the open part with costs d from start b. Each part starts from
-- the final register of the one before.
abbrev pub IsCut : ℕ → Option (List Bool) → List CostPair → List Part → Option (List Bool) → List CostPair → Type 0
IsCut most a c [] b d = (b ≡ a) × (d ≡ c) × IsQuiet most a c (length c + 1)
IsCut most a c (part ∷ parts) b d = (rest : List CostPair) × (c ≡ part.costs ++ rest) × IsPart most a part
    × IsCut most (Some (end_of part)) rest parts b d

-- the bits of ended parts: those of their least paths, without the register
abbrev pub bits_of : List Part → List Bool
bits_of [] = []
bits_of (part ∷ parts) = drop 6 part.path ++ bits_of parts

-- the steps at which parts ended, counted from 1
abbrev pub ends_of : ℕ → List Part → List ℕ
ends_of before [] = []
ends_of before (part ∷ parts) = (before + length part.costs) ∷ ends_of (before + length part.costs) parts

-- the bits given so far: those of the ended parts, and the shared prefix of the open one
pub record Given (most : ℕ) (a : Option (List Bool)) (c : List CostPair) (bits : List Bool) : Type 0 where
  pub parts : List Part
  pub start : Option (List Bool)
  pub costs : List CostPair
  pub shared : List Bool
  pub cut : IsCut most a c parts start costs
  pub is_shared : Shared start costs shared
  pub is : bits ≡ bits_of parts ++ shared

-- the bits at the end: those of the ended parts, and those of the least path of the open one
pub record Ended (most : ℕ) (a : Option (List Bool)) (c : List CostPair) (bits : List Bool) : Type 0 where
  pub parts : List Part
  pub start : Option (List Bool)
  pub costs : List CostPair
  pub path : List Bool
  pub cut : IsCut most a c parts start costs
  pub least : Least start costs path
  pub is : bits ≡ bits_of parts ++ drop 6 path

-- the reports: the steps at which parts ended
pub record Reports (most : ℕ) (a : Option (List Bool)) (c : List CostPair) (steps : List ℕ) : Type 0 where
  pub parts : List Part
  pub start : Option (List Bool)
  pub costs : List CostPair
  pub cut : IsCut most a c parts start costs
  pub is : steps ≡ ends_of 0 parts
