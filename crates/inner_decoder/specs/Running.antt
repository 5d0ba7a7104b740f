-- How a branch changes with the costs of a symbol.
use Rattle.std.specs.Prelude.{◌≡◌, ℕ, Bool, List, ◌++◌}
use Rattle.std.specs.declared.option.Option.{Option}
use Rattle.code_paths.specs.declared.costs.CostPair.{CostPair}
use Rattle.code_paths.specs.Streams.{Reports, Given}
use Rattle.inner_decoder.specs.Seen.{DecoderState}
use Rattle.inner_decoder.specs.declared.decoder.Unmerged.{Unmerged}
use Rattle.inner_decoder.specs.Tracking.{Stands}

-- the state of a branch: its decoder, the loaded pairs of a symbol and their maximum number, the bits given but not yet
-- taken, and the reports of the last symbol
pub record BranchState : Type 0 where
  pub decoder : DecoderState
  pub loaded : List CostPair
  pub most : ℕ
  pub wait : List Bool
  pub events : List Unmerged

-- the decoder after a step on each pair of xs in order; the events are the new reports
pub record Ran (most : ℕ) (d : DecoderState) (a : Option (List Bool)) (c : List CostPair) (g : List Bool)
    (xs : List CostPair) (old new : List Bool) (events : List ℕ) : Type 0 where
  pub more : List Bool
  pub appended : new ≡ old ++ more
  pub stands : Stands most d a (c ++ xs) (g ++ more)
  pub reports : (rs : List ℕ) → Reports most a c rs → Reports most a (c ++ xs) (rs ++ events)

-- the decoder after all costs of a symbol and a call that gives all shared bits: exactly the bits given are appended
pub record RanSymbol (most : ℕ) (d : DecoderState) (a : Option (List Bool)) (c : List CostPair) (g : List Bool)
    (xs : List CostPair) (old new : List Bool) (events : List ℕ) : Type 0 where
  pub more : List Bool
  pub appended : new ≡ old ++ more
  pub stands : Stands most d a (c ++ xs) (g ++ more)
  pub reports : (rs : List ℕ) → Reports most a c rs → Reports most a (c ++ xs) (rs ++ events)
  pub whole : Given most a (c ++ xs) (g ++ more)
