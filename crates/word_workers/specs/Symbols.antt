-- The conditions of `run_symbol` and `run_over` on a decoder, and their effect.
use Rattle.std.specs.Prelude.{◌≡◌, ◌+◌, ◌^◌, ◌<◌, ◌≤◌, Bool, false, List, [], length, Option}
use Rattle.code_paths.specs.declared.costs.CostPair.{CostPair}
use Rattle.inner_decoder.specs.Events.{ats}
use Rattle.inner_decoder.specs.Running.{BranchState, RanSymbol}
use Rattle.inner_decoder.specs.Tracking.{Stands}

-- the decoder has not ended, its symbols have at most 31,752 steps, fewer than eight bits are pending, and fewer than
-- 2^61 steps were made
pub record MayRun (branch : BranchState) : Type 0 where
  pub going : branch.decoder.ended ≡ false
  pub most : branch.most ≤ 31752
  pub wait : length branch.wait < 8
  pub steps : branch.decoder.steps < 2 ^ 61

-- The decoder has made a step for each loaded pair, no pair is loaded any more, and all shared bits were given. The
-- bits given are then exactly those of the definition, and the events are the new reports.
pub record HasRun (old new : BranchState) : Type 0 where
  pub going : new.decoder.ended ≡ false
  pub most : new.most ≡ old.most
  pub loaded : new.loaded ≡ []
  pub steps : new.decoder.steps ≡ old.decoder.steps + length old.loaded
  pub amount : length new.wait + new.decoder.waiting ≡ length old.wait + old.decoder.waiting + length old.loaded
  pub ran : (a : Option (List Bool)) (c : List CostPair) (g : List Bool) → Stands 2048 old.decoder a c g
      → RanSymbol 2048 new.decoder a c g old.loaded old.wait new.wait (ats new.events)

-- the decoder has not ended, no pair is loaded, there are at most 31,752 of these pairs, fewer than eight bits are
-- pending, and fewer than 2^61 steps were made
pub record MayRunOver (pairs : List CostPair) (branch : BranchState) : Type 0 where
  pub going : branch.decoder.ended ≡ false
  pub loaded : branch.loaded ≡ []
  pub few : length pairs ≤ 31752
  pub wait : length branch.wait < 8
  pub steps : branch.decoder.steps < 2 ^ 61

-- the decoder after running a symbol with these pairs loaded
abbrev pub HasRunOver : List CostPair → BranchState → BranchState → Type 0
HasRunOver pairs old new = HasRun (record old { loaded = pairs }) new
