-- The invariant of a decoder after a call, over the lists of its survivors.
use Rattle.std.specs.Prelude.{◌≡◌, ℕ, ◌<◌, ◌==◌, Bool, List, ◌++◌}
use Rattle.std.specs.declared.option.Option.{Option}
use Rattle.code_paths.specs.declared.costs.CostPair.{CostPair}
use Rattle.acs_plain.specs.declared.sums.Sums.{Sums}
use Rattle.spec_words.specs.Bits.{is_set}
use Rattle.code_paths.specs.Streams.{Given}
use Rattle.inner_decoder.specs.Tracking.{StandsBy}

-- only one state is alive
pub record IsOnly (live : ℕ) (e : ℕ) : Type 0 where
  pub lives : (n : ℕ) → n < 64 → is_set live n ≡ (n == e)

pub record GaveBy (most : ℕ) (sums : Sums) (waits : ℕ → List Bool) (waiting steps : ℕ) (a : Option (List Bool)) (c : List CostPair) (g : List Bool) (old new : List Bool) : Type 0 where
  pub more : List Bool
  pub appended : new ≡ old ++ more
  pub stands : StandsBy most sums waits waiting steps a c (g ++ more)
  pub whole : Given most a c (g ++ more)
