-- The output of a receiver for a cell file: what is decided so far, and at the end.
use Rattle.std.specs.Prelude.{ℕ, Bool, false, List, Option, Some, None, replicate}
use Rattle.code_paths.specs.declared.costs.CostPair.{CostPair}
use Rattle.code_paths.specs.Streams.{Given, Ended, Reports}
use Rattle.outer_chain.specs.Bits.{bytes_of}
use Rattle.outer_chain.specs.Words.{Packets, Tally, Tallies}
use Rattle.mode_set.specs.declared.modes.Start.{Start}
use Rattle.mode_set.specs.declared.modes.Start.TheVariants.{Zero, Any}
use Rattle.mode_set.specs.declared.modes.Stream.{Stream}
use Rattle.mode_set.specs.declared.settings.Settings.{Settings}
use Rattle.reception.specs.Costs.{costs}
use Rattle.reception.specs.Frames.{CountsFrames}

-- the path memory, in steps
abbrev pub memory : ℕ
memory = 2048

-- the register before the first step: six zeros, or any
abbrev pub start_of : Start → Option (List Bool)
start_of Zero = Some (replicate 6 false)
start_of Any = None

-- whether more symbols may follow
pub data Moment : Type 0 where
  so_far : Moment
  at_end : Moment

-- the inner bits of these costs: the bits given so far, or those at the end
abbrev pub IsDecoded : Moment → Option (List Bool) → List CostPair → List Bool → Type 0
IsDecoded so_far = Given memory
IsDecoded at_end = Ended memory

-- everything received: for each stream the bytes of its packets, the steps of its unmerged reports and the counts of
-- its words; and the number of frames with a readable TPS word, and without
pub record Reception : Type 0 where
  pub packets : Stream → List ℕ
  pub reports : Stream → List ℕ
  pub tally : Stream → Tally
  pub read : ℕ
  pub bad : ℕ

-- the output for the bytes at a moment
pub record Receives (moment : Moment) (s : Settings) (bytes : List ℕ) (r : Reception) : Type 0 where
  pub bits : Stream → List Bool
  pub decoded : (σ : Stream) → IsDecoded moment (start_of s.start) (costs s bytes σ) (bits σ)
  pub packets : (σ : Stream) → Packets (bytes_of (bits σ)) (r.packets σ)
  pub tally : (σ : Stream) → Tallies (bytes_of (bits σ)) (r.tally σ)
  pub reports : (σ : Stream) → Reports memory (start_of s.start) (costs s bytes σ) (r.reports σ)
  pub frames : CountsFrames s bytes r.read r.bad

-- the live output: more symbols may follow
abbrev pub Live : Settings → List ℕ → Reception → Type 0
Live = Receives so_far

-- the final output
abbrev pub Final : Settings → List ℕ → Reception → Type 0
Final = Receives at_end
