-- The visible state of a measurer.
use Rattle.std.specs.Prelude.{ℕ, Bool, List}
use Rattle.mode_set.specs.declared.modes.Stream.{Stream}
use Rattle.mode_set.specs.declared.modes.Stream.TheVariants.{Hp, Lp}
use Rattle.mode_set.specs.declared.settings.Settings.{Settings}
use Rattle.inner_receiver.specs.declared.frames.FrameReader.{FrameReader}
use Rattle.measure_stream.specs.declared.stream.StreamMeter.{StreamMeter}
use Rattle.measure_comparison.specs.Seen.{ComparerState}
use Rattle.measurer.specs.declared.current.Current.{Current}

-- the measuring parts: the comparer, the meter of each stream, and the sums of the super-frame so far
pub record MeterState : Type 0 where
  pub comparer : ComparerState
  pub hp : StreamMeter
  pub lp : StreamMeter
  pub current : Current

-- the meter of a stream
abbrev pub meter_of : MeterState → Stream → StreamMeter
meter_of x Hp = x.hp
meter_of x Lp = x.lp

-- the settings, the bytes of the unfinished symbol, the number of whole symbols, the meters, the reader of TPS words,
-- and whether the measurer has ended
pub record MeasurerState : Type 0 where
  pub settings : Settings
  pub rest : List ℕ
  pub taken : ℕ
  pub meter : MeterState
  pub frames : FrameReader
  pub ended : Bool
