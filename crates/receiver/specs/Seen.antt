-- The visible state of a receiver.
use Rattle.std.specs.Prelude.{ℕ, Bool, List}
use Rattle.mode_set.specs.declared.modes.Stream.{Stream}
use Rattle.mode_set.specs.declared.modes.Stream.TheVariants.{Hp, Lp}
use Rattle.mode_set.specs.declared.settings.Settings.{Settings}
use Rattle.inner_decoder.specs.Running.{BranchState}
use Rattle.outer_chain.specs.Receiving.{Receiver}
use Rattle.rx_report.specs.declared.counts.StreamCounts.{StreamCounts}
use Rattle.inner_receiver.specs.declared.frames.FrameReader.{FrameReader}

-- of a stream: its decoder, its outer receiver and its counts
pub record StreamState : Type 0 where
  pub branch : BranchState
  pub outer : Receiver
  pub counts : StreamCounts

-- the settings, the bytes of the unfinished symbol, the number of whole symbols, both streams, the reader of TPS
-- words, and whether the receiver has ended
pub record ReceiverState : Type 0 where
  pub settings : Settings
  pub rest : List ℕ
  pub taken : ℕ
  pub hp : StreamState
  pub lp : StreamState
  pub frames : FrameReader
  pub ended : Bool

-- the state of a stream's receiver
abbrev pub stream_of : ReceiverState → Stream → StreamState
stream_of x Hp = x.hp
stream_of x Lp = x.lp
