-- The visible state of a rescuing receiver.
use Rattle.std.specs.Prelude.{ℕ, Bool, List}
use Rattle.mode_set.specs.declared.modes.Stream.{Stream}
use Rattle.mode_set.specs.declared.modes.Stream.TheVariants.{Hp, Lp}
use Rattle.mode_set.specs.declared.settings.Settings.{Settings}
use Rattle.inner_decoder.specs.Running.{BranchState}
use Rattle.bit_margin.specs.Stream.{MarginState}
use Rattle.rescue_words.specs.Running.{WordsState}

-- of a stream: its decoder, the margins of its bits, the bytes and byte margins that wait for each other, its words,
-- and the number of unmerged reports
pub record StreamState : Type 0 where
  pub branch : BranchState
  pub margins : MarginState
  pub bytes : List ℕ
  pub byte_margins : List ℕ
  pub words : WordsState
  pub unmerged : ℕ

-- the settings, the bytes of the unfinished symbol, the number of whole symbols, both streams, and whether it has ended
pub record RescueState : Type 0 where
  pub settings : Settings
  pub rest : List ℕ
  pub taken : ℕ
  pub hp : StreamState
  pub lp : StreamState
  pub ended : Bool

-- the state of a stream's receiver
abbrev pub stream_of : RescueState → Stream → StreamState
stream_of x Hp = x.hp
stream_of x Lp = x.lp
