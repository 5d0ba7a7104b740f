-- A receiver during a trial, and the sums of its output.
use Rattle.std.specs.Prelude.{◌≡◌, ℕ, List}
use Rattle.mode_set.specs.declared.modes.Stream.TheVariants.{Hp, Lp}
use Rattle.reception.specs.Cells.{tail}
use Rattle.reception.specs.Streams.{Reception, Final, so_far, at_end}
use Rattle.receiver.specs.Seen.{ReceiverState}
use Rattle.receiver.specs.Standing.{StandsFor}
use Rattle.trial.specs.Fed.{byte_sum}

-- it has received these bytes, and these are the sums of its packets' bytes
pub record HasGiven (x : ReceiverState) (bytes : List ℕ) (hp lp : ℕ) : Type 0 where
  pub given : Reception
  pub stands : StandsFor so_far x bytes given
  pub hp_sum : hp ≡ byte_sum (given.packets Hp)
  pub lp_sum : lp ≡ byte_sum (given.packets Lp)

-- it has received only whole symbols
pub record HasWhole (x : ReceiverState) (hp lp : ℕ) : Type 0 where
  pub bytes : List ℕ
  pub whole : tail x.settings bytes ≡ 0
  pub given : HasGiven x bytes hp lp

-- it has ended after these bytes
pub record HasEnded (x : ReceiverState) (bytes : List ℕ) (hp lp : ℕ) : Type 0 where
  pub given : Reception
  pub stands : StandsFor at_end x bytes given
  pub final : Final x.settings bytes given
  pub hp_sum : hp ≡ byte_sum (given.packets Hp)
  pub lp_sum : lp ≡ byte_sum (given.packets Lp)
