-- The outcome of a trial.
use Rattle.std.specs.Prelude.{ℕ, ◌/◌, if◌then◌else◌, length, Some, None}
use Rattle.mode_set.specs.declared.modes.Start.TheVariants.{Zero}
use Rattle.mode_set.specs.declared.modes.Stream.{Stream}
use Rattle.mode_set.specs.declared.modes.Stream.TheVariants.{Hp, Lp}
use Rattle.mode_set.specs.declared.settings.Settings.{Settings}
use Rattle.symbol_parameters.specs.Spans.{exists_in}
use Rattle.reception.specs.Streams.{Reception, Final}
use Rattle.trial.specs.declared.counts.StreamReturn.{StreamReturn}
use Rattle.trial.specs.declared.counts.TrialCounts.{TrialCounts}
use Rattle.trial.specs.Drawn.{drawn_count}
use Rattle.trial.specs.Fed.{fed, byte_sum}

-- the settings of a trial, whose receiver always starts at zero
abbrev pub at_zero : Settings → Settings
at_zero s = record s { start = Zero }

-- the reception of the cells fed
abbrev pub TrialGives : Settings → ℕ → Reception → Type 0
TrialGives s number r = Final s (fed s number) r

-- the result for a stream: the number of packets sent and received, and the sum of the received bytes
abbrev pub stream_return : Settings → ℕ → Reception → Stream → StreamReturn
stream_return s number r σ = record {
  packets = drawn_count s number σ;
  back = length (r.packets σ) / 188;
  sum =
      byte_sum (r.packets σ);
}

-- the counts of the trial
abbrev pub trial_counts : Settings → ℕ → Reception → TrialCounts
trial_counts s number r = record {
  cells = byte_sum (fed s number);
  hp = stream_return s number r Hp;
  lp = if exists_in s Lp then Some (stream_return s number r Lp) else None;
}
