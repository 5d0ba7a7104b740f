-- The counts of a stream.
use Rattle.std.specs.Prelude.{ℕ, ◌-◌}
use Rattle.rx_report.specs.declared.counts.StreamCounts.{StreamCounts}
use Rattle.trial.specs.declared.counts.StreamReturn.{StreamReturn}

-- one packet was received for each word with a phase
abbrev pub return_of : ℕ → StreamCounts → ℕ → StreamReturn
return_of packets counts sum_of = record { packets = packets; back = counts.words - counts.unphased; sum = sum_of }
