-- The counts of a rescue, and the lines of its report.
use Rattle.std.specs.Prelude.{ℕ, if◌then◌else◌, List, None, Some, flat_map, length}
use Rattle.std.specs.List.{concat}
use Rattle.mode_set.specs.declared.modes.Stream.{Stream}
use Rattle.mode_set.specs.declared.modes.Stream.TheVariants.{Hp, Lp}
use Rattle.mode_set.specs.declared.settings.Settings.{Settings}
use Rattle.symbol_parameters.specs.Spans.{exists_in}
use Rattle.rescue_words.specs.Running as words
use Rattle.rescue.specs.ReportText as text
use Rattle.rescue.specs.declared.counts.Counts.{Counts}
use Rattle.rescue.specs.declared.counts.StreamCounts.{StreamCounts}
use Rattle.rx_report.specs.Text.{event_line}
use Rattle.reception.specs.Cells.{symbols, tail}
use Rattle.reception.specs.Lines.{events}
use Rattle.rescue.specs.Streams.{Rescue}

-- of a stream: the counts of its words, and the number of unmerged reports
abbrev pub counts_of_stream : Rescue → Stream → StreamCounts
counts_of_stream r σ = record { words = words.counts_of (r.tally σ); unmerged = length (r.reports σ) }

-- the counts for these bytes; those of LP if it exists in the transmission
abbrev pub counts_of : Settings → List ℕ → Rescue → Counts
counts_of s bytes r = record {
  symbols = symbols s bytes;
  tail = tail s bytes;
  hp = counts_of_stream r Hp;
  lp = if exists_in s Lp then Some (counts_of_stream r Lp) else None;
}

-- the lines of all unmerged reports
abbrev pub event_lines : Settings → List ℕ → Rescue → List ℕ
event_lines s bytes r = flat_map event_line (events s (symbols s bytes) r.reports)

-- the closing lines
abbrev pub closing_lines : Settings → List ℕ → Rescue → List ℕ
closing_lines s bytes r = concat (text.closing_lines (counts_of s bytes r))
