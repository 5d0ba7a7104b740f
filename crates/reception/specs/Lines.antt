-- The counts of a reception, and the lines of its report.
use Rattle.std.specs.Prelude.{ℕ, ◌+◌, ◌&&◌, nat_lt, nat_le, if◌then◌else◌, List, ◌++◌, None, Some, map, filter}
use Rattle.std.specs.Prelude.{flat_map, length}
use Rattle.std.specs.List.{concat}
use Rattle.spec_words.specs.Words.{numbers}
use Rattle.mode_set.specs.declared.modes.Stream.{Stream}
use Rattle.mode_set.specs.declared.modes.Stream.TheVariants.{Hp, Lp}
use Rattle.mode_set.specs.declared.settings.Settings.{Settings}
use Rattle.symbol_parameters.specs.Spans.{exists_in, steps_before}
use Rattle.outer_chain.specs.Words.{Tally}
use Rattle.rx_report.specs.Text.{event_line}
use Rattle.rx_report.specs.Text as text
use Rattle.rx_report.specs.declared.counts.Counts.{Counts}
use Rattle.rx_report.specs.declared.counts.Event.{Event}
use Rattle.rx_report.specs.declared.counts.StreamCounts.{StreamCounts}
use Rattle.reception.specs.Cells.{symbols, tail}
use Rattle.reception.specs.Streams.{Reception}

-- a report of a stream at a step
abbrev pub event_at : Stream → ℕ → Event
event_at σ at = record { stream = σ; at = at }

-- the reports of a stream in symbol m: those at steps of that symbol, counted from 1
abbrev pub events_of : Settings → (Stream → List ℕ) → ℕ → Stream → List Event
events_of s reports m σ = map (event_at σ)
    (filter (λ at. nat_lt (steps_before s σ m) at && nat_le at (steps_before s σ (m + 1))) (reports σ))

-- all reports of n symbols in order, HP before LP
unfoldable pub events : Settings → ℕ → (Stream → List ℕ) → List Event
events s n reports = flat_map (λ m. events_of s reports m Hp ++ events_of s reports m Lp) (numbers n)

-- the counts of a stream: its words, and its unmerged reports
abbrev pub stream_counts : Tally → ℕ → StreamCounts
stream_counts t unmerged = record {
  words = t.words;
  clean = t.clean;
  corrected = t.corrected;
  bad = t.bad;
  unphased =
      t.unphased;
  unmerged = unmerged;
}

-- the counts of a stream
abbrev pub counts_of_stream : Reception → Stream → StreamCounts
counts_of_stream r σ = stream_counts (r.tally σ) (length (r.reports σ))

-- the counts of a reception of these bytes; those of LP if it exists in the transmission
abbrev pub counts_of : Settings → List ℕ → Reception → Counts
counts_of s bytes r = record {
  symbols = symbols s bytes;
  tail = tail s bytes;
  tps_read = r.read;
  tps_bad = r.bad;
  hp = counts_of_stream r Hp;
  lp = if exists_in s Lp then Some (counts_of_stream r Lp) else None;
}

-- the lines of the reports, in order
abbrev pub event_lines : Settings → List ℕ → Reception → List ℕ
event_lines s bytes r = flat_map event_line (events s (symbols s bytes) r.reports)

-- the closing lines
abbrev pub closing_lines : Settings → List ℕ → Reception → List ℕ
closing_lines s bytes r = concat (text.closing_lines (counts_of s bytes r))
