-- The text of the report on a reception. Each line ends with a line feed.
use Rattle.std.specs.Prelude.{ℕ, List, [], ◌∷◌, ◌++◌, Option, None, Some, codes, decimal}
use Rattle.mode_set.specs.declared.modes.Stream.{Stream}
use Rattle.mode_set.specs.declared.modes.Stream.TheVariants.{Hp, Lp}
use Rattle.rx_report.specs.Streams.{stream_text}
use Rattle.rx_report.specs.declared.counts.Counts.{Counts}
use Rattle.rx_report.specs.declared.counts.Event.{Event}
use Rattle.rx_report.specs.declared.counts.StreamCounts.{StreamCounts}

-- the line of the symbols
abbrev pub symbols_line : Counts → List ℕ
symbols_line c = codes "symbols " ++ decimal c.symbols ++ codes " tail " ++ decimal c.tail ++ codes "\n"

-- the line of the TPS words
abbrev pub tps_line : Counts → List ℕ
tps_line c = codes "tps read " ++ decimal c.tps_read ++ codes " bad " ++ decimal c.tps_bad ++ codes "\n"

-- the line of a stream
abbrev pub stream_line : Stream → StreamCounts → List ℕ
stream_line σ c =
    stream_text σ
    ++ codes " words " ++ decimal c.words
    ++ codes " clean " ++ decimal c.clean
    ++ codes " corrected " ++ decimal c.corrected
    ++ codes " bad " ++ decimal c.bad
    ++ codes " unphased " ++ decimal c.unphased
    ++ codes " unmerged " ++ decimal c.unmerged
    ++ codes "\n"

-- the line of LP, if it exists
abbrev pub lp_lines : Option StreamCounts → List (List ℕ)
lp_lines None = []
lp_lines (Some c) = stream_line Lp c ∷ []

-- the closing lines in order
abbrev pub closing_lines : Counts → List (List ℕ)
closing_lines c = symbols_line c ∷ tps_line c ∷ stream_line Hp c.hp ∷ lp_lines c.lp

-- the line of an unmerged report
abbrev pub event_line : Event → List ℕ
event_line e = stream_text e.stream ++ codes " unmerged at " ++ decimal e.at ++ codes "\n"
