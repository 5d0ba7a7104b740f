-- The closing lines of a rescue report. Each line ends with a line feed.
use Rattle.std.specs.Prelude.{ℕ, List, [], ◌∷◌, ◌++◌, Option, None, Some, codes, decimal}
use Rattle.mode_set.specs.declared.modes.Stream.{Stream}
use Rattle.mode_set.specs.declared.modes.Stream.TheVariants.{Hp, Lp}
use Rattle.rx_report.specs.Streams.{stream_text}
use Rattle.rescue.specs.declared.counts.Counts.{Counts}
use Rattle.rescue.specs.declared.counts.StreamCounts.{StreamCounts}

-- the line of the symbols
abbrev pub symbols_line : ℕ → ℕ → List ℕ
symbols_line symbols tail = codes "symbols " ++ decimal symbols ++ codes " tail " ++ decimal tail ++ codes "\n"

-- the line of a stream
abbrev pub stream_line : Stream → StreamCounts → List ℕ
stream_line σ c =
    stream_text σ
    ++ codes " words " ++ decimal c.words.words
    ++ codes " clean " ++ decimal c.words.clean
    ++ codes " corrected " ++ decimal c.words.corrected
    ++ codes " rescued " ++ decimal c.words.rescued
    ++ codes " bad " ++ decimal c.words.bad
    ++ codes " unphased " ++ decimal c.words.unphased
    ++ codes " unmerged " ++ decimal c.unmerged
    ++ codes "\n"

-- the line of LP, if it exists
abbrev pub lp_lines : Option StreamCounts → List (List ℕ)
lp_lines None = []
lp_lines (Some c) = stream_line Lp c ∷ []

-- the closing lines in order; none is on TPS words, which are not read
abbrev pub closing_lines : Counts → List (List ℕ)
closing_lines c = symbols_line c.symbols c.tail ∷ stream_line Hp c.hp ∷ lp_lines c.lp
