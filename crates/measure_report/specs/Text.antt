-- The lines of the report on a measurement. Each ends with a line feed.
use Rattle.std.specs.Prelude.{ℕ, List, [], ◌∷◌, ◌++◌, Option, None, Some, codes, decimal}
use Rattle.mode_set.specs.declared.modes.Stream.{Stream}
use Rattle.mode_set.specs.declared.modes.Stream.TheVariants.{Hp, Lp}
use Rattle.rx_report.specs.Streams.{stream_text}
use Rattle.measure_report.specs.declared.sums.StreamSums.{StreamSums}
use Rattle.measure_report.specs.declared.sums.SuperFrame.{SuperFrame}

-- the line of a super-frame
abbrev pub super_frame_line : SuperFrame → List ℕ
super_frame_line f =
    codes "superframe " ++ decimal f.number
    ++ codes " symbols " ++ decimal f.symbols
    ++ codes " cells " ++ decimal f.cells
    ++ codes " muted " ++ decimal f.muted
    ++ codes " power " ++ decimal f.power
    ++ codes " error " ++ decimal f.error
    ++ codes " tps read " ++ decimal f.tps_read
    ++ codes " bad " ++ decimal f.tps_bad
    ++ codes "\n"

-- the line of a stream
abbrev pub stream_line : Stream → StreamSums → List ℕ
stream_line σ t =
    stream_text σ
    ++ codes " bits " ++ decimal t.bits
    ++ codes " wrong " ++ decimal t.wrong
    ++ codes " words " ++ decimal t.words
    ++ codes " clean " ++ decimal t.clean
    ++ codes " corrected " ++ decimal t.corrected
    ++ codes " bad " ++ decimal t.bad
    ++ codes " unphased " ++ decimal t.unphased
    ++ codes " unmerged " ++ decimal t.unmerged
    ++ codes " repaired " ++ decimal t.repaired
    ++ codes "\n"

-- the line of LP, if it exists
abbrev pub lp_lines : Option StreamSums → List (List ℕ)
lp_lines None = []
lp_lines (Some t) = stream_line Lp t ∷ []

-- the lines of a super-frame in order
abbrev pub lines : SuperFrame → List (List ℕ)
lines f = super_frame_line f ∷ stream_line Hp f.hp ∷ lp_lines f.lp
