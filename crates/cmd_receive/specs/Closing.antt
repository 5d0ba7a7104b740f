-- There are at most four closing lines.
use Rattle.std.specs.Prelude.{◌≡◌, ◌∷◌, take, Option, None, Some, refl}
use Rattle.mode_set.specs.declared.modes.Stream.TheVariants.{Hp}
use Rattle.rx_report.specs.Text.{closing_lines, lp_lines, stream_line, symbols_line, tps_line}
use Rattle.rx_report.specs.declared.counts.Counts.{Counts}
use Rattle.rx_report.specs.declared.counts.StreamCounts.{StreamCounts}

few_lp : (o : Option StreamCounts) → take 1 (lp_lines o) ≡ lp_lines o
few_lp None = refl
few_lp (Some c) = refl

-- `receive` has at most four closing lines
pub few_lines : (c : Counts) → take 4 (closing_lines c) ≡ closing_lines c
few_lines c = λ i. symbols_line c ∷ tps_line c ∷ stream_line Hp c.hp ∷ few_lp c.lp i
