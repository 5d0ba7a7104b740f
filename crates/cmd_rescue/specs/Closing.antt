-- There are at most three closing lines.
use Rattle.std.specs.Prelude.{◌≡◌, ◌∷◌, take, Option, None, Some, refl}
use Rattle.mode_set.specs.declared.modes.Stream.TheVariants.{Hp}
use Rattle.rescue.specs.ReportText.{closing_lines, lp_lines, stream_line, symbols_line}
use Rattle.rescue.specs.declared.counts.Counts.{Counts}
use Rattle.rescue.specs.declared.counts.StreamCounts.{StreamCounts}

few_lp : (o : Option StreamCounts) → take 2 (lp_lines o) ≡ lp_lines o
few_lp None = refl
few_lp (Some c) = refl

-- `rescue` has at most four closing lines
pub few_lines : (c : Counts) → take 4 (closing_lines c) ≡ closing_lines c
few_lines c = λ i. symbols_line c.symbols c.tail ∷ stream_line Hp c.hp ∷ few_lp c.lp i
