-- The tables are computed.
use Rattle.std.proofs.Common.{map, ap, sym, ◌∙◌}
use Rattle.spec_words.specs.Words.{numbers}
use Rattle.mode_set.specs.declared.modes.Guard.{Guard}
use Rattle.tracking.specs.InFrequency.{frequency_row}
use Rattle.track_cells.proofs.Tables.{rows_of_32, rows_of_16, rows_of_8, rows_of_4}
use Rattle.track_cells.proofs.rows.rows.Goals as goal

pub returns-in-G1of32 : goal.returns-in-G1of32
returns-in-G1of32 c = rows_of_32 ∙ ap (λ (g : Guard). map (frequency_row g) (numbers 34)) (sym c.in-G1of32.is)

pub returns-in-G1of16 : goal.returns-in-G1of16
returns-in-G1of16 c = rows_of_16 ∙ ap (λ (g : Guard). map (frequency_row g) (numbers 34)) (sym c.in-G1of16.is)

pub returns-in-G1of8 : goal.returns-in-G1of8
returns-in-G1of8 c = rows_of_8 ∙ ap (λ (g : Guard). map (frequency_row g) (numbers 34)) (sym c.in-G1of8.is)

pub returns-in-G1of4 : goal.returns-in-G1of4
returns-in-G1of4 c = rows_of_4 ∙ ap (λ (g : Guard). map (frequency_row g) (numbers 34)) (sym c.in-G1of4.is)
