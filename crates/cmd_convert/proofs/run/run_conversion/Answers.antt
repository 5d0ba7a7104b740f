use Rattle.std.proofs.Common.{ℕ, List, Option, subst}
use Rattle.station_core.specs.Meaning.{Meaning}
use Rattle.cmd_cells.specs.Outputs.{cell_names}
use Rattle.cmd_cells.specs.Runs.{RunsCells}
use Rattle.cmd_convert.specs.Conversion.{Conversion}
use Rattle.cmd_convert.specs.Working.{conversion_work}
use Rattle.cmd_convert.proofs.run.run_conversion.Goals as goal

pub returns : goal.returns
returns g c =
    let v : Conversion = g.C.Converter.conversion c.args.converter in
    let old : Meaning = g.S.Station.meaning c.args.station.now in
    let new : Meaning = g.S.Station.meaning c.run_cells.new.station in
    subst (λ (h : Option (List ℕ)). RunsCells (conversion_work v) c.args.max_symbols c.args.old_cells.now h (cell_names c.args.new_cells.now) old new c.run_cells.result) c.requires.header c.run_cells.ensures.runs
