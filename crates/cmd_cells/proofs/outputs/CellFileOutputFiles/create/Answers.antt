use Rattle.std.proofs.Common.{refl}
use Rattle.station_core.specs.declared.ports.OutPort.TheVariants as outs
use Rattle.cmd_cells.proofs.outputs.CellFileOutputFiles.create.Goals as goal

pub create-requires : goal.create-requires
create-requires g c κs = ((refl, tt), ((c.requires.untouched outs.Cells refl).asked, (λ e. cc)))
