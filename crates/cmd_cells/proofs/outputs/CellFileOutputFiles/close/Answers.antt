use Rattle.std.proofs.Common.{refl}
use Rattle.station_core.specs.declared.ports.OutPort.TheVariants as outs
use Rattle.cmd_cells.proofs.outputs.CellFileOutputFiles.close.Goals as goal

pub close-requires : goal.close-requires
close-requires g c κs = ((refl, tt), (c.requires.open.made outs.Cells refl, c.requires.open.opened outs.Cells refl))
