use Rattle.std.proofs.Common.{refl, ◌∙◌, ap}
use Rattle.std.specs.Prelude.{is_some}
use Rattle.std.specs.Option.{option_copied}
use Rattle.station_core.specs.Meaning.{Meaning}
use Rattle.station_core.specs.declared.ports.OutPort.TheVariants as outs
use Rattle.cmd_cells.proofs.outputs.ReceptionFilesOutputFiles.create.Goals as goal

pub create-requires : goal.create-requires
create-requires g c κs = ((refl, tt), ((c.requires.untouched outs.Hp refl).asked, (λ e. cc)))

pub create-requires-2 : goal.create-requires-2
create-requires-2 g c κs =
    ((refl, tt), (ap (λ (x : Meaning). x.lp_out.asked) c.in-Ok.ensures.ok ∙ (c.requires.untouched outs.Lp (ap (λ o. is_some (option_copied o)) c.in-Some.is)).asked, (λ e. cc)))
