use Rattle.std.proofs.Common.{refl, ◌∙◌, ap}
use Rattle.station_core.specs.Meaning.{Meaning}
use Rattle.station_core.specs.declared.ports.OutPort.TheVariants as outs
use Rattle.cmd_cells.proofs.outputs.ReceptionFilesOutputFiles.close.Goals as goal

pub close-requires : goal.close-requires
close-requires g c κs = ((refl, tt), (c.requires.open.made outs.Hp refl, c.requires.open.opened outs.Hp refl))

pub close_lp-requires : goal.close_lp-requires
close_lp-requires g c κs = (
  (refl, tt),
  (
    (λ is. ap (λ (x : Meaning). x.lp_out.created) c.in-Ok.ensures.ok ∙ c.requires.open.made outs.Lp is),
    (λ is. ap (λ (x : Meaning). x.lp_out.closed) c.in-Ok.ensures.ok ∙ c.requires.open.opened outs.Lp is),
  ),
)

pub close_lp-requires-in-Err : goal.close_lp-requires-in-Err
close_lp-requires-in-Err g c κs = (
  (refl, tt),
  (
    (λ is. ap (λ (x : Meaning). x.lp_out.created) c.in-Err.ensures.err ∙ c.requires.open.made outs.Lp is),
    (λ is. ap (λ (x : Meaning). x.lp_out.closed) c.in-Err.ensures.err ∙ c.requires.open.opened outs.Lp is),
  ),
)
