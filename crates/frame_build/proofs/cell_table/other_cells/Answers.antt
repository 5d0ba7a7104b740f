-- Each cell has its bytes.
use Rattle.std.proofs.Common.{◌∙◌, refl, ap}
use Rattle.frame_build.specs.Symbol.{sent_bytes}
use Rattle.frame_build.proofs.Cells.{others_are}
use Rattle.frame_build.proofs.cell_table.other_cells.Goals as goal

pub returns : goal.returns
returns c =
    others_are _ _ _ _
    (c.bytes_of-pilot.ensures ∙ ap sent_bytes (c.on_real_axis.ensures 21845 refl))
    (c.bytes_of-opposite_pilot.ensures ∙ ap sent_bytes (c.on_real_axis-2.ensures 21845 refl))
    (c.bytes_of-signalling.ensures ∙ ap sent_bytes (c.on_real_axis-3.ensures 16384 refl))
    (c.bytes_of-opposite_signalling.ensures ∙ ap sent_bytes (c.on_real_axis-4.ensures 16384 refl))
