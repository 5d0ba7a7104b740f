-- One label more has the bytes of its cell.
use Rattle.std.proofs.Common.{◌<◌, ◌∙◌, ap, arith, length}
use Rattle.std.proofs.lemmas.List.{length-set}
use Rattle.frame_build.specs.Symbol.{sent_bytes}
use Rattle.frame_build.proofs.Cells.{labels_table_more}
use Rattle.frame_build.proofs.cell_table.label_cells.Goals as goal

pub loop-label-preserved : goal.loop-label-preserved
loop-label-preserved c =
    let inv = c.loop-label.invariant in
    let lt : c.loop-label.label < length c.loop-label.cells = omega (arith, inv.long, c.label_count-label-end.ensures.few) in
    record { long = length-set _ _ _ ∙ inv.long; table = labels_table_more c.args.shape c.args.hierarchy _ _ _ inv.table lt (c.bytes_of.ensures ∙ ap sent_bytes c.map.ensures) }
