use Rattle.std.proofs.Common.{w16, SFits, rules, to_z-of_z}
use Rattle.spec_words.specs.Bits.{is_set}
use Rattle.qam_map.proofs.Cells.{cell_is}
use Rattle.qam_map.proofs.constellation.map.Goals as goal

pub returns : goal.returns
returns c =
    let re : SFits w16 c.axis_value.result = search rules in
    let im : SFits w16 c.axis_value-2.result = search rules in
    cell_is c.args.shape c.args.hierarchy (is_set c.args.label) _ _ _ _ _ _ _ _ _ _
    c.bit.ensures c.bit-2.ensures c.bit-3.ensures c.bit-4.ensures c.bit-5.ensures c.bit-6.ensures
    (to_z-of_z re) c.axis_value.ensures (to_z-of_z im) c.axis_value-2.ensures
