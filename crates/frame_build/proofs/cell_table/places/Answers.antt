-- The labels, and the other places behind them.
use Rattle.std.proofs.Common.{◌+◌, ◌-◌, length, refl, ◌∙◌, arith}
use Rattle.frame_build.proofs.Indices.{few_payload, places_are}
use Rattle.frame_build.proofs.cell_table.places.Goals as goal

pub returns : goal.returns
returns g c = places_are g.M.Carriers.MODE c.args.turned c.args.labels.now c.copy_from_slice.new.self c.copy_from_slice-2.new.self _ (length c.args.labels.now) (length c.args.labels.now + 4 - length c.args.labels.now)
    refl (c.requires.count ∙ g.M.Carriers.nmax_of) (omega arith) (omega (arith, few_payload g.M.Carriers.MODE)) c.copy_from_slice.ensures.after (c.copy_from_slice-2.ensures.after ∙ c.other_places.ensures)
