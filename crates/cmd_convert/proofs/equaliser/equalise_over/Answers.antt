use Rattle.std.proofs.Common.{◌≡◌, ◌%◌, ℕ, List, ap, ◌∙◌}
use Rattle.mode_set.specs.declared.modes.Mode.{Mode}
use Rattle.cell_equal.specs.Equal.{equalised_bytes}
use Rattle.cmd_convert.proofs.EqualiseTaking.{all_taken, corrected}
use Rattle.cmd_convert.proofs.equaliser.equalise_over.Goals as goal

pub returns-clause-corrected : goal.returns-clause-corrected
returns-clause-corrected g c =
    let mode : Mode = g.M.Carriers.MODE in
    let k : ℕ = g.M.Carriers.K in
    let bytes : List ℕ = c.args.bytes.now in
    let piece : c.take.new.self ≡ bytes = all_taken k c.args.symbol.now bytes c.take.result c.take.new.self c.requires.empty c.requires.whole c.take.ensures.count c.take.ensures.taken in
    c.equalise_into.ensures.bytes
    ∙ ap (λ (m : Mode). equalised_bytes m (c.args.number % 68) c.cells.result.now c.weights.result.now) c.MODE.ensures
    ∙ corrected mode k c.args.number c.take.new.self bytes c.cells.result.now c.weights.result.now g.M.Carriers.k_of piece c.cells.ensures.cells c.weights.ensures.weights
