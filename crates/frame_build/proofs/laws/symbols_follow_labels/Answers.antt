use Rattle.std.proofs.Common.{◌%◌, sym, subst}
use Rattle.mode_set.specs.declared.modes.Mode.{Mode}
use Rattle.pilots.specs.Carriers.{AreNumbered}
use Rattle.frame_build.proofs.Cells.{follows}
use Rattle.frame_build.proofs.laws.symbols_follow_labels.Goals as goal

pub returns : goal.returns
returns c = λ now next labels more mode same.
    follows now next c.args.m (subst (λ (z : Mode). AreNumbered z (c.args.m % 68)) (sym mode) c.payload_carriers_are_numbered.ensures) labels more same
