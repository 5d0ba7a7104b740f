-- The symbol's indices are those of the symbol at its place among four.
use Rattle.std.proofs.Common.{◌≡◌, ◌%◌, ap, subst, arith}
use Rattle.mode_set.specs.StreamTable.{carriers}
use Rattle.mode_set.specs.declared.modes.Mode.{Mode}
use Rattle.pilots.specs.Carriers.{kind}
use Rattle.frame_build.proofs.Indices.{index_repeats}
use Rattle.frame_build.proofs.symbol_out.indices_of.Goals as goal

pub returns : goal.returns
returns g c = λ k d few.
    index_repeats g.M.Carriers.MODE c.args.l c.args.indices.now k _ d c.requires.indices few
    (subst (λ (m : Mode). kind m c.args.l k ≡ kind m (c.args.l % 4) k) c.MODE.ensures (c.kinds_repeat.ensures.kinds k (omega (arith, few, ap carriers c.MODE.ensures))))
