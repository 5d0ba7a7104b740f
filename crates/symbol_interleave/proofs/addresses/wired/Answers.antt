use Rattle.std.proofs.Common.{sym, ap, ◌∙◌}
use Rattle.mode_set.specs.declared.modes.Mode.{Mode}
use Rattle.symbol_interleave.specs.Carried.{moved, wiring}
use Rattle.symbol_interleave.proofs.addresses.wired.Goals as goal

pub returns-in-M8k-clause-is : goal.returns-in-M8k-clause-is
returns-in-M8k-clause-is c = c.rewired-in-M8k.ensures.is ∙ ap (λ (m : Mode). moved c.args.word (wiring m)) (sym c.in-M8k.is)
