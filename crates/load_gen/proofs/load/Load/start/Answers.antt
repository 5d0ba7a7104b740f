use Rattle.std.proofs.Common.{◌∙◌, ap}
use Rattle.load_gen.specs.Draws.{generator}
use Rattle.load_gen.proofs.load.Load.start.Goals as goal

pub returns : goal.returns
unfolding generator
returns c = record { start = c.new.ensures ∙ ap generator c.from.ensures }
