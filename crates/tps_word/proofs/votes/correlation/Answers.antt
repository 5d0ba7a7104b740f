-- No sum wraps.
use Rattle.std.proofs.Common.{arith}
use Rattle.std.proofs.lemmas.Int.{ints, to_z-of_z}
use Rattle.tps_word.proofs.votes.correlation.Goals as goal

pub returns-clause-value : goal.returns-clause-value
returns-clause-value c = grind (arith, ints, to_z-of_z, c.from.ensures, c.from-2.ensures, c.product-re.ensures, c.product-im.ensures)

pub returns-clause-least : goal.returns-clause-least
returns-clause-least c = omega (arith, ints)
