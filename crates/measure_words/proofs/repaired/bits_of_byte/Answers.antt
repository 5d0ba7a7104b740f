use Rattle.std.proofs.Common.{refl}
use Rattle.measure_words.proofs.Bits.{ones_apart, ones_few}
use Rattle.measure_words.proofs.repaired.bits_of_byte.Goals as goal

pub returns-clause-is : goal.returns-clause-is
returns-clause-is c = ones_apart c.args.one c.args.other _ c.ranges.one.fits c.ranges.other.fits refl

pub returns-clause-few : goal.returns-clause-few
returns-clause-few c = ones_few c.args.one c.args.other c.ranges.one.fits c.ranges.other.fits
