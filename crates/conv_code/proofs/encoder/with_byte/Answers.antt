use Rattle.conv_code.proofs.Coding.{with_byte_is}
use Rattle.conv_code.proofs.encoder.with_byte.Goals as goal

pub returns : goal.returns
returns c = with_byte_is c.args.register c.args.byte c.requires c.ranges.byte.fits
