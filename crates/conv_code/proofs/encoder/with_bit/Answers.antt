use Rattle.conv_code.proofs.Coding.{with_bit_is}
use Rattle.conv_code.proofs.encoder.with_bit.Goals as goal

pub returns : goal.returns
returns c = with_bit_is c.args.register c.args.bit c.requires
