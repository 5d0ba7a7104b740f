use Rattle.conv_code.proofs.Coding.{taps_x_is}
use Rattle.conv_code.proofs.encoder.taps_x.Goals as goal

pub returns : goal.returns
returns c = λ k l. taps_x_is c.args.inputs k
