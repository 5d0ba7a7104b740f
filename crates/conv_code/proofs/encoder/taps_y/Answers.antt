use Rattle.conv_code.proofs.Coding.{taps_y_is}
use Rattle.conv_code.proofs.encoder.taps_y.Goals as goal

pub returns : goal.returns
returns c = λ k l. taps_y_is c.args.inputs k
