use Rattle.std.proofs.Common.{ap, sym, ◌∙◌, ◌++◌}
use Rattle.spec_words.specs.Bits.{spelled}
use Rattle.conv_code.proofs.Coding.{register_byte}
use Rattle.conv_code.proofs.encoder.Encoder.push_byte.Goals as goal

pub returns-clause-inputs : goal.returns-clause-inputs
returns-clause-inputs c = c.with_byte-inputs.ensures ∙ ap (λ z. z ++ spelled 8 c.args.byte) c.self.view_is

pub returns-clause-register : goal.returns-clause-register
returns-clause-register c = register_byte c.args.byte c.self.inside.register _ (sym c.self.view_is)
