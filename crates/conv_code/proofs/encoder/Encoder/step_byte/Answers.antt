use Rattle.std.proofs.Common.{ap, sym, ◌∙◌, ◌++◌}
use Rattle.spec_words.specs.Bits.{spelled}
use Rattle.conv_code.proofs.Coding.{xs_byte, ys_byte, register_byte, coded}
use Rattle.conv_code.proofs.encoder.Encoder.step_byte.Goals as goal

pub returns-clause-x : goal.returns-clause-x
returns-clause-x c = xs_byte _ _ c.args.self.now (spelled 8 c.args.byte) c.taps_x.ensures (c.with_byte-inputs.ensures ∙ ap (λ z. z ++ spelled 8 c.args.byte) c.self.view_is)

pub returns-clause-y : goal.returns-clause-y
returns-clause-y c = ys_byte _ _ c.args.self.now (spelled 8 c.args.byte) c.taps_y.ensures (c.with_byte-inputs.ensures ∙ ap (λ z. z ++ spelled 8 c.args.byte) c.self.view_is)

pub returns-clause-register : goal.returns-clause-register
returns-clause-register c = register_byte c.args.byte c.self.inside.register _ (sym c.self.view_is)

pub returns-clause-path : goal.returns-clause-path
returns-clause-path c = λ p h.
    let e = c.with_byte-inputs.ensures ∙ ap (λ z. z ++ spelled 8 c.args.byte) c.self.view_is in
    coded p (spelled 8 c.args.byte) _ _ c.args.self.now _ h (xs_byte _ _ c.args.self.now (spelled 8 c.args.byte) c.taps_x.ensures e) (ys_byte _ _ c.args.self.now (spelled 8 c.args.byte) c.taps_y.ensures e) (register_byte c.args.byte c.self.inside.register _ (sym c.self.view_is))
