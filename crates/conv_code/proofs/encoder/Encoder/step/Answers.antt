use Rattle.std.proofs.Common.{ap, ◌∙◌, ◌++◌, ◌∷◌, []}
use Rattle.conv_code.proofs.Coding.{x_bit, y_bit, register_bit, coded}
use Rattle.conv_code.proofs.encoder.Encoder.step.Goals as goal

pub returns-clause-x : goal.returns-clause-x
returns-clause-x c = x_bit _ _ c.args.self.now (c.args.bit ∷ []) c.taps_x.ensures (c.with_bit-inputs.ensures ∙ ap (λ z. z ++ c.args.bit ∷ []) c.self.view_is)

pub returns-clause-y : goal.returns-clause-y
returns-clause-y c = y_bit _ _ c.args.self.now (c.args.bit ∷ []) c.taps_y.ensures (c.with_bit-inputs.ensures ∙ ap (λ z. z ++ c.args.bit ∷ []) c.self.view_is)

pub returns-clause-register : goal.returns-clause-register
returns-clause-register c = register_bit _ c.args.self.now (c.args.bit ∷ []) (c.with_bit-inputs.ensures ∙ ap (λ z. z ++ c.args.bit ∷ []) c.self.view_is)

pub returns-clause-path : goal.returns-clause-path
returns-clause-path c = λ p h.
    let e = c.with_bit-inputs.ensures ∙ ap (λ z. z ++ c.args.bit ∷ []) c.self.view_is in
    coded p _ _ _ c.args.self.now _ h (ap (λ z. z ∷ []) (x_bit _ _ c.args.self.now (c.args.bit ∷ []) c.taps_x.ensures e)) (ap (λ z. z ∷ []) (y_bit _ _ c.args.self.now (c.args.bit ∷ []) c.taps_y.ensures e)) (register_bit _ c.args.self.now (c.args.bit ∷ []) e)
