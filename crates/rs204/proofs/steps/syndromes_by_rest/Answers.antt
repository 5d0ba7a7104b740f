use Rattle.std.proofs.Common.{◌∙◌, sym, ap, reverse, List, ℕ}
use Rattle.gf256.specs.Field as field
use Rattle.rs204.specs.Codes.{rest_of}
use Rattle.rs204.specs.Polynomials.{value_at}
use Rattle.rs204.proofs.Dividing.{held_bytes}
use Rattle.rs204.proofs.Codewords.{value_by_rest}
use Rattle.rs204.proofs.steps.syndromes_by_rest.Goals as goal

pub returns : goal.returns
returns c = λ word l b h i m.
    c.values_of_rest.ensures i m
    ∙ ap (λ (r : List ℕ). value_at (field.power i) (reverse r)) (c.to_le_bytes.ensures ∙ held_bytes c.args.left (rest_of 188 word) h)
    ∙ sym (value_by_rest word i l b m)
