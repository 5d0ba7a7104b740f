use Rattle.std.proofs.Common.{ℕ, ◌∙◌, ap}
use Rattle.rand_pcg.specs.Lcg.{Lcg}
use Rattle.load_gen.specs.Draws.{after, word}
use Rattle.load_gen.proofs.Steps.{first_word, after_one}
use Rattle.load_gen.proofs.load.Load.draw.Goals as goal

pub returns-clause-value : goal.returns-clause-value
returns-clause-value c = ap (λ (p : ℕ × Lcg). p.0) c.next_word.ensures ∙ first_word _ ∙ ap word c.self.view_is

pub returns-clause-next : goal.returns-clause-next
returns-clause-next c = ap (λ (p : ℕ × Lcg). p.1) c.next_word.ensures ∙ after_one _ ∙ ap (after 1) c.self.view_is
