use Rattle.std.proofs.Common.{◌∙◌, ◌^◌, ◌<◌, ap, subst}
use Rattle.acs_plain.specs.declared.sums.Sums.{Sums}
use Rattle.inner_decoder.proofs.Slices.{all_lives, lives_after, all_word}
use Rattle.inner_decoder.proofs.metric.Metric.run.Goals as goal

pub prove-unreachable-requires : goal.prove-unreachable-requires
prove-unreachable-requires g c =
    let lives = lives_after c.self.inside.sums c.args.pairs.now c.run.new.sums c.run.new.words (all_lives c.self.inside.sums (ap (λ (z : Sums). z.alive) c.self.view_is ∙ c.requires.all)) c.run.ensures.steps in
    c.if-prove.true (c.alive-is_full.ensures.is ∙ all_word c.run.new.sums lives (subst (λ z. z < 2 ^ 64) c.alive-is_full.ensures.is c.alive-is_full.type_inv))
