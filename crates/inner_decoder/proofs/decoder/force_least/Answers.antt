use Rattle.inner_decoder.proofs.decoder.force_least.Goals as goal

pub returns-clause-forced : goal.returns-clause-forced
returns-clause-forced g c = record {
  state = c.best-end.result;
  best = c.best-end.ensures;
  given = c.force.ensures.given;
  lives = c.only.ensures.lives;
  cost = c.only.ensures.cost;
  none = c.force.ensures.list;
}
