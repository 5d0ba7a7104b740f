use Rattle.std.proofs.Common.{◌∙◌, ap, replicate}
use Rattle.acs_lanes.proofs.Costs16.{repeated_is}
use Rattle.acs_lanes.proofs.WordParts.{lanes_from}
use Rattle.acs_lanes.proofs.step16.repeated.Goals as goal

pub returns : goal.returns
returns c = ap (λ w. lanes_from (replicate 4 w)) c.word_of.ensures ∙ repeated_is c.args.pair
