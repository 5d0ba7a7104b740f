use Rattle.law_link.proofs.Joined.{packets_then_nulls}
use Rattle.law_link.proofs.laws.packets_then_nulls.Goals as goal

pub returns : goal.returns
returns c = packets_then_nulls c.super_frames.ensures.found
