use Rattle.outer_chain.proofs.Finishing.{took_bytes}
use Rattle.outer_chain.proofs.laws.taking.Goals as goal

pub returns : goal.returns
returns c = record { bytes = took_bytes }
