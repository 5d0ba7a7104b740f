use Rattle.std.proofs.Common.{refl, subst, []}
use Rattle.forney.specs.Delays.{Interleaves}
use Rattle.outer_chain.proofs.Sender.{none_sent}
use Rattle.outer_chain.proofs.tx.OuterTx.new.Goals as goal

pub returns : goal.returns
returns c = record {
  empty = record {
    delays = subst (Interleaves c.in_ok-new.field-0) (none_sent [] refl) c.in_ok-new.ensures.empty;
    phase = c.start.ensures.start;
  };
}
