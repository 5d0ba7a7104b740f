use Rattle.std.proofs.Common.{ap, sym, ◌∙◌}
use Rattle.inner_decoder.specs.Running.{BranchState}
use Rattle.inner_decoder.proofs.ByteBits.{byte_amount}
use Rattle.inner_decoder.proofs.branch.Branch.take_bytes.Goals as goal

pub returns-clause-amount : goal.returns-clause-amount
returns-clause-amount g c = byte_amount _ _ _ _ (ap (λ (z : BranchState). z.wait) (sym c.self.view_is) ∙ c.take_bytes.ensures.taken) c.take_bytes.ensures.size
