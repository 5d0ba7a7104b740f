use Rattle.puncture.proofs.InOrder.{in_order}
use Rattle.puncture.proofs.laws.steps_send_in_order.Goals as goal

pub returns : goal.returns
returns c = in_order
