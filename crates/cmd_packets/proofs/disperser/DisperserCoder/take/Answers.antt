use Rattle.std.proofs.Common.{ℕ, List, ◌++◌, sym, ◌∙◌, ap}
use Rattle.cmd_packets.specs.DispersedPackets.{dispersed_packets}
use Rattle.cmd_packets.proofs.DispersedPackets.{dispersed_more}
use Rattle.cmd_packets.proofs.disperser.DisperserCoder.take.Goals as goal

pub returns-clause-gives : goal.returns-clause-gives
returns-clause-gives c = λ packets took.
    dispersed_more c.args.self.now.dispersal packets c.args.packet.now took
    ∙ ap (λ (l : List ℕ). dispersed_packets packets ++ l) (sym c.apply-self.ensures.word)
