-- Nothing was taken of an input: it is unread.
use Rattle.std.proofs.Common.{◌≡◌, arith}
use Rattle.station_core.specs.Meaning.{Meaning}
use Rattle.station_core.specs.declared.ports.InPort.{InPort}
use Rattle.cmd_base.specs.Command.{Command, input_file, unread}
use Rattle.cmd_base.specs.Run.{IsUntaken}

pub all_unread : (c : Command) (m : Meaning) (port : InPort) → unread c m port ≡ input_file m.file c port → IsUntaken c m port
all_unread c m port is = (0, omega arith, is)
