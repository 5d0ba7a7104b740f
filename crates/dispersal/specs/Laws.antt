-- The law of energy dispersal, the clause of a public function.
use Rattle.std.specs.Prelude.{◌≡◌, ℕ, List}
use Rattle.ts_packet.specs.Packet.{IsPacket}
use Rattle.dispersal.specs.Packet.{dispersed, undone}

-- undoing the dispersal at the same phase restores the packet
abbrev pub UndoGivesBack : Type 0
UndoGivesBack = (phase : ℕ) (packet : List ℕ) → IsPacket packet → undone phase (dispersed phase packet) ≡ packet
