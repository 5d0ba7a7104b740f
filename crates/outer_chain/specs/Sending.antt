-- The state of an outer-code sender.
use Rattle.std.specs.Prelude.{◌≡◌, ℕ, ◌*◌, ◌%◌, List, length}
use Rattle.forney.specs.Values.{values}
use Rattle.forney.specs.Delays.{Delays, Interleaves}
use Rattle.outer_chain.specs.Sent.{coded_byte}

-- a sender: its delay lines, and the phase of the next packet
pub record Sender : Type 0 where
  pub delays : Delays
  pub phase : ℕ

-- a sender after these packets
pub record Sends (sender : Sender) (packets : List (List ℕ)) : Type 0 where
  pub delays : Interleaves sender.delays (values (coded_byte packets) 0 (204 * length packets))
  pub phase : sender.phase ≡ length packets % 8
