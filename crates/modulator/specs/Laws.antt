-- The laws of a modulator's state. Each is the clause of a public function of module laws.
use Rattle.std.specs.Prelude.{◌≡◌, ℕ, ◌<◌}
use Rattle.mode_set.specs.declared.modes.Stream.{Stream}
use Rattle.outer_chain.specs.Sent.{packet_at}
use Rattle.transmission.specs.Transmission.{Inputs, by_stream}
use Rattle.modulator.specs.State.{Transmitter, HasPut}

-- the packets put depend only on the streams' first packets
abbrev pub OtherStreams : Type 0
OtherStreams = (t : Transmitter) (inputs other : Inputs) → HasPut t inputs
    → ((σ : Stream) (i : ℕ) → i < by_stream t.hp t.lp σ → packet_at (inputs σ) i ≡ packet_at (other σ) i)
    → HasPut t other
