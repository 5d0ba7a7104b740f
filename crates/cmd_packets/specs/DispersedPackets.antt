-- Packets after energy dispersal (EN 300 744, 4.3.1).
use Rattle.std.specs.Prelude.{ℕ, ◌%◌, List, flat_map}
use Rattle.std.specs.List.{enumerate_from}
use Rattle.dispersal.specs.Packet.{dispersed}

-- the dispersed packets in order, packet i at phase i modulo 8
unfoldable pub dispersed_packets : List (List ℕ) → List ℕ
dispersed_packets packets = flat_map (λ p. dispersed (p.0 % 8) p.1) (enumerate_from 0 packets)
