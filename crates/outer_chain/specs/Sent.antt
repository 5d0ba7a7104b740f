-- The output of outer coding for a stream of packets (EN 300 744, 4.3.1 and 4.3.2).
use Rattle.std.specs.Prelude.{ℕ, zero, suc, ◌*◌, ◌/◌, ◌%◌, ◌<◌, List, [], ◌++◌, length, slice_index, slice_index_or}
use Rattle.ts_packet.specs.Packet.{IsPacket, null_packet}
use Rattle.dispersal.specs.Packet.{dispersed}
use Rattle.rs204.specs.Codes.{AreBytes, codeword}
use Rattle.forney.specs.Values.{values}
use Rattle.forney.specs.Interleaving.{interleaved}

-- packet i of a stream: its packets, then null packets without end
abbrev pub packet_at : List (List ℕ) → ℕ → List ℕ
packet_at packets i = slice_index_or packets i null_packet

-- outer word i: the codeword of packet i, dispersed at phase i mod 8
abbrev pub code_at : List (List ℕ) → ℕ → List ℕ
code_at packets i = codeword (dispersed (i % 8) (packet_at packets i))

-- byte p of the concatenated outer words
unfoldable pub coded_byte : List (List ℕ) → ℕ → ℕ
coded_byte packets p = slice_index (code_at packets (p / 204)) (p % 204)

-- byte p after outer coding: these bytes, interleaved
abbrev pub outer_byte : List (List ℕ) → ℕ → ℕ
outer_byte packets = interleaved (coded_byte packets)

-- its first n bytes
unfoldable pub outer_bytes : List (List ℕ) → ℕ → List ℕ
outer_bytes packets n = values (outer_byte packets) 0 n

-- the bytes of these packets alone, 204 for each
abbrev pub sent_bytes : List (List ℕ) → List ℕ
sent_bytes packets = outer_bytes packets (204 * length packets)

-- the concatenation of n lists
unfoldable pub joined : (ℕ → List ℕ) → ℕ → List ℕ
joined part zero = []
joined part (suc n) = joined part n ++ part n

-- the bytes of the first n packets of a stream
abbrev pub first_packets : List (List ℕ) → ℕ → List ℕ
first_packets packets n = joined (packet_at packets) n

-- lists of 188 bytes, the first of them the sync byte
pub record ArePackets (packets : List (List ℕ)) : Type 0 where
  pub each : (i : ℕ) → i < length packets → IsPacket (packet_at packets i)
  pub bytes : (i : ℕ) → i < length packets → AreBytes (packet_at packets i)
