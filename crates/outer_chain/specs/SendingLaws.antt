-- The laws of the bytes sent. Each is the clause of a public function of module laws.
use Rattle.std.specs.Prelude.{◌≡◌, ℕ, ◌*◌, ◌<◌, List, ◌++◌, length, slice_index}
use Rattle.outer_chain.specs.Sent.{packet_at, outer_byte, outer_bytes, sent_bytes}

-- the bytes of the first n packets depend only on them
abbrev pub SameBeginning : Type 0
SameBeginning = (packets other : List (List ℕ)) (n : ℕ) → ((i : ℕ) → i < n → packet_at packets i ≡ packet_at other i)
    → (p : ℕ) → p < 204 * n → outer_byte packets p ≡ outer_byte other p

-- more packets leave the bytes of the first ones
abbrev pub MorePacketsSent : Type 0
MorePacketsSent = (packets more : List (List ℕ)) → outer_bytes (packets ++ more) (204 * length packets)
    ≡ sent_bytes packets

-- a prefix of the stream holds its bytes in order
abbrev pub ByteAfterByte : Type 0
ByteAfterByte = (packets : List (List ℕ)) (n p : ℕ) → p < n → slice_index (outer_bytes packets n) p
    ≡ outer_byte packets p
