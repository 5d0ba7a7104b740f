-- Transport packets (ISO/IEC 13818-1, 2.4.3.2).
use Rattle.std.specs.Prelude.{◌≡◌, ℕ, List, ◌∷◌, length, replicate, slice_index, slice_set, bit_or}

-- 188 bytes, the first of them the sync byte
pub record IsPacket (bytes : List ℕ) : Type 0 where
  pub length : length bytes ≡ 188
  pub sync : slice_index bytes 0 ≡ 0x47

-- the null packet
abbrev pub null_packet : List ℕ
null_packet = 0x47 ∷ 0x1F ∷ 0xFF ∷ 0x10 ∷ replicate 184 0xFF

-- the packet with transport_error_indicator set
abbrev pub marked : List ℕ → List ℕ
marked packet = slice_set packet 1 (bit_or (slice_index packet 1) 0x80)
