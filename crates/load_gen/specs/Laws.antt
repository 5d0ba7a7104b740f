-- Laws of random values. Each is the clause of a public function.
use Rattle.std.specs.Prelude.{◌≡◌, ◌<◌, ◌+◌, ◌^◌, ℕ}
use Rattle.std.specs.List.{All}
use Rattle.rand_pcg.specs.Lcg.{Lcg}
use Rattle.ts_packet.specs.Packet.{IsPacket}
use Rattle.load_gen.specs.Draws.{after, word, packet_of}

-- n words and then m words are n + m words
abbrev pub DrawsAdd : Type 0
DrawsAdd = (m n : ℕ) (g : Lcg) → after m (after n g) ≡ after (n + m) g

-- a word has 32 bits
abbrev pub WordsAreSmall : Type 0
WordsAreSmall = (g : Lcg) → word g < 2 ^ 32

-- a random packet is a packet
abbrev pub PacketsAreSound : Type 0
PacketsAreSound = (g : Lcg) → IsPacket (packet_of g)

-- and its elements are bytes
abbrev pub PacketsAreBytes : Type 0
PacketsAreBytes = (g : Lcg) → All (λ b. b < 256) (packet_of g)
