-- Random values from a number (this project's own): the words of the generator PCG XSH RR 64/32 on its stream 1, in
-- order.
use Rattle.std.specs.Prelude.{ℕ, ◌+◌, ◌-◌, ◌*◌, ◌/◌, ◌%◌, ◌^◌, ◌==◌, min, if◌then◌else◌, List, map, ℤ, pos, ◌-ℤ◌}
use Rattle.std.specs.List.{range_with_len}
use Rattle.rand_pcg.specs.Lcg.{Lcg, started, advance, increment_of}
use Rattle.rand_pcg.specs.Pcg.{multiplier_64, output_xsh_rr}

-- the generator for a number
unfoldable pub generator : ℕ → Lcg
generator number = started 64 multiplier_64 number (increment_of 64 1)

-- a generator after n words
unfoldable pub after : ℕ → Lcg → Lcg
after n g = advance 64 multiplier_64 n g

-- the next word, of 32 bits
unfoldable pub word : Lcg → ℕ
word g = output_xsh_rr g.state

-- a random count of packets: 100 to 199
abbrev pub count_of : Lcg → ℕ
count_of g = 100 + word g % 100

-- a random shift of an axis, by at most delta
abbrev pub shift_of : ℕ → Lcg → ℤ
shift_of delta g = pos (word g % (2 * delta + 1)) -ℤ pos delta

-- a random length of a piece, 1 to 4096 bytes
abbrev pub length_of : Lcg → ℕ
length_of g = 1 + word g % 4096

-- the length of the next piece, at most the rest
abbrev pub piece_of : ℕ → Lcg → ℕ
piece_of rest g = min rest (length_of g)

-- byte i of the words, least significant byte first in each
abbrev pub byte_of : Lcg → ℕ → ℕ
byte_of g i = word (after (i / 4) g) / 256 ^ (i % 4) % 256

-- byte i of a random packet: the sync byte, then the bytes of 47 words without the last one, with the error bit cleared
abbrev pub packet_byte : Lcg → ℕ → ℕ
packet_byte g i = if i == 0 then 0x47 else if i == 1 then byte_of g 0 % 128 else byte_of g (i - 1)

-- the number of words for a packet
abbrev pub packet_words : ℕ
packet_words = 47

-- a random packet of 188 bytes
unfoldable pub packet_of : Lcg → List ℕ
packet_of g = map (packet_byte g) (range_with_len 0 188)

-- the random length of a burst of errors, 1 to 96 bytes
abbrev pub burst_length : Lcg → ℕ
burst_length g = 1 + word g % 96

-- the random mask applied to each byte of the burst, 1 to 255
abbrev pub burst_mask : Lcg → ℕ
burst_mask g = 1 + word (after 1 g) % 255
