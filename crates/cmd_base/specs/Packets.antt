-- The whole packets of a transport file, and the first one that a run rejects.
use Rattle.std.specs.Prelude.{◌≡◌, ◌<◌, ◌+◌, ◌*◌, ◌/◌, ◌%◌, ◌==◌, ℕ, zero, suc, Bool, not, List, [], ◌∷◌, ◌++◌, length}
use Rattle.std.specs.Prelude.{take, drop, slice_index, nat_lt, ◌&&◌, true, Option, None, Some, codes, decimal}
use Rattle.std.specs.Prelude.{if◌then◌else◌}
use Rattle.spec_words.specs.Words.{first_below}
use Rattle.mode_set.specs.declared.modes.Stream.{Stream}
use Rattle.mode_set.specs.declared.modes.Stream.TheVariants.{Hp}
use Rattle.rx_report.specs.Streams.{stream_text}
use Rattle.cmd_base.specs.declared.counts.Counts.{Counts}
use Rattle.cmd_base.specs.declared.refusal.Refusal.{Refusal}
use Rattle.cmd_base.specs.declared.refusal.Refusal.TheVariants.{NotSync, Limit}

-- packet i of a transport file
abbrev pub file_packet : List ℕ → ℕ → List ℕ
file_packet bytes i = take 188 (drop (188 * i) bytes)

-- the number of whole packets in a file; the tail follows them
abbrev pub whole_packets : List ℕ → ℕ
whole_packets bytes = length bytes / 188

-- the number of bytes after the last whole packet
abbrev pub tail_of : List ℕ → ℕ
tail_of bytes = length bytes % 188

-- packet i begins with the sync byte
abbrev pub is_sync : List ℕ → ℕ → Bool
is_sync bytes i = slice_index (file_packet bytes i) 0 == 0x47

-- packet i is within the limit and begins with the sync byte
abbrev pub is_accepted : ℕ → List ℕ → ℕ → Bool
is_accepted limit bytes i = nat_lt i limit && is_sync bytes i

-- the number of packets before the first rejected one, or of all
unfoldable pub accepted : ℕ → List ℕ → ℕ
accepted limit bytes = first_below (whole_packets bytes) (λ i. not (is_accepted limit bytes i))

-- every whole packet is accepted
abbrev pub AreAccepted : ℕ → List ℕ → Type 0
AreAccepted limit bytes = accepted limit bytes ≡ whole_packets bytes

-- the first n packets of the file
unfoldable pub first_packets : ℕ → List ℕ → List (List ℕ)
first_packets zero bytes = []
first_packets (suc n) bytes = first_packets n bytes ++ file_packet bytes n ∷ []

-- all whole packets of the file
abbrev pub packets_of : List ℕ → List (List ℕ)
packets_of bytes = first_packets (whole_packets bytes) bytes

-- the first n packets are accepted
abbrev pub AcceptsFirst : ℕ → List ℕ → ℕ → Type 0
AcceptsFirst limit input n = (i : ℕ) → i < n → is_accepted limit input i ≡ true

-- the counts of a whole input
abbrev pub counts_of : List ℕ → Counts
counts_of input = record { packets = whole_packets input; tail = tail_of input }

-- the refusal of the first rejected packet of HP, if any; the limit is checked before the sync byte
abbrev pub packet_refusal : ℕ → List ℕ → Option Refusal
packet_refusal limit input = let n = accepted limit input in
    if n == whole_packets input then None else if nat_lt n limit then Some (NotSync Hp n) else Some (Limit limit)

-- The most bytes taken from a transport file: the accepted packets and one more. So at most one packet past the limit
-- is taken, and nothing after a packet without its sync byte.
abbrev pub most_packets_taken : ℕ → List ℕ → ℕ
most_packets_taken limit input = 188 * (accepted limit input + 1)

-- the closing line of a transport file
abbrev pub packets_line : Stream → Counts → List ℕ
packets_line σ counts = stream_text σ ++ codes " packets " ++ decimal counts.packets ++ codes " tail "
    ++ decimal counts.tail ++ codes "\n"

-- the closing line of a command with one transport file
abbrev pub closing_line : Counts → List ℕ
closing_line = packets_line Hp
