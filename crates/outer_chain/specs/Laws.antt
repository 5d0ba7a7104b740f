-- The laws of received words. Each is the clause of a public function of module laws.
use Rattle.std.specs.Prelude.{◌≡◌, ℕ, ◌+◌, ◌-◌, ◌/◌, ◌%◌, ◌<◌, ◌≤◌, Option, Some, List, ◌++◌, length, take}
use Rattle.rs204.specs.Codes.{AreBytes}
use Rattle.outer_chain.specs.Words.{word_at, IsNear, phase_before, Packets, Tally, Tallies}
use Rattle.outer_chain.specs.Sent.{ArePackets, code_at, outer_bytes, first_packets}
use Rattle.outer_chain.specs.Bursts.{Bursts}

-- outer coding produces bytes
abbrev pub OuterAreBytes : Type 0
OuterAreBytes = (packets : List (List ℕ)) (n : ℕ) → ArePackets packets → AreBytes (outer_bytes packets n)

-- Received without errors, the first n bytes of a stream of packets give these packets and then null packets: one for
-- each whole word after the eleven of the start-up.
abbrev pub OwnBytes : Type 0
OwnBytes = (packets : List (List ℕ)) (n : ℕ) (out : List ℕ) → ArePackets packets → Packets (outer_bytes packets n) out
    → out ≡ first_packets packets (n / 204 - 11)

-- all these words are clean
abbrev pub OwnTally : Type 0
OwnTally = (packets : List (List ℕ)) (n : ℕ) (tally : Tally) → ArePackets packets
    → Tallies (outer_bytes packets n) tally
    → tally ≡ record { words = n / 204 - 11; clean = n / 204 - 11; corrected = 0; bad = 0; unphased = 0 }

-- bursts change no nearest codeword
abbrev pub BurstNear : Type 0
BurstNear = (packets : List (List ℕ)) (n : ℕ) (received : List ℕ) → ArePackets packets
    → Bursts (outer_bytes packets n) received
    → (k : ℕ) (near : Option (List ℕ)) → k < n / 204 - 11 → IsNear (word_at received k) near → near
    ≡ Some (code_at packets k)

-- each word has the same nearest codeword as without bursts
abbrev pub BurstSameNear : Type 0
BurstSameNear = (packets : List (List ℕ)) (n : ℕ) (received : List ℕ) → ArePackets packets
    → Bursts (outer_bytes packets n) received
    → (k : ℕ) (near : Option (List ℕ)) → k < n / 204 - 11 → IsNear (word_at (outer_bytes packets n) k) near
    → IsNear (word_at received k) near

-- a prefix of bytes with bursts is one too
abbrev pub BurstBeginning : Type 0
BurstBeginning = (packets : List (List ℕ)) (n m : ℕ) (received : List ℕ) → m ≤ n
    → Bursts (outer_bytes packets n) received → Bursts (outer_bytes packets m) (take m received)

-- bursts change no phase
abbrev pub BurstPhases : Type 0
BurstPhases = (packets : List (List ℕ)) (n : ℕ) (received : List ℕ) → ArePackets packets
    → Bursts (outer_bytes packets n) received
    → (near : ℕ → Option (List ℕ)) → ((k : ℕ) → k < n / 204 - 11 → IsNear (word_at received k) (near k)) → (k : ℕ)
    → k < n / 204 - 11 → phase_before near (k + 1) ≡ Some (k % 8)

-- bursts change no output packet
abbrev pub BurstPackets : Type 0
BurstPackets = (packets : List (List ℕ)) (n : ℕ) (received out : List ℕ) → ArePackets packets
    → Bursts (outer_bytes packets n) received → Packets received out → out ≡ first_packets packets (n / 204 - 11)

-- a word has at most one nearest codeword
abbrev pub OneNear : Type 0
OneNear = (word : List ℕ) (near other : Option (List ℕ)) → length word ≡ 204 → IsNear word near → IsNear word other
    → near ≡ other

-- so bytes have one list of packets
abbrev pub OnePackets : Type 0
OnePackets = (bytes out other : List ℕ) → Packets bytes out → Packets bytes other → out ≡ other

-- and one tally
abbrev pub OneTally : Type 0
OneTally = (bytes : List ℕ) (tally other : Tally) → Tallies bytes tally → Tallies bytes other → tally ≡ other

-- more bytes leave the packets already written
abbrev pub MorePackets : Type 0
MorePackets = (bytes more out longer : List ℕ) → Packets bytes out → Packets (bytes ++ more) longer
    → take (length out) longer ≡ out
