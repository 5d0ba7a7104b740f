-- Received words, and the packets decoded from them (EN 300 744, 4.3.1 and 4.3.2, inverted; start-up words, phases and
-- marks are the profile of this project).
use Rattle.std.specs.Prelude.{◌≡◌, ℕ, zero, suc, ◌+◌, ◌-◌, ◌*◌, ◌/◌, ◌%◌, ◌<◌, ◌≤◌, Bool, true, false, cond, ◌==◌, not}
use Rattle.std.specs.Prelude.{◌&&◌, Option, Some, None, List, [], ◌++◌, length, take, slice_index}
use Rattle.ts_packet.specs.Packet.{marked}
use Rattle.dispersal.specs.Packet.{undone}
use Rattle.rs204.specs.Codes.{IsCodeword, distance}
use Rattle.forney.specs.Values.{values, stream_of}
use Rattle.forney.specs.Interleaving.{deinterleaved}

-- the number of whole words after the eleven of the start-up
abbrev pub word_count : List ℕ → ℕ
word_count bytes = length bytes / 204 - 11

-- received word n: 204 deinterleaved bytes, the start-up words not counted
unfoldable pub word_at : List ℕ → ℕ → List ℕ
word_at bytes n = values (deinterleaved (stream_of bytes)) (204 * (n + 11)) 204

-- the nearest codeword: the one within distance 8, if there is one
abbrev pub IsNear : List ℕ → Option (List ℕ) → Type 0
IsNear word (Some c) = IsCodeword c × (distance word c ≤ 8)
IsNear word None = (c : List ℕ) → IsCodeword c → 8 < distance word c

-- whether a codeword begins a group of eight: its sync byte is inverted
abbrev pub begins_group : Option (List ℕ) → Bool
begins_group None = false
begins_group (Some c) = slice_index c 0 == 0xB8

-- the phase of the next word, counted modulo 8
abbrev pub next_phase : Option ℕ → Option ℕ
next_phase None = None
next_phase (Some f) = Some ((f + 1) % 8)

-- the phase of a word, from the phase of the word before it
abbrev pub phase_of : Option (List ℕ) → Option ℕ → Option ℕ
phase_of near before = cond (begins_group near) (Some 0) (next_phase before)

-- the phase of the word before word n; none if n is 0
unfoldable pub phase_before : (ℕ → Option (List ℕ)) → ℕ → Option ℕ
phase_before near zero = None
phase_before near (suc n) = phase_of (near n) (phase_before near n)

-- the packet of a word with a phase: from the nearest codeword or, without one, from the word itself with the error
-- indicator set
abbrev pub packet_of : ℕ → List ℕ → Option (List ℕ) → List ℕ
packet_of phase word (Some c) = undone phase (take 188 c)
packet_of phase word None = marked (undone phase (take 188 word))

-- the packet of a word, if the word has a phase
abbrev pub given_packet : Option ℕ → List ℕ → Option (List ℕ) → Option (List ℕ)
given_packet None word near = None
given_packet (Some phase) word near = Some (packet_of phase word near)

-- the bytes written for a word
abbrev pub written : Option ℕ → List ℕ → Option (List ℕ) → List ℕ
written None word near = []
written (Some phase) word near = packet_of phase word near

-- the bytes written for the first n words
unfoldable pub packets_to : (ℕ → Option (List ℕ)) → (ℕ → List ℕ) → ℕ → List ℕ
packets_to near word zero = []
packets_to near word (suc n) = packets_to near word n ++ written (phase_before near (suc n)) (word n) (near n)

-- the output is the packets of these interleaved bytes: one for each word with a phase
pub record Packets (bytes out : List ℕ) : Type 0 where
  pub near : ℕ → Option (List ℕ)
  pub is_near : (n : ℕ) → n < word_count bytes → IsNear (word_at bytes n) (near n)
  pub is : out ≡ packets_to near (word_at bytes) (word_count bytes)

-- the counts of words
pub record Tally : Type 0 where
  pub words : ℕ
  pub clean : ℕ
  pub corrected : ℕ
  pub bad : ℕ
  pub unphased : ℕ

-- how many numbers below n pass a test
unfoldable pub count : (ℕ → Bool) → ℕ → ℕ
count test zero = 0
count test (suc n) = cond (test n) 1 0 + count test n

-- whether a word has a phase
abbrev pub has : {A : Type 0} → Option A → Bool
has None = false
has (Some x) = true

-- a clean word equals its nearest codeword
abbrev pub is_clean : List ℕ → Option (List ℕ) → Bool
is_clean word None = false
is_clean word (Some c) = distance word c == 0

-- the counts of the first n words, from the nearest codeword of each
abbrev pub tally_to : (ℕ → Option (List ℕ)) → (ℕ → List ℕ) → ℕ → Tally
tally_to near word n = record {
  words = n;
  clean = count (λ k. is_clean (word k) (near k)) n;
  corrected = count (λ k. has (near k) && not (is_clean (word k) (near k))) n;
  bad = count (λ k. not (has (near k))) n;
  unphased = count (λ k. not (has (phase_before near (suc k)))) n;
}

-- the counts of the words in these interleaved bytes
pub record Tallies (bytes : List ℕ) (tally : Tally) : Type 0 where
  pub near : ℕ → Option (List ℕ)
  pub is_near : (n : ℕ) → n < word_count bytes → IsNear (word_at bytes n) (near n)
  pub is : tally ≡ tally_to near (word_at bytes) (word_count bytes)
