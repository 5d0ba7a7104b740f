-- A stream between its packets and the symbols.
use Rattle.std.specs.Prelude.{◌≡◌, ℕ, ◌+◌, ◌-◌, ◌*◌, ◌≤◌, Bool, List, map}
use Rattle.spec_words.specs.Words.{numbers}
use Rattle.puncture.specs.SentBits.{path_of, bits_from}
use Rattle.outer_chain.specs.Sent.{packet_at, outer_byte}
use Rattle.outer_chain.specs.Sending.{Sender, Sends}

-- the first n packets of a stream, with null packets past its end
abbrev pub first_of : List (List ℕ) → ℕ → List (List ℕ)
first_of packets n = map (packet_at packets) (numbers n)

-- The first n packets of a stream were put, and symbols used `taken` bits of their outer words, of 1632 bits each. The
-- outer-code sender has had the packets, and the other bits are pending.
pub record HoldsBits (sender : Sender) (waiting : List Bool) (packets : List (List ℕ)) (n taken : ℕ) : Type 0 where
  pub sends : Sends sender (first_of packets n)
  pub within : taken ≤ 1632 * n
  pub bits : waiting ≡ bits_from (path_of (outer_byte packets)) (taken + 6) (1632 * n - taken)
