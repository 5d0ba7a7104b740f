-- Bursts of errors in the bytes sent.
use Rattle.std.specs.Prelude.{◌≡◌, ◌≢◌, ℕ, ◌+◌, ◌<◌, ◌≤◌, ◌⊎◌, List, [], ◌∷◌, length, slice_index}
use Rattle.rs204.specs.Decoded.{Decoded}
use Rattle.rs204.specs.declared.outcome.Outcome.{Outcome}
use Rattle.outer_chain.specs.Words.{word_at, word_count, Tally}
use Rattle.outer_chain.specs.Sent.{ArePackets, outer_bytes}
use Rattle.outer_chain.specs.Receiving.{Receiver}
use Rattle.outer_chain.specs.Running.{Finished}

-- a run of consecutive bytes
pub record Run : Type 0 where
  pub first : ℕ
  pub long : ℕ

-- runs of at most 96 bytes, the first at `place` or later, at least 2448 bytes apart
abbrev pub AreRuns : ℕ → List Run → Type 0
AreRuns place [] = Unit {0}
AreRuns place (r ∷ rs) = (place ≤ r.first) × (r.long ≤ 96) × AreRuns (r.first + r.long + 2448) rs

-- whether a position is in one of the runs
abbrev pub InRuns : ℕ → List Run → Type 0
InRuns p [] = ⊥
InRuns p (r ∷ rs) = ((r.first ≤ p) × (p < r.first + r.long)) ⊎ InRuns p rs

-- received bytes, as many as were sent, that differ from them only in such runs
pub record Bursts (sent received : List ℕ) : Type 0 where
  pub same_length : length received ≡ length sent
  pub runs : List Run
  pub apart : AreRuns 0 runs
  pub only : (p : ℕ) → p < length sent → slice_index received p ≢ slice_index sent p → InRuns p runs

-- bytes of these packets with bursts
pub record BurstsOf (packets : List (List ℕ)) (received : List ℕ) : Type 0 where
  pub are_packets : ArePackets packets
  pub bursts : Bursts (outer_bytes packets (length received)) received

-- a receiver of such bytes that has finished `done` words, and the next word decoded
pub record NextOfBursts (receiver : Receiver) (packets : List (List ℕ)) (done : ℕ) (word : List ℕ) (outcome : Outcome) :
    Type 0 where
  pub bytes : List ℕ
  pub bursts : BurstsOf packets bytes
  pub out : List ℕ
  pub tally : Tally
  pub finished : Finished receiver bytes out tally done
  pub waits : done < word_count bytes
  pub decoded : Decoded (word_at bytes done) word outcome
