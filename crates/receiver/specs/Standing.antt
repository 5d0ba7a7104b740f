-- The meaning of a receiver's state.
use Rattle.std.specs.Prelude.{◌≡◌, ℕ, ◌<◌, Bool, true, false, List, [], ◌++◌, All, Option, length}
use Rattle.code_paths.specs.declared.costs.CostPair.{CostPair}
use Rattle.bit_pack.specs.Queue.{bits_of_bytes}
use Rattle.mode_set.specs.declared.modes.Stream.{Stream}
use Rattle.inner_decoder.specs.Running.{BranchState}
use Rattle.inner_receiver.specs.Branches.{DecoderStands, HasGiven}
use Rattle.outer_chain.specs.Running.{Finished}
use Rattle.outer_chain.specs.Words.{Tally, word_count}
use Rattle.reception.specs.Cells.{symbols}
use Rattle.reception.specs.Costs.{costs}
use Rattle.reception.specs.Frames.{tps_cells}
use Rattle.reception.specs.Streams.{start_of, Moment, so_far, at_end, IsDecoded, Reception, Receives}
use Rattle.reception.specs.Lines.{stream_counts}
use Rattle.reception.specs.Laws.{unfinished}
use Rattle.inner_receiver.specs.Framing.{FrameStands}
use Rattle.receiver.specs.Seen.{StreamState, ReceiverState, stream_of}

-- whether the cells have ended
abbrev pub is_end : Moment → Bool
is_end so_far = false
is_end at_end = true

-- The state of a stream matches a start, the costs received, and its output: the bytes of packets, the counts of words
-- and the reports. Whole bytes of the decoder's bits were taken; fewer than eight bits are pending.
pub record StreamStands (moment : Moment) (x : StreamState) (a : Option (List Bool)) (c : List CostPair)
    (given : List ℕ) (tally : Tally) (steps : List ℕ) : Type 0 where
  pub bits : List Bool
  pub has_given : HasGiven moment x.branch.decoder a c bits steps
  pub loaded : x.branch.loaded ≡ []
  pub bytes : List ℕ
  pub taken : bits ≡ bits_of_bytes bytes ++ x.branch.wait
  pub few : length x.branch.wait < 8
  pub small : All (λ b. b < 256) bytes
  pub finished : Finished x.outer bytes given tally (word_count bytes)
  pub counts : x.counts ≡ stream_counts tally (length steps)

-- a stream gave more output, after `old`
pub record StreamGave (moment : Moment) (x : StreamState) (a : Option (List Bool)) (c : List CostPair)
    (given steps : List ℕ) (old new : List ℕ) : Type 0 where
  pub written : List ℕ
  pub is : new ≡ old ++ written
  pub tally : Tally
  pub stands : StreamStands moment x a c (given ++ written) tally steps

-- The state of a receiver matches the bytes received and the output given, each stream with the costs of their whole
-- symbols.
pub record StandsFor (moment : Moment) (x : ReceiverState) (bytes : List ℕ) (r : Reception) : Type 0 where
  pub ended : x.ended ≡ is_end moment
  pub taken : x.taken ≡ symbols x.settings bytes
  pub rest : x.rest ≡ unfinished x.settings bytes
  pub streams : (σ : Stream) → StreamStands moment (stream_of x σ) (start_of x.settings.start)
      (costs x.settings bytes σ) (r.packets σ) (r.tally σ) (r.reports σ)
  pub frames : FrameStands x.settings.mode x.frames (tps_cells x.settings bytes) (symbols x.settings bytes)
  pub read : x.frames.read ≡ r.read
  pub bad : x.frames.bad ≡ r.bad
  pub receives : Receives moment x.settings bytes r

-- the branch of a decoder matches a start, costs, and the bits that the definitions give for them at a moment
pub record HasBits (moment : Moment) (branch : BranchState) (a : Option (List Bool)) (c : List CostPair) : Type 0 where
  pub bits : List Bool
  pub decoder : DecoderStands moment branch.decoder a c bits
  pub decoded : IsDecoded moment a c bits
