-- The meaning of the state of a stream's meter.
use Rattle.std.specs.Prelude.{◌≡◌, ℕ, ◌+◌, ◌-◌, ◌<◌, Bool, false, List, [], ◌++◌, length, Option}
use Rattle.code_paths.specs.declared.costs.CostPair.{CostPair}
use Rattle.mode_set.specs.declared.modes.Stream.{Stream}
use Rattle.mode_set.specs.declared.settings.Settings.{Settings}
use Rattle.symbol_parameters.specs.Spans.{words_before}
use Rattle.inner_decoder.specs.Seen.{DecoderState}
use Rattle.outer_chain.specs.Bits.{bytes_of}
use Rattle.outer_chain.specs.Words.{Packets, Tally, Tallies}
use Rattle.reception.specs.Streams.{Moment, so_far, start_of}
use Rattle.reception.specs.Lines.{stream_counts}
use Rattle.rx_report.specs.declared.counts.StreamCounts.{StreamCounts}
use Rattle.inner_receiver.specs.Branches.{HasGiven}
use Rattle.measure_stream.specs.declared.stream.StreamMeter.{StreamMeter}
use Rattle.measure_stream.specs.Passing.{HasBits}
use Rattle.measure_stream.specs.Reports.{AreCounted}

-- In super-frame j the meter of a stream matches the costs received by its decoder, the bits given and the reports. No
-- bit and no word is pending. The words from number `from` on are those of the super-frame, up to its limit.
pub record Stands (moment : Moment) (x : StreamMeter) (s : Settings) (σ : Stream) (j from : ℕ) (c : List CostPair)
    (bits : List Bool) (reports : List ℕ) : Type 0 where
  pub has_given : HasGiven moment x.branch.decoder (start_of s.start) c bits reports
  pub loaded : x.branch.loaded ≡ []
  pub none : x.branch.wait ≡ []
  pub few : length x.part < 8
  pub done : ℕ
  pub has_bits : HasBits x.part x.words bits done from (words_before s σ (j + 1) - 11)
  pub all_done : x.words.slots ≡ []
  pub before : x.words_before ≡ words_before s σ (j + 1)
  pub counted : AreCounted x.reports s σ j reports

-- whole bytes of some bits went to the words, which are counted up to the super-frame's limit
pub record HasStarted (x : StreamMeter) : Type 0 where
  pub bits : List Bool
  pub done : ℕ
  pub from : ℕ
  pub has : HasBits x.part x.words bits done from (x.words_before - 11)

-- a meter whose decoder has run a symbol or has ended; no word is pending
pub record MayGive (x : StreamMeter) : Type 0 where
  pub few : length x.part < 8
  pub none : x.words.slots ≡ []
  pub started : HasStarted x

-- a running decoder that gave the bits of some costs
pub record IsGiving (d : DecoderState) : Type 0 where
  pub start : Option (List Bool)
  pub costs : List CostPair
  pub bits : List Bool
  pub reports : List ℕ
  pub given : HasGiven so_far d start costs bits reports

-- a running meter whose decoder has run a symbol
pub record HasRun (x : StreamMeter) : Type 0 where
  pub giving : IsGiving x.branch.decoder
  pub loaded : x.branch.loaded ≡ []
  pub may : MayGive x

-- a meter between two symbols
pub record IsReady (x : StreamMeter) : Type 0 where
  pub giving : IsGiving x.branch.decoder
  pub going : x.branch.decoder.ended ≡ false
  pub loaded : x.branch.loaded ≡ []
  pub wait : x.branch.wait ≡ []
  pub may : MayGive x

-- the pending bits went to the words, and all words are counted
pub record Gave (old new : StreamMeter) : Type 0 where
  pub few : length new.part < 8
  pub none : new.words.slots ≡ []
  pub bits : (bits : List Bool) (done from : ℕ) → HasBits old.part old.words bits done from (old.words_before - 11)
      → (n : ℕ) × HasBits new.part new.words (bits ++ old.branch.wait) n from (old.words_before - 11)

-- a meter after more costs and reports: its decoder gave more bits, which are known, and the words that they complete
-- are counted
pub record WentOn (moment : Moment) (old new : StreamMeter) (s : Settings) (σ : Stream) (j from : ℕ) (c : List CostPair)
    (bits : List Bool) (reports : List ℕ) : Type 0 where
  pub more : List Bool
  pub known : new.known ≡ record old.known { waiting = old.known.waiting ++ more }
  pub stands : Stands moment new s σ j from c (bits ++ more) reports

-- the counts of all words of these bits and of the reports, and the packets of the words
pub record AreTotals (bits : List Bool) (reports : List ℕ) (counts : StreamCounts) : Type 0 where
  pub packets : List ℕ
  pub are_packets : Packets (bytes_of bits) packets
  pub tally : Tally
  pub are_tallied : Tallies (bytes_of bits) tally
  pub is : counts ≡ stream_counts tally (length reports)
