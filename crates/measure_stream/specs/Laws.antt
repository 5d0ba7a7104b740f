-- The laws of the meter of a stream. Each is the clause of a public function of module laws.
use Rattle.std.specs.Prelude.{◌≡◌, ℕ, ◌+◌, ◌*◌, ◌≤◌, Bool, List, length}
use Rattle.code_paths.specs.declared.costs.CostPair.{CostPair}
use Rattle.inner_decoder.specs.Running.{BranchState}
use Rattle.mode_set.specs.declared.modes.Stream.{Stream}
use Rattle.mode_set.specs.declared.settings.Settings.{Settings}
use Rattle.symbol_parameters.specs.Spans.{steps_before}
use Rattle.reception.specs.Streams.{so_far}
use Rattle.inner_receiver.specs.Branches.{HasTaken}
use Rattle.measure_known_bits.specs.Passing.{HasPassed, IsSettled}
use Rattle.measure_stream.specs.declared.stream.StreamMeter.{StreamMeter}
use Rattle.measure_stream.specs.Standing.{Stands, IsReady, HasRun}

-- a running meter is ready for a symbol
abbrev pub StandsReady : Type 0
StandsReady = (x : StreamMeter) (s : Settings) (σ : Stream) (j from : ℕ) (c : List CostPair) (bits : List Bool)
    (reports : List ℕ) → Stands so_far x s σ j from c bits reports → IsReady x

-- its decoder may run a symbol
abbrev pub RunsOn : Type 0
RunsOn = (x : StreamMeter) (ran : BranchState) (pairs : List CostPair) → IsReady x → HasTaken pairs x.branch ran
    → HasRun (record x { branch = ran })

-- Bounds of counts by steps: a word has 1632 bits, and no super-frame has more than 5292 words of a stream.
pub record AreFewOfSteps (x : StreamMeter) (j steps : ℕ) : Type 0 where
  pub decoder : x.branch.decoder.steps ≡ steps
  pub words : 1632 * x.words.all.words ≤ steps
  pub before : x.words_before ≤ 5292 * (j + 1)

-- the counts of a meter are within these bounds
abbrev pub CountsAreFew : Type 0
CountsAreFew = (x : StreamMeter) (s : Settings) (σ : Stream) (j from : ℕ) (c : List CostPair) (bits : List Bool)
    (reports : List ℕ) → Stands so_far x s σ j from c bits reports → AreFewOfSteps x j (length c)

-- Before symbol m the encoder has passed all it could. The decoder has had the first n symbols, at most three more.
-- There is space for the known bits, including those that one more symbol gives, and those at the end.
abbrev pub RoomForSymbol : Type 0
RoomForSymbol = (x : StreamMeter) (ran : BranchState) (pairs : List CostPair) (s : Settings) (σ : Stream)
    (j from m n : ℕ) (register : List Bool) (c : List CostPair) (bits : List Bool) (reports : List ℕ)
    → Stands so_far x s σ j from c bits reports → HasPassed s σ m x.known register bits → IsSettled x.known → length c
    ≡ steps_before s σ n → n ≤ m + 3 → length pairs ≤ 31752
    → HasTaken pairs x.branch ran → length x.known.waiting + length ran.wait ≤ 127008

-- there is space for the known bits that the decoder gives at the end
abbrev pub RoomAtEnd : Type 0
RoomAtEnd = (x : StreamMeter) (s : Settings) (σ : Stream) (j from m n : ℕ) (register : List Bool) (c : List CostPair)
    (bits : List Bool) (reports : List ℕ)
    → Stands so_far x s σ j from c bits reports → HasPassed s σ m x.known register bits → IsSettled x.known → length c
    ≡ steps_before s σ n → n ≤ m + 3
    → length x.known.waiting + x.branch.decoder.waiting ≤ 127008
