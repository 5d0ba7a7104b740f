-- The bits and pairs of a symbol in a rescuing receiver.
use Rattle.std.specs.Prelude.{◌≡◌, ℕ, ◌<◌, ◌≤◌, ◌⊎◌, Bool, List, [], ◌++◌, All, Option, length, min, take, drop}
use Rattle.bit_pack.specs.Queue.{bits_of_bytes}
use Rattle.code_paths.specs.declared.costs.CostPair.{CostPair}
use Rattle.inner_decoder.specs.Running.{BranchState}
use Rattle.bit_margin.specs.Margin.{AreMargins}
use Rattle.bit_margin.specs.Stream.{MarginState}
use Rattle.bit_margin.specs.Stream as margins
use Rattle.rescue_words.specs.ByteMargins.{byte_margins}
use Rattle.rescue_words.specs.Rescued.{RescueTally}
use Rattle.rescue_words.specs.Running.{WordsState}
use Rattle.rescue_words.specs.Running as words

-- the first k bytes of the pending bits were taken
pub record Passes (k : ℕ) (old new : BranchState) (queue longer : List ℕ) : Type 0 where
  pub more : List ℕ
  pub long : length more ≡ k
  pub bits : old.wait ≡ bits_of_bytes more ++ new.wait
  pub small : All (λ b. b < 256) more
  pub appended : longer ≡ queue ++ more
  pub rest : new ≡ record old { wait = new.wait }

-- the margins of more bytes, from bit margins `more` after bit margins ms
pub record Appends (ms more queue longer : List ℕ) : Type 0 where
  pub bytes : List ℕ
  pub appended : longer ≡ queue ++ bytes
  pub are : byte_margins (ms ++ more) ≡ byte_margins ms ++ bytes

-- more pairs were pushed, and the margins of the bytes of whole blocks appended; at least 256 pairs are pending after
-- them
pub record HasPushed (xs : List CostPair) (new : MarginState) (a : Option (List Bool)) (c : List CostPair)
    (ms queue longer : List ℕ) : Type 0 where
  pub more : List ℕ
  pub stands : margins.Stands new a (c ++ xs) (ms ++ more)
  pub step : (more ≡ []) ⊎ (256 ≤ length new.waiting)
  pub appends : Appends ms more queue longer

-- the push of these pairs appends to the queue the byte margins that become known
abbrev pub Pushes : List CostPair → MarginState → MarginState → List ℕ → List ℕ → Type 0
Pushes xs old new queue longer = (a : Option (List Bool)) (c : List CostPair) (ms : List ℕ) → margins.Stands old a c ms
    → HasPushed xs new a c ms queue longer

-- the margins of the bytes of all pending steps were appended
pub record HasEndedMargins (a : Option (List Bool)) (c : List CostPair) (ms queue longer : List ℕ) : Type 0 where
  pub more : List ℕ
  pub whole : AreMargins a c (ms ++ more)
  pub appends : Appends ms more queue longer

-- at the end the margins of all pending steps are appended to the queue
abbrev pub EndsMargins : MarginState → List ℕ → List ℕ → Type 0
EndsMargins old queue longer = (a : Option (List Bool)) (c : List CostPair) (ms : List ℕ) → margins.Stands old a c ms
    → HasEndedMargins a c ms queue longer

-- bytes with their margins were taken, and the packets of their words written after `old`
abbrev pub FinishesWords : List ℕ → List ℕ → WordsState → WordsState → List ℕ → List ℕ → Type 0
FinishesWords bytes taken before after old new =
    (b m given : List ℕ) (tally : RescueTally) → words.Stands before b m given tally
    → words.Took after (b ++ bytes) (m ++ taken) given old new

-- bytes and margins went to the words, as many as both had; the rest of one of them is pending
pub record GivesWords (bytes sure : List ℕ) (before : WordsState) (bytes_left sure_left : List ℕ) (after : WordsState)
    (to more : List ℕ) : Type 0 where
  pub count : ℕ
  pub is : count ≡ min (length bytes) (length sure)
  pub bytes_are : bytes_left ≡ drop count bytes
  pub sure_are : sure_left ≡ drop count sure
  pub took : FinishesWords (take count bytes) (take count sure) before after to more
