-- Bytes have a rescue output at every moment.
use Rattle.std.proofs.Common.{ℕ, Bool, List}
use Rattle.std.specs.Prelude.{Option}
use Rattle.code_paths.specs.declared.costs.CostPair.{CostPair}
use Rattle.rs204.specs.Laws.{MessageHasCodeword, CodewordIsOne}
use Rattle.outer_chain.specs.Bits.{bytes_of}
use Rattle.mode_set.specs.declared.modes.Stream.{Stream}
use Rattle.mode_set.specs.declared.settings.Settings.{Settings}
use Rattle.bit_margin.specs.Laws.{SomeAreLeast}
use Rattle.code_paths.specs.Uniqueness.{IsStart, SomeAreGiven, SomeAreEnded, SomeAreReported}
use Rattle.rescue_words.specs.ByteMargins.{byte_margins}
use Rattle.reception.specs.Costs.{costs}
use Rattle.reception.specs.Streams.{memory, start_of, Moment, so_far, at_end, IsDecoded}
use Rattle.rescue.specs.Streams.{Rescue, RescuesAt}
use Rattle.rescue.specs.Laws.{SomeSoFar, SomeAtEnd}
use Rattle.rescue.proofs.SomeMargins.{some_known}
use Rattle.rescue.proofs.SomeWords.{some_rescue}
use Rattle.rescue.proofs.Received.{is_start}

module _ (given : SomeAreGiven) (ended : SomeAreEnded) (reported : SomeAreReported) (has : MessageHasCodeword) (one : CodewordIsOne) (places : SomeAreLeast) where
  some_decoded : (moment : Moment) (a : Option (List Bool)) (c : List CostPair) → IsStart a → (g : List Bool) × IsDecoded moment a c g
  some_decoded so_far a c s = given memory a c s
  some_decoded at_end a c s = ended memory a c s

  some_output : (moment : Moment) (s : Settings) (bytes : List ℕ) → (r : Rescue) × RescuesAt moment s bytes r
  some_output moment s bytes =
      let start = is_start s.start in
      let g = λ (σ : Stream). some_decoded moment (start_of s.start) (costs s bytes σ) start in
      let k = λ (σ : Stream). some_known moment (start_of s.start) (costs s bytes σ) start in
      let w = λ (σ : Stream). some_rescue has one places (bytes_of (g σ).0) (byte_margins (k σ).0) in
      let t = λ (σ : Stream). reported memory (start_of s.start) (costs s bytes σ) start in (
        record { packets = λ σ. (w σ).0; reports = λ σ. (t σ).0; tally = λ σ. (w σ).1 },
        record { bits = λ σ. (g σ).0; decoded = λ σ. (g σ).1; margins = λ σ. (k σ).0; known = λ σ. (k σ).1; rescues = λ σ. (w σ).2; reports = λ σ. (t σ).1 },
      )

  pub some_so_far : SomeSoFar
  some_so_far s bytes = some_output so_far s bytes

  pub some_at_end : SomeAtEnd
  some_at_end s bytes = some_output at_end s bytes
