-- Bytes have a reception at every moment.
use Rattle.std.proofs.Common.{refl}
use Rattle.rs204.specs.Laws.{MessageHasCodeword, CodewordIsOne}
use Rattle.outer_chain.specs.Bits.{bytes_of}
use Rattle.mode_set.specs.declared.modes.Start.{Start}
use Rattle.mode_set.specs.declared.modes.Start.TheVariants.{Zero, Any}
use Rattle.mode_set.specs.declared.modes.Stream.{Stream}
use Rattle.code_paths.specs.Uniqueness.{IsStart, SomeAreGiven, SomeAreEnded, SomeAreReported}
use Rattle.reception.specs.Costs.{costs}
use Rattle.reception.specs.Streams.{memory, start_of}
use Rattle.reception.specs.Moments.{SomeLive, SomeFinal}
use Rattle.reception.proofs.NearWords.{some_packets, some_tally}
use Rattle.reception.proofs.TpsFrames.{some_frames}

is_start : (start : Start) → IsStart (start_of start)
is_start Zero = refl
is_start Any = tt

module _ (has : MessageHasCodeword) (one : CodewordIsOne) (reported : SomeAreReported) where
  pub some_live : SomeAreGiven → SomeLive
  some_live given s bytes =
      let start = is_start s.start in
      let g = λ (σ : Stream). given memory (start_of s.start) (costs s bytes σ) start in
      let t = λ (σ : Stream). reported memory (start_of s.start) (costs s bytes σ) start in
      let f = some_frames s bytes in (
        record { packets = λ σ. (some_packets has one (bytes_of (g σ).0)).0; reports = λ σ. (t σ).0; tally = λ σ. (some_tally has one (bytes_of (g σ).0)).0; read = f.0; bad = f.1 },
        record {
          bits = λ σ. (g σ).0;
          decoded = λ σ. (g σ).1;
          packets = λ σ. (some_packets has one (bytes_of (g σ).0)).1;
          tally = λ σ. (some_tally has one (bytes_of (g σ).0)).1;
          reports = λ σ. (t σ).1;
          frames = f.2;
        },
      )

  pub some_final : SomeAreEnded → SomeFinal
  some_final ended s bytes =
      let start = is_start s.start in
      let g = λ (σ : Stream). ended memory (start_of s.start) (costs s bytes σ) start in
      let t = λ (σ : Stream). reported memory (start_of s.start) (costs s bytes σ) start in
      let f = some_frames s bytes in (
        record { packets = λ σ. (some_packets has one (bytes_of (g σ).0)).0; reports = λ σ. (t σ).0; tally = λ σ. (some_tally has one (bytes_of (g σ).0)).0; read = f.0; bad = f.1 },
        record {
          bits = λ σ. (g σ).0;
          decoded = λ σ. (g σ).1;
          packets = λ σ. (some_packets has one (bytes_of (g σ).0)).1;
          tally = λ σ. (some_tally has one (bytes_of (g σ).0)).1;
          reports = λ σ. (t σ).1;
          frames = f.2;
        },
      )
