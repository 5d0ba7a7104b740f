-- The output of a rescuing receiver for a cell file: what is decided so far, and at the end (this project's profile).
use Rattle.std.specs.Prelude.{ℕ, Bool, List, []}
use Rattle.code_paths.specs.Streams.{Reports}
use Rattle.outer_chain.specs.Bits.{bytes_of}
use Rattle.mode_set.specs.declared.modes.Stream.{Stream}
use Rattle.mode_set.specs.declared.settings.Settings.{Settings}
use Rattle.rescue_words.specs.ByteMargins.{byte_margins}
use Rattle.rescue_words.specs.Rescued.{RescueTally, Rescues}
use Rattle.reception.specs.Costs.{costs}
use Rattle.reception.specs.Streams.{memory, start_of, Moment, so_far, at_end, IsDecoded}
use Rattle.rescue.specs.Known.{AreKnown}

-- everything rescued: for each stream the bytes of its packets, the steps of its unmerged reports and the counts of its
-- words
pub record Rescue : Type 0 where
  pub packets : Stream → List ℕ
  pub reports : Stream → List ℕ
  pub tally : Stream → RescueTally

-- The output for the bytes at a moment. The words are those with all bits given and all margins known. Each is its
-- nearest codeword or, if it has none, the codeword close to it outside its eight bytes of least margin.
pub record RescuesAt (moment : Moment) (s : Settings) (bytes : List ℕ) (r : Rescue) : Type 0 where
  pub bits : Stream → List Bool
  pub decoded : (σ : Stream) → IsDecoded moment (start_of s.start) (costs s bytes σ) (bits σ)
  pub margins : Stream → List ℕ
  pub known : (σ : Stream) → AreKnown moment (start_of s.start) (costs s bytes σ) (margins σ)
  pub rescues : (σ : Stream) → Rescues (bytes_of (bits σ)) (byte_margins (margins σ)) (r.packets σ) (r.tally σ)
  pub reports : (σ : Stream) → Reports memory (start_of s.start) (costs s bytes σ) (r.reports σ)

-- the rescue output so far: more symbols may follow
abbrev pub RescuesSoFar : Settings → List ℕ → Rescue → Type 0
RescuesSoFar = RescuesAt so_far

-- the rescue output at the end
abbrev pub RescuesAtEnd : Settings → List ℕ → Rescue → Type 0
RescuesAtEnd = RescuesAt at_end

-- the counts of no words
abbrev pub no_words : RescueTally
no_words = record { words = 0; clean = 0; corrected = 0; rescued = 0; bad = 0; unphased = 0 }

-- nothing rescued
abbrev pub nothing : Rescue
nothing = record { packets = λ σ. []; reports = λ σ. []; tally = λ σ. no_words }
