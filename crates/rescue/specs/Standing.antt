-- The meaning of a rescuing receiver's state.
use Rattle.std.specs.Prelude.{◌≡◌, ℕ, ◌<◌, ◌≤◌, ◌⊎◌, Bool, true, false, List, [], ◌++◌, All, Option, length}
use Rattle.bit_pack.specs.Queue.{bits_of_bytes}
use Rattle.code_paths.specs.declared.costs.CostPair.{CostPair}
use Rattle.mode_set.specs.declared.modes.Stream.{Stream}
use Rattle.bit_margin.specs.Margin.{AreMargins}
use Rattle.bit_margin.specs.Stream.{MarginState}
use Rattle.bit_margin.specs.Stream as margins
use Rattle.rescue_words.specs.ByteMargins.{byte_margins}
use Rattle.rescue_words.specs.Rescued.{RescueTally}
use Rattle.rescue_words.specs.Running as words
use Rattle.reception.specs.Cells.{symbols}
use Rattle.reception.specs.Costs.{costs}
use Rattle.reception.specs.Streams.{start_of, Moment, so_far, at_end}
use Rattle.reception.specs.Laws.{unfinished}
use Rattle.inner_receiver.specs.Branches.{HasGiven}
use Rattle.rescue.specs.Streams.{Rescue, RescuesAt}
use Rattle.rescue.specs.Seen.{StreamState, RescueState, stream_of}

-- whether the cells have ended
abbrev pub is_end : Moment → Bool
is_end so_far = false
is_end at_end = true

-- no block is settled, or at least 256 steps after the settled ones are pending
abbrev pub IsInStep : List ℕ → MarginState → Type 0
IsInStep ms s = (ms ≡ []) ⊎ (256 ≤ length s.waiting)

-- running margins are those of settled blocks, and no window is full; ended ones are those of all steps
abbrev pub MarginsStand : Moment → MarginState → Option (List Bool) → List CostPair → List ℕ → Type 0
MarginsStand so_far s a c ms = margins.Stands s a c ms × (length s.waiting < 1280) × IsInStep ms s
MarginsStand at_end s a c ms = AreMargins a c ms

-- The state of a stream matches a start, the costs received, and its output. Whole bytes of the decoder's bits were
-- taken, and the known margins of bytes. As many of both went to the words, so that nothing of one of them remains.
pub record StreamStands (moment : Moment) (x : StreamState) (a : Option (List Bool)) (c : List CostPair)
    (given : List ℕ) (tally : RescueTally) (steps : List ℕ) : Type 0 where
  pub bits : List Bool
  pub has_given : HasGiven moment x.branch.decoder a c bits steps
  pub loaded : x.branch.loaded ≡ []
  pub whole : List ℕ
  pub passed : bits ≡ bits_of_bytes whole ++ x.branch.wait
  pub few : length x.branch.wait < 8
  pub small : All (λ b. b < 256) whole
  pub ms : List ℕ
  pub known : MarginsStand moment x.margins a c ms
  pub done : List ℕ
  pub sure : List ℕ
  pub bytes_are : whole ≡ done ++ x.bytes
  pub margins_are : byte_margins ms ≡ sure ++ x.byte_margins
  pub one : (x.bytes ≡ []) ⊎ (x.byte_margins ≡ [])
  pub words_are : words.Stands x.words done sure given tally
  pub unmerged : x.unmerged ≡ length steps

-- a stream gave more output, after `old`
pub record StreamGave (moment : Moment) (x : StreamState) (a : Option (List Bool)) (c : List CostPair)
    (given steps : List ℕ) (old new : List ℕ) : Type 0 where
  pub written : List ℕ
  pub is : new ≡ old ++ written
  pub tally : RescueTally
  pub stands : StreamStands moment x a c (given ++ written) tally steps

-- The state of the receiver matches the bytes received and the output given, each stream with the costs of their whole
-- symbols.
pub record StandsFor (moment : Moment) (x : RescueState) (bytes : List ℕ) (r : Rescue) : Type 0 where
  pub ended : x.ended ≡ is_end moment
  pub taken : x.taken ≡ symbols x.settings bytes
  pub rest : x.rest ≡ unfinished x.settings bytes
  pub streams : (σ : Stream) → StreamStands moment (stream_of x σ) (start_of x.settings.start)
      (costs x.settings bytes σ) (r.packets σ) (r.tally σ) (r.reports σ)
  pub rescues : RescuesAt moment x.settings bytes r
