-- The margins of bits known at a moment (this project's profile).
use Rattle.std.specs.Prelude.{◌≡◌, ℕ, ◌-◌, ◌*◌, ◌/◌, ◌<◌, Bool, List, Option, length, slice_index}
use Rattle.code_paths.specs.declared.costs.CostPair.{CostPair}
use Rattle.bit_margin.specs.Margin.{IsMarginAt, AreMargins}
use Rattle.reception.specs.Streams.{Moment, so_far, at_end}

-- A block of 1024 steps is settled once its whole window of 1280 steps was received, as no later pair changes its
-- margins. This is the number of settled blocks in n steps.
abbrev pub settled_blocks : ℕ → ℕ
settled_blocks n = (n - 256) / 1024

-- ms are the margins of the steps of the settled blocks of the stream c
pub record AreSettled (a : Option (List Bool)) (c : List CostPair) (ms : List ℕ) : Type 0 where
  pub long : length ms ≡ 1024 * settled_blocks (length c)
  pub each : (t : ℕ) → t < length ms → IsMarginAt a c t (slice_index ms t)

-- the margins of settled blocks if more symbols may follow, those of all steps at the end
abbrev pub AreKnown : Moment → Option (List Bool) → List CostPair → List ℕ → Type 0
AreKnown so_far = AreSettled
AreKnown at_end = AreMargins
