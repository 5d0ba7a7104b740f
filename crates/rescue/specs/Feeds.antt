-- The output of a rescuing receiver when it is fed.
use Rattle.std.specs.Prelude.{◌≡◌, ℕ, List, [], ◌++◌, take}
use Rattle.mode_set.specs.declared.modes.Stream.{Stream}
use Rattle.mode_set.specs.declared.settings.Settings.{Settings}
use Rattle.reception.specs.Cells.{symbols}
use Rattle.reception.specs.Feeds.{Output, packets_of, taken}
use Rattle.reception.specs.Lines.{events}
use Rattle.rescue.specs.Streams.{Rescue, RescuesSoFar, RescuesAtEnd}

-- `out` is the part of the output for `new` that follows the output for `old`
pub record Follows (s : Settings) (old new : List ℕ) (before after : Rescue) (out : Output) : Type 0 where
  pub packets : (σ : Stream) → after.packets σ ≡ before.packets σ ++ packets_of out σ
  pub events_are : events s (symbols s new) after.reports ≡ events s (symbols s old) before.reports ++ out.events

-- The effect of `feed` on a receiver that has had these bytes and given this output.
pub record Feeds (Stands : List ℕ → Rescue → Type 0) (s : Settings) (bytes piece : List ℕ) (before : Rescue) (n : ℕ)
    (out : Output) : Type 0 where
  pub after : Rescue
  pub count : n ≡ taken s bytes piece
  pub stands : Stands (bytes ++ take n piece) after
  pub live : RescuesSoFar s (bytes ++ take n piece) after
  pub follows : Follows s bytes (bytes ++ take n piece) before after out

-- The effect of `finish`.
pub record Finishes (Ends : List ℕ → Rescue → Type 0) (s : Settings) (bytes : List ℕ) (before : Rescue) (out : Output) :
    Type 0 where
  pub after : Rescue
  pub ends : Ends bytes after
  pub final : RescuesAtEnd s bytes after
  pub packets : (σ : Stream) → after.packets σ ≡ before.packets σ ++ packets_of out σ
  pub no_event : out.events ≡ []
