-- The output of a receiver when it is fed.
use Rattle.std.specs.Prelude.{◌≡◌, ℕ, ◌-◌, min, List, [], ◌++◌, length, take}
use Rattle.mode_set.specs.declared.modes.Stream.{Stream}
use Rattle.mode_set.specs.declared.modes.Stream.TheVariants.{Hp, Lp}
use Rattle.mode_set.specs.declared.settings.Settings.{Settings}
use Rattle.rx_report.specs.declared.counts.Event.{Event}
use Rattle.reception.specs.Cells.{symbol_length, symbols, tail}
use Rattle.reception.specs.Streams.{Reception, Live, Final}
use Rattle.reception.specs.Lines.{events}

-- the output of a call: the bytes of the packets of each stream, and reports
pub record Output : Type 0 where
  pub hp : List ℕ
  pub lp : List ℕ
  pub events : List Event

-- the packet bytes of a stream
abbrev pub packets_of : Output → Stream → List ℕ
packets_of out Hp = out.hp
packets_of out Lp = out.lp

-- `out` is the part of `after`, the reception of the bytes `new`, that follows `before`, the reception of the bytes
-- `old`
pub record Follows (s : Settings) (old new : List ℕ) (before after : Reception) (out : Output) : Type 0 where
  pub packets : (σ : Stream) → after.packets σ ≡ before.packets σ ++ packets_of out σ
  pub events_are : events s (symbols s new) after.reports ≡ events s (symbols s old) before.reports ++ out.events

-- the number of bytes taken from a piece: all of it, or what the symbol still lacks
abbrev pub taken : Settings → List ℕ → List ℕ → ℕ
taken s bytes piece = min (length piece) (symbol_length s - tail s bytes)

-- The effect of `feed` on a receiver that has had these bytes and given this reception.
pub record Feeds (Stands : List ℕ → Reception → Type 0) (s : Settings) (bytes piece : List ℕ) (before : Reception)
    (n : ℕ) (out : Output) : Type 0 where
  pub after : Reception
  pub count : n ≡ taken s bytes piece
  pub stands : Stands (bytes ++ take n piece) after
  pub live : Live s (bytes ++ take n piece) after
  pub follows : Follows s bytes (bytes ++ take n piece) before after out

-- The effect of `finish`.
pub record Finishes (Ends : List ℕ → Reception → Type 0) (s : Settings) (bytes : List ℕ) (before : Reception)
    (out : Output) : Type 0 where
  pub after : Reception
  pub ends : Ends bytes after
  pub final : Final s bytes after
  pub packets : (σ : Stream) → after.packets σ ≡ before.packets σ ++ packets_of out σ
  pub no_event : out.events ≡ []
