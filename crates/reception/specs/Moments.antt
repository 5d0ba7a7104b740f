-- Bytes always have a reception, and the output of a prefix is a prefix of the output.
use Rattle.std.specs.Prelude.{◌≡◌, ℕ, List, ◌++◌}
use Rattle.mode_set.specs.declared.modes.Stream.{Stream}
use Rattle.mode_set.specs.declared.settings.Settings.{Settings}
use Rattle.reception.specs.Streams.{Reception, Live, Final}
use Rattle.reception.specs.Lines.{event_lines}
use Rattle.reception.specs.Laws.{IsWithin}

-- bytes have a live output
abbrev pub SomeLive : Type 0
SomeLive = (s : Settings) (bytes : List ℕ) → (r : Reception) × Live s bytes r

-- bytes have a final output
abbrev pub SomeFinal : Type 0
SomeFinal = (s : Settings) (bytes : List ℕ) → (r : Reception) × Final s bytes r

-- the output of longer bytes begins with that of these: the packets of each stream, and the event lines
pub record Begins (s : Settings) (bytes longer : List ℕ) (r q : Reception) : Type 0 where
  pub packets : (σ : Stream) → (rest : List ℕ) × (q.packets σ ≡ r.packets σ ++ rest)
  pub lines : (rest : List ℕ) × (event_lines s longer q ≡ event_lines s bytes r ++ rest)

-- the live output is a prefix of that of longer bytes
abbrev pub LiveBeginsLive : Type 0
LiveBeginsLive = (s : Settings) (bytes more : List ℕ) (r q : Reception) → Live s bytes r → Live s (bytes ++ more) q
    → Begins s bytes (bytes ++ more) r q

-- the live output is a prefix of the final one of longer bytes
abbrev pub LiveBeginsFinal : Type 0
LiveBeginsFinal = (s : Settings) (bytes more : List ℕ) (r q : Reception) → Live s bytes r → Final s (bytes ++ more) q
    → Begins s bytes (bytes ++ more) r q

-- bytes that do not complete a symbol add no output
abbrev pub WholeSymbolsGive : Type 0
WholeSymbolsGive = (s : Settings) (bytes more : List ℕ) (r : Reception) → IsWithin s bytes more
    → Live s (bytes ++ more) r → Live s bytes r
