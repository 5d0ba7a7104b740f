-- Bytes have one rescue output at each moment, and the output of a prefix is a prefix of the output.
use Rattle.std.specs.Prelude.{◌≡◌, ℕ, List, [], ◌++◌}
use Rattle.mode_set.specs.declared.modes.Stream.{Stream}
use Rattle.mode_set.specs.declared.settings.Settings.{Settings}
use Rattle.reception.specs.Laws.{IsWithin}
use Rattle.rescue.specs.Streams.{Rescue, RescuesSoFar, RescuesAtEnd, nothing}
use Rattle.rescue.specs.Lines.{closing_lines, event_lines}
use Rattle.reception.specs.Alike.{DifferInWorkers}

-- ---- one output

-- two rescue outputs are equal
pub record AreSame (r q : Rescue) : Type 0 where
  pub packets : (σ : Stream) → r.packets σ ≡ q.packets σ
  pub reports : (σ : Stream) → r.reports σ ≡ q.reports σ
  pub tally : (σ : Stream) → r.tally σ ≡ q.tally σ

-- bytes have one output so far
abbrev pub OneSoFar : Type 0
OneSoFar = (s : Settings) (bytes : List ℕ) (r q : Rescue) → RescuesSoFar s bytes r → RescuesSoFar s bytes q
    → AreSame r q

-- bytes have one output at the end
abbrev pub OneAtEnd : Type 0
OneAtEnd = (s : Settings) (bytes : List ℕ) (r q : Rescue) → RescuesAtEnd s bytes r → RescuesAtEnd s bytes q
    → AreSame r q

-- no bytes give no output
abbrev pub NothingSoFar : Type 0
NothingSoFar = (s : Settings) → RescuesSoFar s [] nothing

-- bytes always have an output so far
abbrev pub SomeSoFar : Type 0
SomeSoFar = (s : Settings) (bytes : List ℕ) → (r : Rescue) × RescuesSoFar s bytes r

-- bytes always have an output at the end
abbrev pub SomeAtEnd : Type 0
SomeAtEnd = (s : Settings) (bytes : List ℕ) → (r : Rescue) × RescuesAtEnd s bytes r

-- ---- prefixes

-- the output at the end begins with the output so far, and has the same reports
pub record Ends (r q : Rescue) : Type 0 where
  pub packets : (σ : Stream) → (rest : List ℕ) × (q.packets σ ≡ r.packets σ ++ rest)
  pub reports : (σ : Stream) → q.reports σ ≡ r.reports σ

-- the output at the end extends the output so far of the same bytes
abbrev pub AtEndEndsSoFar : Type 0
AtEndEndsSoFar = (s : Settings) (bytes : List ℕ) (r q : Rescue) → RescuesSoFar s bytes r → RescuesAtEnd s bytes q
    → Ends r q

-- the output of longer bytes begins with that of these: the packets and reports of each stream, and the event lines
pub record Begins (s : Settings) (bytes longer : List ℕ) (r q : Rescue) : Type 0 where
  pub packets : (σ : Stream) → (rest : List ℕ) × (q.packets σ ≡ r.packets σ ++ rest)
  pub reports : (σ : Stream) → (rest : List ℕ) × (q.reports σ ≡ r.reports σ ++ rest)
  pub lines : (rest : List ℕ) × (event_lines s longer q ≡ event_lines s bytes r ++ rest)

-- the output so far is a prefix of that of longer bytes
abbrev pub SoFarBeginsSoFar : Type 0
SoFarBeginsSoFar = (s : Settings) (bytes more : List ℕ) (r q : Rescue) → RescuesSoFar s bytes r
    → RescuesSoFar s (bytes ++ more) q → Begins s bytes (bytes ++ more) r q

-- the output so far is a prefix of the output at the end of longer bytes
abbrev pub SoFarBeginsAtEnd : Type 0
SoFarBeginsAtEnd = (s : Settings) (bytes more : List ℕ) (r q : Rescue) → RescuesSoFar s bytes r
    → RescuesAtEnd s (bytes ++ more) q → Begins s bytes (bytes ++ more) r q

-- bytes that do not complete a symbol add no output
abbrev pub WholeSymbolsGive : Type 0
WholeSymbolsGive = (s : Settings) (bytes more : List ℕ) (r : Rescue) → IsWithin s bytes more
    → RescuesSoFar s (bytes ++ more) r → RescuesSoFar s bytes r

-- ---- workers

-- settings that differ only in the number of workers give the same output so far ..
abbrev pub SameSoFar : Type 0
SameSoFar = (s t : Settings) (bytes : List ℕ) (r : Rescue) → DifferInWorkers s t → RescuesSoFar s bytes r
    → RescuesSoFar t bytes r

-- .. and the same output at the end ..
abbrev pub SameAtEnd : Type 0
SameAtEnd = (s t : Settings) (bytes : List ℕ) (r : Rescue) → DifferInWorkers s t → RescuesAtEnd s bytes r
    → RescuesAtEnd t bytes r

-- .. and the report has the same lines
abbrev pub SameLines : Type 0
SameLines = (s t : Settings) (bytes : List ℕ) (r : Rescue) → DifferInWorkers s t
    → (event_lines t bytes r ≡ event_lines s bytes r) × (closing_lines t bytes r ≡ closing_lines s bytes r)
