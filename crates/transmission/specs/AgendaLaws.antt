-- The laws of the order of work, as a loop over the symbols follows it. Each is the clause of a public function of
-- module laws.
use Rattle.std.specs.Prelude.{◌≡◌, ℕ, ◌+◌, ◌<◌, ◌≤◌, Bool, false, Some, None}
use Rattle.mode_set.specs.declared.modes.Stream.{Stream}
use Rattle.mode_set.specs.declared.modes.Stream.TheVariants.{Hp, Lp}
use Rattle.mode_set.specs.declared.settings.Settings.{Settings}
use Rattle.transmission.specs.Transmission.{Inputs, by_stream}
use Rattle.transmission.specs.SuperFrames.{counts_of, packets_for, super_frames, symbols_of}
use Rattle.transmission.specs.Agenda.{Refusal, Limit, packet_refusal, first_refusal, symbols_sent, next_stream}
use Rattle.transmission.specs.Agenda.{IsEnoughFor}

-- a point in the order of work before any refusal: m symbols sent, hp and lp packets taken
pub record IsAt (s : Settings) (most : ℕ) (inputs : Inputs) (m hp lp : ℕ) : Type 0 where
  pub within : m ≤ s.max_symbols
  pub hp_least : packets_for s Hp m ≤ hp
  pub hp_most : hp ≤ packets_for s Hp (m + 1)
  pub lp_least : packets_for s Lp m ≤ lp
  pub lp_most : lp ≤ packets_for s Lp (m + 1)
  pub in_order : packets_for s Lp m < lp → hp ≡ packets_for s Hp (m + 1)
  pub accepted : (σ : Stream) (p : ℕ) → p < by_stream hp lp σ → packet_refusal most inputs σ p ≡ None

-- the work stops with this refusal, after m symbols
pub record StopsAt (s : Settings) (most : ℕ) (inputs : Inputs) (r : Refusal) (m : ℕ) : Type 0 where
  pub first : first_refusal s most inputs ≡ Some r
  pub sent : symbols_sent s most inputs ≡ m

-- nothing is refused, and all symbols are sent
pub record GoesThrough (s : Settings) (most : ℕ) (inputs : Inputs) : Type 0 where
  pub none : first_refusal s most inputs ≡ None
  pub sent : symbols_sent s most inputs ≡ symbols_of s inputs

-- the work begins, takes an accepted packet, and sends a symbol within the limit
abbrev pub WorkBegins : Type 0
WorkBegins = (s : Settings) (most : ℕ) (inputs : Inputs) → IsAt s most inputs 0 0 0

-- an accepted packet of HP is taken
abbrev pub TakesOfHp : Type 0
TakesOfHp = (s : Settings) (most : ℕ) (inputs : Inputs) (m hp lp : ℕ) → IsAt s most inputs m hp lp
    → next_stream s m hp lp ≡ Some Hp → packet_refusal most inputs Hp hp ≡ None → IsAt s most inputs m (hp + 1) lp

-- an accepted packet of LP is taken
abbrev pub TakesOfLp : Type 0
TakesOfLp = (s : Settings) (most : ℕ) (inputs : Inputs) (m hp lp : ℕ) → IsAt s most inputs m hp lp
    → next_stream s m hp lp ≡ Some Lp → packet_refusal most inputs Lp lp ≡ None → IsAt s most inputs m hp (lp + 1)

-- a symbol within the limit is sent
abbrev pub SendsSymbol : Type 0
SendsSymbol = (s : Settings) (most : ℕ) (inputs : Inputs) (m hp lp : ℕ) → IsAt s most inputs m hp lp
    → next_stream s m hp lp ≡ None → m < s.max_symbols → IsAt s most inputs (m + 1) hp lp

-- a symbol past the limit is refused before its packets are taken
abbrev pub StopsAtLimit : Type 0
StopsAtLimit = (s : Settings) (most : ℕ) (inputs : Inputs) (m hp lp : ℕ) → IsAt s most inputs m hp lp
    → m < symbols_of s inputs → s.max_symbols ≤ m → StopsAt s most inputs (Limit s.max_symbols) m

-- a refused packet stops the work before its symbol
abbrev pub StopsAtPacket : Type 0
StopsAtPacket = (s : Settings) (most : ℕ) (inputs : Inputs) (m hp lp : ℕ) (σ : Stream) (r : Refusal)
    → IsAt s most inputs m hp lp
    → m < symbols_of s inputs → m < s.max_symbols → next_stream s m hp lp ≡ Some σ
    → packet_refusal most inputs σ (by_stream hp lp σ) ≡ Some r → StopsAt s most inputs r m

-- if all symbols were sent, nothing is refused
abbrev pub EndsUnrefused : Type 0
EndsUnrefused = (s : Settings) (most : ℕ) (inputs : Inputs) (m hp lp : ℕ) → IsAt s most inputs m hp lp → m
    ≡ symbols_of s inputs → GoesThrough s most inputs

-- endless work is always refused
abbrev pub EndlessIsRefused : Type 0
EndlessIsRefused = (s : Settings) (most : ℕ) (inputs : Inputs) → super_frames s (counts_of inputs) ≡ None
    → first_refusal s most inputs ≡ None → ⊥

-- the symbols sent so far are among all symbols sent
abbrev pub SentSoFar : Type 0
SentSoFar = (s : Settings) (most : ℕ) (inputs : Inputs) (m hp lp : ℕ) → IsAt s most inputs m hp lp
    → m ≤ symbols_of s inputs → m ≤ symbols_sent s most inputs

-- the number of symbols sent if the next one needs a packet that is missing
abbrev pub SentAtFault : Type 0
SentAtFault = (s : Settings) (taken : Stream → ℕ) (ended : Stream → Bool) (m : ℕ) (σ : Stream)
    → ((τ : Stream) → ended τ ≡ false → packets_for s τ m ≤ taken τ) → ended σ ≡ false
    → taken σ < packets_for s σ (m + 1) → IsEnoughFor s taken ended m
