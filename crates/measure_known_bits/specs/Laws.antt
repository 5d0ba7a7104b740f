-- The laws of known bits. Each is the clause of a public function of module laws.
use Rattle.std.specs.Prelude.{ℕ, ◌+◌, ◌*◌, ◌≤◌, Bool, false, List, [], ◌++◌, length, replicate}
use Rattle.mode_set.specs.declared.modes.Stream.{Stream}
use Rattle.mode_set.specs.declared.settings.Settings.{Settings}
use Rattle.symbol_parameters.specs.Spans.{steps_before}
use Rattle.measure_known_bits.specs.Seen.{KnownState}
use Rattle.measure_known_bits.specs.Passing.{HasPassed, IsSettled}

-- no bit is known, and no step precedes the next symbol
abbrev pub nothing_known : KnownState
nothing_known = record { waiting = []; lag = 0; before = 0 }

-- before the first symbol, with a register of zeros
abbrev pub NothingPassed : Type 0
NothingPassed = (s : Settings) (σ : Stream) → HasPassed s σ 0 nothing_known (replicate 6 false) []

-- more known bits are pending
abbrev pub MoreBitsKnown : Type 0
MoreBitsKnown = (s : Settings) (σ : Stream) (m : ℕ) (k : KnownState) (register known more : List Bool)
    → HasPassed s σ m k register known
    → HasPassed s σ m (record k { waiting = k.waiting ++ more }) register (known ++ more)

-- n symbols from symbol m on have at most 31,752 steps each
abbrev pub StepsAreFew : Type 0
StepsAreFew = (s : Settings) (σ : Stream) (m n : ℕ) → steps_before s σ (m + n) ≤ steps_before s σ m + 31752 * n

-- if the encoder is settled before symbol m, the pending known bits are those of at most n more symbols
abbrev pub FewWait : Type 0
FewWait = (s : Settings) (σ : Stream) (m n : ℕ) (k : KnownState) (register known : List Bool)
    → HasPassed s σ m k register known → IsSettled k
    → length known ≤ steps_before s σ (m + n) → length k.waiting ≤ 31752 * n
