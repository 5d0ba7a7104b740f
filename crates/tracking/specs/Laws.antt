-- The laws of channel tracking. Each is the clause of a public function of module laws.
use Rattle.std.specs.Prelude.{◌≡◌, ℕ, ◌-◌, ◌≤◌, List, ◌++◌, length, take}
use Rattle.mode_set.specs.declared.settings.Settings.{Settings}
use Rattle.tracking.specs.Correction.{shared_weight, weight_of}
use Rattle.tracking.specs.Tracking.{Symbol, tracked_symbols, live_symbols}

-- a greater power of the gain never gives a lower weight
abbrev pub GreaterPowersWeighMore : Type 0
GreaterPowersWeighMore = (full n more old : ℕ) → n ≤ more → shared_weight (weight_of full n) old ≤ shared_weight
    (weight_of full more) old

-- the corrected symbols of a file, except the last seven, are those of every file that begins with it
abbrev pub LiveSymbolsStay : Type 0
LiveSymbolsStay = (s : Settings) (symbols more : List Symbol)
    → take (length symbols - 7) (tracked_symbols s (symbols ++ more)) ≡ live_symbols s symbols
