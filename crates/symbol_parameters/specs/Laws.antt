-- Laws of settings, steps and words along a transmission. Each is the clause of a public function of module laws.
use Rattle.std.specs.Prelude.{◌≡◌, ℕ, ◌+◌, ◌*◌, ◌<◌, ◌≤◌, IsTrue, true, []}
use Rattle.mode_set.specs.Entries.{entry, has_lp, with_entry}
use Rattle.mode_set.specs.Plans.{entries_of}
use Rattle.mode_set.specs.StreamTable.{has_stream, need, words_per_super_frame}
use Rattle.mode_set.specs.declared.modes.Stream.{Stream}
use Rattle.mode_set.specs.declared.modes.Stream.TheVariants.{Hp, Lp}
use Rattle.mode_set.specs.declared.settings.Settings.{Settings}
use Rattle.symbol_parameters.specs.Spans.{settings_in, exists_in, steps_of, steps_before, IsStepOf, words_in}
use Rattle.symbol_parameters.specs.Spans.{words_before}

-- ---- settings

-- the mode is the same in all super-frames
abbrev pub ModeStays : Type 0
ModeStays = (s : Settings) (j : ℕ) → (settings_in s j).mode ≡ s.mode

-- the guard interval is the same in all super-frames
abbrev pub GuardStays : Type 0
GuardStays = (s : Settings) (j : ℕ) → (settings_in s j).guard ≡ s.guard

-- the cell identifier is the same in all super-frames
abbrev pub CellIdStays : Type 0
CellIdStays = (s : Settings) (j : ℕ) → (settings_in s j).cell_id ≡ s.cell_id

-- the start is the same in all super-frames
abbrev pub StartStays : Type 0
StartStays = (s : Settings) (j : ℕ) → (settings_in s j).start ≡ s.start

-- only the parameters of the super-frame change
abbrev pub ParametersChange : Type 0
ParametersChange = (s : Settings) (j : ℕ) → settings_in s j ≡ with_entry s (entry s j)

-- HP is in every transmission, LP in those with a super-frame that may have it
abbrev pub HpExists : Type 0
HpExists = (s : Settings) → exists_in s Hp ≡ true

-- LP exists in a transmission exactly if the settings have it
abbrev pub LpExists : Type 0
LpExists = (s : Settings) → exists_in s Lp ≡ has_lp s

-- every stream of the settings themselves exists
abbrev pub StreamsExist : Type 0
StreamsExist = (s : Settings) (σ : Stream) → IsTrue (has_stream s.hierarchy σ) → IsTrue (exists_in s σ)

-- without a plan all settings stay
abbrev pub SettingsStay : Type 0
SettingsStay = (s : Settings) (j : ℕ) → entries_of s.plan ≡ [] → settings_in s j ≡ s

-- without a plan the streams are those of the settings
abbrev pub ConstantStreams : Type 0
ConstantStreams = (s : Settings) (σ : Stream) → entries_of s.plan ≡ [] → exists_in s σ ≡ has_stream s.hierarchy σ

-- ---- steps

-- there are no steps before symbol 0
abbrev pub NoSteps : Type 0
NoSteps = (s : Settings) (σ : Stream) → steps_before s σ 0 ≡ 0

-- each symbol adds its steps
abbrev pub StepsOfOneMore : Type 0
StepsOfOneMore = (s : Settings) (σ : Stream) (m : ℕ) → steps_before s σ (m + 1) ≡ steps_before s σ m + steps_of s σ m

-- the steps before a symbol never decrease
abbrev pub StepsGrow : Type 0
StepsGrow = (s : Settings) (σ : Stream) (m n : ℕ) → m ≤ n → steps_before s σ m ≤ steps_before s σ n

-- each step belongs to exactly one symbol
abbrev pub StepsHaveSymbols : Type 0
StepsHaveSymbols = (s : Settings) (σ : Stream) (n t : ℕ) → t < steps_before s σ n → (m : ℕ) × (m < n) × IsStepOf s σ m t

-- a step belongs to one symbol only
abbrev pub OneSymbol : Type 0
OneSymbol = (s : Settings) (σ : Stream) (m n t : ℕ) → IsStepOf s σ m t → IsStepOf s σ n t → m ≡ n

-- a stream with steps exists, in its super-frame and in the transmission
pub record IsThere (s : Settings) (σ : Stream) (j : ℕ) : Type 0 where
  pub here : IsTrue (has_stream (settings_in s j).hierarchy σ)
  pub whole : IsTrue (exists_in s σ)

-- only a stream that exists has steps
abbrev pub StepsAreOfAStream : Type 0
StepsAreOfAStream = (s : Settings) (σ : Stream) (j : ℕ) → 0 < need (settings_in s j) σ → IsThere s σ j

-- if no settings change, all symbols have the same number of steps
abbrev pub ConstantSteps : Type 0
ConstantSteps = (s : Settings) (σ : Stream) (m : ℕ) → ((j : ℕ) → settings_in s j ≡ s) → steps_before s σ m
    ≡ m * need s σ

-- ---- words

-- there are no outer words before super-frame 0
abbrev pub NoWords : Type 0
NoWords = (s : Settings) (σ : Stream) → words_before s σ 0 ≡ 0

-- each super-frame adds its outer words
abbrev pub WordsOfOneMore : Type 0
WordsOfOneMore = (s : Settings) (σ : Stream) (n : ℕ) → words_before s σ (n + 1) ≡ words_before s σ n + words_in s σ n

-- the words before a super-frame never decrease
abbrev pub WordsGrow : Type 0
WordsGrow = (s : Settings) (σ : Stream) (m n : ℕ) → m ≤ n → words_before s σ m ≤ words_before s σ n

-- the words of super-frames, of 1632 bits each, have as many bits as their symbols have steps
abbrev pub SpansHaveWholeWords : Type 0
SpansHaveWholeWords = (s : Settings) (σ : Stream) (n : ℕ) → 1632 * words_before s σ n ≡ steps_before s σ (272 * n)

-- if no settings change, all super-frames have the same number of words
abbrev pub ConstantWords : Type 0
ConstantWords = (s : Settings) (σ : Stream) (n : ℕ) → ((j : ℕ) → settings_in s j ≡ s) → words_before s σ n
    ≡ n * words_per_super_frame s σ
