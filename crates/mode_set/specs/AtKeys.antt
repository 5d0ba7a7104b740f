-- A settings document, and the values at its keys.
use Rattle.std.specs.Prelude.{ℕ, not, ◌&&◌, if◌then◌else◌, List, [], ◌∷◌, Option, Some, None, is_some, Result, Ok, Err}
use Rattle.std.specs.Bool.{beq}
use Rattle.std.specs.Str.{is_utf8}
use Rattle.toml.specs.Data.{Data, Members, no_members, member, get_member}
use Rattle.toml.specs.Parse.{parse_document}
use Rattle.mode_set.specs.Keys.{key_text}
use Rattle.mode_set.specs.Kept.{is_flat, is_qpsk}
use Rattle.mode_set.specs.Values.{mode_words, shape_words, hierarchy_words, rate_words, guard_words, start_words}
use Rattle.mode_set.specs.Values.{a_word, a_number}
use Rattle.mode_set.specs.declared.key.Key.{Key}
use Rattle.mode_set.specs.declared.key.Key.TheVariants as key
use Rattle.mode_set.specs.declared.error.SettingsError.{SettingsError}
use Rattle.mode_set.specs.declared.error.SettingsError.TheVariants.{Missing, Value, Clash}
use Rattle.mode_set.specs.declared.modes.Mode.{Mode}
use Rattle.mode_set.specs.declared.modes.Shape.{Shape}
use Rattle.mode_set.specs.declared.modes.Hierarchy.{Hierarchy}
use Rattle.mode_set.specs.declared.modes.Hierarchy.TheVariants.{Flat}
use Rattle.mode_set.specs.declared.modes.Rate.{Rate}
use Rattle.mode_set.specs.declared.modes.Guard.{Guard}
use Rattle.mode_set.specs.declared.modes.Start.{Start}
use Rattle.mode_set.specs.declared.modes.Start.TheVariants.{Zero}

-- the table of a document, if its bytes are UTF-8 and TOML
abbrev pub document : List ℕ → Option Members
document bytes = if is_utf8 bytes then parse_document bytes else None

-- the keys of a table, in byte order
abbrev pub keys_of : Members → List (List ℕ)
keys_of no_members = []
keys_of (member k d ms) = k ∷ keys_of ms

-- the value at a key
abbrev pub at : Key → Members → Option Data
at k ms = get_member (key_text k) ms

-- an error if that value has a wrong type or is not allowed
abbrev pub accepted : {T : Type 0} → Key → Option T → Result T SettingsError
accepted k None = Err (Value k)
accepted k (Some v) = Ok v

-- the value of a mandatory key
abbrev pub required : {T : Type 0} → Key → (Data → Option T) → Option Data → Result T SettingsError
required k value None = Err (Missing k)
required k value (Some d) = accepted k (value d)

-- the value of a key with a default
abbrev pub with_default : {T : Type 0} → Key → T → (Data → Option T) → Option Data → Result T SettingsError
with_default k default value None = Ok default
with_default k default value (Some d) = accepted k (value d)

-- the value of an optional key
abbrev pub if_present : {T : Type 0} → Key → (Data → Option T) → Option Data → Result (Option T) SettingsError
if_present k value None = Ok None
if_present k value (Some d) = with_some (accepted k (value d))
  where
    with_some : {T : Type 0} → Result T SettingsError → Result (Option T) SettingsError
    with_some (Ok v) = Ok (Some v)
    with_some (Err e) = Err e

-- the mode, a mandatory key
abbrev pub mode_in : Members → Result Mode SettingsError
mode_in ms = required key.Mode (a_word mode_words) (at key.Mode ms)

-- the constellation, a mandatory key
abbrev pub shape_in : Members → Result Shape SettingsError
shape_in ms = required key.Constellation (a_word shape_words) (at key.Constellation ms)

-- the hierarchy, by default none
abbrev pub hierarchy_in : Members → Result Hierarchy SettingsError
hierarchy_in ms = with_default key.Hierarchy Flat (a_word hierarchy_words) (at key.Hierarchy ms)

-- the code rate of HP, a mandatory key
abbrev pub rate_hp_in : Members → Result Rate SettingsError
rate_hp_in ms = required key.RateHp (a_word rate_words) (at key.RateHp ms)

-- the code rate of LP, if present
abbrev pub rate_lp_in : Members → Result (Option Rate) SettingsError
rate_lp_in ms = if_present key.RateLp (a_word rate_words) (at key.RateLp ms)

-- the guard interval, a mandatory key
abbrev pub guard_in : Members → Result Guard SettingsError
guard_in ms = required key.Guard (a_word guard_words) (at key.Guard ms)

-- the cell identifier, 0 to 65535, if present
abbrev pub cell_id_in : Members → Result (Option ℕ) SettingsError
cell_id_in ms = if_present key.CellId (a_number 0 65535) (at key.CellId ms)

-- the first register of the inner code, by default zero
abbrev pub start_in : Members → Result Start SettingsError
start_in ms = with_default key.Start Zero (a_word start_words) (at key.Start ms)

-- the workers of the receiver, 1 to 16, by default 1
abbrev pub workers_in : Members → Result ℕ SettingsError
workers_in ms = with_default key.Workers 1 (a_number 1 16) (at key.Workers ms)

-- the limit of symbols, by default 1000000
abbrev pub max_symbols_in : Members → Result ℕ SettingsError
max_symbols_in ms = with_default key.MaxSymbols 1000000 (a_number 1 4294967295) (at key.MaxSymbols ms)

-- QPSK allows no hierarchy
abbrev pub hierarchy_clash : Result Shape SettingsError → Result Hierarchy SettingsError → Option SettingsError
hierarchy_clash (Ok s) (Ok h) = if is_qpsk s && not (is_flat h) then Some (Clash key.Hierarchy) else None
hierarchy_clash _ _ = None

-- the LP rate is given exactly if there is a hierarchy
abbrev pub rate_lp_clash : Result Hierarchy SettingsError → Result (Option Rate) SettingsError → Option SettingsError
rate_lp_clash (Ok h) (Ok r) = if beq (is_some r) (is_flat h) then Some (Clash key.RateLp) else None
rate_lp_clash _ _ = None

-- the first error in a list
abbrev pub first_of : List (Option SettingsError) → Option SettingsError
first_of [] = None
first_of (None ∷ more) = first_of more
first_of (Some e ∷ more) = Some e
