-- The plan in a settings document: key `plan`, an array of 1 to 16 tables, one for each entry.
use Rattle.std.specs.Prelude.{◌≡◌, codes, ℕ, Bool, true, false, if◌then◌else◌, List, [], ◌∷◌, Option, Some, None}
use Rattle.std.specs.Prelude.{option_and_then, Result, Ok, bytes_eq, refl}
use Rattle.std.specs.List.{list_all, list_any}
use Rattle.toml.specs.Data.{Data, Items, no_items, item, Members, get_member, as_array, as_table}
use Rattle.mode_set.specs.AtKeys.{keys_of, at, with_default, shape_in, hierarchy_in, rate_hp_in, rate_lp_in}
use Rattle.mode_set.specs.Kept.{IsKeptEntry, fit_together}
use Rattle.mode_set.specs.KeptBy.{kept_together}
use Rattle.mode_set.specs.Plans.{no_plan, plan_of}
use Rattle.mode_set.specs.Values.{a_number}
use Rattle.mode_set.specs.declared.entry.Entry.{Entry}
use Rattle.mode_set.specs.declared.plan.Plan.{Plan}
use Rattle.mode_set.specs.declared.key.Key.TheVariants as key
use Rattle.mode_set.specs.declared.error.SettingsError.{SettingsError}
use Rattle.mode_set.specs.declared.modes.Shape.{Shape}
use Rattle.mode_set.specs.declared.modes.Hierarchy.{Hierarchy}
use Rattle.mode_set.specs.declared.modes.Rate.{Rate}

-- the keys of an entry: the number of its first super-frame, and the document's keys that it changes
abbrev pub entry_keys : List (List ℕ)
entry_keys = codes "after" ∷ codes "constellation" ∷ codes "hierarchy" ∷ codes "rate_hp" ∷ codes "rate_lp" ∷ []

-- whether a text is a key of an entry
abbrev pub is_entry_key : List ℕ → Bool
is_entry_key text = list_any (bytes_eq text) entry_keys

-- the table has no other keys than those of an entry
abbrev pub has_entry_keys : Members → Bool
has_entry_keys ms = list_all is_entry_key (keys_of ms)

-- the super-frame after which an entry applies, if it is valid
abbrev pub after_in : Members → Option ℕ
after_in ms = option_and_then (a_number 1 4294967295) (get_member (codes "after") ms)

-- an entry of these values, if they fit one another
abbrev pub entry_if : ℕ → (shape : Shape) (hierarchy : Hierarchy) → Rate → (rate_lp : Option Rate) → (fits : Bool)
    → (fits ≡ true → IsKeptEntry shape hierarchy rate_lp) → Option Entry
entry_if after shape hierarchy rate_hp rate_lp true kept = Some (record
    { after = after; shape = shape; hierarchy = hierarchy; rate_hp = rate_hp; rate_lp = rate_lp; kept = kept refl })
entry_if after shape hierarchy rate_hp rate_lp false kept = None

-- the same from the values at the keys
abbrev pub entry_from : Option ℕ → Result Shape SettingsError → Result Hierarchy SettingsError
    → Result Rate SettingsError → Result (Option Rate) SettingsError → Option Entry
entry_from (Some after) (Ok shape) (Ok hierarchy) (Ok rate_hp) (Ok rate_lp) =
    entry_if after shape hierarchy rate_hp rate_lp (fit_together shape hierarchy rate_lp)
    (kept_together shape hierarchy rate_lp)
entry_from after shape hierarchy rate_hp rate_lp = None

-- The entry of a table that has only these keys. Values and clashes are checked as in the document.
abbrev pub entry_in : Members → Option Entry
entry_in ms = if has_entry_keys ms then entry_from (after_in ms) (shape_in ms) (hierarchy_in ms) (rate_hp_in ms)
    (rate_lp_in ms) else None

-- one more entry at the start of the list, if all are valid
abbrev pub with_first : Option Entry → Option (List Entry) → Option (List Entry)
with_first (Some e) (Some es) = Some (e ∷ es)
with_first e es = None

-- the entries of an array, if every item is a valid table
abbrev pub entries_in : Items → Option (List Entry)
entries_in no_items = Some []
entries_in (item d ds) = with_first (option_and_then entry_in (as_table d)) (entries_in ds)

-- a plan has at least one entry
abbrev pub some_plan : List Entry → Option Plan
some_plan [] = None
some_plan (e ∷ es) = plan_of (e ∷ es)

-- the plan of an array, if it is valid
abbrev pub a_plan : Data → Option Plan
a_plan d = option_and_then (λ ds. option_and_then some_plan (entries_in ds)) (as_array d)

-- the plan of a document; without the key, the plan without entries
abbrev pub plan_in : Members → Result Plan SettingsError
plan_in ms = with_default key.Plan no_plan a_plan (at key.Plan ms)
