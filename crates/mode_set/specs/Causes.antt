-- What each error says of the document.
use Rattle.std.specs.Prelude.{◌≡◌, ◌≢◌, Bool, true, false, is_some, IsTrue, IsFalse, IsSomeAnd, Option, Some, None, Ok}
use Rattle.toml.specs.Data.{Data, Members}
use Rattle.mode_set.specs.AtKeys.{at, shape_in, hierarchy_in, rate_lp_in}
use Rattle.mode_set.specs.Document.{first_unknown}
use Rattle.mode_set.specs.PlanKey.{a_plan}
use Rattle.mode_set.specs.Kept.{is_flat}
use Rattle.mode_set.specs.Values.{mode_words, shape_words, hierarchy_words, rate_words, guard_words, start_words}
use Rattle.mode_set.specs.Values.{a_word, a_number}
use Rattle.mode_set.specs.declared.key.Key.{Key}
use Rattle.mode_set.specs.declared.key.Key.TheVariants.{Mode, Constellation, Hierarchy, RateHp, RateLp, Guard, CellId}
use Rattle.mode_set.specs.declared.key.Key.TheVariants.{Start, Workers, MaxSymbols, Plan}
use Rattle.mode_set.specs.declared.error.SettingsError.{SettingsError}
use Rattle.mode_set.specs.declared.error.SettingsError.TheVariants.{NotToml, Unknown, Missing, Value, Clash, Memory}
use Rattle.mode_set.specs.declared.modes.Shape.TheVariants.{Qpsk}
use Rattle.mode_set.specs.declared.modes.Hierarchy.TheVariants.{Flat}
use Rattle.mode_set.specs.declared.modes.Hierarchy.{Hierarchy as HierarchyOf}
use Rattle.mode_set.specs.declared.modes.Rate.{Rate}

-- the mandatory keys
abbrev pub is_required : Key → Bool
is_required Mode = true
is_required Constellation = true
is_required Hierarchy = false
is_required RateHp = true
is_required RateLp = false
is_required Guard = true
is_required CellId = false
is_required Start = false
is_required Workers = false
is_required MaxSymbols = false
is_required Plan = false

-- whether a key may have a value
abbrev pub fits : Key → Data → Bool
fits Mode d = is_some (a_word mode_words d)
fits Constellation d = is_some (a_word shape_words d)
fits Hierarchy d = is_some (a_word hierarchy_words d)
fits RateHp d = is_some (a_word rate_words d)
fits RateLp d = is_some (a_word rate_words d)
fits Guard d = is_some (a_word guard_words d)
fits CellId d = is_some (a_number 0 65535 d)
fits Start d = is_some (a_word start_words d)
fits Workers d = is_some (a_number 1 16 d)
fits MaxSymbols d = is_some (a_number 1 4294967295 d)
fits Plan d = is_some (a_plan d)

-- a mandatory key is missing
abbrev pub IsMissing : Key → Members → Type 0
IsMissing k ms = IsTrue (is_required k) × (at k ms ≡ None)

-- the value of a key is not allowed
abbrev pub HasWrongValue : Key → Members → Type 0
HasWrongValue k ms = IsSomeAnd (at k ms) (λ d. IsFalse (fits k d))

-- QPSK with a hierarchy, an LP rate without a hierarchy, or a hierarchy without an LP rate
abbrev pub Clashes : Key → Members → Type 0
Clashes Hierarchy ms = (shape_in ms ≡ Ok Qpsk) × (hierarchy_in ms ≢ Ok Flat)
Clashes RateLp ms = (h : HierarchyOf) × ((r : Option Rate) ×
    ((hierarchy_in ms ≡ Ok h) × (rate_lp_in ms ≡ Ok r) × (is_some r ≡ is_flat h)))
Clashes _ ms = ⊥

-- the document has the fault that the error names
abbrev pub HasCause : Members → SettingsError → Type 0
HasCause ms NotToml = ⊥
HasCause ms (Unknown n) = first_unknown ms ≡ Some n
HasCause ms (Missing k) = IsMissing k ms
HasCause ms (Value k) = HasWrongValue k ms
HasCause ms (Clash k) = Clashes k ms
HasCause ms Memory = ⊥
