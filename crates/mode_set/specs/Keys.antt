-- The keys of a settings document.
use Rattle.std.specs.Prelude.{codes, ℕ, Bool, List, [], ◌∷◌, bytes_eq}
use Rattle.std.specs.List.{list_any}
use Rattle.mode_set.specs.declared.key.Key.{Key}
use Rattle.mode_set.specs.declared.key.Key.TheVariants.{Mode, Constellation, Hierarchy, RateHp, RateLp, Guard, CellId}
use Rattle.mode_set.specs.declared.key.Key.TheVariants.{Start, Workers, MaxSymbols, Plan}

-- the text of a key in a document
abbrev pub key_text : Key → List ℕ
key_text Mode = codes "mode"
key_text Constellation = codes "constellation"
key_text Hierarchy = codes "hierarchy"
key_text RateHp = codes "rate_hp"
key_text RateLp = codes "rate_lp"
key_text Guard = codes "guard"
key_text CellId = codes "cell_id"
key_text Start = codes "start"
key_text Workers = codes "workers"
key_text MaxSymbols = codes "max_symbols"
key_text Plan = codes "plan"

-- all keys, in the order of the tests
abbrev pub all_keys : List Key
all_keys = Mode ∷ Constellation ∷ Hierarchy ∷ RateHp ∷ RateLp ∷ Guard ∷ CellId ∷ Start ∷ Workers ∷ MaxSymbols ∷ Plan
    ∷ []

-- whether a text is a key of the document
abbrev pub is_key : List ℕ → Bool
is_key text = list_any (λ key. bytes_eq text (key_text key)) all_keys
