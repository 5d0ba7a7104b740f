-- The keys of an entry's table are those of its members.
use Rattle.std.proofs.Common.{◌≡◌, ℕ, Bool, ◌&&◌, List, [], ◌∷◌, map, String, Global, string_bytes, refl, sym, ap, ◌∙◌}
use Rattle.std.specs.List.{list_all}
use Rattle.std.specs.Map as entries
use Rattle.toml.specs.View.{members_view}
use Rattle.toml.specs.declared.value.Value.{Value}
use Rattle.mode_set.specs.PlanKey.{is_entry_key, has_entry_keys}
use Rattle.mode_set.proofs.Unknown.{texts}

all_map : (p : List ℕ → Bool) (ks : List (String Global)) → list_all (λ k. p (string_bytes k)) ks ≡ list_all p (map string_bytes ks)
all_map p [] = refl
all_map p (k ∷ ks) = ap (λ b. p (string_bytes k) && b) (all_map p ks)

pub all_entry_keys : (es : List (String Global × Value)) → list_all (λ k. is_entry_key (string_bytes k)) (entries.keys_of es) ≡ has_entry_keys (members_view es)
all_entry_keys es = all_map is_entry_key (entries.keys_of es) ∙ ap (list_all is_entry_key) (sym (texts es))
