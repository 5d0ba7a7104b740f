-- Plans of documents, accepted and rejected, computed on the definitions.
use Rattle.std.proofs.Common.{◌≡◌, ℕ, [], ◌∷◌, List, Option, map, refl, false}
use Rattle.std.specs.Prelude.{codes, pos, Some, is_some, option_map}
use Rattle.toml.specs.Data.{Data, string, integer, array, table, no_items, item, no_members, member}
use Rattle.mode_set.specs.PlanKey.{a_plan}
use Rattle.mode_set.specs.Plans.{entries_of}
use Rattle.mode_set.specs.declared.entry.Entry.{Entry}
use Rattle.mode_set.specs.declared.modes.Shape.TheVariants.{Qam16}
use Rattle.mode_set.specs.declared.modes.Rate.TheVariants.{R3of4}

-- an entry without a hierarchy
abbrev plain : ℕ → Data
plain after = table (member (codes "after") (integer (pos after)) (member (codes "constellation") (string (codes "qpsk")) (member (codes "rate_hp") (string (codes "1/2")) no_members)))

abbrev layered : Data
layered = table (
    member (codes "after") (integer (pos 1))
    (member (codes "constellation") (string (codes "16qam"))
    (member (codes "hierarchy") (string (codes "4")) (member (codes "rate_hp") (string (codes "1/2")) (member (codes "rate_lp") (string (codes "3/4")) no_members)))))

-- QPSK with a hierarchy
abbrev clashing : Data
clashing = table (
    member (codes "after") (integer (pos 1))
    (member (codes "constellation") (string (codes "qpsk"))
    (member (codes "hierarchy") (string (codes "2")) (member (codes "rate_hp") (string (codes "1/2")) (member (codes "rate_lp") (string (codes "3/4")) no_members)))))

-- an unknown key
abbrev named : Data
named = table (
    member (codes "after") (integer (pos 1))
    (member (codes "constellation") (string (codes "qpsk")) (member (codes "guard") (string (codes "1/4")) (member (codes "rate_hp") (string (codes "1/2")) no_members))))

abbrev seen : {T : Type 0} → (Entry → T) → Data → Option (List T)
seen f d = option_map (λ p. map f (entries_of p)) (a_plan d)

one : seen (λ e. e.after) (array (item layered no_items)) ≡ Some (1 ∷ [])
one = refl

its_shape : seen (λ e. e.shape) (array (item layered no_items)) ≡ Some (Qam16 ∷ [])
its_shape = refl

its_rate : seen (λ e. e.rate_lp) (array (item layered no_items)) ≡ Some (Some R3of4 ∷ [])
its_rate = refl

rising : seen (λ e. e.after) (array (item (plain 3) (item (plain 4) no_items))) ≡ Some (3 ∷ 4 ∷ [])
rising = refl

refused : map (λ d. is_some (a_plan d)) (
    array (item (plain 3) (item (plain 3) no_items))
    ∷ array (item clashing no_items)
    ∷ array (item named no_items)
    ∷ array no_items
    ∷ array (item (plain 0) no_items)
    ∷ array (item (integer (pos 1)) no_items)
    ∷ plain 1
    ∷ []
    ) ≡ false ∷ false ∷ false ∷ false ∷ false ∷ false ∷ false ∷ []
refused = refl
