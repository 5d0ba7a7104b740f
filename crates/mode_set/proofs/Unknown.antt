-- The first unknown key: the keys of a table ascend, and at most eleven of them are known.
use Rattle.std.proofs.Common.{◌≡◌, ℕ, suc, ◌+◌, ◌≤◌, Bool, true, false, not, ◌||◌, cond, ◌⊎◌, List, [], ◌∷◌, length, map, Some, None, IfSome, String, Global, string_bytes, nat_cmp, nat_eq, refl, sym, ap, ◌∙◌, arith, Less, inl, inr}
use Rattle.std.specs.Prelude.{bytes_eq, position}
use Rattle.std.specs.List.{AllByRecursion, IsDistinct, list_any, prefix_len}
use Rattle.std.specs.List.Sorted.{IsStrictlySortedBy}
use Rattle.std.specs.Cmp.{eq_by_cmp_equiv}
use Rattle.std.specs.Cmp.Lexicographic.{slice_cmp, lists_ties}
use Rattle.std.specs.Ordering.{eq_by_cmp}
use Rattle.std.specs.String.{string_cmp}
use Rattle.std.specs.Map as entries
use Rattle.std.specs.Set.{is_member}
use Rattle.std.proofs.lemmas.Bool.{cases_Bool, false≢true}
use Rattle.std.proofs.lemmas.Bool.Decides.{nat_tests}
use Rattle.std.proofs.lemmas.Cmp.{nat_list_cmp_total}
use Rattle.std.proofs.lemmas.Map.Keys.{IsDistinct-from_sorted}
use Rattle.std.proofs.lemmas.Map.Made.{length-le_from_is_member}
use Rattle.toml.specs.View.{members_view}
use Rattle.toml.specs.declared.value.Value.{Value}
use Rattle.mode_set.specs.declared.key.Key.{Key}
use Rattle.mode_set.specs.Keys.{key_text, is_key, all_keys}
use Rattle.mode_set.specs.AtKeys.{keys_of}
use Rattle.mode_set.specs.Document.{first_unknown}

abbrev Entry : Type 0
Entry = String Global × Value

-- a table's keys, as texts, are those of its members
pub texts : (es : List Entry) → keys_of (members_view es) ≡ map string_bytes (entries.keys_of es)
texts [] = refl
texts (e ∷ es) = ap (λ ks. string_bytes e.0 ∷ ks) (texts es)

above : (k : String Global) (es : List Entry) → AllByRecursion (λ y. string_cmp k y ≡ Less) (entries.keys_of es) → AllByRecursion (λ y. slice_cmp nat_cmp (string_bytes k) y ≡ Less) (keys_of (members_view es))
above k [] h = tt
above k (e ∷ es) h = (h.0, above k es h.1)

pub ascending : (es : List Entry) → IsStrictlySortedBy string_cmp (entries.keys_of es) → IsStrictlySortedBy (slice_cmp nat_cmp) (keys_of (members_view es))
unfolding IsStrictlySortedBy
ascending [] h = tt
ascending (e ∷ es) h = (above e.0 es h.0, ascending es h.1)

prefix_map : (p : List ℕ → Bool) (ks : List (String Global)) → prefix_len p (map string_bytes ks) ≡ prefix_len (λ k. p (string_bytes k)) ks
prefix_map p [] = refl
prefix_map p (k ∷ ks) = ap (λ n. cond (p (string_bytes k)) (1 + n) 0) (prefix_map p ks)

length_map : (ks : List (String Global)) → length (map string_bytes ks) ≡ length ks
length_map [] = refl
length_map (k ∷ ks) = ap suc (length_map ks)

place_map : (p : List ℕ → Bool) (ks : List (String Global)) → position p (map string_bytes ks) ≡ position (λ k. p (string_bytes k)) ks
place_map p ks = rw (prefix_map (λ k. not (p k)) ks, length_map ks) refl

-- the index in the map is the index in the document
pub place : (es : List Entry) → position (λ k. not (is_key (string_bytes k))) (entries.keys_of es) ≡ first_unknown (members_view es)
place es = sym (place_map (λ k. not (is_key k)) (entries.keys_of es)) ∙ ap (position (λ k. not (is_key k))) (sym (texts es))

abbrev same : List ℕ → List ℕ → Bool
same = eq_by_cmp (slice_cmp nat_cmp)

same_numbers : (x y : ℕ) → nat_eq x y ≡ eq_by_cmp nat_cmp x y
same_numbers x y = grind (arith, nat_tests)

same_texts : (x y : List ℕ) → bytes_eq x y ≡ same x y
same_texts x y = lists_ties nat_cmp same_numbers x y

known_member : (q : List ℕ) (ks : List Key) → list_any (λ k. bytes_eq q (key_text k)) ks ≡ is_member same (map key_text ks) q
known_member q [] = refl
known_member q (k ∷ ks) = rw (same_texts q (key_text k), known_member q ks) refl

-- the first keys that pass a test
module _ (p : List ℕ → Bool) where
  abbrev front : List (List ℕ) → List (List ℕ)
  front [] = []
  front (k ∷ ks) = cond (p k) (k ∷ front ks) []

  length_front : (ks : List (List ℕ)) → length (front ks) ≡ prefix_len p ks
  length_front [] = refl
  length_front (k ∷ ks) = elim (cases_Bool (p k)) [ inl passes ↦ rw passes (omega (arith, length_front ks)) | inr fails ↦ rw fails refl ]

  front_apart : (x : List ℕ) (ks : List (List ℕ)) → AllByRecursion (λ y. same x y ≡ false) ks → AllByRecursion (λ y. same x y ≡ false) (front ks)
  front_apart x [] h = tt
  front_apart x (k ∷ ks) h = elim (cases_Bool (p k)) [ inl passes ↦ rw passes (h.0, front_apart x ks h.1) | inr fails ↦ rw fails tt ]

  front_distinct : (ks : List (List ℕ)) → IsDistinct same ks → IsDistinct same (front ks)
  unfolding IsDistinct
  front_distinct [] h = tt
  front_distinct (k ∷ ks) h = elim (cases_Bool (p k)) [ inl passes ↦ rw passes (front_apart k ks h.0, front_distinct ks h.1) | inr fails ↦ rw fails tt ]

  prefix_twice : (ks : List (List ℕ)) → prefix_len (λ k. not (not (p k))) ks ≡ prefix_len p ks
  prefix_twice [] = refl
  prefix_twice (k ∷ ks) = elim (cases_Bool (p k)) [ inl passes ↦ rw passes (omega (arith, prefix_twice ks)) | inr fails ↦ rw fails refl ]

any_same : (q x : List ℕ) (ys : List (List ℕ)) → same q x ≡ true → list_any (same q) ys ≡ list_any (same x) ys
any_same q x [] e = refl
any_same q x (y ∷ ys) e = rw ((eq_by_cmp_equiv nat_list_cmp_total).congr q x y e, any_same q x ys e) refl

either : (b c : Bool) → (b || c) ≡ true → (b ≡ true) ⊎ (c ≡ true)
either true c h = inl refl
either false c h = inr h

-- every one of the known keys at the start is a known key
front_here : (b : Bool) (k : List ℕ) (ks : List (List ℕ)) (q : List ℕ) → is_key k ≡ b → is_member same (cond b (k ∷ front is_key ks) []) q ≡ true
    → (is_member same (front is_key ks) q ≡ true → is_member same (map key_text all_keys) q ≡ true) → is_member same (map key_text all_keys) q ≡ true
front_here true k ks q known h later = elim (either (same q k) (is_member same (front is_key ks) q) h) [
  | inl tied ↦ any_same q k (map key_text all_keys) tied ∙ sym (known_member k all_keys) ∙ known
  | inr other ↦ later other
]
front_here false k ks q known h later = absurd (false≢true h)

front_known : (ks : List (List ℕ)) (q : List ℕ) → is_member same (front is_key ks) q ≡ true → is_member same (map key_text all_keys) q ≡ true
front_known [] q h = absurd (false≢true h)
front_known (k ∷ ks) q h = front_here (is_key k) k ks q refl h (front_known ks q)

few_known : (ks : List (List ℕ)) → IsStrictlySortedBy (slice_cmp nat_cmp) ks → prefix_len is_key ks ≤ 11
few_known ks sorted =
    let few : length (front is_key ks) ≤ 11 = length-le_from_is_member (eq_by_cmp_equiv nat_list_cmp_total) (front is_key ks) (map key_text all_keys) (front_distinct is_key ks (IsDistinct-from_sorted (slice_cmp nat_cmp) ks sorted)) (front_known ks) in
    omega (arith, few, length_front is_key ks)

if_placed : (b : Bool) (n : ℕ) → n ≤ 11 → IfSome (cond b (Some n) None) (λ m. m ≤ 11)
if_placed true n h = h
if_placed false n h = tt

-- the index of the first unknown key is at most eleven
pub few : (es : List Entry) → IsStrictlySortedBy string_cmp (entries.keys_of es) → IfSome (first_unknown (members_view es)) (λ n. n ≤ 11)
few es sorted = if_placed _ _ (omega (arith, few_known (keys_of (members_view es)) (ascending es sorted), prefix_twice is_key (keys_of (members_view es))))
