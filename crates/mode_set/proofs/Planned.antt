-- The plan of an array's entries, one after another.
use Rattle.std.proofs.Common.{◌≡◌, ℕ, ◌+◌, ◌<◌, ◌≤◌, nat_lt, Bool, true, false, ◌&&◌, IsTrue, List, [], ◌∷◌, ◌++◌, ◌-◌, length, take, drop, get_or, replicate, Option, Some, None, Result, Ok, Err, refl, sym, ap, ◌∙◌, subst, inl, inr, Global, arith, length-append}
use Rattle.std.specs.Prelude.{Vec, nat_le, is_some, option_map, option_and_then, unwrap_or}
use Rattle.std.specs.Result.{result_ok}
use Rattle.std.specs.Coded.{coded_list}
use Rattle.std.specs.List.{list_all}
use Rattle.std.proofs.lemmas.Bool.{cases_Bool, false≢true, leb-true, le-leb, lt-ltb}
use Rattle.std.proofs.lemmas.List.{length-take-le, take_more, take_all, take-append-drop, append_assoc}
use Rattle.std.proofs.lemmas.List.Folds.{list_all-append}
use Rattle.toml.specs.Data.{Data, Items, Members, as_array, as_table}
use Rattle.toml.specs.View.{view, items_view, array_view}
use Rattle.toml.specs.declared.value.Value.{Value}
use Rattle.mode_set.specs.AtKeys.{shape_in, hierarchy_in, rate_hp_in, rate_lp_in}
use Rattle.mode_set.specs.Kept.{IsKeptEntry, fit_together}
use Rattle.mode_set.specs.KeptBy.{take_front, kept_together, kept_plan}
use Rattle.mode_set.specs.PlanKey.{after_in, has_entry_keys, entry_if, entry_in, entries_in, some_plan, a_plan, with_first}
use Rattle.mode_set.specs.PlanList.{is_plan, is_rising, may_follow, filler, filled, IsFilled}
use Rattle.mode_set.specs.Plans.{entries_of, no_plan, plan_if, plan_of}
use Rattle.mode_set.specs.declared.entry.Entry.{Entry}
use Rattle.mode_set.specs.declared.plan.Plan.{Plan}
use Rattle.mode_set.specs.contracts.entry.Entry as entry_row
use Rattle.mode_set.specs.declared.modes.Shape.{Shape}
use Rattle.mode_set.specs.declared.modes.Hierarchy.{Hierarchy}
use Rattle.mode_set.specs.declared.modes.Rate.{Rate}
use Rattle.mode_set.proofs.Keeping.{entry_prop}
use Rattle.mode_set.proofs.Pushing.{both, and_also}
use denote.Ref.{Bor}
use denote.Struct.Props.{props, ≡_prop}

-- the invariant of plans has at most one proof
filled_prop : (count : ℕ) (entries : List Entry) → IsProp (IsFilled count entries)
filled_prop count entries x y =
    let few_prop : IsProp (count ≤ 16) = hlevel props in
    let long_prop : IsProp (length entries ≡ 16) = hlevel props in
    let rest_prop : IsProp (entries ≡ filled (take count entries)) = ≡_prop (coded_list entry_row.the_row.coded) _ _ in
    let rising_prop : IsProp (is_rising (take count entries) ≡ true) = hlevel props in
    λ i. record { few = few_prop x.few y.few i; long = long_prop x.long y.long i; rest = rest_prop x.rest y.rest i; rising = rising_prop x.rising y.rising i }

abbrev made : (count : ℕ) (entries : List Entry) → IsFilled count entries → Plan
made count entries kept = record { entries = entries; count = count; kept = kept }

-- plans with equal parts are equal
alike : (n : ℕ) (xs : List Entry) (h : IsFilled n xs) (count : ℕ) → n ≡ count → (entries : List Entry) → xs ≡ entries → (kept : IsFilled count entries) → made n xs h ≡ made count entries kept
alike n xs h count c = subst (λ (k : ℕ). (entries : List Entry) → xs ≡ entries → (kept : IsFilled k entries) → made n xs h ≡ made k entries kept) c
    (λ entries e. subst (λ (ys : List Entry). (kept : IsFilled n ys) → made n xs h ≡ made n ys kept) e (λ kept. ap (made n xs) (filled_prop n xs h kept)))

length_is : (p : Plan) → length (entries_of p) ≡ p.count
length_is p = length-take-le p.count p.entries (let a = p.kept.few in let b = p.kept.long in omega (arith, a, b))

is_plan_of : (p : Plan) → is_plan (entries_of p) ≡ true
is_plan_of p = and_also _ _ (le-leb (length (entries_of p)) 16 (let a = length_is p in let b = p.kept.few in omega (arith, a, b))) p.kept.rising

given_back : (p : Plan) (fits : Bool) (kept : fits ≡ true → IsFilled (length (entries_of p)) (filled (entries_of p))) → fits ≡ true → plan_if (entries_of p) fits kept ≡ Some p
given_back p true kept e = ap Some (alike _ _ (kept refl) p.count (length_is p) p.entries (sym p.kept.rest) p.kept)
given_back p false kept e = absurd (false≢true e)

-- a plan is that of its entries
pub plan_back : (p : Plan) → plan_of (entries_of p) ≡ Some p
plan_back p = given_back p (is_plan (entries_of p)) _ (is_plan_of p)

no_plan_if : (es : List Entry) (fits : Bool) (kept : fits ≡ true → IsFilled (length es) (filled es)) → fits ≡ false → plan_if es fits kept ≡ None
no_plan_if es true kept e = absurd (false≢true (sym e))
no_plan_if es false kept e = refl

-- in a rising list an entry may follow those before it
rising_parts : (l : List Entry) (e : Entry) (r : List Entry) → IsTrue (is_rising (l ++ e ∷ r)) → IsTrue (nat_lt 0 e.after) × IsTrue (list_all (λ f. nat_lt f.after e.after) l)
rising_parts [] e r h = ((both _ _ (both _ _ h).0).0, refl)
rising_parts (x ∷ l) e r h =
    let parts = both (nat_lt 0 x.after && list_all (λ f. nat_lt x.after f.after) (l ++ e ∷ r)) (is_rising (l ++ e ∷ r)) h in
    let first = both (nat_lt 0 x.after) (list_all (λ f. nat_lt x.after f.after) (l ++ e ∷ r)) parts.0 in
    let up = both (list_all (λ f. nat_lt x.after f.after) l) (nat_lt x.after e.after && list_all (λ f. nat_lt x.after f.after) r) (sym (list_all-append (λ f. nat_lt x.after f.after) l (e ∷ r)) ∙ first.1) in
    let here = both (nat_lt x.after e.after) (list_all (λ f. nat_lt x.after f.after) r) up.1 in
    let later = rising_parts l e r parts.1 in
    (later.0, and_also _ _ here.0 later.1)

follows : (l : List Entry) (e : Entry) (r : List Entry) → is_plan (l ++ e ∷ r) ≡ true → may_follow l e ≡ true
follows l e r h =
    let parts = both (nat_le (length (l ++ e ∷ r)) 16) (is_rising (l ++ e ∷ r)) h in
    let rising = rising_parts l e r parts.1 in
    let few = leb-true (length (l ++ e ∷ r)) 16 parts.0 in
    let room : length l < 16 = (let a = length-append l (e ∷ r) in omega (arith, a, few)) in
    and_also _ _ (and_also _ _ (lt-ltb (length l) 16 room) rising.0) rising.1

refused : (l : List Entry) (e : Entry) (r : List Entry) → may_follow l e ≡ false → plan_of (l ++ e ∷ r) ≡ None
refused l e r h = elim (cases_Bool (is_plan (l ++ e ∷ r))) [
  | inl fits ↦ absurd (false≢true (sym h ∙ follows l e r fits))
  | inr other ↦ no_plan_if (l ++ e ∷ r) (is_plan (l ++ e ∷ r)) _ other
]

abbrev entry_at : Value → Option Entry
entry_at v = option_and_then entry_in (as_table (view v))

same_list : (xs ys : List Entry) → Some xs ≡ Some ys → xs ≡ ys
same_list xs ys e = ap (λ (o : Option (List Entry)). unwrap_or o []) e

with_more : (o : Option Entry) (front all more : Option (List Entry)) (l : List Entry) → with_first o front ≡ Some l
    → ((m : List Entry) → front ≡ Some m → all ≡ option_map (λ k. m ++ k) more) → with_first o all ≡ option_map (λ k. l ++ k) more
with_more (Some e) (Some m) all more l is rest = ap (with_first (Some e)) (rest m refl) ∙ go more ∙ ap (λ (xs : List Entry). option_map (λ k. xs ++ k) more) (same_list (e ∷ m) l is)
  where
    go : (more : Option (List Entry)) → with_first (Some e) (option_map (λ k. m ++ k) more) ≡ option_map (λ k. (e ∷ m) ++ k) more
    go None = refl
    go (Some k) = refl
with_more (Some e) None all more l is rest = absurd (false≢true (ap is_some is))
with_more None (Some m) all more l is rest = absurd (false≢true (ap is_some is))
with_more None None all more l is rest = absurd (false≢true (ap is_some is))

unchanged : (o : Option (List Entry)) → o ≡ option_map (λ k. k) o
unchanged None = refl
unchanged (Some k) = refl

-- the entries of more values after some
further : (xs ys : List Value) (l : List Entry) → entries_in (items_view xs) ≡ Some l → entries_in (items_view (xs ++ ys)) ≡ option_map (λ k. l ++ k) (entries_in (items_view ys))
further [] ys l e = unchanged (entries_in (items_view ys)) ∙ ap (λ (m : List Entry). option_map (λ k. m ++ k) (entries_in (items_view ys))) (same_list [] l e)
further (x ∷ xs) ys l e = with_more (entry_at x) (entries_in (items_view xs)) (entries_in (items_view (xs ++ ys))) (entries_in (items_view ys)) l e (λ m. further xs ys m)

-- one more value that is an entry
pub one_more : (xs : List Value) (v : Value) (l : List Entry) (e : Entry) → entries_in (items_view xs) ≡ Some l → entry_at v ≡ Some e → entries_in (items_view (xs ++ v ∷ [])) ≡ Some (l ++ e ∷ [])
one_more xs v l e is one = further xs (v ∷ []) l is ∙ ap (λ (o : Option Entry). option_map (λ k. l ++ k) (with_first o (Some []))) one

-- one value that is not
pub no_entry : (xs : List Value) (v : Value) (ys : List Value) (l : List Entry) → entries_in (items_view xs) ≡ Some l → entry_at v ≡ None → option_and_then plan_of (entries_in (items_view (xs ++ v ∷ ys))) ≡ None
no_entry xs v ys l is none = ap (option_and_then plan_of) (further xs (v ∷ ys) l is ∙ ap (λ (o : Option Entry). option_map (λ k. l ++ k) (with_first o (entries_in (items_view ys)))) none)

-- one that must not follow
pub not_following : (xs : List Value) (v : Value) (ys : List Value) (l : List Entry) (e : Entry) → entries_in (items_view xs) ≡ Some l → entry_at v ≡ Some e → may_follow l e ≡ false
    → option_and_then plan_of (entries_in (items_view (xs ++ v ∷ ys))) ≡ None
not_following xs v ys l e is one late =
    ap (option_and_then plan_of) (further xs (v ∷ ys) l is ∙ ap (λ (o : Option Entry). option_map (λ k. l ++ k) (with_first o (entries_in (items_view ys)))) one)
    ∙ go (entries_in (items_view ys))
  where
    go : (more : Option (List Entry)) → option_and_then plan_of (option_map (λ k. l ++ k) (with_first (Some e) more)) ≡ None
    go None = refl
    go (Some k) = refused l e k late

-- the values before an index, the one there, and those after it
module _ (vs : List Value) (i : ℕ) (v : Value) (within : i < length vs) (is : v ≡ get_or vs i v) (l : List Entry) (before : entries_in (items_view (take i vs)) ≡ Some l) where
  next : take (i + 1) vs ≡ take i vs ++ v ∷ []
  next = take_more vs i v within ∙ ap (λ (x : Value). take i vs ++ x ∷ []) (sym is)

  parts : take i vs ++ v ∷ drop (i + 1) vs ≡ vs
  parts = sym (append_assoc (take i vs) (v ∷ []) (drop (i + 1) vs)) ∙ ap (λ (xs : List Value). xs ++ drop (i + 1) vs) (sym next) ∙ take-append-drop (i + 1) vs

  pub entry_is : (e : Entry) → entry_at v ≡ Some e → entries_in (items_view (take (i + 1) vs)) ≡ Some (l ++ e ∷ [])
  entry_is e one = ap (λ (xs : List Value). entries_in (items_view xs)) next ∙ one_more (take i vs) v l e before one

  pub none_is : entry_at v ≡ None → option_and_then plan_of (entries_in (items_view vs)) ≡ None
  none_is none = ap (λ (xs : List Value). option_and_then plan_of (entries_in (items_view xs))) (sym parts) ∙ no_entry (take i vs) v (drop (i + 1) vs) l before none

  pub late_is : (e : Entry) → entry_at v ≡ Some e → may_follow l e ≡ false → option_and_then plan_of (entries_in (items_view vs)) ≡ None
  late_is e one late = ap (λ (xs : List Value). option_and_then plan_of (entries_in (items_view xs))) (sym parts) ∙ not_following (take i vs) v (drop (i + 1) vs) l e before one late

pub all_are : (vs : List Value) (i : ℕ) (p : Plan) → length vs ≤ i → entries_in (items_view (take i vs)) ≡ Some (entries_of p) → Some p ≡ option_and_then plan_of (entries_in (items_view vs))
all_are vs i p past is = sym (ap (λ (xs : List Value). option_and_then plan_of (entries_in (items_view xs))) (sym (take_all i vs past)) ∙ ap (option_and_then plan_of) is ∙ plan_back p)

-- a plan has the entries that it was made from
entries_if : (es : List Entry) (fits : Bool) (kept : fits ≡ true → IsFilled (length es) (filled es)) (p : Plan) → plan_if es fits kept ≡ Some p → entries_of p ≡ es
entries_if es true kept p is = sym (ap (λ (o : Option Plan). entries_of (unwrap_or o no_plan)) is) ∙ take_front es (replicate (16 - length es) filler)
entries_if es false kept p is = absurd (false≢true (ap is_some is))

-- a stated plan has at least one entry
pub some_is : (o : Option (List Entry)) (p : Plan) → option_and_then plan_of o ≡ Some p → (length (entries_of p) ≡ 0 → ⊥) → Some p ≡ option_and_then some_plan o
some_is None p is some = absurd (false≢true (ap is_some is))
some_is (Some []) p is some = absurd (some (ap length (entries_if [] (is_plan []) (kept_plan []) p is)))
some_is (Some (e ∷ es)) p is some = sym is

pub empty_is : (o : Option (List Entry)) (p : Plan) → option_and_then plan_of o ≡ Some p → length (entries_of p) ≡ 0 → None ≡ option_and_then some_plan o
empty_is None p is none = refl
empty_is (Some []) p is none = refl
empty_is (Some (e ∷ es)) p is none = let n = ap length (entries_if (e ∷ es) (is_plan (e ∷ es)) (kept_plan (e ∷ es)) p is) in absurd (omega (arith, n, none))

pub no_plan_is : (o : Option (List Entry)) → option_and_then plan_of o ≡ None → None ≡ option_and_then some_plan o
no_plan_is None is = refl
no_plan_is (Some []) is = refl
no_plan_is (Some (e ∷ es)) is = sym is

-- an entry of values that fit one another
made_entry : (after : ℕ) (shape : Shape) (hierarchy : Hierarchy) (rate_hp : Rate) (rate_lp : Option Rate) (kept : IsKeptEntry shape hierarchy rate_lp) (fits : Bool) (k : fits ≡ true → IsKeptEntry shape hierarchy rate_lp) → fits ≡ true
    → Some (record { after = after; shape = shape; hierarchy = hierarchy; rate_hp = rate_hp; rate_lp = rate_lp; kept = kept }) ≡ entry_if after shape hierarchy rate_hp rate_lp fits k
made_entry after shape hierarchy rate_hp rate_lp kept true k e =
    λ i. Some (record { after = after; shape = shape; hierarchy = hierarchy; rate_hp = rate_hp; rate_lp = rate_lp; kept = entry_prop shape hierarchy rate_lp kept (k refl) i })
made_entry after shape hierarchy rate_hp rate_lp kept false k e = absurd (false≢true e)

pub entry_made : (ms : Members) (after : ℕ) (shape : Shape) (hierarchy : Hierarchy) (rate_hp : Rate) (rate_lp : Option Rate) (kept : IsKeptEntry shape hierarchy rate_lp) → has_entry_keys ms ≡ true
    → after_in ms ≡ Some after → shape_in ms ≡ Ok shape → hierarchy_in ms ≡ Ok hierarchy → rate_hp_in ms ≡ Ok rate_hp → rate_lp_in ms ≡ Ok rate_lp → fit_together shape hierarchy rate_lp ≡ true
    → Some (record { after = after; shape = shape; hierarchy = hierarchy; rate_hp = rate_hp; rate_lp = rate_lp; kept = kept }) ≡ entry_in ms
entry_made ms after shape hierarchy rate_hp rate_lp kept keys a s h p q fits =
    rw keys (rw a (rw s (rw h (rw p (rw q (made_entry after shape hierarchy rate_hp rate_lp kept (fit_together shape hierarchy rate_lp) (kept_together shape hierarchy rate_lp) fits))))))

pub ok_is : {A E : Type 0} (r : Result A E) (v : A) → result_ok r ≡ Some v → r ≡ Ok v
ok_is (Ok x) v e = ap (λ o. Ok (unwrap_or o v)) e
ok_is (Err x) v e = absurd (false≢true (ap is_some e))

-- the array of a value
pub array_is : (d : Data) (r : Option (Bor (Vec Value Global))) (v : Bor (Vec Value Global)) (xs : List Value) → option_map (λ x. array_view x.now) r ≡ as_array d → r ≡ Some v → xs ≡ v.now.items → as_array d ≡ Some (items_view xs)
array_is d r v xs seen is items = sym seen ∙ ap (option_map (λ x. array_view x.now)) is ∙ ap (λ (ys : List Value). Some (items_view ys)) (sym items)

pub of_array : (d : Data) (ds : Items) (o : Option Plan) → as_array d ≡ Some ds → o ≡ option_and_then some_plan (entries_in ds) → o ≡ a_plan d
of_array d ds o is e = e ∙ sym (ap (option_and_then (λ es. option_and_then some_plan (entries_in es))) is)
