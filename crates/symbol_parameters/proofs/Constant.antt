-- What stays in a transmission, and spans without changes.
use Rattle.std.proofs.Common.{◌≡◌, ℕ, zero, suc, ◌+◌, ◌*◌, ◌/◌, ◌<◌, refl, sym, ap, ◌∙◌, arith, subst, IsTrue, Bool, true, false, ◌||◌, List, [], ◌∷◌, Some}
use Rattle.std.specs.Prelude.{nat_le, find, reverse, is_some, unwrap_or, if◌then◌else◌}
use Rattle.std.specs.List.{list_any}
use Rattle.std.proofs.lemmas.Bool.{true≢false}
use Rattle.std.proofs.lemmas.List.Sorted.{list_any-IsPermutation, IsPermutation-reverse}
use Rattle.mode_set.specs.Entries.{entry, has_lp, top, with_entry}
use Rattle.mode_set.specs.Plans.{entries_of}
use Rattle.mode_set.specs.declared.entry.Entry.{Entry}
use Rattle.mode_set.specs.StreamTable.{has_stream, need, payload, words_per_super_frame, steps_in_period, sent_in_period, rate}
use Rattle.mode_set.specs.declared.modes.Mode.{Mode}
use Rattle.mode_set.specs.declared.modes.Mode.TheVariants.{M2k, M8k}
use Rattle.mode_set.specs.declared.modes.Rate.{Rate}
use Rattle.mode_set.specs.declared.modes.Rate.TheVariants.{R1of2, R2of3, R3of4, R5of6, R7of8}
use Rattle.mode_set.specs.declared.modes.Hierarchy.{Hierarchy}
use Rattle.mode_set.specs.declared.modes.Hierarchy.TheVariants.{Flat, Alpha1, Alpha2, Alpha4}
use Rattle.mode_set.specs.declared.modes.Stream.{Stream}
use Rattle.mode_set.specs.declared.modes.Stream.TheVariants.{Hp, Lp}
use Rattle.mode_set.specs.declared.settings.Settings.{Settings}
use Rattle.symbol_parameters.specs.Spans.{settings_in, exists_in, steps_of, steps_before, words_in, words_before}
use Rattle.symbol_parameters.specs.Laws.{ModeStays, GuardStays, CellIdStays, StartStays, ParametersChange, HpExists, LpExists, StreamsExist, SettingsStay, ConstantStreams, ConstantSteps, StepsAreOfAStream, ConstantWords}
use Rattle.symbol_parameters.proofs.Adding.{no_steps, steps_of_one_more, no_words, words_of_one_more}

pub mode_stays : ModeStays
unfolding settings_in
mode_stays s j = refl

pub guard_stays : GuardStays
unfolding settings_in
guard_stays s j = refl

pub cell_id_stays : CellIdStays
unfolding settings_in
cell_id_stays s j = refl

pub start_stays : StartStays
unfolding settings_in
start_stays s j = refl

pub parameters_change : ParametersChange
unfolding settings_in
parameters_change s j = refl

pub hp_exists : HpExists
unfolding exists_in
hp_exists s = refl

pub lp_is_there : LpExists
unfolding exists_in
lp_is_there s = refl

or_true : (a b : Bool) → a ≡ true → (a || b) ≡ true
or_true true b e = refl
or_true false b e = absurd (true≢false (sym e))

pub streams_exist : StreamsExist
unfolding exists_in
streams_exist s Hp has = refl
streams_exist s Lp has = or_true (is_some s.rate_lp) (list_any (λ e. is_some e.rate_lp) (entries_of s.plan)) (s.kept.lp ∙ has)

-- without entries each super-frame has the settings' own parameters
pub settings_stay : SettingsStay
unfolding settings_in
settings_stay s j none = ap (λ (l : List Entry). with_entry s (unwrap_or (find (λ e. nat_le e.after j) (reverse l)) (top s))) none

-- ---- a stream with steps exists
no_bits : (m : Mode) (r : Rate) → payload m * 0 * steps_in_period r / sent_in_period r ≡ 0
no_bits M2k R1of2 = refl
no_bits M2k R2of3 = refl
no_bits M2k R3of4 = refl
no_bits M2k R5of6 = refl
no_bits M2k R7of8 = refl
no_bits M8k R1of2 = refl
no_bits M8k R2of3 = refl
no_bits M8k R3of4 = refl
no_bits M8k R5of6 = refl
no_bits M8k R7of8 = refl

lp_exists : (s : Settings) (h : Hierarchy) → s.hierarchy ≡ h → 0 < need s Lp → IsTrue (has_stream h Lp)
lp_exists s Alpha1 e l = refl
lp_exists s Alpha2 e l = refl
lp_exists s Alpha4 e l = refl
lp_exists s Flat e l =
    let none : need s Lp ≡ 0 = rw e (no_bits s.mode (rate s Lp)) in
    absurd (omega (arith, l, none))

exists : (s : Settings) (σ : Stream) → 0 < need s σ → IsTrue (has_stream s.hierarchy σ)
exists s Hp l = refl
exists s Lp l = lp_exists s s.hierarchy refl l

or_right : (a b : Bool) → b ≡ true → (a || b) ≡ true
or_right true b e = refl
or_right false b e = e

or_false : (a : Bool) → (a || false) ≡ a
or_false true = refl
or_false false = refl

-- one more in the middle
more : (a b c : Bool) → (a || c) ≡ true → (a || (b || c)) ≡ true
more true b c e = refl
more false b c e = or_right b c e

-- an element found in a list is one of its elements
found : {X : Type 0} (p q : X → Bool) (l : List X) (d : X) → q (unwrap_or (find p l) d) ≡ true → (q d || list_any q l) ≡ true
found p q [] d e = or_true (q d) false e
found p q (x ∷ l) d e = go (p x) (q x) refl refl (found p q l d)
  where
    go : (b c : Bool) → p x ≡ b → q x ≡ c → (q (unwrap_or (find p l) d) ≡ true → (q d || list_any q l) ≡ true) → (q d || list_any q (x ∷ l)) ≡ true
    go true c at is rest = or_right (q d) (list_any q (x ∷ l)) (or_true (q x) (list_any q l) (ap (λ (z : Bool). q (unwrap_or (if z then Some x else find p l) d)) (sym at) ∙ e))
    go false c at is rest = more (q d) (q x) (list_any q l) (rest (ap (λ (z : Bool). q (unwrap_or (if z then Some x else find p l) d)) (sym at) ∙ e))

lp_of_an_entry : (s : Settings) (j : ℕ) → is_some (entry s j).rate_lp ≡ true → has_lp s ≡ true
lp_of_an_entry s j e =
    let lp = λ (x : Entry). is_some x.rate_lp in
    let l = entries_of s.plan in
    subst (λ (z : Bool). (is_some s.rate_lp || z) ≡ true) (sym (list_any-IsPermutation lp l (reverse l) (IsPermutation-reverse l))) (found (λ x. nat_le x.after j) lp (reverse l) (top s) e)

pub steps_are_of_a_stream : StepsAreOfAStream
unfolding settings_in exists_in
steps_are_of_a_stream s Hp j l = record { here = refl; whole = refl }
steps_are_of_a_stream s Lp j l =
    let there = exists (with_entry s (entry s j)) Lp l in
    record { here = there; whole = lp_of_an_entry s j ((entry s j).kept.lp ∙ there) }

-- ---- without changes
pub constant_streams : ConstantStreams
unfolding exists_in
constant_streams s Hp none = refl
constant_streams s Lp none = ap (λ (l : List Entry). is_some s.rate_lp || list_any (λ e. is_some e.rate_lp) l) none ∙ or_false (is_some s.rate_lp) ∙ s.kept.lp

pub constant_steps : ConstantSteps
constant_steps s σ zero same = let none = no_steps s σ in let zero_of : 0 * need s σ ≡ 0 = omega arith in omega (arith, none, zero_of)
constant_steps s σ (suc m) same =
    let next : suc m ≡ m + 1 = omega arith in
    let one = ap (steps_before s σ) next ∙ steps_of_one_more s σ m in
    let here : steps_of s σ m ≡ need s σ = ap (λ (z : Settings). need z σ) (same (m / 272)) in
    let rest = constant_steps s σ m same in
    let product : suc m * need s σ ≡ m * need s σ + need s σ = omega arith in
    omega (arith, one, here, rest, product)

pub constant_words : ConstantWords
constant_words s σ zero same = let none = no_words s σ in let zero_of : 0 * words_per_super_frame s σ ≡ 0 = omega arith in omega (arith, none, zero_of)
constant_words s σ (suc n) same =
    let next : suc n ≡ n + 1 = omega arith in
    let one = ap (words_before s σ) next ∙ words_of_one_more s σ n in
    let here : words_in s σ n ≡ words_per_super_frame s σ = ap (λ (z : Settings). words_per_super_frame z σ) (same n) in
    let rest = constant_words s σ n same in
    let product : suc n * words_per_super_frame s σ ≡ n * words_per_super_frame s σ + words_per_super_frame s σ = omega arith in
    omega (arith, one, here, rest, product)
