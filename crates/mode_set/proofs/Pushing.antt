-- A plan with one entry more.
use Rattle.std.specs.Prelude.{find, nat_le, None}
use Rattle.std.proofs.Common.{◌≡◌, reverse, ℕ, suc, ◌+◌, ◌-◌, ◌<◌, ◌≤◌, nat_lt, Bool, true, false, ◌&&◌, IsTrue, List, [], ◌∷◌, ◌++◌, length, take, set, replicate, refl, sym, ap, ◌∙◌, arith}
use Rattle.std.specs.List.{list_all}
use Rattle.std.proofs.lemmas.Bool.{false≢true, ltb-true, lt-ltb, lt-leb}
use Rattle.std.proofs.lemmas.List.{length-take-le, length-set, reverse-append}
use Rattle.std.proofs.lemmas.List.Folds.{list_all-append, find-append}
use Rattle.mode_set.specs.declared.entry.Entry.{Entry}
use Rattle.mode_set.specs.KeptBy.{take_front}
use Rattle.mode_set.specs.PlanList.{filler, filled, IsFilled, is_rising}

pub both : (b c : Bool) → IsTrue (b && c) → IsTrue b × IsTrue c
both true c h = (refl, h)
both false c h = absurd (false≢true h)

pub and_also : (b c : Bool) → IsTrue b → IsTrue c → IsTrue (b && c)
and_also true c h k = k
and_also false c h k = h

-- no number is 0
not_last : (l : List Entry) (e : Entry) → find (λ f. nat_le f.after 0) l ≡ None → IsTrue (nat_lt 0 e.after) → find (λ f. nat_le f.after 0) (l ++ e ∷ []) ≡ None
not_last l e none late = find-append (λ f. nat_le f.after 0) l (e ∷ []) ∙ rw none (rw (lt-leb e.after 0 (ltb-true 0 e.after late)) refl)

pub none_at_first : (l : List Entry) → IsTrue (is_rising l) → find (λ e. nat_le e.after 0) (reverse l) ≡ None
none_at_first [] r = refl
none_at_first (x ∷ l) r =
    let parts : IsTrue (nat_lt 0 x.after && list_all (λ f. nat_lt x.after f.after) l) × IsTrue (is_rising l) = both _ _ r in
    let first : IsTrue (nat_lt 0 x.after) × IsTrue (list_all (λ f. nat_lt x.after f.after) l) = both _ _ parts.0 in
    ap (find (λ e. nat_le e.after 0)) (reverse-append (x ∷ []) l) ∙ not_last (reverse l) x (none_at_first l parts.1) first.0

pub positive : (n : ℕ) → (n ≡ 0 → ⊥) → IsTrue (nat_lt 0 n)
positive n other = lt-ltb 0 n (omega (arith, other))

-- a count that is not 16 leaves room
pub below : (n : ℕ) → n ≤ 16 → (n ≡ 16 → ⊥) → n < 16
below n few other = omega (arith, few, other)

-- the first padding entry is replaced
set_behind : (l : List Entry) (k : ℕ) (e : Entry) → set (l ++ replicate (suc k) filler) (length l) e ≡ (l ++ e ∷ []) ++ replicate k filler
set_behind [] k e = refl
set_behind (x ∷ l) k e = ap (λ (xs : List Entry). x ∷ xs) (set_behind l k e)

length_end : (l : List Entry) (e : Entry) → length (l ++ e ∷ []) ≡ length l + 1
length_end [] e = refl
length_end (x ∷ l) e = let r = length_end l e in omega (arith, r)

-- a number above 0 and above all of a rising list
rising_end : (l : List Entry) (e : Entry) → IsTrue (is_rising l) → IsTrue (nat_lt 0 e.after) → IsTrue (list_all (λ f. nat_lt f.after e.after) l) → IsTrue (is_rising (l ++ e ∷ []))
rising_end [] e r z a = and_also _ _ (and_also _ _ z refl) refl
rising_end (x ∷ l) e r z a =
    let parts : IsTrue (nat_lt 0 x.after && list_all (λ f. nat_lt x.after f.after) l) × IsTrue (is_rising l) = both _ _ r in
    let up : IsTrue (nat_lt 0 x.after) × IsTrue (list_all (λ f. nat_lt x.after f.after) l) = both _ _ parts.0 in
    let here : IsTrue (nat_lt x.after e.after) × IsTrue (list_all (λ f. nat_lt f.after e.after) l) = both _ _ a in
    let ends : IsTrue (list_all (λ f. nat_lt x.after f.after) (l ++ e ∷ [])) = list_all-append (λ f. nat_lt x.after f.after) l (e ∷ []) ∙ and_also _ _ up.1 (and_also _ _ here.0 refl) in
    and_also _ _ (and_also _ _ up.0 ends) (rising_end l e parts.1 z here.1)

module _ (count : ℕ) (entries : List Entry) (e : Entry) (h : IsFilled count entries) (less : count < 16) where
  abbrev l : List Entry
  l = take count entries

  abbrev k : ℕ
  k = 16 - (count + 1)

  n : length l ≡ count
  n = length-take-le count entries (let a = h.long in omega (arith, less, a))

  room : 16 - length l ≡ suc k
  room = omega (arith, n, less)

  is : set entries count e ≡ (l ++ e ∷ []) ++ replicate k filler
  is =
      ap (λ (xs : List Entry). set xs count e) h.rest
      ∙ ap (λ (z : ℕ). set (l ++ replicate z filler) count e) room
      ∙ ap (λ (z : ℕ). set (l ++ replicate (suc k) filler) z e) (sym n)
      ∙ set_behind l k e

  longer : length (l ++ e ∷ []) ≡ count + 1
  longer = length_end l e ∙ ap (λ (z : ℕ). z + 1) n

  pub pushed_list : take (count + 1) (set entries count e) ≡ take count entries ++ e ∷ []
  pushed_list = ap (take (count + 1)) is ∙ ap (λ (z : ℕ). take z ((l ++ e ∷ []) ++ replicate k filler)) (sym longer) ∙ take_front (l ++ e ∷ []) (replicate k filler)

  pub pushed : IsTrue (nat_lt 0 e.after) → IsTrue (list_all (λ f. nat_lt f.after e.after) (take count entries)) → IsFilled (count + 1) (set entries count e)
  pushed late above = record {
    few = omega (arith, less);
    long = length-set entries count e ∙ h.long;
    rest = is ∙ ap (λ (z : ℕ). (l ++ e ∷ []) ++ replicate z filler) (let r : k ≡ 16 - length (l ++ e ∷ []) = omega (arith, longer) in r) ∙ ap filled (sym pushed_list);
    rising = ap is_rising pushed_list ∙ rising_end l e h.rising late above;
  }
