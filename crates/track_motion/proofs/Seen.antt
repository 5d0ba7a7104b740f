-- Whether the motion is measured, by the five symbols' flags.
use Rattle.std.proofs.Common.{◌≡◌, ℕ, ◌+◌, ◌-◌, ◌<◌, ◌≤◌, List, [], ◌∷◌, Bool, true, false, not, nat_le, nat_lt, refl, ap, sym, ◌∙◌, arith}
use Rattle.std.specs.Prelude.{◌&&◌, ◌||◌}
use Rattle.std.specs.List.{list_any}
use Rattle.tracking.specs.BadSymbols.{is_bad}
use Rattle.tracking.specs.Comb.{Comb}
use Rattle.tracking.specs.InTime.{is_there, is_good, symbol_at}
use Rattle.tracking.specs.Moving.{is_seen}
use Rattle.track_motion.specs.Places.{first_place, end_place, in_file}
use Rattle.track_motion.proofs.Tests.{le_of, le_to, lt_of, lt_to, both_of, both_to, place_of, place_to, there_is}

abbrev pub five : Bool → Bool → Bool → Bool → Bool → Bool
five a b c d e = (((a && b) && c) && d) && e

abbrev any : Bool → Bool → Bool → Bool → Bool → Bool
any a b c d e = a || (b || (c || (d || (e || false))))

none_bad : (a b c d e : Bool) → five (not a) (not b) (not c) (not d) (not e) ≡ not (any a b c d e)
none_bad true b c d e = refl
none_bad false true c d e = refl
none_bad false false true d e = refl
none_bad false false false true e = refl
none_bad false false false false true = refl
none_bad false false false false false = refl

pub first_of : (a b c d e : Bool) → five a b c d e ≡ true → a ≡ true
first_of true b c d e h = refl
first_of false b c d e h = absurd (grind (arith, h))

pub last_of : (a b c d e : Bool) → five a b c d e ≡ true → e ≡ true
last_of a b c d e h = (both_of (((a && b) && c) && d) e h).1

not_first : (a b c d e : Bool) → (a ≡ true → e ≡ true → ⊥) → five a b c d e ≡ false
not_first a b c d e h = by (five a b c d e) refl
  where
    by : (x : Bool) → five a b c d e ≡ x → five a b c d e ≡ false
    by true f = absurd (h (first_of a b c d e f) (last_of a b c d e f))
    by false f = f

module _ (c : Comb) (m : ℕ) (some : m < c.count) where
  fits : Bool
  fits = nat_le 6 m && nat_lt (m + 6) c.count

  good_is : (p t : ℕ) → 6 ≤ m → m + 6 < c.count → 1 ≤ p → p ≤ 13 → t ≡ symbol_at m p → is_good c m p ≡ not (is_bad c m t)
  good_is p t h k lo hi e =
      let place = place_to c.count m p (omega (arith, h, lo)) (omega (arith, k, hi)) in
      ap (λ (z : Bool). z && not (is_bad c m (symbol_at m p))) (there_is c m p some ∙ place) ∙ ap (λ (z : ℕ). not (is_bad c m z)) (sym e)

  there_first : is_good c m 1 ≡ true → 6 ≤ m
  there_first e =
      let h = place_of c.count m 1 (sym (there_is c m 1 some) ∙ (both_of (is_there c m 1) (not (is_bad c m (symbol_at m 1))) e).0) in
      omega (arith, h.first)

  there_last : is_good c m 13 ≡ true → m + 6 < c.count
  there_last e =
      let h = place_of c.count m 13 (sym (there_is c m 13 some) ∙ (both_of (is_there c m 13) (not (is_bad c m (symbol_at m 13))) e).0) in
      omega (arith, h.last, some)

  by_fit : (x : Bool) → (nat_le 6 m && nat_lt (m + 6) c.count) ≡ x → five (is_good c m 1) (is_good c m 5) (is_good c m 7) (is_good c m 9) (is_good c m 13) ≡ (x && not (list_any (is_bad c m) ((m - 6) ∷ (m - 2) ∷ m ∷ (m + 2) ∷ (m + 6) ∷ [])))
  by_fit true e =
      let both = both_of (nat_le 6 m) (nat_lt (m + 6) c.count) e in
      let h : 6 ≤ m = le_of 6 m both.0 in
      let k : m + 6 < c.count = lt_of (m + 6) c.count both.1 in
      ap (λ (z : Bool). five z (is_good c m 5) (is_good c m 7) (is_good c m 9) (is_good c m 13)) (good_is 1 (m - 6) h k (omega arith) (omega arith) (omega arith))
      ∙ ap (λ (z : Bool). five (not (is_bad c m (m - 6))) z (is_good c m 7) (is_good c m 9) (is_good c m 13)) (good_is 5 (m - 2) h k (omega arith) (omega arith) (omega arith))
      ∙ ap (λ (z : Bool). five (not (is_bad c m (m - 6))) (not (is_bad c m (m - 2))) z (is_good c m 9) (is_good c m 13)) (good_is 7 m h k (omega arith) (omega arith) (omega arith))
      ∙ ap (λ (z : Bool). five (not (is_bad c m (m - 6))) (not (is_bad c m (m - 2))) (not (is_bad c m m)) z (is_good c m 13)) (good_is 9 (m + 2) h k (omega arith) (omega arith) (omega arith))
      ∙ ap (five (not (is_bad c m (m - 6))) (not (is_bad c m (m - 2))) (not (is_bad c m m)) (not (is_bad c m (m + 2)))) (good_is 13 (m + 6) h k (omega arith) (omega arith) (omega arith))
      ∙ none_bad (is_bad c m (m - 6)) (is_bad c m (m - 2)) (is_bad c m m) (is_bad c m (m + 2)) (is_bad c m (m + 6))
  by_fit false e =
      not_first (is_good c m 1) (is_good c m 5) (is_good c m 7) (is_good c m 9) (is_good c m 13)
      (λ f l. let h = there_first f in let k = there_last l in absurd (grind (arith, e, both_to (nat_le 6 m) (nat_lt (m + 6) c.count) (le_to 6 m h) (lt_to (m + 6) c.count k))))

  pub seen_is : five (is_good c m 1) (is_good c m 5) (is_good c m 7) (is_good c m 9) (is_good c m 13) ≡ is_seen c m
  unfolding is_seen
  seen_is = by_fit (nat_le 6 m && nat_lt (m + 6) c.count) refl
