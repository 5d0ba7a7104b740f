-- The flags of the places.
use Rattle.std.proofs.Common.{◌≡◌, ℕ, ◌+◌, ◌*◌, ◌<◌, ◌≤◌, List, Bool, false, true, not, nat_le, nat_lt, get_or, refl, ap, sym, ◌∙◌, arith}
use Rattle.std.specs.Prelude.{◌&&◌}
use Rattle.std.proofs.lemmas.Bool.Decides.{nat_tests}
use Rattle.tracking.specs.BadSymbols.{is_bad, lesser_change, middle}
use Rattle.tracking.specs.Comb.{Comb}
use Rattle.tracking.specs.InTime.{is_good, is_there, symbol_at}
use Rattle.track_motion.specs.Places.{in_file, first_place, end_place, HasLesser}
use Rattle.track_motion.proofs.Tests.{there_is, place_of}

pub same_file : (c : Comb) (m p first end : ℕ) → first ≡ first_place m → end ≡ end_place c.count m → m < c.count → (nat_le first p && nat_lt p end) ≡ is_there c m p
same_file c m p first end ef ee some = ap (λ (z : ℕ). nat_le z p && nat_lt p end) ef ∙ ap (λ (z : ℕ). nat_le (first_place m) p && nat_lt p z) ee ∙ sym (there_is c m p some)

not_above : (x y : ℕ) → nat_le x y ≡ not (nat_lt y x)
not_above x y = grind (arith, nat_tests)

bad_is : (c : Comb) (m t x mid : ℕ) → x ≡ lesser_change c m t → mid ≡ middle c m → nat_le x (4 * mid) ≡ not (is_bad c m t)
unfolding is_bad
bad_is c m t x mid ex em = ap (λ (z : ℕ). nat_le z (4 * mid)) ex ∙ ap (λ (z : ℕ). nat_le (lesser_change c m t) (4 * z)) em ∙ not_above (lesser_change c m t) (4 * middle c m)

when : (x y z : Bool) → (x ≡ true → y ≡ z) → (x && y) ≡ (x && z)
when true y z h = h refl
when false y z h = refl

pub good_is : (c : Comb) (m p first end : ℕ) (lesser : List ℕ) (mid : ℕ) → first ≡ first_place m → end ≡ end_place c.count m → m < c.count → HasLesser c m lesser → mid ≡ middle c m
    → ((nat_le first p && nat_lt p end) && nat_le (get_or lesser p 0) (4 * mid)) ≡ is_good c m p
good_is c m p first end lesser mid ef ee some has em =
    ap (λ (z : Bool). z && nat_le (get_or lesser p 0) (4 * mid)) (same_file c m p first end ef ee some)
    ∙ when (is_there c m p) (nat_le (get_or lesser p 0) (4 * mid)) (not (is_bad c m (symbol_at m p)))
    (λ e. let h = place_of c.count m p (sym (there_is c m p some) ∙ e) in bad_is c m (symbol_at m p) (get_or lesser p 0) mid (has.is p h.first h.last) em)
