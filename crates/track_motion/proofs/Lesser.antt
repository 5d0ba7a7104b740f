-- The lesser change of the symbol at a place.
use Rattle.std.proofs.Common.{◌≡◌, ℕ, ◌+◌, ◌-◌, ◌<◌, ◌≤◌, Bool, true, false, nat_lt, refl, ap, sym, ◌∙◌, arith, min}
use Rattle.std.specs.Prelude.{if◌then◌else◌}
use Rattle.tracking.specs.BadSymbols.{lesser_change}
use Rattle.tracking.specs.Comb.{Comb, change, window_end}
use Rattle.tracking.specs.InTime.{symbol_at}
use Rattle.track_motion.specs.Places.{first_place, end_place}
use Rattle.track_motion.proofs.Tests.{lt_to, lt_not}

abbrev chosen : Bool → Bool → ℕ → ℕ → ℕ
chosen before after from to = if before then if after then min from to else from else if after then to else 0

by_tests : (c : Comb) (m t : ℕ) (before after : Bool) → nat_lt (m - 7) t ≡ before → nat_lt (t + 1) (window_end c m) ≡ after → chosen before after (change c t) (change c (t + 1)) ≡ lesser_change c m t
unfolding lesser_change
by_tests c m t before after e f =
    ap (λ (z : Bool). chosen z after (change c t) (change c (t + 1))) (sym e) ∙ ap (λ (z : Bool). chosen (nat_lt (m - 7) t) z (change c t) (change c (t + 1))) (sym f)

module _ (c : Comb) (m p : ℕ) (some : m < c.count) (first : first_place m ≤ p) (last : p < end_place c.count m) where
  has_before : first_place m < p → nat_lt (m - 7) (symbol_at m p) ≡ true
  has_before h = lt_to (m - 7) (symbol_at m p) (omega (arith, h))

  no_before : p ≤ first_place m → nat_lt (m - 7) (symbol_at m p) ≡ false
  no_before h = lt_not (m - 7) (symbol_at m p) (omega (arith, h, first))

  has_after : p + 1 < end_place c.count m → nat_lt (symbol_at m p + 1) (window_end c m) ≡ true
  has_after h = lt_to (symbol_at m p + 1) (window_end c m) (omega (arith, h, first, some))

  no_after : end_place c.count m ≤ p + 1 → nat_lt (symbol_at m p + 1) (window_end c m) ≡ false
  no_after h = lt_not (symbol_at m p + 1) (window_end c m) (omega (arith, h, first, last, some))

  next : (to : ℕ) → to ≡ change c (symbol_at m (p + 1)) → to ≡ change c (symbol_at m p + 1)
  next to e = let same : symbol_at m (p + 1) ≡ symbol_at m p + 1 = omega (arith, first) in e ∙ ap (change c) same

  pub none : p ≤ first_place m → end_place c.count m ≤ p + 1 → 0 ≡ lesser_change c m (symbol_at m p)
  none h k = by_tests c m (symbol_at m p) false false (no_before h) (no_after k)

  pub from_before : (from : ℕ) → first_place m < p → end_place c.count m ≤ p + 1 → from ≡ change c (symbol_at m p) → from ≡ lesser_change c m (symbol_at m p)
  from_before from h k e = e ∙ by_tests c m (symbol_at m p) true false (has_before h) (no_after k)

  pub to_after : (to : ℕ) → p ≤ first_place m → p + 1 < end_place c.count m → to ≡ change c (symbol_at m (p + 1)) → to ≡ lesser_change c m (symbol_at m p)
  to_after to h k e = next to e ∙ by_tests c m (symbol_at m p) false true (no_before h) (has_after k)

  pub lesser_of : (from to : ℕ) → first_place m < p → p + 1 < end_place c.count m → from ≡ change c (symbol_at m p) → to ≡ change c (symbol_at m (p + 1)) → min from to ≡ lesser_change c m (symbol_at m p)
  lesser_of from to h k e f =
      ap (λ (z : ℕ). min z to) e ∙ ap (min (change c (symbol_at m p))) (next to f) ∙ by_tests c m (symbol_at m p) true true (has_before h) (has_after k)
