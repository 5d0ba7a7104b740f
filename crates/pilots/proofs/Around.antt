-- The pilots around a carrier.
use Rattle.std.proofs.Common.{◌≡◌, ℕ, ◌+◌, ◌-◌, ◌*◌, ◌%◌, ◌<◌, ◌≤◌, ap, refl, sym, ◌∙◌, arith, subst, inl, inr, Bool, true, false, length}
use Rattle.std.specs.List.{range_with_len, position_or_len}
use Rattle.std.specs.Prelude.{if◌then◌else◌}
use Rattle.std.proofs.lemmas.List.FromFn.{length-range_with_len, get_or-range_with_len}
use Rattle.std.proofs.lemmas.List.Sums.{passes_at_first, fails_before_first}
use Rattle.std.proofs.lemmas.Bool.{cases_lt, true≢false, eq-eqb}
use Rattle.spec_words.specs.Words.{numbers, first_below}
use Rattle.mode_set.specs.StreamTable.{carriers}
use Rattle.mode_set.specs.declared.modes.Mode.{Mode}
use Rattle.mode_set.specs.declared.modes.Mode.TheVariants.{M2k, M8k}
use Rattle.pilots.specs.Carriers.{kind, is_continual, is_scattered, is_tps}
use Rattle.pilots.specs.declared.carrier_kind.CarrierKind.TheVariants.{Continual, Scattered, Tps, Payload}
use Rattle.pilots.specs.Around.{is_for_pilots, is_pilot, pilot_below, pilot_above, StandsBetween}

-- the first number below n that passes, if d passes
pub record IsFirst (n d : ℕ) (test : ℕ → Bool) (r : ℕ) : Type 0 where
  pub most : r ≤ d
  pub passes : test r ≡ true
  pub fails : (k : ℕ) → k < r → test k ≡ false

first_passes : (n d : ℕ) (test : ℕ → Bool) → d < n → test d ≡ true → IsFirst n d test (first_below n test)
unfolding numbers
first_passes n d test l p =
    let size : length (range_with_len 0 n) ≡ n = length-range_with_len 0 n in
    let r = position_or_len test (range_with_len 0 n) in
    let before : (k : ℕ) → k < r → k < n → test k ≡ false = λ k m o. ap test (sym (get_or-range_with_len 0 n k 0 o ∙ (omega arith))) ∙ fails_before_first test (range_with_len 0 n) k 0 m in
    let most : r ≤ d = elim (cases_lt d r) [ inl lt ↦ absurd (true≢false (sym p ∙ before d lt l)) | inr ge ↦ ge ] in
    let within : r < n = omega (arith, most, l) in
    record {
      most = most;
      passes = ap test (sym (get_or-range_with_len 0 n r 0 within ∙ (omega arith))) ∙ passes_at_first test (range_with_len 0 n) 0 (omega (arith, size, within));
      fails = λ k m. before k m (omega (arith, m, within));
    }

-- ---- which carriers are pilots
continual_is_pilot : (m : Mode) (l k : ℕ) → is_continual m k ≡ true → is_pilot m l k ≡ true
unfolding is_pilot kind
continual_is_pilot m l k e = rw e

by_kind : (continual scattered tps : Bool) (q : ℕ) → scattered ≡ true → is_for_pilots (if continual then Continual else if scattered then Scattered else if tps then Tps else Payload q) ≡ true
by_kind true scattered tps q e = refl
by_kind false true tps q e = refl
by_kind false false tps q e = absurd (true≢false (sym e))

scattered_is_pilot : (m : Mode) (l k : ℕ) → is_scattered l k ≡ true → is_pilot m l k ≡ true
unfolding is_pilot kind
scattered_is_pilot m l k e = by_kind (is_continual m k) (is_scattered l k) (is_tps m k) _ e

-- the first and the last carrier are pilots
continual_first : (m : Mode) → is_continual m 0 ≡ true
unfolding is_continual numbers
continual_first M2k = refl
continual_first M8k = refl

continual_last : (m : Mode) → is_continual m (carriers m - 1) ≡ true
unfolding is_continual numbers
continual_last M2k = refl
continual_last M8k = refl

pub first_is_pilot : (m : Mode) (l : ℕ) → is_pilot m l 0 ≡ true
first_is_pilot m l = continual_is_pilot m l 0 (continual_first m)

pub last_is_pilot : (m : Mode) (l : ℕ) → is_pilot m l (carriers m - 1) ≡ true
last_is_pilot m l = continual_is_pilot m l (carriers m - 1) (continual_last m)

-- ---- the pilots of the definitions
below_first : (m : Mode) (l k : ℕ) → IsFirst (k + 1) k (λ j. is_pilot m l (k - j)) (first_below (k + 1) (λ j. is_pilot m l (k - j)))
below_first m l k = let e : 0 ≡ k - k = omega arith in first_passes (k + 1) k (λ j. is_pilot m l (k - j)) (omega arith) (ap (is_pilot m l) (sym e) ∙ first_is_pilot m l)

below_is : (m : Mode) (l k : ℕ) → pilot_below m l k ≡ k - first_below (k + 1) (λ j. is_pilot m l (k - j))
unfolding pilot_below
below_is m l k = refl

above_first : (m : Mode) (l k : ℕ) → k < carriers m → IsFirst (carriers m - k) (carriers m - 1 - k) (λ j. is_pilot m l (k + j)) (first_below (carriers m - k) (λ j. is_pilot m l (k + j)))
above_first m l k h = let e : carriers m - 1 ≡ k + (carriers m - 1 - k) = omega (arith, h) in first_passes (carriers m - k) (carriers m - 1 - k) (λ j. is_pilot m l (k + j)) (omega (arith, h)) (ap (is_pilot m l) (sym e) ∙ last_is_pilot m l)

pub above_is : (m : Mode) (l k : ℕ) → pilot_above m l k ≡ k + first_below (carriers m - k) (λ j. is_pilot m l (k + j))
unfolding pilot_above
above_is m l k = refl

scattered : (l n : ℕ) → is_scattered l (n + (3 * (l % 4) + 12 - n % 12) % 12) ≡ true
unfolding is_scattered
scattered l n = let e : (n + (3 * (l % 4) + 12 - n % 12) % 12) % 12 ≡ 3 * (l % 4) = omega arith in eq-eqb _ _ e

-- one of any twelve carriers is a scattered pilot
one_of_twelve : (m : Mode) (l n : ℕ) → is_pilot m l (n + (3 * (l % 4) + 12 - n % 12) % 12) ≡ true
one_of_twelve m l n = scattered_is_pilot m l (n + (3 * (l % 4) + 12 - n % 12) % 12) (scattered l n)

stands : (m : Mode) (l k r s : ℕ) → k < carriers m → IsFirst (k + 1) k (λ j. is_pilot m l (k - j)) r → IsFirst (carriers m - k) (carriers m - 1 - k) (λ j. is_pilot m l (k + j)) s → StandsBetween m l k (k - r) (k + s)
stands m l k r s h b a =
    let none : (j : ℕ) → k - r < j → j < k + s → is_pilot m l j ≡ false = λ j lo hi. elim (cases_lt k j) [
      | inl gt ↦ let e : k + (j - k) ≡ j = omega arith in ap (is_pilot m l) (sym e) ∙ a.fails (j - k) (omega arith)
      | inr le ↦ let e : k - (k - j) ≡ j = omega arith in ap (is_pilot m l) (sym e) ∙ b.fails (k - j) (omega (arith, b.most))
    ] in
    record {
      below = omega arith;
      above = omega arith;
      within = omega (arith, a.most, h);
      left = b.passes;
      right = a.passes;
      none = none;
      near = elim (cases_lt (k - r + 12) (k + s)) [
        | inl gt ↦
            let n = k - r + 1 in
            let t = (3 * (l % 4) + 12 - n % 12) % 12 in
            absurd (true≢false (sym (one_of_twelve m l n) ∙ none (n + t) (omega arith) (omega (arith, gt))))
        | inr le ↦ le
      ];
      own = (
        λ e. elim (cases_lt 0 s) [
          | inl gt ↦ let z : k + 0 ≡ k - r = omega (arith, e) in absurd (true≢false (sym b.passes ∙ ap (is_pilot m l) (sym z) ∙ a.fails 0 gt))
          | inr le ↦ omega (arith, le)
        ],
        λ e. elim (cases_lt 0 r) [
          | inl gt ↦ let z : k - 0 ≡ k + s = omega (arith, e) in absurd (true≢false (sym a.passes ∙ ap (is_pilot m l) (sym z) ∙ b.fails 0 gt))
          | inr le ↦ omega (arith, le)
        ],
      );
    }

pub around : (m : Mode) (l k : ℕ) → k < carriers m → StandsBetween m l k (pilot_below m l k) (pilot_above m l k)
around m l k h = subst (λ (p : ℕ). StandsBetween m l k p (pilot_above m l k)) (sym (below_is m l k)) (subst (StandsBetween m l k (k - first_below (k + 1) (λ j. is_pilot m l (k - j)))) (sym (above_is m l k)) (stands m l k _ _ h (below_first m l k) (above_first m l k h)))
