-- Sums at the start, and the best of them.
use Rattle.std.proofs.Common.{◌≡◌, ℕ, ◌*◌, ◌%◌, ◌^◌, ◌<◌, ◌≤◌, true, replicate, ◌⊎◌, inl, inr, refl, sym, ap, ◌∙◌, arith, eqb, mod-eq_of_lt, lit<}
use Rattle.std.proofs.lemmas.Bool.{agree_below_at, cases_eq, cases_lt, eq-eqb, ne_eqb}
use Rattle.std.proofs.lemmas.List.{get_or-replicate}
use Rattle.std.proofs.lemmas.Nat.{one_shl}
use Rattle.std.proofs.lemmas.Nat.Bits.{bit_at-pow_same, bit_at-pow_other}
use Rattle.std.specs.Prelude.{slice_index, IsTrue}
use Rattle.acs_plain.specs.declared.sums.Sums.{Sums}
use Rattle.spec_words.specs.Bits.{is_set}
use Rattle.acs_plain.specs.Spread.{IsSpread}
use Rattle.acs_plain.specs.Steps.{alive}
use Rattle.inner_decoder.specs.Metrics.{IsBest}
use Rattle.inner_decoder.proofs.Kept.{IsOnly}

abbrev free : ℕ → Sums
free live = record { cost = replicate 64 0; alive = live }

pub free_cost : (n : ℕ) → n < 64 → slice_index (replicate 64 0) n ≡ 0
free_cost n l = get_or-replicate 64 n 0 0 l

pub any_lives : (n : ℕ) → n < 64 → is_set 18446744073709551615 n ≡ true
any_lives n l = agree_below_at (λ n. is_set 18446744073709551615 n) (λ n. true) 64 n refl l

pub spread_any : IsSpread (free 18446744073709551615)
spread_any = record {
  fixed = 0;
  start = 0;
  few = lit< tt;
  small = lit< tt;
  lives = λ n l. agree_below_at (λ n. is_set 18446744073709551615 n) (λ n. eqb (n % 1) 0) 64 n refl l;
  close = λ k w m n i j t u e. omega (arith, free_cost m i);
}

pub power_only : (e : ℕ) → IsOnly (2 ^ e) e
power_only e = record { lives = λ n i. go n (cases_eq n e) }
  where
    go : (n : ℕ) → (n ≡ e) ⊎ (n ≡ e → ⊥) → is_set (2 ^ e) n ≡ eqb n e
    go n (inl s) = rw s (ap (λ b. eqb b 1) (bit_at-pow_same e) ∙ sym (eq-eqb e e refl))
    go n (inr s) = ap (λ b. eqb b 1) (bit_at-pow_other e n s) ∙ sym (ne_eqb n e s)

pub spread_only : (e : ℕ) → e < 64 → IsSpread (free (1 * 2 ^ e % 18446744073709551616))
spread_only e l = record {
  fixed = 6;
  start = e;
  few = lit< tt;
  small = l;
  lives = λ n i. ap (λ z. is_set z n) (one_shl e 64 l) ∙ (power_only e).lives n i ∙ ap (λ z. eqb z e) (sym (mod-eq_of_lt i));
  close = λ k w m n i j t u f. omega (arith, free_cost m i);
}

pub first_best : (sums : Sums) (low n : ℕ) → n < 64 → IsTrue (alive sums n) → slice_index sums.cost n ≡ low
    → ((k : ℕ) → k < 64 → IsTrue (alive sums k) → low ≤ slice_index sums.cost k)
    → ((k : ℕ) → k < n → IsTrue (alive sums k) → slice_index sums.cost k ≡ low → ⊥) → IsBest sums n
first_best sums low n l t e least none = record { below = l; lives = t; least = λ k i u. go k u (least k i u) (cases_lt low (slice_index sums.cost k)) }
  where
    go : (k : ℕ) → IsTrue (alive sums k) → low ≤ slice_index sums.cost k → (low < slice_index sums.cost k) ⊎ (slice_index sums.cost k ≤ low) → (slice_index sums.cost n < slice_index sums.cost k) ⊎ ((slice_index sums.cost n ≡ slice_index sums.cost k) × (n ≤ k))
    go k u w (inl v) = inl (omega arith)
    go k u w (inr v) = inr (omega arith, last (cases_lt k n))
      where
        last : (k < n) ⊎ (n ≤ k) → n ≤ k
        last (inl m) = absurd (none k m u (omega arith))
        last (inr m) = m
