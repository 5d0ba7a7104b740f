-- The invariants of the loops over the states.
use Rattle.std.proofs.Common.{◌≡◌, ℕ, ◌+◌, ◌*◌, ◌%◌, ◌^◌, ◌<◌, ◌≤◌, ◌-◌, Bool, true, false, cond, ◌||◌, List, length, ◌⊎◌, inl, inr, refl, sym, ap, ◌∙◌, arith, eqb, ◌≢◌, below_more, get_or-set_other, get_or-set_same, length-set}
use Rattle.std.specs.Prelude.{slice_index, slice_set, IsTrue, bit_or}
use Rattle.std.specs.Int.{w64}
use Rattle.std.proofs.lemmas.Bool.{agree_below_at}
use Rattle.std.proofs.lemmas.Nat.{or_lt, pow_below, one_shl}
use Rattle.std.proofs.lemmas.Nat.Bits.{bit_at_set_same, bit_at_set_other, bit_at_above}
use Rattle.acs_plain.specs.declared.sums.Sums.{Sums}
use Rattle.code_paths.specs.declared.costs.CostPair.{CostPair}
use Rattle.spec_words.specs.Bits.{is_set}
use Rattle.acs_plain.specs.Steps.{IsStep, SomeAlive, HasCost, alive, way, takes_odd}
use Rattle.code_paths.specs.States.{even_of, odd_of}

pub record LeastBelow (sums : Sums) (n low : ℕ) : Type 0 where
  pub least : (k : ℕ) → k < n → IsTrue (alive sums k) → low ≤ slice_index sums.cost k
  pub fits : (k : ℕ) → k < n → slice_index sums.cost k < 2 ^ 32
  pub attained : (low ≡ 2 ^ 32 - 1) ⊎ HasCost sums low

pub record StepBelow (old : Sums) (pair : CostPair) (low n set answer : ℕ) (costs : List ℕ) : Type 0 where
  pub size : length costs ≡ 64
  pub lives_fits : set < 2 ^ n
  pub answer_fits : answer < 2 ^ n
  pub lives : (k : ℕ) → k < n → is_set set k ≡ (alive old (even_of k) || alive old (odd_of k))
  pub choice : (k : ℕ) → k < n → IsTrue (is_set set k) → is_set answer k ≡ takes_odd old pair k
  pub cost : (k : ℕ) → k < n → IsTrue (is_set set k) → slice_index costs k + low ≡ way old pair (cond (takes_odd old pair k) (odd_of k) (even_of k)) k

pub attained_at_end : (sums : Sums) (n low : ℕ) → 64 ≤ n → LeastBelow sums n low → SomeAlive sums → HasCost sums low
attained_at_end sums n low e h s = go h.attained
  where
    go : (low ≡ 2 ^ 32 - 1) ⊎ HasCost sums low → HasCost sums low
    go (inr k) = k
    go (inl m) = record { state = s.state; below = s.below; lives = s.lives; is = omega (arith, m, h.least s.state (omega (arith, s.below)) s.lives, h.fits s.state (omega (arith, s.below))) }

pub with_bit_fits : (word n : ℕ) → word < 2 ^ n → n < 64 → bit_or word (1 * 2 ^ n % 2 ^ 64) < 2 ^ (n + 1)
with_bit_fits word n h l = or_lt (n + 1) word (1 * 2 ^ n % 2 ^ 64) (omega (arith, pow_below n (n + 1) (omega arith))) (omega (arith, one_shl n 64 l, pow_below n (n + 1) (omega arith)))

pub with_bit_before : (word n : ℕ) → n < 64 → (k : ℕ) → k < n → is_set (bit_or word (1 * 2 ^ n % 2 ^ 64)) k ≡ is_set word k
with_bit_before word n l k h = let e : k ≢ n = omega arith in ap (λ b. eqb b 1) (bit_at_set_other w64 word n l k e)

pub with_bit_here : (word n : ℕ) → n < 64 → is_set (bit_or word (1 * 2 ^ n % 2 ^ 64)) n ≡ true
with_bit_here word n l = ap (λ b. eqb b 1) (bit_at_set_same w64 word n l)

pub unset_above : (word n : ℕ) → word < 2 ^ n → is_set word n ≡ false
unset_above word n h = ap (λ b. eqb b 1) (bit_at_above word n n h (omega arith))

pub below_pow_more : (word n : ℕ) → word < 2 ^ n → word < 2 ^ (n + 1)
below_pow_more word n h = omega (arith, pow_below n (n + 1) (omega arith))

-- one more state
pub step_more : (old : Sums) (pair : CostPair) (low n set answer : ℕ) (costs : List ℕ) (set2 answer2 : ℕ) (lives odd : Bool) (cost : ℕ)
    → StepBelow old pair low n set answer costs → n < 64
    → set2 < 2 ^ (n + 1) → ((k : ℕ) → k < n → is_set set2 k ≡ is_set set k) → is_set set2 n ≡ lives
    → answer2 < 2 ^ (n + 1) → ((k : ℕ) → k < n → is_set answer2 k ≡ is_set answer k) → is_set answer2 n ≡ odd
    → lives ≡ (alive old (even_of n) || alive old (odd_of n))
    → (IsTrue lives → odd ≡ takes_odd old pair n)
    → (IsTrue lives → cost + low ≡ way old pair (cond (takes_odd old pair n) (odd_of n) (even_of n)) n)
    → StepBelow old pair low (n + 1) set2 answer2 (slice_set costs n cost)
step_more old pair low n set answer costs set2 answer2 lives odd cost h l f1 b1 e1 f2 b2 e2 is_lives is_odd is_cost = record {
  size = length-set costs n cost ∙ h.size;
  lives_fits = f1;
  answer_fits = f2;
  lives = below_more _ _ (λ k w. b1 k w ∙ h.lives k w) (e1 ∙ is_lives);
  choice = below_more _ _ (λ k w t. b2 k w ∙ h.choice k w (sym (b1 k w) ∙ t)) (λ t. e2 ∙ is_odd (sym e1 ∙ t));
  cost = below_more _ _ (λ k w t. let ne : k ≢ n = omega arith in rw get_or-set_other (h.cost k w (sym (b1 k w) ∙ t))) (λ t. let w : n < length costs = omega (arith, h.size) in rw get_or-set_same (is_cost (sym e1 ∙ t)));
}

pub step_at_end : (old : Sums) (pair : CostPair) (low n set answer : ℕ) (costs : List ℕ) → 64 ≤ n → StepBelow old pair low n set answer costs → IsStep old pair (record { cost = costs; alive = set }) answer
step_at_end old pair low n set answer costs e h = record {
  less = low;
  lives = λ k w. h.lives k (omega arith);
  choice = λ k w t. h.choice k (omega arith) t;
  cost = λ k w t. h.cost k (omega arith) t;
}

-- if all states are alive, all are after a step
all_ones : (n : ℕ) → n < 64 → is_set 18446744073709551615 n ≡ true
all_ones n l = agree_below_at (λ n. is_set 18446744073709551615 n) (λ n. true) 64 n refl l

pub all_follow : (sums : Sums) → sums.alive ≡ 18446744073709551615 → (n : ℕ) → n < 64 → is_set 18446744073709551615 n ≡ (alive sums (even_of n) || alive sums (odd_of n))
all_follow sums e n l = all_ones n l ∙ sym (ap (λ z. is_set z (even_of n) || is_set z (odd_of n)) e ∙ ap (λ b. b || is_set 18446744073709551615 (odd_of n)) (all_ones (even_of n) (omega arith)))

pub followers_more : (sums : Sums) (n old new : ℕ) (b : Bool) → ((k : ℕ) → k < n → is_set old k ≡ (alive sums (even_of k) || alive sums (odd_of k))) → ((k : ℕ) → k < n → is_set new k ≡ is_set old k) → is_set new n ≡ b → b ≡ (alive sums (even_of n) || alive sums (odd_of n))
    → (k : ℕ) → k < n + 1 → is_set new k ≡ (alive sums (even_of k) || alive sums (odd_of k))
followers_more sums n old new b f g h e = below_more (λ k. is_set new k ≡ (alive sums (even_of k) || alive sums (odd_of k))) n (λ k l. g k l ∙ f k l) (h ∙ e)
