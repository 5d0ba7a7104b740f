-- Counts over the places of a label, one place more at a time.
use Rattle.std.proofs.Common.{◌≡◌, ℕ, zero, suc, ◌+◌, ◌<◌, ◌≤◌, Bool, true, false, cond, not, ◌&&◌, List, get_or, refl, sym, ap, ap₂, ◌∙◌, arith}
use mir.Val.{bool_byte}
use Rattle.std.specs.Prelude.{count_by, sum_by}
use Rattle.std.specs.Bool.{beq}
use Rattle.std.proofs.lemmas.List.Sums.{sum_by_push, count_by-le-length}
use Rattle.spec_words.specs.Words.{numbers}
use Rattle.spec_words.proofs.Counting.{numbers_end, length-numbers}

pub no_numbers : (f : ℕ → ℕ) → sum_by f (numbers 0) ≡ 0
unfolding numbers
no_numbers f = refl

pub sum_more : (f : ℕ → ℕ) (n : ℕ) → sum_by f (numbers (n + 1)) ≡ sum_by f (numbers n) + f n
sum_more f n = ap (sum_by f) (numbers_end n) ∙ sum_by_push f (numbers n) n

byte_is : (b : Bool) → bool_byte b ≡ cond b 1 0
byte_is true = refl
byte_is false = refl

pub count_more : (p : ℕ → Bool) (n k : ℕ) (b : Bool) → k ≡ count_by p (numbers n) → b ≡ p n → k + bool_byte b ≡ count_by p (numbers (n + 1))
count_more p n k b ek eb =
    let step = sum_more (λ e. cond (p e) 1 0) n in
    let here : bool_byte b ≡ cond (p n) 1 0 = byte_is b ∙ ap (λ (z : Bool). cond z 1 0) eb in
    omega (arith, step, here, ek)

pub few_more : (k n : ℕ) (b : Bool) → k ≤ n → k + bool_byte b ≤ n + 1
few_more k n true l = omega (arith, l)
few_more k n false l = omega (arith, l)

pub count_few : (p : ℕ → Bool) (n : ℕ) → count_by p (numbers n) ≤ n
count_few p n = omega (arith, count_by-le-length p (numbers n), length-numbers n)

-- two tests that agree on the numbers below n
pub sum_same : (f g : ℕ → ℕ) (n : ℕ) → ((k : ℕ) → k < n → f k ≡ g k) → sum_by f (numbers n) ≡ sum_by g (numbers n)
sum_same f g zero h = no_numbers f ∙ sym (no_numbers g)
sum_same f g (suc n) h =
    let e : suc n ≡ n + 1 = omega arith in
    ap (λ (z : ℕ). sum_by f (numbers z)) e ∙ sum_more f n
    ∙ ap₂ (λ (x y : ℕ). x + y) (sum_same f g n (λ k l. h k (omega (arith, l)))) (h n (omega arith))
    ∙ sym (ap (λ (z : ℕ). sum_by g (numbers z)) e ∙ sum_more g n)

pub count_same : (p q : ℕ → Bool) (n : ℕ) → ((k : ℕ) → k < n → p k ≡ q k) → count_by p (numbers n) ≡ count_by q (numbers n)
count_same p q n h = sum_same (λ e. cond (p e) 1 0) (λ e. cond (q e) 1 0) n (λ k l. ap (λ (z : Bool). cond z 1 0) (h k l))

pub count_none : (p : ℕ → Bool) (n : ℕ) → ((k : ℕ) → k < n → p k ≡ false) → count_by p (numbers n) ≡ 0
count_none p n h = count_same p (λ k. false) n h ∙ zeros n
  where
    zeros : (m : ℕ) → count_by (λ (k : ℕ). false) (numbers m) ≡ 0
    zeros zero = no_numbers (λ k. 0)
    zeros (suc m) = let e : suc m ≡ m + 1 = omega arith in ap (λ (z : ℕ). count_by (λ (k : ℕ). false) (numbers z)) e ∙ sum_more (λ k. 0) m ∙ (omega (arith, zeros m))

beq_self : (b : Bool) → beq b b ≡ true
beq_self true = refl
beq_self false = refl

and_false : (b : Bool) → (b && false) ≡ false
and_false true = refl
and_false false = refl

-- equal lists have no bit that differs
pub none_wrong : (p : ℕ → Bool) (xs ys : List Bool) (n : ℕ) → xs ≡ ys → 0 ≡ count_by (λ e. p e && not (beq (get_or xs e false) (get_or ys e false))) (numbers n)
none_wrong p xs ys n e =
    sym (count_none (λ k. p k && not (beq (get_or xs k false) (get_or ys k false))) n
    (λ k l. ap (λ (z : List Bool). p k && not (beq (get_or xs k false) (get_or z k false))) (sym e) ∙ ap (λ (b : Bool). p k && not b) (beq_self (get_or xs k false)) ∙ and_false (p k)))

-- lists that agree with bits have the count of these
pub wrong_same : (p u v : ℕ → Bool) (xs ys : List Bool) (n : ℕ) → n ≤ 6 → ((e : ℕ) → e < 6 → get_or xs e false ≡ u e) → ((e : ℕ) → e < 6 → get_or ys e false ≡ v e)
    → count_by (λ e. p e && not (beq (get_or xs e false) (get_or ys e false))) (numbers n) ≡ count_by (λ e. p e && not (beq (u e) (v e))) (numbers n)
wrong_same p u v xs ys n few hu hv =
    count_same (λ e. p e && not (beq (get_or xs e false) (get_or ys e false))) (λ e. p e && not (beq (u e) (v e))) n
    (λ k l. ap₂ (λ (a b : Bool). p k && not (beq a b)) (hu k (omega (arith, l, few))) (hv k (omega (arith, l, few))))
