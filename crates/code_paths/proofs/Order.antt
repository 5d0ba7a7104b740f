-- The order of paths as an order of numbers.
use Rattle.std.proofs.Common.{◌≡◌, ℕ, zero, suc, ◌+◌, ◌*◌, ◌^◌, ◌<◌, ◌≤◌, Bool, true, false, List, [], ◌∷◌, ◌++◌, length, ◌⊎◌, inl, inr, refl, ap, arith}
use Rattle.std.proofs.Math.Nat.{pow-suc}
use Rattle.code_paths.specs.declared.costs.CostPair.{CostPair}
use Rattle.std.proofs.lemmas.Bool.{cases_order}
use Rattle.spec_words.specs.Bits.{bit}
use Rattle.code_paths.specs.Trial.{digit, weight}
use Rattle.code_paths.specs.Paths.{IsEarlier, total, Before}

pub digit_small : (b : Bool) → digit b ≤ 1
digit_small true = omega arith
digit_small false = omega arith

digit_same : (a b : Bool) → digit a ≡ digit b → a ≡ b
digit_same true true e = refl
digit_same true false e = absurd (omega arith)
digit_same false true e = absurd (omega arith)
digit_same false false e = refl

pub weight_same : (p q : List Bool) → length p ≡ length q → weight p ≡ weight q → p ≡ q
weight_same [] [] l e = refl
weight_same [] (b ∷ q) l e = absurd (omega arith)
weight_same (a ∷ p) [] l e = absurd (omega arith)
weight_same (a ∷ p) (b ∷ q) l e =
    let s : a ≡ b = digit_same a b (omega (arith, digit_small a, digit_small b)) in
    let t : p ≡ q = weight_same p q (omega arith) (omega (arith, digit_small a, digit_small b)) in
    cc

pub weight-lt : (p : List Bool) → weight p < 2 ^ length p
weight-lt [] = omega arith
weight-lt (b ∷ p) = omega (arith, weight-lt p, digit_small b, pow-suc 2 (length p))

pub weight-append : (p q : List Bool) → weight (p ++ q) ≡ weight p + 2 ^ length p * weight q
weight-append [] q = omega arith
weight-append (b ∷ p) q = omega (arith, weight-append p q, ap (λ z. z * weight q) (pow-suc 2 (length p)))

same_tails : (p q : List Bool) → length p ≡ length q → ((k : ℕ) → bit p k ≡ bit q k) → p ≡ q
same_tails [] [] l h = refl
same_tails [] (b ∷ q) l h = absurd (omega arith)
same_tails (a ∷ p) [] l h = absurd (omega arith)
same_tails (a ∷ p) (b ∷ q) l h =
    let s : a ≡ b = h 0 in
    let t : p ≡ q = same_tails p q (omega arith) (λ k. h (suc k)) in
    cc

earlier_at : (k : ℕ) (p q : List Bool) → length p ≡ length q → k < length p → bit p k ≡ false → bit q k ≡ true → ((j : ℕ) → k < j → bit p j ≡ bit q j) → weight p < weight q
earlier_at k [] q l w h t f = absurd (omega arith)
earlier_at k (a ∷ p) [] l w h t f = absurd (omega arith)
earlier_at zero (a ∷ p) (b ∷ q) l w h t f =
    let e : p ≡ q = same_tails p q (omega arith) (λ j. f (suc j) (omega arith)) in
    omega (arith, ap weight e, ap digit h, ap digit t)
earlier_at (suc k) (a ∷ p) (b ∷ q) l w h t f =
    omega (arith, digit_small a, digit_small b, earlier_at k p q (omega arith) (omega arith) h t (λ j g. f (suc j) (omega arith)))

pub earlier-weight : (p q : List Bool) → length p ≡ length q → IsEarlier p q → weight p < weight q
earlier-weight p q l e = earlier_at e.place p q l e.within e.here e.there e.after

later : (a b : Bool) (p q : List Bool) → IsEarlier p q → IsEarlier (a ∷ p) (b ∷ q)
later a b p q e = record {
  place = suc e.place;
  within = omega (arith, e.within);
  here = e.here;
  there = e.there;
  after = later_after a b p q e.place e.after;
}
  where
    later_after : (a b : Bool) (p q : List Bool) (n : ℕ) → ((k : ℕ) → n < k → bit p k ≡ bit q k) → (k : ℕ) → suc n < k → bit (a ∷ p) k ≡ bit (b ∷ q) k
    later_after a b p q n f zero h = absurd (omega arith)
    later_after a b p q n f (suc k) h = f k (omega arith)

first_bit : (p q : List Bool) → p ≡ q → IsEarlier (false ∷ p) (true ∷ q)
first_bit p q e = record {
  place = 0;
  within = omega arith;
  here = refl;
  there = refl;
  after = go;
}
  where
    go : (k : ℕ) → 0 < k → bit (false ∷ p) k ≡ bit (true ∷ q) k
    go zero h = absurd (omega arith)
    go (suc k) h = ap (λ x. bit x k) e

pub weight-earlier : (p q : List Bool) → length p ≡ length q → weight p < weight q → IsEarlier p q
weight-earlier [] [] l w = absurd (omega arith)
weight-earlier [] (b ∷ q) l w = absurd (omega arith)
weight-earlier (a ∷ p) [] l w = absurd (omega arith)
weight-earlier (a ∷ p) (b ∷ q) l w = go a b l w (cases_order (weight p) (weight q)) (weight-earlier p q (omega arith))
  where
    go : (a b : Bool) → length (a ∷ p) ≡ length (b ∷ q) → weight (a ∷ p) < weight (b ∷ q) → (weight p ≡ weight q) ⊎ ((weight p < weight q) ⊎ (weight q < weight p)) → (weight p < weight q → IsEarlier p q) → IsEarlier (a ∷ p) (b ∷ q)
    go a b l w (inr (inl h)) f = later a b p q (f h)
    go a b l w (inr (inr h)) f = absurd (omega (arith, digit_small a, digit_small b))
    go false true l w (inl h) f = first_bit p q (weight_same p q (omega arith) h)
    go true b l w (inl h) f = absurd (omega (arith, digit_small b))
    go false false l w (inl h) f = absurd (omega arith)

-- p is q or precedes it
abbrev pub NotAfter : List CostPair → List Bool → List Bool → Type 0
NotAfter c p q = (total c p < total c q) ⊎ ((total c p ≡ total c q) × (weight p ≤ weight q))

pub not_after : (c : List CostPair) (p q : List Bool) → length p ≡ length q → (p ≡ q) ⊎ Before c p q → NotAfter c p q
not_after c p q l (inl e) = inr (ap (total c) e, omega (arith, ap weight e))
not_after c p q l (inr (inl h)) = inl h
not_after c p q l (inr (inr h)) = inr (h.0, omega (arith, earlier-weight p q l h.1))

pub or_before : (c : List CostPair) (p q : List Bool) → length p ≡ length q → NotAfter c p q → (p ≡ q) ⊎ Before c p q
or_before c p q l (inl h) = inr (inl h)
or_before c p q l (inr h) = go (cases_order (weight p) (weight q))
  where
    go : (weight p ≡ weight q) ⊎ ((weight p < weight q) ⊎ (weight q < weight p)) → (p ≡ q) ⊎ Before c p q
    go (inl e) = inl (weight_same p q l e)
    go (inr (inl w)) = inr (inr (h.0, weight-earlier p q l w))
    go (inr (inr w)) = absurd (omega (arith, h.1))
