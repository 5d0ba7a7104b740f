-- Sums, lists and tests over equal values.
use Rattle.std.proofs.Common.{◌≡◌, ℕ, zero, suc, ◌+◌, ◌<◌, List, [], ◌∷◌, ◌++◌, length, get_or, Bool, true, false, refl, ap, sym, ◌∙◌, arith, map, cond}
use Rattle.std.specs.Prelude.{ℤ, pos, ◌+ℤ◌, ◌||◌, sum_by, filter, flat_map}
use Rattle.std.specs.List.{list_any}
use Rattle.std.proofs.lemmas.List.Sums.{sum_by-cons}
use Rattle.track_arithmetic.specs.Numbers.{sum_of, plus}
use Rattle.track_arithmetic.specs.declared.complex.Complex.{Complex}

pub sum_same : (is : List ℕ) (f g : ℕ → Complex) → ((i : ℕ) → i < length is → f (get_or is i 0) ≡ g (get_or is i 0)) → sum_of f is ≡ sum_of g is
unfolding sum_of
sum_same [] f g h = refl
sum_same (i ∷ is) f g h = ap (λ (z : Complex). plus z (sum_of f is)) (h 0 (omega arith)) ∙ ap (plus (g i)) (sum_same is f g (λ k a. h (suc k) (omega (arith, a))))

pub total_same : (is : List ℕ) (f g : ℕ → ℕ) → ((i : ℕ) → i < length is → f (get_or is i 0) ≡ g (get_or is i 0)) → sum_by f is ≡ sum_by g is
total_same [] f g h = refl
total_same (i ∷ is) f g h =
    sum_by-cons f i is ∙ ap (λ (z : ℕ). z + sum_by f is) (h 0 (omega arith)) ∙ ap (λ (z : ℕ). g i + z) (total_same is f g (λ k a. h (suc k) (omega (arith, a)))) ∙ sym (sum_by-cons g i is)

pub map_same : {X : Type 0} (is : List ℕ) (f g : ℕ → X) → ((i : ℕ) → i < length is → f (get_or is i 0) ≡ g (get_or is i 0)) → map f is ≡ map g is
map_same [] f g h = refl
map_same {X} (i ∷ is) f g h = ap (λ (z : X). z ∷ map f is) (h 0 (omega arith)) ∙ ap (λ (z : List X). g i ∷ z) (map_same is f g (λ k a. h (suc k) (omega (arith, a))))

pub filter_same : (is : List ℕ) (f g : ℕ → Bool) → ((i : ℕ) → i < length is → f (get_or is i 0) ≡ g (get_or is i 0)) → filter f is ≡ filter g is
filter_same [] f g h = refl
filter_same (i ∷ is) f g h =
    ap (λ (z : Bool). cond z (i ∷ filter f is) (filter f is)) (h 0 (omega arith)) ∙ ap (λ (z : List ℕ). cond (g i) (i ∷ z) z) (filter_same is f g (λ k a. h (suc k) (omega (arith, a))))

pub any_same : (is : List ℕ) (f g : ℕ → Bool) → ((i : ℕ) → i < length is → f (get_or is i 0) ≡ g (get_or is i 0)) → list_any f is ≡ list_any g is
any_same [] f g h = refl
any_same (i ∷ is) f g h = ap (λ (z : Bool). z || list_any f is) (h 0 (omega arith)) ∙ ap (λ (z : Bool). g i || z) (any_same is f g (λ k a. h (suc k) (omega (arith, a))))

pub bytes_same : (is : List ℕ) (f g : ℕ → List ℕ) → ((i : ℕ) → i < length is → f (get_or is i 0) ≡ g (get_or is i 0)) → flat_map f is ≡ flat_map g is
bytes_same [] f g h = refl
bytes_same (i ∷ is) f g h = ap (λ (z : List ℕ). z ++ flat_map f is) (h 0 (omega arith)) ∙ ap (λ (z : List ℕ). g i ++ z) (bytes_same is f g (λ k a. h (suc k) (omega (arith, a))))

-- the items that pass a test pass it
pub passed : (is : List ℕ) (p : ℕ → Bool) (i : ℕ) → i < length (filter p is) → p (get_or (filter p is) i 0) ≡ true
passed [] p i h = absurd (omega (arith, h))
passed (x ∷ is) p i h = by (p x) refl (passed is p) i h
  where
    by : (b : Bool) → p x ≡ b → ((k : ℕ) → k < length (filter p is) → p (get_or (filter p is) k 0) ≡ true) → (i : ℕ) → i < length (cond b (x ∷ filter p is) (filter p is)) → p (get_or (cond b (x ∷ filter p is) (filter p is)) i 0) ≡ true
    by true e r zero h = e
    by true e r (suc i) h = r i (omega (arith, h))
    by false e r i h = r i h
