-- The places that count, by the bits of a number.
use Rattle.std.proofs.Common.{◌≡◌, ℕ, zero, suc, ◌+◌, ◌-◌, ◌*◌, ◌<◌, List, [], ◌∷◌, get_or, map, Bool, true, false, cond, refl, ap, sym, ◌∙◌, arith}
use Rattle.std.specs.Prelude.{filter}
use Rattle.spec_words.specs.Words.{numbers}
use Rattle.tracking.specs.Comb.{Comb}
use Rattle.tracking.specs.InTime.{place, is_good, is_there, counting, counting_of}
use Rattle.track_comb_gains.specs.Kept.{has, number_of, places_of}

abbrev listed : ℕ → Bool → Bool → Bool → Bool → List ℕ
listed d a b c e = cond a (place d 0 ∷ cond b (place d 1 ∷ cond c (place d 2 ∷ cond e (place d 3 ∷ []) []) (cond e (place d 3 ∷ []) [])) (cond c (place d 2 ∷ cond e (place d 3 ∷ []) []) (cond e (place d 3 ∷ []) []))) (cond b (place d 1 ∷ cond c (place d 2 ∷ cond e (place d 3 ∷ []) []) (cond e (place d 3 ∷ []) [])) (cond c (place d 2 ∷ cond e (place d 3 ∷ []) []) (cond e (place d 3 ∷ []) [])))

all_listed : (d : ℕ) (a b c e : Bool) → listed d a b c e ≡ places_of d (number_of a b c e)
unfolding numbers
all_listed d true true true true = refl
all_listed d true true true false = refl
all_listed d true true false true = refl
all_listed d true true false false = refl
all_listed d true false true true = refl
all_listed d true false true false = refl
all_listed d true false false true = refl
all_listed d true false false false = refl
all_listed d false true true true = refl
all_listed d false true true false = refl
all_listed d false true false true = refl
all_listed d false true false false = refl
all_listed d false false true true = refl
all_listed d false false true false = refl
all_listed d false false false true = refl
all_listed d false false false false = refl

-- the places that pass a test
pub filtered : (p : ℕ → Bool) (d : ℕ) (a b c e : Bool) → p (place d 0) ≡ a → p (place d 1) ≡ b → p (place d 2) ≡ c → p (place d 3) ≡ e → filter p (map (place d) (numbers 4)) ≡ places_of d (number_of a b c e)
unfolding numbers
filtered p d a b c e ea eb ec ee =
    ap (λ (z : Bool). listed d z (p (place d 1)) (p (place d 2)) (p (place d 3))) ea
    ∙ ap (λ (z : Bool). listed d a z (p (place d 2)) (p (place d 3))) eb
    ∙ ap (λ (z : Bool). listed d a b z (p (place d 3))) ec
    ∙ ap (λ (z : Bool). listed d a b c z) ee
    ∙ all_listed d a b c e

-- the first list, unless it is empty
none_first : (d : ℕ) (others : List ℕ) → counting_of (places_of d 0) others ≡ others
unfolding numbers
none_first d others = refl

some_first : (d : ℕ) (a b c e : Bool) (others : List ℕ) → (number_of a b c e ≡ 0 → ⊥) → counting_of (places_of d (number_of a b c e)) others ≡ places_of d (number_of a b c e)
unfolding numbers
some_first d true true true true others h = refl
some_first d true true true false others h = refl
some_first d true true false true others h = refl
some_first d true true false false others h = refl
some_first d true false true true others h = refl
some_first d true false true false others h = refl
some_first d true false false true others h = refl
some_first d true false false false others h = refl
some_first d false true true true others h = refl
some_first d false true true false others h = refl
some_first d false true false true others h = refl
some_first d false true false false others h = refl
some_first d false false true true others h = refl
some_first d false false true false others h = refl
some_first d false false false true others h = refl
some_first d false false false false others h = absurd (h refl)

pub counts_good : (c : Comb) (m d : ℕ) (x y z w : Bool) → is_good c m (place d 0) ≡ x → is_good c m (place d 1) ≡ y → is_good c m (place d 2) ≡ z → is_good c m (place d 3) ≡ w
    → (number_of x y z w ≡ 0 → ⊥) → counting c m d ≡ places_of d (number_of x y z w)
unfolding counting
counts_good c m d x y z w ex ey ez ew some =
    let others = filter (is_there c m) (map (place d) (numbers 4)) in
    ap (λ (l : List ℕ). counting_of l others) (filtered (is_good c m) d x y z w ex ey ez ew) ∙ some_first d x y z w others some

pub counts_there : (c : Comb) (m d : ℕ) (x y z w p q r s : Bool) → is_good c m (place d 0) ≡ x → is_good c m (place d 1) ≡ y → is_good c m (place d 2) ≡ z → is_good c m (place d 3) ≡ w
    → number_of x y z w ≡ 0 → is_there c m (place d 0) ≡ p → is_there c m (place d 1) ≡ q → is_there c m (place d 2) ≡ r → is_there c m (place d 3) ≡ s → counting c m d ≡ places_of d (number_of p q r s)
unfolding counting
counts_there c m d x y z w p q r s ex ey ez ew none ep eq er es =
    let there = filter (is_there c m) (map (place d) (numbers 4)) in
    ap (λ (l : List ℕ). counting_of l there) (filtered (is_good c m) d x y z w ex ey ez ew ∙ ap (places_of d) none) ∙ none_first d there ∙ filtered (is_there c m) d p q r s ep eq er es

-- a bit of the number is one of the flags
pub bit_is : (a b c e : Bool) (f : ℕ → Bool) (i : ℕ) → f 0 ≡ a → f 1 ≡ b → f 2 ≡ c → f 3 ≡ e → i < 4 → has (number_of a b c e) i ≡ f i
bit_is a b c e f zero ea eb ec ee h = first a b c e ∙ sym ea
  where
    first : (a b c e : Bool) → has (number_of a b c e) 0 ≡ a
    first true true true true = refl
    first true true true false = refl
    first true true false true = refl
    first true true false false = refl
    first true false true true = refl
    first true false true false = refl
    first true false false true = refl
    first true false false false = refl
    first false true true true = refl
    first false true true false = refl
    first false true false true = refl
    first false true false false = refl
    first false false true true = refl
    first false false true false = refl
    first false false false true = refl
    first false false false false = refl
bit_is a b c e f (suc zero) ea eb ec ee h = second a b c e ∙ sym eb
  where
    second : (a b c e : Bool) → has (number_of a b c e) 1 ≡ b
    second true true true true = refl
    second true true true false = refl
    second true true false true = refl
    second true true false false = refl
    second true false true true = refl
    second true false true false = refl
    second true false false true = refl
    second true false false false = refl
    second false true true true = refl
    second false true true false = refl
    second false true false true = refl
    second false true false false = refl
    second false false true true = refl
    second false false true false = refl
    second false false false true = refl
    second false false false false = refl
bit_is a b c e f (suc (suc zero)) ea eb ec ee h = third a b c e ∙ sym ec
  where
    third : (a b c e : Bool) → has (number_of a b c e) 2 ≡ c
    third true true true true = refl
    third true true true false = refl
    third true true false true = refl
    third true true false false = refl
    third true false true true = refl
    third true false true false = refl
    third true false false true = refl
    third true false false false = refl
    third false true true true = refl
    third false true true false = refl
    third false true false true = refl
    third false true false false = refl
    third false false true true = refl
    third false false true false = refl
    third false false false true = refl
    third false false false false = refl
bit_is a b c e f (suc (suc (suc zero))) ea eb ec ee h = last a b c e ∙ sym ee
  where
    last : (a b c e : Bool) → has (number_of a b c e) 3 ≡ e
    last true true true true = refl
    last true true true false = refl
    last true true false true = refl
    last true true false false = refl
    last true false true true = refl
    last true false true false = refl
    last true false false true = refl
    last true false false false = refl
    last false true true true = refl
    last false true true false = refl
    last false true false true = refl
    last false true false false = refl
    last false false true true = refl
    last false false true false = refl
    last false false false true = refl
    last false false false false = refl
bit_is a b c e f (suc (suc (suc (suc i)))) ea eb ec ee h = absurd (omega (arith, h))
