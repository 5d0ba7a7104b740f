-- The nearest point of an axis by the middles between its levels.
use Rattle.std.proofs.Common.{◌≡◌, ℕ, zero, suc, ◌+◌, ◌-◌, ◌*◌, ◌<◌, ◌≤◌, Bool, true, false, cond, ◌&&◌, ◌||◌, List, [], ◌∷◌, length, get_or, ◌⊎◌, inl, inr, refl, sym, ap, ap₂, ◌∙◌, arith, Option, Some}
use mir.Val.{bool_byte}
use lib.Signed.{lt_z}
use Rattle.std.specs.Prelude.{nat_abs, ℤ, pos, negsuc, neg_ℤ, ◌+ℤ◌, ◌<ℤ◌, ◌≤ℤ◌, nat_lt, nat_le, ◌==◌, int_le, find}
use Rattle.std.specs.List.{list_all}
use Rattle.std.proofs.lemmas.Int.{ints}
use Rattle.std.proofs.lemmas.Bool.{cases_lt, lt-ltb, le-ltb, le-leb, lt-leb}
use Rattle.std.proofs.lemmas.Bool.Decides.{nat_tests}
use Rattle.std.specs.Option.{option_map_or}
use Rattle.spec_words.specs.Bits.{bit}
use Rattle.mode_set.specs.Levels.{levels}
use Rattle.mode_set.specs.declared.modes.Shape.{Shape}
use Rattle.mode_set.specs.declared.modes.Shape.TheVariants.{Qpsk, Qam16, Qam64}
use Rattle.mode_set.specs.declared.modes.Hierarchy.{Hierarchy}
use Rattle.mode_set.specs.declared.modes.Hierarchy.TheVariants.{Flat, Alpha1, Alpha2, Alpha4}
use Rattle.qam_map.specs.Points.{Point, distance}
use Rattle.hard_decision.specs.Bounds.{bounds}
use Rattle.hard_decision.specs.Hard.{is_preferred, nearest, axis_bit}

-- ---- one point against another, by their values

abbrev prefers : ℤ → ℤ → ℤ → Bool
prefers x v w = nat_lt (distance x v) (distance x w) || ((distance x v == distance x w) && int_le w v)

or_right : (b c : Bool) → c ≡ true → (b || c) ≡ true
or_right true c e = refl
or_right false c e = e

and_both : (b c : Bool) → b ≡ true → c ≡ true → (b && c) ≡ true
and_both b c e f = ap₂ (λ x y. x && y) e f

-- the greater one wins from the middle on
greater_wins : (x v w : ℤ) → w <ℤ v → (v +ℤ w) ≤ℤ (x +ℤ x) → prefers x v w ≡ true
greater_wins x v w less from = go (cases_lt (distance x v) (distance x w))
  where
    go : (distance x v < distance x w) ⊎ (distance x w ≤ distance x v) → prefers x v w ≡ true
    go (inl l) = ap (λ (b : Bool). b || ((distance x v == distance x w) && int_le w v)) (lt-ltb (distance x v) (distance x w) l)
    go (inr l) =
        let near : distance x v ≤ distance x w = omega (arith, ints, less, from) in
        let same : distance x v ≡ distance x w = omega (arith, near, l) in
        let test : (distance x v == distance x w) ≡ true = grind (arith, nat_tests) in
        let order : int_le w v ≡ true = grind (arith, ints) in
        or_right (nat_lt (distance x v) (distance x w)) ((distance x v == distance x w) && int_le w v) (and_both (distance x v == distance x w) (int_le w v) test order)

lesser_wins : (x v w : ℤ) → v <ℤ w → (x +ℤ x) <ℤ (v +ℤ w) → prefers x v w ≡ true
lesser_wins x v w less below =
    let near : distance x v < distance x w = omega (arith, ints, less, below) in
    ap (λ (b : Bool). b || ((distance x v == distance x w) && int_le w v)) (lt-ltb (distance x v) (distance x w) near)

itself : (x v : ℤ) → prefers x v v ≡ true
itself x v =
    let test : (distance x v == distance x v) ≡ true = grind (arith, nat_tests) in
    let order : int_le v v ≡ true = grind (arith, ints) in
    or_right (nat_lt (distance x v) (distance x v)) ((distance x v == distance x v) && int_le v v) (and_both (distance x v == distance x v) (int_le v v) test order)

greater_loses : (x v w : ℤ) → w <ℤ v → (x +ℤ x) <ℤ (v +ℤ w) → prefers x v w ≡ false
greater_loses x v w less below =
    let far : distance x w < distance x v = omega (arith, ints, less, below) in
    let test : (distance x v == distance x w) ≡ false = grind (arith, nat_tests) in
    ap₂ (λ (b c : Bool). b || (c && int_le w v)) (le-ltb (distance x v) (distance x w) (omega (arith, far))) test

lesser_loses : (x v w : ℤ) → v <ℤ w → (v +ℤ w) ≤ℤ (x +ℤ x) → prefers x v w ≡ false
lesser_loses x v w less from = go (cases_lt (distance x w) (distance x v))
  where
    order : int_le w v ≡ false
    order = grind (arith, ints)

    none : (b : Bool) → (b && false) ≡ false
    none true = refl
    none false = refl

    go : (distance x w < distance x v) ⊎ (distance x v ≤ distance x w) → prefers x v w ≡ false
    go (inl l) =
        let test : (distance x v == distance x w) ≡ false = grind (arith, nat_tests) in
        ap₂ (λ (b c : Bool). b || (c && int_le w v)) (le-ltb (distance x v) (distance x w) (omega (arith, l))) test
    go (inr l) =
        let near : distance x w ≤ distance x v = omega (arith, ints, less, from) in
        ap₂ (λ (b c : Bool). b || ((distance x v == distance x w) && c)) (le-ltb (distance x v) (distance x w) near) order ∙ none (distance x v == distance x w)

-- ---- the first that passes

pub found_at : {A : Type 0} (f : A → Bool) (xs : List A) (k : ℕ) (d : A) → k < length xs → f (get_or xs k d) ≡ true → ((i : ℕ) → i < k → f (get_or xs i d) ≡ false) → find f xs ≡ Some (get_or xs k d)
found_at f [] k d l t n = absurd (omega (arith, l))
found_at f (x ∷ xs) zero d l t n = ap (λ (b : Bool). cond b (Some x) (find f xs)) t
found_at f (x ∷ xs) (suc k) d l t n = ap (λ (b : Bool). cond b (Some x) (find f xs)) (n 0 (omega arith)) ∙ found_at f xs k d (omega (arith, l)) t (λ i m. n (suc i) (omega (arith, m)))

pub fails_at : {A : Type 0} (f : A → Bool) (xs : List A) (k : ℕ) (d : A) → k < length xs → f (get_or xs k d) ≡ false → list_all f xs ≡ false
fails_at f [] k d l t = absurd (omega (arith, l))
fails_at f (x ∷ xs) zero d l t = ap (λ (b : Bool). b && list_all f xs) t
fails_at f (x ∷ xs) (suc k) d l t = ap (λ (b : Bool). f x && b) (fails_at f xs k d (omega (arith, l)) t) ∙ none (f x)
  where
    none : (b : Bool) → (b && false) ≡ false
    none true = refl
    none false = refl

-- ---- an axis with 1 level

abbrev pub axis1 : ℕ → List Point
axis1 a = record { label = false ∷ []; value = (pos a) } ∷ record { label = true ∷ []; value = (neg_ℤ (pos a)) } ∷ []

pub positive1_0 : (a n : ℕ) → 0 < a → find (λ p. list_all (is_preferred (pos n) p) (axis1 a)) (axis1 a) ≡ Some (record { label = false ∷ []; value = (pos a) })
positive1_0 a n p0 = found_at (λ p. list_all (is_preferred (pos n) p) (axis1 a)) (axis1 a) 0 none (omega arith) all others
  where
    none : Point
    none = record { label = []; value = pos 0 }

    all : list_all (is_preferred (pos n) (record { label = false ∷ []; value = (pos a) })) (axis1 a) ≡ true
    all = and_both _ _ (itself (pos n) (pos a)) (and_both _ _ (greater_wins (pos n) (pos a) (neg_ℤ (pos a)) (omega (arith, ints, p0)) (omega (arith, ints, p0))) (refl))

    others : (i : ℕ) → i < 0 → list_all (is_preferred (pos n) (get_or (axis1 a) i none)) (axis1 a) ≡ false
    others i l = absurd (omega (arith, l))

pub negative1_0 : (a n : ℕ) → 0 < a → find (λ p. list_all (is_preferred (negsuc n) p) (axis1 a)) (axis1 a) ≡ Some (record { label = true ∷ []; value = (neg_ℤ (pos a)) })
negative1_0 a n p0 = found_at (λ p. list_all (is_preferred (negsuc n) p) (axis1 a)) (axis1 a) 1 none (omega arith) all others
  where
    none : Point
    none = record { label = []; value = pos 0 }

    all : list_all (is_preferred (negsuc n) (record { label = true ∷ []; value = (neg_ℤ (pos a)) })) (axis1 a) ≡ true
    all = and_both _ _ (lesser_wins (negsuc n) (neg_ℤ (pos a)) (pos a) (omega (arith, ints, p0)) (omega (arith, ints, p0))) (and_both _ _ (itself (negsuc n) (neg_ℤ (pos a))) (refl))

    others : (i : ℕ) → i < 1 → list_all (is_preferred (negsuc n) (get_or (axis1 a) i none)) (axis1 a) ≡ false
    others zero l = fails_at (is_preferred (negsuc n) (record { label = false ∷ []; value = (pos a) })) (axis1 a) 1 none (omega arith) (greater_loses (negsuc n) (pos a) (neg_ℤ (pos a)) (omega (arith, ints, p0)) (omega (arith, ints, p0)))
    others (suc i) l = absurd (omega (arith, l))

-- ---- an axis with 2 levels

abbrev pub axis2 : ℕ → ℕ → List Point
axis2 a b = record { label = false ∷ false ∷ []; value = (pos a) } ∷ record { label = false ∷ true ∷ []; value = (pos b) } ∷ record { label = true ∷ false ∷ []; value = (neg_ℤ (pos a)) } ∷ record { label = true ∷ true ∷ []; value = (neg_ℤ (pos b)) } ∷ []

pub positive2_0 : (a b n : ℕ) → 0 < b → b < a → a + b ≤ 2 * n → find (λ p. list_all (is_preferred (pos n) p) (axis2 a b)) (axis2 a b) ≡ Some (record { label = false ∷ false ∷ []; value = (pos a) })
positive2_0 a b n p0 p1 inside = found_at (λ p. list_all (is_preferred (pos n) p) (axis2 a b)) (axis2 a b) 0 none (omega arith) all others
  where
    none : Point
    none = record { label = []; value = pos 0 }

    all : list_all (is_preferred (pos n) (record { label = false ∷ false ∷ []; value = (pos a) })) (axis2 a b) ≡ true
    all = and_both _ _ (itself (pos n) (pos a)) (and_both _ _ (greater_wins (pos n) (pos a) (pos b) (omega (arith, ints, p0, p1, inside)) (omega (arith, ints, p0, p1, inside))) (and_both _ _ (greater_wins (pos n) (pos a) (neg_ℤ (pos a)) (omega (arith, ints, p0, p1, inside)) (omega (arith, ints, p0, p1, inside))) (and_both _ _ (greater_wins (pos n) (pos a) (neg_ℤ (pos b)) (omega (arith, ints, p0, p1, inside)) (omega (arith, ints, p0, p1, inside))) (refl))))

    others : (i : ℕ) → i < 0 → list_all (is_preferred (pos n) (get_or (axis2 a b) i none)) (axis2 a b) ≡ false
    others i l = absurd (omega (arith, l))

pub positive2_1 : (a b n : ℕ) → 0 < b → b < a → 2 * n < a + b → find (λ p. list_all (is_preferred (pos n) p) (axis2 a b)) (axis2 a b) ≡ Some (record { label = false ∷ true ∷ []; value = (pos b) })
positive2_1 a b n p0 p1 outside = found_at (λ p. list_all (is_preferred (pos n) p) (axis2 a b)) (axis2 a b) 1 none (omega arith) all others
  where
    none : Point
    none = record { label = []; value = pos 0 }

    all : list_all (is_preferred (pos n) (record { label = false ∷ true ∷ []; value = (pos b) })) (axis2 a b) ≡ true
    all = and_both _ _ (lesser_wins (pos n) (pos b) (pos a) (omega (arith, ints, p0, p1, outside)) (omega (arith, ints, p0, p1, outside))) (and_both _ _ (itself (pos n) (pos b)) (and_both _ _ (greater_wins (pos n) (pos b) (neg_ℤ (pos a)) (omega (arith, ints, p0, p1, outside)) (omega (arith, ints, p0, p1, outside))) (and_both _ _ (greater_wins (pos n) (pos b) (neg_ℤ (pos b)) (omega (arith, ints, p0, p1, outside)) (omega (arith, ints, p0, p1, outside))) (refl))))

    others : (i : ℕ) → i < 1 → list_all (is_preferred (pos n) (get_or (axis2 a b) i none)) (axis2 a b) ≡ false
    others zero l = fails_at (is_preferred (pos n) (record { label = false ∷ false ∷ []; value = (pos a) })) (axis2 a b) 1 none (omega arith) (greater_loses (pos n) (pos a) (pos b) (omega (arith, ints, p0, p1, outside)) (omega (arith, ints, p0, p1, outside)))
    others (suc i) l = absurd (omega (arith, l))

pub negative2_0 : (a b n : ℕ) → 0 < b → b < a → a + b ≤ 2 * n + 1 → find (λ p. list_all (is_preferred (negsuc n) p) (axis2 a b)) (axis2 a b) ≡ Some (record { label = true ∷ false ∷ []; value = (neg_ℤ (pos a)) })
negative2_0 a b n p0 p1 inside = found_at (λ p. list_all (is_preferred (negsuc n) p) (axis2 a b)) (axis2 a b) 2 none (omega arith) all others
  where
    none : Point
    none = record { label = []; value = pos 0 }

    all : list_all (is_preferred (negsuc n) (record { label = true ∷ false ∷ []; value = (neg_ℤ (pos a)) })) (axis2 a b) ≡ true
    all = and_both _ _ (lesser_wins (negsuc n) (neg_ℤ (pos a)) (pos a) (omega (arith, ints, p0, p1, inside)) (omega (arith, ints, p0, p1, inside))) (and_both _ _ (lesser_wins (negsuc n) (neg_ℤ (pos a)) (pos b) (omega (arith, ints, p0, p1, inside)) (omega (arith, ints, p0, p1, inside))) (and_both _ _ (itself (negsuc n) (neg_ℤ (pos a))) (and_both _ _ (lesser_wins (negsuc n) (neg_ℤ (pos a)) (neg_ℤ (pos b)) (omega (arith, ints, p0, p1, inside)) (omega (arith, ints, p0, p1, inside))) (refl))))

    others : (i : ℕ) → i < 2 → list_all (is_preferred (negsuc n) (get_or (axis2 a b) i none)) (axis2 a b) ≡ false
    others zero l = fails_at (is_preferred (negsuc n) (record { label = false ∷ false ∷ []; value = (pos a) })) (axis2 a b) 3 none (omega arith) (greater_loses (negsuc n) (pos a) (neg_ℤ (pos b)) (omega (arith, ints, p0, p1, inside)) (omega (arith, ints, p0, p1, inside)))
    others (suc zero) l = fails_at (is_preferred (negsuc n) (record { label = false ∷ true ∷ []; value = (pos b) })) (axis2 a b) 3 none (omega arith) (greater_loses (negsuc n) (pos b) (neg_ℤ (pos b)) (omega (arith, ints, p0, p1, inside)) (omega (arith, ints, p0, p1, inside)))
    others (suc (suc i)) l = absurd (omega (arith, l))

pub negative2_1 : (a b n : ℕ) → 0 < b → b < a → 2 * n + 1 < a + b → find (λ p. list_all (is_preferred (negsuc n) p) (axis2 a b)) (axis2 a b) ≡ Some (record { label = true ∷ true ∷ []; value = (neg_ℤ (pos b)) })
negative2_1 a b n p0 p1 outside = found_at (λ p. list_all (is_preferred (negsuc n) p) (axis2 a b)) (axis2 a b) 3 none (omega arith) all others
  where
    none : Point
    none = record { label = []; value = pos 0 }

    all : list_all (is_preferred (negsuc n) (record { label = true ∷ true ∷ []; value = (neg_ℤ (pos b)) })) (axis2 a b) ≡ true
    all = and_both _ _ (lesser_wins (negsuc n) (neg_ℤ (pos b)) (pos a) (omega (arith, ints, p0, p1, outside)) (omega (arith, ints, p0, p1, outside))) (and_both _ _ (lesser_wins (negsuc n) (neg_ℤ (pos b)) (pos b) (omega (arith, ints, p0, p1, outside)) (omega (arith, ints, p0, p1, outside))) (and_both _ _ (greater_wins (negsuc n) (neg_ℤ (pos b)) (neg_ℤ (pos a)) (omega (arith, ints, p0, p1, outside)) (omega (arith, ints, p0, p1, outside))) (and_both _ _ (itself (negsuc n) (neg_ℤ (pos b))) (refl))))

    others : (i : ℕ) → i < 3 → list_all (is_preferred (negsuc n) (get_or (axis2 a b) i none)) (axis2 a b) ≡ false
    others zero l = fails_at (is_preferred (negsuc n) (record { label = false ∷ false ∷ []; value = (pos a) })) (axis2 a b) 3 none (omega arith) (greater_loses (negsuc n) (pos a) (neg_ℤ (pos b)) (omega (arith, ints, p0, p1, outside)) (omega (arith, ints, p0, p1, outside)))
    others (suc zero) l = fails_at (is_preferred (negsuc n) (record { label = false ∷ true ∷ []; value = (pos b) })) (axis2 a b) 3 none (omega arith) (greater_loses (negsuc n) (pos b) (neg_ℤ (pos b)) (omega (arith, ints, p0, p1, outside)) (omega (arith, ints, p0, p1, outside)))
    others (suc (suc zero)) l = fails_at (is_preferred (negsuc n) (record { label = true ∷ false ∷ []; value = (neg_ℤ (pos a)) })) (axis2 a b) 3 none (omega arith) (lesser_loses (negsuc n) (neg_ℤ (pos a)) (neg_ℤ (pos b)) (omega (arith, ints, p0, p1, outside)) (omega (arith, ints, p0, p1, outside)))
    others (suc (suc (suc i))) l = absurd (omega (arith, l))

-- ---- an axis with 4 levels

abbrev pub axis4 : ℕ → ℕ → ℕ → ℕ → List Point
axis4 a b c d = record { label = false ∷ false ∷ false ∷ []; value = (pos a) } ∷ record { label = false ∷ false ∷ true ∷ []; value = (pos b) } ∷ record { label = false ∷ true ∷ true ∷ []; value = (pos c) } ∷ record { label = false ∷ true ∷ false ∷ []; value = (pos d) } ∷ record { label = true ∷ false ∷ false ∷ []; value = (neg_ℤ (pos a)) } ∷ record { label = true ∷ false ∷ true ∷ []; value = (neg_ℤ (pos b)) } ∷ record { label = true ∷ true ∷ true ∷ []; value = (neg_ℤ (pos c)) } ∷ record { label = true ∷ true ∷ false ∷ []; value = (neg_ℤ (pos d)) } ∷ []

pub positive4_0 : (a b c d n : ℕ) → 0 < d → b < a → c < b → d < c → a + b ≤ 2 * n → find (λ p. list_all (is_preferred (pos n) p) (axis4 a b c d)) (axis4 a b c d) ≡ Some (record { label = false ∷ false ∷ false ∷ []; value = (pos a) })
positive4_0 a b c d n p0 p1 p2 p3 inside = found_at (λ p. list_all (is_preferred (pos n) p) (axis4 a b c d)) (axis4 a b c d) 0 none (omega arith) all others
  where
    none : Point
    none = record { label = []; value = pos 0 }

    all : list_all (is_preferred (pos n) (record { label = false ∷ false ∷ false ∷ []; value = (pos a) })) (axis4 a b c d) ≡ true
    all = and_both _ _ (itself (pos n) (pos a)) (and_both _ _ (greater_wins (pos n) (pos a) (pos b) (omega (arith, ints, p0, p1, p2, p3, inside)) (omega (arith, ints, p0, p1, p2, p3, inside))) (and_both _ _ (greater_wins (pos n) (pos a) (pos c) (omega (arith, ints, p0, p1, p2, p3, inside)) (omega (arith, ints, p0, p1, p2, p3, inside))) (and_both _ _ (greater_wins (pos n) (pos a) (pos d) (omega (arith, ints, p0, p1, p2, p3, inside)) (omega (arith, ints, p0, p1, p2, p3, inside))) (and_both _ _ (greater_wins (pos n) (pos a) (neg_ℤ (pos a)) (omega (arith, ints, p0, p1, p2, p3, inside)) (omega (arith, ints, p0, p1, p2, p3, inside))) (and_both _ _ (greater_wins (pos n) (pos a) (neg_ℤ (pos b)) (omega (arith, ints, p0, p1, p2, p3, inside)) (omega (arith, ints, p0, p1, p2, p3, inside))) (and_both _ _ (greater_wins (pos n) (pos a) (neg_ℤ (pos c)) (omega (arith, ints, p0, p1, p2, p3, inside)) (omega (arith, ints, p0, p1, p2, p3, inside))) (and_both _ _ (greater_wins (pos n) (pos a) (neg_ℤ (pos d)) (omega (arith, ints, p0, p1, p2, p3, inside)) (omega (arith, ints, p0, p1, p2, p3, inside))) (refl))))))))

    others : (i : ℕ) → i < 0 → list_all (is_preferred (pos n) (get_or (axis4 a b c d) i none)) (axis4 a b c d) ≡ false
    others i l = absurd (omega (arith, l))

pub positive4_1 : (a b c d n : ℕ) → 0 < d → b < a → c < b → d < c → 2 * n < a + b → b + c ≤ 2 * n → find (λ p. list_all (is_preferred (pos n) p) (axis4 a b c d)) (axis4 a b c d) ≡ Some (record { label = false ∷ false ∷ true ∷ []; value = (pos b) })
positive4_1 a b c d n p0 p1 p2 p3 outside inside = found_at (λ p. list_all (is_preferred (pos n) p) (axis4 a b c d)) (axis4 a b c d) 1 none (omega arith) all others
  where
    none : Point
    none = record { label = []; value = pos 0 }

    all : list_all (is_preferred (pos n) (record { label = false ∷ false ∷ true ∷ []; value = (pos b) })) (axis4 a b c d) ≡ true
    all = and_both _ _ (lesser_wins (pos n) (pos b) (pos a) (omega (arith, ints, p0, p1, p2, p3, outside, inside)) (omega (arith, ints, p0, p1, p2, p3, outside, inside))) (and_both _ _ (itself (pos n) (pos b)) (and_both _ _ (greater_wins (pos n) (pos b) (pos c) (omega (arith, ints, p0, p1, p2, p3, outside, inside)) (omega (arith, ints, p0, p1, p2, p3, outside, inside))) (and_both _ _ (greater_wins (pos n) (pos b) (pos d) (omega (arith, ints, p0, p1, p2, p3, outside, inside)) (omega (arith, ints, p0, p1, p2, p3, outside, inside))) (and_both _ _ (greater_wins (pos n) (pos b) (neg_ℤ (pos a)) (omega (arith, ints, p0, p1, p2, p3, outside, inside)) (omega (arith, ints, p0, p1, p2, p3, outside, inside))) (and_both _ _ (greater_wins (pos n) (pos b) (neg_ℤ (pos b)) (omega (arith, ints, p0, p1, p2, p3, outside, inside)) (omega (arith, ints, p0, p1, p2, p3, outside, inside))) (and_both _ _ (greater_wins (pos n) (pos b) (neg_ℤ (pos c)) (omega (arith, ints, p0, p1, p2, p3, outside, inside)) (omega (arith, ints, p0, p1, p2, p3, outside, inside))) (and_both _ _ (greater_wins (pos n) (pos b) (neg_ℤ (pos d)) (omega (arith, ints, p0, p1, p2, p3, outside, inside)) (omega (arith, ints, p0, p1, p2, p3, outside, inside))) (refl))))))))

    others : (i : ℕ) → i < 1 → list_all (is_preferred (pos n) (get_or (axis4 a b c d) i none)) (axis4 a b c d) ≡ false
    others zero l = fails_at (is_preferred (pos n) (record { label = false ∷ false ∷ false ∷ []; value = (pos a) })) (axis4 a b c d) 1 none (omega arith) (greater_loses (pos n) (pos a) (pos b) (omega (arith, ints, p0, p1, p2, p3, outside, inside)) (omega (arith, ints, p0, p1, p2, p3, outside, inside)))
    others (suc i) l = absurd (omega (arith, l))

pub positive4_2 : (a b c d n : ℕ) → 0 < d → b < a → c < b → d < c → 2 * n < b + c → c + d ≤ 2 * n → find (λ p. list_all (is_preferred (pos n) p) (axis4 a b c d)) (axis4 a b c d) ≡ Some (record { label = false ∷ true ∷ true ∷ []; value = (pos c) })
positive4_2 a b c d n p0 p1 p2 p3 outside inside = found_at (λ p. list_all (is_preferred (pos n) p) (axis4 a b c d)) (axis4 a b c d) 2 none (omega arith) all others
  where
    none : Point
    none = record { label = []; value = pos 0 }

    all : list_all (is_preferred (pos n) (record { label = false ∷ true ∷ true ∷ []; value = (pos c) })) (axis4 a b c d) ≡ true
    all = and_both _ _ (lesser_wins (pos n) (pos c) (pos a) (omega (arith, ints, p0, p1, p2, p3, outside, inside)) (omega (arith, ints, p0, p1, p2, p3, outside, inside))) (and_both _ _ (lesser_wins (pos n) (pos c) (pos b) (omega (arith, ints, p0, p1, p2, p3, outside, inside)) (omega (arith, ints, p0, p1, p2, p3, outside, inside))) (and_both _ _ (itself (pos n) (pos c)) (and_both _ _ (greater_wins (pos n) (pos c) (pos d) (omega (arith, ints, p0, p1, p2, p3, outside, inside)) (omega (arith, ints, p0, p1, p2, p3, outside, inside))) (and_both _ _ (greater_wins (pos n) (pos c) (neg_ℤ (pos a)) (omega (arith, ints, p0, p1, p2, p3, outside, inside)) (omega (arith, ints, p0, p1, p2, p3, outside, inside))) (and_both _ _ (greater_wins (pos n) (pos c) (neg_ℤ (pos b)) (omega (arith, ints, p0, p1, p2, p3, outside, inside)) (omega (arith, ints, p0, p1, p2, p3, outside, inside))) (and_both _ _ (greater_wins (pos n) (pos c) (neg_ℤ (pos c)) (omega (arith, ints, p0, p1, p2, p3, outside, inside)) (omega (arith, ints, p0, p1, p2, p3, outside, inside))) (and_both _ _ (greater_wins (pos n) (pos c) (neg_ℤ (pos d)) (omega (arith, ints, p0, p1, p2, p3, outside, inside)) (omega (arith, ints, p0, p1, p2, p3, outside, inside))) (refl))))))))

    others : (i : ℕ) → i < 2 → list_all (is_preferred (pos n) (get_or (axis4 a b c d) i none)) (axis4 a b c d) ≡ false
    others zero l = fails_at (is_preferred (pos n) (record { label = false ∷ false ∷ false ∷ []; value = (pos a) })) (axis4 a b c d) 1 none (omega arith) (greater_loses (pos n) (pos a) (pos b) (omega (arith, ints, p0, p1, p2, p3, outside, inside)) (omega (arith, ints, p0, p1, p2, p3, outside, inside)))
    others (suc zero) l = fails_at (is_preferred (pos n) (record { label = false ∷ false ∷ true ∷ []; value = (pos b) })) (axis4 a b c d) 2 none (omega arith) (greater_loses (pos n) (pos b) (pos c) (omega (arith, ints, p0, p1, p2, p3, outside, inside)) (omega (arith, ints, p0, p1, p2, p3, outside, inside)))
    others (suc (suc i)) l = absurd (omega (arith, l))

pub positive4_3 : (a b c d n : ℕ) → 0 < d → b < a → c < b → d < c → 2 * n < c + d → find (λ p. list_all (is_preferred (pos n) p) (axis4 a b c d)) (axis4 a b c d) ≡ Some (record { label = false ∷ true ∷ false ∷ []; value = (pos d) })
positive4_3 a b c d n p0 p1 p2 p3 outside = found_at (λ p. list_all (is_preferred (pos n) p) (axis4 a b c d)) (axis4 a b c d) 3 none (omega arith) all others
  where
    none : Point
    none = record { label = []; value = pos 0 }

    all : list_all (is_preferred (pos n) (record { label = false ∷ true ∷ false ∷ []; value = (pos d) })) (axis4 a b c d) ≡ true
    all = and_both _ _ (lesser_wins (pos n) (pos d) (pos a) (omega (arith, ints, p0, p1, p2, p3, outside)) (omega (arith, ints, p0, p1, p2, p3, outside))) (and_both _ _ (lesser_wins (pos n) (pos d) (pos b) (omega (arith, ints, p0, p1, p2, p3, outside)) (omega (arith, ints, p0, p1, p2, p3, outside))) (and_both _ _ (lesser_wins (pos n) (pos d) (pos c) (omega (arith, ints, p0, p1, p2, p3, outside)) (omega (arith, ints, p0, p1, p2, p3, outside))) (and_both _ _ (itself (pos n) (pos d)) (and_both _ _ (greater_wins (pos n) (pos d) (neg_ℤ (pos a)) (omega (arith, ints, p0, p1, p2, p3, outside)) (omega (arith, ints, p0, p1, p2, p3, outside))) (and_both _ _ (greater_wins (pos n) (pos d) (neg_ℤ (pos b)) (omega (arith, ints, p0, p1, p2, p3, outside)) (omega (arith, ints, p0, p1, p2, p3, outside))) (and_both _ _ (greater_wins (pos n) (pos d) (neg_ℤ (pos c)) (omega (arith, ints, p0, p1, p2, p3, outside)) (omega (arith, ints, p0, p1, p2, p3, outside))) (and_both _ _ (greater_wins (pos n) (pos d) (neg_ℤ (pos d)) (omega (arith, ints, p0, p1, p2, p3, outside)) (omega (arith, ints, p0, p1, p2, p3, outside))) (refl))))))))

    others : (i : ℕ) → i < 3 → list_all (is_preferred (pos n) (get_or (axis4 a b c d) i none)) (axis4 a b c d) ≡ false
    others zero l = fails_at (is_preferred (pos n) (record { label = false ∷ false ∷ false ∷ []; value = (pos a) })) (axis4 a b c d) 1 none (omega arith) (greater_loses (pos n) (pos a) (pos b) (omega (arith, ints, p0, p1, p2, p3, outside)) (omega (arith, ints, p0, p1, p2, p3, outside)))
    others (suc zero) l = fails_at (is_preferred (pos n) (record { label = false ∷ false ∷ true ∷ []; value = (pos b) })) (axis4 a b c d) 2 none (omega arith) (greater_loses (pos n) (pos b) (pos c) (omega (arith, ints, p0, p1, p2, p3, outside)) (omega (arith, ints, p0, p1, p2, p3, outside)))
    others (suc (suc zero)) l = fails_at (is_preferred (pos n) (record { label = false ∷ true ∷ true ∷ []; value = (pos c) })) (axis4 a b c d) 3 none (omega arith) (greater_loses (pos n) (pos c) (pos d) (omega (arith, ints, p0, p1, p2, p3, outside)) (omega (arith, ints, p0, p1, p2, p3, outside)))
    others (suc (suc (suc i))) l = absurd (omega (arith, l))

pub negative4_0 : (a b c d n : ℕ) → 0 < d → b < a → c < b → d < c → a + b ≤ 2 * n + 1 → find (λ p. list_all (is_preferred (negsuc n) p) (axis4 a b c d)) (axis4 a b c d) ≡ Some (record { label = true ∷ false ∷ false ∷ []; value = (neg_ℤ (pos a)) })
negative4_0 a b c d n p0 p1 p2 p3 inside = found_at (λ p. list_all (is_preferred (negsuc n) p) (axis4 a b c d)) (axis4 a b c d) 4 none (omega arith) all others
  where
    none : Point
    none = record { label = []; value = pos 0 }

    all : list_all (is_preferred (negsuc n) (record { label = true ∷ false ∷ false ∷ []; value = (neg_ℤ (pos a)) })) (axis4 a b c d) ≡ true
    all = and_both _ _ (lesser_wins (negsuc n) (neg_ℤ (pos a)) (pos a) (omega (arith, ints, p0, p1, p2, p3, inside)) (omega (arith, ints, p0, p1, p2, p3, inside))) (and_both _ _ (lesser_wins (negsuc n) (neg_ℤ (pos a)) (pos b) (omega (arith, ints, p0, p1, p2, p3, inside)) (omega (arith, ints, p0, p1, p2, p3, inside))) (and_both _ _ (lesser_wins (negsuc n) (neg_ℤ (pos a)) (pos c) (omega (arith, ints, p0, p1, p2, p3, inside)) (omega (arith, ints, p0, p1, p2, p3, inside))) (and_both _ _ (lesser_wins (negsuc n) (neg_ℤ (pos a)) (pos d) (omega (arith, ints, p0, p1, p2, p3, inside)) (omega (arith, ints, p0, p1, p2, p3, inside))) (and_both _ _ (itself (negsuc n) (neg_ℤ (pos a))) (and_both _ _ (lesser_wins (negsuc n) (neg_ℤ (pos a)) (neg_ℤ (pos b)) (omega (arith, ints, p0, p1, p2, p3, inside)) (omega (arith, ints, p0, p1, p2, p3, inside))) (and_both _ _ (lesser_wins (negsuc n) (neg_ℤ (pos a)) (neg_ℤ (pos c)) (omega (arith, ints, p0, p1, p2, p3, inside)) (omega (arith, ints, p0, p1, p2, p3, inside))) (and_both _ _ (lesser_wins (negsuc n) (neg_ℤ (pos a)) (neg_ℤ (pos d)) (omega (arith, ints, p0, p1, p2, p3, inside)) (omega (arith, ints, p0, p1, p2, p3, inside))) (refl))))))))

    others : (i : ℕ) → i < 4 → list_all (is_preferred (negsuc n) (get_or (axis4 a b c d) i none)) (axis4 a b c d) ≡ false
    others zero l = fails_at (is_preferred (negsuc n) (record { label = false ∷ false ∷ false ∷ []; value = (pos a) })) (axis4 a b c d) 7 none (omega arith) (greater_loses (negsuc n) (pos a) (neg_ℤ (pos d)) (omega (arith, ints, p0, p1, p2, p3, inside)) (omega (arith, ints, p0, p1, p2, p3, inside)))
    others (suc zero) l = fails_at (is_preferred (negsuc n) (record { label = false ∷ false ∷ true ∷ []; value = (pos b) })) (axis4 a b c d) 7 none (omega arith) (greater_loses (negsuc n) (pos b) (neg_ℤ (pos d)) (omega (arith, ints, p0, p1, p2, p3, inside)) (omega (arith, ints, p0, p1, p2, p3, inside)))
    others (suc (suc zero)) l = fails_at (is_preferred (negsuc n) (record { label = false ∷ true ∷ true ∷ []; value = (pos c) })) (axis4 a b c d) 7 none (omega arith) (greater_loses (negsuc n) (pos c) (neg_ℤ (pos d)) (omega (arith, ints, p0, p1, p2, p3, inside)) (omega (arith, ints, p0, p1, p2, p3, inside)))
    others (suc (suc (suc zero))) l = fails_at (is_preferred (negsuc n) (record { label = false ∷ true ∷ false ∷ []; value = (pos d) })) (axis4 a b c d) 7 none (omega arith) (greater_loses (negsuc n) (pos d) (neg_ℤ (pos d)) (omega (arith, ints, p0, p1, p2, p3, inside)) (omega (arith, ints, p0, p1, p2, p3, inside)))
    others (suc (suc (suc (suc i)))) l = absurd (omega (arith, l))

pub negative4_1 : (a b c d n : ℕ) → 0 < d → b < a → c < b → d < c → 2 * n + 1 < a + b → b + c ≤ 2 * n + 1 → find (λ p. list_all (is_preferred (negsuc n) p) (axis4 a b c d)) (axis4 a b c d) ≡ Some (record { label = true ∷ false ∷ true ∷ []; value = (neg_ℤ (pos b)) })
negative4_1 a b c d n p0 p1 p2 p3 outside inside = found_at (λ p. list_all (is_preferred (negsuc n) p) (axis4 a b c d)) (axis4 a b c d) 5 none (omega arith) all others
  where
    none : Point
    none = record { label = []; value = pos 0 }

    all : list_all (is_preferred (negsuc n) (record { label = true ∷ false ∷ true ∷ []; value = (neg_ℤ (pos b)) })) (axis4 a b c d) ≡ true
    all = and_both _ _ (lesser_wins (negsuc n) (neg_ℤ (pos b)) (pos a) (omega (arith, ints, p0, p1, p2, p3, outside, inside)) (omega (arith, ints, p0, p1, p2, p3, outside, inside))) (and_both _ _ (lesser_wins (negsuc n) (neg_ℤ (pos b)) (pos b) (omega (arith, ints, p0, p1, p2, p3, outside, inside)) (omega (arith, ints, p0, p1, p2, p3, outside, inside))) (and_both _ _ (lesser_wins (negsuc n) (neg_ℤ (pos b)) (pos c) (omega (arith, ints, p0, p1, p2, p3, outside, inside)) (omega (arith, ints, p0, p1, p2, p3, outside, inside))) (and_both _ _ (lesser_wins (negsuc n) (neg_ℤ (pos b)) (pos d) (omega (arith, ints, p0, p1, p2, p3, outside, inside)) (omega (arith, ints, p0, p1, p2, p3, outside, inside))) (and_both _ _ (greater_wins (negsuc n) (neg_ℤ (pos b)) (neg_ℤ (pos a)) (omega (arith, ints, p0, p1, p2, p3, outside, inside)) (omega (arith, ints, p0, p1, p2, p3, outside, inside))) (and_both _ _ (itself (negsuc n) (neg_ℤ (pos b))) (and_both _ _ (lesser_wins (negsuc n) (neg_ℤ (pos b)) (neg_ℤ (pos c)) (omega (arith, ints, p0, p1, p2, p3, outside, inside)) (omega (arith, ints, p0, p1, p2, p3, outside, inside))) (and_both _ _ (lesser_wins (negsuc n) (neg_ℤ (pos b)) (neg_ℤ (pos d)) (omega (arith, ints, p0, p1, p2, p3, outside, inside)) (omega (arith, ints, p0, p1, p2, p3, outside, inside))) (refl))))))))

    others : (i : ℕ) → i < 5 → list_all (is_preferred (negsuc n) (get_or (axis4 a b c d) i none)) (axis4 a b c d) ≡ false
    others zero l = fails_at (is_preferred (negsuc n) (record { label = false ∷ false ∷ false ∷ []; value = (pos a) })) (axis4 a b c d) 7 none (omega arith) (greater_loses (negsuc n) (pos a) (neg_ℤ (pos d)) (omega (arith, ints, p0, p1, p2, p3, outside, inside)) (omega (arith, ints, p0, p1, p2, p3, outside, inside)))
    others (suc zero) l = fails_at (is_preferred (negsuc n) (record { label = false ∷ false ∷ true ∷ []; value = (pos b) })) (axis4 a b c d) 7 none (omega arith) (greater_loses (negsuc n) (pos b) (neg_ℤ (pos d)) (omega (arith, ints, p0, p1, p2, p3, outside, inside)) (omega (arith, ints, p0, p1, p2, p3, outside, inside)))
    others (suc (suc zero)) l = fails_at (is_preferred (negsuc n) (record { label = false ∷ true ∷ true ∷ []; value = (pos c) })) (axis4 a b c d) 7 none (omega arith) (greater_loses (negsuc n) (pos c) (neg_ℤ (pos d)) (omega (arith, ints, p0, p1, p2, p3, outside, inside)) (omega (arith, ints, p0, p1, p2, p3, outside, inside)))
    others (suc (suc (suc zero))) l = fails_at (is_preferred (negsuc n) (record { label = false ∷ true ∷ false ∷ []; value = (pos d) })) (axis4 a b c d) 7 none (omega arith) (greater_loses (negsuc n) (pos d) (neg_ℤ (pos d)) (omega (arith, ints, p0, p1, p2, p3, outside, inside)) (omega (arith, ints, p0, p1, p2, p3, outside, inside)))
    others (suc (suc (suc (suc zero)))) l = fails_at (is_preferred (negsuc n) (record { label = true ∷ false ∷ false ∷ []; value = (neg_ℤ (pos a)) })) (axis4 a b c d) 5 none (omega arith) (lesser_loses (negsuc n) (neg_ℤ (pos a)) (neg_ℤ (pos b)) (omega (arith, ints, p0, p1, p2, p3, outside, inside)) (omega (arith, ints, p0, p1, p2, p3, outside, inside)))
    others (suc (suc (suc (suc (suc i))))) l = absurd (omega (arith, l))

pub negative4_2 : (a b c d n : ℕ) → 0 < d → b < a → c < b → d < c → 2 * n + 1 < b + c → c + d ≤ 2 * n + 1 → find (λ p. list_all (is_preferred (negsuc n) p) (axis4 a b c d)) (axis4 a b c d) ≡ Some (record { label = true ∷ true ∷ true ∷ []; value = (neg_ℤ (pos c)) })
negative4_2 a b c d n p0 p1 p2 p3 outside inside = found_at (λ p. list_all (is_preferred (negsuc n) p) (axis4 a b c d)) (axis4 a b c d) 6 none (omega arith) all others
  where
    none : Point
    none = record { label = []; value = pos 0 }

    all : list_all (is_preferred (negsuc n) (record { label = true ∷ true ∷ true ∷ []; value = (neg_ℤ (pos c)) })) (axis4 a b c d) ≡ true
    all = and_both _ _ (lesser_wins (negsuc n) (neg_ℤ (pos c)) (pos a) (omega (arith, ints, p0, p1, p2, p3, outside, inside)) (omega (arith, ints, p0, p1, p2, p3, outside, inside))) (and_both _ _ (lesser_wins (negsuc n) (neg_ℤ (pos c)) (pos b) (omega (arith, ints, p0, p1, p2, p3, outside, inside)) (omega (arith, ints, p0, p1, p2, p3, outside, inside))) (and_both _ _ (lesser_wins (negsuc n) (neg_ℤ (pos c)) (pos c) (omega (arith, ints, p0, p1, p2, p3, outside, inside)) (omega (arith, ints, p0, p1, p2, p3, outside, inside))) (and_both _ _ (lesser_wins (negsuc n) (neg_ℤ (pos c)) (pos d) (omega (arith, ints, p0, p1, p2, p3, outside, inside)) (omega (arith, ints, p0, p1, p2, p3, outside, inside))) (and_both _ _ (greater_wins (negsuc n) (neg_ℤ (pos c)) (neg_ℤ (pos a)) (omega (arith, ints, p0, p1, p2, p3, outside, inside)) (omega (arith, ints, p0, p1, p2, p3, outside, inside))) (and_both _ _ (greater_wins (negsuc n) (neg_ℤ (pos c)) (neg_ℤ (pos b)) (omega (arith, ints, p0, p1, p2, p3, outside, inside)) (omega (arith, ints, p0, p1, p2, p3, outside, inside))) (and_both _ _ (itself (negsuc n) (neg_ℤ (pos c))) (and_both _ _ (lesser_wins (negsuc n) (neg_ℤ (pos c)) (neg_ℤ (pos d)) (omega (arith, ints, p0, p1, p2, p3, outside, inside)) (omega (arith, ints, p0, p1, p2, p3, outside, inside))) (refl))))))))

    others : (i : ℕ) → i < 6 → list_all (is_preferred (negsuc n) (get_or (axis4 a b c d) i none)) (axis4 a b c d) ≡ false
    others zero l = fails_at (is_preferred (negsuc n) (record { label = false ∷ false ∷ false ∷ []; value = (pos a) })) (axis4 a b c d) 7 none (omega arith) (greater_loses (negsuc n) (pos a) (neg_ℤ (pos d)) (omega (arith, ints, p0, p1, p2, p3, outside, inside)) (omega (arith, ints, p0, p1, p2, p3, outside, inside)))
    others (suc zero) l = fails_at (is_preferred (negsuc n) (record { label = false ∷ false ∷ true ∷ []; value = (pos b) })) (axis4 a b c d) 7 none (omega arith) (greater_loses (negsuc n) (pos b) (neg_ℤ (pos d)) (omega (arith, ints, p0, p1, p2, p3, outside, inside)) (omega (arith, ints, p0, p1, p2, p3, outside, inside)))
    others (suc (suc zero)) l = fails_at (is_preferred (negsuc n) (record { label = false ∷ true ∷ true ∷ []; value = (pos c) })) (axis4 a b c d) 7 none (omega arith) (greater_loses (negsuc n) (pos c) (neg_ℤ (pos d)) (omega (arith, ints, p0, p1, p2, p3, outside, inside)) (omega (arith, ints, p0, p1, p2, p3, outside, inside)))
    others (suc (suc (suc zero))) l = fails_at (is_preferred (negsuc n) (record { label = false ∷ true ∷ false ∷ []; value = (pos d) })) (axis4 a b c d) 7 none (omega arith) (greater_loses (negsuc n) (pos d) (neg_ℤ (pos d)) (omega (arith, ints, p0, p1, p2, p3, outside, inside)) (omega (arith, ints, p0, p1, p2, p3, outside, inside)))
    others (suc (suc (suc (suc zero)))) l = fails_at (is_preferred (negsuc n) (record { label = true ∷ false ∷ false ∷ []; value = (neg_ℤ (pos a)) })) (axis4 a b c d) 5 none (omega arith) (lesser_loses (negsuc n) (neg_ℤ (pos a)) (neg_ℤ (pos b)) (omega (arith, ints, p0, p1, p2, p3, outside, inside)) (omega (arith, ints, p0, p1, p2, p3, outside, inside)))
    others (suc (suc (suc (suc (suc zero))))) l = fails_at (is_preferred (negsuc n) (record { label = true ∷ false ∷ true ∷ []; value = (neg_ℤ (pos b)) })) (axis4 a b c d) 6 none (omega arith) (lesser_loses (negsuc n) (neg_ℤ (pos b)) (neg_ℤ (pos c)) (omega (arith, ints, p0, p1, p2, p3, outside, inside)) (omega (arith, ints, p0, p1, p2, p3, outside, inside)))
    others (suc (suc (suc (suc (suc (suc i)))))) l = absurd (omega (arith, l))

pub negative4_3 : (a b c d n : ℕ) → 0 < d → b < a → c < b → d < c → 2 * n + 1 < c + d → find (λ p. list_all (is_preferred (negsuc n) p) (axis4 a b c d)) (axis4 a b c d) ≡ Some (record { label = true ∷ true ∷ false ∷ []; value = (neg_ℤ (pos d)) })
negative4_3 a b c d n p0 p1 p2 p3 outside = found_at (λ p. list_all (is_preferred (negsuc n) p) (axis4 a b c d)) (axis4 a b c d) 7 none (omega arith) all others
  where
    none : Point
    none = record { label = []; value = pos 0 }

    all : list_all (is_preferred (negsuc n) (record { label = true ∷ true ∷ false ∷ []; value = (neg_ℤ (pos d)) })) (axis4 a b c d) ≡ true
    all = and_both _ _ (lesser_wins (negsuc n) (neg_ℤ (pos d)) (pos a) (omega (arith, ints, p0, p1, p2, p3, outside)) (omega (arith, ints, p0, p1, p2, p3, outside))) (and_both _ _ (lesser_wins (negsuc n) (neg_ℤ (pos d)) (pos b) (omega (arith, ints, p0, p1, p2, p3, outside)) (omega (arith, ints, p0, p1, p2, p3, outside))) (and_both _ _ (lesser_wins (negsuc n) (neg_ℤ (pos d)) (pos c) (omega (arith, ints, p0, p1, p2, p3, outside)) (omega (arith, ints, p0, p1, p2, p3, outside))) (and_both _ _ (lesser_wins (negsuc n) (neg_ℤ (pos d)) (pos d) (omega (arith, ints, p0, p1, p2, p3, outside)) (omega (arith, ints, p0, p1, p2, p3, outside))) (and_both _ _ (greater_wins (negsuc n) (neg_ℤ (pos d)) (neg_ℤ (pos a)) (omega (arith, ints, p0, p1, p2, p3, outside)) (omega (arith, ints, p0, p1, p2, p3, outside))) (and_both _ _ (greater_wins (negsuc n) (neg_ℤ (pos d)) (neg_ℤ (pos b)) (omega (arith, ints, p0, p1, p2, p3, outside)) (omega (arith, ints, p0, p1, p2, p3, outside))) (and_both _ _ (greater_wins (negsuc n) (neg_ℤ (pos d)) (neg_ℤ (pos c)) (omega (arith, ints, p0, p1, p2, p3, outside)) (omega (arith, ints, p0, p1, p2, p3, outside))) (and_both _ _ (itself (negsuc n) (neg_ℤ (pos d))) (refl))))))))

    others : (i : ℕ) → i < 7 → list_all (is_preferred (negsuc n) (get_or (axis4 a b c d) i none)) (axis4 a b c d) ≡ false
    others zero l = fails_at (is_preferred (negsuc n) (record { label = false ∷ false ∷ false ∷ []; value = (pos a) })) (axis4 a b c d) 7 none (omega arith) (greater_loses (negsuc n) (pos a) (neg_ℤ (pos d)) (omega (arith, ints, p0, p1, p2, p3, outside)) (omega (arith, ints, p0, p1, p2, p3, outside)))
    others (suc zero) l = fails_at (is_preferred (negsuc n) (record { label = false ∷ false ∷ true ∷ []; value = (pos b) })) (axis4 a b c d) 7 none (omega arith) (greater_loses (negsuc n) (pos b) (neg_ℤ (pos d)) (omega (arith, ints, p0, p1, p2, p3, outside)) (omega (arith, ints, p0, p1, p2, p3, outside)))
    others (suc (suc zero)) l = fails_at (is_preferred (negsuc n) (record { label = false ∷ true ∷ true ∷ []; value = (pos c) })) (axis4 a b c d) 7 none (omega arith) (greater_loses (negsuc n) (pos c) (neg_ℤ (pos d)) (omega (arith, ints, p0, p1, p2, p3, outside)) (omega (arith, ints, p0, p1, p2, p3, outside)))
    others (suc (suc (suc zero))) l = fails_at (is_preferred (negsuc n) (record { label = false ∷ true ∷ false ∷ []; value = (pos d) })) (axis4 a b c d) 7 none (omega arith) (greater_loses (negsuc n) (pos d) (neg_ℤ (pos d)) (omega (arith, ints, p0, p1, p2, p3, outside)) (omega (arith, ints, p0, p1, p2, p3, outside)))
    others (suc (suc (suc (suc zero)))) l = fails_at (is_preferred (negsuc n) (record { label = true ∷ false ∷ false ∷ []; value = (neg_ℤ (pos a)) })) (axis4 a b c d) 5 none (omega arith) (lesser_loses (negsuc n) (neg_ℤ (pos a)) (neg_ℤ (pos b)) (omega (arith, ints, p0, p1, p2, p3, outside)) (omega (arith, ints, p0, p1, p2, p3, outside)))
    others (suc (suc (suc (suc (suc zero))))) l = fails_at (is_preferred (negsuc n) (record { label = true ∷ false ∷ true ∷ []; value = (neg_ℤ (pos b)) })) (axis4 a b c d) 6 none (omega arith) (lesser_loses (negsuc n) (neg_ℤ (pos b)) (neg_ℤ (pos c)) (omega (arith, ints, p0, p1, p2, p3, outside)) (omega (arith, ints, p0, p1, p2, p3, outside)))
    others (suc (suc (suc (suc (suc (suc zero)))))) l = fails_at (is_preferred (negsuc n) (record { label = true ∷ true ∷ true ∷ []; value = (neg_ℤ (pos c)) })) (axis4 a b c d) 7 none (omega arith) (lesser_loses (negsuc n) (neg_ℤ (pos c)) (neg_ℤ (pos d)) (omega (arith, ints, p0, p1, p2, p3, outside)) (omega (arith, ints, p0, p1, p2, p3, outside)))
    others (suc (suc (suc (suc (suc (suc (suc i))))))) l = absurd (omega (arith, l))

-- ---- the bits by the tests of the code

-- a list of bits is that of the point of an axis that is found for x
abbrev pub AreBits : List Point → ℤ → List Bool → Type 0
AreBits pts x l = (i : ℕ) → get_or l i false ≡ option_map_or (λ (p : Point). bit p.label i) (find (λ p. list_all (is_preferred x p) pts) pts) false

from_point : (pts : List Point) (x : ℤ) (l label : List Bool) (v : ℤ) → find (λ p. list_all (is_preferred x p) pts) pts ≡ Some (record { label = label; value = v }) → ((i : ℕ) → get_or l i false ≡ bit label i) → AreBits pts x l
from_point pts x l label v found same i = same i ∙ ap (λ (o : Option Point). option_map_or (λ (p : Point). bit p.label i) o false) (sym found)

padded1 : (s : Bool) (i : ℕ) → get_or (s ∷ false ∷ false ∷ []) i false ≡ bit (s ∷ []) i
padded1 s zero = refl
padded1 s (suc zero) = refl
padded1 s (suc (suc zero)) = refl
padded1 s (suc (suc (suc i))) = refl

padded2 : (s o : Bool) (i : ℕ) → get_or (s ∷ o ∷ false ∷ []) i false ≡ bit (s ∷ o ∷ []) i
padded2 s o zero = refl
padded2 s o (suc zero) = refl
padded2 s o (suc (suc zero)) = refl
padded2 s o (suc (suc (suc i))) = refl

no_inner : (t : ℕ) (b : Bool) → (b && nat_lt t 0) ≡ false
no_inner t true = le-ltb t 0 (omega arith)
no_inner t false = refl

three : (s o i p q : Bool) → o ≡ p → i ≡ q → (s ∷ o ∷ i ∷ []) ≡ (s ∷ p ∷ q ∷ [])
three s o i p q e f = ap₂ (λ (x y : Bool). s ∷ x ∷ y ∷ []) e f

both : (b c p q r : Bool) → b ≡ p → c ≡ q → (p && q) ≡ r → (b && c) ≡ r
both b c p q r e f g = ap₂ (λ (x y : Bool). x && y) e f ∙ g

list_bits : (l m : List Bool) (i : ℕ) → l ≡ m → get_or l i false ≡ get_or m i false
list_bits l m i e = ap (λ (z : List Bool). get_or z i false) e

pub positive_bits1 : (a n : ℕ) → 0 < a → AreBits (axis1 a) (pos n) (false ∷ nat_lt (2 * n) 0 ∷ (nat_le 0 (2 * n) && nat_lt (2 * n) 0) ∷ [])
positive_bits1 a n p =
    from_point (axis1 a) (pos n) (false ∷ nat_lt (2 * n) 0 ∷ (nat_le 0 (2 * n) && nat_lt (2 * n) 0) ∷ []) (false ∷ []) (pos a) (positive1_0 a n p)
    (λ i. list_bits (false ∷ nat_lt (2 * n) 0 ∷ (nat_le 0 (2 * n) && nat_lt (2 * n) 0) ∷ []) (false ∷ false ∷ false ∷ []) i (three false (nat_lt (2 * n) 0) (nat_le 0 (2 * n) && nat_lt (2 * n) 0) false false (le-ltb (2 * n) 0 (omega arith)) (no_inner (2 * n) (nat_le 0 (2 * n)))) ∙ padded1 false i)

pub positive_bits2 : (a b n : ℕ) → 0 < b → b < a → AreBits (axis2 a b) (pos n) (false ∷ nat_lt (2 * n) (a + b) ∷ (nat_le 0 (2 * n) && nat_lt (2 * n) 0) ∷ [])
positive_bits2 a b n p q = go (cases_lt (2 * n) (a + b))
  where
    l : List Bool
    l = false ∷ nat_lt (2 * n) (a + b) ∷ (nat_le 0 (2 * n) && nat_lt (2 * n) 0) ∷ []

    go : (2 * n < a + b) ⊎ (a + b ≤ 2 * n) → AreBits (axis2 a b) (pos n) l
    go (inl k) =
        from_point (axis2 a b) (pos n) l (false ∷ true ∷ []) (pos b) (positive2_1 a b n p q k)
        (λ i. list_bits l (false ∷ true ∷ false ∷ []) i (three false (nat_lt (2 * n) (a + b)) (nat_le 0 (2 * n) && nat_lt (2 * n) 0) true false (lt-ltb (2 * n) (a + b) k) (no_inner (2 * n) (nat_le 0 (2 * n)))) ∙ padded2 false true i)
    go (inr k) =
        from_point (axis2 a b) (pos n) l (false ∷ false ∷ []) (pos a) (positive2_0 a b n p q k)
        (λ i. list_bits l (false ∷ false ∷ false ∷ []) i (three false (nat_lt (2 * n) (a + b)) (nat_le 0 (2 * n) && nat_lt (2 * n) 0) false false (le-ltb (2 * n) (a + b) k) (no_inner (2 * n) (nat_le 0 (2 * n)))) ∙ padded2 false false i)

pub positive_bits4 : (a b c d n : ℕ) → 0 < d → b < a → c < b → d < c → AreBits (axis4 a b c d) (pos n) (false ∷ nat_lt (2 * n) (b + c) ∷ (nat_le (c + d) (2 * n) && nat_lt (2 * n) (a + b)) ∷ [])
positive_bits4 a b c d n p q r s = outer (cases_lt (2 * n) (a + b))
  where
    l : List Bool
    l = false ∷ nat_lt (2 * n) (b + c) ∷ (nat_le (c + d) (2 * n) && nat_lt (2 * n) (a + b)) ∷ []

    inner : 2 * n < a + b → 2 * n < b + c → (2 * n < c + d) ⊎ (c + d ≤ 2 * n) → AreBits (axis4 a b c d) (pos n) l
    inner k m (inl o) =
        from_point (axis4 a b c d) (pos n) l (false ∷ true ∷ false ∷ []) (pos d) (positive4_3 a b c d n p q r s o)
        (λ i. list_bits l (false ∷ true ∷ false ∷ []) i (three false (nat_lt (2 * n) (b + c)) (nat_le (c + d) (2 * n) && nat_lt (2 * n) (a + b)) true false (lt-ltb (2 * n) (b + c) m) (both (nat_le (c + d) (2 * n)) (nat_lt (2 * n) (a + b)) false true false (lt-leb (c + d) (2 * n) o) (lt-ltb (2 * n) (a + b) k) refl)))
    inner k m (inr o) =
        from_point (axis4 a b c d) (pos n) l (false ∷ true ∷ true ∷ []) (pos c) (positive4_2 a b c d n p q r s m o)
        (λ i. list_bits l (false ∷ true ∷ true ∷ []) i (three false (nat_lt (2 * n) (b + c)) (nat_le (c + d) (2 * n) && nat_lt (2 * n) (a + b)) true true (lt-ltb (2 * n) (b + c) m) (both (nat_le (c + d) (2 * n)) (nat_lt (2 * n) (a + b)) true true true (le-leb (c + d) (2 * n) o) (lt-ltb (2 * n) (a + b) k) refl)))

    middle : 2 * n < a + b → (2 * n < b + c) ⊎ (b + c ≤ 2 * n) → AreBits (axis4 a b c d) (pos n) l
    middle k (inl m) = inner k m (cases_lt (2 * n) (c + d))
    middle k (inr m) =
        from_point (axis4 a b c d) (pos n) l (false ∷ false ∷ true ∷ []) (pos b) (positive4_1 a b c d n p q r s k m)
        (λ i. list_bits l (false ∷ false ∷ true ∷ []) i (three false (nat_lt (2 * n) (b + c)) (nat_le (c + d) (2 * n) && nat_lt (2 * n) (a + b)) false true (le-ltb (2 * n) (b + c) m) (both (nat_le (c + d) (2 * n)) (nat_lt (2 * n) (a + b)) true true true (le-leb (c + d) (2 * n) (omega (arith, p, q, r, s, k, m))) (lt-ltb (2 * n) (a + b) k) refl)))

    outer : (2 * n < a + b) ⊎ (a + b ≤ 2 * n) → AreBits (axis4 a b c d) (pos n) l
    outer (inl k) = middle k (cases_lt (2 * n) (b + c))
    outer (inr k) =
        from_point (axis4 a b c d) (pos n) l (false ∷ false ∷ false ∷ []) (pos a) (positive4_0 a b c d n p q r s k)
        (λ i. list_bits l (false ∷ false ∷ false ∷ []) i (three false (nat_lt (2 * n) (b + c)) (nat_le (c + d) (2 * n) && nat_lt (2 * n) (a + b)) false false (le-ltb (2 * n) (b + c) (omega (arith, p, q, r, s, k))) (both (nat_le (c + d) (2 * n)) (nat_lt (2 * n) (a + b)) true false false (le-leb (c + d) (2 * n) (omega (arith, p, q, r, s, k))) (le-ltb (2 * n) (a + b) k) refl)))

pub negative_bits1 : (a n : ℕ) → 0 < a → AreBits (axis1 a) (negsuc n) (true ∷ nat_lt (2 * n + 1) 0 ∷ (nat_le 0 (2 * n + 1) && nat_lt (2 * n + 1) 0) ∷ [])
negative_bits1 a n p =
    from_point (axis1 a) (negsuc n) (true ∷ nat_lt (2 * n + 1) 0 ∷ (nat_le 0 (2 * n + 1) && nat_lt (2 * n + 1) 0) ∷ []) (true ∷ []) (neg_ℤ (pos a)) (negative1_0 a n p)
    (λ i. list_bits (true ∷ nat_lt (2 * n + 1) 0 ∷ (nat_le 0 (2 * n + 1) && nat_lt (2 * n + 1) 0) ∷ []) (true ∷ false ∷ false ∷ []) i (three true (nat_lt (2 * n + 1) 0) (nat_le 0 (2 * n + 1) && nat_lt (2 * n + 1) 0) false false (le-ltb (2 * n + 1) 0 (omega arith)) (no_inner (2 * n + 1) (nat_le 0 (2 * n + 1)))) ∙ padded1 true i)

pub negative_bits2 : (a b n : ℕ) → 0 < b → b < a → AreBits (axis2 a b) (negsuc n) (true ∷ nat_lt (2 * n + 1) (a + b) ∷ (nat_le 0 (2 * n + 1) && nat_lt (2 * n + 1) 0) ∷ [])
negative_bits2 a b n p q = go (cases_lt (2 * n + 1) (a + b))
  where
    l : List Bool
    l = true ∷ nat_lt (2 * n + 1) (a + b) ∷ (nat_le 0 (2 * n + 1) && nat_lt (2 * n + 1) 0) ∷ []

    go : (2 * n + 1 < a + b) ⊎ (a + b ≤ 2 * n + 1) → AreBits (axis2 a b) (negsuc n) l
    go (inl k) =
        from_point (axis2 a b) (negsuc n) l (true ∷ true ∷ []) (neg_ℤ (pos b)) (negative2_1 a b n p q k)
        (λ i. list_bits l (true ∷ true ∷ false ∷ []) i (three true (nat_lt (2 * n + 1) (a + b)) (nat_le 0 (2 * n + 1) && nat_lt (2 * n + 1) 0) true false (lt-ltb (2 * n + 1) (a + b) k) (no_inner (2 * n + 1) (nat_le 0 (2 * n + 1)))) ∙ padded2 true true i)
    go (inr k) =
        from_point (axis2 a b) (negsuc n) l (true ∷ false ∷ []) (neg_ℤ (pos a)) (negative2_0 a b n p q k)
        (λ i. list_bits l (true ∷ false ∷ false ∷ []) i (three true (nat_lt (2 * n + 1) (a + b)) (nat_le 0 (2 * n + 1) && nat_lt (2 * n + 1) 0) false false (le-ltb (2 * n + 1) (a + b) k) (no_inner (2 * n + 1) (nat_le 0 (2 * n + 1)))) ∙ padded2 true false i)

pub negative_bits4 : (a b c d n : ℕ) → 0 < d → b < a → c < b → d < c → AreBits (axis4 a b c d) (negsuc n) (true ∷ nat_lt (2 * n + 1) (b + c) ∷ (nat_le (c + d) (2 * n + 1) && nat_lt (2 * n + 1) (a + b)) ∷ [])
negative_bits4 a b c d n p q r s = outer (cases_lt (2 * n + 1) (a + b))
  where
    l : List Bool
    l = true ∷ nat_lt (2 * n + 1) (b + c) ∷ (nat_le (c + d) (2 * n + 1) && nat_lt (2 * n + 1) (a + b)) ∷ []

    inner : 2 * n + 1 < a + b → 2 * n + 1 < b + c → (2 * n + 1 < c + d) ⊎ (c + d ≤ 2 * n + 1) → AreBits (axis4 a b c d) (negsuc n) l
    inner k m (inl o) =
        from_point (axis4 a b c d) (negsuc n) l (true ∷ true ∷ false ∷ []) (neg_ℤ (pos d)) (negative4_3 a b c d n p q r s o)
        (λ i. list_bits l (true ∷ true ∷ false ∷ []) i (three true (nat_lt (2 * n + 1) (b + c)) (nat_le (c + d) (2 * n + 1) && nat_lt (2 * n + 1) (a + b)) true false (lt-ltb (2 * n + 1) (b + c) m) (both (nat_le (c + d) (2 * n + 1)) (nat_lt (2 * n + 1) (a + b)) false true false (lt-leb (c + d) (2 * n + 1) o) (lt-ltb (2 * n + 1) (a + b) k) refl)))
    inner k m (inr o) =
        from_point (axis4 a b c d) (negsuc n) l (true ∷ true ∷ true ∷ []) (neg_ℤ (pos c)) (negative4_2 a b c d n p q r s m o)
        (λ i. list_bits l (true ∷ true ∷ true ∷ []) i (three true (nat_lt (2 * n + 1) (b + c)) (nat_le (c + d) (2 * n + 1) && nat_lt (2 * n + 1) (a + b)) true true (lt-ltb (2 * n + 1) (b + c) m) (both (nat_le (c + d) (2 * n + 1)) (nat_lt (2 * n + 1) (a + b)) true true true (le-leb (c + d) (2 * n + 1) o) (lt-ltb (2 * n + 1) (a + b) k) refl)))

    middle : 2 * n + 1 < a + b → (2 * n + 1 < b + c) ⊎ (b + c ≤ 2 * n + 1) → AreBits (axis4 a b c d) (negsuc n) l
    middle k (inl m) = inner k m (cases_lt (2 * n + 1) (c + d))
    middle k (inr m) =
        from_point (axis4 a b c d) (negsuc n) l (true ∷ false ∷ true ∷ []) (neg_ℤ (pos b)) (negative4_1 a b c d n p q r s k m)
        (λ i. list_bits l (true ∷ false ∷ true ∷ []) i (three true (nat_lt (2 * n + 1) (b + c)) (nat_le (c + d) (2 * n + 1) && nat_lt (2 * n + 1) (a + b)) false true (le-ltb (2 * n + 1) (b + c) m) (both (nat_le (c + d) (2 * n + 1)) (nat_lt (2 * n + 1) (a + b)) true true true (le-leb (c + d) (2 * n + 1) (omega (arith, p, q, r, s, k, m))) (lt-ltb (2 * n + 1) (a + b) k) refl)))

    outer : (2 * n + 1 < a + b) ⊎ (a + b ≤ 2 * n + 1) → AreBits (axis4 a b c d) (negsuc n) l
    outer (inl k) = middle k (cases_lt (2 * n + 1) (b + c))
    outer (inr k) =
        from_point (axis4 a b c d) (negsuc n) l (true ∷ false ∷ false ∷ []) (neg_ℤ (pos a)) (negative4_0 a b c d n p q r s k)
        (λ i. list_bits l (true ∷ false ∷ false ∷ []) i (three true (nat_lt (2 * n + 1) (b + c)) (nat_le (c + d) (2 * n + 1) && nat_lt (2 * n + 1) (a + b)) false false (le-ltb (2 * n + 1) (b + c) (omega (arith, p, q, r, s, k))) (both (nat_le (c + d) (2 * n + 1)) (nat_lt (2 * n + 1) (a + b)) true false false (le-leb (c + d) (2 * n + 1) (omega (arith, p, q, r, s, k))) (le-ltb (2 * n + 1) (a + b) k) refl)))

-- ---- the axes of the constellations

-- twice the magnitude, one less on the negative side
abbrev pub twice : ℤ → ℕ
twice (pos n) = 2 * n
twice (negsuc n) = 2 * n + 1

abbrev pub is_negative : ℤ → Bool
is_negative (pos n) = false
is_negative (negsuc n) = true

abbrev pub tests : ℕ → Bool → ℕ × ℕ × ℕ → List Bool
tests t negative b = negative ∷ nat_lt t b.0 ∷ (nat_le b.1 t && nat_lt t b.2) ∷ []

pub bits_are : (s : Shape) (h : Hierarchy) (x : ℤ) (i : ℕ) → get_or (tests (twice x) (is_negative x) (bounds s (levels s h))) i false ≡ axis_bit s h x i
unfolding nearest
bits_are Qpsk h (pos n) i = positive_bits1 11585 n (omega arith) i
bits_are Qpsk h (negsuc n) i = negative_bits1 11585 n (omega arith) i
bits_are Qam16 Flat (pos n) i = positive_bits2 15543 5181 n (omega arith) (omega arith) i
bits_are Qam16 Flat (negsuc n) i = negative_bits2 15543 5181 n (omega arith) (omega arith) i
bits_are Qam16 Alpha1 (pos n) i = positive_bits2 15543 5181 n (omega arith) (omega arith) i
bits_are Qam16 Alpha1 (negsuc n) i = negative_bits2 15543 5181 n (omega arith) (omega arith) i
bits_are Qam16 Alpha2 (pos n) i = positive_bits2 14654 7327 n (omega arith) (omega arith) i
bits_are Qam16 Alpha2 (negsuc n) i = negative_bits2 14654 7327 n (omega arith) (omega arith) i
bits_are Qam16 Alpha4 (pos n) i = positive_bits2 13632 9088 n (omega arith) (omega arith) i
bits_are Qam16 Alpha4 (negsuc n) i = negative_bits2 13632 9088 n (omega arith) (omega arith) i
bits_are Qam64 Flat (pos n) i = positive_bits4 17697 12641 7584 2528 n (omega arith) (omega arith) (omega arith) (omega arith) i
bits_are Qam64 Flat (negsuc n) i = negative_bits4 17697 12641 7584 2528 n (omega arith) (omega arith) (omega arith) (omega arith) i
bits_are Qam64 Alpha1 (pos n) i = positive_bits4 17697 12641 7584 2528 n (omega arith) (omega arith) (omega arith) (omega arith) i
bits_are Qam64 Alpha1 (negsuc n) i = negative_bits4 17697 12641 7584 2528 n (omega arith) (omega arith) (omega arith) (omega arith) i
bits_are Qam64 Alpha2 (pos n) i = positive_bits4 16921 12691 8461 4230 n (omega arith) (omega arith) (omega arith) (omega arith) i
bits_are Qam64 Alpha2 (negsuc n) i = negative_bits4 16921 12691 8461 4230 n (omega arith) (omega arith) (omega arith) (omega arith) i
bits_are Qam64 Alpha4 (pos n) i = positive_bits4 15766 12612 9459 6306 n (omega arith) (omega arith) (omega arith) (omega arith) i
bits_are Qam64 Alpha4 (negsuc n) i = negative_bits4 15766 12612 9459 6306 n (omega arith) (omega arith) (omega arith) (omega arith) i

-- ---- the tests of the code

abbrev code : Bool → ℕ → ℕ → ℕ → ℕ → List Bool
code negative m a b d = negative ∷ nat_lt (2 * m - bool_byte negative) a ∷ (nat_le b (2 * m - bool_byte negative) && nat_lt (2 * m - bool_byte negative) d) ∷ []

code_tests : (x : ℤ) (m a b d : ℕ) → m ≡ nat_abs x → code (lt_z x (pos 0)) m a b d ≡ tests (twice x) (is_negative x) (a, b, d)
code_tests (pos n) m a b d e =
    let none : lt_z (pos n) (pos 0) ≡ false = le-ltb n 0 (omega arith) in
    let same : 2 * m - bool_byte false ≡ 2 * n = omega (arith, e) in
    ap (λ (z : Bool). code z m a b d) none ∙ ap (λ (t : ℕ). tests t false (a, b, d)) same
code_tests (negsuc n) m a b d e =
    let same : 2 * m - bool_byte true ≡ 2 * n + 1 = omega (arith, e) in
    ap (λ (t : ℕ). tests t true (a, b, d)) same

pub code_bits : (s : Shape) (h : Hierarchy) (v : Shape × Hierarchy) (x y : ℤ) (m a b d : ℕ) → y ≡ x → m ≡ nat_abs y → (a, b, d) ≡ bounds s (levels s h) → (s, h) ≡ v
    → (i : ℕ) → get_or (code (lt_z y (pos 0)) m a b d) i false ≡ axis_bit v.0 v.1 x i
code_bits s h v x y m a b d ex em eb ev i =
    ap (λ (l : List Bool). get_or l i false)
    (code_tests y m a b d em ∙ ap (λ (z : ℤ). tests (twice z) (is_negative z) (a, b, d)) ex ∙ ap (λ (z : ℕ × ℕ × ℕ). tests (twice x) (is_negative x) z) eb)
    ∙ bits_are s h x i
    ∙ ap (λ (z : Shape × Hierarchy). axis_bit z.0 z.1 x i) ev
