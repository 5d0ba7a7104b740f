-- Sums over the first items of a list.
use Rattle.std.proofs.Common.{◌≡◌, ℕ, zero, suc, ◌+◌, ◌*◌, ◌^◌, ◌<◌, ◌≤◌, List, [], ◌∷◌, ◌++◌, length, take, get_or, refl, ap, sym, ◌∙◌, subst, arith}
use Rattle.std.specs.Prelude.{ℤ, pos, ◌+ℤ◌, sum_by}
use Rattle.std.proofs.lemmas.Int.{ints}
use Rattle.std.proofs.lemmas.List.Sums.{sum_by-cons}
use Rattle.spec_words.specs.Words.{numbers}
use Rattle.spec_words.proofs.Counting.{numbers_end}
use Rattle.track_arithmetic.specs.Numbers.{nothing, plus, sum_of}
use Rattle.track_arithmetic.specs.declared.complex.Complex.{Complex}

abbrev made : ℤ → ℤ → Complex
made re im = record { re = re; im = im }

associative : (x y z : Complex) → plus x (plus y z) ≡ plus (plus x y) z
associative x y z =
    let re : x.re +ℤ (y.re +ℤ z.re) ≡ (x.re +ℤ y.re) +ℤ z.re = omega (arith, ints) in
    let im : x.im +ℤ (y.im +ℤ z.im) ≡ (x.im +ℤ y.im) +ℤ z.im = omega (arith, ints) in
    ap (λ (t : ℤ). made t (x.im +ℤ (y.im +ℤ z.im))) re ∙ ap (made ((x.re +ℤ y.re) +ℤ z.re)) im

nothing_more : (x : Complex) → plus x nothing ≡ plus nothing x
nothing_more x =
    let re : x.re +ℤ pos 0 ≡ pos 0 +ℤ x.re = omega (arith, ints) in
    let im : x.im +ℤ pos 0 ≡ pos 0 +ℤ x.im = omega (arith, ints) in
    ap (λ (t : ℤ). made t (x.im +ℤ pos 0)) re ∙ ap (made (pos 0 +ℤ x.re)) im

one_more : (f : ℕ → Complex) (is : List ℕ) (n : ℕ) → sum_of f (is ++ n ∷ []) ≡ plus (sum_of f is) (f n)
unfolding sum_of
one_more f [] n = nothing_more (f n)
one_more f (i ∷ is) n = ap (plus (f i)) (one_more f is n) ∙ associative (f i) (sum_of f is) (f n)

pub numbers_none : (f : ℕ → Complex) → sum_of f (numbers 0) ≡ nothing
unfolding sum_of numbers
numbers_none f = refl

-- one number more
pub numbers_more : (f : ℕ → Complex) (n : ℕ) → sum_of f (numbers (n + 1)) ≡ plus (sum_of f (numbers n)) (f n)
numbers_more f n = ap (sum_of f) (numbers_end n) ∙ one_more f (numbers n) n

pub sum_none : (f : ℕ → Complex) (xs : List ℕ) → sum_of f (take 0 xs) ≡ nothing
unfolding sum_of
sum_none f xs = refl

sum_next : (f : ℕ → Complex) (xs : List ℕ) (n : ℕ) → n < length xs → sum_of f (take (suc n) xs) ≡ plus (sum_of f (take n xs)) (f (get_or xs n 0))
unfolding sum_of
sum_next f [] n h = absurd (omega (arith, h))
sum_next f (x ∷ xs) zero h = nothing_more (f x)
sum_next f (x ∷ xs) (suc n) h = ap (plus (f x)) (sum_next f xs n (omega (arith, h))) ∙ associative (f x) (sum_of f (take n xs)) (f (get_or xs n 0))

-- one item more
pub sum_more : (f : ℕ → Complex) (xs : List ℕ) (n : ℕ) → n < length xs → sum_of f (take (n + 1) xs) ≡ plus (sum_of f (take n xs)) (f (get_or xs n 0))
sum_more f xs n h = let e : n + 1 ≡ suc n = omega arith in ap (λ (z : ℕ). sum_of f (take z xs)) e ∙ sum_next f xs n h

pub total_none : (f : ℕ → ℕ) (xs : List ℕ) → sum_by f (take 0 xs) ≡ 0
total_none f xs = refl

total_next : (f : ℕ → ℕ) (xs : List ℕ) (n : ℕ) → n < length xs → sum_by f (take (suc n) xs) ≡ sum_by f (take n xs) + f (get_or xs n 0)
total_next f [] n h = absurd (omega (arith, h))
total_next f (x ∷ xs) zero h = let e = sum_by-cons f x [] in omega (arith, e)
total_next f (x ∷ xs) (suc n) h = let r = total_next f xs n (omega (arith, h)) in let e = sum_by-cons f x (take (suc n) xs) in let d = sum_by-cons f x (take n xs) in omega (arith, r, e, d)

pub total_more : (f : ℕ → ℕ) (xs : List ℕ) (n : ℕ) → n < length xs → sum_by f (take (n + 1) xs) ≡ sum_by f (take n xs) + f (get_or xs n 0)
total_more f xs n h = let e : n + 1 ≡ suc n = omega arith in ap (λ (z : ℕ). sum_by f (take z xs)) e ∙ total_next f xs n h
