-- Sums over the numbers below one more.
use Rattle.std.proofs.Common.{◌≡◌, ℕ, zero, suc, ◌+◌, ◌-◌, ◌*◌, ◌^◌, ◌≤◌, List, [], ◌∷◌, ◌++◌, refl, ap, sym, ◌∙◌, subst, arith, add-one, get_or}
use Rattle.std.specs.Prelude.{ℤ, pos, ◌+ℤ◌, ◌*ℤ◌, nat_abs, sum_by}
use Rattle.std.proofs.lemmas.Int.{ints}
use Rattle.std.proofs.lemmas.Nat.{mul-le}
use Rattle.std.proofs.lemmas.List.Sums.{sum_by-append, sum_by-cons}
use Rattle.spec_words.specs.Words.{numbers}
use Rattle.spec_words.proofs.Counting.{numbers_end}
use Rattle.track_arithmetic.specs.Laws.{IsWithin}
use Rattle.track_arithmetic.specs.Numbers.{nothing, plus, sum_of}
use Rattle.track_arithmetic.specs.declared.complex.Complex.{Complex}
use Rattle.track_cells.specs.Sizes.{size_to}

abbrev made : ℤ → ℤ → Complex
made re im = record { re = re; im = im }

associative : (x y z : Complex) → plus x (plus y z) ≡ plus (plus x y) z
associative x y z =
    let re : x.re +ℤ (y.re +ℤ z.re) ≡ (x.re +ℤ y.re) +ℤ z.re = omega (arith, ints) in
    let im : x.im +ℤ (y.im +ℤ z.im) ≡ (x.im +ℤ y.im) +ℤ z.im = omega (arith, ints) in
    ap (λ (t : ℤ). made t (x.im +ℤ (y.im +ℤ z.im))) re ∙ ap (made ((x.re +ℤ y.re) +ℤ z.re)) im

nothing_more : (x : Complex) → plus x nothing ≡ plus nothing x
nothing_more x =
    let re : x.re +ℤ pos 0 ≡ pos 0 +ℤ x.re = omega (arith, ints) in
    let im : x.im +ℤ pos 0 ≡ pos 0 +ℤ x.im = omega (arith, ints) in
    ap (λ (t : ℤ). made t (x.im +ℤ pos 0)) re ∙ ap (made (pos 0 +ℤ x.re)) im

one_more : (f : ℕ → Complex) (is : List ℕ) (n : ℕ) → sum_of f (is ++ n ∷ []) ≡ plus (sum_of f is) (f n)
unfolding sum_of
one_more f [] n = nothing_more (f n)
one_more f (i ∷ is) n = ap (plus (f i)) (one_more f is n) ∙ associative (f i) (sum_of f is) (f n)

pub sum_none : (f : ℕ → Complex) → sum_of f (numbers 0) ≡ nothing
unfolding sum_of numbers
sum_none f = refl

pub sum_more : (f : ℕ → Complex) (n : ℕ) → sum_of f (numbers (n + 1)) ≡ plus (sum_of f (numbers n)) (f n)
sum_more f n = ap (sum_of f) (numbers_end n) ∙ one_more f (numbers n) n

pub total_none : (f : ℕ → ℕ) → sum_by f (numbers 0) ≡ 0
unfolding numbers
total_none f = refl

pub total_more : (f : ℕ → ℕ) (n : ℕ) → sum_by f (numbers (n + 1)) ≡ sum_by f (numbers n) + f n
total_more f n =
    let all = sum_by-append f (numbers n) (n ∷ []) in
    let one = sum_by-cons f n [] in
    ap (sum_by f) (numbers_end n) ∙ omega (arith, all, one)

-- ---- sizes
pub size_none : (row : List ℤ) → size_to 0 row ≡ 0
unfolding size_to
size_none row = refl

size_next : (n : ℕ) (row : List ℤ) → size_to (suc n) row ≡ size_to n row + nat_abs (get_or row n (pos 0))
unfolding size_to
size_next n row = refl

pub size_more : (n : ℕ) (row : List ℤ) → size_to (n + 1) row ≡ size_to n row + nat_abs (get_or row n (pos 0))
size_more n row = ap (λ (z : ℕ). size_to z row) (add-one n) ∙ size_next n row

pub size_grows : (d n : ℕ) (row : List ℤ) → size_to n row ≤ size_to (n + d) row
size_grows zero n row = let e : n + 0 ≡ n = omega arith in let f = ap (λ (z : ℕ). size_to z row) e in omega (arith, f)
size_grows (suc d) n row =
    let e : n + suc d ≡ (n + d) + 1 = omega arith in
    let f = ap (λ (z : ℕ). size_to z row) e in
    omega (arith, f, size_grows d n row, size_more (n + d) row)

-- a sum with one more is within the sizes times the bound
pub sum_within : (n m b : ℕ) (row : List ℤ) (sum x all : Complex) → IsWithin (size_to n row * b) sum → IsWithin (nat_abs (get_or row n (pos 0)) * b) x → ((p q : ℕ) → IsWithin p sum → IsWithin q x → IsWithin (p + q) all) → m ≡ n + 1 → IsWithin (size_to m row * b) all
sum_within n m b row sum x all hs hx h e =
    let r = h (size_to n row * b) (nat_abs (get_or row n (pos 0)) * b) hs hx in
    let size : size_to n row * b + nat_abs (get_or row n (pos 0)) * b ≡ size_to m row * b = rw e (rw (size_more n row) (omega arith)) in
    subst (λ (z : ℕ). IsWithin z all) size r

pub size_below : (n b : ℕ) (row : List ℤ) → n ≤ 12 → size_to 12 row ≤ b → size_to n row ≤ b
size_below n b row h k =
    let grows = size_grows (12 - n) n row in
    let twelve : n + (12 - n) ≡ 12 = omega (arith, h) in
    let same : size_to (n + (12 - n)) row ≡ size_to 12 row = ap (λ (z : ℕ). size_to z row) twelve in
    omega (arith, grows, same, k)
