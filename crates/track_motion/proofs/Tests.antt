-- What the tests of places say.
use Rattle.std.proofs.Common.{◌≡◌, ℕ, List, length, ◌+◌, ◌-◌, ◌<◌, ◌≤◌, Bool, true, false, nat_le, nat_lt, refl, ap, sym, ◌∙◌, arith, min}
use Rattle.std.specs.Prelude.{◌&&◌}
use Rattle.std.proofs.lemmas.Bool.Decides.{nat_tests}
use Rattle.mode_set.specs.declared.modes.Mode.{Mode}
use Rattle.qam_map.specs.declared.cell.Cell.{Cell}
use Rattle.tracking.specs.Comb.{Comb, comb_of}
use Rattle.tracking.specs.InTime.{is_there, symbol_at}
use Rattle.track_motion.specs.Places.{first_place, end_place, in_file}

pub le_of : (a b : ℕ) → nat_le a b ≡ true → a ≤ b
le_of a b e = grind (arith, nat_tests, e)

pub le_to : (a b : ℕ) → a ≤ b → nat_le a b ≡ true
le_to a b h = grind (arith, nat_tests, h)

pub lt_of : (a b : ℕ) → nat_lt a b ≡ true → a < b
lt_of a b e = grind (arith, nat_tests, e)

pub lt_to : (a b : ℕ) → a < b → nat_lt a b ≡ true
lt_to a b h = grind (arith, nat_tests, h)

pub le_not : (a b : ℕ) → b < a → nat_le a b ≡ false
le_not a b h = grind (arith, nat_tests, h)

pub lt_not : (a b : ℕ) → b ≤ a → nat_lt a b ≡ false
lt_not a b h = grind (arith, nat_tests, h)

pub both_of : (x y : Bool) → (x && y) ≡ true → (x ≡ true) × (y ≡ true)
both_of true true e = (refl, refl)
both_of true false e = absurd (grind (arith, e))
both_of false y e = absurd (grind (arith, e))

pub both_to : (x y : Bool) → x ≡ true → y ≡ true → (x && y) ≡ true
both_to x y e f = ap (λ (z : Bool). z && y) e ∙ f

pub same_test : (x y : Bool) → (x ≡ true → y ≡ true) → (y ≡ true → x ≡ true) → x ≡ y
same_test true y h k = sym (h refl)
same_test false true h k = k refl
same_test false false h k = refl

-- a place that a file has
pub record IsPlace (count m p : ℕ) : Type 0 where
  pub first : first_place m ≤ p
  pub last : p < end_place count m

pub place_of : (count m p : ℕ) → in_file count m p ≡ true → IsPlace count m p
place_of count m p e = let h = both_of (nat_le (first_place m) p) (nat_lt p (end_place count m)) e in record { first = le_of (first_place m) p h.0; last = lt_of p (end_place count m) h.1 }

pub place_to : (count m p : ℕ) → first_place m ≤ p → p < end_place count m → in_file count m p ≡ true
place_to count m p h k = both_to (nat_le (first_place m) p) (nat_lt p (end_place count m)) (le_to (first_place m) p h) (lt_to p (end_place count m) k)

-- the places of the definitions are those of the file
pub there_is : (c : Comb) (m p : ℕ) → m < c.count → is_there c m p ≡ in_file c.count m p
there_is c m p some =
    let t = symbol_at m p in
    let last = min c.count (m + 8) in
    same_test (is_there c m p) (in_file c.count m p)
    (λ e.
    let outer = both_of (nat_le 7 (m + p)) (nat_le (m - 7) t && nat_lt t last) e in
    let inner = both_of (nat_le (m - 7) t) (nat_lt t last) outer.1 in
    let from : 7 ≤ m + p = le_of 7 (m + p) outer.0 in
    let to : t < last = lt_of t last inner.1 in
    place_to c.count m p (omega (arith, from)) (omega (arith, from, to, some)))
    (λ e.
    let h = place_of c.count m p e in
    both_to (nat_le 7 (m + p)) (nat_le (m - 7) t && nat_lt t last) (le_to 7 (m + p) (omega (arith, h.first)))
    (both_to (nat_le (m - 7) t) (nat_lt t last) (le_to (m - 7) t (omega (arith, h.first))) (lt_to t last (omega (arith, h.first, h.last, some)))))

-- the symbols of a file's comb
pub count_of : (m : Mode) (symbols : List (List Cell)) → (comb_of m symbols).count ≡ length symbols
unfolding comb_of
count_of m symbols = refl
