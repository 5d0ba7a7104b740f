-- A word of the lanes that have no mark, in each phase.
use Rattle.std.proofs.Common.{◌≡◌, ℕ, zero, suc, ◌+◌, ◌-◌, ◌*◌, ◌/◌, ◌%◌, ◌^◌, ◌<◌, Bool, true, false, cond, not, ◌&&◌, List, [], ◌∷◌, ◌++◌, length, map, get_or, replicate, refl, sym, ap, ap₂, ◌∙◌, subst, arith, bit_or, eqb, leb, true≢false, w8, mod-lt, lit<}
use Rattle.std.proofs.lemmas.Bool.{agree_below_at, eqb-true, ltb-false}
use Rattle.std.proofs.lemmas.List.{get_or_append_left}
use Rattle.std.proofs.lemmas.Nat.{or_lt, xor_lt}
use Rattle.std.proofs.lemmas.Nat.Bits.{bit_at_cat_high, bit_at_xor, bit_at-lt}
use Rattle.std.proofs.lemmas.Simd.{bit_mask_l, mask_l-lt, mask_l-mod, tops_compared}
use Rattle.std.specs.Bool.{nat_lt}
use Rattle.std.specs.Int.{bit_at, bit_not, w64}
use Rattle.std.specs.Int.Bits.{bit_xor}
use Rattle.std.specs.Prelude.{slice_index}
use Rattle.std.specs.Simd.Lanes.{zip2, mask_l, top}
use Rattle.code_paths.proofs.Registers.{all_below, all_below_at}
use Rattle.code_paths.proofs.Words.{pow-pos, set_and, set_not, set_shl, whole}
use Rattle.spec_words.specs.Bits.{is_set, xor}
use Rattle.acs_lanes.specs.Lanes16.{AreMarks, way}
use Rattle.acs_lanes.specs.Phases.{by_halves, byte_of, differ, exchanged, in_order, mask_in, moved_by, ordered, ordered_by, shift_in, way_in}
use Rattle.acs_lanes.proofs.LaneLaws.{set_low_word, set_high_word}
use Rattle.acs_lanes.proofs.Laid.{at_range}
use Rattle.acs_lanes.proofs.Marks.{byte_at, holds_at, one}
use Rattle.acs_lanes.proofs.PhaseTables.{by_phase, exchanged_high, exchanged_small, exchanged_twice, way_in_small}

-- ---- the word of two vectors

abbrev marks_by : List ℕ → ℕ
marks_by xs = mask_l (map (top 7) (zip2 (λ a b. cond (leb a b) 255 0) (replicate 32 128) xs)) % 2 ^ 64

splat_left : (f : ℕ → ℕ → Bool) (y n : ℕ) (xs : List ℕ) → length xs ≡ n → zip2 f (replicate n y) xs ≡ map (f y) xs
splat_left f y zero [] e = refl
splat_left f y zero (x ∷ xs) e = absurd (omega (arith, e))
splat_left f y (suc n) [] e = absurd (omega (arith, e))
splat_left f y (suc n) (x ∷ xs) e = ap (λ z. f y x ∷ z) (splat_left f y n xs (omega (arith, e)))

not_below : (b : Bool) → leb 128 (cond b 0 255) ≡ not b
not_below true = refl
not_below false = refl

module _ (lane : ℕ → ℕ) (small : (k : ℕ) → k < 32 → lane k < 32) (first last : List ℕ) where
  abbrev inner : List ℕ
  inner = ordered_by lane (by_halves first last)

  marks_are : marks_by inner ≡ mask_l (map (leb 128) inner)
  marks_are =
      let e : length (map (leb 128) inner) ≡ 32 = refl in
      ap (λ ms. mask_l ms % 2 ^ 64) (tops_compared w8 leb (replicate 32 128) inner ∙ splat_left leb 128 32 inner refl) ∙ mask_l-mod (map (leb 128) inner) 64 (omega (arith, e))

  ordered_small : marks_by inner < 2 ^ 32
  ordered_small = omega (arith, marks_are, mask_l-lt (map (leb 128) inner))

  pub half_small : (xs : List ℕ) → xs ≡ inner → marks_by xs < 2 ^ 32
  half_small xs e = subst (λ z. marks_by z < 2 ^ 32) (sym e) ordered_small

  module _ (is_odd : ℕ → Bool) (m : AreMarks first last is_odd) where
    inner_at : (k : ℕ) → k < 32 → get_or inner k 0 ≡ cond (is_odd (lane k)) 0 255
    inner_at k l =
        let w = lane k in
        let s : w < 32 = small k l in
        let b = by_halves first last in
        let n : length b ≡ 32 = refl in
        at_range (λ i. slice_index (b ++ b) (byte_of (lane i))) 32 k refl l
        ∙ get_or_append_left b b 0 (byte_of w) (omega (arith, n, s))
        ∙ byte_at first last is_odd m w s

    half_at : (k : ℕ) → k < 32 → is_set (marks_by inner) k ≡ not (is_odd (lane k))
    half_at k l =
        ap (λ w. is_set w k) marks_are ∙ ap (λ z. eqb z 1) (bit_mask_l (map (leb 128) inner) k) ∙ one (get_or (map (leb 128) inner) k false)
        ∙ holds_at (leb 128) inner k l ∙ ap (leb 128) (inner_at k l) ∙ not_below (is_odd (lane k))

    pub half_bits : (xs : List ℕ) → xs ≡ inner → (k : ℕ) → k < 32 → is_set (marks_by xs) k ≡ not (is_odd (lane k))
    half_bits xs e = subst (λ z. (k : ℕ) → k < 32 → is_set (marks_by z) k ≡ not (is_odd (lane k))) (sym e) half_at

-- the lanes of a phase in the order of the words' bits
pub lane_small : (p : ℕ) → p < 6 → (k : ℕ) → k < 32 → way_in p (exchanged p k) < 32
lane_small p in6 k l = way_in_small p in6 (exchanged p k) (exchanged_small p in6 k l)

-- ---- bits that change places

set_down : (x s k : ℕ) → is_set (x / 2 ^ s) k ≡ is_set x (k + s)
set_down x s k =
    let e : k + s - s ≡ k = omega arith in
    let f : bit_at (x / 2 ^ s * 2 ^ s + x % 2 ^ s) (k + s) ≡ bit_at (x / 2 ^ s) (k + s - s) = bit_at_cat_high (x / 2 ^ s) s (x % 2 ^ s) (k + s) (mod-lt x (pow-pos s)) (omega arith) in
    ap (λ z. eqb z 1) (sym (ap (bit_at (x / 2 ^ s)) e) ∙ sym f ∙ ap (λ z. bit_at z (k + s)) (whole x s))

sum_of_bits : (x y : ℕ) → x < 2 → y < 2 → eqb ((x + y) % 2) 1 ≡ xor (eqb x 1) (eqb y 1)
sum_of_bits zero zero h k = refl
sum_of_bits zero (suc zero) h k = refl
sum_of_bits (suc zero) zero h k = refl
sum_of_bits (suc zero) (suc zero) h k = refl
sum_of_bits (suc (suc x)) y h k = absurd (omega arith)
sum_of_bits x (suc (suc y)) h k = absurd (omega arith)

set_xor : (a b k : ℕ) → is_set (bit_xor a b) k ≡ xor (is_set a k) (is_set b k)
set_xor a b k = ap (λ z. eqb z 1) (bit_at_xor a b k) ∙ sum_of_bits (bit_at a k) (bit_at b k) (bit_at-lt a k) (bit_at-lt b k)

turned_and : (a b : Bool) → (a && b) ≡ (b && a)
turned_and true true = refl
turned_and true false = refl
turned_and false true = refl
turned_and false false = refl

same : (a : Bool) → xor (xor a false) false ≡ a
same true = refl
same false = refl

from_above : (a u : Bool) → xor (xor a (xor u a)) false ≡ u
from_above true true = refl
from_above true false = refl
from_above false true = refl
from_above false false = refl

from_below : (a d : Bool) → xor (xor a false) (xor a d) ≡ d
from_below true true = refl
from_below true false = refl
from_below false true = refl
from_below false false = refl

-- one of three bits is taken, by a mask: that from above, that from below, or the one that stays
abbrev fits : ℕ → ℕ → ℕ → Bool → Bool → Bool → Bool
fits to n s above low below = cond above (cond (not low && below) false (eqb to (n + s))) (cond (not low && below) (eqb to (n - s)) (eqb to n))

taken : (x to n s : ℕ) (above low below : Bool) → (low ≡ false → n - s + s ≡ n) → fits to n s above low below ≡ true
    → xor (xor (is_set x n) (above && xor (is_set x (n + s)) (is_set x n))) (not low && (below && xor (is_set x (n - s + s)) (is_set x (n - s)))) ≡ is_set x to
taken x to n s true true below e t = from_above (is_set x n) (is_set x (n + s)) ∙ ap (is_set x) (sym (eqb-true to (n + s) t))
taken x to n s true false true e t = absurd (true≢false (sym t))
taken x to n s true false false e t = from_above (is_set x n) (is_set x (n + s)) ∙ ap (is_set x) (sym (eqb-true to (n + s) t))
taken x to n s false true below e t = same (is_set x n) ∙ ap (is_set x) (sym (eqb-true to n t))
taken x to n s false false true e t =
    ap (λ z. xor (xor (is_set x n) false) (xor (is_set x z) (is_set x (n - s)))) (e refl) ∙ from_below (is_set x n) (is_set x (n - s)) ∙ ap (is_set x) (sym (eqb-true to (n - s) t))
taken x to n s false false false e t = same (is_set x n) ∙ ap (is_set x) (sym (eqb-true to n t))

differ_at : (s mask x n : ℕ) → is_set (differ s mask x) n ≡ (is_set mask n && xor (is_set x (n + s)) (is_set x n))
differ_at s mask x n =
    set_and (bit_xor (x / 2 ^ s) x) mask n ∙ turned_and (is_set (bit_xor (x / 2 ^ s) x) n) (is_set mask n)
    ∙ ap (λ z. is_set mask n && z) (set_xor (x / 2 ^ s) x n ∙ ap (λ z. xor z (is_set x n)) (set_down x s n))

back_up : (n s : ℕ) → nat_lt n s ≡ false → n - s + s ≡ n
back_up n s h = omega (arith, ltb-false n s h)

moved : (s mask : ℕ) (to : ℕ → ℕ) → all_below (λ n. fits (to n) n s (is_set mask n) (nat_lt n s) (is_set mask (n - s))) 64 ≡ true → (x n : ℕ) → n < 64 → is_set (moved_by s mask x) n ≡ is_set x (to n)
moved s mask to t x n l =
    set_xor (bit_xor x (differ s mask x)) (differ s mask x * 2 ^ s % 2 ^ 64) n
    ∙ ap₂ xor (set_xor x (differ s mask x) n ∙ ap (xor (is_set x n)) (differ_at s mask x n))
    (set_shl (differ s mask x) s n l ∙ ap (λ z. not (nat_lt n s) && z) (differ_at s mask x (n - s)))
    ∙ taken x (to n) n s (is_set mask n) (nat_lt n s) (is_set mask (n - s)) (back_up n s) (all_below_at (λ n. fits (to n) n s (is_set mask n) (nat_lt n s) (is_set mask (n - s))) 64 n t l)

moved_in : (p : ℕ) → p < 6 → (x n : ℕ) → n < 64 → is_set (moved_by (shift_in p) (mask_in p) x) n ≡ is_set x (exchanged p n)
moved_in =
    by_phase (λ p. (x n : ℕ) → n < 64 → is_set (moved_by (shift_in p) (mask_in p) x) n ≡ is_set x (exchanged p n)) (moved 3 723401728380766730 (exchanged 0) refl) (moved 8 280375465148160 (exchanged 1) refl) (moved 12 264913582878960 (exchanged 2) refl)
    (moved 14 225176545447116 (exchanged 3) refl) (moved 15 187647121205930 (exchanged 4) refl) (moved 15 187647121205930 (exchanged 5) refl)

-- ---- words that are turned over

twice : (b : Bool) → not (not b) ≡ b
twice true = refl
twice false = refl

with_one : (a b : Bool) → b ≡ true → xor a b ≡ not a
with_one true b e = ap (xor true) e
with_one false b e = ap (xor false) e

module _ (word : ℕ) (small : word < 2 ^ 32) where
  pub turned_small : bit_xor word 4294967295 < 2 ^ 32
  turned_small = xor_lt 32 word 4294967295 small (lit< tt)

  pub turned_bits : (is_odd : ℕ → Bool) → ((k : ℕ) → k < 32 → is_set word k ≡ not (is_odd (way k))) → (k : ℕ) → k < 32 → is_set (bit_xor word 4294967295) k ≡ is_odd (way k)
  turned_bits is_odd f k l =
      set_xor word 4294967295 k ∙ with_one (is_set word k) (is_set 4294967295 k) (agree_below_at (is_set 4294967295) (λ k. true) 32 k refl l) ∙ ap not (f k l) ∙ twice (is_odd (way k))

-- bytes in the order of a phase
pub ordered_as : (p q : ℕ) → p ≡ q → (xs bytes : List ℕ) → xs ≡ ordered q bytes → xs ≡ ordered p bytes
ordered_as p q e xs bytes h = subst (λ p. xs ≡ ordered p bytes) (sym e) h

-- ---- both halves

module _ (p : ℕ) (in6 : p < 6) (low high : ℕ) (small : low < 2 ^ 32) where
  abbrev both : ℕ
  both = bit_or low (high * 2 ^ 32 % 2 ^ 64)

  both_fits : both < 2 ^ 64
  both_fits = or_lt 64 low (high * 2 ^ 32 % 2 ^ 64) (omega (arith, small)) (mod-lt (high * 2 ^ 32) (lit< tt))

  ordered_at : (n : ℕ) → n < 64 → exchanged p n < 64 → is_set (in_order p both) n ≡ not (is_set both (exchanged p n))
  ordered_at n l m = moved_in p in6 (bit_not w64 both) n l ∙ set_not both (exchanged p n) both_fits m

  pub low_bits : (is_odd : ℕ → Bool) → ((k : ℕ) → k < 32 → is_set low k ≡ not (is_odd (way_in p (exchanged p k)))) → (k : ℕ) → k < 32 → is_set (in_order p both) k ≡ is_odd (way_in p k)
  low_bits is_odd f k l =
      let s = exchanged_small p in6 k l in
      ordered_at k (omega arith) (omega (arith, s)) ∙ ap not (set_low_word 32 low high (exchanged p k) s (omega arith) ∙ f (exchanged p k) s) ∙ twice (is_odd (way_in p (exchanged p (exchanged p k))))
      ∙ ap (λ z. is_odd (way_in p z)) (exchanged_twice p in6 k l)

  pub high_bits : (is_odd : ℕ → Bool) → ((k : ℕ) → k < 32 → is_set high k ≡ not (is_odd (way_in p (exchanged p k)))) → (k : ℕ) → k < 32 → is_set (in_order p both) (k + 32) ≡ is_odd (way_in p k)
  high_bits is_odd f k l =
      let s = exchanged_small p in6 k l in
      let h = exchanged_high p in6 k l in
      let e : exchanged p k + 32 - 32 ≡ exchanged p k = omega arith in
      ordered_at (k + 32) (omega arith) (omega (arith, s, h))
      ∙ ap not (ap (is_set both) h ∙ set_high_word 32 low high (exchanged p k + 32) small (omega arith) (omega (arith, s)) ∙ ap (is_set high) e ∙ f (exchanged p k) s)
      ∙ twice (is_odd (way_in p (exchanged p (exchanged p k)))) ∙ ap (λ z. is_odd (way_in p z)) (exchanged_twice p in6 k l)
