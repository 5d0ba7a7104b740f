-- The register for division by the generator holds the remainder of the long division.
use Rattle.std.proofs.Common.{◌≡◌, ℕ, zero, suc, ◌+◌, ◌-◌, ◌*◌, ◌/◌, ◌%◌, ◌^◌, ◌<◌, ◌≤◌, List, [], ◌∷◌, ◌++◌, map, length, get_or, drop, replicate, refl, sym, ap, ap₂, ◌∙◌, subst, arith, lit<, eqb, ltb, append-nil, append_assoc, length-append}
use Rattle.std.specs.Prelude.{bit_xor}
use Rattle.std.proofs.lemmas.Bool.{eqb-true, ltb-true}
use Rattle.std.proofs.lemmas.Nat.{xor_block}
use Rattle.std.proofs.lemmas.List.{length-map, drop_more, drop_all}
use Rattle.std.proofs.Math.Nat.{mul_assoc as times_assoc, mul_comm as times_comm, pow-suc, div-div-eq-div-mul}
use Rattle.std.specs.Int.{byte_at, bytes_low_first}
use lib.Bits.{xor_comm, xor_zero_l, xor_zero_r, xor_lt}
use Rattle.gf256.specs.Field.{mul, carryless, reduced}
use Rattle.gf256.proofs.FieldLaws.{xor_small, xor_four, mul_xor_left}
use Rattle.rs204.specs.Codes.{plus, AreBytes, generator_tail, rest_of}
use Rattle.rs204.specs.Division.{number, Holds, divided}
use Rattle.rs204.specs.declared.multiples.TheConstants.{FIRST, SECOND}
use Rattle.rs204.specs.declared.multiples_ahead.TheConstants.{THIRD, FOURTH}
use Rattle.rs204.proofs.Below.{all_below_at}
use Rattle.rs204.proofs.Polynomials.{plus_bytes, map_bytes}
use Rattle.rs204.proofs.Distance.{length-plus}
use Rattle.rs204.proofs.Horner.{append_bytes}

-- ---- numbers of bytes

pub number_first : (a : ℕ) (p : List ℕ) → a < 256 → number (a ∷ p) % 256 ≡ a
unfolding number
number_first a p l = omega arith

pub number_rest : (a : ℕ) (p : List ℕ) → a < 256 → number (a ∷ p) / 256 ≡ number p
unfolding number
number_rest a p l = omega arith

number_head : (a b m n : ℕ) → a < 256 → b < 256 → bit_xor (a + 256 * m) (b + 256 * n) ≡ bit_xor a b + 256 * bit_xor m n
number_head a b m n l k =
    ap₂ bit_xor (turned a m) (turned b n) ∙ xor_block 8 m n a b l k ∙ sym (turned (bit_xor a b) (bit_xor m n))
  where
    turned : (x y : ℕ) → x + 256 * y ≡ y * 2 ^ 8 + x
    turned x y = omega arith

pub number_plus : (p q : List ℕ) → length p ≡ length q → AreBytes p → AreBytes q → number (plus p q) ≡ bit_xor (number p) (number q)
unfolding number
number_plus [] [] l s t = refl
number_plus [] (b ∷ q) l s t = absurd (omega arith)
number_plus (a ∷ p) [] l s t = absurd (omega arith)
number_plus (a ∷ p) (b ∷ q) l s t =
    ap (λ z. bit_xor a b + 256 * z) (number_plus p q (omega arith) s.1 t.1) ∙ sym (number_head a b (number p) (number q) s.0 t.0)

-- the value of byte n
abbrev worth : ℕ → ℕ
worth zero = 1
worth (suc n) = 256 * worth n

number_push : (p : List ℕ) (b : ℕ) → number (p ++ b ∷ []) ≡ number p + worth (length p) * b
unfolding number
number_push [] b = omega arith
number_push (a ∷ p) b = ap (λ z. a + 256 * z) (number_push p b) ∙ spread a (number p) (worth (length p)) b
  where
    spread : (a m w b : ℕ) → a + 256 * (m + w * b) ≡ a + 256 * m + 256 * w * b
    spread a m w b = omega (arith, times_assoc 256 w b)

worth_highest : worth 15 ≡ 0x1000000000000000000000000000000
worth_highest = refl

pub number_highest : (p : List ℕ) (b : ℕ) → length p ≡ 15 → number (p ++ b ∷ []) ≡ number p + b * 0x1000000000000000000000000000000
number_highest p b l = number_push p b ∙ ap (λ n. number p + worth n * b) l ∙ (omega arith)

-- ---- the table

multiple_of : ℕ → List ℕ
multiple_of a = map (mul a) generator_tail

multiples_table : (a : ℕ) → a < 256 → get_or FIRST a 0 ≡ number (map (mul a) generator_tail)
unfolding number mul carryless reduced
multiples_table a l = eqb-true _ _ (all_below_at (λ a. eqb (get_or FIRST a 0) (number (map (mul a) generator_tail))) 256 a refl l)

tail_bytes : AreBytes generator_tail
tail_bytes = (lit< tt, (lit< tt, (lit< tt, (lit< tt, (lit< tt, (lit< tt, (lit< tt, (lit< tt, (lit< tt, (lit< tt, (lit< tt, (lit< tt, (lit< tt, (lit< tt, (lit< tt, (lit< tt, tt))))))))))))))))

pub multiple_bytes : (a : ℕ) → a < 256 → AreBytes (map (mul a) generator_tail)
multiple_bytes a l = map_bytes a generator_tail l tail_bytes

-- ---- one step

pub plus_comm : (p q : List ℕ) → plus p q ≡ plus q p
plus_comm [] [] = refl
plus_comm [] (b ∷ q) = refl
plus_comm (a ∷ p) [] = refl
plus_comm (a ∷ p) (b ∷ q) = ap₂ (λ x y. x ∷ y) (xor_comm a b) (plus_comm p q)

pub plus_ahead : (p q more : List ℕ) → length p ≡ length q → plus p (q ++ more) ≡ plus p q ++ more
plus_ahead [] [] more l = refl
plus_ahead [] (b ∷ q) more l = absurd (omega arith)
plus_ahead (a ∷ p) [] more l = absurd (omega arith)
plus_ahead (a ∷ p) (b ∷ q) more l = ap (λ z. bit_xor a b ∷ z) (plus_ahead p q more (omega arith))

pub held_first : (register : ℕ) (bytes : List ℕ) → Holds register bytes → register % 256 ≡ get_or bytes 0 0
held_first register [] h = absurd (omega (arith, h.long))
held_first register (a ∷ p) h = ap (λ z. z % 256) h.is ∙ number_first a p h.bytes_are.0

pub stepped : (register byte leading entry result : ℕ) (bytes : List ℕ) → byte < 256 → leading < 256 → leading ≡ register % 256 → entry ≡ get_or FIRST leading 0
    → result ≡ bit_xor (register / 256 + byte * 0x1000000000000000000000000000000) entry → Holds register bytes
    → Holds result (plus (map (mul (get_or bytes 0 0)) generator_tail) (drop 1 bytes ++ byte ∷ []))
stepped register byte leading entry result [] lb ll e f r h = absurd (omega (arith, h.long))
stepped register byte leading entry result (a ∷ p) lb ll e f r h =
    let first : leading ≡ a = e ∙ held_first register (a ∷ p) h in
    let behind : number (p ++ byte ∷ []) ≡ register / 256 + byte * 0x1000000000000000000000000000000 =
    number_highest p byte (omega (arith, h.long)) ∙ ap (λ z. z + byte * 0x1000000000000000000000000000000) (sym (number_rest a p h.bytes_are.0) ∙ ap (λ z. z / 256) (sym h.is)) in
    let m = map (mul a) generator_tail in
    let size : length m ≡ length (p ++ byte ∷ []) = length-map generator_tail (mul a) ∙ sym (length-append p (byte ∷ []) ∙ (omega (arith, h.long))) in
    let s = append_bytes p (byte ∷ []) h.bytes_are.1 (lb, tt) in
    let t = multiple_bytes a h.bytes_are.0 in
    record {
      long = length-plus m (p ++ byte ∷ []) size ∙ length-map generator_tail (mul a);
      bytes_are = plus_bytes m (p ++ byte ∷ []) t s;
      is = r ∙ ap₂ bit_xor (sym behind) (f ∙ multiples_table leading ll ∙ ap (λ z. number (map (mul z) generator_tail)) first)
          ∙ xor_comm (number (p ++ byte ∷ [])) (number m) ∙ sym (number_plus m (p ++ byte ∷ []) size t s);
    }

-- the step as numbers
unfoldable pub step_of : ℕ → ℕ → ℕ
step_of r b = bit_xor (r / 256 + b * 0x1000000000000000000000000000000) (get_or FIRST (r % 256) 0)

held_step : (r b : ℕ) (bytes : List ℕ) → b < 256 → Holds r bytes → Holds (step_of r b) (divided bytes b)
unfolding step_of
held_step r b bytes l h = stepped r b (r % 256) (get_or FIRST (r % 256) 0) (step_of r b) bytes l (omega arith) refl refl refl h

number_small : (p : List ℕ) → AreBytes p → number p < worth (length p)
unfolding number
number_small [] s = omega arith
number_small (a ∷ p) s = omega (arith, s.0, number_small p s.1)

held_small : (r : ℕ) (bytes : List ℕ) → Holds r bytes → r < 0x100000000000000000000000000000000
held_small r bytes h = subst (λ z. z < 0x100000000000000000000000000000000) (sym h.is) (subst (λ n. number bytes < worth n) h.long (number_small bytes h.bytes_are))

-- ---- four steps at once

entry_small : (a : ℕ) → a < 256 → get_or FIRST a 0 < 0x100000000000000000000000000000000
entry_small a l = ltb-true _ _ (all_below_at (λ a. ltb (get_or FIRST a 0) 0x100000000000000000000000000000000) 256 a refl l)

second_small : (a : ℕ) → a < 256 → get_or SECOND a 0 < 0x100000000000000000000000000000000
second_small a l = ltb-true _ _ (all_below_at (λ a. ltb (get_or SECOND a 0) 0x100000000000000000000000000000000) 256 a refl l)

third_small : (a : ℕ) → a < 256 → get_or THIRD a 0 < 0x100000000000000000000000000000000
third_small a l = ltb-true _ _ (all_below_at (λ a. ltb (get_or THIRD a 0) 0x100000000000000000000000000000000) 256 a refl l)

second_is : (a : ℕ) → a < 256 → step_of (get_or FIRST a 0) 0 ≡ get_or SECOND a 0
unfolding step_of
second_is a l = eqb-true _ _ (all_below_at (λ a. eqb (step_of (get_or FIRST a 0) 0) (get_or SECOND a 0)) 256 a refl l)

third_is : (a : ℕ) → a < 256 → step_of (get_or SECOND a 0) 0 ≡ get_or THIRD a 0
unfolding step_of
third_is a l = eqb-true _ _ (all_below_at (λ a. eqb (step_of (get_or SECOND a 0) 0) (get_or THIRD a 0)) 256 a refl l)

fourth_is : (a : ℕ) → a < 256 → step_of (get_or THIRD a 0) 0 ≡ get_or FOURTH a 0
unfolding step_of
fourth_is a l = eqb-true _ _ (all_below_at (λ a. eqb (step_of (get_or THIRD a 0) 0) (get_or FOURTH a 0)) 256 a refl l)

map_xor : (a c : ℕ) (q : List ℕ) → map (mul (bit_xor a c)) q ≡ plus (map (mul a) q) (map (mul c) q)
map_xor a c [] = refl
map_xor a c (b ∷ q) = ap₂ (λ x y. x ∷ y) (mul_xor_left a c b) (map_xor a c q)

entry_xor : (a c : ℕ) → a < 256 → c < 256 → get_or FIRST (bit_xor a c) 0 ≡ bit_xor (get_or FIRST a 0) (get_or FIRST c 0)
entry_xor a c l m =
    multiples_table (bit_xor a c) (xor_small a c l m) ∙ ap number (map_xor a c generator_tail)
    ∙ number_plus (map (mul a) generator_tail) (map (mul c) generator_tail) (length-map generator_tail (mul a) ∙ sym (length-map generator_tail (mul c))) (multiple_bytes a l) (multiple_bytes c m)
    ∙ sym (ap₂ bit_xor (multiples_table a l) (multiples_table c m))

halves : (x y : ℕ) → bit_xor x y ≡ bit_xor (x / 256) (y / 256) * 256 + bit_xor (x % 256) (y % 256)
halves x y =
    ap₂ bit_xor (parts x) (parts y) ∙ xor_block 8 (x / 256) (y / 256) (x % 256) (y % 256) (omega arith) (omega arith)
  where
    parts : (x : ℕ) → x ≡ x / 256 * 2 ^ 8 + x % 256
    parts x = omega arith

xor_div : (x y : ℕ) → bit_xor x y / 256 ≡ bit_xor (x / 256) (y / 256)
xor_div x y = omega (arith, halves x y, xor_small (x % 256) (y % 256) (omega arith) (omega arith))

xor_mod : (x y : ℕ) → bit_xor x y % 256 ≡ bit_xor (x % 256) (y % 256)
xor_mod x y = omega (arith, halves x y, xor_small (x % 256) (y % 256) (omega arith) (omega arith))

above_sum : (b m n : ℕ) → m < 0x1000000000000000000000000000000 → n < 0x1000000000000000000000000000000 → bit_xor m n + b * 0x1000000000000000000000000000000 ≡ bit_xor (m + b * 0x1000000000000000000000000000000) n
above_sum b m n l k =
    sym (ap₂ bit_xor (turned b m) (none n) ∙ xor_block 120 b 0 m n l k ∙ ap (λ z. z * 2 ^ 120 + bit_xor m n) (xor_zero_r b) ∙ sym (turned b (bit_xor m n)))
  where
    turned : (b m : ℕ) → m + b * 0x1000000000000000000000000000000 ≡ b * 2 ^ 120 + m
    turned b m = omega arith

    none : (n : ℕ) → n ≡ 0 * 2 ^ 120 + n
    none n = omega arith

-- a step of a sum is the sum of the steps
step_xor : (x y b : ℕ) → x < 0x100000000000000000000000000000000 → y < 0x100000000000000000000000000000000 → step_of (bit_xor x y) b ≡ bit_xor (step_of x b) (step_of y 0)
unfolding step_of
step_xor x y b l m =
    ap₂ bit_xor
    (ap (λ z. z + b * 0x1000000000000000000000000000000) (xor_div x y) ∙ above_sum b (x / 256) (y / 256) (omega arith) (omega arith)
    ∙ ap (bit_xor (x / 256 + b * 0x1000000000000000000000000000000)) (let e : y / 256 ≡ y / 256 + 0 * 0x1000000000000000000000000000000 = omega arith in e))
    (ap (λ z. get_or FIRST z 0) (xor_mod x y) ∙ entry_xor (x % 256) (y % 256) (omega arith) (omega arith))
    ∙ xor_four (x / 256 + b * 0x1000000000000000000000000000000) (y / 256 + 0 * 0x1000000000000000000000000000000) (get_or FIRST (x % 256) 0) (get_or FIRST (y % 256) 0)

wide_xor : (x y : ℕ) → x < 0x100000000000000000000000000000000 → y < 0x100000000000000000000000000000000 → bit_xor x y < 0x100000000000000000000000000000000
wide_xor x y l m = xor_lt 128 x y l m

-- the register after one more byte
abbrev moved : ℕ → ℕ → ℕ
moved r b = r / 256 + b * 0x1000000000000000000000000000000

moved_small : (r b : ℕ) → r < 0x100000000000000000000000000000000 → b < 256 → moved r b < 0x100000000000000000000000000000000
moved_small r b l m = omega arith

one_step : (r b : ℕ) → step_of r b ≡ bit_xor (moved r b) (get_or FIRST (r % 256) 0)
unfolding step_of
one_step r b = refl

two_steps : (r a b : ℕ) → r < 0x100000000000000000000000000000000 → a < 256 → b < 256
    → step_of (step_of r a) b ≡ bit_xor (bit_xor (moved (moved r a) b) (get_or FIRST (moved r a % 256) 0)) (get_or SECOND (r % 256) 0)
two_steps r a b l la lb =
    ap (λ z. step_of z b) (one_step r a)
    ∙ step_xor (moved r a) (get_or FIRST (r % 256) 0) b (moved_small r a l la) (entry_small (r % 256) (omega arith))
    ∙ ap₂ bit_xor (one_step (moved r a) b) (second_is (r % 256) (omega arith))

three_steps : (r a b c : ℕ) → r < 0x100000000000000000000000000000000 → a < 256 → b < 256 → c < 256
    → step_of (step_of (step_of r a) b) c ≡ bit_xor (bit_xor (bit_xor (moved (moved (moved r a) b) c) (get_or FIRST (moved (moved r a) b % 256) 0)) (get_or SECOND (moved r a % 256) 0)) (get_or THIRD (r % 256) 0)
three_steps r a b c l la lb lc =
    let h = moved (moved r a) b in
    let hs : h < 0x100000000000000000000000000000000 = moved_small (moved r a) b (moved_small r a l la) lb in
    let f = get_or FIRST (moved r a % 256) 0 in
    let fs = entry_small (moved r a % 256) (omega arith) in
    ap (λ z. step_of z c) (two_steps r a b l la lb)
    ∙ step_xor (bit_xor h f) (get_or SECOND (r % 256) 0) c (wide_xor h f hs fs) (second_small (r % 256) (omega arith))
    ∙ ap₂ bit_xor (step_xor h f c hs fs ∙ ap₂ bit_xor (one_step h c) (second_is (moved r a % 256) (omega arith))) (third_is (r % 256) (omega arith))

four_steps_are : (r a b c d : ℕ) → r < 0x100000000000000000000000000000000 → a < 256 → b < 256 → c < 256 → d < 256
    → step_of (step_of (step_of (step_of r a) b) c) d
    ≡ bit_xor (bit_xor (bit_xor (bit_xor (moved (moved (moved (moved r a) b) c) d) (get_or FIRST (moved (moved (moved r a) b) c % 256) 0)) (get_or SECOND (moved (moved r a) b % 256) 0)) (get_or THIRD (moved r a % 256) 0)) (get_or FOURTH (r % 256) 0)
four_steps_are r a b c d l la lb lc ld =
    let h1 = moved r a in
    let s1 : h1 < 0x100000000000000000000000000000000 = moved_small r a l la in
    let h2 = moved h1 b in
    let s2 : h2 < 0x100000000000000000000000000000000 = moved_small h1 b s1 lb in
    let h3 = moved h2 c in
    let s3 : h3 < 0x100000000000000000000000000000000 = moved_small h2 c s2 lc in
    let f = get_or FIRST (h2 % 256) 0 in
    let fs = entry_small (h2 % 256) (omega arith) in
    let g = get_or SECOND (h1 % 256) 0 in
    let gs = second_small (h1 % 256) (omega arith) in
    ap (λ z. step_of z d) (three_steps r a b c l la lb lc)
    ∙ step_xor (bit_xor (bit_xor h3 f) g) (get_or THIRD (r % 256) 0) d (wide_xor (bit_xor h3 f) g (wide_xor h3 f s3 fs) gs) (third_small (r % 256) (omega arith))
    ∙ ap₂ bit_xor
    (step_xor (bit_xor h3 f) g d (wide_xor h3 f s3 fs) gs
    ∙ ap₂ bit_xor (step_xor h3 f d s3 fs ∙ ap₂ bit_xor (one_step h3 d) (second_is (h2 % 256) (omega arith))) (third_is (h1 % 256) (omega arith)))
    (fourth_is (r % 256) (omega arith))

moved_four : (r a b c d : ℕ) → moved (moved (moved (moved r a) b) c) d ≡ r / 4294967296 + (a + b * 256 + c * 65536 + d * 16777216) * 0x1000000000000000000000000
moved_four r a b c d =
    let h1 = moved r a in
    let two : moved h1 b ≡ r / 65536 + a * 0x10000000000000000000000000000 + b * 0x1000000000000000000000000000000 = omega arith in
    let three : moved (moved h1 b) c ≡ r / 16777216 + a * 0x100000000000000000000000000 + b * 0x10000000000000000000000000000 + c * 0x1000000000000000000000000000000 = omega (arith, two) in
    omega (arith, three)

pub four_held : (r a b c d result low next f1 f2 f3 f4 : ℕ) (bytes : List ℕ) → a < 256 → b < 256 → c < 256 → d < 256 → low ≡ r % 4294967296 → next ≡ a + b * 256 + c * 65536 + d * 16777216
    → f1 ≡ get_or FIRST (low / 16777216) 0 → f2 ≡ get_or SECOND (low / 65536 % 256) 0 → f3 ≡ get_or THIRD (low / 256 % 256) 0 → f4 ≡ get_or FOURTH (low % 256) 0
    → result ≡ bit_xor (bit_xor (bit_xor (bit_xor (r / 4294967296 + next * 0x1000000000000000000000000) f1) f2) f3) f4
    → Holds r bytes → Holds result (divided (divided (divided (divided bytes a) b) c) d)
four_held r a b c d result low next f1 f2 f3 f4 bytes la lb lc ld el en e1 e2 e3 e4 e h =
    let h1 = moved r a in
    let h2 = moved h1 b in
    let h3 = moved h2 c in
    let small = held_small r bytes h in
    let i4 : low % 256 ≡ r % 256 = omega (arith, el) in
    let i3 : low / 256 % 256 ≡ h1 % 256 = omega (arith, el) in
    let i2 : low / 65536 % 256 ≡ h2 % 256 = omega (arith, el) in
    let i1 : low / 16777216 ≡ h3 % 256 = omega (arith, el) in
    let whole : result ≡ step_of (step_of (step_of (step_of r a) b) c) d =
    e ∙ ap₂ bit_xor
    (ap₂ bit_xor
    (ap₂ bit_xor
    (ap₂ bit_xor (ap (λ n. r / 4294967296 + n * 0x1000000000000000000000000) en ∙ sym (moved_four r a b c d)) (e1 ∙ ap (λ i. get_or FIRST i 0) i1))
    (e2 ∙ ap (λ i. get_or SECOND i 0) i2))
    (e3 ∙ ap (λ i. get_or THIRD i 0) i3))
    (e4 ∙ ap (λ i. get_or FOURTH i 0) i4)
    ∙ sym (four_steps_are r a b c d small la lb lc ld) in
    subst (λ z. Holds z (divided (divided (divided (divided bytes a) b) c) d)) (sym whole)
    (held_step (step_of (step_of (step_of r a) b) c) d (divided (divided (divided bytes a) b) c) ld
    (held_step (step_of (step_of r a) b) c (divided (divided bytes a) b) lc
    (held_step (step_of r a) b (divided bytes a) lb (held_step r a bytes la h))))

-- ---- the whole division

pub zeros_plus : (n : ℕ) (p : List ℕ) → n ≤ length p → plus (replicate n 0) p ≡ p
zeros_plus zero p l = refl
zeros_plus (suc n) [] l = absurd (omega arith)
zeros_plus (suc n) (a ∷ p) l = ap₂ (λ x y. x ∷ y) (xor_zero_l a) (zeros_plus n p (omega arith))

no_multiple : map (mul 0) generator_tail ≡ replicate 16 0
unfolding mul carryless reduced
no_multiple = refl

leading_zeros : (k n : ℕ) (p : List ℕ) → 16 ≤ length p → rest_of (k + n) (replicate k 0 ++ p) ≡ rest_of n p
unfolding rest_of
leading_zeros zero n p l = let e : 0 + n ≡ n = omega arith in ap (λ z. rest_of z p) e
leading_zeros (suc k) n p l =
    let e : suc k + n ≡ suc (k + n) = omega arith in
    ap (λ z. rest_of z (replicate (suc k) 0 ++ p)) e
    ∙ ap (λ z. rest_of (k + n) (plus z (replicate k 0 ++ p))) no_multiple
    ∙ ap (rest_of (k + n)) (zeros_plus 16 (replicate k 0 ++ p) (omega (arith, length-append (replicate k 0) p)))
    ∙ leading_zeros k n p l

next_rest : (n : ℕ) (bytes : List ℕ) (b : ℕ) (more : List ℕ) → length bytes ≡ 16
    → rest_of (suc n) (bytes ++ b ∷ more) ≡ rest_of n (plus (map (mul (get_or bytes 0 0)) generator_tail) (drop 1 bytes ++ b ∷ []) ++ more)
unfolding rest_of
next_rest n [] b more l = absurd (omega arith)
next_rest n (a ∷ p) b more l =
    let m = map (mul a) generator_tail in
    let size : length m ≡ length (p ++ b ∷ []) = length-map generator_tail (mul a) ∙ sym (length-append p (b ∷ []) ∙ (omega arith)) in
    ap (λ z. rest_of n (plus m z)) (sym (append_assoc p (b ∷ []) more)) ∙ ap (rest_of n) (plus_ahead m (p ++ b ∷ []) more size)

-- the register after k bytes of a word
pub record Divides (register : ℕ) (word : List ℕ) (k : ℕ) : Type 0 where
  pub bytes : List ℕ
  pub holds : Holds register bytes
  pub left : rest_of 188 word ≡ rest_of (204 - k) (bytes ++ drop k word)

zero_number : (n : ℕ) → number (replicate n 0) ≡ 0
unfolding number
zero_number zero = refl
zero_number (suc n) = omega (arith, zero_number n)

pub zero_bytes : (n : ℕ) → AreBytes (replicate n 0)
zero_bytes zero = tt
zero_bytes (suc n) = (lit< tt, zero_bytes n)

pub divides_first : (word : List ℕ) → length word ≡ 204 → Divides 0 word 0
divides_first word l = record {
  bytes = replicate 16 0;
  holds = record { long = refl; bytes_are = zero_bytes 16; is = sym (zero_number 16) };
  left = sym (leading_zeros 16 188 word (omega arith));
}

divides_one : (word : List ℕ) (k : ℕ) (bytes : List ℕ) → length word ≡ 204 → k < 204 → length bytes ≡ 16 → rest_of (204 - k) (bytes ++ drop k word) ≡ rest_of (204 - (k + 1)) (divided bytes (get_or word k 0) ++ drop (k + 1) word)
divides_one word k bytes l m n =
    let e : 204 - k ≡ suc (204 - (k + 1)) = omega arith in
    ap₂ (λ n (p : List ℕ). rest_of n (bytes ++ p)) e (drop_more word k 0 (omega arith)) ∙ next_rest (204 - (k + 1)) bytes (get_or word k 0) (drop (k + 1) word) n

length-divided : (bytes : List ℕ) (b : ℕ) → length bytes ≡ 16 → length (divided bytes b) ≡ 16
length-divided [] b l = absurd (omega arith)
length-divided (a ∷ p) b l =
    let m = map (mul a) generator_tail in
    length-plus m (p ++ b ∷ []) (length-map generator_tail (mul a) ∙ sym (length-append p (b ∷ []) ∙ (omega arith))) ∙ length-map generator_tail (mul a)

pub divides_next : (register result : ℕ) (word : List ℕ) (i at : ℕ) → length word ≡ 204 → i < 51 → at ≡ 4 * i → Divides register word (4 * i)
    → ((bytes : List ℕ) → Holds register bytes → Holds result (divided (divided (divided (divided bytes (get_or word at 0)) (get_or word (at + 1) 0)) (get_or word (at + 2) 0)) (get_or word (at + 3) 0)))
    → Divides result word (4 * (i + 1))
divides_next register result word i at l m q d h =
    let b0 = d.bytes in
    let b1 = divided b0 (get_or word at 0) in
    let b2 = divided b1 (get_or word (at + 1) 0) in
    let b3 = divided b2 (get_or word (at + 2) 0) in
    let b4 = divided b3 (get_or word (at + 3) 0) in
    let l1 : length b1 ≡ 16 = length-divided b0 (get_or word at 0) d.holds.long in
    let l2 : length b2 ≡ 16 = length-divided b1 (get_or word (at + 1) 0) l1 in
    let l3 : length b3 ≡ 16 = length-divided b2 (get_or word (at + 2) 0) l2 in
    let e2 : at + 1 + 1 ≡ at + 2 = omega arith in
    let e3 : at + 2 + 1 ≡ at + 3 = omega arith in
    let e4 : at + 3 + 1 ≡ 4 * (i + 1) = omega arith in
    record {
      bytes = b4;
      holds = h b0 d.holds;
      left = d.left ∙ ap (λ k. rest_of (204 - k) (b0 ++ drop k word)) (sym q)
          ∙ divides_one word at b0 l (omega arith) d.holds.long
          ∙ divides_one word (at + 1) b1 l (omega arith) l1 ∙ ap (λ k. rest_of (204 - k) (b2 ++ drop k word)) e2
          ∙ divides_one word (at + 2) b2 l (omega arith) l2 ∙ ap (λ k. rest_of (204 - k) (b3 ++ drop k word)) e3
          ∙ divides_one word (at + 3) b3 l (omega arith) l3 ∙ ap (λ k. rest_of (204 - k) (b4 ++ drop k word)) e4;
    }

pub divides_last : (register : ℕ) (word : List ℕ) (k : ℕ) → length word ≡ 204 → 204 ≤ k → Divides register word k → Holds register (rest_of 188 word)
unfolding rest_of
divides_last register word k l m d =
    let e : 204 - k ≡ 0 = omega arith in
    let none : drop k word ≡ [] = drop_all k word (omega arith) in
    subst (Holds register) (sym (d.left ∙ ap₂ (λ n (p : List ℕ). rest_of n (d.bytes ++ p)) e none ∙ append-nil d.bytes)) d.holds

-- ---- the register's bytes

next_byte : (i n : ℕ) → byte_at (suc i) n ≡ byte_at i (n / 256)
next_byte zero n = refl
next_byte (suc i) n = ap (λ z. z % 256) (ap (λ w. n / w) (pow-suc 256 (suc i) ∙ times_comm (256 ^ suc i) 256) ∙ sym (div-div-eq-div-mul n 256 (256 ^ suc i)))

next_bytes : (i k n : ℕ) → bytes_low_first (suc i) k n ≡ bytes_low_first i k (n / 256)
next_bytes i zero n = refl
next_bytes i (suc k) n = ap₂ (λ x y. x ∷ y) (next_byte i n) (next_bytes (suc i) k n)

number_bytes : (p : List ℕ) → AreBytes p → bytes_low_first 0 (length p) (number p) ≡ p
number_bytes [] s = refl
number_bytes (a ∷ p) s =
    ap₂ (λ x y. x ∷ y) (number_first a p s.0)
    (next_bytes 0 (length p) (number (a ∷ p)) ∙ ap (bytes_low_first 0 (length p)) (number_rest a p s.0) ∙ number_bytes p s.1)

pub held_bytes : (register : ℕ) (p : List ℕ) → Holds register p → bytes_low_first 0 16 register ≡ p
held_bytes register p h = ap₂ (λ k n. bytes_low_first 0 k n) (sym h.long) h.is ∙ number_bytes p h.bytes_are
