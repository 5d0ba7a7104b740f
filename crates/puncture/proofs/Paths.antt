-- Lists of bits and streams of bytes as paths; shifts by whole periods; runs as lists.
use Rattle.std.proofs.Common.{◌≡◌, ℕ, zero, suc, ◌+◌, ◌-◌, ◌*◌, ◌/◌, ◌%◌, ◌<◌, nat_lt, Bool, false, List, map, drop, length, Option, Some, None, option_map, refl, ap, ap₂, ◌∙◌, arith, ◌∷◌, ◌++◌, [], get_or}
use Rattle.std.specs.Prelude.{position}
use Rattle.std.specs.List.{range_with_len}
use Rattle.std.proofs.lemmas.Bool.Decides.{nat_tests}
use Rattle.std.proofs.lemmas.List.{get_or-drop}
use Rattle.std.proofs.Math.Nat.{add-mul, mul-add-div_right, mul-add-mod_self_right}
use Rattle.spec_words.specs.Bits.{bit, is_set, spelled}
use Rattle.mode_set.specs.StreamTable.{steps_in_period, sent_in_period}
use Rattle.mode_set.specs.declared.modes.Rate.{Rate}
use Rattle.puncture.specs.SentBits.{sent, path_of, bits_from, sent_bit, sent_bits}
use Rattle.puncture.specs.Steps.{same_coded}
use Rattle.puncture.specs.Laws.{ListIsPath, IsShifted, RunsAreLists}
use Rattle.puncture.proofs.InOrder.{some_step}
use Rattle.puncture.proofs.Runs.{joined, window_x, window_y}
use Rattle.puncture.proofs.CoderLaws.{run_at}

pub list_is_path : (p : List Bool) (t : ℕ) → ListIsPath p t
list_is_path p t = record {
  x = window_x (drop t p) (bit p) t (λ i l. get_or-drop t p i false);
  y = window_y (drop t p) (bit p) t (λ i l. get_or-drop t p i false);
}

path_bit : (bytes : ℕ → ℕ) (m k : ℕ) → k < 8 → path_of bytes (8 * m + 6 + k) ≡ is_set (bytes m) (7 - k)
path_bit bytes m k l =
    let behind : nat_lt (8 * m + 6 + k) 6 ≡ false = grind (arith, nat_tests) in
    let byte : (8 * m + 6 + k - 6) / 8 ≡ m = omega arith in
    let place : (8 * m + 6 + k - 6) % 8 ≡ k = omega arith in
    rw (behind, byte, place) refl

path_place : (bytes : ℕ → ℕ) (m k n : ℕ) → k < 8 → n ≡ 8 * m + 6 + k → path_of bytes n ≡ is_set (bytes m) (7 - k)
path_place bytes m k n l e = ap (path_of bytes) e ∙ path_bit bytes m k l

pub byte_is_path : (bytes : ℕ → ℕ) (m : ℕ) → spelled 8 (bytes m) ≡ bits_from (path_of bytes) (8 * m + 6) 8
byte_is_path bytes m =
    let b0 : path_of bytes (8 * m + 6) ≡ is_set (bytes m) 7 = path_place bytes m 0 (8 * m + 6) (omega arith) (omega arith) in
    let b1 : path_of bytes (8 * m + 6 + 1) ≡ is_set (bytes m) 6 = path_place bytes m 1 (8 * m + 6 + 1) (omega arith) (omega arith) in
    let b2 : path_of bytes (8 * m + 6 + 1 + 1) ≡ is_set (bytes m) 5 = path_place bytes m 2 (8 * m + 6 + 1 + 1) (omega arith) (omega arith) in
    let b3 : path_of bytes (8 * m + 6 + 1 + 1 + 1) ≡ is_set (bytes m) 4 = path_place bytes m 3 (8 * m + 6 + 1 + 1 + 1) (omega arith) (omega arith) in
    let b4 : path_of bytes (8 * m + 6 + 1 + 1 + 1 + 1) ≡ is_set (bytes m) 3 = path_place bytes m 4 (8 * m + 6 + 1 + 1 + 1 + 1) (omega arith) (omega arith) in
    let b5 : path_of bytes (8 * m + 6 + 1 + 1 + 1 + 1 + 1) ≡ is_set (bytes m) 2 = path_place bytes m 5 (8 * m + 6 + 1 + 1 + 1 + 1 + 1) (omega arith) (omega arith) in
    let b6 : path_of bytes (8 * m + 6 + 1 + 1 + 1 + 1 + 1 + 1) ≡ is_set (bytes m) 1 = path_place bytes m 6 (8 * m + 6 + 1 + 1 + 1 + 1 + 1 + 1) (omega arith) (omega arith) in
    let b7 : path_of bytes (8 * m + 6 + 1 + 1 + 1 + 1 + 1 + 1 + 1) ≡ is_set (bytes m) 0 = path_place bytes m 7 (8 * m + 6 + 1 + 1 + 1 + 1 + 1 + 1 + 1) (omega arith) (omega arith) in
    cc

option_shift : (a s q : ℕ) (o : Option ℕ) → option_map (λ i. (q + a) * s + i) o ≡ option_map (λ n. q * s + n) (option_map (λ i. a * s + i) o)
option_shift a s q None = refl
option_shift a s q (Some i) = ap Some (omega (arith, add-mul q a s))

pub shifted : (r : Rate) (q t : ℕ) → IsShifted r q t
shifted r q t =
    let quotient : (q * steps_in_period r + t) / steps_in_period r ≡ q + t / steps_in_period r = mul-add-div_right (some_step r) q t in
    let rest : (q * steps_in_period r + t) % steps_in_period r ≡ t % steps_in_period r = mul-add-mod_self_right q (steps_in_period r) t in
    record {
      before = rw (quotient, rest) (omega (arith, add-mul q (t / steps_in_period r) (sent_in_period r)));
      numbers = λ xy. rw (quotient, rest) (option_shift (t / steps_in_period r) (sent_in_period r) q (position (same_coded (xy (t % steps_in_period r + 1))) (sent r)));
    }

length_run : {T : Type 0} (f : ℕ → T) (a n : ℕ) → length (map f (range_with_len a n)) ≡ n
length_run f a zero = refl
length_run f a (suc n) = ap suc (length_run f (a + 1) n)

heads : (b c : Bool) (xs ys : List Bool) → b ∷ xs ≡ c ∷ ys → b ≡ c
heads b c xs ys e = ap (λ z. get_or z 0 false) e

tails : (b c : Bool) (xs ys : List Bool) → b ∷ xs ≡ c ∷ ys → xs ≡ ys
tails b c xs ys e = ap (drop 1) e

split_run : (f : ℕ → Bool) (a n : ℕ) (front rest : List Bool) → front ++ rest ≡ map f (range_with_len a n)
    → (front ≡ map f (range_with_len a (length front))) × (rest ≡ map f (range_with_len (a + length front) (n - length front)))
split_run f a n [] rest e = let here : a + 0 ≡ a = omega arith in let size : n - 0 ≡ n = omega arith in (refl, rw (here, size) e)
split_run f a zero (x ∷ front) rest e = absurd (omega (arith, ap length e))
split_run f a (suc n) (x ∷ front) rest e =
    let (p, q) = split_run f (a + 1) n front rest (tails x (f a) (front ++ rest) (map f (range_with_len (a + 1) n)) e) in
    let here : a + suc (length front) ≡ a + 1 + length front = omega arith in
    let size : suc n - suc (length front) ≡ n - length front = omega arith in
    (ap₂ (λ z zs. z ∷ zs) (heads x (f a) (front ++ rest) (map f (range_with_len (a + 1) n)) e) p, rw (here, size) q)

split_sent : (r : Rate) (path : ℕ → Bool) (a b : ℕ) (front rest : List Bool) → front ++ rest ≡ sent_bits r path a b
    → (front ≡ sent_bits r path a (a + length front)) × (rest ≡ sent_bits r path (a + length front) b)
split_sent r path a b front rest e =
    let (p, q) = split_run (sent_bit r path) a (b - a) front rest e in
    let size : a + length front - a ≡ length front = omega arith in
    let left : b - (a + length front) ≡ b - a - length front = omega arith in
    (rw size p, rw left q)

pub runs : (r : Rate) (path : ℕ → Bool) → RunsAreLists r path
runs r path = record {
  joined = joined r path;
  long = λ a b. length_run (sent_bit r path) a (b - a);
  split = split_sent r path;
  here = λ a b k l. run_at (sent_bit r path) a (b - a) k l;
}
