-- The result of each exit of a correction.
use Rattle.std.proofs.Common.{◌≡◌, ℕ, suc, ◌<◌, ◌≤◌, List, length, refl, sym, ap, ◌∙◌, subst, arith, Bool, false, not, get_or-set_other, length-set}
use Rattle.std.specs.Prelude.{bit_xor, ◌≢◌}
use Rattle.std.specs.Int.Bits.{xor_self, xor_assoc}
use Rattle.spec_words.specs.Bits.{bit}
use Rattle.tps_bch.specs.declared.TpsOutcome.TheVariants.{Read}
use Rattle.tps_bch.specs.Bch.{IsTpsWord, IsCorrected, bit_distance}
use Rattle.tps_bch.specs.Syndromes.{syndromes, syndrome_by, syndrome_at}
use Rattle.tps_bch.proofs.Rests.{is_of_code, size}
use Rattle.tps_bch.proofs.Errors.{nearest, flipped, flipped_syndrome, flipped_distance, no_distance}

-- the number is the one returned
pub read_as : (old new : List Bool) (k n : ℕ) → IsCorrected old new k → Read k ≡ Read n → IsCorrected old new n
read_as old new k n h e = let same : k ≡ n = cc in subst (IsCorrected old new) same h

-- no other word is within distance 2
pub only : (old new : List Bool) (n : ℕ) → length old ≡ 67 → IsCorrected old new n → (w : List Bool) → IsTpsWord w → bit_distance old w ≤ 2 → (Read n ≡ Read (bit_distance old w)) × (new ≡ w)
only old new n e h w is close =
    let same : new ≡ w = nearest old new n e h w is close in
    (ap Read (sym h.distance ∙ ap (bit_distance old) same), same)

pub unchanged : (w : List Bool) → length w ≡ 67 → syndrome_by syndromes w ≡ 0 → IsCorrected w w 0
unchanged w e none = record { is_word = is_of_code w e none; distance = no_distance w; near = omega arith }

xor_to_zero : (a b : ℕ) → a ≡ b → bit_xor a b ≡ 0
xor_to_zero a b e = ap (bit_xor a) (sym e) ∙ xor_self a

pub one_flip : (w : List Bool) (i : ℕ) → length w ≡ 67 → i < 67 → syndrome_at i ≡ syndrome_by syndromes w → IsCorrected w (flipped w i) 1
one_flip w i e l s =
    let none : syndrome_by syndromes (flipped w i) ≡ 0 = flipped_syndrome syndromes w i (omega (arith, l, e)) (omega (arith, l, size)) ∙ xor_to_zero _ _ s in
    record {
      is_word = is_of_code (flipped w i) (length-set w i (not (bit w i)) ∙ e) none;
      distance = flipped_distance w w i refl (omega (arith, l, e)) refl ∙ ap suc (no_distance w);
      near = omega arith;
    }

pub two_flips : (w : List Bool) (i j : ℕ) → length w ≡ 67 → i < 67 → j < 67 → syndrome_by syndromes w ≢ 0 → bit_xor (syndrome_at i) (syndrome_at j) ≡ syndrome_by syndromes w → IsCorrected w (flipped (flipped w i) j) 2
two_flips w i j e il jl some s =
    let first : List Bool = flipped w i in
    let long : length first ≡ 67 = length-set w i (not (bit w i)) ∙ e in
    let apart : j ≢ i = λ same. some (sym s ∙ xor_to_zero _ _ (sym (ap syndrome_at same))) in
    let half : syndrome_by syndromes first ≡ bit_xor (syndrome_at i) (syndrome_by syndromes w) = flipped_syndrome syndromes w i (omega (arith, il, e)) (omega (arith, il, size)) in
    let rest : bit_xor (syndrome_at i) (syndrome_by syndromes w) ≡ syndrome_at j = ap (bit_xor (syndrome_at i)) (sym s) ∙ sym (xor_assoc (syndrome_at i) (syndrome_at i) (syndrome_at j)) ∙ ap (λ (z : ℕ). bit_xor z (syndrome_at j)) (xor_self (syndrome_at i)) in
    let none : syndrome_by syndromes (flipped first j) ≡ 0 = flipped_syndrome syndromes first j (omega (arith, jl, long)) (omega (arith, jl, size)) ∙ xor_to_zero _ _ (sym (half ∙ rest)) in
    let same_bit : bit w j ≡ bit first j = sym (get_or-set_other w i j (not (bit w i)) false apart) in
    let one : bit_distance w first ≡ 1 = flipped_distance w w i refl (omega (arith, il, e)) refl ∙ ap suc (no_distance w) in
    record {
      is_word = is_of_code (flipped first j) (length-set first j (not (bit first j)) ∙ long) none;
      distance = flipped_distance w first j (omega (arith, e, long)) (omega (arith, jl, long)) same_bit ∙ ap suc one;
      near = omega arith;
    }
