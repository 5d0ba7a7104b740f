-- Steps of the loops over syndromes.
use Rattle.std.proofs.Common.{◌≡◌, ℕ, zero, suc, ◌+◌, ◌-◌, ◌<◌, List, [], drop, ◌∷◌, length, get_or, refl, sym, ap, ◌∙◌, arith, Bool, true, false}
use Rattle.std.specs.Prelude.{bit_xor}
use Rattle.std.specs.Int.Bits.{xor_self, xor_assoc}
use Rattle.std.proofs.Math.Seq.{drop-cons}
use Rattle.spec_words.specs.Bits.{is_set, spelled}
use Rattle.tps_bch.proofs.Division.{both}
use Rattle.tps_bch.specs.Syndromes.{syndrome_by}

-- one more bit is added
here : (ss : List ℕ) (w : List Bool) (i : ℕ) (b : Bool) → i < length w → i < length ss → get_or w i false ≡ b → syndrome_by (drop i ss) (drop i w) ≡ syndrome_by (get_or ss i 0 ∷ drop (suc i) ss) (b ∷ drop (suc i) w)
here ss w i b l m e =
    ap (λ (z : List ℕ). syndrome_by z (drop i w)) (drop-cons ss i 0 m) ∙ ap (syndrome_by (get_or ss i 0 ∷ drop (suc i) ss)) (drop-cons w i false l)
    ∙ ap (λ (z : Bool). syndrome_by (get_or ss i 0 ∷ drop (suc i) ss) (z ∷ drop (suc i) w)) e

pub summed : (ss : List ℕ) (w : List Bool) (i sum whole : ℕ) → i < length w → i < length ss → get_or w i false ≡ true
    → bit_xor sum (syndrome_by (drop i ss) (drop i w)) ≡ whole → bit_xor (bit_xor sum (get_or ss i 0)) (syndrome_by (drop (i + 1) ss) (drop (i + 1) w)) ≡ whole
summed ss w i sum whole l m e h =
    let next : i + 1 ≡ suc i = omega arith in
    ap (λ (z : ℕ). bit_xor (bit_xor sum (get_or ss i 0)) (syndrome_by (drop z ss) (drop z w))) next
    ∙ xor_assoc sum (get_or ss i 0) (syndrome_by (drop (suc i) ss) (drop (suc i) w)) ∙ ap (bit_xor sum) (sym (here ss w i true l m e)) ∙ h

pub passed : (ss : List ℕ) (w : List Bool) (i sum whole : ℕ) → i < length w → i < length ss → get_or w i false ≡ false
    → bit_xor sum (syndrome_by (drop i ss) (drop i w)) ≡ whole → bit_xor sum (syndrome_by (drop (i + 1) ss) (drop (i + 1) w)) ≡ whole
passed ss w i sum whole l m e h =
    let next : i + 1 ≡ suc i = omega arith in
    ap (λ (z : ℕ). bit_xor sum (syndrome_by (drop z ss) (drop z w))) next ∙ ap (bit_xor sum) (sym (here ss w i false l m e)) ∙ h

-- a term changes sides
pub moved : (a b c : ℕ) → a ≡ bit_xor b c → bit_xor b a ≡ c
moved a b c e = ap (bit_xor b) e ∙ sym (xor_assoc b b c) ∙ ap (λ (z : ℕ). bit_xor z c) (xor_self b)

pub no_bits : (ss : List ℕ) → syndrome_by ss [] ≡ 0
no_bits [] = refl
no_bits (s ∷ ss) = refl

pub parted : (a b c : ℕ) → bit_xor a b ≡ c → b ≡ bit_xor a c
parted a b c e = sym (ap (bit_xor a) (sym e) ∙ sym (xor_assoc a a b) ∙ ap (λ (z : ℕ). bit_xor z b) (xor_self a))

-- bits that are those of a number, most significant first, are its digits
pub spelled_is : (n x : ℕ) (bits : List Bool) → length bits ≡ n → ((k : ℕ) → k < n → get_or bits k false ≡ is_set x (n - 1 - k)) → bits ≡ spelled n x
spelled_is zero x [] e same = refl
spelled_is zero x (b ∷ bits) e same = absurd (omega (arith, e))
spelled_is (suc n) x [] e same = absurd (omega (arith, e))
spelled_is (suc n) x (b ∷ bits) e same =
    let top : suc n - 1 - 0 ≡ n = omega arith in
    both (same 0 (omega arith) ∙ ap (is_set x) top)
    (spelled_is n x bits (omega (arith, e)) (λ k l. let next : suc n - 1 - suc k ≡ n - 1 - k = omega arith in same (suc k) (omega (arith, l)) ∙ ap (is_set x) next))
