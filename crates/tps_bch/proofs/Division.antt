-- Sums and multiples of polynomials, and division by the generator.
use Rattle.std.proofs.Common.{◌≡◌, ℕ, zero, suc, ◌+◌, ◌≤◌, List, [], ◌∷◌, ◌++◌, map, drop, length, replicate, refl, sym, ap, ◌∙◌, subst, arith, Bool, true, false, ◌&&◌}
use Rattle.std.proofs.Math.ListN.{length-append}
use Rattle.spec_words.specs.Bits.{xor}
use Rattle.tps_bch.specs.Bch.{bch_generator, xor_bits, bch_multiple, bch_rest, IsTpsWord, tps_parity}

xor_assoc : (a b c : Bool) → xor (xor a b) c ≡ xor a (xor b c)
xor_assoc true true true = refl
xor_assoc true true false = refl
xor_assoc true false true = refl
xor_assoc true false false = refl
xor_assoc false true true = refl
xor_assoc false true false = refl
xor_assoc false false true = refl
xor_assoc false false false = refl

xor_twice : (a b : Bool) → xor a (xor a b) ≡ b
xor_twice true true = refl
xor_twice true false = refl
xor_twice false true = refl
xor_twice false false = refl

xor_self : (a : Bool) → xor a a ≡ false
xor_self true = refl
xor_self false = refl

pub xor_false : (a : Bool) → xor a false ≡ a
xor_false true = refl
xor_false false = refl

and_true : (a : Bool) → (a && true) ≡ a
and_true true = refl
and_true false = refl

pub both : {a b : Bool} {p q : List Bool} → a ≡ b → p ≡ q → (a ∷ p) ≡ (b ∷ q)
both {a = a} {q = q} e f = ap (λ (z : List Bool). a ∷ z) f ∙ ap (λ (z : Bool). z ∷ q) e

assoc : (p q r : List Bool) → xor_bits (xor_bits p q) r ≡ xor_bits p (xor_bits q r)
assoc [] q r = refl
assoc (a ∷ p) [] r = refl
assoc (a ∷ p) (b ∷ q) [] = refl
assoc (a ∷ p) (b ∷ q) (c ∷ r) = both (xor_assoc a b c) (assoc p q r)

twice : (t p : List Bool) → length t ≤ length p → xor_bits t (xor_bits t p) ≡ p
twice [] p l = refl
twice (a ∷ t) [] l = absurd (omega (arith, l))
twice (a ∷ t) (b ∷ p) l = both (xor_twice a b) (twice t p (omega (arith, l)))

self : (p : List Bool) → xor_bits p p ≡ replicate (length p) false
self [] = refl
self (a ∷ p) = both (xor_self a) (self p)

pub length-xor_bits : (t p : List Bool) → length t ≤ length p → length (xor_bits t p) ≡ length p
length-xor_bits [] p l = refl
length-xor_bits (a ∷ t) [] l = absurd (omega (arith, l))
length-xor_bits (a ∷ t) (b ∷ p) l = omega (arith, length-xor_bits t p (omega (arith, l)))

-- the generator after its first coefficient, or nothing
abbrev scaled_tail : Bool → List Bool
scaled_tail a = map (λ g. a && g) (drop 1 bch_generator)

length-scaled_tail : (a : Bool) → length (scaled_tail a) ≡ 14
length-scaled_tail a = refl

-- the quotient of a division by the generator
unfoldable pub factor_of : ℕ → List Bool → List Bool
factor_of zero p = []
factor_of (suc n) [] = []
factor_of (suc n) (a ∷ p) = a ∷ factor_of n (xor_bits (scaled_tail a) p)

next_long : (a : Bool) (p : List Bool) (n : ℕ) → length p ≡ n + 14 → length (xor_bits (scaled_tail a) p) ≡ n + 14
next_long a p n e = length-xor_bits (scaled_tail a) p (omega (arith, e, length-scaled_tail a)) ∙ e

pub length-factor : (n : ℕ) (p : List Bool) → length p ≡ n + 14 → length (factor_of n p) ≡ n
unfolding factor_of
length-factor zero p e = refl
length-factor (suc n) [] e = absurd (omega (arith, e))
length-factor (suc n) (a ∷ p) e = omega (arith, length-factor n (xor_bits (scaled_tail a) p) (next_long a p n (omega (arith, e))))

pub divided : (n : ℕ) (p : List Bool) → length p ≡ n + 14 → bch_multiple (factor_of n p) ≡ xor_bits p (replicate n false ++ bch_rest n p)
unfolding factor_of bch_multiple
divided zero p e = let size : length p ≡ 14 = omega (arith, e) in sym (self p ∙ ap (λ (n : ℕ). replicate n false) size)
divided (suc n) [] e = absurd (omega (arith, e))
divided (suc n) (a ∷ p) e =
    let long : length p ≡ n + 14 = omega (arith, e) in
    let rest : List Bool = replicate n false ++ bch_rest n (xor_bits (scaled_tail a) p) in
    let step : bch_multiple (factor_of n (xor_bits (scaled_tail a) p)) ≡ xor_bits (xor_bits (scaled_tail a) p) rest = divided n (xor_bits (scaled_tail a) p) (next_long a p n long) in
    let tail : xor_bits (scaled_tail a) (bch_multiple (factor_of n (xor_bits (scaled_tail a) p))) ≡ xor_bits p rest =
    ap (xor_bits (scaled_tail a)) step ∙ sym (assoc (scaled_tail a) (xor_bits (scaled_tail a) p) rest) ∙ ap (λ (z : List Bool). xor_bits z rest) (twice (scaled_tail a) p (omega (arith, long, length-scaled_tail a))) in
    both (ap (λ (z : Bool). xor z false) (and_true a)) tail

pub length-rest : (n : ℕ) (p : List Bool) → length p ≡ n + 14 → length (bch_rest n p) ≡ 14
length-rest zero p e = omega (arith, e)
length-rest (suc n) [] e = absurd (omega (arith, e))
length-rest (suc n) (a ∷ p) e = length-rest n (xor_bits (scaled_tail a) p) (next_long a p n (omega (arith, e)))

joined : (info rest : List Bool) → xor_bits (info ++ replicate (length rest) false) (replicate (length info) false ++ rest) ≡ info ++ rest
joined [] [] = refl
joined [] (b ∷ rest) = both (first b) (joined [] rest)
  where
    first : (b : Bool) → xor false b ≡ b
    first true = refl
    first false = refl
joined (a ∷ info) rest = both (xor_false a) (joined info rest)

-- bits with their parity are a word of the code
pub is_word : (info : List Bool) → length info ≡ 53 → IsTpsWord (info ++ tps_parity info)
unfolding tps_parity
is_word info e =
    let whole : List Bool = info ++ replicate 14 false in
    let size : length whole ≡ 53 + 14 = omega (arith, e, length-append info (replicate 14 false)) in
    let last : length (bch_rest 53 whole) ≡ 14 = length-rest 53 whole size in
    let division : bch_multiple (factor_of 53 whole) ≡ xor_bits whole (replicate 53 false ++ bch_rest 53 whole) = divided 53 whole size in
    let sum : xor_bits (info ++ replicate (length (bch_rest 53 whole)) false) (replicate (length info) false ++ bch_rest 53 whole) ≡ info ++ bch_rest 53 whole = joined info (bch_rest 53 whole) in
    let same : xor_bits whole (replicate 53 false ++ bch_rest 53 whole) ≡ info ++ bch_rest 53 whole =
    subst (λ (k : ℕ). xor_bits (info ++ replicate k false) (replicate 53 false ++ bch_rest 53 whole) ≡ info ++ bch_rest 53 whole) last
    (subst (λ (k : ℕ). xor_bits (info ++ replicate (length (bch_rest 53 whole)) false) (replicate k false ++ bch_rest 53 whole) ≡ info ++ bch_rest 53 whole) e sum) in
    record { long = omega (arith, e, last, length-append info (bch_rest 53 whole)); factor = factor_of 53 whole; is = sym (division ∙ same) }
