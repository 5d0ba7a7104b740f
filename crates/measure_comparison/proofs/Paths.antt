-- Paths, and bits that are taken from the front of a list.
use Rattle.std.proofs.Common.{◌≡◌, ℕ, zero, suc, ◌+◌, ◌-◌, ◌<◌, ◌≤◌, Bool, false, List, [], ◌∷◌, ◌++◌, length, take, drop, get_or, replicate, refl, sym, ap, ◌∙◌, arith, length-drop, length-take-le}
use Rattle.std.proofs.lemmas.List.{get_or-take, get_or-drop, get_or_append_left, get_or-append_right, ext_get_or}
use Rattle.std.proofs.lemmas.List.FromFn.{length-map-range_with_len, get_or-map-range_with_len}
use Rattle.spec_words.specs.Bits.{bit}
use Rattle.puncture.specs.SentBits.{bits_from}
use Rattle.inner_chain.specs.Labels.{from_step}
use Rattle.measurement.specs.Known.{known_path}

-- bits of a path from a step on
pub bits_from_step : (path : ℕ → Bool) (n t u k : ℕ) → n + t ≡ u → bits_from (from_step path n) t k ≡ bits_from path u k
bits_from_step path n t u zero e = refl
bits_from_step path n t u (suc k) e =
    let next : n + (t + 1) ≡ u + 1 = omega (arith, e) in
    ap (λ (z : Bool). z ∷ bits_from (from_step path n) (t + 1) k) (ap path e) ∙ ap (λ (z : List Bool). path u ∷ z) (bits_from_step path n (t + 1) (u + 1) k next)

drop_none : (j : ℕ) → drop {A = Bool} j [] ≡ []
drop_none zero = refl
drop_none (suc j) = refl

drop_more : (w : List Bool) (n j m : ℕ) → n + j ≡ m → drop j (drop n w) ≡ drop m w
drop_more w zero j m e = let same : j ≡ m = omega (arith, e) in ap (λ (z : ℕ). drop z w) same
drop_more w (suc n) j zero e = absurd (omega (arith, e))
drop_more [] (suc n) j (suc m) e = drop_none j
drop_more (x ∷ w) (suc n) j (suc m) e = drop_more w n j m (omega (arith, e))

pub left_more : (w from new : List Bool) (n j m : ℕ) → n + j ≡ m → from ≡ drop n w → new ≡ drop j from → new ≡ drop m w
left_more w from new n j m e f h = h ∙ ap (drop j) f ∙ drop_more w n j m e

-- known bits are those of the path, six places on
pub bits_known : (known : List Bool) (p n : ℕ) → p + n ≤ length known → take n (drop p known) ≡ bits_from (known_path known) (p + 6) n
bits_known known p n l =
    ext_get_or false (take n (drop p known)) (bits_from (known_path known) (p + 6) n) (long ∙ sym (length-map-range_with_len (known_path known) (p + 6) n)) each
  where
    long : length (take n (drop p known)) ≡ n
    long = length-take-le n (drop p known) (omega (arith, l, length-drop p known))

    each : (i : ℕ) → i < length (take n (drop p known)) → get_or (take n (drop p known)) i false ≡ get_or (bits_from (known_path known) (p + 6) n) i false
    each i m =
        let below : i < n = omega (arith, m, long) in
        let there : p + 6 + i ≡ p + i + 6 = omega arith in
        let back : p + i + 6 - 6 ≡ p + i = omega arith in
        let far : 6 ≤ p + i + 6 = omega arith in
        get_or-take n (drop p known) i false below ∙ get_or-drop p known i false
        ∙ sym (get_or-map-range_with_len (known_path known) (p + 6) n i (p + i + 6) false below there ∙ get_or-append_right (replicate 6 false) known 6 (p + i + 6) false refl far ∙ ap (λ (z : ℕ). get_or known z false) back)

-- a register of six bits and what waits behind it are those of a path
pub path_begins : (register waiting : List Bool) → length register ≡ 6 → register ≡ bits_from (bit (register ++ waiting)) 0 6
path_begins register waiting l = ext_get_or false register (bits_from (bit (register ++ waiting)) 0 6) (l ∙ sym (length-map-range_with_len (bit (register ++ waiting)) 0 6)) each
  where
    each : (i : ℕ) → i < length register → get_or register i false ≡ get_or (bits_from (bit (register ++ waiting)) 0 6) i false
    each i m =
        let below : i < 6 = omega (arith, m, l) in
        let there : 0 + i ≡ i = omega arith in
        sym (get_or-map-range_with_len (bit (register ++ waiting)) 0 6 i i false below there ∙ get_or_append_left register waiting false i m)

pub path_goes_on : (register waiting : List Bool) (n : ℕ) → length register ≡ 6 → n ≤ length waiting → take n waiting ≡ bits_from (bit (register ++ waiting)) 6 n
path_goes_on register waiting n l few = ext_get_or false (take n waiting) (bits_from (bit (register ++ waiting)) 6 n) (long ∙ sym (length-map-range_with_len (bit (register ++ waiting)) 6 n)) each
  where
    long : length (take n waiting) ≡ n
    long = length-take-le n waiting few

    each : (i : ℕ) → i < length (take n waiting) → get_or (take n waiting) i false ≡ get_or (bits_from (bit (register ++ waiting)) 6 n) i false
    each i m =
        let below : i < n = omega (arith, m, long) in
        let there : 6 + i ≡ i + 6 = omega arith in
        let back : i + 6 - 6 ≡ i = omega arith in
        let far : 6 ≤ i + 6 = omega arith in
        get_or-take n waiting i false below
        ∙ sym (get_or-map-range_with_len (bit (register ++ waiting)) 6 n i (i + 6) false below there ∙ get_or-append_right register waiting 6 (i + 6) false l far ∙ ap (λ (z : ℕ). get_or waiting z false) back)
