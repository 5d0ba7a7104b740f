-- The fields that bits with a few errors signal.
use Rattle.std.proofs.Common.{◌≡◌, ◌+◌, ◌<◌, ◌≤◌, Bool, true, false, cond, inl, inr, ◌⊎◌, List, [], ◌∷◌, length, refl, sym, ap, ◌∙◌, subst, arith}
use Rattle.std.specs.Prelude.{Option, Some, None}
use Rattle.std.proofs.lemmas.Bool.{cases_lt}
use Rattle.spec_words.specs.Bits.{xor}
use Rattle.tps_bch.specs.Bch.{IsTpsWord, AreApart, bit_distance}
use Rattle.tps_word.specs.Tps.{tps_word, IsValid, ReadsAs}
use Rattle.tps_word.specs.Signals.{Signals, OneSignalled}
use Rattle.tps_word.specs.declared.word.TpsWord.{TpsWord}
use Rattle.tps_word.proofs.Places.{one_reading}

pub back : (t : TpsWord) → IsValid t → (answer : Option TpsWord) → ReadsAs (tps_word t) answer → answer ≡ Some t
back t valid None none = absurd (none t valid refl)
back t valid (Some u) some = ap Some (one_reading t u valid some.0 some.1)

-- the signalled fields are read from the corrected bits
pub found : (bits new : List Bool) (answer : Option TpsWord) (t : TpsWord) → new ≡ tps_word t → Signals bits t → ReadsAs new answer → answer ≡ Some t
found bits new answer t e h r = back t h.valid answer (subst (λ (z : List Bool). ReadsAs z answer) e r)

-- ---- one word

triangle : (a b c : Bool) → cond (xor b c) 1 0 ≤ cond (xor a b) 1 0 + cond (xor a c) 1 0
triangle true true true = omega arith
triangle true true false = omega arith
triangle true false true = omega arith
triangle true false false = omega arith
triangle false true true = omega arith
triangle false true false = omega arith
triangle false false true = omega arith
triangle false false false = omega arith

between : (x v w : List Bool) → length x ≡ length v → length x ≡ length w → bit_distance v w ≤ bit_distance x v + bit_distance x w
between [] [] w l k = omega arith
between [] (b ∷ v) w l k = absurd (omega (arith, l))
between (a ∷ x) [] w l k = absurd (omega (arith, l))
between (a ∷ x) (b ∷ v) [] l k = absurd (omega (arith, k))
between (a ∷ x) (b ∷ v) (c ∷ w) l k = omega (arith, triangle a b c, between x v w (omega (arith, l)) (omega (arith, k)))

self_near : (v : List Bool) → bit_distance v v ≡ 0
self_near [] = refl
self_near (true ∷ v) = omega (arith, self_near v)
self_near (false ∷ v) = omega (arith, self_near v)

none_differ : (v w : List Bool) → length v ≡ length w → bit_distance v w ≡ 0 → v ≡ w
none_differ [] [] l d = refl
none_differ [] (b ∷ w) l d = absurd (omega (arith, l))
none_differ (a ∷ v) [] l d = absurd (omega (arith, l))
none_differ (true ∷ v) (true ∷ w) l d = ap (λ (z : List Bool). true ∷ z) (none_differ v w (omega (arith, l)) (omega (arith, d)))
none_differ (true ∷ v) (false ∷ w) l d = absurd (omega (arith, d))
none_differ (false ∷ v) (true ∷ w) l d = absurd (omega (arith, d))
none_differ (false ∷ v) (false ∷ w) l d = ap (λ (z : List Bool). false ∷ z) (none_differ v w (omega (arith, l)) (omega (arith, d)))

-- two words of the code within two errors of the same bits
one_word : AreApart → (bits v w : List Bool) → length bits ≡ 67 → IsTpsWord v → IsTpsWord w → bit_distance bits v ≤ 2 → bit_distance bits w ≤ 2 → v ≡ w
one_word apart bits v w long is_v is_w near_v near_w = go (cases_lt 0 (bit_distance v w))
  where
    few : bit_distance v w ≤ 4
    few = omega (arith, near_v, near_w, between bits v w (long ∙ sym is_v.long) (long ∙ sym is_w.long))

    go : (0 < bit_distance v w) ⊎ (bit_distance v w ≤ 0) → v ≡ w
    go (inl some) = absurd (omega (arith, few, apart v w is_v is_w (λ e. omega (arith, some, self_near v, ap (bit_distance v) (sym e)))))
    go (inr none) = none_differ v w (is_v.long ∙ sym is_w.long) (omega (arith, none))

pub one_signalled : AreApart → OneSignalled
one_signalled apart bits t u long h k = sym (one_reading t u h.valid k.valid (one_word apart bits (tps_word t) (tps_word u) long h.is_word k.is_word h.close k.close))
