-- A codeword close to the word outside the erasures is found.
use Rattle.std.proofs.Common.{◌≡◌, ℕ, zero, suc, ◌+◌, ◌-◌, ◌<◌, ◌≤◌, ◌⊎◌, inl, inr, List, [], ◌∷◌, reverse, length, get_or, map, sym, ap, ap₂, ◌∙◌, subst, arith, lit<}
use Rattle.std.specs.Prelude.{bit_xor, slice_index}
use Rattle.std.proofs.lemmas.Bool.{cases_eq, cases_lt}
use Rattle.std.proofs.lemmas.List.{get_or_past, length-map, length-reverse}
use Rattle.gf256.specs.Field.{power}
use Rattle.gf256.proofs.FieldLaws.{xor_equal, power_small}
use Rattle.rs204.specs.Codes.{plus, AreBytes, IsCodeword}
use Rattle.rs204.specs.Polynomials.{value_at, weight}
use Rattle.rs204.specs.Decoding.{AreSyndromes, DifferAtRoots, IsLocator}
use Rattle.rs204.proofs.Polynomials.{Among}
use Rattle.rs204.proofs.Distance.{weight_reverse, length-plus, codewords_apart}
use Rattle.rs204.proofs.Near.{error, error_bytes, error_long, error_value, error_from_end}
use Rattle.rs204.proofs.Codewords.{between}
use Rattle.rs_erasure.specs.Outside.{distance_outside, IsFarOutside}
use Rattle.rs_erasure.specs.Locating.{blanked, place_power, lowered, times_all, IsProduct}
use Rattle.rs_erasure.proofs.Places.{times_none, times_among, times_zero, cleared, cleared_at, cleared_bytes, cleared_values, length-cleared, weight_less}
use Rattle.rs_erasure.proofs.Blanked.{Kept, blanked_at, powers_among, place_bytes, difference_at, length-blanked, distance_blanked, counted}

module _ (word c erased : List ℕ) (long : length word ≡ 204) (bytes : AreBytes word) (code : IsCodeword c) where
  abbrev roots : List ℕ
  roots = map place_power erased

  abbrev fault : List ℕ
  fault = error word c long bytes code

  -- the error without its erased positions
  abbrev pub outer : List ℕ
  outer = cleared roots 0 fault

  outer_long : length outer ≡ 204
  outer_long = length-cleared roots 0 fault ∙ error_long word c long bytes code

  outer_at : (k : ℕ) → get_or outer k 0 ≡ times_all roots (power k) (get_or fault k 0)
  outer_at k = let z : 0 + k ≡ k = omega arith in cleared_at roots 0 k fault ∙ ap (λ i. times_all roots (power i) (get_or fault k 0)) z

  -- it is 0 where the blanked words agree
  outer_none : (j : ℕ) → get_or (plus (reverse (blanked erased word)) (reverse (blanked erased c))) j 0 ≡ 0 → get_or outer j 0 ≡ 0
  outer_none j e = go (cases_lt j 204)
    where
      here : j < 204 → Among (203 - j) erased ⊎ Kept erased word c (203 - j) → get_or outer j 0 ≡ 0
      here l (inl a) =
          let q : 203 - (203 - j) ≡ j = omega arith in
          outer_at j ∙ times_among roots (power j) (get_or fault j 0) (subst (λ k. Among (power k) roots) q (powers_among erased (203 - j) a))
      here l (inr k) =
          let d : get_or fault j 0 ≡ 0 = error_from_end word c long bytes code j l ∙ sym (ap₂ bit_xor k.0 k.1)
          ∙ sym (difference_at (blanked erased word) (blanked erased c) j (length-blanked erased word ∙ long) (length-blanked erased c ∙ code.long) l) ∙ e in
          outer_at j ∙ ap (times_all roots (power j)) d ∙ times_zero roots (power j)

      go : (j < 204) ⊎ (204 ≤ j) → get_or outer j 0 ≡ 0
      go (inl l) = here l (blanked_at erased word c (203 - j))
      go (inr l) = get_or_past outer j 0 (omega (arith, outer_long))

  outer_weight : weight outer ≤ distance_outside erased word c
  outer_weight =
      let l : length (blanked erased word) ≡ length (blanked erased c) = length-blanked erased word ∙ long ∙ sym (length-blanked erased c ∙ code.long) in
      let m : length (reverse (blanked erased word)) ≡ length (reverse (blanked erased c)) = length-reverse (blanked erased word) ∙ l ∙ sym (length-reverse (blanked erased c)) in
      let n : length outer ≡ length (plus (reverse (blanked erased word)) (reverse (blanked erased c))) =
      outer_long ∙ sym (length-plus (reverse (blanked erased word)) (reverse (blanked erased c)) m ∙ length-reverse (blanked erased word) ∙ length-blanked erased word ∙ long) in
      omega (arith, weight_less outer (plus (reverse (blanked erased word)) (reverse (blanked erased c))) n outer_none, weight_reverse (blanked erased word) (blanked erased c) l, counted erased word c long code.long)

  -- the polynomial is 0 where the codeword differs
  pub differ_at_roots : (most : ℕ) → most ≤ 4 → (values left outside product : List ℕ) → AreSyndromes word values → length erased ≡ 8
      → ((i : ℕ) → i < 8 → slice_index left i ≡ lowered roots (λ k. slice_index values k) i)
      → IsLocator most left outside → IsProduct roots outside product → distance_outside erased word c ≤ most → DifferAtRoots product word c
  differ_at_roots most four values left outside product found eight lefts loc times near k l n = go (cases_eq (get_or outer k 0) 0)
    where
      one : 0 < 1
      one = lit< tt

      some : get_or fault k 0 ≡ 0 → ⊥
      some z = n (xor_equal (get_or word (203 - k) 0) (get_or c (203 - k) 0) (sym (error_from_end word c long bytes code k l) ∙ z))

      small : get_or fault k 0 < 256
      small = byte fault (error_bytes word c long bytes code) k
        where
          byte : (e : List ℕ) → AreBytes e → (k : ℕ) → get_or e k 0 < 256
          byte [] b k = lit< tt
          byte (a ∷ e) b zero = b.0
          byte (a ∷ e) b (suc k) = byte e b.1 k

      erased_root : (get_or fault k 0 ≡ 0) ⊎ Among (power k) roots → value_at (power k) product ≡ 0
      erased_root (inl z) = absurd (some z)
      erased_root (inr a) = times.values (power k) (power_small k) ∙ times_among roots (power k) (value_at (power k) outside) a

      go : (get_or outer k 0 ≡ 0) ⊎ (get_or outer k 0 ≡ 0 → ⊥) → value_at (power k) product ≡ 0
      go (inl z) = erased_root (times_none roots (power k) (get_or fault k 0) (place_bytes erased) (power_small k) small (sym (outer_at k) ∙ z))
      go (inr z) =
          times.values (power k) (power_small k)
          ∙ ap (times_all roots (power k))
          (loc.roots outer (cleared_bytes roots 0 fault (place_bytes erased) (error_bytes word c long bytes code)) (omega (arith, outer_long)) (omega (arith, outer_weight))
          (λ i m. lefts i (omega arith) ∙ cleared_values roots 16 (λ j. slice_index values j) fault (place_bytes erased) (error_bytes word c long bytes code) (λ j o. error_value word c long bytes code values found j o) i (omega (arith, length-map erased place_power, eight)))
          k z)
          ∙ times_zero roots (power k)

-- ---- at most one codeword is close outside the erasures

pub one_outside : (word erased v w : List ℕ) → length word ≡ 204 → length erased ≡ 8 → IsCodeword v → IsCodeword w → distance_outside erased word v ≤ 4 → distance_outside erased word w ≤ 4 → v ≡ w
one_outside word erased v w l m h k d e =
    codewords_apart v w h k
    (omega (
      arith,
      d,
      e,
      m,
      counted erased word v l h.long,
      counted erased word w l k.long,
      distance_blanked erased v w (h.long ∙ sym k.long),
      between (blanked erased word) (blanked erased v) (blanked erased w) (length-blanked erased word ∙ l ∙ sym (length-blanked erased v ∙ h.long)) (length-blanked erased word ∙ l ∙ sym (length-blanked erased w ∙ k.long)),
    ))

-- no codeword is close if the candidate is rejected
pub none_outside : (word fixed erased : List ℕ) → ((c : List ℕ) → IsCodeword c → distance_outside erased word c ≤ 4 → fixed ≡ c) → (4 < distance_outside erased word fixed) ⊎ (IsCodeword fixed → ⊥) → IsFarOutside word erased
none_outside word fixed erased near why c h = go (cases_lt 4 (distance_outside erased word c))
  where
    no_way : distance_outside erased word c ≤ 4 → fixed ≡ c → (4 < distance_outside erased word fixed) ⊎ (IsCodeword fixed → ⊥) → ⊥
    no_way m e (inl z) = absurd (omega (arith, z, m, ap (distance_outside erased word) e))
    no_way m e (inr z) = z (subst IsCodeword (sym e) h)

    go : (4 < distance_outside erased word c) ⊎ (distance_outside erased word c ≤ 4) → 4 < distance_outside erased word c
    go (inl m) = m
    go (inr m) = absurd (no_way m (near c h m) why)
