-- Each place of a word's label is that of one coded bit.
use Rattle.std.proofs.Common.{◌≡◌, ℕ, zero, suc, ◌+◌, ◌-◌, ◌*◌, ◌/◌, ◌%◌, ◌<◌, refl, sym, ap, ◌∙◌, subst, arith, Bool, true, false, eqb, ◌⊎◌, inl, inr}
use Rattle.std.proofs.lemmas.Bool.{eqb-true, eq-eqb, and_parts, and_from}
use Rattle.std.proofs.lemmas.Nat.{div-add-mod'}
use Rattle.std.proofs.Math.Nat.{mod-lt, mul_comm}
use Rattle.spec_words.specs.Words.{first_below}
use Rattle.mode_set.specs.StreamTable.{width}
use Rattle.bit_interleave.specs.Place.{place_in_label, word_of_bit, offset, stands_at, first_place, IsSent, EachBitIsFound}
use Rattle.mode_set.specs.declared.modes.Shape.{Shape}
use Rattle.mode_set.specs.declared.modes.Shape.TheVariants.{Qpsk, Qam16, Qam64}
use Rattle.mode_set.specs.declared.modes.Hierarchy.{Hierarchy}
use Rattle.mode_set.specs.declared.modes.Hierarchy.TheVariants.{Flat, Alpha1, Alpha2, Alpha4}
use Rattle.mode_set.specs.declared.modes.Stream.{Stream}
use Rattle.mode_set.specs.declared.modes.Stream.TheVariants.{Hp, Lp}
use Rattle.bit_interleave.proofs.Counting.{first_is}

-- the coded bit at a place and a word
abbrev bit_at_place : ℕ → ℕ → ℕ → ℕ → ℕ
bit_at_place n first e w = n * (126 * (w / 126) + (w + offset e) % 126) + n / 2 * ((e - first) % 2) + (e - first) / 2

-- the index in a substream comes back from the word
index_back : (i o : ℕ) → o < 126 → let w = 126 * (i / 126) + (i + 126 - o) % 126 in 126 * (w / 126) + (w + o) % 126 ≡ i
index_back i o l = omega arith

-- the number within n bits comes back from the place
number_back : (n r first : ℕ) → ((n ≡ 2) ⊎ (n ≡ 4)) ⊎ (n ≡ 6) → r < n → let e = r / (n / 2) + 2 * (r % (n / 2)) + first in n / 2 * ((e - first) % 2) + (e - first) / 2 ≡ r
number_back n r first (inl (inl e)) l = subst (λ n. r < n → n / 2 * ((r / (n / 2) + 2 * (r % (n / 2)) + first - first) % 2) + (r / (n / 2) + 2 * (r % (n / 2)) + first - first) / 2 ≡ r) (sym e) (λ l. omega arith) l
number_back n r first (inl (inr e)) l = subst (λ n. r < n → n / 2 * ((r / (n / 2) + 2 * (r % (n / 2)) + first - first) % 2) + (r / (n / 2) + 2 * (r % (n / 2)) + first - first) / 2 ≡ r) (sym e) (λ l. omega arith) l
number_back n r first (inr e) l = subst (λ n. r < n → n / 2 * ((r / (n / 2) + 2 * (r % (n / 2)) + first - first) % 2) + (r / (n / 2) + 2 * (r % (n / 2)) + first - first) / 2 ≡ r) (sym e) (λ l. omega arith) l

offset_small : (e : ℕ) → offset e < 126
offset_small zero = omega arith
offset_small (suc zero) = omega arith
offset_small (suc (suc zero)) = omega arith
offset_small (suc (suc (suc zero))) = omega arith
offset_small (suc (suc (suc (suc zero)))) = omega arith
offset_small (suc (suc (suc (suc (suc zero))))) = omega arith
offset_small (suc (suc (suc (suc (suc (suc e)))))) = omega arith

-- a label has 2, 4 or 6 bits of the stream
abbrev pub IsWidth : ℕ → Type 0
IsWidth n = ((n ≡ 2) ⊎ (n ≡ 4)) ⊎ (n ≡ 6)

width_small : (n : ℕ) → IsWidth n → 0 < n
width_small n (inl (inl e)) = omega (arith, e)
width_small n (inl (inr e)) = omega (arith, e)
width_small n (inr e) = omega (arith, e)

rest_small : (d n : ℕ) → 0 < n → d % n < n
rest_small d n some = omega (arith, mod-lt d some)

whole_and_rest : (d n : ℕ) → n * (d / n) + d % n ≡ d
whole_and_rest d n = omega (arith, mul_comm n (d / n), div-add-mod' d n)

pub back : (c : Shape) (h : Hierarchy) (σ : Stream) (d : ℕ) → IsWidth (width c h σ) → bit_at_place (width c h σ) (first_place h σ) (place_in_label c h σ d) (word_of_bit c h σ d) ≡ d
back c h σ d wide = go (width c h σ) (first_place h σ) wide
  where
    go : (n first : ℕ) → IsWidth n → let e = d % n / (n / 2) + 2 * (d % n % (n / 2)) + first in let i = d / n in bit_at_place n first e (126 * (i / 126) + (i + 126 - offset e) % 126) ≡ d
    go n first wide =
        let e : ℕ = d % n / (n / 2) + 2 * (d % n % (n / 2)) + first in
        let i : ℕ = d / n in
        let w : ℕ = 126 * (i / 126) + (i + 126 - offset e) % 126 in
        let index : 126 * (w / 126) + (w + offset e) % 126 ≡ i = index_back i (offset e) (offset_small e) in
        let number : n / 2 * ((e - first) % 2) + (e - first) / 2 ≡ d % n = number_back n (d % n) first wide (rest_small d n (width_small n wide)) in
        let here : n * (126 * (w / 126) + (w + offset e) % 126) ≡ n * i = ap (λ (z : ℕ). n * z) index in
        let whole : n * i + d % n ≡ d = whole_and_rest d n in
        omega (arith, here, number, whole)

stands_here : (c : Shape) (h : Hierarchy) (σ : Stream) (d : ℕ) → stands_at c h σ (place_in_label c h σ d) (word_of_bit c h σ d) d ≡ true
stands_here c h σ d =
    let e : eqb (place_in_label c h σ d) (place_in_label c h σ d) ≡ true = eq-eqb (place_in_label c h σ d) (place_in_label c h σ d) refl in
    let w : eqb (word_of_bit c h σ d) (word_of_bit c h σ d) ≡ true = eq-eqb (word_of_bit c h σ d) (word_of_bit c h σ d) refl in
    and_from (eqb (place_in_label c h σ d) (place_in_label c h σ d)) (eqb (word_of_bit c h σ d) (word_of_bit c h σ d)) e w

-- the search for the coded bit at a place finds it
pub found : (c : Shape) (h : Hierarchy) (σ : Stream) (d n : ℕ) → IsWidth (width c h σ) → d < n → first_below n (stands_at c h σ (place_in_label c h σ d) (word_of_bit c h σ d)) ≡ d
found c h σ d n wide l = first_is n d (stands_at c h σ (place_in_label c h σ d) (word_of_bit c h σ d)) l (stands_here c h σ d) none
  where
    same : (k : ℕ) → stands_at c h σ (place_in_label c h σ d) (word_of_bit c h σ d) k ≡ true → k ≡ d
    same k t =
        let parts = and_parts (eqb (place_in_label c h σ k) (place_in_label c h σ d)) (eqb (word_of_bit c h σ k) (word_of_bit c h σ d)) t in
        let e : place_in_label c h σ k ≡ place_in_label c h σ d = eqb-true _ _ parts.0 in
        let w : word_of_bit c h σ k ≡ word_of_bit c h σ d = eqb-true _ _ parts.1 in
        sym (back c h σ k wide) ∙ ap (λ (z : ℕ). bit_at_place (width c h σ) (first_place h σ) z (word_of_bit c h σ k)) e ∙ ap (λ (z : ℕ). bit_at_place (width c h σ) (first_place h σ) (place_in_label c h σ d) z) w ∙ back c h σ d wide

    none_from : (k : ℕ) (b : Bool) → stands_at c h σ (place_in_label c h σ d) (word_of_bit c h σ d) k ≡ b → k < d → b ≡ false
    none_from k false t m = refl
    none_from k true t m = let equal : k ≡ d = same k t in absurd (omega (arith, equal, m))

    none : (k : ℕ) → k < d → stands_at c h σ (place_in_label c h σ d) (word_of_bit c h σ d) k ≡ false
    none k m = none_from k _ refl m

-- a stream that is sent has 2, 4 or 6 bits of each label
widths : (s : Shape) (h : Hierarchy) (σ : Stream) → IsSent s h σ → IsWidth (width s h σ)
widths Qpsk Flat Hp sent = inl (inl refl)
widths Qpsk Flat Lp sent = absurd (cc (sent.exists))
widths Qpsk Alpha1 σ sent = absurd (cc (sent.qpsk refl))
widths Qpsk Alpha2 σ sent = absurd (cc (sent.qpsk refl))
widths Qpsk Alpha4 σ sent = absurd (cc (sent.qpsk refl))
widths Qam16 Flat Hp sent = inl (inr refl)
widths Qam16 Flat Lp sent = absurd (cc (sent.exists))
widths Qam16 Alpha1 Hp sent = inl (inl refl)
widths Qam16 Alpha1 Lp sent = inl (inl refl)
widths Qam16 Alpha2 Hp sent = inl (inl refl)
widths Qam16 Alpha2 Lp sent = inl (inl refl)
widths Qam16 Alpha4 Hp sent = inl (inl refl)
widths Qam16 Alpha4 Lp sent = inl (inl refl)
widths Qam64 Flat Hp sent = inr refl
widths Qam64 Flat Lp sent = absurd (cc (sent.exists))
widths Qam64 Alpha1 Hp sent = inl (inl refl)
widths Qam64 Alpha1 Lp sent = inl (inr refl)
widths Qam64 Alpha2 Hp sent = inl (inl refl)
widths Qam64 Alpha2 Lp sent = inl (inr refl)
widths Qam64 Alpha4 Hp sent = inl (inl refl)
widths Qam64 Alpha4 Lp sent = inl (inr refl)

pub sent_bit_is_found : EachBitIsFound
sent_bit_is_found s h σ n d sent l = found s h σ d n (widths s h σ sent) l
