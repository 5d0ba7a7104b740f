-- Concatenated lists with known starts.
use Rattle.std.proofs.Common.{◌≡◌, ℕ, zero, suc, ◌+◌, ◌-◌, ◌≤◌, ◌<◌, List, ◌++◌, length, get_or, sym, ap, ◌∙◌, subst, arith, length-append}
use Rattle.std.specs.Prelude.{flat_map}
use Rattle.std.specs.List.{range_with_len}
use Rattle.std.proofs.lemmas.List.{get_or_append_left, get_or-append-add}
use Rattle.spec_words.specs.Words.{numbers}

module _ {X : Type 0} (f : ℕ → List X) (start : ℕ → ℕ) (long : (i : ℕ) → length (f i) ≡ start (i + 1) - start i) (grows : (i j : ℕ) → i ≤ j → start i ≤ start j) where
  all_long : (a n : ℕ) → length (flat_map f (range_with_len a n)) + start a ≡ start (a + n)
  all_long a zero = let here : a ≡ a + 0 = omega arith in let e = ap start here in omega (arith, e)
  all_long a (suc n) =
      let rest = all_long (a + 1) n in
      let both = length-append (f a) (flat_map f (range_with_len (a + 1) n)) in
      let first = long a in
      let more = grows a (a + 1) (omega arith) in
      let there : a + 1 + n ≡ a + suc n = omega arith in
      let e = ap start there in
      omega (arith, rest, both, first, more, e)

  part_at : (d : X) (a n k i : ℕ) → k < n → i < length (f (a + k)) → get_or (flat_map f (range_with_len a n)) (start (a + k) - start a + i) d ≡ get_or (f (a + k)) i d
  part_at d a zero k i l within = absurd (omega (arith, l))
  part_at d a (suc n) zero i l within =
      let here : a + 0 ≡ a = omega arith in
      let place : start (a + 0) - start a + i ≡ i = (let e = ap start here in omega (arith, e)) in
      let less : i < length (f a) = subst (λ (z : ℕ). i < length (f z)) here within in
      ap (λ (z : ℕ). get_or (f a ++ flat_map f (range_with_len (a + 1) n)) z d) place
      ∙ get_or_append_left (f a) (flat_map f (range_with_len (a + 1) n)) d i less
      ∙ ap (λ (z : ℕ). get_or (f z) i d) (sym here)
  part_at d a (suc n) (suc k) i l within =
      let there : a + suc k ≡ a + 1 + k = omega arith in
      let less : i < length (f (a + 1 + k)) = subst (λ (z : ℕ). i < length (f z)) there within in
      let first = long a in
      let next = grows a (a + 1) (omega arith) in
      let more = grows (a + 1) (a + 1 + k) (omega arith) in
      let e = ap start there in
      let place : start (a + suc k) - start a + i ≡ length (f a) + (start (a + 1 + k) - start (a + 1) + i) = omega (arith, first, next, more, e) in
      ap (λ (z : ℕ). get_or (f a ++ flat_map f (range_with_len (a + 1) n)) z d) place
      ∙ get_or-append-add (f a) (flat_map f (range_with_len (a + 1) n)) (start (a + 1 + k) - start (a + 1) + i) d
      ∙ part_at d (a + 1) n k i (omega (arith, l)) less
      ∙ ap (λ (z : ℕ). get_or (f z) i d) (sym there)

  pub parts_long : (n : ℕ) → start 0 ≡ 0 → length (flat_map f (numbers n)) ≡ start n
  unfolding numbers
  parts_long n none =
      let all = all_long 0 n in
      let there : 0 + n ≡ n = omega arith in
      let e = ap start there in
      omega (arith, all, none, e)

  pub part_is : (d : X) (n k i : ℕ) → start 0 ≡ 0 → k < n → i < length (f k) → get_or (flat_map f (numbers n)) (start k + i) d ≡ get_or (f k) i d
  unfolding numbers
  part_is d n k i none l within =
      let there : k ≡ 0 + k = omega arith in
      let less : i < length (f (0 + k)) = subst (λ (z : ℕ). i < length (f z)) there within in
      let e = ap start there in
      let place : start k + i ≡ start (0 + k) - start 0 + i = omega (arith, none, e) in
      ap (λ (z : ℕ). get_or (flat_map f (range_with_len 0 n)) z d) place
      ∙ part_at d 0 n k i l less
      ∙ ap (λ (z : ℕ). get_or (f z) i d) (sym there)
