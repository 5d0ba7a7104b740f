-- Parts of one length, one after another.
use Rattle.std.proofs.Common.{◌≡◌, ℕ, zero, suc, ◌+◌, ◌*◌, ◌<◌, List, ◌++◌, length, take, drop, get_or, refl, sym, ap, ◌∙◌, subst, arith, length-append}
use Rattle.std.specs.Prelude.{flat_map}
use Rattle.std.specs.List.{range_with_len}
use Rattle.std.proofs.lemmas.List.{get_or_append_left, get_or-append-add}
use Rattle.std.proofs.Math.Seq.{drop-append-add, take-append_seam}
use Rattle.spec_words.specs.Words.{numbers}

-- a list begins with a part
pub record BeginsWith (xs part : List ℕ) : Type 0 where
  pub rest : List ℕ
  pub is : xs ≡ part ++ rest

-- functions that agree below n
same_from : (f g : ℕ → List ℕ) (a n : ℕ) → ((i : ℕ) → i < n → f (a + i) ≡ g (a + i)) → flat_map f (range_with_len a n) ≡ flat_map g (range_with_len a n)
same_from f g a zero same = refl
same_from f g a (suc n) same =
    let here : a + 0 ≡ a = omega arith in
    let first : f a ≡ g a = subst (λ (z : ℕ). f z ≡ g z) here (same 0 (omega arith)) in
    let rest : flat_map f (range_with_len (a + 1) n) ≡ flat_map g (range_with_len (a + 1) n) = same_from f g (a + 1) n (λ i l. let next : a + suc i ≡ a + 1 + i = omega arith in subst (λ (z : ℕ). f z ≡ g z) next (same (suc i) (omega arith))) in
    ap (λ (z : List ℕ). z ++ flat_map f (range_with_len (a + 1) n)) first ∙ ap (λ (z : List ℕ). g a ++ z) rest

pub same_below : (f g : ℕ → List ℕ) (n : ℕ) → ((i : ℕ) → i < n → f i ≡ g i) → flat_map f (numbers n) ≡ flat_map g (numbers n)
unfolding numbers
same_below f g n same = same_from f g 0 n (λ i l. let here : i ≡ 0 + i = omega arith in subst (λ (z : ℕ). f z ≡ g z) here (same i l))

module _ (f : ℕ → List ℕ) (c : ℕ) (long : (i : ℕ) → length (f i) ≡ c) where
  all_long : (a n : ℕ) → length (flat_map f (range_with_len a n)) ≡ c * n
  all_long a zero = omega arith
  all_long a (suc n) =
      let rest : length (flat_map f (range_with_len (a + 1) n)) ≡ c * n = all_long (a + 1) n in
      let here : length (f a) ≡ c = long a in
      let both = length-append (f a) (flat_map f (range_with_len (a + 1) n)) in
      omega (arith, rest, here, both)

  part_at : (a n k i : ℕ) → k < n → i < c → get_or (flat_map f (range_with_len a n)) (c * k + i) 0 ≡ get_or (f (a + k)) i 0
  part_at a zero k i l within = absurd (omega (arith, l))
  part_at a (suc n) zero i l within =
      let here : a ≡ a + 0 = omega arith in
      let place : c * 0 + i ≡ i = omega arith in
      let less : i < length (f a) = (let e = long a in omega (arith, e, within)) in
      ap (λ (z : ℕ). get_or (f a ++ flat_map f (range_with_len (a + 1) n)) z 0) place
      ∙ get_or_append_left (f a) (flat_map f (range_with_len (a + 1) n)) 0 i less
      ∙ ap (λ (z : ℕ). get_or (f z) i 0) here
  part_at a (suc n) (suc k) i l within =
      let there : a + 1 + k ≡ a + suc k = omega arith in
      let first = long a in
      let place : c * suc k + i ≡ length (f a) + (c * k + i) = omega (arith, first) in
      ap (λ (z : ℕ). get_or (f a ++ flat_map f (range_with_len (a + 1) n)) z 0) place
      ∙ get_or-append-add (f a) (flat_map f (range_with_len (a + 1) n)) (c * k + i) 0
      ∙ part_at (a + 1) n k i (omega (arith, l)) within
      ∙ ap (λ (z : ℕ). get_or (f z) i 0) there

  pub parts_long : (n : ℕ) → length (flat_map f (numbers n)) ≡ c * n
  unfolding numbers
  parts_long n = all_long 0 n

  pub part_is : (n k i : ℕ) → k < n → i < c → get_or (flat_map f (numbers n)) (c * k + i) 0 ≡ get_or (f k) i 0
  unfolding numbers
  part_is n k i l within = let here : 0 + k ≡ k = omega arith in part_at 0 n k i l within ∙ ap (λ (z : ℕ). get_or (f z) i 0) here

  begins_from : (a n k : ℕ) → k < n → BeginsWith (drop (c * k) (flat_map f (range_with_len a n))) (f (a + k))
  begins_from a zero k l = absurd (omega (arith, l))
  begins_from a (suc n) zero l =
      let none : c * 0 ≡ 0 = omega arith in
      let here : a + 0 ≡ a = omega arith in
      record {
        rest = flat_map f (range_with_len (a + 1) n);
        is = ap (λ (z : ℕ). drop z (f a ++ flat_map f (range_with_len (a + 1) n))) none ∙ ap (λ (z : ℕ). f z ++ flat_map f (range_with_len (a + 1) n)) (sym here);
      }
  begins_from a (suc n) (suc k) l =
      let h = begins_from (a + 1) n k (omega (arith, l)) in
      let first = long a in
      let next : c * suc k ≡ length (f a) + c * k = omega (arith, first) in
      let same : a + 1 + k ≡ a + suc k = omega arith in
      record {
        rest = h.rest;
        is =
            ap (λ (z : ℕ). drop z (f a ++ flat_map f (range_with_len (a + 1) n))) next
            ∙ drop-append-add (f a) (flat_map f (range_with_len (a + 1) n)) (c * k)
            ∙ h.is
            ∙ ap (λ (z : ℕ). f z ++ h.rest) same;
      }

  -- behind the first k parts the bytes begin with the next one
  pub part_begins : (n k : ℕ) → k < n → BeginsWith (drop (c * k) (flat_map f (numbers n))) (f k)
  unfolding numbers
  part_begins n k l =
      let here : 0 + k ≡ k = omega arith in
      subst (λ (z : ℕ). BeginsWith (drop (c * k) (flat_map f (numbers n))) (f z)) here (begins_from 0 n k l)

  -- a piece as long as a part is a part
  pub piece_is : (n k : ℕ) → k < n → take c (drop (k * c) (flat_map f (numbers n))) ≡ f k
  piece_is n k l =
      let b = part_begins n k l in
      let place : k * c ≡ c * k = grind arith in
      ap (λ (z : ℕ). take c (drop z (flat_map f (numbers n)))) place
      ∙ ap (take c) b.is
      ∙ ap (λ (z : ℕ). take z (f k ++ b.rest)) (sym (long k))
      ∙ take-append_seam (f k) b.rest
