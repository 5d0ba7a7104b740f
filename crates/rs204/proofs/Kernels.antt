-- Vectors that satisfy equations.
use Rattle.std.proofs.Common.{◌≡◌, ◌≢◌, ℕ, suc, ◌+◌, ◌<◌, ◌≤◌, ◌⊎◌, inl, inr, List, [], ◌∷◌, map, length, refl, sym, ap, ap₂, ◌∙◌, subst, arith}
use Rattle.std.specs.Prelude.{bit_xor, slice_index}
use Rattle.std.specs.List.{SwappedAt}
use Rattle.std.proofs.Common.{cond, eqb, ltb, Bool, true, ◌&&◌}
use Rattle.gf256.proofs.FieldLaws.{mul_comm, mul_assoc, mul_xor_left, mul_small, mul_zero_right, xor_four, xor_small, mul_xor_right, one_right}
use Rattle.rs204.proofs.Below.{all_below, all_below_at}
use Rattle.std.proofs.lemmas.Bool.{cases_lt, cond_both, eqb-true, eqb-false, eq-eqb, ne_eqb, ltb-true, and_parts}
use lib.Bits.{xor_self, xor_zero_r}
use Rattle.gf256.specs.Field.{mul}
use Rattle.std.proofs.lemmas.List.{length-map, get_or_past}
use Rattle.rs204.specs.Codes.{plus, AreBytes}
use Rattle.rs204.specs.Polynomials.{along}
use Rattle.rs204.specs.Kernels.{vector, IsKernel}
use Rattle.rs204.proofs.Distance.{length-plus}
use Rattle.rs204.proofs.Polynomials.{plus_bytes, map_bytes}
use Rattle.rs204.proofs.CodeSteps.{get_or-sum}

pub along_small : (v : List ℕ) (s : ℕ → ℕ) (i : ℕ) → AreBytes v → ((k : ℕ) → s k < 256) → along v s i < 256
along_small [] s i b h = omega arith
along_small (c ∷ v) s i b h = xor_small _ _ (mul_small c (s i) b.0 (h i)) (along_small v s (suc i) b.1 h)

-- the product is linear
along_sum : (f : ℕ) (v u : List ℕ) (s : ℕ → ℕ) (i : ℕ) → f < 256 → length v ≡ length u → AreBytes v → AreBytes u → ((k : ℕ) → s k < 256) → along (plus v (map (mul f) u)) s i ≡ bit_xor (along v s i) (mul f (along u s i))
along_sum f [] [] s i l e b c h = sym (mul_zero_right f)
along_sum f [] (d ∷ u) s i l e b c h = absurd (omega arith)
along_sum f (a ∷ v) [] s i l e b c h = absurd (omega arith)
along_sum f (a ∷ v) (d ∷ u) s i l e b c h =
    ap₂ bit_xor (mul_xor_left a (mul f d) (s i) ∙ ap (bit_xor (mul a (s i))) (mul_assoc f d (s i) l c.0 (h i))) (along_sum f v u s (suc i) l (omega arith) b.1 c.1 h)
    ∙ xor_four (mul a (s i)) (mul f (mul d (s i))) (along v s (suc i)) (mul f (along u s (suc i)))
    ∙ ap (bit_xor (along (a ∷ v) s i)) (sym (mul_xor_right f (mul d (s i)) (along u s (suc i)) l (mul_small d (s i) c.0 (h i)) (along_small u s (suc i) c.1 h)))

-- two vectors exchanged
pub kernel_moved : (wide n m : ℕ) (values : List ℕ) (v w : ℕ → List ℕ) (to : ℕ → ℕ) → ((k : ℕ) → k < n → to k < n) → ((j k : ℕ) → j < n → k < n → to j ≡ to k → j ≡ k) → ((k : ℕ) → k < n → w k ≡ v (to k)) → IsKernel wide n m values v → IsKernel wide n m values w
kernel_moved wide n m values v w to in_n one_to e h = record {
  sized = λ k l. ap length (e k l) ∙ h.sized (to k) (in_n k l);
  bytes = λ k l. subst AreBytes (sym (e k l)) (h.bytes (to k) (in_n k l));
  short = λ k j l p. ap (λ z. slice_index z j) (e k l) ∙ h.short (to k) j (in_n k l) p;
  meets = λ k i l p. ap (λ z. along z (λ j. slice_index values j) i) (e k l) ∙ h.meets (to k) i (in_n k l) p;
  place = λ k. h.place (to k);
  below = λ k l. h.below (to k) (in_n k l);
  one = λ k l. ap (λ z. slice_index z (h.place (to k))) (e k l) ∙ h.one (to k) (in_n k l);
  none = λ j k l p q. ap (λ z. slice_index z (h.place (to k))) (e j l) ∙ h.none (to j) (to k) (in_n j l) (in_n k p) (λ r. q (one_to j k l p r));
}

-- if all satisfy one more equation, the last one is left out
pub kernel_drop : (wide n m : ℕ) (values : List ℕ) (v : ℕ → List ℕ) → IsKernel wide (n + 1) m values v → ((k : ℕ) → k < n → along (v k) (λ j. slice_index values j) m ≡ 0) → IsKernel wide n (m + 1) values v
kernel_drop wide n m values v h z = record {
  sized = λ k l. h.sized k (omega arith);
  bytes = λ k l. h.bytes k (omega arith);
  short = λ k j l p. h.short k j (omega arith) p;
  meets = λ k i l p. go k i l (cases_lt i m) p;
  place = h.place;
  below = λ k l. h.below k (omega arith);
  one = λ k l. h.one k (omega arith);
  none = λ j k l p q. h.none j k (omega arith) (omega arith) q;
}
  where
    go : (k i : ℕ) → k < n → (i < m) ⊎ (m ≤ i) → i < m + 1 → along (v k) (λ j. slice_index values j) i ≡ 0
    go k i l (inl p) q = h.meets k i (omega arith) p
    go k i l (inr p) q = let e : i ≡ m = omega arith in ap (λ y. along (v k) (λ j. slice_index values j) y) e ∙ z k l

-- the last one clears the others
pub kernel_clear : (wide n m inverse : ℕ) (values : List ℕ) (v w : ℕ → List ℕ) → IsKernel wide (n + 1) m values v → ((k : ℕ) → slice_index values k < 256) → inverse < 256
    → mul (along (v n) (λ j. slice_index values j) m) inverse ≡ 1
    → ((k : ℕ) → k < n → w k ≡ plus (v k) (map (mul (mul (along (v k) (λ j. slice_index values j) m) inverse)) (v n))) → IsKernel wide n (m + 1) values w
kernel_clear wide n m inverse values v w h small li unit e = record {
  sized = λ k l. ap length (e k l) ∙ length-plus (v k) _ (same k l) ∙ h.sized k (omega arith);
  bytes = λ k l. subst AreBytes (sym (e k l)) (plus_bytes (v k) _ (h.bytes k (omega arith)) (map_bytes (factor k) (v n) (factor_small k l) (h.bytes n (omega arith))));
  short = λ k j l p. ap (λ z. slice_index z j) (e k l) ∙ get_or-sum (factor k) (v k) (v n) j ∙ ap₂ (λ y z. bit_xor y (mul (factor k) z)) (h.short k j (omega arith) p) (h.short n j (omega arith) p) ∙ ap (bit_xor 0) (mul_zero_right (factor k));
  meets = λ k i l p. ap (λ z. along z s i) (e k l) ∙ along_sum (factor k) (v k) (v n) s i (factor_small k l) (h.sized k (omega arith) ∙ sym (h.sized n (omega arith))) (h.bytes k (omega arith)) (h.bytes n (omega arith)) small ∙ go k i l (cases_lt i m) p;
  place = h.place;
  below = λ k l. h.below k (omega arith);
  one = λ k l. ap (λ z. slice_index z (h.place k)) (e k l) ∙ get_or-sum (factor k) (v k) (v n) (h.place k) ∙ ap₂ (λ y z. bit_xor y (mul (factor k) z)) (h.one k (omega arith)) (h.none n k (omega arith) (omega arith) (omega arith)) ∙ ap (bit_xor 1) (mul_zero_right (factor k)) ∙ xor_zero_r 1;
  none = λ j k l p q. ap (λ z. slice_index z (h.place k)) (e j l) ∙ get_or-sum (factor j) (v j) (v n) (h.place k) ∙ ap₂ (λ y z. bit_xor y (mul (factor j) z)) (h.none j k (omega arith) (omega arith) q) (h.none n k (omega arith) (omega arith) (omega arith)) ∙ ap (bit_xor 0) (mul_zero_right (factor j));
}
  where
    s : ℕ → ℕ
    s j = slice_index values j

    factor : ℕ → ℕ
    factor k = mul (along (v k) (λ j. slice_index values j) m) inverse

    factor_small : (k : ℕ) → k < n → factor k < 256
    factor_small k l = mul_small _ inverse (along_small (v k) s m (h.bytes k (omega arith)) small) li

    same : (k : ℕ) → k < n → length (v k) ≡ length (map (mul (factor k)) (v n))
    same k l = h.sized k (omega arith) ∙ sym (length-map (v n) (mul (factor k)) ∙ h.sized n (omega arith))

    last : (k : ℕ) → k < n → mul (factor k) (along (v n) s m) ≡ along (v k) s m
    last k l =
        let a = along_small (v k) s m (h.bytes k (omega arith)) small in let b = along_small (v n) s m (h.bytes n (omega arith)) small in
        mul_assoc (along (v k) s m) inverse (along (v n) s m) a li b ∙ ap (mul (along (v k) s m)) (mul_comm inverse (along (v n) s m) li b ∙ unit) ∙ one_right (along (v k) s m) a

    go : (k i : ℕ) → k < n → (i < m) ⊎ (m ≤ i) → i < m + 1 → bit_xor (along (v k) s i) (mul (factor k) (along (v n) s i)) ≡ 0
    go k i l (inl p) q = ap₂ (λ y z. bit_xor y (mul (factor k) z)) (h.meets k i (omega arith) p) (h.meets n i (omega arith) p) ∙ ap (bit_xor 0) (mul_zero_right (factor k))
    go k i l (inr p) q =
        let e : i ≡ m = omega arith in
        ap (λ y. bit_xor (along (v k) s y) (mul (factor k) (along (v n) s y))) e ∙ ap (bit_xor (along (v k) s m)) (last k l) ∙ xor_self (along (v k) s m)

-- two indices exchanged
exchanged : ℕ → ℕ → ℕ → ℕ
exchanged a b k = cond (eqb k a) b (cond (eqb k b) a k)

abbrev Cases : ℕ → ℕ → ℕ → ℕ → Type 0
Cases a b k r = ((k ≡ a) × (r ≡ b)) ⊎ (((k ≡ b) × (r ≡ a)) ⊎ ((k ≢ a) × (k ≢ b) × (r ≡ k)))

exchanged_cases : (a b k : ℕ) → Cases a b k (exchanged a b k)
unfolding exchanged
exchanged_cases a b k = cond_both (eqb k a) b (cond (eqb k b) a k) (Cases a b k) (λ e. inl (eqb-true k a e, refl)) (λ e. cond_both (eqb k b) a k (Cases a b k) (λ f. inr (inl (eqb-true k b f, refl))) (λ f. inr (inr (eqb-false k a e, eqb-false k b f, refl))))

exchanged_below : (n a b k : ℕ) → a < n → b < n → k < n → exchanged a b k < n
exchanged_below n a b k i j l = go (exchanged_cases a b k)
  where
    go : Cases a b k (exchanged a b k) → exchanged a b k < n
    go (inl h) = omega (arith, h.1)
    go (inr (inl h)) = omega (arith, h.1)
    go (inr (inr h)) = omega (arith, h.2)

exchanged_one : (a b j k : ℕ) → exchanged a b j ≡ exchanged a b k → j ≡ k
exchanged_one a b j k e = go (exchanged_cases a b j) (exchanged_cases a b k)
  where
    go : Cases a b j (exchanged a b j) → Cases a b k (exchanged a b k) → j ≡ k
    go (inl h) (inl i) = omega (arith, h.0, i.0)
    go (inl h) (inr (inl i)) = omega (arith, h.0, h.1, i.0, i.1, e)
    go (inl h) (inr (inr i)) = absurd (i.1 (omega (arith, h.1, i.2, e)))
    go (inr (inl h)) (inl i) = omega (arith, h.0, h.1, i.0, i.1, e)
    go (inr (inl h)) (inr (inl i)) = omega (arith, h.0, i.0)
    go (inr (inl h)) (inr (inr i)) = absurd (i.0 (omega (arith, h.1, i.2, e)))
    go (inr (inr h)) (inl i) = absurd (h.1 (omega (arith, h.2, i.1, e)))
    go (inr (inr h)) (inr (inl i)) = absurd (h.0 (omega (arith, h.2, i.1, e)))
    go (inr (inr h)) (inr (inr i)) = omega (arith, h.2, i.2, e)

exchanged_read : (old new : List (List ℕ)) (a b k : ℕ) → SwappedAt old new a b → vector new k ≡ vector old (exchanged a b k)
exchanged_read old new a b k s = go (exchanged_cases a b k)
  where
    go : Cases a b k (exchanged a b k) → vector new k ≡ vector old (exchanged a b k)
    go (inl h) = ap (vector new) h.0 ∙ s.0 [] ∙ ap (vector old) (sym h.1)
    go (inr (inl h)) = ap (vector new) h.0 ∙ s.1 [] ∙ ap (vector old) (sym h.1)
    go (inr (inr h)) = s.2 k [] h.0 h.1 ∙ ap (vector old) (sym h.2)

kernel_swap : (wide n m : ℕ) (values : List ℕ) (old new : List (List ℕ)) (a b : ℕ) → SwappedAt old new a b → a < n → b < n → IsKernel wide n m values (vector old) → IsKernel wide n m values (vector new)
kernel_swap wide n m values old new a b s i j h =
    kernel_moved wide n m values (vector old) (vector new) (exchanged a b) (λ k l. exchanged_below n a b k i j l) (λ j k l p e. exchanged_one a b j k e) (λ k l. exchanged_read old new a b k s) h

-- after the exchange the last one is cleared only if all are
swapped_zero : (n at : ℕ) (old new : List (List ℕ)) (f : List ℕ → ℕ) → SwappedAt old new at n → at ≤ n → f (vector new n) ≡ 0 → (f (vector old at) ≡ 0 → (k : ℕ) → k ≤ n → f (vector old k) ≡ 0) → (k : ℕ) → k < n → f (vector new k) ≡ 0
swapped_zero n at old new f s l z h k m =
    ap f (exchanged_read old new at n k s) ∙ h (ap f (sym (s.1 [])) ∙ z) (exchanged at n k) (omega (arith, exchanged_below (n + 1) at n k (omega arith) (omega arith) (omega arith)))

pub reduced_drop : (wide n m at : ℕ) (values : List ℕ) (old new : List (List ℕ)) → SwappedAt old new at n → at ≤ n → along (vector new n) (λ j. slice_index values j) m ≡ 0
    → (along (vector old at) (λ j. slice_index values j) m ≡ 0 → (k : ℕ) → k ≤ n → along (vector old k) (λ j. slice_index values j) m ≡ 0)
    → IsKernel wide (n + 1) m values (vector old) → IsKernel wide n (m + 1) values (vector new)
reduced_drop wide n m at values old new s l z f h =
    kernel_drop wide n m values (vector new) (kernel_swap wide (n + 1) m values old new at n s (omega arith) (omega arith) h)
    (swapped_zero n at old new (λ v. along v (λ j. slice_index values j) m) s l z f)

pub reduced_clear : (wide n m at inverse k : ℕ) (values : List ℕ) (old mid new : List (List ℕ)) → SwappedAt old mid at n → at ≤ n → n ≤ k → ((j : ℕ) → slice_index values j < 256) → inverse < 256
    → mul (along (vector mid n) (λ j. slice_index values j) m) inverse ≡ 1
    → ((j : ℕ) → j < k → vector new j ≡ plus (vector mid j) (map (mul (mul (along (vector mid j) (λ i. slice_index values i) m) inverse)) (vector mid n)))
    → IsKernel wide (n + 1) m values (vector old) → IsKernel wide n (m + 1) values (vector new)
reduced_clear wide n m at inverse k values old mid new s l w small li unit e h =
    kernel_clear wide n m inverse values (vector mid) (vector new) (kernel_swap wide (n + 1) m values old mid at n s (omega arith) (omega arith) h) small li unit (λ j p. e j (omega arith))

-- the unit vectors
abbrev pub units : List (List ℕ)
units = (1 ∷ 0 ∷ 0 ∷ 0 ∷ 0 ∷ 0 ∷ 0 ∷ 0 ∷ 0 ∷ []) ∷ (0 ∷ 1 ∷ 0 ∷ 0 ∷ 0 ∷ 0 ∷ 0 ∷ 0 ∷ 0 ∷ []) ∷ (0 ∷ 0 ∷ 1 ∷ 0 ∷ 0 ∷ 0 ∷ 0 ∷ 0 ∷ 0 ∷ []) ∷ (0 ∷ 0 ∷ 0 ∷ 1 ∷ 0 ∷ 0 ∷ 0 ∷ 0 ∷ 0 ∷ []) ∷ (0 ∷ 0 ∷ 0 ∷ 0 ∷ 1 ∷ 0 ∷ 0 ∷ 0 ∷ 0 ∷ []) ∷ (0 ∷ 0 ∷ 0 ∷ 0 ∷ 0 ∷ 1 ∷ 0 ∷ 0 ∷ 0 ∷ []) ∷ (0 ∷ 0 ∷ 0 ∷ 0 ∷ 0 ∷ 0 ∷ 1 ∷ 0 ∷ 0 ∷ []) ∷ (0 ∷ 0 ∷ 0 ∷ 0 ∷ 0 ∷ 0 ∷ 0 ∷ 1 ∷ 0 ∷ []) ∷ (0 ∷ 0 ∷ 0 ∷ 0 ∷ 0 ∷ 0 ∷ 0 ∷ 0 ∷ 1 ∷ []) ∷ []

abbrev small_all : List ℕ → Bool
small_all [] = true
small_all (b ∷ bs) = ltb b 256 && small_all bs

small_bytes : (bs : List ℕ) → small_all bs ≡ true → AreBytes bs
small_bytes [] h = tt
small_bytes (b ∷ bs) h = let p = and_parts _ _ h in (ltb-true _ _ p.0, small_bytes bs p.1)

unit_at : ℕ → ℕ → Bool
unit_at j k = eqb (slice_index (vector units j) k) (cond (eqb j k) 1 0)

units_read : (j k : ℕ) → j < 9 → k < 9 → slice_index (vector units j) k ≡ cond (eqb j k) 1 0
unfolding unit_at
units_read j k i l = eqb-true _ _ (all_below_at (unit_at j) 9 k (all_below_at (λ j. all_below (unit_at j) 9) 9 j refl i) l)

unit_size : (k : ℕ) → k < 9 → length (vector units k) ≡ 9
unit_size k l = eqb-true _ _ (all_below_at (λ k. eqb (length (vector units k)) 9) 9 k refl l)

unit_short : (k j : ℕ) → k < 9 → k < j → slice_index (vector units k) j ≡ 0
unit_short k j l m = go (cases_lt j 9)
  where
    go : (j < 9) ⊎ (9 ≤ j) → slice_index (vector units k) j ≡ 0
    go (inl p) = units_read k j l p ∙ ap (λ b. cond b 1 0) (ne_eqb k j (λ e. absurd (omega arith)))
    go (inr p) = get_or_past (vector units k) j 0 (omega (arith, unit_size k l))

pub kernel_units : (wide : ℕ) (values : List ℕ) → wide ≤ 9 → IsKernel wide wide 0 values (vector units)
kernel_units wide values w = record {
  sized = λ k l. unit_size k (omega arith);
  bytes = λ k l. small_bytes (vector units k) (all_below_at (λ k. small_all (vector units k)) 9 k refl (omega arith));
  short = λ k j l p. unit_short k j (omega arith) (omega arith);
  meets = λ k i l p. absurd (omega arith);
  place = λ k. k;
  below = λ k l. l;
  one = λ k l. units_read k k (omega arith) (omega arith) ∙ ap (λ b. cond b 1 0) (eq-eqb k k refl);
  none = λ j k l p q. units_read j k (omega arith) (omega arith) ∙ ap (λ b. cond b 1 0) (ne_eqb j k q);
}
