-- Tracebacks through decision words.
use Rattle.std.proofs.Common.{◌≡◌, ◌≢◌, ℕ, zero, suc, ◌+◌, ◌-◌, ◌*◌, ◌/◌, ◌%◌, ◌^◌, ◌<◌, ◌≤◌, Bool, true, false, cond, not, ◌&&◌, ◌||◌, List, [], ◌∷◌, ◌++◌, ◌⊎◌, inl, inr, refl, sym, ap, ap₂, ◌∙◌, subst, arith, eqb, length, take, drop, get_or, set, ext_get_or, get_or-take, length-take-le, true≢false, lit<, bit_and, take-append-drop, drop-drop}
use Rattle.std.specs.Prelude.{IsTrue, slice_index}
use Rattle.std.proofs.lemmas.Bool.{cases_lt, cases_eq, cases_Bool, and_parts, agree_below_at, or_left, or_right, cond_both}
use Rattle.std.proofs.lemmas.List.{drop_all, length-append, take-take}
use Rattle.std.proofs.Math.Seq.{take-append-add, take-length}
use Rattle.spec_words.specs.Bits.{is_set}
use Rattle.code_paths.specs.States.{even_of, odd_of}
use Rattle.code_paths.specs.States.{before}
use Rattle.survivor_ring.specs.Survivors.{AreAlike, IsAlike, IsPushed, IsFollowed, GivesAway}
use Rattle.survivor_ring.specs.Ring.{root, trace, leads, AreBefore, IsSplit, IsUniform, IsSingle, Chosen}
use Rattle.survivor_ring.proofs.RowSteps.{before_below, half_lives, lowest_lives}
use Rattle.code_paths.proofs.Words.{set_shr, set_and, ones32, and_true}
use Rattle.std.proofs.lemmas.Nat.Bits.{bit_at-zero, bit_at_above, bit_at-trailing_zeros, bit_at-pow_other}
use Rattle.std.specs.Int.{trailing_zeros, w64}
use Rattle.std.proofs.lemmas.Nat.{and_le_r, one_shl}

pub root_below : (ws : List ℕ) (n : ℕ) → n < 64 → root ws n < 64
root_below [] n l = l
root_below (d ∷ ws) n l = before_below d (root ws n) (root_below ws n l)

pub trace_length : (ws : List ℕ) (n : ℕ) → length (trace ws n) ≡ length ws
trace_length [] n = refl
trace_length (d ∷ ws) n = ap suc (trace_length ws n)

pub root_push : (ws : List ℕ) (d n : ℕ) → root (ws ++ d ∷ []) n ≡ root ws (before d n)
root_push [] d n = refl
root_push (w ∷ ws) d n = ap (before w) (root_push ws d n)

-- the words w and then d: the bits of w for the predecessor, and the newest bit
pub trace_push : (ws : List ℕ) (d n : ℕ) → trace (ws ++ d ∷ []) n ≡ trace ws (before d n) ++ is_set n 5 ∷ []
trace_push [] d n = refl
trace_push (w ∷ ws) d n = ap₂ (λ x xs. is_set x 5 ∷ xs) (root_push ws d n) (trace_push ws d n)

pub root_append : (ws vs : List ℕ) (n : ℕ) → root (ws ++ vs) n ≡ root ws (root vs n)
root_append [] vs n = refl
root_append (w ∷ ws) vs n = ap (before w) (root_append ws vs n)

-- the bits of older words for the state before the newer ones, and the bits of these
pub trace_append : (ws vs : List ℕ) (n : ℕ) → trace (ws ++ vs) n ≡ trace ws (root vs n) ++ trace vs n
trace_append [] vs n = refl
trace_append (w ∷ ws) vs n = ap₂ (λ x xs. is_set x 5 ∷ xs) (root_append ws vs n) (trace_append ws vs n)

pub two_parts : (older newer items : List ℕ) (n between : ℕ) (first last : List Bool) → older ++ newer ≡ items → length first ≡ length older → between ≡ root newer n
    → take (length older) first ≡ trace older between → take (length newer) last ≡ trace newer n → take (length items) (first ++ last) ≡ trace items n
two_parts older newer items n between first last e l b f g =
    ap (λ z. take z (first ++ last)) (ap length (sym e) ∙ length-append older newer ∙ ap (λ z. z + length newer) (sym l))
    ∙ take-append-add first last (length newer)
    ∙ ap₂ (λ x y. x ++ y) (sym (take-length first) ∙ ap (λ z. take z first) l ∙ f ∙ ap (trace older) b) g
    ∙ sym (trace_append older newer n)
    ∙ ap (λ z. trace z n) e

pub trace_drop : (ws : List ℕ) (k n : ℕ) → trace (drop k ws) n ≡ drop k (trace ws n)
trace_drop ws zero n = refl
trace_drop [] (suc k) n = refl
trace_drop (w ∷ ws) (suc k) n = trace_drop ws k n

pub trace_bit : (ws : List ℕ) (n p : ℕ) → p < length ws → get_or (trace ws n) p false ≡ is_set (root (drop (suc p) ws) n) 5
trace_bit [] n p l = absurd (omega arith)
trace_bit (w ∷ ws) n zero l = refl
trace_bit (w ∷ ws) n (suc p) l = trace_bit ws n p (omega arith)

pub drop_one : (ws : List ℕ) (i : ℕ) → i < length ws → drop i ws ≡ get_or ws i 0 ∷ drop (suc i) ws
drop_one [] i l = absurd (omega arith)
drop_one (w ∷ ws) zero l = refl
drop_one (w ∷ ws) (suc i) l = drop_one ws i (omega arith)

drop_set : (bs : List Bool) (i : ℕ) (b : Bool) → i < length bs → drop i (set bs i b) ≡ b ∷ drop (suc i) bs
drop_set [] i b l = absurd (omega arith)
drop_set (c ∷ bs) zero b l = refl
drop_set (c ∷ bs) (suc i) b l = drop_set bs i b (omega arith)

-- ---- writing the bits

-- the bits written from index j on
pub record Written (ws : List ℕ) (state : ℕ) (k j now : ℕ) (bits : List Bool) : Type 0 where
  pub now_is : now ≡ root (drop j ws) state
  pub now_small : now < 64
  pub bits_are : take k (drop j bits) ≡ trace (drop j ws) state

pub written_none : (ws : List ℕ) (state j : ℕ) (bits : List Bool) → state < 64 → length ws ≤ j → Written ws state 0 j state bits
written_none ws state j bits l h = record { now_is = sym (ap (λ z. root z state) (drop_all j ws h)); now_small = l; bits_are = sym (ap (λ z. trace z state) (drop_all j ws h)) }

pub written_more : (ws : List ℕ) (state k j i now : ℕ) (bits : List Bool) (word new : ℕ) → Written ws state k j now bits → j ≡ suc i → i < length ws → length ws ≤ length bits → word ≡ slice_index ws i → new ≡ before word now → new < 64
    → (b : Bool) → b ≡ is_set now 5 → Written ws state (k + 1) i new (set bits i b)
written_more ws state k j i now bits word new h e l m f g s b t =
    let d = drop_one ws i l in
    let back : root (drop j ws) state ≡ now = sym h.now_is in
    let tail : drop j ws ≡ drop (suc i) ws = ap (λ z. drop z ws) e in
    let next : k + 1 ≡ suc k = omega arith in
    record {
      now_is = g ∙ ap₂ before f (h.now_is ∙ ap (λ z. root z state) tail) ∙ sym (ap (λ z. root z state) d);
      now_small = s;
      bits_are =
          ap₂ take next (drop_set bits i b (omega arith)) ∙ ap₂ (λ x xs. x ∷ xs) (t ∙ ap (λ z. is_set z 5) (h.now_is ∙ ap (λ z. root z state) tail)) (ap (λ z. take k (drop z bits)) (sym e) ∙ h.bits_are ∙ ap (λ z. trace z state) tail)
          ∙ sym (ap (λ z. trace z state) d);
    }

-- ---- uniform sets

newest : (n : ℕ) → n < 32 → is_set n 5 ≡ false
newest n l = agree_below_at (λ n. is_set n 5) (λ n. false) 32 n refl l

newest_high : (n : ℕ) → n < 32 → is_set (n + 32) 5 ≡ true
newest_high n l = agree_below_at (λ n. is_set (n + 32) 5) (λ n. true) 32 n refl l

in_high : (word k : ℕ) → word / 4294967296 ≡ 0 → is_set word (k + 32) ≡ false
in_high word k e = sym (set_shr word k) ∙ ap (λ z. is_set z k) e ∙ ap (λ z. eqb z 1) (bit_at-zero k)

in_low : (word k : ℕ) → k < 32 → bit_and word 4294967295 ≡ 0 → is_set word k ≡ false
in_low word k l e =
    let f : is_set 0 k ≡ (is_set word k && is_set 4294967295 k) = ap (λ z. is_set z k) (sym e) ∙ set_and word 4294967295 k in
    let g : (is_set word k && true) ≡ false = ap (λ b. is_set word k && b) (sym (ones32 k l)) ∙ sym f ∙ ap (λ z. eqb z 1) (bit_at-zero k) in
    sym (and_true (is_set word k)) ∙ g

pub uniform_low : (word : ℕ) → word / 4294967296 ≡ 0 → IsUniform word
uniform_low word e = record { same = λ m n k l t u. small m k t ∙ sym (small n l u) }
  where
    small : (m : ℕ) → m < 64 → IsTrue (is_set word m) → is_set m 5 ≡ false
    small m l t = go (cases_lt m 32)
      where
        go : (m < 32) ⊎ (32 ≤ m) → is_set m 5 ≡ false
        go (inl h) = newest m h
        go (inr h) = let q : m - 32 + 32 ≡ m = omega arith in absurd (true≢false (sym t ∙ ap (is_set word) (sym q) ∙ in_high word (m - 32) e))

pub uniform_high : (word : ℕ) → bit_and word 4294967295 ≡ 0 → IsUniform word
uniform_high word e = record { same = λ m n k l t u. large m k t ∙ sym (large n l u) }
  where
    large : (m : ℕ) → m < 64 → IsTrue (is_set word m) → is_set m 5 ≡ true
    large m l t = go (cases_lt m 32)
      where
        go : (m < 32) ⊎ (32 ≤ m) → is_set m 5 ≡ true
        go (inl h) = absurd (true≢false (sym t ∙ in_low word m h e))
        go (inr h) = let q : m - 32 + 32 ≡ m = omega arith in ap (λ z. is_set z 5) (sym q) ∙ newest_high (m - 32) (omega arith)

pub split_of : (word : ℕ) → word < 2 ^ 64 → (word / 4294967296 ≡ 0 → ⊥) → (bit_and word 4294967295 ≡ 0 → ⊥) → IsSplit word
split_of word w h l =
    let a = bit_at-trailing_zeros w64 (word / 4294967296) (positive (word / 4294967296) h) (omega arith) in
    let b = bit_at-trailing_zeros w64 (bit_and word 4294967295) (positive (bit_and word 4294967295) l) (and_small word) in
    let hi = trailing_zeros w64 (word / 4294967296) in
    let lo = trailing_zeros w64 (bit_and word 4294967295) in
    let hi_set : is_set word (hi + 32) ≡ true = sym (set_shr word hi) ∙ ap (λ z. eqb z 1) a.1 in
    let lo_both : (is_set word lo && is_set 4294967295 lo) ≡ true = sym (set_and word 4294967295 lo) ∙ ap (λ z. eqb z 1) b.1 in
    let lo_small : lo < 32 = low_of lo (and_parts _ _ lo_both).1 in
    let hi_small : hi < 32 = high_of hi hi_set in
    record { low = lo; high = hi + 32; low_below = omega arith; high_below = omega arith; low_in = (and_parts _ _ lo_both).0; high_in = hi_set; low_bit = newest lo lo_small; high_bit = newest_high hi hi_small }
  where
    positive : (n : ℕ) → (n ≡ 0 → ⊥) → 0 < n
    positive zero h = absurd (h refl)
    positive (suc n) h = omega arith

    and_small : (word : ℕ) → bit_and word 4294967295 < 2 ^ 64
    and_small word = omega (arith, and_le_r word 4294967295)

    low_of : (k : ℕ) → is_set 4294967295 k ≡ true → k < 32
    low_of k t = go (cases_lt k 32)
      where
        go : (k < 32) ⊎ (32 ≤ k) → k < 32
        go (inl h) = h
        go (inr h) = absurd (true≢false (sym t ∙ ap (λ z. eqb z 1) (bit_at_above 4294967295 32 k (lit< tt) h)))

    high_of : (k : ℕ) → is_set word (k + 32) ≡ true → k < 32
    high_of k t = go (cases_lt k 32)
      where
        go : (k < 32) ⊎ (32 ≤ k) → k < 32
        go (inl h) = h
        go (inr h) = absurd (true≢false (sym t ∙ ap (λ z. eqb z 1) (bit_at_above word 64 (k + 32) w (omega arith))))

pub still_some : (old answer live : ℕ) → old ≢ 0 → old < 2 ^ 64 → IsFollowed old answer live → live ≢ 0
still_some old answer live n l f e =
    let first = trailing_zeros w64 old in
    let t : IsTrue (is_set old first) = lowest_lives old n l in
    let u = half_lives old answer live first f (bit_at-trailing_zeros w64 old (pos_of old n) l).0 t in
    true≢false (sym u ∙ ap (λ z. is_set z (first / 2)) e ∙ ap (λ z. eqb z 1) (bit_at-zero (first / 2)))
  where
    pos_of : (n : ℕ) → n ≢ 0 → 0 < n
    pos_of zero h = absurd (h refl)
    pos_of (suc n) h = omega arith

pub traces_pushed : (ws : List ℕ) (d live : ℕ) → IsPushed (trace ws) d live (trace (ws ++ d ∷ []))
traces_pushed ws d live = record { each = λ n l t. trace_push ws d n }

-- ---- traceback

pub record Comes (ws : List ℕ) (states j m : ℕ) : Type 0 where
  pub state : ℕ
  pub below : state < 64
  pub lives : IsTrue (is_set states state)
  pub is : root (drop j ws) state ≡ m

pub record Differs (ws : List ℕ) (states place : ℕ) : Type 0 where
  pub low : ℕ
  pub high : ℕ
  pub low_below : low < 64
  pub high_below : high < 64
  pub low_lives : IsTrue (is_set states low)
  pub high_lives : IsTrue (is_set states high)
  pub low_bit : is_set (root (drop (suc place) ws) low) 5 ≡ false
  pub high_bit : is_set (root (drop (suc place) ws) high) 5 ≡ true

pub record Walk (ws : List ℕ) (states j now answer : ℕ) : Type 0 where
  pub in_set : (n : ℕ) → n < 64 → IsTrue (is_set states n) → IsTrue (is_set now (root (drop j ws) n))
  pub from : (m : ℕ) → m < 64 → IsTrue (is_set now m) → Comes ws states j m
  pub within : answer ≤ length ws
  pub alike : (p : ℕ) → j ≤ p → p < answer → (m n : ℕ) → m < 64 → n < 64 → IsTrue (is_set states m) → IsTrue (is_set states n) → is_set (root (drop (suc p) ws) m) 5 ≡ is_set (root (drop (suc p) ws) n) 5
  pub differ : answer < length ws → Differs ws states answer

pub walk_none : (ws : List ℕ) (states j : ℕ) → j ≡ length ws → Walk ws states j states (length ws)
walk_none ws states j e =
    let d : drop j ws ≡ [] = drop_all j ws (omega (arith, e)) in
    record {
      in_set = λ n l t. subst (λ z. IsTrue (is_set states (root z n))) (sym d) t;
      from = λ m l t. record { state = m; below = l; lives = t; is = ap (λ z. root z m) d };
      within = omega arith;
      alike = λ p a b m n i k t u. absurd (omega (arith, e));
      differ = λ l. absurd (omega arith);
    }

low_split : (r : ℕ) → r < 64 → ((r ≡ r % 32) ⊎ (r ≡ r % 32 + 32))
low_split r l = go (cases_lt r 32)
  where
    go : (r < 32) ⊎ (32 ≤ r) → ((r ≡ r % 32) ⊎ (r ≡ r % 32 + 32))
    go (inl h) = inl (omega arith)
    go (inr h) = inr (omega arith)

-- a state of the set leads back to a state of the set before
goes_back : (set word result r : ℕ) → AreBefore set word result → r < 64 → IsTrue (is_set set r) → IsTrue (is_set result (before word r))
goes_back set word result r h l t = h.each (before word r) (before_below word r l) ∙ go (cases_Bool (is_set word r)) (low_split r l)
  where
    odd_leads : is_set word r ≡ true → leads set word (before word r) r ≡ true
    odd_leads e =
        let q : before word r % 2 ≡ 1 = ap (λ b. cond b (odd_of r) (even_of r) % 2) e ∙ omega arith in
        ap₂ (λ x y. x && y) t (ap (λ z. cond (eqb z 1) (is_set word r) (not (is_set word r))) q ∙ e)

    even_leads : is_set word r ≡ false → leads set word (before word r) r ≡ true
    even_leads e =
        let q : before word r % 2 ≡ 0 = ap (λ b. cond b (odd_of r) (even_of r) % 2) e ∙ omega arith in
        ap₂ (λ x y. x && y) t (ap (λ z. cond (eqb z 1) (is_set word r) (not (is_set word r))) q ∙ ap not e)

    half : before word r / 2 ≡ r % 32
    half = cond_both (is_set word r) (odd_of r) (even_of r) (λ z. z / 2 ≡ r % 32) (λ e. omega arith) (λ e. omega arith)

    lead : (is_set word r ≡ true) ⊎ (is_set word r ≡ false) → leads set word (before word r) r ≡ true
    lead (inl e) = odd_leads e
    lead (inr e) = even_leads e

    go : (is_set word r ≡ true) ⊎ (is_set word r ≡ false) → ((r ≡ r % 32) ⊎ (r ≡ r % 32 + 32)) → (leads set word (before word r) (before word r / 2) || leads set word (before word r) (before word r / 2 + 32)) ≡ true
    go c (inl e) = or_left _ _ (ap (leads set word (before word r)) (half ∙ sym e) ∙ lead c)
    go c (inr e) = or_right _ _ (ap (leads set word (before word r)) (ap (λ z. z + 32) half ∙ sym e) ∙ lead c)

-- a state of the set before comes from a state of the set
pub record Back (set word m : ℕ) : Type 0 where
  pub state : ℕ
  pub below : state < 64
  pub lives : IsTrue (is_set set state)
  pub is : before word state ≡ m

lead_back : (set word m n : ℕ) → n < 64 → n % 32 ≡ m / 2 → leads set word m n ≡ true → Back set word m
lead_back set word m n l e t = record { state = n; below = l; lives = (and_parts _ _ t).0; is = go (cases_lt (m % 2) 1) (and_parts _ _ t).1 }
  where
    go : (m % 2 < 1) ⊎ (1 ≤ m % 2) → cond (eqb (m % 2) 1) (is_set word n) (not (is_set word n)) ≡ true → before word n ≡ m
    go (inl h) c =
        let z : m % 2 ≡ 0 = omega arith in
        let f : not (is_set word n) ≡ true = ap (λ r. cond (eqb r 1) (is_set word n) (not (is_set word n))) (sym z) ∙ c in
        ap (λ b. cond b (odd_of n) (even_of n)) (not_false (is_set word n) f) ∙ omega (arith, e, z)
      where
        not_false : (b : Bool) → not b ≡ true → b ≡ false
        not_false true q = absurd (true≢false (sym q))
        not_false false q = refl
    go (inr h) c =
        let z : m % 2 ≡ 1 = omega arith in
        let f : is_set word n ≡ true = ap (λ r. cond (eqb r 1) (is_set word n) (not (is_set word n))) (sym z) ∙ c in
        ap (λ b. cond b (odd_of n) (even_of n)) f ∙ omega (arith, e, z)

comes_back : (set word result m : ℕ) → AreBefore set word result → m < 64 → IsTrue (is_set result m) → Back set word m
comes_back set word result m h l t = go (cases_Bool (leads set word m (m / 2))) (sym (h.each m l) ∙ t)
  where
    go : (leads set word m (m / 2) ≡ true) ⊎ (leads set word m (m / 2) ≡ false) → (leads set word m (m / 2) || leads set word m (m / 2 + 32)) ≡ true → Back set word m
    go (inl e) u = lead_back set word m (m / 2) (omega arith) (omega arith) e
    go (inr e) u = lead_back set word m (m / 2 + 32) (omega arith) (omega arith) (ap (λ b. b || leads set word m (m / 2 + 32)) (sym e) ∙ u)

pub walk_more : (ws : List ℕ) (states j i now answer word new answer2 : ℕ) → Walk ws states j now answer → j ≡ suc i → i < length ws → word ≡ slice_index ws i → Chosen now i answer answer2 → AreBefore now word new → Walk ws states i new answer2
walk_more ws states j i now answer word new answer2 h e l f c b = record {
  in_set = λ n k t. subst (λ z. IsTrue (is_set new z)) (sym (root_at n)) (goes_back now word new (root (drop j ws) n) b (root_below (drop j ws) n k) (h.in_set n k t));
  from = λ m k t. come m (comes_back now word new m b k t);
  within = bound c;
  alike = λ p a d m n x y t u. alike c p a d m n x y t u (cases_lt i p);
  differ = λ k. differ c k;
}
  where
    root_at : (n : ℕ) → root (drop i ws) n ≡ before word (root (drop j ws) n)
    root_at n = ap (λ z. root z n) (drop_one ws i l) ∙ ap₂ before (sym f) (ap (λ z. root (drop z ws) n) (sym e))

    come : (m : ℕ) → Back now word m → Comes ws states i m
    come m k = let w = h.from k.state k.below k.lives in record { state = w.state; below = w.below; lives = w.lives; is = root_at w.state ∙ ap (before word) w.is ∙ k.is }

    bound : Chosen now i answer answer2 → answer2 ≤ length ws
    bound (inl q) = omega (arith, q.1, h.within)
    bound (inr q) = omega (arith, q.1, l)

    at_here : (n p : ℕ) → p ≡ i → root (drop (suc p) ws) n ≡ root (drop j ws) n
    at_here n p q = let w : suc p ≡ j = omega (arith, q, e) in ap (λ z. root (drop z ws) n) w

    alike : Chosen now i answer answer2 → (p : ℕ) → i ≤ p → p < answer2 → (m n : ℕ) → m < 64 → n < 64 → IsTrue (is_set states m) → IsTrue (is_set states n) → (i < p) ⊎ (p ≤ i) → is_set (root (drop (suc p) ws) m) 5 ≡ is_set (root (drop (suc p) ws) n) 5
    alike (inr q) p a d m n x y t u k = absurd (omega (arith, q.1))
    alike (inl q) p a d m n x y t u (inl k) = h.alike p (omega (arith, e)) (omega (arith, q.1)) m n x y t u
    alike (inl q) p a d m n x y t u (inr k) =
        let here : p ≡ i = omega arith in
        ap (λ z. is_set z 5) (at_here m p here) ∙ q.0.same (root (drop j ws) m) (root (drop j ws) n) (root_below (drop j ws) m x) (root_below (drop j ws) n y) (h.in_set m x t) (h.in_set n y u) ∙ sym (ap (λ z. is_set z 5) (at_here n p here))

    differ : Chosen now i answer answer2 → answer2 < length ws → Differs ws states answer2
    differ (inl q) k = subst (Differs ws states) (sym q.1) (h.differ (omega (arith, q.1)))
    differ (inr q) k =
        let lo = h.from q.0.low q.0.low_below q.0.low_in in
        let hi = h.from q.0.high q.0.high_below q.0.high_in in
        record {
          low = lo.state;
          high = hi.state;
          low_below = lo.below;
          high_below = hi.below;
          low_lives = lo.lives;
          high_lives = hi.lives;
          low_bit = ap (λ z. is_set z 5) (at_here lo.state answer2 q.1 ∙ lo.is) ∙ q.0.low_bit;
          high_bit = ap (λ z. is_set z 5) (at_here hi.state answer2 q.1 ∙ hi.is) ∙ q.0.high_bit;
        }

-- the final result of a traceback
pub record Found (ws : List ℕ) (states answer : ℕ) : Type 0 where
  pub within : answer ≤ length ws
  pub alike : (p : ℕ) → p < answer → (m n : ℕ) → m < 64 → n < 64 → IsTrue (is_set states m) → IsTrue (is_set states n) → is_set (root (drop (suc p) ws) m) 5 ≡ is_set (root (drop (suc p) ws) n) 5
  pub differ : answer < length ws → Differs ws states answer

found_alike : (ws : List ℕ) (states answer : ℕ) → Found ws states answer → IsAlike states (trace ws) (length ws) answer
found_alike ws states answer h = record {
  within = h.within;
  alike = λ m n x y t u.
      ext_get_or false (take answer (trace ws m)) (take answer (trace ws n)) (omega (arith, len m, len n))
      (λ p w.
      let k : p < answer = omega (arith, w, len m) in
      get_or-take answer (trace ws m) p false k ∙ trace_bit ws m p (omega (arith, h.within)) ∙ h.alike p k m n x y t u ∙ sym (get_or-take answer (trace ws n) p false k ∙ trace_bit ws n p (omega (arith, h.within))));
  most = λ q w a. most q w a (cases_lt answer q);
}
  where
    len : (n : ℕ) → length (take answer (trace ws n)) ≡ answer
    len n = length-take-le answer (trace ws n) (omega (arith, trace_length ws n, h.within))

    most : (q : ℕ) → q ≤ length ws → AreAlike states (trace ws) q → (answer < q) ⊎ (q ≤ answer) → q ≤ answer
    most q w a (inr k) = k
    most q w a (inl k) =
        let d = h.differ (omega arith) in
        let s = ap (λ xs. get_or xs answer false) (a d.low d.high d.low_below d.high_below d.low_lives d.high_lives) in
        let lo = get_or-take q (trace ws d.low) answer false k ∙ trace_bit ws d.low answer (omega arith) ∙ d.low_bit in
        let hi = get_or-take q (trace ws d.high) answer false k ∙ trace_bit ws d.high answer (omega arith) ∙ d.high_bit in
        absurd (true≢false (sym hi ∙ sym s ∙ lo))

pub walk_alike : (ws : List ℕ) (states j now answer : ℕ) → Walk ws states j now answer → j ≡ 0 → IsAlike states (trace ws) (length ws) answer
walk_alike ws states j now answer h z = found_alike ws states answer (record { within = h.within; alike = λ p k. h.alike p (omega (arith, z)) k; differ = h.differ })

-- the way from an index back to an earlier one
pub root_from : (ws : List ℕ) (i j n : ℕ) → i ≤ j → root (drop i ws) n ≡ root (take (j - i) (drop i ws)) (root (drop j ws) n)
root_from ws i j n l =
    let e : j - i + i ≡ j = omega arith in
    ap (λ z. root z n) (sym (take-append-drop (j - i) (drop i ws)))
    ∙ root_append (take (j - i) (drop i ws)) (drop (j - i) (drop i ws)) n
    ∙ ap (λ z. root (take (j - i) (drop i ws)) (root z n)) (drop-drop (j - i) i ws ∙ ap (λ k. drop k ws) (plus_turn i (j - i) ∙ e))
  where
    plus_turn : (a b : ℕ) → a + b ≡ b + a
    plus_turn a b = omega arith

-- if all states come from one, all older bits are shared
pub walk_single : (ws : List ℕ) (states j now answer : ℕ) → Walk ws states j now answer → IsSingle now → IsAlike states (trace ws) (length ws) answer
walk_single ws states j now answer h s = found_alike ws states answer (record { within = h.within; alike = λ p k m n x y t u. go p k m n x y t u (cases_lt p j); differ = h.differ })
  where
    same : (m n : ℕ) → m < 64 → n < 64 → IsTrue (is_set states m) → IsTrue (is_set states n) → root (drop j ws) m ≡ root (drop j ws) n
    same m n x y t u = s.only (root (drop j ws) m) (root_below (drop j ws) m x) (h.in_set m x t) ∙ sym (s.only (root (drop j ws) n) (root_below (drop j ws) n y) (h.in_set n y u))

    go : (p : ℕ) → p < answer → (m n : ℕ) → m < 64 → n < 64 → IsTrue (is_set states m) → IsTrue (is_set states n) → (p < j) ⊎ (j ≤ p) → is_set (root (drop (suc p) ws) m) 5 ≡ is_set (root (drop (suc p) ws) n) 5
    go p k m n x y t u (inl l) =
        ap (λ z. is_set z 5) (root_from ws (suc p) j m (omega arith) ∙ ap (root (take (j - suc p) (drop (suc p) ws))) (same m n x y t u) ∙ sym (root_from ws (suc p) j n (omega arith)))
    go p k m n x y t u (inr l) = h.alike p l k m n x y t u

pub single_of : (set : ℕ) → set ≡ 1 * 2 ^ trailing_zeros w64 set % 18446744073709551616 → trailing_zeros w64 set < 64 → IsSingle set
single_of set e l = record { state = trailing_zeros w64 set; only = λ n k t. go n t (cases_eq n (trailing_zeros w64 set)) }
  where
    is : set ≡ 2 ^ trailing_zeros w64 set
    is = e ∙ one_shl (trailing_zeros w64 set) 64 l

    go : (n : ℕ) → IsTrue (is_set set n) → (n ≡ trailing_zeros w64 set) ⊎ (n ≡ trailing_zeros w64 set → ⊥) → n ≡ trailing_zeros w64 set
    go n t (inl q) = q
    go n t (inr q) = absurd (true≢false (sym t ∙ ap (λ z. is_set z n) is ∙ ap (λ b. eqb b 1) (bit_at-pow_other (trailing_zeros w64 set) n q)))

pub positive_of : (n : ℕ) → (n ≡ 0 → ⊥) → 0 < n
positive_of zero h = absurd (h refl)
positive_of (suc n) h = omega arith

pub traces_dropped : (ws new : List ℕ) (k n : ℕ) → new ≡ drop k ws → trace new n ≡ drop k (trace ws n)
traces_dropped ws new k n e = ap (λ z. trace z n) e ∙ trace_drop ws k n

-- the bits written for one alive state are a prefix of those of each
pub given_any : (ws : List ℕ) (states first number : ℕ) (bits old new : List Bool) → first < 64 → IsTrue (is_set states first) → number ≤ length ws → take (length ws) bits ≡ trace ws first → new ≡ old ++ take number bits → AreAlike states (trace ws) number → GivesAway states (trace ws) number old new
given_any ws states first number bits old new l t w e f a n k u =
    f ∙ ap (λ z. old ++ z) (sym (take-take number (length ws) bits w) ∙ ap (take number) e ∙ a first n l k t u)
