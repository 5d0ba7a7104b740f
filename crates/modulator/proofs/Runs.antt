-- Runs of a path's bits.
use Rattle.std.proofs.Common.{◌≡◌, ℕ, zero, suc, ◌+◌, ◌-◌, ◌*◌, ◌/◌, ◌%◌, ◌<◌, ◌≤◌, ◌⊎◌, inl, inr, Bool, true, false, cond, List, [], ◌∷◌, ◌++◌, length, take, drop, get_or, refl, sym, ap, ◌∙◌, arith, append-nil, append_assoc}
use Rattle.std.specs.Prelude.{nat_lt}
use Rattle.std.proofs.Math.Seq.{drop-append_seam}
use Rattle.std.proofs.lemmas.Bool.{cases_lt, lt-ltb}
use Rattle.std.proofs.lemmas.List.FromFn.{length-map-range_with_len, take-map-range_with_len}
use Rattle.std.proofs.lemmas.List.{take_more}
use Rattle.spec_words.specs.Bits.{is_set, spelled}
use Rattle.bit_pack.specs.Queue.{bits_of_bytes}
use Rattle.puncture.specs.SentBits.{path_of, bits_from}
use Rattle.puncture.specs.Laws.{BytesArePaths}
use Rattle.forney.specs.Values.{values}

pub length-run : (f : ℕ → Bool) (t n : ℕ) → length (bits_from f t n) ≡ n
length-run f t n = length-map-range_with_len f t n

-- one run after another
pub runs_join : (f : ℕ → Bool) (t a b : ℕ) → bits_from f t (a + b) ≡ bits_from f t a ++ bits_from f (t + a) b
runs_join f t zero b = let none : 0 + b ≡ b = omega arith in let here : t + 0 ≡ t = omega arith in ap (bits_from f t) none ∙ ap (λ (z : ℕ). bits_from f z b) (sym here)
runs_join f t (suc a) b =
    let more : suc a + b ≡ suc (a + b) = omega arith in
    let there : t + 1 + a ≡ t + suc a = omega arith in
    ap (bits_from f t) more ∙ ap (λ (z : List Bool). f t ∷ z) (runs_join f (t + 1) a b) ∙ ap (λ (z : ℕ). f t ∷ (bits_from f (t + 1) a ++ bits_from f z b)) there

pub run_taken : (f : ℕ → Bool) (t n k : ℕ) → k ≤ n → take k (bits_from f t n) ≡ bits_from f t k
run_taken f t n k l = take-map-range_with_len f t n k l

pub run_dropped : (f : ℕ → Bool) (t n k : ℕ) → k ≤ n → drop k (bits_from f t n) ≡ bits_from f (t + k) (n - k)
run_dropped f t n k l =
    let parts : k + (n - k) ≡ n = omega (arith, l) in
    ap (λ (z : ℕ). drop k (bits_from f t z)) (sym parts)
    ∙ ap (drop k) (runs_join f t k (n - k))
    ∙ ap (λ (z : ℕ). drop z (bits_from f t k ++ bits_from f (t + k) (n - k))) (sym (length-run f t k))
    ∙ drop-append_seam (bits_from f t k) (bits_from f (t + k) (n - k))

-- a list that is a run, bit by bit
pub run_is : (f : ℕ → Bool) (xs : List Bool) (t n : ℕ) → length xs ≡ n → ((k : ℕ) → k < n → get_or xs k false ≡ f (t + k)) → xs ≡ bits_from f t n
run_is f [] t zero e h = refl
run_is f [] t (suc n) e h = absurd (omega (arith, e))
run_is f (x ∷ xs) t zero e h = absurd (omega (arith, e))
run_is f (x ∷ xs) t (suc n) e h =
    let here : t + 0 ≡ t = omega arith in
    let first : x ≡ f t = h 0 (omega arith) ∙ ap f here in
    let rest : xs ≡ bits_from f (t + 1) n = run_is f xs (t + 1) n (omega (arith, e)) (λ k l. let next : t + suc k ≡ t + 1 + k = omega arith in h (suc k) (omega (arith, l)) ∙ ap f next) in
    ap (λ (z : Bool). z ∷ xs) first ∙ ap (λ (z : List Bool). f t ∷ z) rest

-- runs of paths that agree there
pub same_run : (f g : ℕ → Bool) (t n : ℕ) → ((i : ℕ) → i < t + n → f i ≡ g i) → bits_from f t n ≡ bits_from g t n
same_run f g t zero same = refl
same_run f g t (suc n) same =
    ap (λ (z : Bool). z ∷ bits_from f (t + 1) n) (same t (omega arith)) ∙ ap (λ (z : List Bool). g t ∷ z) (same_run f g (t + 1) n (λ i l. same i (omega (arith, l))))

-- the bits of consecutive bytes of a stream are a run of its path
pub bytes_run : BytesArePaths → (bytes : ℕ → ℕ) (p n : ℕ) → bits_of_bytes (values bytes p n) ≡ bits_from (path_of bytes) (8 * p + 6) (8 * n)
unfolding values
bytes_run law bytes p zero = refl
bytes_run law bytes p (suc n) =
    let next : 8 * suc p + 6 ≡ 8 * p + 6 + 8 = omega arith in
    let whole : 8 + 8 * n ≡ 8 * suc n = omega arith in
    ap (λ (z : List Bool). z ++ bits_of_bytes (values bytes (suc p) n)) (law bytes p)
    ∙ ap (λ (z : List Bool). bits_from (path_of bytes) (8 * p + 6) 8 ++ z) (bytes_run law bytes (suc p) n)
    ∙ ap (λ (z : ℕ). bits_from (path_of bytes) (8 * p + 6) 8 ++ bits_from (path_of bytes) z (8 * n)) next
    ∙ sym (runs_join (path_of bytes) (8 * p + 6) 8 (8 * n))
    ∙ ap (bits_from (path_of bytes) (8 * p + 6)) whole

pub values_alike : (f g : ℕ → ℕ) (p n : ℕ) → ((i : ℕ) → i < p + n → f i ≡ g i) → values f p n ≡ values g p n
unfolding values
values_alike f g p zero same = refl
values_alike f g p (suc n) same = ap (λ (z : ℕ). z ∷ values f (suc p) n) (same p (omega arith)) ∙ ap (λ (z : List ℕ). g p ∷ z) (values_alike f g (suc p) n (λ i l. same i (omega (arith, l))))

-- bytes that agree below n
pub same_path : (bytes other : ℕ → ℕ) (n i : ℕ) → ((p : ℕ) → p < n → bytes p ≡ other p) → i < 8 * n + 6 → path_of bytes i ≡ path_of other i
same_path bytes other n i same l = go (cases_lt i 6)
  where
    go : (i < 6) ⊎ (6 ≤ i) → path_of bytes i ≡ path_of other i
    go (inl k) = let test : nat_lt i 6 ≡ true = lt-ltb i 6 k in rw test refl
    go (inr k) = ap (λ (z : ℕ). cond (nat_lt i 6) false (is_set z (7 - (i - 6) % 8))) (same ((i - 6) / 8) (omega (arith, l, k)))

bits_push : (xs : List ℕ) (b : ℕ) → bits_of_bytes (xs ++ b ∷ []) ≡ bits_of_bytes xs ++ spelled 8 b
bits_push [] b = append-nil (spelled 8 b)
bits_push (x ∷ xs) b = ap (λ (z : List Bool). spelled 8 x ++ z) (bits_push xs b) ∙ sym (append_assoc (spelled 8 x) (bits_of_bytes xs) (spelled 8 b))

-- one more byte of a word
pub byte_more : (old now new : List Bool) (w : List ℕ) (i : ℕ) → i < length w → now ≡ old ++ bits_of_bytes (take i w) → new ≡ now ++ spelled 8 (get_or w i 0) → new ≡ old ++ bits_of_bytes (take (i + 1) w)
byte_more old now new w i l e is =
    is ∙ ap (λ (z : List Bool). z ++ spelled 8 (get_or w i 0)) e ∙ append_assoc old (bits_of_bytes (take i w)) (spelled 8 (get_or w i 0))
    ∙ ap (λ (z : List Bool). old ++ z) (sym (ap bits_of_bytes (take_more w i 0 l) ∙ bits_push (take i w) (get_or w i 0)))
