-- The values at different positions.
use Rattle.std.proofs.Common.{◌≡◌, ◌≢◌, ℕ, zero, suc, ◌+◌, ◌-◌, ◌<◌, ◌⊎◌, inl, inr, List, [], ◌∷◌, ◌++◌, length, get_or, take, drop, set, refl, sym, ap, ap₂, ◌∙◌, subst, arith, get_or-set_same, get_or-set_other, ext_get_or, lit<, subst₂, add-one, append-nil, get_or-take}
use Rattle.std.specs.Prelude.{bit_xor}
use Rattle.std.proofs.lemmas.Bool.{cases_eq}
use Rattle.std.proofs.lemmas.List.{take_more, take_all, drop_all}
use lib.Bits.{xor_assoc, xor_self, xor_zero_r}
use Rattle.gf256.specs.Field.{mul}
use Rattle.gf256.proofs.FieldLaws.{mul_assoc, mul_small, xor_four, xor_small, mul_xor_right, one_right, xor_equal}
use Rattle.rs204.proofs.Independent as terms
use Rattle.rs204.proofs.Independent.{Term, sum_at, Small, scaled_sum, head_goes, sum_small}
use Rattle.rs204.specs.Codes.{AreBytes}
use Rattle.rs204.specs.Decoding.{Differ, raise, moment, Solves, scaled, xor_all, UnscaledAs, Unscales}

pub differ_at : (x : ℕ) (ps : List ℕ) (j : ℕ) → Differ x ps → j < length ps → bit_xor (get_or ps j 0) x ≡ 0 → ⊥
differ_at x [] j d l e = absurd (omega arith)
differ_at x (p ∷ ps) zero d l e = d.0 (xor_equal p x e)
differ_at x (p ∷ ps) (suc j) d l e = differ_at x ps j d.1 (omega arith) e

bytes_at : (vs : List ℕ) (j : ℕ) → AreBytes vs → get_or vs j 0 < 256
bytes_at [] j b = lit< tt
bytes_at (v ∷ vs) zero b = b.0
bytes_at (v ∷ vs) (suc j) b = bytes_at vs j b.1

scaled_at : (x : ℕ) (ps vs : List ℕ) (j : ℕ) → length vs ≡ length ps → j < length ps → get_or (scaled x ps vs) j 0 ≡ mul (get_or vs j 0) (bit_xor (get_or ps j 0) x)
scaled_at x [] vs j l k = absurd (omega arith)
scaled_at x (p ∷ ps) [] j l k = absurd (omega arith)
scaled_at x (p ∷ ps) (v ∷ vs) zero l k = refl
scaled_at x (p ∷ ps) (v ∷ vs) (suc j) l k = scaled_at x ps vs j (omega arith) (omega arith)

xor_push : (vs : List ℕ) (v : ℕ) → xor_all (vs ++ v ∷ []) ≡ bit_xor (xor_all vs) v
xor_push [] v = xor_zero_r v
xor_push (w ∷ vs) v = ap (bit_xor w) (xor_push vs v) ∙ sym (xor_assoc w (xor_all vs) v)

-- one more value restored
pub unscale_next : (ps : List ℕ) (x : ℕ) (old new : List ℕ) (sum j inverse value : ℕ) → j < length ps → length new ≡ length ps → x < 256 → ((k : ℕ) → get_or ps k 0 < 256) → inverse < 256
    → mul (bit_xor (get_or ps j 0) x) inverse ≡ 1 → value ≡ mul (get_or new j 0) inverse → Unscales ps x old new sum j → Unscales ps x old (set new j value) (bit_xor sum (get_or (set new j value) j 0)) (j + 1)
unscale_next ps x old new sum j inverse value l m lx lps li unit is h vs a b e =
    let u = h vs a b e in
    let w : j < length new = omega (arith, m) in
    let c = bytes_at vs j b in
    let d = xor_small (get_or ps j 0) x (lps j) lx in
    let here : value ≡ get_or vs j 0 =
    is ∙ ap (λ z. mul z inverse) (u.left j (omega arith) ∙ ap (λ z. get_or z j 0) e ∙ scaled_at x ps vs j a l)
    ∙ mul_assoc (get_or vs j 0) (bit_xor (get_or ps j 0) x) inverse c d li ∙ ap (mul (get_or vs j 0)) unit ∙ one_right (get_or vs j 0) c in
    let read : get_or (set new j value) j 0 ≡ get_or vs j 0 = get_or-set_same new j value 0 w ∙ here in
    record {
      done = λ k n. go vs value u here read k n (cases_eq k j);
      left = λ k n. let q : k ≢ j = omega arith in get_or-set_other new j k value 0 q ∙ u.left k (omega arith);
      sum_is = ap₂ bit_xor u.sum_is read ∙ sym (xor_push (take j vs) (get_or vs j 0)) ∙ ap xor_all (sym (take_more vs j 0 (omega (arith, a))));
    }
  where
    go : (vs : List ℕ) (value : ℕ) → UnscaledAs old new sum j vs → value ≡ get_or vs j 0 → get_or (set new j value) j 0 ≡ get_or vs j 0 → (k : ℕ) → k < j + 1 → (k ≡ j) ⊎ (k ≡ j → ⊥) → get_or (set new j value) k 0 ≡ get_or vs k 0
    go vs value u here read k n (inl q) = ap (λ z. get_or (set new j value) z 0) q ∙ read ∙ ap (λ z. get_or vs z 0) (sym q)
    go vs value u here read k n (inr q) = get_or-set_other new j k value 0 q ∙ u.done k (omega (arith, q))

-- ---- the moments as sums of terms

pairs : List ℕ → List ℕ → List Term
pairs [] vs = []
pairs (p ∷ ps) [] = []
pairs (p ∷ ps) (v ∷ vs) = (p, v) ∷ pairs ps vs

pub raise_same : (x i : ℕ) → raise x i ≡ terms.raise x i
raise_same x zero = refl
raise_same x (suc i) = ap (mul x) (raise_same x i)

moment_is : (i : ℕ) (ps vs : List ℕ) → moment i ps vs ≡ sum_at i (pairs ps vs)
unfolding pairs
moment_is i [] vs = refl
moment_is i (p ∷ ps) [] = refl
moment_is i (p ∷ ps) (v ∷ vs) = ap₂ (λ y z. bit_xor (mul v y) z) (raise_same p i) (moment_is i ps vs)

pairs_small : (ps vs : List ℕ) → AreBytes ps → AreBytes vs → Small (pairs ps vs)
unfolding pairs
pairs_small [] vs b c = tt
pairs_small (p ∷ ps) [] b c = tt
pairs_small (p ∷ ps) (v ∷ vs) b c = (b.0, c.0, pairs_small ps vs b.1 c.1)

pairs_scaled : (x : ℕ) (ps vs : List ℕ) → pairs ps (scaled x ps vs) ≡ terms.scaled x (pairs ps vs)
unfolding pairs
pairs_scaled x [] vs = refl
pairs_scaled x (p ∷ ps) [] = refl
pairs_scaled x (p ∷ ps) (v ∷ vs) = ap (λ z. (p, mul v (bit_xor p x)) ∷ z) (pairs_scaled x ps vs)

-- the moments without the first position
pub lowered : (i p v : ℕ) (ps vs : List ℕ) → p < 256 → v < 256 → AreBytes ps → AreBytes vs → bit_xor (moment (suc i) (p ∷ ps) (v ∷ vs)) (mul p (moment i (p ∷ ps) (v ∷ vs))) ≡ moment i ps (scaled p ps vs)
unfolding pairs
lowered i p v ps vs lp lv b c =
    let t = pairs ps vs in let s = pairs_small ps vs b c in let q = terms.raise_small p i lp in
    ap₂ (λ y z. bit_xor y (mul p z)) (moment_is (suc i) (p ∷ ps) (v ∷ vs)) (moment_is i (p ∷ ps) (v ∷ vs))
    ∙ ap (bit_xor (sum_at (suc i) ((p, v) ∷ t))) (mul_xor_right p (mul v (terms.raise p i)) (sum_at i t) lp (mul_small v (terms.raise p i) lv q) (sum_small i t s))
    ∙ xor_four (mul v (terms.raise p (suc i))) (sum_at (suc i) t) (mul p (mul v (terms.raise p i))) (mul p (sum_at i t))
    ∙ ap (λ z. bit_xor z (bit_xor (sum_at (suc i) t) (mul p (sum_at i t)))) (head_goes p v i lp lv)
    ∙ sym (scaled_sum i p t lp s) ∙ ap (sum_at i) (sym (pairs_scaled p ps vs)) ∙ sym (moment_is i ps (scaled p ps vs))

moment_zero : (ps vs : List ℕ) → length vs ≡ length ps → AreBytes vs → moment 0 ps vs ≡ xor_all vs
moment_zero [] [] l b = refl
moment_zero [] (v ∷ vs) l b = absurd (omega arith)
moment_zero (p ∷ ps) [] l b = absurd (omega arith)
moment_zero (p ∷ ps) (v ∷ vs) l b = ap₂ bit_xor (one_right v b.0) (moment_zero ps vs (omega arith) b.1)

-- the first value
pub first_value : (p v first : ℕ) (ps vs : List ℕ) → length vs ≡ length ps → v < 256 → AreBytes vs → first ≡ moment 0 (p ∷ ps) (v ∷ vs) → bit_xor first (xor_all vs) ≡ v
first_value p v first ps vs l lv b e =
    ap (λ z. bit_xor z (xor_all vs)) (e ∙ ap₂ bit_xor (one_right v lv) (moment_zero ps vs l b)) ∙ xor_assoc v (xor_all vs) (xor_all vs) ∙ ap (bit_xor v) (xor_self (xor_all vs)) ∙ xor_zero_r v

abbrev pub put : ℕ → List ℕ → List ℕ → List ℕ
put k xs ys = take 1 xs ++ (ys ++ drop k (drop 1 xs))

scaled_bytes : (x : ℕ) (ps vs : List ℕ) → x < 256 → AreBytes ps → AreBytes vs → AreBytes (scaled x ps vs)
scaled_bytes x [] vs l b c = tt
scaled_bytes x (p ∷ ps) [] l b c = tt
scaled_bytes x (p ∷ ps) (v ∷ vs) l b c = (mul_small v (bit_xor p x) c.0 (xor_small p x b.0 l), scaled_bytes x ps vs l b.1 c.1)

length-scaled : (x : ℕ) (ps vs : List ℕ) → length vs ≡ length ps → length (scaled x ps vs) ≡ length ps
length-scaled x [] vs l = refl
length-scaled x (p ∷ ps) [] l = absurd (omega arith)
length-scaled x (p ∷ ps) (v ∷ vs) l = ap suc (length-scaled x ps vs (omega arith))

-- the tail's values, scaled, satisfy the lowered moments
tail_solved : (p v : ℕ) (ps vs ms low sv : List ℕ) → length vs ≡ length ps → p < 256 → v < 256 → AreBytes ps → AreBytes vs
    → ((i : ℕ) → i < suc (length ps) → get_or ms i 0 ≡ moment i (p ∷ ps) (v ∷ vs))
    → ((i : ℕ) → i < length ps → get_or low i 0 ≡ bit_xor (get_or ms (suc i) 0) (mul p (get_or ms i 0)))
    → Solves ps low sv → sv ≡ scaled p ps vs
tail_solved p v ps vs ms low sv l lp lv b c h k s =
    s (scaled p ps vs) (length-scaled p ps vs l) (scaled_bytes p ps vs lp b c)
    (λ i m. k i m ∙ ap₂ (λ y z. bit_xor y (mul p z)) (h (suc i) (omega arith)) (h i (omega arith)) ∙ lowered i p v ps vs lp lv b c)

bytes_from : (xs : List ℕ) → ((i : ℕ) → get_or xs i 0 < 256) → AreBytes xs
bytes_from [] h = tt
bytes_from (x ∷ xs) h = (h 0, bytes_from xs (λ i. h (suc i)))

whole_list : (us vs old : List ℕ) (sum : ℕ) → length us ≡ length vs → UnscaledAs old us sum (length vs) vs → us ≡ vs
whole_list us vs old sum l u = ext_get_or 0 us vs l (λ i m. u.done i (omega arith))

-- the solution of the whole from that of the tail
pub solve_cons : (p : ℕ) (ps ms low sv uv old : List ℕ) (sum : ℕ) → length uv ≡ length ps → p < 256 → AreBytes ps
    → ((i : ℕ) → i < length ps → get_or low i 0 ≡ bit_xor (get_or ms (suc i) 0) (mul p (get_or ms i 0)))
    → Solves ps low sv → old ≡ sv → Unscales ps p old uv sum (length ps) → Solves (p ∷ ps) ms (bit_xor (get_or ms 0 0) sum ∷ uv)
solve_cons p ps ms low sv uv old sum m lp b k s o u [] l c h = absurd (omega arith)
solve_cons p ps ms low sv uv old sum m lp b k s o u (v ∷ vs) l c h =
    let n : length vs ≡ length ps = omega arith in
    let t = tail_solved p v ps vs ms low sv n lp c.0 b c.1 h k s in
    let w = u vs n c.1 (o ∙ t) in
    let e : uv ≡ vs = ext_get_or 0 uv vs (m ∙ sym n) (λ i q. w.done i (omega (arith, m))) in
    let f : sum ≡ xor_all vs = w.sum_is ∙ ap xor_all (take_all (length ps) vs (omega (arith, n))) in
    ap₂ (λ y z. y ∷ z) (ap (bit_xor (get_or ms 0 0)) f ∙ first_value p v (get_or ms 0 0) ps vs n c.0 c.1 (h 0 (omega arith))) e

put_all : (w : ℕ) (ws ys : List ℕ) (k : ℕ) → k ≡ length ws → put k (w ∷ ws) ys ≡ w ∷ ys
put_all w ws ys k e = ap (λ z. w ∷ (ys ++ z)) (drop_all k ws (omega (arith, e))) ∙ ap (λ z. w ∷ z) (append-nil ys)

-- the same in the terms of the code, which uses parts of slices
pub solve_whole : (ps ms low sv uv vals : List ℕ) (sum k1 k2 k3 k4 k5 : ℕ) → 0 < length ps → length ms ≡ length ps → length vals ≡ length ps → length low ≡ length ms
    → ((i : ℕ) → get_or ps i 0 < 256) → k1 ≡ length ps - 1 → k2 ≡ length ps - 1 → k3 ≡ length vals - 1
    → ((i : ℕ) → i + 1 < length ms → get_or low i 0 ≡ bit_xor (get_or ms (i + 1) 0) (mul (get_or ps 0 0) (get_or ms i 0)))
    → length sv ≡ length ps - 1 → Solves (take k1 (drop 1 ps)) (take k2 low) sv
    → k4 ≡ length (put k3 vals sv) - 1 → k5 ≡ length (take k1 (drop 1 ps)) → length uv ≡ length ps - 1
    → Unscales (take k1 (drop 1 ps)) (get_or ps 0 0) (take k4 (drop 1 (put k3 vals sv))) uv sum k5
    → Solves ps ms (set (put k4 (put k3 vals sv) uv) 0 (bit_xor (get_or ms 0 0) sum))
solve_whole [] ms low sv uv vals sum k1 k2 k3 k4 k5 z a b d by e1 e2 e3 each ls s e4 e5 lu u = absurd (omega arith)
solve_whole (p ∷ ps) ms low sv uv [] sum k1 k2 k3 k4 k5 z a b d by e1 e2 e3 each ls s e4 e5 lu u = absurd (omega arith)
solve_whole (p ∷ ps) ms low sv uv (w ∷ ws) sum k1 k2 k3 k4 k5 z a b d by e1 e2 e3 each ls s e4 e5 lu u =
    let q1 : k1 ≡ length ps = omega (arith, e1) in
    let q2 : k2 ≡ length ps = omega (arith, e2) in
    let q3 : k3 ≡ length ws = omega (arith, e3) in
    let f1 : put k3 (w ∷ ws) sv ≡ w ∷ sv = put_all w ws sv k3 q3 in
    let q4 : k4 ≡ length sv = omega (arith, e4, ap length f1) in
    let f2 : put k4 (put k3 (w ∷ ws) sv) uv ≡ w ∷ uv = ap (λ y. put k4 y uv) f1 ∙ put_all w sv uv k4 q4 in
    let g1 : take k1 ps ≡ ps = take_all k1 ps (omega (arith, q1)) in
    let q5 : k5 ≡ length ps = e5 ∙ ap length g1 in
    let o : take k4 (drop 1 (put k3 (w ∷ ws) sv)) ≡ sv = ap (λ y. take k4 (drop 1 y)) f1 ∙ take_all k4 sv (omega (arith, q4)) in
    subst (λ y. Solves (p ∷ ps) ms (set y 0 (bit_xor (get_or ms 0 0) sum))) (sym f2)
    (solve_cons p ps ms (take k2 low) sv uv (take k4 (drop 1 (put k3 (w ∷ ws) sv))) sum (omega (arith, lu)) (by 0) (bytes_from ps (λ i. by (suc i)))
    (λ i m. get_or-take k2 low i 0 (omega (arith, q2)) ∙ each i (omega (arith, a)) ∙ ap (λ y. bit_xor (get_or ms y 0) (mul p (get_or ms i 0))) (add-one i))
    (subst (λ y. Solves y (take k2 low) sv) g1 s) o
    (subst₂ (λ y n. Unscales y p (take k4 (drop 1 (put k3 (w ∷ ws) sv))) uv sum n) g1 q5 u))
