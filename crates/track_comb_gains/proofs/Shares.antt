-- The sum over four symbols is that over those that count.
use Rattle.std.proofs.Common.{◌≡◌, ℕ, zero, suc, ◌+◌, ◌-◌, ◌<◌, ◌≤◌, List, [], ◌∷◌, length, get_or, map, Bool, true, false, cond, refl, ap, sym, ◌∙◌, arith}
use Rattle.std.specs.Prelude.{ℤ, pos, negsuc, ◌+ℤ◌, ◌-ℤ◌, ◌*ℤ◌, filter, if◌then◌else◌}
use Rattle.std.proofs.lemmas.Int.{ints}
use Rattle.spec_words.specs.Words.{numbers}
use Rattle.spec_words.proofs.Counting.{length-numbers, get_or-numbers}
use Rattle.spec_words.proofs.Ring.{itself, plus as sum, less, same}
use Rattle.spec_words.proofs.Ring as ring
use Rattle.mode_set.specs.declared.modes.Guard.{Guard}
use Rattle.tracking.specs.Comb.{Comb, turn, turned_value}
use Rattle.tracking.specs.InTime.{counting, distance, place, point_gain, symbol_at, tap_at}
use Rattle.tracking.specs.Moving.{motion}
use Rattle.tracking.proofs.Same.{sum_same}
use Rattle.tracking.specs.declared.motion.Motion.{Motion}
use Rattle.track_arithmetic.specs.Numbers.{near, nothing, plus, scaled, sum_of, times}
use Rattle.track_arithmetic.specs.declared.complex.Complex.{Complex}
use Rattle.track_cells.specs.Gains.{gain_of}
use Rattle.track_cells.specs.Sizes.{size_to}
use Rattle.track_cells.proofs.Sums.{size_grows}
use Rattle.track_cells.proofs.Tables.{entry}
use Rattle.track_comb_gains.specs.Kept.{has, kept_tap, places_of}

abbrev made : ℤ → ℤ → Complex
made re im = record { re = re; im = im }

-- 0 times a value is nothing
pub scaled_none : (x : Complex) → scaled (pos 0) x ≡ nothing
scaled_none x =
    let re : pos 0 *ℤ x.re ≡ pos 0 = omega (arith, ints) in
    let im : pos 0 *ℤ x.im ≡ pos 0 = omega (arith, ints) in
    ap (λ (t : ℤ). made t (pos 0 *ℤ x.im)) re ∙ ap (made (pos 0)) im

nothing_before : (x : Complex) → plus nothing x ≡ x
nothing_before x =
    let re : pos 0 +ℤ x.re ≡ x.re = omega (arith, ints) in
    let im : pos 0 +ℤ x.im ≡ x.im = omega (arith, ints) in
    ap (λ (t : ℤ). made t (pos 0 +ℤ x.im)) re ∙ ap (made x.re) im

-- taps that are 0 where the test fails
over : (p : ℕ → Bool) (t : ℕ → ℤ) (v : ℕ → Complex) (f : ℕ → ℕ) (is : List ℕ) → sum_of (λ (i : ℕ). scaled (if p i then t (f i) else pos 0) (v (f i))) is ≡ sum_of (λ (k : ℕ). scaled (t k) (v k)) (map f (filter p is))
unfolding sum_of
over p t v f [] = refl
over p t v f (i ∷ is) = by (p i) (over p t v f is)
  where
    by : (b : Bool) → sum_of (λ (k : ℕ). scaled (if p k then t (f k) else pos 0) (v (f k))) is ≡ sum_of (λ (k : ℕ). scaled (t k) (v k)) (map f (filter p is))
        → plus (scaled (if b then t (f i) else pos 0) (v (f i))) (sum_of (λ (k : ℕ). scaled (if p k then t (f k) else pos 0) (v (f k))) is) ≡ sum_of (λ (k : ℕ). scaled (t k) (v k)) (map f (cond b (i ∷ filter p is) (filter p is)))
    by true e = ap (plus (scaled (t (f i)) (v (f i)))) e
    by false e = ap (λ (z : Complex). plus z (sum_of (λ (k : ℕ). scaled (if p k then t (f k) else pos 0) (v (f k))) is)) (scaled_none (v (f i))) ∙ nothing_before (sum_of (λ (k : ℕ). scaled (if p k then t (f k) else pos 0) (v (f k))) is) ∙ e

pub of_counting : (f : Motion) (d n : ℕ) (v : ℕ → Complex) → sum_of (λ (i : ℕ). scaled (kept_tap f d n i) (v (place d i))) (numbers 4) ≡ sum_of (λ (p : ℕ). scaled (tap_at f d (places_of d n) p) (v p)) (places_of d n)
unfolding kept_tap
of_counting f d n v = over (has n) (tap_at f d (places_of d n)) v (place d) (numbers 4)

-- a tap that is not 0 counts
pub tap_counts : (f : Motion) (d n i : ℕ) → (kept_tap f d n i ≡ pos 0 → ⊥) → has n i ≡ true
unfolding kept_tap
tap_counts f d n i some = by (has n i) refl some
  where
    by : (b : Bool) → has n i ≡ b → ((if b then tap_at f d (places_of d n) (place d i) else pos 0) ≡ pos 0 → ⊥) → b ≡ true
    by true e h = refl
    by false e h = absurd (h refl)

-- the sizes of four taps
pub size_below : (n : ℕ) (row : List ℤ) → n ≤ 4 → size_to 4 row ≤ 5620 → size_to n row ≤ 5620
size_below n row h k =
    let grows = size_grows (4 - n) n row in
    let four : n + (4 - n) ≡ 4 = omega (arith, h) in
    let same : size_to (n + (4 - n)) row ≡ size_to 4 row = ap (λ (z : ℕ). size_to z row) four in
    omega (arith, grows, same, k)

-- the gain at a point, by the taps of a row
pub gain_is : (c : Comb) (guard : Guard) (m j : ℕ) (f : Motion) (d n : ℕ) (taps : List ℤ) (sum x : Complex) → d ≡ distance m j → f ≡ motion guard c m → counting c m d ≡ places_of d n → taps ≡ map (kept_tap f d n) (numbers 4)
    → sum ≡ sum_of (λ (i : ℕ). scaled (get_or taps i (pos 0)) (turned_value c m (symbol_at m (place d i)) j)) (numbers 4) → x ≡ near 22 sum → x ≡ point_gain guard c m j
unfolding point_gain
gain_is c guard m j f d n taps sum x ed ef ec et es ex =
    let v = λ (p : ℕ). turned_value c m (symbol_at m p) j in
    let row = map (kept_tap f d n) (numbers 4) in
    let l = λ (i : ℕ). scaled (get_or row i (pos 0)) (v (place d i)) in
    let r = λ (i : ℕ). scaled (kept_tap f d n i) (v (place d i)) in
    let each : (i : ℕ) → i < length (numbers 4) → l (get_or (numbers 4) i 0) ≡ r (get_or (numbers 4) i 0) = λ i lt.
    let less : i < 4 = omega (arith, lt, length-numbers 4) in
    let at = get_or-numbers 4 i less in
    let k = get_or (numbers 4) i 0 in
    ap (λ (z : ℤ). scaled z (v (place d k))) (entry (kept_tap f d n) 4 k (pos 0) (omega (arith, at, less))) in
    let gain = λ (e : ℕ) (g : Motion) (ps : List ℕ). near 22 (sum_of (λ (p : ℕ). scaled (tap_at g e ps p) (v p)) ps) in
    let sums : sum ≡ sum_of (λ (p : ℕ). scaled (tap_at f d (places_of d n) p) (v p)) (places_of d n) =
    es ∙ ap (λ (z : List ℤ). sum_of (λ (i : ℕ). scaled (get_or z i (pos 0)) (v (place d i))) (numbers 4)) et ∙ sum_same (numbers 4) l r each ∙ of_counting f d n v in
    ex ∙ ap (near 22) sums ∙ ap (gain d f) (sym ec) ∙ ap (λ (z : ℕ). gain z f (counting c m z)) ed ∙ ap (λ (z : Motion). gain (distance m j) z (counting c m (distance m j))) ef

-- ---- the symbols at a distance
times_scaled : (t : ℤ) (u v : Complex) → times (scaled t u) v ≡ scaled t (times v u)
times_scaled t u v =
    let t' = itself t in let a = itself u.re in let b = itself u.im in let x = itself v.re in let y = itself v.im in
    let re : (t *ℤ u.re) *ℤ v.re -ℤ (t *ℤ u.im) *ℤ v.im ≡ t *ℤ (v.re *ℤ u.re -ℤ v.im *ℤ u.im) = same (less (ring.times (ring.times t' a) x) (ring.times (ring.times t' b) y)) (ring.times t' (less (ring.times x a) (ring.times y b))) (omega arith) in
    let im : (t *ℤ u.re) *ℤ v.im +ℤ (t *ℤ u.im) *ℤ v.re ≡ t *ℤ (v.re *ℤ u.im +ℤ v.im *ℤ u.re) = same (sum (ring.times (ring.times t' a) y) (ring.times (ring.times t' b) x)) (ring.times t' (sum (ring.times x b) (ring.times y a))) (omega arith) in
    ap (λ (z : ℤ). made z ((t *ℤ u.re) *ℤ v.im +ℤ (t *ℤ u.im) *ℤ v.re)) re ∙ ap (made (t *ℤ (v.re *ℤ u.re -ℤ v.im *ℤ u.im))) im

-- the part of a symbol, by its turn times its tap
some_share : (c : Comb) (m p j s : ℕ) (tap : ℤ) (u : Complex) → u ≡ turn c m (symbol_at m p) → s ≡ symbol_at m p → times (scaled tap u) (c.value s j) ≡ scaled tap (turned_value c m (symbol_at m p) j)
unfolding turned_value
some_share c m p j s tap u eu es = times_scaled tap u (c.value s j) ∙ ap (λ (z : Complex). scaled tap (times (c.value s j) z)) eu ∙ ap (λ (z : ℕ). scaled tap (times (c.value z j) (turn c m (symbol_at m p)))) es

share_is : (c : Comb) (m p j s : ℕ) (tap : ℤ) (u : Complex) → ((tap ≡ pos 0 → ⊥) → u ≡ turn c m (symbol_at m p)) → ((tap ≡ pos 0 → ⊥) → s ≡ symbol_at m p) → times (scaled tap u) (c.value s j) ≡ scaled tap (turned_value c m (symbol_at m p) j)
share_is c m p j s (pos zero) u eu es = times_scaled (pos 0) u (c.value s j) ∙ scaled_none (times (c.value s j) u) ∙ sym (scaled_none (turned_value c m (symbol_at m p) j))
share_is c m p j s (pos (suc n)) u eu es = let some : pos (suc n) ≡ pos 0 → ⊥ = λ e. omega (arith, ints, e) in some_share c m p j s (pos (suc n)) u (eu some) (es some)
share_is c m p j s (negsuc n) u eu es = let some : negsuc n ≡ pos 0 → ⊥ = λ e. omega (arith, ints, e) in some_share c m p j s (negsuc n) u (eu some) (es some)

pub shares_are : (c : Comb) (m d j : ℕ) (taps : List ℤ) (symbols : List ℕ) (factors turns : List Complex) → ((i : ℕ) → i < 4 → gain_of factors i ≡ scaled (get_or taps i (pos 0)) (get_or turns (place d i) nothing))
    → ((i : ℕ) → i < 4 → (get_or taps i (pos 0) ≡ pos 0 → ⊥) → get_or turns (place d i) nothing ≡ turn c m (symbol_at m (place d i))) → ((i : ℕ) → i < 4 → (get_or taps i (pos 0) ≡ pos 0 → ⊥) → get_or symbols i 0 ≡ symbol_at m (place d i))
    → sum_of (λ (i : ℕ). times (gain_of factors i) (c.value (get_or symbols i 0) j)) (numbers 4) ≡ sum_of (λ (i : ℕ). scaled (get_or taps i (pos 0)) (turned_value c m (symbol_at m (place d i)) j)) (numbers 4)
shares_are c m d j taps symbols factors turns ef et es =
    let l = λ (i : ℕ). times (gain_of factors i) (c.value (get_or symbols i 0) j) in
    let r = λ (i : ℕ). scaled (get_or taps i (pos 0)) (turned_value c m (symbol_at m (place d i)) j) in
    let each : (i : ℕ) → i < length (numbers 4) → l (get_or (numbers 4) i 0) ≡ r (get_or (numbers 4) i 0) = λ i lt.
    let less : i < 4 = omega (arith, lt, length-numbers 4) in
    let at = get_or-numbers 4 i less in
    let k = get_or (numbers 4) i 0 in
    let few : k < 4 = omega (arith, at, less) in
    ap (λ (z : Complex). times z (c.value (get_or symbols k 0) j)) (ef k few) ∙ share_is c m (place d k) j (get_or symbols k 0) (get_or taps k (pos 0)) (get_or turns (place d k) nothing) (et k few) (es k few) in
    sum_same (numbers 4) l r each
