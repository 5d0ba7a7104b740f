-- The parities of the input bits, some steps at a time.
use Rattle.std.proofs.Common.{◌≡◌, ℕ, zero, suc, ◌+◌, ◌-◌, ◌*◌, ◌/◌, ◌%◌, ◌<◌, ◌≤◌, ◌≢◌, ◌⊎◌, inl, inr, Bool, false, cond, List, [], ◌∷◌, ◌++◌, length, get_or, set, take, drop, refl, sym, ap, ◌∙◌, arith, eqb}
use Rattle.std.proofs.lemmas.List.{get_or-take, get_or-drop, get_or_append_left, get_or-append_right, get_or_push, get_or-set_same, get_or-set_other, length_push, length-set, drop-drop, length-drop, length-append, ext_get_or}
use Rattle.std.proofs.lemmas.List.FromFn.{get_or-map-range_with_len}
use Rattle.std.proofs.Math.Seq.{drop-append_seam}
use Rattle.std.specs.Int.{bit_at}
use Rattle.std.proofs.lemmas.Nat.Bits.{bit_at_cat_low, bit_at_cat_high}
use Rattle.std.proofs.lemmas.Bool.{cases_lt}
use Rattle.spec_words.specs.Bits.{bit, is_set, spelled}
use Rattle.code_paths.specs.Paths.{parity_x, parity_y}
use Rattle.puncture.specs.SentBits.{bits_from, window}
use Rattle.inner_chain.specs.Labels.{parity_at}
use Rattle.inner_chain.specs.Tables.{read_bit, row_of, AreRows, IsEncoded}

-- ---- rows
pub no_rows : AreRows [] 0
no_rows = record { long = refl; at = λ n d l. absurd (omega (arith, l)) }

pub rows_more : (rows new : List (List Bool)) (n : ℕ) (row : List Bool) → AreRows rows n → new ≡ rows ++ row ∷ [] → row ≡ row_of n → AreRows new (n + 1)
rows_more rows new n row r e is = record { long = ap length e ∙ length_push rows row ∙ ap (λ (z : ℕ). z + 1) r.long; at = at }
  where
    at : (k : ℕ) (d : List Bool) → k < n + 1 → get_or new k d ≡ row_of k
    at k d l = go (cases_lt k n)
      where
        go : (k < n) ⊎ (n ≤ k) → get_or new k d ≡ row_of k
        go (inl m) = let within : k < length rows = omega (arith, m, r.long) in ap (λ (z : List (List Bool)). get_or z k d) e ∙ get_or_append_left rows (row ∷ []) d k within ∙ r.at k d m
        go (inr m) =
            let same : n ≡ k = omega (arith, l, m) in
            let last : length rows ≡ k = r.long ∙ same in
            ap (λ (z : List (List Bool)). get_or z k d) e ∙ get_or_push rows row d k last ∙ is ∙ ap row_of same

-- ---- parities of a window
later : (path : ℕ → Bool) (t u : ℕ) → t ≡ u → path t ≡ path u
later path t u e = ap path e

-- seven bits of a path have the parities of its window
seven_are : (p : List Bool) (path : ℕ → Bool) (u : ℕ) → ((m : ℕ) → m < 7 → bit p m ≡ path (u + m)) → (parity_x p ≡ parity_x (window path u)) × (parity_y p ≡ parity_y (window path u))
seven_are p path u is =
    let a : bit p 0 ≡ path u = is 0 (omega arith) ∙ later path (u + 0) u (omega arith) in
    let b : bit p 1 ≡ path (u + 1) = is 1 (omega arith) in
    let c : bit p 3 ≡ path (u + 3) = is 3 (omega arith) in
    let d : bit p 4 ≡ path (u + 4) = is 4 (omega arith) in
    let e : bit p 5 ≡ path (u + 5) = is 5 (omega arith) in
    let f : bit p 6 ≡ path (u + 6) = is 6 (omega arith) in
    (cc, cc)

-- six bits of a path are a register
six_are : (p : List Bool) (path : ℕ → Bool) (u : ℕ) → length p ≡ 6 → ((m : ℕ) → m < 6 → bit p m ≡ path (u + m)) → p ≡ bits_from path u 6
six_are p path u long is = ext_get_or false p (bits_from path u 6) long (λ m l. let few : m < 6 = omega (arith, l, long) in is m few ∙ sym (get_or-map-range_with_len path u 6 m (u + m) false few refl))

-- ---- some steps more the register and the bits behind it are bits of the path
abbrev pub Along : (ℕ → Bool) → ℕ → List Bool → List Bool → Type 0
Along path i register more = (m : ℕ) → m < 6 + length more → bit (register ++ more) m ≡ path (i + m)

along : (path : ℕ → Bool) (w0 register more rest : List Bool) (n i : ℕ) → i + length more ≤ n → take n w0 ≡ bits_from path 6 n → drop i w0 ≡ more ++ rest → register ≡ bits_from path i 6 → Along path i register more
along path w0 register more rest n i few taken begins is m l = go (cases_lt m 6)
  where
    six : length register ≡ 6
    six = ap length is

    go : (m < 6) ⊎ (6 ≤ m) → bit (register ++ more) m ≡ path (i + m)
    go (inl less) =
        let within : m < length register = omega (arith, less, six) in
        get_or_append_left register more false m within ∙ ap (λ (z : List Bool). get_or z m false) is ∙ get_or-map-range_with_len path i 6 m (i + m) false less refl
    go (inr past) =
        let j : ℕ = m - 6 in
        let within : j < length more = omega (arith, l, past) in
        let here : i + j < n = omega (arith, within, few) in
        let place : 6 + (i + j) ≡ i + m = omega (arith, past) in
        get_or-append_right register more 6 m false six past
        ∙ sym (get_or_append_left more rest false j within)
        ∙ ap (λ (z : List Bool). get_or z j false) (sym begins)
        ∙ get_or-drop i w0 j false
        ∙ sym (get_or-take n w0 (i + j) false here)
        ∙ ap (λ (z : List Bool). get_or z (i + j) false) taken
        ∙ get_or-map-range_with_len path 6 n (i + j) (i + m) false here place

pub encode_begins : (w e x : List Bool) (first n : ℕ) → IsEncoded w e x first n 0 w e x
encode_begins w e x first n = record { before = λ k l. refl; left = refl; size = λ long. long; after = λ path e s. e; parities = λ path e s t k l m. absurd (omega (arith, l)) }

-- the pairs of some more steps are written, whose parities are those along the path
encode_on : (w e x : List Bool) (first n i : ℕ) (waiting register xs more waiting' register' xs' : List Bool)
    → IsEncoded w e x first n i waiting register xs → i + length more ≤ n → waiting ≡ more ++ waiting' → register' ≡ drop (length more) (register ++ more)
    → ((path : ℕ → Bool) → Along path i register more → (j k : ℕ) → j < length more → k < 2 → read_bit xs' (2 * (first + i) + 2 * j + k) ≡ parity_at k path (i + j))
    → ((k : ℕ) → k < 2 * (first + i) → read_bit xs' k ≡ read_bit xs k)
    → IsEncoded w e x first n (i + length more) waiting' register' xs'
encode_on w e x first n i waiting register xs more waiting' register' xs' s few head er made kept =
    record { left = left; size = size; after = after; parities = parities; before = λ k l. kept k (omega (arith, l)) ∙ s.before k l }
  where
    begins : drop i w ≡ more ++ waiting'
    begins = sym s.left ∙ head

    left : waiting' ≡ drop (i + length more) w
    left = sym (drop-append_seam more waiting') ∙ ap (drop (length more)) (sym begins) ∙ drop-drop (length more) i w

    size : length e ≡ 6 → length register' ≡ 6
    size long = let long' : length register ≡ 6 = s.size long in ap length er ∙ simp (length-drop, length-append) (omega (arith, long'))

    on : (path : ℕ → Bool) → e ≡ bits_from path 0 6 → take n w ≡ bits_from path 6 n → Along path i register more
    on path is taken = along path w register more waiting' n i few taken begins (s.after path is taken)

    after : (path : ℕ → Bool) → e ≡ bits_from path 0 6 → take n w ≡ bits_from path 6 n → register' ≡ bits_from path (i + length more) 6
    after path is taken = six_are register' path (i + length more) (size (ap length is))
        (λ m l. let place : i + (length more + m) ≡ i + length more + m = omega arith in
        ap (λ (z : List Bool). bit z m) er ∙ get_or-drop (length more) (register ++ more) m false ∙ on path is taken (length more + m) (omega (arith, l)) ∙ ap path place)

    parities : (path : ℕ → Bool) → e ≡ bits_from path 0 6 → take n w ≡ bits_from path 6 n → (t k : ℕ) → t < i + length more → k < 2 → read_bit xs' (2 * (first + t) + k) ≡ parity_at k path t
    parities path is taken t k l two = go (cases_lt t i)
      where
        go : (t < i) ⊎ (i ≤ t) → read_bit xs' (2 * (first + t) + k) ≡ parity_at k path t
        go (inl less) = kept (2 * (first + t) + k) (omega (arith, less, two)) ∙ s.parities path is taken t k less two
        go (inr past) =
            let j : ℕ = t - i in
            let place : 2 * (first + t) + k ≡ 2 * (first + i) + 2 * j + k = omega (arith, past) in
            let step : i + j ≡ t = omega (arith, past) in
            ap (read_bit xs') place ∙ made path (on path is taken) j k (omega (arith, past, l)) two ∙ ap (parity_at k path) step

-- two bits that are written, one behind the other
pub pair_set : (xs : List Bool) (p : ℕ) (x y : Bool) → p + 1 < length xs
    → (read_bit (set (set xs p x) (p + 1) y) p ≡ x) × (read_bit (set (set xs p x) (p + 1) y) (p + 1) ≡ y) × ((k : ℕ) → k < p → read_bit (set (set xs p x) (p + 1) y) k ≡ read_bit xs k)
pair_set xs p x y l = (first, second, before)
  where
    here : p < length xs
    here = omega (arith, l)

    there : p + 1 < length (set xs p x)
    there = omega (arith, l, length-set xs p x)

    first : read_bit (set (set xs p x) (p + 1) y) p ≡ x
    first = let apart : p ≢ p + 1 = omega arith in get_or-set_other (set xs p x) (p + 1) p y false apart ∙ get_or-set_same xs p x false here

    second : read_bit (set (set xs p x) (p + 1) y) (p + 1) ≡ y
    second = get_or-set_same (set xs p x) (p + 1) y false there

    before : (k : ℕ) → k < p → read_bit (set (set xs p x) (p + 1) y) k ≡ read_bit xs k
    before k m =
        let one : k ≢ p + 1 = omega (arith, m) in
        let two : k ≢ p = omega (arith, m) in
        get_or-set_other (set xs p x) (p + 1) k y false one ∙ get_or-set_other xs p k x false two

-- one step
pub encode_one : (w e x : List Bool) (first n i : ℕ) (waiting register xs : List Bool) (b : Bool) (waiting' register' xs' : List Bool) (px py : Bool)
    → IsEncoded w e x first n i waiting register xs → i + 1 ≤ n → waiting ≡ b ∷ waiting'
    → px ≡ parity_x (register ++ b ∷ []) → py ≡ parity_y (register ++ b ∷ []) → register' ≡ drop 1 (register ++ b ∷ [])
    → read_bit xs' (2 * (first + i)) ≡ px → read_bit xs' (2 * (first + i) + 1) ≡ py → ((k : ℕ) → k < 2 * (first + i) → read_bit xs' k ≡ read_bit xs k)
    → IsEncoded w e x first n (i + 1) waiting' register' xs'
encode_one w e x first n i waiting register xs b waiting' register' xs' px py s few head ex ey er hx hy kept =
    encode_on w e x first n i waiting register xs (b ∷ []) waiting' register' xs' s few head er made kept
  where
    seven : (path : ℕ → Bool) → Along path i register (b ∷ []) → (parity_x (register ++ b ∷ []) ≡ parity_x (window path i)) × (parity_y (register ++ b ∷ []) ≡ parity_y (window path i))
    seven path a = seven_are (register ++ b ∷ []) path i a

    made : (path : ℕ → Bool) → Along path i register (b ∷ []) → (j k : ℕ) → j < 1 → k < 2 → read_bit xs' (2 * (first + i) + 2 * j + k) ≡ parity_at k path (i + j)
    made path a (suc j) k l two = absurd (omega (arith, l))
    made path a zero zero l two =
        let place : 2 * (first + i) + 2 * 0 + 0 ≡ 2 * (first + i) = omega arith in
        let step : i ≡ i + 0 = omega arith in
        ap (read_bit xs') place ∙ hx ∙ ex ∙ (seven path a).0 ∙ ap (parity_at 0 path) step
    made path a zero (suc zero) l two =
        let place : 2 * (first + i) + 2 * 0 + 1 ≡ 2 * (first + i) + 1 = omega arith in
        let step : i ≡ i + 0 = omega arith in
        ap (read_bit xs') place ∙ hy ∙ ey ∙ (seven path a).1 ∙ ap (parity_at 1 path) step
    made path a zero (suc (suc k)) l two = absurd (omega (arith, two))

-- ---- eight steps
spelled_at : (n x j : ℕ) → j < n → bit (spelled n x) j ≡ is_set x (n - 1 - j)
spelled_at zero x j l = absurd (omega (arith, l))
spelled_at (suc n) x zero l = let place : n ≡ suc n - 1 - 0 = omega arith in ap (is_set x) place
spelled_at (suc n) x (suc j) l = let place : n - 1 - j ≡ suc n - 1 - suc j = omega arith in spelled_at n x j (omega (arith, l)) ∙ ap (is_set x) place

-- the parity of a list of inputs: X or Y
abbrev parity_of : ℕ → List Bool → Bool
parity_of k p = cond (eqb k 0) (parity_x p) (parity_y p)

-- what stands in a row
row_at : (n j k : ℕ) → j < 4 → k < 2 → read_bit (row_of n) (2 * j + k) ≡ parity_of k (drop j (spelled 10 n))
row_at n zero zero l m = refl
row_at n zero (suc zero) l m = refl
row_at n (suc zero) zero l m = refl
row_at n (suc zero) (suc zero) l m = refl
row_at n (suc (suc zero)) zero l m = refl
row_at n (suc (suc zero)) (suc zero) l m = refl
row_at n (suc (suc (suc zero))) zero l m = refl
row_at n (suc (suc (suc zero))) (suc zero) l m = refl
row_at n (suc (suc (suc (suc j)))) k l m = absurd (omega (arith, l))
row_at n j (suc (suc k)) l m = absurd (omega (arith, m))

low_bit : (n k : ℕ) → k < 10 → is_set (n % 1024) k ≡ is_set n k
low_bit n k l = ap (λ (z : ℕ). eqb z 1) (sym (bit_at_cat_low (n / 1024) 10 (n % 1024) k l) ∙ ap (λ (z : ℕ). bit_at z k) (let e : n / 1024 * 1024 + n % 1024 ≡ n = omega arith in e))

high_bit : (n k : ℕ) → is_set (n / 16) k ≡ is_set n (k + 4)
high_bit n k =
    let small : n % 16 < 16 = omega arith in
    let place : k + 4 - 4 ≡ k = omega arith in
    ap (λ (z : ℕ). eqb z 1) (sym (ap (bit_at (n / 16)) place) ∙ sym (bit_at_cat_high (n / 16) 4 (n % 16) (k + 4) small (omega arith)) ∙ ap (λ (z : ℕ). bit_at z (k + 4)) (let e : n / 16 * 16 + n % 16 ≡ n = omega arith in e))

-- the two windows of ten inputs among fourteen
window_first : (n q : ℕ) → q < 10 → bit (spelled 10 (n / 16 % 1024)) q ≡ bit (spelled 14 n) q
window_first n q l =
    let place : 10 - 1 - q + 4 ≡ 14 - 1 - q = omega (arith, l) in
    spelled_at 10 (n / 16 % 1024) q l ∙ low_bit (n / 16) (10 - 1 - q) (omega (arith, l)) ∙ high_bit n (10 - 1 - q) ∙ ap (is_set n) place ∙ sym (spelled_at 14 n q (omega (arith, l)))

window_second : (n q : ℕ) → q < 10 → bit (spelled 10 (n % 1024)) q ≡ bit (spelled 14 n) (4 + q)
window_second n q l =
    let place : 10 - 1 - q ≡ 14 - 1 - (4 + q) = omega (arith, l) in
    spelled_at 10 (n % 1024) q l ∙ low_bit n (10 - 1 - q) (omega (arith, l)) ∙ ap (is_set n) place ∙ sym (spelled_at 14 n (4 + q) (omega (arith, l)))

-- a step of a window has the parities of the path
step_is : (path : ℕ → Bool) (n o i j k : ℕ) → ((q : ℕ) → q < 10 → bit (spelled 10 n) q ≡ path (i + (o + q))) → j < 4 → k < 2 → read_bit (row_of n) (2 * j + k) ≡ parity_at k path (i + (o + j))
step_is path n o i j k is l m = row_at n j k l m ∙ go k m
  where
    seven : (parity_x (drop j (spelled 10 n)) ≡ parity_x (window path (i + (o + j)))) × (parity_y (drop j (spelled 10 n)) ≡ parity_y (window path (i + (o + j))))
    seven = seven_are (drop j (spelled 10 n)) path (i + (o + j))
        (λ m few. let place : i + (o + (j + m)) ≡ i + (o + j) + m = omega arith in get_or-drop j (spelled 10 n) m false ∙ is (j + m) (omega (arith, few, l)) ∙ ap path place)

    go : (k : ℕ) → k < 2 → parity_of k (drop j (spelled 10 n)) ≡ parity_at k path (i + (o + j))
    go zero m = seven.0
    go (suc zero) m = seven.1
    go (suc (suc k)) m = absurd (omega (arith, m))

pub encode_eight : (w e x : List Bool) (first n i : ℕ) (waiting register xs : List Bool) (byte : ℕ) (waiting' register' xs' : List Bool) (inputs : ℕ)
    → IsEncoded w e x first n i waiting register xs → i + 8 ≤ n → waiting ≡ spelled 8 byte ++ waiting'
    → spelled 14 inputs ≡ register ++ spelled 8 byte → register' ≡ drop 8 (register ++ spelled 8 byte)
    → ((m : ℕ) → m < 8 → read_bit xs' (2 * (first + i) + m) ≡ read_bit (row_of (inputs / 16 % 1024)) m)
    → ((m : ℕ) → m < 8 → read_bit xs' (2 * (first + i) + 8 + m) ≡ read_bit (row_of (inputs % 1024)) m)
    → ((k : ℕ) → k < 2 * (first + i) → read_bit xs' k ≡ read_bit xs k)
    → IsEncoded w e x first n (i + 8) waiting' register' xs'
encode_eight w e x first n i waiting register xs byte waiting' register' xs' inputs s few head ei er high low kept =
    encode_on w e x first n i waiting register xs (spelled 8 byte) waiting' register' xs' s few head er made kept
  where
    input_at : (path : ℕ → Bool) → Along path i register (spelled 8 byte) → (q : ℕ) → q < 14 → bit (spelled 14 inputs) q ≡ path (i + q)
    input_at path a q l = ap (λ (z : List Bool). bit z q) ei ∙ a q (omega (arith, l))

    made : (path : ℕ → Bool) → Along path i register (spelled 8 byte) → (j k : ℕ) → j < 8 → k < 2 → read_bit xs' (2 * (first + i) + 2 * j + k) ≡ parity_at k path (i + j)
    made path a j k l two = go (cases_lt j 4)
      where
        go : (j < 4) ⊎ (4 ≤ j) → read_bit xs' (2 * (first + i) + 2 * j + k) ≡ parity_at k path (i + j)
        go (inl less) =
            let place : 2 * (first + i) + 2 * j + k ≡ 2 * (first + i) + (2 * j + k) = omega arith in
            let step : i + (0 + j) ≡ i + j = omega arith in
            ap (read_bit xs') place ∙ high (2 * j + k) (omega (arith, less, two))
            ∙ step_is path (inputs / 16 % 1024) 0 i j k
            (λ q m. let at : i + q ≡ i + (0 + q) = omega arith in window_first inputs q m ∙ input_at path a q (omega (arith, m)) ∙ ap path at) less two
            ∙ ap (parity_at k path) step
        go (inr past) =
            let u : ℕ = j - 4 in
            let place : 2 * (first + i) + 2 * j + k ≡ 2 * (first + i) + 8 + (2 * u + k) = omega (arith, past) in
            let step : i + (4 + u) ≡ i + j = omega (arith, past) in
            ap (read_bit xs') place ∙ low (2 * u + k) (omega (arith, past, l, two))
            ∙ step_is path (inputs % 1024) 4 i u k
            (λ q m. window_second inputs q m ∙ input_at path a (4 + q) (omega (arith, m))) (omega (arith, past, l)) two
            ∙ ap (parity_at k path) step
