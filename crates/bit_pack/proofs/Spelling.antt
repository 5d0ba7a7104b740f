-- Laws of spelled bits and of rings of bytes.
use Rattle.std.proofs.Common.{◌≡◌, ℕ, zero, suc, ◌+◌, ◌-◌, ◌*◌, ◌/◌, ◌%◌, ◌^◌, ◌<◌, ◌≤◌, Bool, true, false, List, [], ◌∷◌, ◌++◌, length, take, drop, set, get_or, refl, sym, ap, ap₂, ◌∙◌, arith, eqb, bit_and, bit_or, length-append, length-drop, append_assoc, append-nil, mod-lt, lit<, length-take-le}
use Rattle.std.proofs.Math.Nat.{mod-add-div', one-le-pow}
use Rattle.std.specs.Int.{bit_at}
use Rattle.std.proofs.lemmas.List.{get_or-drop, get_or-append_right, get_or_append_left, get_or-set_same, length-set, take-append-drop, take-append-le, drop-append-le, drop-take, drop-drop, take_more, take-set}
use Rattle.std.proofs.Math.Seq.{take-append-add}
use Rattle.std.proofs.lemmas.Nat.{or_shifted, and_mask}
use Rattle.std.proofs.lemmas.Nat.Bits.{bit_at_cat_low, bit_at_cat_high}
use Rattle.spec_words.specs.Bits.{is_set, spelled}
use Rattle.bit_pack.specs.Queue.{bits_of_bytes, ring, queue}
use mir.Val.{bool_byte}

-- ---- bits of a number

whole : (n w : ℕ) → n / 2 ^ w * 2 ^ w + n % 2 ^ w ≡ n
whole n w = omega (arith, mod-add-div' n (2 ^ w))

pow_pos : (s : ℕ) → 0 < 2 ^ s
pow_pos s = one-le-pow s 2 (lit< tt)

set_low : (n w k : ℕ) → k < w → is_set (n % 2 ^ w) k ≡ is_set n k
set_low n w k l = ap (λ z. eqb z 1) (sym (bit_at_cat_low (n / 2 ^ w) w (n % 2 ^ w) k l) ∙ ap (λ z. bit_at z k) (whole n w))

set_here : (r n i k : ℕ) → i < 2 ^ n → is_set (r * 2 ^ n + i) (k + n) ≡ is_set r k
set_here r n i k l =
    let e : k + n - n ≡ k = omega arith in
    ap (λ z. eqb z 1) (bit_at_cat_high r n i (k + n) l (omega arith) ∙ ap (bit_at r) e)

pub spelled_same : (n x y : ℕ) → ((k : ℕ) → k < n → is_set x k ≡ is_set y k) → spelled n x ≡ spelled n y
spelled_same zero x y h = refl
spelled_same (suc n) x y h = ap₂ (λ b bs. b ∷ bs) (h n (omega arith)) (spelled_same n x y (λ k l. h k (omega arith)))

pub spelled_mod : (n w x : ℕ) → n ≤ w → spelled n (x % 2 ^ w) ≡ spelled n x
spelled_mod n w x l = spelled_same n (x % 2 ^ w) x (λ k m. set_low x w k (omega arith))

spelled_low : (n r w i : ℕ) → n ≤ w → spelled n (r * 2 ^ w + i) ≡ spelled n i
spelled_low n r w i l = spelled_same n (r * 2 ^ w + i) i (λ k m. ap (λ z. eqb z 1) (bit_at_cat_low r w i k (omega arith)))

pub spelled_join : (m n t r i : ℕ) → t ≡ m + n → i < 2 ^ n → spelled t (r * 2 ^ n + i) ≡ spelled m r ++ spelled n i
spelled_join zero n t r i e l =
    let f : t ≡ n = omega arith in
    ap (λ z. spelled z (r * 2 ^ n + i)) f ∙ spelled_low n r n i (omega arith)
spelled_join (suc m) n zero r i e l = absurd (omega arith)
spelled_join (suc m) n (suc t) r i e l =
    let f : t ≡ m + n = omega arith in
    ap₂ (λ b bs. b ∷ bs) (ap (is_set (r * 2 ^ n + i)) f ∙ set_here r n i m l) (spelled_join m n t r i f l)

pub length-spelled : (n x : ℕ) → length (spelled n x) ≡ n
length-spelled zero x = refl
length-spelled (suc n) x = omega (arith, length-spelled n x)

pub spelled_first : (n x : ℕ) → 0 < n → spelled n x ≡ is_set x (n - 1) ∷ spelled (n - 1) x
spelled_first zero x l = absurd (omega arith)
spelled_first (suc n) x l = let e : suc n - 1 ≡ n = omega arith in rw e refl

-- ---- words of two bytes

small_product : (h p : ℕ) → h < 256 → p < 9 → h * 2 ^ p < 65536
small_product h p l m = go p (omega arith)
  where
    go : (p : ℕ) → p ≤ 8 → h * 2 ^ p < 65536
    go zero k = omega arith
    go (suc zero) k = omega arith
    go (suc (suc zero)) k = omega arith
    go (suc (suc (suc zero))) k = omega arith
    go (suc (suc (suc (suc zero)))) k = omega arith
    go (suc (suc (suc (suc (suc zero))))) k = omega arith
    go (suc (suc (suc (suc (suc (suc zero)))))) k = omega arith
    go (suc (suc (suc (suc (suc (suc (suc zero))))))) k = omega arith
    go (suc (suc (suc (suc (suc (suc (suc (suc zero)))))))) k = omega arith
    go (suc (suc (suc (suc (suc (suc (suc (suc (suc p))))))))) k = absurd (omega arith)

pub joined_is : (h l p : ℕ) → h < 256 → p < 9 → bit_or (h * 2 ^ p % 65536) (bit_and l (1 * 2 ^ p % 65536 - 1)) ≡ h * 2 ^ p + l % 2 ^ p
joined_is h l p a b =
    let e : h * 2 ^ p % 65536 ≡ h * 2 ^ p = omega (arith, small_product h p a b) in
    let m : 1 * 2 ^ p % 65536 ≡ 2 ^ p = omega (arith, small_product 1 p (lit< tt) b) in
    ap₂ bit_or e (ap (λ z. bit_and l (z - 1)) m ∙ and_mask l p) ∙ or_shifted h p (l % 2 ^ p) (mod-lt l (pow_pos p))

-- the first eight bits, and the others
pub first_eight_is : (h m l n w : ℕ) → m < 9 → n < 9 → 8 ≤ m + n → w ≡ h * 2 ^ n + l % 2 ^ n → spelled 8 (bit_and (w / 2 ^ (m + n - 8)) 255) ++ spelled (m + n - 8) l ≡ spelled m h ++ spelled n l
first_eight_is h m l n w a b c e =
    let k = m + n - 8 in
    let t : m + n ≡ 8 + k = omega arith in
    let q : spelled 8 (bit_and (w / 2 ^ k) 255) ≡ spelled 8 (w / 2 ^ k) = ap (spelled 8) (and_mask (w / 2 ^ k) 8) ∙ spelled_mod 8 8 (w / 2 ^ k) (omega arith) in
    let r : spelled k l ≡ spelled k (w % 2 ^ k) = sym (spelled_mod k k w (omega arith) ∙ ap (spelled k) e ∙ spelled_low k h n (l % 2 ^ n) (omega arith) ∙ spelled_mod k n l (omega arith)) in
    ap₂ (λ x y. x ++ y) q r
    ∙ sym (spelled_join 8 k (m + n) (w / 2 ^ k) (w % 2 ^ k) t (mod-lt w (pow_pos k)))
    ∙ ap (spelled (m + n)) (whole w k ∙ e)
    ∙ spelled_join m n (m + n) h (l % 2 ^ n) refl (mod-lt l (pow_pos n))
    ∙ ap (λ z. spelled m h ++ z) (spelled_mod n n l (omega arith))

pub with_bit_is : (x : ℕ) (b : Bool) (n : ℕ) → n < 8 → spelled (n + 1) (bit_or (x * 2 % 256) (bool_byte b)) ≡ spelled n x ++ b ∷ []
with_bit_is x b n l = go b
  where
    e : x * 2 % 256 ≡ x % 128 * 2
    e = omega arith

    low : spelled n (x % 128) ≡ spelled n x
    low = spelled_mod n 7 x (omega arith)

    go : (b : Bool) → spelled (n + 1) (bit_or (x * 2 % 256) (bool_byte b)) ≡ spelled n x ++ b ∷ []
    go true = ap (λ z. spelled (n + 1) (bit_or z 1)) e ∙ ap (spelled (n + 1)) (or_shifted (x % 128) 1 1 (lit< tt)) ∙ spelled_join n 1 (n + 1) (x % 128) 1 refl (lit< tt) ∙ ap (λ z. z ++ true ∷ []) low
    go false = ap (λ z. spelled (n + 1) (bit_or z 0)) e ∙ ap (spelled (n + 1)) (or_shifted (x % 128) 1 0 (lit< tt)) ∙ spelled_join n 1 (n + 1) (x % 128) 0 refl (lit< tt) ∙ ap (λ z. z ++ false ∷ []) low

-- ---- bytes of a ring

pub bits_push : (xs : List ℕ) (b : ℕ) → bits_of_bytes (xs ++ b ∷ []) ≡ bits_of_bytes xs ++ spelled 8 b
bits_push [] b = append-nil (spelled 8 b)
bits_push (x ∷ xs) b = ap (λ z. spelled 8 x ++ z) (bits_push xs b) ∙ sym (append_assoc (spelled 8 x) (bits_of_bytes xs) (spelled 8 b))

pub length-bits : (xs : List ℕ) → length (bits_of_bytes xs) ≡ 8 * length xs
length-bits [] = refl
length-bits (x ∷ xs) = omega (arith, length-append (spelled 8 x) (bits_of_bytes xs), length-spelled 8 x, length-bits xs)

pub length-ring : (xs : List ℕ) (f n : ℕ) → f ≤ length xs → n ≤ length xs → length (ring xs f n) ≡ n
length-ring xs f n l m = length-take-le n (drop f xs ++ xs) (omega (arith, length-append (drop f xs) xs, length-drop f xs))

-- the position of byte k of the ring
at_early : (xs : List ℕ) (f k : ℕ) → f + k < length xs → get_or (drop f xs ++ xs) k 0 ≡ get_or xs (f + k) 0
at_early xs f k l = get_or_append_left (drop f xs) xs 0 k (omega (arith, length-drop f xs)) ∙ get_or-drop f xs k 0

at_late : (xs : List ℕ) (f k : ℕ) → f ≤ length xs → length xs ≤ f + k → get_or (drop f xs ++ xs) k 0 ≡ get_or xs (f + k - length xs) 0
at_late xs f k l m =
    let e : k - (length xs - f) ≡ f + k - length xs = omega arith in
    get_or-append_right (drop f xs) xs (length xs - f) k 0 (length-drop f xs) (omega arith) ∙ ap (λ z. get_or xs z 0) e

-- ---- the queue

pub length_queue : (bytes : List ℕ) (first count f fl b bl : ℕ) → first ≤ length bytes → count ≤ length bytes → length (queue bytes first count f fl b bl) ≡ fl + 8 * count + bl
length_queue bytes first count f fl b bl h k =
    omega (arith, length-append (spelled fl f) (bits_of_bytes (ring bytes first count) ++ spelled bl b), length-append (bits_of_bytes (ring bytes first count)) (spelled bl b), length-bits (ring bytes first count), length-ring bytes first count h k, length-spelled fl f, length-spelled bl b)

-- a whole byte goes in, from the bits after the ring and new ones
pub queue_push : (front bits : List Bool) (old new : List ℕ) (b whole rest : ℕ) (bl rl : ℕ) → new ≡ old ++ whole ∷ [] → spelled 8 whole ++ spelled rl rest ≡ spelled bl b ++ bits
    → front ++ (bits_of_bytes new ++ spelled rl rest) ≡ (front ++ (bits_of_bytes old ++ spelled bl b)) ++ bits
queue_push front bits old new b w rest bl rl e h =
    ap (λ z. front ++ (bits_of_bytes z ++ spelled rl rest)) e
    ∙ ap (λ z. front ++ (z ++ spelled rl rest)) (bits_push old w)
    ∙ ap (λ z. front ++ z) (append_assoc (bits_of_bytes old) (spelled 8 w) (spelled rl rest) ∙ ap (λ z. bits_of_bytes old ++ z) h ∙ sym (append_assoc (bits_of_bytes old) (spelled bl b) bits))
    ∙ sym (append_assoc front (bits_of_bytes old ++ spelled bl b) bits)

-- a whole byte comes out, from the bits before the ring and its first byte
pub queue_take : (old new : List ℕ) (back : List Bool) (f whole byte : ℕ) (fl : ℕ) → old ≡ byte ∷ new → spelled 8 whole ++ spelled fl byte ≡ spelled fl f ++ spelled 8 byte
    → spelled fl f ++ (bits_of_bytes old ++ back) ≡ spelled 8 whole ++ (spelled fl byte ++ (bits_of_bytes new ++ back))
queue_take old new back f w byte fl e h =
    ap (λ z. spelled fl f ++ (bits_of_bytes z ++ back)) e
    ∙ ap (λ z. spelled fl f ++ z) (append_assoc (spelled 8 byte) (bits_of_bytes new) back)
    ∙ sym (append_assoc (spelled fl f) (spelled 8 byte) (bits_of_bytes new ++ back))
    ∙ ap (λ z. z ++ (bits_of_bytes new ++ back)) (sym h)
    ∙ append_assoc (spelled 8 w) (spelled fl byte) (bits_of_bytes new ++ back)

-- ---- some bytes at a time

pub bits_append : (xs ys : List ℕ) → bits_of_bytes (xs ++ ys) ≡ bits_of_bytes xs ++ bits_of_bytes ys
bits_append [] ys = refl
bits_append (x ∷ xs) ys = ap (λ z. spelled 8 x ++ z) (bits_append xs ys) ∙ sym (append_assoc (spelled 8 x) (bits_of_bytes xs) (bits_of_bytes ys))

-- the first n bytes of a ring, which do not go round its end
pub ring_split : (xs part : List ℕ) (f c n : ℕ) → f + n ≤ length xs → n ≤ c → part ≡ take n (drop f xs) → ring xs f c ≡ part ++ ring xs (f + n) (c - n)
ring_split xs part f c n l m e =
    let rest : drop n (drop f xs) ≡ drop (f + n) xs = drop-drop n f xs in
    let whole : drop f xs ++ xs ≡ part ++ (drop (f + n) xs ++ xs) =
    ap (λ z. z ++ xs) (sym (take-append-drop n (drop f xs))) ∙ append_assoc (take n (drop f xs)) (drop n (drop f xs)) xs
    ∙ ap₂ (λ a b. a ++ (b ++ xs)) (sym e) rest in
    let size : length part ≡ n = ap length e ∙ length-take-le n (drop f xs) (omega (arith, l, length-drop f xs)) in
    let count : c ≡ length part + (c - n) = omega (arith, m, size) in
    ap₂ take count whole ∙ take-append-add part (drop (f + n) xs ++ xs) (c - n)

-- bytes behind those of a ring, which do not go round its end
pub ring_more : (xs new part : List ℕ) (f c : ℕ) → f + c + length part ≤ length xs → length new ≡ length xs → take (f + c + length part) new ≡ take (f + c) xs ++ part → ring new f (c + length part) ≡ ring xs f c ++ part
ring_more xs new part f c l size e =
    let n = length part in
    let count : f + c + n ≡ f + (c + n) = omega arith in
    let front : length (take (f + c) xs) ≡ f + c = length-take-le (f + c) xs (omega (arith, l)) in
    take-append-le (c + n) (drop f new) new (omega (arith, l, size, length-drop f new))
    ∙ sym (drop-take f (c + n) new) ∙ ap (λ z. drop f (take z new)) (sym count) ∙ ap (drop f) e
    ∙ drop-append-le f (take (f + c) xs) part (omega (arith, front))
    ∙ ap (λ z. z ++ part) (drop-take f c xs ∙ sym (take-append-le c (drop f xs) xs (omega (arith, l, length-drop f xs))))

-- the queue from which whole bytes are taken, where no bits are before them
pub queue_part : (xs part : List ℕ) (f c n fr fl b bl : ℕ) → fl ≡ 0 → ring xs f c ≡ part ++ ring xs (f + n) (c - n) → queue xs f c fr fl b bl ≡ bits_of_bytes part ++ queue xs (f + n) (c - n) fr fl b bl
queue_part xs part f c n fr fl b bl z e =
    let none : (rest : List Bool) → spelled fl fr ++ rest ≡ rest = λ rest. ap (λ k. spelled k fr ++ rest) z in
    none (bits_of_bytes (ring xs f c) ++ spelled bl b)
    ∙ ap (λ z. bits_of_bytes z ++ spelled bl b) e ∙ ap (λ z. z ++ spelled bl b) (bits_append part (ring xs (f + n) (c - n)))
    ∙ append_assoc (bits_of_bytes part) (bits_of_bytes (ring xs (f + n) (c - n))) (spelled bl b)
    ∙ ap (λ z. bits_of_bytes part ++ z) (sym (none (bits_of_bytes (ring xs (f + n) (c - n)) ++ spelled bl b)))

-- the queue to which whole bytes are put, where no bits are behind them
pub queue_paste : (xs new part : List ℕ) (f c d fr fl b bl : ℕ) → bl ≡ 0 → ring new f d ≡ ring xs f c ++ part → queue new f d fr fl b bl ≡ queue xs f c fr fl b bl ++ bits_of_bytes part
queue_paste xs new part f c d fr fl b bl z e =
    let none : (front : List Bool) → front ++ spelled bl b ≡ front = λ front. ap (λ k. front ++ spelled k b) z ∙ append-nil front in
    ap (λ z. spelled fl fr ++ z) (none (bits_of_bytes (ring new f d)) ∙ ap bits_of_bytes e ∙ bits_append (ring xs f c) part ∙ ap (λ z. z ++ bits_of_bytes part) (sym (none (bits_of_bytes (ring xs f c)))))
    ∙ sym (append_assoc (spelled fl fr) (bits_of_bytes (ring xs f c) ++ spelled bl b) (bits_of_bytes part))

-- how long they are
pub bytes_long : (xs : List ℕ) (i : ℕ) → i ≤ length xs → length (bits_of_bytes (take i xs)) ≡ 8 * i
bytes_long xs i l = length-bits (take i xs) ∙ ap (λ z. 8 * z) (length-take-le i xs l)

-- bytes that are put, one more
pub put_more : (old now new : List Bool) (xs : List ℕ) (i b : ℕ) → i < length xs → b ≡ get_or xs i 0 → now ≡ old ++ bits_of_bytes (take i xs) → new ≡ now ++ spelled 8 b → new ≡ old ++ bits_of_bytes (take (i + 1) xs)
put_more old now new xs i b l eb e f =
    f ∙ ap₂ (λ x y. x ++ spelled 8 y) e eb ∙ append_assoc old (bits_of_bytes (take i xs)) (spelled 8 (get_or xs i 0))
    ∙ ap (λ z. old ++ z) (sym (ap bits_of_bytes (take_more xs i 0 l) ∙ bits_push (take i xs) (get_or xs i 0)))

-- one byte more that is taken
pub bytes_more : (to : List ℕ) (rest : List Bool) (left : List Bool) (b i : ℕ) → i < length to → left ≡ spelled 8 b ++ rest → bits_of_bytes (take i to) ++ left ≡ bits_of_bytes (take (i + 1) (set to i b)) ++ rest
bytes_more to rest left b i l e =
    let more : take (i + 1) (set to i b) ≡ take i to ++ b ∷ [] = take_more (set to i b) i 0 (omega (arith, l, length-set to i b)) ∙ ap₂ (λ x y. x ++ y ∷ []) (take-set to i b) (get_or-set_same to i b 0 l) in
    ap (λ z. bits_of_bytes (take i to) ++ z) e ∙ sym (append_assoc (bits_of_bytes (take i to)) (spelled 8 b) rest)
    ∙ ap (λ z. z ++ rest) (sym (bits_push (take i to) b)) ∙ ap (λ z. bits_of_bytes z ++ rest) (sym more)

-- a shifted byte more
pub shifted_more : (front : List Bool) (xs to : List ℕ) (last whole n k : ℕ) → k < length xs → length to ≡ length xs → front ++ bits_of_bytes (take k xs) ≡ bits_of_bytes (take k to) ++ spelled n last
    → spelled 8 whole ++ spelled n (get_or xs k 0) ≡ spelled n last ++ spelled 8 (get_or xs k 0) → front ++ bits_of_bytes (take (k + 1) xs) ≡ bits_of_bytes (take (k + 1) (set to k whole)) ++ spelled n (get_or xs k 0)
shifted_more front xs to last whole n k l size h e =
    let byte = get_or xs k 0 in
    let more : take (k + 1) (set to k whole) ≡ take k to ++ whole ∷ [] = take_more (set to k whole) k 0 (omega (arith, l, size, length-set to k whole)) ∙ ap₂ (λ x y. x ++ y ∷ []) (take-set to k whole) (get_or-set_same to k whole 0 (omega (arith, l, size))) in
    ap (λ z. front ++ z) (ap bits_of_bytes (take_more xs k 0 l) ∙ bits_push (take k xs) byte)
    ∙ sym (append_assoc front (bits_of_bytes (take k xs)) (spelled 8 byte)) ∙ ap (λ z. z ++ spelled 8 byte) h
    ∙ append_assoc (bits_of_bytes (take k to)) (spelled n last) (spelled 8 byte) ∙ ap (λ z. bits_of_bytes (take k to) ++ z) (sym e)
    ∙ sym (append_assoc (bits_of_bytes (take k to)) (spelled 8 whole) (spelled n byte))
    ∙ ap (λ z. z ++ spelled n byte) (sym (ap bits_of_bytes more ∙ bits_push (take k to) whole))

-- shifted bytes behind those of a ring
pub ring_shifted : (xs new part shifted : List ℕ) (f c n back left : ℕ) → ring new f (c + length part) ≡ ring xs f c ++ shifted → spelled n back ++ bits_of_bytes part ≡ bits_of_bytes shifted ++ spelled n left
    → bits_of_bytes (ring new f (c + length part)) ++ spelled n left ≡ (bits_of_bytes (ring xs f c) ++ spelled n back) ++ bits_of_bytes part
ring_shifted xs new part shifted f c n back left e h =
    ap (λ z. bits_of_bytes z ++ spelled n left) e ∙ ap (λ z. z ++ spelled n left) (bits_append (ring xs f c) shifted)
    ∙ append_assoc (bits_of_bytes (ring xs f c)) (bits_of_bytes shifted) (spelled n left)
    ∙ ap (λ z. bits_of_bytes (ring xs f c) ++ z) (sym h) ∙ sym (append_assoc (bits_of_bytes (ring xs f c)) (spelled n back) (bits_of_bytes part))

-- the queue with them
pub queue_shifted : (front ring more : List Bool) (new part : List Bool) → new ≡ (ring ++ more) ++ part → front ++ new ≡ (front ++ (ring ++ more)) ++ part
queue_shifted front ring more new part e = ap (λ z. front ++ z) e ∙ sym (append_assoc front (ring ++ more) part)
