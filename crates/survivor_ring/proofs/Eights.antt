-- Tracebacks through decision words, eight at a time.
use Rattle.std.proofs.Common.{◌≡◌, ℕ, zero, suc, ◌+◌, ◌-◌, ◌*◌, ◌/◌, ◌%◌, ◌^◌, ◌<◌, ◌≤◌, Bool, false, cond, List, [], ◌∷◌, ◌++◌, length, take, drop, get_or, set, refl, sym, ap, ap₂, ◌∙◌, arith, eqb, lit<, ext_get_or, get_or-take, length-take-le, take-append-drop, drop-drop, append_assoc, true, true≢false, ◌⊎◌, inl, inr}
use Rattle.std.proofs.Math.Nat.{pow-suc}
use Rattle.std.proofs.Math.Seq.{take-append_seam}
use Rattle.std.proofs.lemmas.Bool.{agree_below_at, cases_lt}
use Rattle.std.proofs.lemmas.List.{drop_all, drop-set, get_or_append_left, get_or-append_right, get_or-drop, take-take}
use Rattle.std.proofs.Math.ListN.{length-drop}
use Rattle.std.proofs.lemmas.Nat.Bits.{bit_at-lt, bit_at-suc, same_from_bits_below}
use Rattle.std.specs.Int.{bit_at}
use Rattle.std.specs.Prelude.{slice_index}
use Rattle.spec_words.specs.Bits.{bit, is_set, spelled}
use Rattle.code_paths.specs.States.{before}
use Rattle.code_paths.proofs.Words.{set_low}
use Rattle.bit_pack.specs.Queue.{bits_of_bytes}
use Rattle.survivor_ring.specs.Ring.{IsTraced, root, trace}
use Rattle.survivor_ring.specs.declared.ring.TheConstants.{REVERSED}
use Rattle.survivor_ring.proofs.Walks.{drop_one, root_below, trace_length, trace_append, trace_bit, trace_drop, root_append}
use Rattle.survivor_ring.proofs.Traces.{spelled_at, bits_at, chunk_is}

-- ---- a byte in reverse order

abbrev pub turned : ℕ → ℕ
turned x = get_or REVERSED x 0

pub turned_at : (x k : ℕ) → x < 256 → k < 8 → is_set (turned x) (7 - k) ≡ is_set x k
turned_at x zero l m = agree_below_at (λ y. is_set (turned y) 7) (λ y. is_set y 0) 256 x refl l
turned_at x (suc zero) l m = agree_below_at (λ y. is_set (turned y) 6) (λ y. is_set y 1) 256 x refl l
turned_at x (suc (suc zero)) l m = agree_below_at (λ y. is_set (turned y) 5) (λ y. is_set y 2) 256 x refl l
turned_at x (suc (suc (suc zero))) l m = agree_below_at (λ y. is_set (turned y) 4) (λ y. is_set y 3) 256 x refl l
turned_at x (suc (suc (suc (suc zero)))) l m = agree_below_at (λ y. is_set (turned y) 3) (λ y. is_set y 4) 256 x refl l
turned_at x (suc (suc (suc (suc (suc zero))))) l m = agree_below_at (λ y. is_set (turned y) 2) (λ y. is_set y 5) 256 x refl l
turned_at x (suc (suc (suc (suc (suc (suc zero)))))) l m = agree_below_at (λ y. is_set (turned y) 1) (λ y. is_set y 6) 256 x refl l
turned_at x (suc (suc (suc (suc (suc (suc (suc zero))))))) l m = agree_below_at (λ y. is_set (turned y) 0) (λ y. is_set y 7) 256 x refl l
turned_at x (suc (suc (suc (suc (suc (suc (suc (suc k)))))))) l m = absurd (omega arith)

-- ---- eight steps back

half_bit : (n k : ℕ) → is_set n (suc k) ≡ is_set (n / 2) k
half_bit n k = ap (λ z. eqb z 1) (bit_at-suc n k)

high_bit : (n j : ℕ) → is_set n (6 + j) ≡ is_set (n / 64) j
high_bit n j =
    let e : n / 2 / 2 / 2 / 2 / 2 / 2 ≡ n / 64 = omega arith in
    let f : 6 + j ≡ suc (suc (suc (suc (suc (suc j))))) = omega arith in
    ap (is_set n) f ∙ half_bit n (suc (suc (suc (suc (suc j))))) ∙ half_bit (n / 2) (suc (suc (suc (suc j)))) ∙ half_bit (n / 2 / 2) (suc (suc (suc j))) ∙ half_bit (n / 2 / 2 / 2) (suc (suc j))
    ∙ half_bit (n / 2 / 2 / 2 / 2) (suc j) ∙ half_bit (n / 2 / 2 / 2 / 2 / 2) j ∙ ap (λ z. is_set z j) e

-- after k steps: the state in the lowest six bits, and above them the newest bits of the states passed
pub record Walked (words : List ℕ) (state k walk : ℕ) : Type 0 where
  pub root_is : walk % 64 ≡ root (drop (8 - k) words) state
  pub small : walk < 64 * 2 ^ k
  pub bits : (j : ℕ) → j < k → is_set walk (6 + j) ≡ bit (trace (drop (8 - k) words) state) j

pub walked_none : (words : List ℕ) (state : ℕ) → length words ≡ 8 → state < 64 → Walked words state 0 state
walked_none words state n l =
    let e : state % 64 ≡ state = omega arith in
    record { root_is = e ∙ sym (ap (λ z. root z state) (drop_all 8 words (omega (arith, n)))); small = omega arith; bits = λ j m. absurd (omega (arith, m)) }

pub walked_more : (words : List ℕ) (state k walk new word : ℕ) → length words ≡ 8 → k < 8 → word ≡ slice_index words (7 - k) → new % 64 ≡ before word (walk % 64) → new / 2 ≡ walk → Walked words state k walk → Walked words state (k + 1) new
walked_more words state k walk new word n l e f g w = record { root_is = root_is; small = small; bits = bits }
  where
    small : new < 64 * 2 ^ (k + 1)
    small = let q : k + 1 ≡ suc k = omega arith in omega (arith, w.small, g, pow-suc 2 k, ap (λ z. 2 ^ z) q)

    now : drop (8 - (k + 1)) words ≡ word ∷ drop (8 - k) words
    now =
        let p : 8 - (k + 1) ≡ 7 - k = omega (arith, l) in
        let q : suc (7 - k) ≡ 8 - k = omega (arith, l) in
        ap (λ z. drop z words) p ∙ drop_one words (7 - k) (omega (arith, l, n)) ∙ ap₂ (λ x y. x ∷ drop y words) (sym e) q

    root_is : new % 64 ≡ root (drop (8 - (k + 1)) words) state
    root_is = f ∙ ap (before word) w.root_is ∙ sym (ap (λ z. root z state) now)

    newest : is_set walk 5 ≡ is_set (root (drop (8 - k) words) state) 5
    newest = sym (set_low walk 6 5 (lit< tt)) ∙ ap (λ z. is_set z 5) w.root_is

    here : (j : ℕ) → j < k + 1 → is_set new (6 + j) ≡ bit (is_set (root (drop (8 - k) words) state) 5 ∷ trace (drop (8 - k) words) state) j
    here zero m = half_bit new 5 ∙ ap (λ z. is_set z 5) g ∙ newest
    here (suc j) m = let q : 6 + suc j ≡ suc (6 + j) = omega arith in ap (is_set new) q ∙ half_bit new (6 + j) ∙ ap (λ z. is_set z (6 + j)) g ∙ w.bits j (omega (arith, m))

    bits : (j : ℕ) → j < k + 1 → is_set new (6 + j) ≡ bit (trace (drop (8 - (k + 1)) words) state) j
    bits j m = here j m ∙ sym (ap (λ z. bit (trace z state) j) now)

pub walk_small : (walk k : ℕ) → walk < 64 * 2 ^ k → k < 8 → walk < 8192
walk_small walk zero h l = omega (arith, h)
walk_small walk (suc zero) h l = omega (arith, h)
walk_small walk (suc (suc zero)) h l = omega (arith, h)
walk_small walk (suc (suc (suc zero))) h l = omega (arith, h)
walk_small walk (suc (suc (suc (suc zero)))) h l = omega (arith, h)
walk_small walk (suc (suc (suc (suc (suc zero))))) h l = omega (arith, h)
walk_small walk (suc (suc (suc (suc (suc (suc zero)))))) h l = omega (arith, h)
walk_small walk (suc (suc (suc (suc (suc (suc (suc zero))))))) h l = omega (arith, h)
walk_small walk (suc (suc (suc (suc (suc (suc (suc (suc k)))))))) h l = absurd (omega arith)

pub byte_is : (words : List ℕ) (state walk x byte : ℕ) → length words ≡ 8 → Walked words state 8 walk → x ≡ walk / 64 % 256 → ((k : ℕ) → k < 8 → is_set byte (7 - k) ≡ is_set x k) → spelled 8 byte ≡ trace words state
byte_is words state walk x byte n w e h =
    ext_get_or false (spelled 8 byte) (trace words state) (sym (trace_length words state ∙ n))
    (λ j l. spelled_at byte j l ∙ h j l ∙ ap (λ z. is_set z j) e ∙ set_low (walk / 64) 8 j l ∙ sym (high_bit walk j) ∙ w.bits j l)

-- ---- one more byte, from the newest on

-- the bytes from index i on are written
pub record Tailed (words : List ℕ) (state : ℕ) (bytes : List ℕ) (i now : ℕ) : Type 0 where
  pub now_is : now ≡ root (drop (8 * i) words) state
  pub small : now < 64
  pub bits : bits_of_bytes (drop i bytes) ≡ trace (drop (8 * i) words) state

pub tailed_none : (words : List ℕ) (state : ℕ) (bytes : List ℕ) (i : ℕ) → length words ≡ 8 * length bytes → state < 64 → i ≡ length bytes → Tailed words state bytes i state
tailed_none words state bytes i n l e =
    let d : drop (8 * i) words ≡ [] = drop_all (8 * i) words (omega (arith, n, e)) in
    record { now_is = sym (ap (λ z. root z state) d); small = l; bits = ap bits_of_bytes (drop_all i bytes (omega (arith, e))) ∙ sym (ap (λ z. trace z state) d) }

pub part_then : (words : List ℕ) (i : ℕ) → drop (8 * i) words ≡ take 8 (drop (8 * i) words) ++ drop (8 * suc i) words
part_then words i =
    let e : 8 * i + 8 ≡ 8 * suc i = omega arith in
    sym (take-append-drop 8 (drop (8 * i) words)) ∙ ap (λ z. take 8 (drop (8 * i) words) ++ z) (drop-drop 8 (8 * i) words ∙ ap (λ z. drop z words) e)

pub tailed_more : (words : List ℕ) (state : ℕ) (bytes part : List ℕ) (i now next byte : ℕ) → i < length bytes → part ≡ take 8 (drop (8 * i) words) → next ≡ root part now → next < 64 → spelled 8 byte ≡ trace part now → Tailed words state bytes (suc i) now → Tailed words state (set bytes i byte) i next
tailed_more words state bytes part i now next byte l p r s b t =
    let d : drop (8 * i) words ≡ part ++ drop (8 * suc i) words = part_then words i ∙ ap (λ z. z ++ drop (8 * suc i) words) (sym p) in
    let e : i + 1 ≡ suc i = omega arith in
    record {
      now_is = r ∙ ap (root part) t.now_is ∙ sym (root_append part (drop (8 * suc i) words) state) ∙ sym (ap (λ z. root z state) d);
      small = s;
      bits =
          ap bits_of_bytes (drop-set bytes i byte l ∙ ap (λ z. byte ∷ drop z bytes) e)
          ∙ ap₂ (λ x y. x ++ y) (b ∙ ap (trace part) t.now_is) t.bits
          ∙ sym (trace_append part (drop (8 * suc i) words) state)
          ∙ sym (ap (λ z. trace z state) d);
    }

-- ---- bytes and words in two parts

bits_append : (xs ys : List ℕ) → bits_of_bytes (xs ++ ys) ≡ bits_of_bytes xs ++ bits_of_bytes ys
bits_append [] ys = refl
bits_append (x ∷ xs) ys = ap (λ z. spelled 8 x ++ z) (bits_append xs ys) ∙ sym (append_assoc (spelled 8 x) (bits_of_bytes xs) (bits_of_bytes ys))

pub bits_take : (bytes : List ℕ) (k : ℕ) → bits_of_bytes (take k bytes) ≡ take (8 * k) (bits_of_bytes bytes)
bits_take bytes zero = refl
bits_take [] (suc k) = sym (none_left (8 * suc k))
  where
    none_left : (n : ℕ) → take n (bits_of_bytes []) ≡ []
    none_left zero = refl
    none_left (suc n) = refl
bits_take (x ∷ xs) (suc k) =
    let e : 8 * suc k ≡ suc (suc (suc (suc (suc (suc (suc (suc (8 * k)))))))) = omega arith in
    ap (λ z. spelled 8 x ++ z) (bits_take xs k) ∙ sym (ap (λ z. take z (spelled 8 x ++ bits_of_bytes xs)) e)

trace_split : (words : List ℕ) (k n : ℕ) → trace words n ≡ trace (take k words) (root (drop k words) n) ++ trace (drop k words) n
trace_split words k n = ap (λ z. trace z n) (sym (take-append-drop k words)) ∙ trace_append (take k words) (drop k words) n

root_split : (words : List ℕ) (k n : ℕ) → root words n ≡ root (take k words) (root (drop k words) n)
root_split words k n = ap (λ z. root z n) (sym (take-append-drop k words)) ∙ root_append (take k words) (drop k words) n

trace_front : (words rest : List ℕ) (len n : ℕ) → length words ≡ len → take len (trace (words ++ rest) n) ≡ trace words (root rest n)
trace_front words rest len n e =
    ap₂ take (sym (trace_length words (root rest n) ∙ e)) (trace_append words rest n) ∙ take-append_seam (trace words (root rest n)) (trace rest n)

pub both_root : (older newer words : List ℕ) (state now back : ℕ) → older ++ newer ≡ words → now ≡ root newer state → back ≡ root older now → back ≡ root words state
both_root older newer words state now back e f g = g ∙ ap (root older) f ∙ sym (root_append older newer state) ∙ ap (λ z. root z state) e

pub both_bits : (older newer words first last : List ℕ) (state now : ℕ) → older ++ newer ≡ words → now ≡ root newer state → bits_of_bytes first ≡ trace older now → bits_of_bytes last ≡ trace newer state → bits_of_bytes (first ++ last) ≡ trace words state
both_bits older newer words first last state now e f g h =
    bits_append first last ∙ ap₂ (λ x y. x ++ y) (g ∙ ap (trace older) f) h ∙ sym (trace_append older newer state) ∙ ap (λ z. trace z state) e

-- ---- where a traceback reaches the state of another one

halved : (b : Bool) (n : ℕ) → cond b (2 * (n % 32) + 1) (2 * (n % 32)) / 2 ≡ n % 32
halved true n = omega arith
halved false n = omega arith

older_bit : (d n k : ℕ) → k < 5 → is_set (before d n) (suc k) ≡ is_set n k
older_bit d n k l = half_bit (before d n) k ∙ ap (λ z. is_set z k) (halved (is_set d n) n) ∙ set_low n 5 k l

root_bit : (ws : List ℕ) (n i : ℕ) → i + length ws < 6 → is_set (root ws n) (i + length ws) ≡ is_set n i
root_bit [] n i l = let e : i + 0 ≡ i = omega arith in ap (is_set n) e
root_bit (d ∷ ws) n i l =
    let e : i + suc (length ws) ≡ suc (i + length ws) = omega arith in
    ap (is_set (before d (root ws n))) e ∙ older_bit d (root ws n) (i + length ws) (omega (arith, l)) ∙ root_bit ws n i (omega (arith, l))

-- the last six bits are those of the state
seen : (ws : List ℕ) (n i : ℕ) → 6 ≤ length ws → i < 6 → get_or (trace ws n) (length ws - 6 + i) false ≡ is_set n i
seen ws n i l m =
    let p = length ws - 6 + i in
    let e : i + length (drop (suc p) ws) ≡ 5 = omega (arith, length-drop (suc p) ws, l, m) in
    trace_bit ws n p (omega (arith, l, m)) ∙ sym (ap (is_set (root (drop (suc p) ws) n)) e) ∙ root_bit (drop (suc p) ws) n i (omega (arith, e))

same_digit : (x y : ℕ) → x < 2 → y < 2 → eqb x 1 ≡ eqb y 1 → x ≡ y
same_digit zero zero l m e = refl
same_digit (suc zero) (suc zero) l m e = refl
same_digit zero (suc zero) l m e = absurd (true≢false (sym e))
same_digit (suc zero) zero l m e = absurd (true≢false e)
same_digit (suc (suc x)) y l m e = absurd (omega (arith, l))
same_digit x (suc (suc y)) l m e = absurd (omega (arith, m))

same_state : (ws : List ℕ) (m n : ℕ) → 6 ≤ length ws → m < 64 → n < 64 → trace ws m ≡ trace ws n → m ≡ n
same_state ws m n l f g e =
    same_from_bits_below 6 m n f g
    (λ i k. same_digit (bit_at m i) (bit_at n i) (bit_at-lt m i) (bit_at-lt n i) (sym (seen ws m i l k) ∙ ap (λ z. get_or z (length ws - 6 + i) false) e ∙ seen ws n i l k))

-- an unchanged byte shows that the traceback has reached the state of the one from state 0
pub met : (words old bytes part : List ℕ) (i now byte : ℕ) → length words ≡ 8 * length old → i < length old → bits_of_bytes old ≡ trace words 0 → take (suc i) bytes ≡ take (suc i) old → part ≡ take 8 (drop (8 * i) words) → now < 64 → spelled 8 byte ≡ trace part now → slice_index bytes i ≡ byte → now ≡ root (drop (8 * suc i) words) 0
met words old bytes part i now byte n l b f p s t e =
    same_state part now zero_way (omega (arith, long)) s (root_below (drop (8 * suc i) words) 0 (lit< tt)) (sym t ∙ ap (spelled 8) (sym e ∙ same_byte) ∙ sym (chunk_is old i l) ∙ from_zero)
  where
    zero_way : ℕ
    zero_way = root (drop (8 * suc i) words) 0

    long : length part ≡ 8
    long = ap length p ∙ length-take-le 8 (drop (8 * i) words) (omega (arith, length-drop (8 * i) words, n, l))

    same_byte : get_or bytes i 0 ≡ get_or old i 0
    same_byte =
        let k : i < suc i = omega arith in
        sym (get_or-take (suc i) bytes i 0 k) ∙ ap (λ z. get_or z i 0) f ∙ get_or-take (suc i) old i 0 k

    from_zero : take 8 (drop (8 * i) (bits_of_bytes old)) ≡ trace part zero_way
    from_zero =
        ap (λ z. take 8 (drop (8 * i) z)) b ∙ ap (take 8) (sym (trace_drop words (8 * i) 0) ∙ ap (λ z. trace z 0) (part_then words i ∙ ap (λ z. z ++ drop (8 * suc i) words) (sym p)))
        ∙ trace_front part (drop (8 * suc i) words) 8 0 long

pub met_root : (words : List ℕ) (state i now guess : ℕ) → guess ≡ root words 0 → now ≡ root (drop (8 * suc i) words) 0 → now ≡ root (drop (8 * suc i) words) state → guess ≡ root words state
met_root words state i now guess g e f = g ∙ root_split words (8 * suc i) 0 ∙ ap (root (take (8 * suc i) words)) (sym e ∙ f) ∙ sym (root_split words (8 * suc i) state)

pub met_bits : (words old bytes : List ℕ) (state i now : ℕ) → length words ≡ 8 * length old → i < length old → bits_of_bytes old ≡ trace words 0 → take (suc i) bytes ≡ take (suc i) old → now ≡ root (drop (8 * suc i) words) 0 → Tailed words state bytes (suc i) now → bits_of_bytes bytes ≡ trace words state
met_bits words old bytes state i now n l b f e t =
    ap bits_of_bytes (sym (take-append-drop (suc i) bytes)) ∙ bits_append (take (suc i) bytes) (drop (suc i) bytes)
    ∙ ap₂ (λ x y. x ++ y) (ap bits_of_bytes f ∙ bits_take old (suc i) ∙ ap (take (8 * suc i)) b ∙ front) t.bits
    ∙ sym (trace_split words (8 * suc i) state)
  where
    front : take (8 * suc i) (trace words 0) ≡ trace (take (8 * suc i) words) (root (drop (8 * suc i) words) state)
    front =
        ap (λ z. take (8 * suc i) (trace z 0)) (sym (take-append-drop (8 * suc i) words))
        ∙ trace_front (take (8 * suc i) words) (drop (8 * suc i) words) (8 * suc i) 0 (length-take-le (8 * suc i) words (omega (arith, n, l)))
        ∙ ap (trace (take (8 * suc i) words)) (sym e ∙ t.now_is)

-- ---- a part of the words, and the bytes written for it

part_take : (bits : List Bool) (a len count : ℕ) → a + len ≤ count → take len (drop a bits) ≡ take len (drop a (take count bits))
part_take bits zero len count l = sym (take-take len count bits (omega (arith, l)))
part_take [] (suc a) len zero l = absurd (omega (arith, l))
part_take [] (suc a) len (suc count) l = refl
part_take (b ∷ bits) (suc a) len zero l = absurd (omega (arith, l))
part_take (b ∷ bits) (suc a) len (suc count) l = part_take bits a len count (omega (arith, l))

pub part_bits : (bits : List Bool) (words part : List ℕ) (place a len end state : ℕ) → take (length words) (drop place bits) ≡ trace words state → a + len ≤ length words → part ≡ take len (drop a words) → end ≡ root (drop (a + len) words) state → take (length part) (drop (place + a) bits) ≡ trace part end
part_bits bits words part place a len end state e l p r =
    ap (λ z. take z (drop (place + a) bits)) long ∙ ap (take len) (sym (drop-drop a place bits)) ∙ part_take (drop place bits) a len (length words) l
    ∙ ap (λ z. take len (drop a z)) e ∙ ap (take len) (sym (trace_drop words a state) ∙ ap (λ z. trace z state) then)
    ∙ trace_front part (drop (a + len) words) len state long ∙ ap (trace part) (sym r)
  where
    long : length part ≡ len
    long = ap length p ∙ length-take-le len (drop a words) (omega (arith, length-drop a words, l))

    then : drop a words ≡ part ++ drop (a + len) words
    then = sym (take-append-drop len (drop a words)) ∙ ap₂ (λ x y. x ++ y) (sym p) (drop-drop len a words)

pub part_root : (words part : List ℕ) (a len end back state : ℕ) → part ≡ take len (drop a words) → end ≡ root (drop (a + len) words) state → back ≡ root part end → back ≡ root (drop a words) state
part_root words part a len end back state p e f =
    f ∙ ap₂ root p (e ∙ ap (λ z. root z state) (sym (drop-drop len a words))) ∙ sym (root_split (drop a words) len state)

pub traced_bytes : (bits : List Bool) (from f end n : ℕ) (seg old new : List ℕ) (byte : ℕ) → from ≡ 8 * f → end ≡ from + 8 * n → length seg ≡ n → 0 < n → f + n ≤ length old → take (8 * n) (drop from bits) ≡ bits_of_bytes seg
    → new ≡ take f old ++ (seg ++ drop n (drop f old)) → IsTraced bits end byte old → IsTraced bits from (get_or new f 0) new
traced_bytes bits from f end n seg old new byte e g z s l b u t = record { last_is = last_is; bytes_are = λ c j h m k. byte_is_at c j h (omega (arith, m, e)) k (cases_lt c (f + n)) }
  where
    front : length (take f old) ≡ f
    front = length-take-le f old (omega (arith, l))

    inside : (c : ℕ) → f ≤ c → c < f + n → get_or new c 0 ≡ get_or seg (c - f) 0
    inside c h k =
        ap (λ x. get_or x c 0) u ∙ get_or-append_right (take f old) (seg ++ drop n (drop f old)) f c 0 front h
        ∙ get_or_append_left seg (drop n (drop f old)) 0 (c - f) (omega (arith, h, k, z))

    behind : (c : ℕ) → f + n ≤ c → get_or new c 0 ≡ get_or old c 0
    behind c h =
        let q : f + n + (c - f - n) ≡ c = omega (arith, h) in
        ap (λ x. get_or x c 0) u ∙ get_or-append_right (take f old) (seg ++ drop n (drop f old)) f c 0 front (omega (arith, h))
        ∙ get_or-append_right seg (drop n (drop f old)) n (c - f) 0 z (omega (arith, h))
        ∙ ap (λ x. get_or x (c - f - n) 0) (drop-drop n f old) ∙ get_or-drop (f + n) old (c - f - n) 0 ∙ ap (λ x. get_or old x 0) q

    seg_bit : (i j : ℕ) → j < 8 → i < n → is_set (get_or seg i 0) (7 - j) ≡ bit bits (from + (8 * i + j))
    seg_bit i j h k =
        sym (bits_at seg i j h (omega (arith, k, z))) ∙ ap (λ x. get_or x (8 * i + j) false) (sym b) ∙ get_or-take (8 * n) (drop from bits) (8 * i + j) false (omega (arith, h, k))
        ∙ get_or-drop from bits (8 * i + j) false

    byte_at : (c j : ℕ) → j < 8 → f ≤ c → c < f + n → is_set (get_or new c 0) (7 - j) ≡ bit bits (8 * c + j)
    byte_at c j h m k =
        let q : from + (8 * (c - f) + j) ≡ 8 * c + j = omega (arith, e, m) in
        ap (λ x. is_set x (7 - j)) (inside c m k) ∙ seg_bit (c - f) j h (omega (arith, m, k)) ∙ ap (bit bits) q

    last_is : (j : ℕ) → j < 8 → from + j < length bits → is_set (get_or new f 0) (7 - j) ≡ bit bits (from + j)
    last_is j h k = let q : 8 * f + j ≡ from + j = omega (arith, e) in byte_at f j h (omega arith) (omega (arith, s)) ∙ ap (bit bits) q

    byte_is_at : (c j : ℕ) → j < 8 → f ≤ c → 8 * c + j < length bits → (c < f + n) ⊎ (f + n ≤ c) → is_set (get_or new c 0) (7 - j) ≡ bit bits (8 * c + j)
    byte_is_at c j h m k (inl q) = byte_at c j h m q
    byte_is_at c j h m k (inr q) = ap (λ x. is_set x (7 - j)) (behind c q) ∙ t.bytes_are c j h (omega (arith, q, e, g)) k
