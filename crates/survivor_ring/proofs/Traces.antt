-- Bits written eight in a byte.
use Rattle.std.proofs.Common.{◌≡◌, ℕ, zero, suc, ◌+◌, ◌-◌, ◌*◌, ◌/◌, ◌%◌, ◌<◌, ◌≤◌, Bool, false, List, [], ◌∷◌, ◌++◌, ◌⊎◌, inl, inr, length, take, drop, get_or, set, refl, sym, ap, ap₂, ◌∙◌, subst, arith, eqb, get_or-take, length-take-le, append_assoc}
use Rattle.std.proofs.lemmas.Bool.{cases_eq}
use Rattle.std.proofs.lemmas.List.{get_or_append_left, get_or-append_right, get_or-drop, get_or-set_same, get_or-set_other, length-append, take-take, take_all, take_more, ext_get_or}
use Rattle.std.specs.Prelude.{slice_index}
use Rattle.spec_words.specs.Bits.{bit, is_set, spelled}
use Rattle.bit_pack.specs.Queue.{bits_of_bytes}
use Rattle.survivor_ring.specs.Ring.{IsTraced, root, trace}
use Rattle.survivor_ring.proofs.Walks.{drop_one, trace_append, trace_bit, trace_length}
use Rattle.code_paths.specs.States.{before}
use Rattle.std.proofs.Math.Seq.{take-append_seam, drop-append_seam}

-- ---- bytes as bits

pub spelled_at : (x j : ℕ) → j < 8 → get_or (spelled 8 x) j false ≡ is_set x (7 - j)
spelled_at x zero l = refl
spelled_at x (suc zero) l = refl
spelled_at x (suc (suc zero)) l = refl
spelled_at x (suc (suc (suc zero))) l = refl
spelled_at x (suc (suc (suc (suc zero)))) l = refl
spelled_at x (suc (suc (suc (suc (suc zero))))) l = refl
spelled_at x (suc (suc (suc (suc (suc (suc zero)))))) l = refl
spelled_at x (suc (suc (suc (suc (suc (suc (suc zero))))))) l = refl
spelled_at x (suc (suc (suc (suc (suc (suc (suc (suc j)))))))) l = absurd (omega arith)

pub bits_len : (bytes : List ℕ) → length (bits_of_bytes bytes) ≡ 8 * length bytes
bits_len [] = refl
bits_len (x ∷ xs) = omega (arith, length-append (spelled 8 x) (bits_of_bytes xs), bits_len xs)

pub bits_at : (bytes : List ℕ) (b j : ℕ) → j < 8 → b < length bytes → get_or (bits_of_bytes bytes) (8 * b + j) false ≡ is_set (get_or bytes b 0) (7 - j)
bits_at [] b j l m = absurd (omega arith)
bits_at (x ∷ xs) zero j l m = let e : 8 * 0 + j ≡ j = omega arith in ap (λ k. get_or (spelled 8 x ++ bits_of_bytes xs) k false) e ∙ get_or_append_left (spelled 8 x) (bits_of_bytes xs) false j l ∙ spelled_at x j l
bits_at (x ∷ xs) (suc b) j l m =
    let e : 8 * suc b + j - 8 ≡ 8 * b + j = omega arith in
    get_or-append_right (spelled 8 x) (bits_of_bytes xs) 8 (8 * suc b + j) false refl (omega arith) ∙ ap (λ k. get_or (bits_of_bytes xs) k false) e ∙ bits_at xs b j l (omega arith)

pub chunk_is : (bytes : List ℕ) (b : ℕ) → b < length bytes → take 8 (drop (8 * b) (bits_of_bytes bytes)) ≡ spelled 8 (get_or bytes b 0)
chunk_is [] b l = absurd (omega arith)
chunk_is (x ∷ xs) zero l = refl
chunk_is (x ∷ xs) (suc b) l = let e : 8 * suc b ≡ suc (suc (suc (suc (suc (suc (suc (suc (8 * b)))))))) = omega arith in ap (λ k. take 8 (drop k (spelled 8 x ++ bits_of_bytes xs))) e ∙ chunk_is xs b (omega arith)

-- the bits of a byte just begun
pub rest_is : (bytes : List ℕ) (count : ℕ) → count / 8 < length bytes → take (count % 8) (spelled 8 (get_or bytes (count / 8) 0)) ≡ take (count - 8 * (count / 8)) (drop (8 * (count / 8)) (bits_of_bytes bytes))
rest_is bytes count l =
    let e : count - 8 * (count / 8) ≡ count % 8 = omega arith in
    ap (take (count % 8)) (sym (chunk_is bytes (count / 8) l)) ∙ take-take (count % 8) 8 (drop (8 * (count / 8)) (bits_of_bytes bytes)) (omega arith) ∙ ap (λ z. take z (drop (8 * (count / 8)) (bits_of_bytes bytes))) (sym e)

pub traced_all : (bits : List Bool) (last : ℕ) (bytes : List ℕ) → IsTraced bits 0 last bytes → length bits ≤ 8 * length bytes → take (length bits) (bits_of_bytes bytes) ≡ bits
traced_all bits last bytes t f =
    let n : length (take (length bits) (bits_of_bytes bytes)) ≡ length bits = length-take-le (length bits) (bits_of_bytes bytes) (omega (arith, bits_len bytes)) in
    ext_get_or false (take (length bits) (bits_of_bytes bytes)) bits n
    (λ k l.
    let m : k < length bits = omega (arith, l, n) in
    let e : 8 * (k / 8) + k % 8 ≡ k = omega arith in
    get_or-take (length bits) (bits_of_bytes bytes) k false m ∙ ap (λ z. get_or (bits_of_bytes bytes) z false) (sym e) ∙ bits_at bytes (k / 8) (k % 8) (omega arith) (omega arith)
    ∙ t.bytes_are (k / 8) (k % 8) (omega arith) (omega arith) (omega arith) ∙ ap (bit bits) e)

-- ---- one more bit

newest_bit : (last now : ℕ) → last < 256 → now < 64 → is_set (last / 2 + 128 * (now / 32)) 7 ≡ is_set now 5
newest_bit last now f g = let e : (last / 2 + 128 * (now / 32)) / 128 % 2 ≡ now / 32 % 2 = omega arith in ap (λ z. eqb z 1) e

moved_bit : (last y j : ℕ) → last < 256 → j < 7 → is_set (last / 2 + 128 * y) (7 - suc j) ≡ is_set last (7 - j)
moved_bit last y zero f l = let e : (last / 2 + 128 * y) / 64 % 2 ≡ last / 128 % 2 = omega arith in ap (λ z. eqb z 1) e
moved_bit last y (suc zero) f l = let e : (last / 2 + 128 * y) / 32 % 2 ≡ last / 64 % 2 = omega arith in ap (λ z. eqb z 1) e
moved_bit last y (suc (suc zero)) f l = let e : (last / 2 + 128 * y) / 16 % 2 ≡ last / 32 % 2 = omega arith in ap (λ z. eqb z 1) e
moved_bit last y (suc (suc (suc zero))) f l = let e : (last / 2 + 128 * y) / 8 % 2 ≡ last / 16 % 2 = omega arith in ap (λ z. eqb z 1) e
moved_bit last y (suc (suc (suc (suc zero)))) f l = let e : (last / 2 + 128 * y) / 4 % 2 ≡ last / 8 % 2 = omega arith in ap (λ z. eqb z 1) e
moved_bit last y (suc (suc (suc (suc (suc zero))))) f l = let e : (last / 2 + 128 * y) / 2 % 2 ≡ last / 4 % 2 = omega arith in ap (λ z. eqb z 1) e
moved_bit last y (suc (suc (suc (suc (suc (suc zero)))))) f l = let e : (last / 2 + 128 * y) / 1 % 2 ≡ last / 2 % 2 = omega arith in ap (λ z. eqb z 1) e
moved_bit last y (suc (suc (suc (suc (suc (suc (suc j))))))) f l = absurd (omega arith)

pub traced_more : (bits : List Bool) (from next last now : ℕ) (bytes : List ℕ) → next ≡ from + 1 → last < 256 → now < 64 → is_set now 5 ≡ bit bits from → IsTraced bits next last bytes → from / 8 < length bytes
    → IsTraced bits from (last / 2 + 128 * (now / 32)) (set bytes (from / 8) (last / 2 + 128 * (now / 32)))
traced_more bits from next last now bytes e f g b t w = record { last_is = last_is; bytes_are = λ c j l h m. byte_is c j l h m (cases_eq c (from / 8)) }
  where
    last_is : (j : ℕ) → j < 8 → from + j < length bits → is_set (last / 2 + 128 * (now / 32)) (7 - j) ≡ bit bits (from + j)
    last_is zero l m = let p : from ≡ from + 0 = omega arith in newest_bit last now f g ∙ b ∙ ap (bit bits) p
    last_is (suc j) l m = let p : next + j ≡ from + suc j = omega (arith, e) in moved_bit last (now / 32) j f (omega arith) ∙ t.last_is j (omega arith) (omega (arith, m, e)) ∙ ap (bit bits) p

    byte_is : (c j : ℕ) → j < 8 → from ≤ 8 * c → 8 * c + j < length bits → (c ≡ from / 8) ⊎ (c ≡ from / 8 → ⊥) → is_set (get_or (set bytes (from / 8) (last / 2 + 128 * (now / 32))) c 0) (7 - j) ≡ bit bits (8 * c + j)
    byte_is c j l h m (inl p) =
        let q : from + j ≡ 8 * c + j = omega (arith, p, h) in
        ap (λ z. is_set z (7 - j)) (ap (λ z. get_or (set bytes (from / 8) (last / 2 + 128 * (now / 32))) z 0) p ∙ get_or-set_same bytes (from / 8) (last / 2 + 128 * (now / 32)) 0 w) ∙ last_is j l (omega (arith, m, q)) ∙ ap (bit bits) q
    byte_is c j l h m (inr p) =
        let q : next ≤ 8 * c = omega (arith, e, h, p) in
        ap (λ z. is_set z (7 - j)) (get_or-set_other bytes (from / 8) c (last / 2 + 128 * (now / 32)) 0 p) ∙ t.bytes_are c j l q m

-- bit i of those of the words, from a position on
pub bit_there : (bits : List Bool) (words : List ℕ) (place state i now : ℕ) → take (length words) (drop place bits) ≡ trace words state → i < length words → now ≡ root (drop (suc i) words) state → is_set now 5 ≡ bit bits (place + i)
bit_there bits words place state i now e l n =
    ap (λ z. is_set z 5) n ∙ sym (trace_bit words state i l) ∙ ap (λ z. get_or z i false) (sym e) ∙ get_or-take (length words) (drop place bits) i false l ∙ get_or-drop place bits i false

pub none_traced : (bits : List Bool) (from last : ℕ) (bytes : List ℕ) → length bits ≤ from → IsTraced bits from last bytes
none_traced bits from last bytes l = record { last_is = λ j m n. absurd (omega (arith, l, n)); bytes_are = λ b j m h n. absurd (omega (arith, l, h, n)) }

pub root_more : (words : List ℕ) (state k now new : ℕ) → k < length words → now ≡ root (drop (length words - k) words) state → new ≡ before (slice_index words (length words - 1 - k)) now → new ≡ root (drop (length words - (k + 1)) words) state
root_more words state k now new l e f =
    let i = length words - 1 - k in
    let p : length words - k ≡ suc i = omega (arith, l) in
    let q : length words - (k + 1) ≡ i = omega (arith, l) in
    f ∙ ap (before (slice_index words i)) (e ∙ ap (λ z. root (drop z words) state) p) ∙ sym (ap (λ z. root z state) (ap (λ z. drop z words) q ∙ drop_one words i (omega (arith, l))))

pub part_more : (bits : List Bool) (words : List ℕ) (place state k last now : ℕ) (bytes : List ℕ) → take (length words) (drop place bits) ≡ trace words state → k < length words → now ≡ root (drop (length words - k) words) state → now < 64 → last < 256
    → (place + (length words - 1 - k)) / 8 < length bytes → IsTraced bits (place + (length words - k)) last bytes
    → IsTraced bits (place + (length words - (k + 1))) (last / 2 + 128 * (now / 32)) (set bytes ((place + (length words - 1 - k)) / 8) (last / 2 + 128 * (now / 32)))
part_more bits words place state k last now bytes e l f g h w t =
    let i = length words - 1 - k in
    let p : length words - k ≡ suc i = omega (arith, l) in
    let q : place + i ≡ place + (length words - (k + 1)) = omega (arith, l) in
    subst (λ z. IsTraced bits z (last / 2 + 128 * (now / 32)) (set bytes ((place + i) / 8) (last / 2 + 128 * (now / 32)))) q
    (traced_more bits (place + i) (place + (length words - k)) last now bytes (omega (arith, l)) h g (bit_there bits words place state i now e (omega (arith, l)) (f ∙ ap (λ z. root (drop z words) state) p)) t w)

-- three parts: the words of a ring in two slices, and those after it
pub three_traced : (older newer items more : List ℕ) (count state after between last byte end : ℕ) (old mid mid2 new : List ℕ) → older ++ newer ≡ items → count ≡ length items → after ≡ root more state → between ≡ root newer after → length items + length more ≤ 2056 → length new ≡ 257
    → ((bits : List Bool) → take (length more) (drop count bits) ≡ trace more state → IsTraced bits (count + length more) 0 old → IsTraced bits count last mid)
    → ((bits : List Bool) → take (length newer) (drop (length older) bits) ≡ trace newer after → IsTraced bits (length older + length newer) last mid → IsTraced bits (length older) byte mid2)
    → ((bits : List Bool) → take (length older) (drop 0 bits) ≡ trace older between → IsTraced bits (0 + length older) byte mid2 → IsTraced bits 0 end new) → take (length (items ++ more)) (bits_of_bytes new) ≡ trace (items ++ more) state
three_traced older newer items more count state after between last byte end old mid mid2 new e r a b f s o p q =
    let bits = trace (items ++ more) state in
    let n : length bits ≡ length (items ++ more) = trace_length (items ++ more) state in
    let m : length older + length newer ≡ count = omega (arith, length-append older newer, ap length e, r) in
    let k : length (items ++ more) ≡ length items + length more = length-append items more in
    let split : bits ≡ trace items after ++ trace more state = trace_append items more state ∙ ap (λ z. trace items z ++ trace more state) (sym a) in
    let both : trace items after ≡ trace older between ++ trace newer after = ap (λ z. trace z after) (sym e) ∙ trace_append older newer after ∙ ap (λ z. trace older z ++ trace newer after) (sym b) in
    let three : bits ≡ trace older between ++ (trace newer after ++ trace more state) = split ∙ ap (λ z. z ++ trace more state) both ∙ append_assoc (trace older between) (trace newer after) (trace more state) in
    let first : take (length older) bits ≡ trace older between = ap₂ take (sym (trace_length older between)) three ∙ take-append_seam (trace older between) (trace newer after ++ trace more state) in
    let rest : drop (length older) bits ≡ trace newer after ++ trace more state = ap₂ drop (sym (trace_length older between)) three ∙ drop-append_seam (trace older between) (trace newer after ++ trace more state) in
    let second : take (length newer) (drop (length older) bits) ≡ trace newer after = ap₂ take (sym (trace_length newer after)) rest ∙ take-append_seam (trace newer after) (trace more state) in
    let tail : drop count bits ≡ trace more state = ap₂ drop (r ∙ sym (trace_length items after)) split ∙ drop-append_seam (trace items after) (trace more state) in
    let whole : take (length more) (trace more state) ≡ trace more state = take_all (length more) (trace more state) (omega (arith, trace_length more state)) in
    let z : length older ≡ 0 + length older = omega arith in
    let t = o bits (ap (take (length more)) tail ∙ whole) (none_traced bits (count + length more) 0 old (omega (arith, n, k, r))) in
    let u = p bits second (subst (λ x. IsTraced bits x last mid) (sym m) t) in
    let v = q bits first (subst (λ x. IsTraced bits x byte mid2) z u) in
    ap (λ x. take x (bits_of_bytes new)) (sym n) ∙ traced_all bits end new v (omega (arith, n, k, f, s))

-- ---- appended bits

pub first_more : (byte k : ℕ) (to now new : List Bool) (b : Bool) → k < 8 → now ≡ to ++ take k (spelled 8 byte) → new ≡ now ++ b ∷ [] → b ≡ is_set byte (7 - k) → new ≡ to ++ take (k + 1) (spelled 8 byte)
first_more byte k to now new b l e f g =
    f ∙ ap₂ (λ x y. x ++ y ∷ []) e (g ∙ sym (spelled_at byte k l)) ∙ append_assoc to (take k (spelled 8 byte)) (get_or (spelled 8 byte) k false ∷ []) ∙ ap (λ z. to ++ z) (sym (take_more (spelled 8 byte) k false l))
