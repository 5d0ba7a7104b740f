-- The bytes of a packet.
use Rattle.std.proofs.Common.{◌≡◌, ℕ, zero, suc, ◌+◌, ◌-◌, ◌*◌, ◌/◌, ◌%◌, ◌^◌, ◌<◌, List, [], ◌∷◌, ◌++◌, map, set, get_or, take, refl, ap, ap₂, ◌∙◌, arith}
use Rattle.std.specs.Prelude.{bit_and, replicate, Bool, true, false, cond, ◌==◌}
use borrow.Rule.Slice.PartMut.{put_mid}
use Rattle.std.specs.Int.{w32, byte_at, to_le_bytes}
use Rattle.std.specs.List.{range_with_len}
use Rattle.std.proofs.Math.Nat.{mod-lt}
use Rattle.std.proofs.lemmas.Nat.{and_mask}
use Rattle.std.proofs.lemmas.List.{append-nil}
use Rattle.std.proofs.lemmas.List.Elements.{All-map}
use Rattle.std.proofs.lemmas.List.FromFn.{take-map-range_with_len}
use Rattle.rand_core.specs.Steps.{word_bytes}
use Rattle.rand_pcg.specs.Lcg.{Lcg}
use Rattle.rand_pcg.specs.Pcg.{pcg32}
use Rattle.load_gen.specs.Draws.{after, word, byte_of, packet_byte, packet_of}
use Rattle.load_gen.specs.Laws.{PacketsAreSound, PacketsAreBytes}
use Rattle.load_gen.proofs.Steps.{draws_add, after_none, after_one, first_word}

-- a list over numbers, in two parts
split : (f : ℕ → ℕ) (n a m : ℕ) → map f (range_with_len a n) ++ map f (range_with_len (a + n) m) ≡ map f (range_with_len a (n + m))
split f zero a m =
    let e : a + 0 ≡ a = omega arith in
    let e' : m ≡ 0 + m = omega arith in
    ap (λ (b : ℕ). map f (range_with_len b m)) e ∙ ap (λ (k : ℕ). map f (range_with_len a k)) e'
split f (suc n) a m =
    let e : a + suc n ≡ a + 1 + n = omega arith in
    let e' : suc (n + m) ≡ suc n + m = omega arith in
    ap (λ (b : ℕ). f a ∷ (map f (range_with_len (a + 1) n) ++ map f (range_with_len b m))) e
    ∙ ap (λ (xs : List ℕ). f a ∷ xs) (split f n (a + 1) m)
    ∙ ap (λ (k : ℕ). map f (range_with_len a k)) e'

-- byte j of word k
byte_at_is : (j n : ℕ) → byte_at j n ≡ n / 256 ^ j % 256
byte_at_is zero n = omega arith
byte_at_is (suc j) n = refl

byte_is : (g : Lcg) (k j i : ℕ) → j < 4 → i ≡ 4 * k + j → byte_at j (word (after k g)) ≡ byte_of g i
byte_is g k j i lt is =
    let e : j ≡ i % 4 = omega arith in
    let e' : k ≡ i / 4 = omega arith in
    byte_at_is j (word (after k g)) ∙ ap₂ (λ (b m : ℕ). word (after m g) / 256 ^ b % 256) e e'

four : (g : Lcg) (k a : ℕ) → a ≡ 4 * k → to_le_bytes w32 (word (after k g)) ≡ map (byte_of g) (range_with_len a 4)
four g k a is =
    ap₂ (λ (b : ℕ) (bs : List ℕ). b ∷ bs) (byte_is g k 0 a (omega arith) (omega arith))
    (ap₂ (λ (b : ℕ) (bs : List ℕ). b ∷ bs) (byte_is g k 1 (a + 1) (omega arith) (omega arith))
    (ap₂ (λ (b : ℕ) (bs : List ℕ). b ∷ bs) (byte_is g k 2 (a + 1 + 1) (omega arith) (omega arith))
    (ap (λ (b : ℕ). b ∷ []) (byte_is g k 3 (a + 1 + 1 + 1) (omega arith) (omega arith)))))

-- one more word
more_bytes : (g : Lcg) (k : ℕ) → map (byte_of g) (range_with_len 0 (4 * k)) ++ to_le_bytes w32 (pcg32 (after k g)).0 ≡ map (byte_of g) (range_with_len 0 (4 * suc k))
more_bytes g k =
    let e : 4 * k + 4 ≡ 4 * suc k = omega arith in
    let e' : 0 + 4 * k ≡ 4 * k = omega arith in
    ap (λ (n : ℕ). map (byte_of g) (range_with_len 0 (4 * k)) ++ to_le_bytes w32 n) (first_word (after k g))
    ∙ ap (λ (bs : List ℕ). map (byte_of g) (range_with_len 0 (4 * k)) ++ bs) (four g k (0 + 4 * k) e')
    ∙ split (byte_of g) (4 * k) 0 4
    ∙ ap (λ (n : ℕ). map (byte_of g) (range_with_len 0 n)) e

more_after : (g : Lcg) (k : ℕ) → (pcg32 (after k g)).1 ≡ after (suc k) g
more_after g k =
    let e : k + 1 ≡ suc k = omega arith in
    after_one (after k g) ∙ draws_add 1 k g ∙ ap (λ (n : ℕ). after n g) e

-- the bytes of k words, and the generator after them
pub words_are : (k : ℕ) (g : Lcg) → word_bytes (to_le_bytes w32) pcg32 k g ≡ (map (byte_of g) (range_with_len 0 (4 * k)), after k g)
unfolding word_bytes
words_are zero g = ap (λ (h : Lcg). ([], h)) (after_none g)
words_are (suc k) g =
    ap (λ (p : List ℕ × Lcg). (p.0 ++ to_le_bytes w32 (pcg32 p.1).0, (pcg32 p.1).1)) (words_are k g)
    ∙ ap₂ (λ (bs : List ℕ) (h : Lcg). (bs, h)) (more_bytes g k) (more_after g k)

-- the first 187 bytes of 47 words
pub filled : (g : Lcg) → take 187 (word_bytes (to_le_bytes w32) pcg32 47 g).0 ≡ map (byte_of g) (range_with_len 0 187)
filled g =
    ap (λ (p : List ℕ × Lcg). take 187 p.0) (words_are 47 g)
    ∙ take-map-range_with_len (byte_of g) 0 188 187 (omega arith)

pub drawn : (g : Lcg) → (word_bytes (to_le_bytes w32) pcg32 47 g).1 ≡ after 47 g
drawn g = ap (λ (p : List ℕ × Lcg). p.1) (words_are 47 g)

-- a list whose rest is written
pub put_behind : (ys zs : List ℕ) → ys ≡ zs → put_mid 1 187 (replicate 188 0x47) ys ≡ 0x47 ∷ zs
put_behind ys zs is = ap (λ (l : List ℕ). 0x47 ∷ l) (append-nil ys ∙ is)

-- the sync byte first, and the bit cleared
pub cleared : (g : Lcg) (bytes : List ℕ) → bytes ≡ 0x47 ∷ map (byte_of g) (range_with_len 0 187) → set bytes 1 (bit_and (get_or bytes 1 0) 127) ≡ packet_of g
unfolding packet_of
cleared g bytes is =
    ap (λ (bs : List ℕ). set bs 1 (bit_and (get_or bs 1 0) 127)) is
    ∙ ap (λ (b : ℕ). 0x47 ∷ b ∷ map (byte_of g) (range_with_len 1 186)) (and_mask (byte_of g 0) 7)

byte_small : (n : ℕ) → n % 256 < 256
byte_small n = mod-lt n (omega arith)

one_of_three_small : (b c : Bool) (x y z : ℕ) → x < 256 → y < 256 → z < 256 → cond b x (cond c y z) < 256
one_of_three_small true c x y z p q r = p
one_of_three_small false true x y z p q r = q
one_of_three_small false false x y z p q r = r

packet_byte_small : (g : Lcg) (i : ℕ) → packet_byte g i < 256
packet_byte_small g i =
    let first : byte_of g 0 % 128 < 256 = omega (arith, mod-lt (byte_of g 0) (let e : 0 < 128 = omega arith in e)) in
    one_of_three_small (i == 0) (i == 1) 0x47 (byte_of g 0 % 128) (byte_of g (i - 1)) (omega arith) first (byte_small (word (after ((i - 1) / 4) g) / 256 ^ ((i - 1) % 4)))

pub sound : PacketsAreSound
unfolding packet_of
sound g = record { length = refl; sync = refl }

pub bytes : PacketsAreBytes
unfolding packet_of
bytes g k d lt = All-map (λ (b : ℕ). b < 256) (packet_byte g) (range_with_len 0 188) (λ j e within. packet_byte_small g (get_or (range_with_len 0 188) j e)) k d lt
