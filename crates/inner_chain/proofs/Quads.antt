-- Labels of six bits out of the parities of four steps a word.
use Rattle.std.proofs.Common.{◌≡◌, map, replicate, get_or, ℕ, zero, suc, ◌+◌, ◌-◌, ◌*◌, ◌/◌, ◌%◌, ◌^◌, ◌<◌, ◌≤◌, ◌≢◌, ◌⊎◌, inl, inr, Bool, true, false, cond, List, [], ◌∷◌, ◌++◌, append_assoc, length, set, take, refl, sym, ap, ◌∙◌, subst, arith, eqb}
use Rattle.std.specs.Prelude.{slice_index, slice_index_or, IsTrue}
use Rattle.std.specs.Int.{bit_at}
use mir.Val.{bool_byte}
use Rattle.std.proofs.lemmas.Bool.{cases_lt}
use Rattle.std.proofs.lemmas.Nat.Bits.{bit_at_cat_low, bit_at_cat_high}
use Rattle.std.proofs.lemmas.List.{get_or_append_left, get_or_push, length_push, get_or-set_same, get_or-set_other, length-set, get_or-map, get_or-take}
use Rattle.std.proofs.lemmas.Simd.{bitmask_splat, bit_mask_l}
use lib.Lanes.{mask_l, top, zip2}
use mir.Syntax.{w8}
use Rattle.spec_words.specs.Bits.{is_set}
use Rattle.mode_set.specs.StreamTable.{payload, label_bits, width, coded, has_stream, sent_in_period, steps_in_period}
use Rattle.mode_set.specs.declared.modes.Mode.{Mode}
use Rattle.mode_set.specs.declared.modes.Mode.TheVariants.{M2k, M8k}
use Rattle.mode_set.specs.declared.modes.Shape.{Shape}
use Rattle.mode_set.specs.declared.modes.Shape.TheVariants.{Qam64}
use Rattle.mode_set.specs.declared.modes.Hierarchy.{Hierarchy}
use Rattle.mode_set.specs.declared.modes.Hierarchy.TheVariants.{Flat}
use Rattle.mode_set.specs.declared.modes.Rate.{Rate}
use Rattle.mode_set.specs.declared.modes.Rate.TheVariants.{R2of3}
use Rattle.mode_set.specs.declared.modes.Stream.{Stream}
use Rattle.mode_set.specs.declared.modes.Stream.TheVariants.{Hp}
use Rattle.mode_set.specs.declared.settings.Settings.{Settings}
use Rattle.puncture.specs.SentBits.{X, Y, sent, sent_bit}
use Rattle.bit_interleave.specs.Place.{offset, place_in_label, word_of_bit, stream_at, EachBitIsFound}
use Rattle.symbol_interleave.specs.Carried.{carried}
use Rattle.inner_chain.specs.Labels.{Paths, coded_bits, parity_at, number_at, label_bit, word_bit, AppendsLabels, AreWordLabels}
use Rattle.inner_chain.specs.Tables.{first_step, read_bit, AreAllParities, IsEntry, AreGathered, AreWordEntries, most_steps}
use Rattle.inner_chain.specs.Fours.{turned, parity_place, ArePacked, AreTurned, AppendsCarried}
use Rattle.inner_chain.proofs.SentBits.{reads}
use Rattle.inner_chain.proofs.Entering.{IsGoodEntry, good_entry}
use Rattle.inner_chain.proofs.Symbols.{label_is}

-- ---- bytes of a number
byte_bit : (n k : ℕ) → k < 8 → is_set (n % 256) k ≡ is_set n k
byte_bit n k l = ap (λ (z : ℕ). eqb z 1) (sym (bit_at_cat_low (n / 256) 8 (n % 256) k l) ∙ ap (λ (z : ℕ). bit_at z k) (let e : n / 256 * 256 + n % 256 ≡ n = omega arith in e))

higher_bit : (n k : ℕ) → is_set (n / 256) k ≡ is_set n (k + 8)
higher_bit n k =
    let small : n % 256 < 256 = omega arith in
    let place : k + 8 - 8 ≡ k = omega arith in
    ap (λ (z : ℕ). eqb z 1) (sym (ap (bit_at (n / 256)) place) ∙ sym (bit_at_cat_high (n / 256) 8 (n % 256) (k + 8) small (omega arith)) ∙ ap (λ (z : ℕ). bit_at z (k + 8)) (let e : n / 256 * 256 + n % 256 ≡ n = omega arith in e))

pub first_byte : (n i : ℕ) → i < 8 → is_set (n % 256) i ≡ is_set n (8 * 0 + i)
first_byte n i l = let place : i ≡ 8 * 0 + i = omega arith in byte_bit n i l ∙ ap (is_set n) place

pub second_byte : (n i : ℕ) → i < 8 → is_set (n / 256 % 256) i ≡ is_set n (8 * 1 + i)
second_byte n i l = let place : i + 8 ≡ 8 * 1 + i = omega arith in byte_bit (n / 256) i l ∙ higher_bit n i ∙ ap (is_set n) place

pub third_byte : (n i : ℕ) → i < 8 → is_set (n / 256 / 256 % 256) i ≡ is_set n (8 * 2 + i)
third_byte n i l = let place : i + 8 + 8 ≡ 8 * 2 + i = omega arith in byte_bit (n / 256 / 256) i l ∙ higher_bit (n / 256) i ∙ higher_bit n (i + 8) ∙ ap (is_set n) place

pub fourth_byte : (n i : ℕ) → i < 8 → is_set (n / 256 / 256 / 256 % 256) i ≡ is_set n (8 * 3 + i)
fourth_byte n i l = let place : i + 8 + 8 + 8 ≡ 8 * 3 + i = omega arith in byte_bit (n / 256 / 256 / 256) i l ∙ higher_bit (n / 256 / 256) i ∙ higher_bit (n / 256) (i + 8) ∙ higher_bit n (i + 8 + 8) ∙ ap (is_set n) place

-- ---- 32 bits at once
one : (b : Bool) → eqb (cond b 1 0) 1 ≡ b
one true = refl
one false = refl

pub gathered_bits : (xs : List ℕ) → length xs ≡ 32 → (k : ℕ) → k < 32 → is_set (mask_l (map (top 7) (zip2 (λ a b. cond (eqb a b) 255 0) xs (replicate 32 1))) % 2 ^ 64) k ≡ eqb (slice_index xs k) 1
gathered_bits xs long k l =
    ap (λ (w : ℕ). is_set w k) (bitmask_splat w8 eqb xs 32 1 long (omega arith)) ∙ ap (λ (z : ℕ). eqb z 1) (bit_mask_l (map (λ x. eqb x 1) xs) k)
    ∙ one (get_or (map (λ x. eqb x 1) xs) k false) ∙ get_or-map (λ x. eqb x 1) xs k 0 false (omega (arith, long, l))

pub ones_more : (xs : List Bool) (ones : List ℕ) (first k : ℕ) → k < length ones → ((j : ℕ) → j < k → slice_index ones j ≡ bool_byte (read_bit xs (first + j)))
    → (j : ℕ) → j < k + 1 → slice_index (set ones k (bool_byte (read_bit xs (first + k)))) j ≡ bool_byte (read_bit xs (first + j))
ones_more xs ones first k within before j l = go (cases_lt j k)
  where
    v : ℕ
    v = bool_byte (read_bit xs (first + k))

    go : (j < k) ⊎ (k ≤ j) → slice_index (set ones k v) j ≡ bool_byte (read_bit xs (first + j))
    go (inl less) = let apart : j ≢ k = omega (arith, less) in get_or-set_other ones k j v 0 apart ∙ before j less
    go (inr past) =
        let same : k ≡ j = omega (arith, l, past) in
        ap (slice_index (set ones k v)) (sym same) ∙ get_or-set_same ones k v 0 within ∙ ap (λ (z : ℕ). bool_byte (read_bit xs (first + z))) same

-- the four bytes of a number that are written
pub four_put : (xs : List ℕ) (p n : ℕ) → p + 4 ≤ length xs → (j i : ℕ) → j < 4 → i < 8
    → is_set (slice_index (set (set (set (set xs p (n % 256)) (p + 1) (n / 256 % 256)) (p + 2) (n / 256 / 256 % 256)) (p + 3) (n / 256 / 256 / 256 % 256)) (p + j)) i ≡ is_set n (8 * j + i)
four_put xs p n room j i l m = go j l
  where
    a : ℕ
    a = n % 256

    b : ℕ
    b = n / 256 % 256

    c : ℕ
    c = n / 256 / 256 % 256

    d : ℕ
    d = n / 256 / 256 / 256 % 256

    x1 : List ℕ
    x1 = set xs p a

    x2 : List ℕ
    x2 = set x1 (p + 1) b

    x3 : List ℕ
    x3 = set x2 (p + 2) c

    long1 : length x1 ≡ length xs
    long1 = length-set xs p a

    long2 : length x2 ≡ length xs
    long2 = length-set x1 (p + 1) b ∙ long1

    long3 : length x3 ≡ length xs
    long3 = length-set x2 (p + 2) c ∙ long2

    at0 : slice_index (set x3 (p + 3) d) (p + 0) ≡ a
    at0 =
        let u : p + 0 ≢ p + 3 = omega arith in
        let v : p + 0 ≢ p + 2 = omega arith in
        let w : p + 0 ≢ p + 1 = omega arith in
        let same : p + 0 ≡ p = omega arith in
        get_or-set_other x3 (p + 3) (p + 0) d 0 u ∙ get_or-set_other x2 (p + 2) (p + 0) c 0 v ∙ get_or-set_other x1 (p + 1) (p + 0) b 0 w
        ∙ ap (slice_index x1) same ∙ get_or-set_same xs p a 0 (omega (arith, room))

    at1 : slice_index (set x3 (p + 3) d) (p + 1) ≡ b
    at1 =
        let u : p + 1 ≢ p + 3 = omega arith in
        let v : p + 1 ≢ p + 2 = omega arith in
        get_or-set_other x3 (p + 3) (p + 1) d 0 u ∙ get_or-set_other x2 (p + 2) (p + 1) c 0 v ∙ get_or-set_same x1 (p + 1) b 0 (omega (arith, room, long1))

    at2 : slice_index (set x3 (p + 3) d) (p + 2) ≡ c
    at2 = let u : p + 2 ≢ p + 3 = omega arith in get_or-set_other x3 (p + 3) (p + 2) d 0 u ∙ get_or-set_same x2 (p + 2) c 0 (omega (arith, room, long2))

    at3 : slice_index (set x3 (p + 3) d) (p + 3) ≡ d
    at3 = get_or-set_same x3 (p + 3) d 0 (omega (arith, room, long3))

    go : (j : ℕ) → j < 4 → is_set (slice_index (set x3 (p + 3) d) (p + j)) i ≡ is_set n (8 * j + i)
    go zero l = ap (λ (z : ℕ). is_set z i) at0 ∙ first_byte n i m
    go (suc zero) l = ap (λ (z : ℕ). is_set z i) at1 ∙ second_byte n i m
    go (suc (suc zero)) l = ap (λ (z : ℕ). is_set z i) at2 ∙ third_byte n i m
    go (suc (suc (suc zero))) l = ap (λ (z : ℕ). is_set z i) at3 ∙ fourth_byte n i m
    go (suc (suc (suc (suc j)))) l = absurd (omega (arith, l))

-- ---- a block twice
pub doubled_more : (bytes twice : List ℕ) (first k : ℕ) → k < 126 → length twice ≡ 252
    → ((i : ℕ) → i < k → (slice_index twice i ≡ slice_index bytes (first + i)) × (slice_index twice (126 + i) ≡ slice_index bytes (first + i)))
    → (i : ℕ) → i < k + 1
    → (slice_index (set (set twice k (slice_index bytes (first + k))) (126 + k) (slice_index bytes (first + k))) i ≡ slice_index bytes (first + i))
    × (slice_index (set (set twice k (slice_index bytes (first + k))) (126 + k) (slice_index bytes (first + k))) (126 + i) ≡ slice_index bytes (first + i))
doubled_more bytes twice first k few long before i l = go (cases_lt i k)
  where
    v : ℕ
    v = slice_index bytes (first + k)

    x1 : List ℕ
    x1 = set twice k v

    new : List ℕ
    new = set x1 (126 + k) v

    far : i ≢ 126 + k
    far = omega (arith, l, few)

    go : (i < k) ⊎ (k ≤ i) → (slice_index new i ≡ slice_index bytes (first + i)) × (slice_index new (126 + i) ≡ slice_index bytes (first + i))
    go (inl less) =
        let u : i ≢ k = omega (arith, less) in
        let w : 126 + i ≢ 126 + k = omega (arith, less) in
        let x : 126 + i ≢ k = omega (arith, few) in (
          get_or-set_other x1 (126 + k) i v 0 far ∙ get_or-set_other twice k i v 0 u ∙ (before i less).0,
          get_or-set_other x1 (126 + k) (126 + i) v 0 w ∙ get_or-set_other twice k (126 + i) v 0 x ∙ (before i less).1,
        )
    go (inr past) =
        let same : k ≡ i = omega (arith, l, past) in
        let back : i ≡ k = sym same in
        let shifted : 126 + i ≡ 126 + k = omega (arith, same) in
        let value : v ≡ slice_index bytes (first + i) = ap (λ (z : ℕ). slice_index bytes (first + z)) same in (
          get_or-set_other x1 (126 + k) i v 0 far ∙ ap (slice_index x1) back ∙ get_or-set_same twice k v 0 (omega (arith, few, long)) ∙ value,
          ap (slice_index new) shifted ∙ get_or-set_same x1 (126 + k) v 0 (omega (arith, few, long, length-set twice k v)) ∙ value,
        )

pub doubled_is : (bytes twice : List ℕ) (first : ℕ) → ((i : ℕ) → i < 126 → (slice_index twice i ≡ slice_index bytes (first + i)) × (slice_index twice (126 + i) ≡ slice_index bytes (first + i)))
    → (k : ℕ) → k < 252 → slice_index twice k ≡ slice_index bytes (first + k % 126)
doubled_is bytes twice first is k l = go (cases_lt k 126)
  where
    go : (k < 126) ⊎ (126 ≤ k) → slice_index twice k ≡ slice_index bytes (first + k % 126)
    go (inl less) = let place : first + k ≡ first + k % 126 = omega (arith, less) in (is k less).0 ∙ ap (slice_index bytes) place
    go (inr past) =
        let i : ℕ = k - 126 in
        let same : k ≡ 126 + i = omega (arith, past) in
        let place : first + i ≡ first + k % 126 = omega (arith, past, l) in
        ap (slice_index twice) same ∙ (is i (omega (arith, past, l))).1 ∙ ap (slice_index bytes) place

-- the six bits of a label
pub six_bits : (twice : List ℕ) (j label : ℕ) → is_set label 0 ≡ is_set (slice_index twice j) 0 → is_set label 1 ≡ is_set (slice_index twice (j + 63)) 4 → is_set label 2 ≡ is_set (slice_index twice (j + 105)) 1
    → is_set label 3 ≡ is_set (slice_index twice (j + 42)) 5 → is_set label 4 ≡ is_set (slice_index twice (j + 21)) 3 → is_set label 5 ≡ is_set (slice_index twice (j + 84)) 7
    → (e : ℕ) → e < 6 → is_set label e ≡ is_set (slice_index twice (j + offset e)) (parity_place e)
six_bits twice j label b0 b1 b2 b3 b4 b5 zero l = let place : j ≡ j + 0 = omega arith in b0 ∙ ap (λ (z : ℕ). is_set (slice_index twice z) 0) place
six_bits twice j label b0 b1 b2 b3 b4 b5 (suc zero) l = b1
six_bits twice j label b0 b1 b2 b3 b4 b5 (suc (suc zero)) l = b2
six_bits twice j label b0 b1 b2 b3 b4 b5 (suc (suc (suc zero))) l = b3
six_bits twice j label b0 b1 b2 b3 b4 b5 (suc (suc (suc (suc zero)))) l = b4
six_bits twice j label b0 b1 b2 b3 b4 b5 (suc (suc (suc (suc (suc zero))))) l = b5
six_bits twice j label b0 b1 b2 b3 b4 b5 (suc (suc (suc (suc (suc (suc e)))))) l = absurd (omega (arith, l))

-- ---- packed bits
pub none_packed : (xs : List Bool) (bytes : List ℕ) → ArePacked xs (4 * 0) bytes
none_packed xs bytes = record { at = λ k i l m. absurd (omega (arith, l)) }

-- four bytes more
pub packed_more : (xs : List Bool) (g : ℕ) (ones old new : List ℕ) (number : ℕ) → ArePacked xs (4 * g) old
    → ((k : ℕ) → k < 32 → slice_index ones k ≡ bool_byte (read_bit xs (32 * g + k)))
    → ((k : ℕ) → k < 32 → is_set number k ≡ eqb (slice_index ones k) 1)
    → ((j i : ℕ) → j < 4 → i < 8 → is_set (slice_index new (4 * g + j)) i ≡ is_set number (8 * j + i))
    → ((k : ℕ) → k < 4 * g → slice_index new k ≡ slice_index old k)
    → ArePacked xs (4 * (g + 1)) new
packed_more xs g ones old new number p ones_are bits here before = record { at = at }
  where
    bit_is : (b : Bool) → eqb (bool_byte b) 1 ≡ b
    bit_is true = refl
    bit_is false = refl

    at : (k i : ℕ) → k < 4 * (g + 1) → i < 8 → is_set (slice_index new k) i ≡ read_bit xs (8 * k + i)
    at k i l m = go (cases_lt k (4 * g))
      where
        go : (k < 4 * g) ⊎ (4 * g ≤ k) → is_set (slice_index new k) i ≡ read_bit xs (8 * k + i)
        go (inl less) = ap (λ (z : ℕ). is_set z i) (before k less) ∙ p.at k i less m
        go (inr past) =
            let j : ℕ = k - 4 * g in
            let few : j < 4 = omega (arith, l, past) in
            let within : 8 * j + i < 32 = omega (arith, few, m) in
            let same : k ≡ 4 * g + j = omega (arith, past) in
            let place : 32 * g + (8 * j + i) ≡ 8 * k + i = omega (arith, past) in
            ap (λ (z : ℕ). is_set (slice_index new z) i) same ∙ here j i few m ∙ bits (8 * j + i) within
            ∙ ap (λ (z : ℕ). eqb z 1) (ones_are (8 * j + i) within) ∙ bit_is (read_bit xs (32 * g + (8 * j + i))) ∙ ap (read_bit xs) place

-- ---- words
pub none_turned : (bytes words : List ℕ) → AreTurned bytes (126 * 0) words
none_turned bytes words = record { small = λ w l. absurd (omega (arith, l)); at = λ w e l m. absurd (omega (arith, l)) }

-- a word more
pub turned_more : (bytes words twice : List ℕ) (block j label : ℕ) → j < 126 → 126 * block + j < length words → AreTurned bytes (126 * block + j) words
    → ((k : ℕ) → k < 252 → slice_index twice k ≡ slice_index bytes (126 * block + k % 126))
    → label < 64 → ((e : ℕ) → e < 6 → is_set label e ≡ is_set (slice_index twice (j + offset e)) (parity_place e))
    → AreTurned bytes (126 * block + j + 1) (set words (126 * block + j) label)
turned_more bytes words twice block j label few within t doubled little bits = record { small = small; at = at }
  where
    n : ℕ
    n = 126 * block + j

    new : List ℕ
    new = set words n label

    here : slice_index new n ≡ label
    here = get_or-set_same words n label 0 within

    kept : (w : ℕ) → w < n → slice_index new w ≡ slice_index words w
    kept w l = let apart : w ≢ n = omega (arith, l) in get_or-set_other words n w label 0 apart

    small : (w : ℕ) → w < n + 1 → slice_index new w < 64
    small w l = go (cases_lt w n)
      where
        go : (w < n) ⊎ (n ≤ w) → slice_index new w < 64
        go (inl less) = subst (λ (z : ℕ). z < 64) (sym (kept w less)) (t.small w less)
        go (inr past) =
            let same : n ≡ w = omega (arith, l, past) in
            subst (λ (z : ℕ). slice_index new z < 64) same (subst (λ (z : ℕ). z < 64) (sym here) little)

    offset_small : (e : ℕ) → e < 6 → offset e < 126
    offset_small zero l = omega arith
    offset_small (suc zero) l = omega arith
    offset_small (suc (suc zero)) l = omega arith
    offset_small (suc (suc (suc zero))) l = omega arith
    offset_small (suc (suc (suc (suc zero)))) l = omega arith
    offset_small (suc (suc (suc (suc (suc zero))))) l = omega arith
    offset_small (suc (suc (suc (suc (suc (suc e)))))) l = absurd (omega (arith, l))

    place_is : (o : ℕ) → 126 * block + (j + o) % 126 ≡ 126 * (n / 126) + (n % 126 + o) % 126
    place_is o = omega (arith, few)

    last : (e : ℕ) → e < 6 → is_set label e ≡ is_set (slice_index bytes (turned e n)) (parity_place e)
    last e m =
        bits e m ∙ ap (λ (z : ℕ). is_set z (parity_place e)) (doubled (j + offset e) (omega (arith, few, offset_small e m)))
        ∙ ap (λ (z : ℕ). is_set (slice_index bytes z) (parity_place e)) (place_is (offset e))

    at : (w e : ℕ) → w < n + 1 → e < 6 → is_set (slice_index new w) e ≡ is_set (slice_index bytes (turned e w)) (parity_place e)
    at w e l m = go (cases_lt w n)
      where
        go : (w < n) ⊎ (n ≤ w) → is_set (slice_index new w) e ≡ is_set (slice_index bytes (turned e w)) (parity_place e)
        go (inl less) = ap (λ (z : ℕ). is_set z e) (kept w less) ∙ t.at w e less m
        go (inr past) =
            let same : n ≡ w = omega (arith, l, past) in
            subst (λ (z : ℕ). is_set (slice_index new z) e ≡ is_set (slice_index bytes (turned e z)) (parity_place e)) same
            (ap (λ (z : ℕ). is_set z e) here ∙ last e m)

-- ---- carrier order
pub none_carried : (words : List ℕ) (m : Mode) (odd : Bool) (old : List ℕ) → old ≡ old ++ [] → AppendsCarried words m odd 0 old old
none_carried words m odd old e = record { labels = []; is = e; long = refl; within = λ q l. absurd (omega (arith, l)); at = λ q l. absurd (omega (arith, l)) }

pub carried_more : (words : List ℕ) (m : Mode) (odd : Bool) (n : ℕ) (old mid new : List ℕ) (source : ℕ) → AppendsCarried words m odd n old mid → source ≡ carried m odd n → source < payload m
    → new ≡ mid ++ slice_index words source ∷ [] → AppendsCarried words m odd (n + 1) old new
carried_more words m odd n old mid new source a es inside e = record {
  labels = a.labels ++ x ∷ [];
  is = e ∙ ap (λ (zs : List ℕ). zs ++ x ∷ []) a.is ∙ append_assoc old a.labels (x ∷ []);
  long = length_push a.labels x ∙ ap (λ (z : ℕ). z + 1) a.long;
  within = within;
  at = at;
}
  where
    x : ℕ
    x = slice_index words source

    within : (q : ℕ) → q < n + 1 → carried m odd q < payload m
    within q l = go (cases_lt q n)
      where
        go : (q < n) ⊎ (n ≤ q) → carried m odd q < payload m
        go (inl less) = a.within q less
        go (inr past) = let same : n ≡ q = omega (arith, l, past) in subst (λ (z : ℕ). carried m odd z < payload m) same (subst (λ (z : ℕ). z < payload m) es inside)

    at : (q : ℕ) → q < n + 1 → slice_index (a.labels ++ x ∷ []) q ≡ slice_index words (carried m odd q)
    at q l = go (cases_lt q n)
      where
        go : (q < n) ⊎ (n ≤ q) → slice_index (a.labels ++ x ∷ []) q ≡ slice_index words (carried m odd q)
        go (inl less) = let within : q < length a.labels = omega (arith, less, a.long) in get_or_append_left a.labels (x ∷ []) 0 q within ∙ a.at q less
        go (inr past) =
            let same : n ≡ q = omega (arith, l, past) in
            let last : length a.labels ≡ q = a.long ∙ same in
            get_or_push a.labels x 0 q last ∙ ap (slice_index words) es ∙ ap (λ (z : ℕ). slice_index words (carried m odd z)) same

-- ---- the coded bits of a word bit e of word w is coded bit d, the parity of a step
pub bit_entry : (c : Shape) (r : Rate) (s : Settings) (e w d step n : ℕ) (y : Bool) → s.shape ≡ c → s.hierarchy ≡ Flat → s.rate_hp ≡ r → EachBitIsFound
    → Hp ≡ stream_at Flat e → place_in_label c Flat Hp d ≡ e → word_of_bit c Flat Hp d ≡ w → d < payload s.mode * width c Flat Hp
    → ((path : ℕ → Bool) → sent_bit r path d ≡ parity_at (cond y 1 0) path step) → ((p : ℕ) → d < p * sent_in_period r → step < p * steps_in_period r)
    → 2 * (0 + step) + bool_byte y ≡ n → IsEntry s e w n
bit_entry c r s e w d step n y ec eh er found eσ ep ew l reads_at within en =
    subst (λ (z : ℕ). IsEntry s e w z) en good.is
  where
    exists : IsTrue (has_stream s.hierarchy Hp)
    exists = refl

    stream : Hp ≡ stream_at s.hierarchy e
    stream = eσ ∙ ap (λ (h : Hierarchy). stream_at h e) (sym eh)

    place : place_in_label s.shape s.hierarchy Hp d ≡ e
    place = ap (λ (z : Shape). place_in_label z s.hierarchy Hp d) ec ∙ ap (λ (h : Hierarchy). place_in_label c h Hp d) eh ∙ ep

    word : word_of_bit s.shape s.hierarchy Hp d ≡ w
    word = ap (λ (z : Shape). word_of_bit z s.hierarchy Hp d) ec ∙ ap (λ (h : Hierarchy). word_of_bit c h Hp d) eh ∙ ew

    same : width s.shape s.hierarchy Hp ≡ width c Flat Hp
    same = ap (λ (z : Shape). width z s.hierarchy Hp) ec ∙ ap (λ (h : Hierarchy). width c h Hp) eh

    few : d < coded s Hp
    few = subst (λ (z : ℕ). d < payload s.mode * z) (sym same) l

    good : IsGoodEntry s e w 0 step y
    good = good_entry s e w Hp d 0 step y r stream exists place word few found (sym er) refl reads_at within

-- at rate 2/3 and six bits a word, that is coded bit 6 T + i, the parity of step 4 T + t
four_of : (s : Settings) (e w T i t n : ℕ) (y : Bool) → s.shape ≡ Qam64 → s.hierarchy ≡ Flat → s.rate_hp ≡ R2of3 → EachBitIsFound
    → Hp ≡ stream_at Flat e → place_in_label Qam64 Flat Hp (6 * T + i) ≡ e → word_of_bit Qam64 Flat Hp (6 * T + i) ≡ w → 6 * T + i < payload s.mode * 6
    → ((path : ℕ → Bool) → sent_bit R2of3 path (6 * T + i) ≡ parity_at (cond y 1 0) path (4 * T + t)) → ((p : ℕ) → 6 * T + i < p * 3 → 4 * T + t < p * 2)
    → 2 * (0 + (4 * T + t)) + bool_byte y ≡ n → IsEntry s e w n
four_of s e w T i t n y ec eh er found eσ ep ew l reads_at within en = bit_entry Qam64 R2of3 s e w (6 * T + i) (4 * T + t) n y ec eh er found eσ ep ew l reads_at within en

-- the parity that coded bit 6 T + i is
sent_is : (path : ℕ → Bool) (T i t j : ℕ) (y : Bool) → slice_index_or (sent R2of3) ((6 * T + i) % 3) (X 1) ≡ cond y (Y (j + 1)) (X (j + 1)) → (6 * T + i) / 3 * 2 + j ≡ 4 * T + t
    → sent_bit R2of3 path (6 * T + i) ≡ parity_at (cond y 1 0) path (4 * T + t)
sent_is path T i t j y e place = reads R2of3 path (6 * T + i) 3 3 2 j y refl refl refl e ∙ ap (parity_at (cond y 1 0) path) place

item : (T i k : ℕ) → (6 * T + i) % 3 ≡ k → slice_index_or (sent R2of3) ((6 * T + i) % 3) (X 1) ≡ slice_index_or (sent R2of3) k (X 1)
item T i k e = ap (λ (z : ℕ). slice_index_or (sent R2of3) z (X 1)) e

-- the word that the bit interleaver makes of it
word_is : (e T d w : ℕ) → d / 6 ≡ T → place_in_label Qam64 Flat Hp d ≡ e → 126 * (T / 126) + (T + 126 - offset e) % 126 ≡ w → word_of_bit Qam64 Flat Hp d ≡ w
word_is e T d w et ep ew =
    ap (λ (z : ℕ). 126 * (d / 6 / 126) + (d / 6 + 126 - offset z) % 126) ep
    ∙ ap (λ (z : ℕ). 126 * (z / 126) + (z + 126 - offset e) % 126) et ∙ ew

pub turned_small : (m : Mode) (w o : ℕ) → w < payload m → 126 * (w / 126) + (w % 126 + o) % 126 < payload m
turned_small M2k w o l = omega (arith, l)
turned_small M8k w o l = omega (arith, l)

pub entry_of_four : (s : Settings) (e w : ℕ) → s.shape ≡ Qam64 → s.hierarchy ≡ Flat → s.rate_hp ≡ R2of3 → EachBitIsFound → e < 6 → w < payload s.mode
    → IsEntry s e w (8 * turned e w + parity_place e)
entry_of_four s zero w ec eh er found l m =
    let T : ℕ = turned 0 w in
    let small : T < payload s.mode = turned_small s.mode w 0 m in
    let place : place_in_label Qam64 Flat Hp (6 * T + 0) ≡ 0 = omega arith in
    four_of s 0 w T 0 0 (8 * T + 0) false ec eh er found refl place (word_is 0 T (6 * T + 0) w (omega arith) place (omega arith)) (omega (arith, small))
    (λ path. sent_is path T 0 0 0 false (item T 0 0 (omega arith)) (omega arith)) (λ p q. omega (arith, q)) (omega arith)
entry_of_four s (suc zero) w ec eh er found l m =
    let T : ℕ = turned 1 w in
    let small : T < payload s.mode = turned_small s.mode w 63 m in
    let place : place_in_label Qam64 Flat Hp (6 * T + 3) ≡ 1 = omega arith in
    four_of s 1 w T 3 2 (8 * T + 4) false ec eh er found refl place (word_is 1 T (6 * T + 3) w (omega arith) place (omega arith)) (omega (arith, small))
    (λ path. sent_is path T 3 2 0 false (item T 3 0 (omega arith)) (omega arith)) (λ p q. omega (arith, q)) (omega arith)
entry_of_four s (suc (suc zero)) w ec eh er found l m =
    let T : ℕ = turned 2 w in
    let small : T < payload s.mode = turned_small s.mode w 105 m in
    let place : place_in_label Qam64 Flat Hp (6 * T + 1) ≡ 2 = omega arith in
    four_of s 2 w T 1 0 (8 * T + 1) true ec eh er found refl place (word_is 2 T (6 * T + 1) w (omega arith) place (omega arith)) (omega (arith, small))
    (λ path. sent_is path T 1 0 0 true (item T 1 1 (omega arith)) (omega arith)) (λ p q. omega (arith, q)) (omega arith)
entry_of_four s (suc (suc (suc zero))) w ec eh er found l m =
    let T : ℕ = turned 3 w in
    let small : T < payload s.mode = turned_small s.mode w 42 m in
    let place : place_in_label Qam64 Flat Hp (6 * T + 4) ≡ 3 = omega arith in
    four_of s 3 w T 4 2 (8 * T + 5) true ec eh er found refl place (word_is 3 T (6 * T + 4) w (omega arith) place (omega arith)) (omega (arith, small))
    (λ path. sent_is path T 4 2 0 true (item T 4 1 (omega arith)) (omega arith)) (λ p q. omega (arith, q)) (omega arith)
entry_of_four s (suc (suc (suc (suc zero)))) w ec eh er found l m =
    let T : ℕ = turned 4 w in
    let small : T < payload s.mode = turned_small s.mode w 21 m in
    let place : place_in_label Qam64 Flat Hp (6 * T + 2) ≡ 4 = omega arith in
    four_of s 4 w T 2 1 (8 * T + 3) true ec eh er found refl place (word_is 4 T (6 * T + 2) w (omega arith) place (omega arith)) (omega (arith, small))
    (λ path. sent_is path T 2 1 1 true (item T 2 2 (omega arith)) (omega arith)) (λ p q. omega (arith, q)) (omega arith)
entry_of_four s (suc (suc (suc (suc (suc zero))))) w ec eh er found l m =
    let T : ℕ = turned 5 w in
    let small : T < payload s.mode = turned_small s.mode w 84 m in
    let place : place_in_label Qam64 Flat Hp (6 * T + 5) ≡ 5 = omega arith in
    four_of s 5 w T 5 3 (8 * T + 7) true ec eh er found refl place (word_is 5 T (6 * T + 5) w (omega arith) place (omega arith)) (omega (arith, small))
    (λ path. sent_is path T 5 3 1 true (item T 5 2 (omega arith)) (omega arith)) (λ p q. omega (arith, q)) (omega arith)
entry_of_four s (suc (suc (suc (suc (suc (suc e)))))) w ec eh er found l m = absurd (omega (arith, l))

-- ---- the labels of a symbol
place_small : (e : ℕ) → e < 6 → parity_place e < 8
place_small zero l = omega arith
place_small (suc zero) l = omega arith
place_small (suc (suc zero)) l = omega arith
place_small (suc (suc (suc zero))) l = omega arith
place_small (suc (suc (suc (suc zero)))) l = omega arith
place_small (suc (suc (suc (suc (suc zero))))) l = omega arith
place_small (suc (suc (suc (suc (suc (suc e)))))) l = absurd (omega (arith, l))

-- words whose bits are parities of the right steps
pub record AreRead (s : Settings) (ps : List Bool) (entry : ℕ → ℕ → ℕ) (words : List ℕ) : Type 0 where
  pub small : (w : ℕ) → w < payload s.mode → slice_index words w < 2 ^ label_bits s.shape
  pub at : (w e : ℕ) → w < payload s.mode → e < label_bits s.shape → IsEntry s e w (entry e w) × (is_set (slice_index words w) e ≡ read_bit ps (entry e w))

-- such a bit is the coded bit at its place
coded_is : (s : Settings) (paths : Paths) (ps : List Bool) (e w n : ℕ) (b : Bool) → AreAllParities s paths ps → IsEntry s e w n → b ≡ read_bit ps n
    → b ≡ coded_bits s paths (stream_at s.hierarchy e) (number_at s e w)
coded_is s paths ps e w n b all found is =
    let σ : Stream = stream_at s.hierarchy e in
    let t : ℕ = n / 2 - first_step s σ in
    let place : 2 * (first_step s σ + t) + n % 2 ≡ n = omega (arith, found.from) in
    is
    ∙ ap (read_bit ps) (sym place)
    ∙ all.at σ t (n % 2) (omega (arith, found.from, found.to)) (omega arith)
    ∙ sym (found.reads (paths σ))

word_is_read : (s : Settings) (bits : Stream → ℕ → Bool) (w e : ℕ) → bits (stream_at s.hierarchy e) (number_at s e w) ≡ word_bit s bits w e
unfolding word_bit
word_is_read s bits w e = refl

-- they are the labels of the symbol's words
pub words_are : (s : Settings) (paths : Paths) (ps : List Bool) (entry : ℕ → ℕ → ℕ) (words : List ℕ) → AreAllParities s paths ps → AreRead s ps entry words → length words ≡ payload s.mode → AreWordLabels s (coded_bits s paths) words
words_are s paths ps entry words all r long = record {
  long = long;
  small = r.small;
  bit = λ w e l le. coded_is s paths ps e w (entry e w) (is_set (slice_index words w) e) all (r.at w e l le).0 (r.at w e l le).1 ∙ word_is_read s (coded_bits s paths) w e;
}

-- and so are the first ones of a longer list
pub first_read : (s : Settings) (ps : List Bool) (entry : ℕ → ℕ → ℕ) (words : List ℕ) (n : ℕ) → n ≡ payload s.mode → AreRead s ps entry words → AreRead s ps entry (take n words)
first_read s ps entry words n en r = record { small = small; at = at }
  where
    same : (w : ℕ) → w < payload s.mode → slice_index (take n words) w ≡ slice_index words w
    same w l = get_or-take n words w 0 (omega (arith, l, en))

    small : (w : ℕ) → w < payload s.mode → slice_index (take n words) w < 2 ^ label_bits s.shape
    small w l = subst (λ (z : ℕ). z < 2 ^ label_bits s.shape) (sym (same w l)) (r.small w l)

    at : (w e : ℕ) → w < payload s.mode → e < label_bits s.shape → IsEntry s e w (entry e w) × (is_set (slice_index (take n words) w) e ≡ read_bit ps (entry e w))
    at w e l le = ((r.at w e l le).0, ap (λ (z : ℕ). is_set z e) (same w l) ∙ (r.at w e l le).1)

-- labels that were gathered by the entries of all words
pub gathered_words : (s : Settings) (ps : List Bool) (entries words : List ℕ) (number count : ℕ) → number ≡ payload s.mode → count ≡ label_bits s.shape → AreWordEntries s entries → AreGathered ps entries number count words
    → AreRead s ps (λ e w. slice_index entries (w * label_bits s.shape + e)) words
gathered_words s ps entries words number count en ec a g = record { small = small; at = at }
  where
    small : (w : ℕ) → w < payload s.mode → slice_index words w < 2 ^ label_bits s.shape
    small w l = subst (λ (z : ℕ). slice_index words w < 2 ^ z) ec (g.at w (omega (arith, l, en))).small

    at : (w e : ℕ) → w < payload s.mode → e < label_bits s.shape
        → IsEntry s e w (slice_index entries (w * label_bits s.shape + e)) × (is_set (slice_index words w) e ≡ read_bit ps (slice_index entries (w * label_bits s.shape + e)))
    at w e l le = (a.at w e l le, (g.at w (omega (arith, l, en))).bit e (omega (arith, le, ec)) ∙ ap (λ (z : ℕ). read_bit ps (slice_index entries (w * z + e))) ec)

-- in carrier order they are the labels of the symbol
pub carried_are : (s : Settings) (odd : Bool) (paths : Paths) (ps : List Bool) (words : List ℕ) (m : Mode) (entry : ℕ → ℕ → ℕ) (old new : List ℕ) → s.mode ≡ m → AreAllParities s paths ps → AreRead s ps entry words
    → AppendsCarried words m odd (payload m) old new → AppendsLabels s odd (coded_bits s paths) old new
carried_are s odd paths ps words m entry old new em all r a =
    record { labels = a.labels; are = record { long = long; small = small; bit = bit }; is = a.is }
  where
    count : payload m ≡ payload s.mode
    count = ap payload (sym em)

    long : length a.labels ≡ payload s.mode
    long = a.long ∙ count

    inside : (q : ℕ) → q < payload s.mode → carried s.mode odd q < payload s.mode
    inside q l = subst (λ (z : Mode). carried z odd q < payload z) (sym em) (a.within q (omega (arith, l, count)))

    is : (q : ℕ) → q < payload s.mode → slice_index a.labels q ≡ slice_index words (carried s.mode odd q)
    is q l = a.at q (omega (arith, l, count)) ∙ ap (λ (z : Mode). slice_index words (carried z odd q)) (sym em)

    small : (q : ℕ) → q < payload s.mode → slice_index a.labels q < 2 ^ label_bits s.shape
    small q l = subst (λ (z : ℕ). z < 2 ^ label_bits s.shape) (sym (is q l)) (r.small (carried s.mode odd q) (inside q l))

    bit : (q e : ℕ) → q < payload s.mode → e < label_bits s.shape → is_set (slice_index a.labels q) e ≡ label_bit s odd (coded_bits s paths) q e
    bit q e l le =
        let w : ℕ = carried s.mode odd q in
        let found = r.at w e (inside q l) le in
        coded_is s paths ps e w (entry e w) (is_set (slice_index a.labels q) e) all found.0 (ap (λ (z : ℕ). is_set z e) (is q l) ∙ found.1) ∙ sym (label_is s odd (coded_bits s paths) q e)

pub four_words : (s : Settings) (ps : List Bool) (bytes words : List ℕ) (number blocks : ℕ)
    → s.shape ≡ Qam64 → s.hierarchy ≡ Flat → s.rate_hp ≡ R2of3 → EachBitIsFound → number ≡ payload s.mode → blocks ≡ payload s.mode
    → ArePacked ps number bytes → AreTurned bytes blocks words → AreRead s ps (λ e w. 8 * turned e w + parity_place e) words
four_words s ps bytes words number blocks ec eh er found en eb packed words_are = record { small = small; at = at }
  where
    six : label_bits s.shape ≡ 6
    six = ap label_bits ec

    small : (w : ℕ) → w < payload s.mode → slice_index words w < 2 ^ label_bits s.shape
    small w l = subst (λ (z : ℕ). slice_index words w < 2 ^ z) (sym six) (words_are.small w (omega (arith, l, eb)))

    at : (w e : ℕ) → w < payload s.mode → e < label_bits s.shape → IsEntry s e w (8 * turned e w + parity_place e) × (is_set (slice_index words w) e ≡ read_bit ps (8 * turned e w + parity_place e))
    at w e l le =
        let few : e < 6 = omega (arith, le, six) in (
          entry_of_four s e w ec eh er found few l,
          words_are.at w e (omega (arith, l, eb)) few ∙ packed.at (turned e w) (parity_place e) (omega (arith, en, turned_small s.mode w (offset e) l)) (place_small e few),
        )

-- the words of a symbol: whole blocks, and whole groups of four
pub record IsWhole (m : Mode) : Type 0 where
  pub few : payload m ≤ 6048
  pub groups : payload m % 4 ≡ 0
  pub few_blocks : payload m / 126 ≤ 48
  pub blocks : 126 * (payload m / 126) ≡ payload m
  pub steps : 8 * payload m ≤ 2 * most_steps m

pub is_whole : (m : Mode) → IsWhole m
is_whole M2k = record { few = omega arith; groups = omega arith; few_blocks = omega arith; blocks = omega arith; steps = omega arith }
is_whole M8k = record { few = omega arith; groups = omega arith; few_blocks = omega arith; blocks = omega arith; steps = omega arith }
