-- A word's first sixteen bits are a sync word, so bits close to a word begin close to one.
use Rattle.std.proofs.Common.{◌≡◌, ℕ, zero, suc, ◌+◌, ◌%◌, ◌<◌, ◌≤◌, Bool, true, false, cond, inl, inr, ◌⊎◌, List, [], ◌∷◌, ◌++◌, length, take, map, get_or, refl, sym, ap, ◌∙◌, subst, arith}
use Rattle.std.specs.Prelude.{not, ◌==◌, nat_le, IsTrue}
use mir.Val.{bool_byte}
use Rattle.std.proofs.lemmas.List.{append_assoc, take_all, length-take, length-map}
use Rattle.spec_words.specs.Bits.{xor, digits}
use Rattle.tps_bch.specs.Bch.{bit_distance}
use Rattle.tps_word.specs.Tps.{tps_word, tps_info, sync_word, length_bits}
use Rattle.tps_word.specs.declared.word.TpsWord.{TpsWord}
use Rattle.tps_word.specs.Signals.{Signals}

-- one more position
pub place_more : (v : List Bool) (text : List ℕ) (i : ℕ) → i < length v → i < length text
    → bit_distance (take (i + 1) v) (take (i + 1) (digits text)) ≡ bit_distance (take i v) (take i (digits text)) + cond (xor (get_or v i false) (get_or text i 0 == 49)) 1 0
place_more [] text i l k = absurd (omega (arith, l))
place_more (x ∷ v) [] i l k = absurd (omega (arith, k))
place_more (x ∷ v) (c ∷ text) zero l k = omega arith
place_more (x ∷ v) (c ∷ text) (suc i) l k =
    let next : suc i + 1 ≡ suc (i + 1) = omega arith in
    let here : bit_distance (take (suc i + 1) (x ∷ v)) (take (suc i + 1) (digits (c ∷ text))) ≡ cond (xor x (c == 49)) 1 0 + bit_distance (take (i + 1) v) (take (i + 1) (digits text)) =
    ap (λ (n : ℕ). bit_distance (take n (x ∷ v)) (take n (digits (c ∷ text)))) next in
    omega (arith, here, place_more v text i (omega (arith, l)) (omega (arith, k)))

-- a prefix differs in at most as many positions as the whole
front_closer : (v s r : List Bool) → bit_distance (take (length s) v) s ≤ bit_distance v (s ++ r)
front_closer v [] r = go v
  where
    go : (v : List Bool) → bit_distance (take 0 v) [] ≤ bit_distance v r
    go [] = omega arith
    go (x ∷ v) = omega arith
front_closer [] (y ∷ s) r = omega arith
front_closer (x ∷ v) (y ∷ s) r = omega (arith, front_closer v s r)

-- what differs from a bit is its complement
differ : (x y : Bool) → cond (xor x y) 1 0 + cond (xor x (not y)) 1 0 ≡ 1
differ true true = refl
differ true false = refl
differ false true = refl
differ false false = refl

opposite : (v s : List Bool) → length v ≡ length s → bit_distance v s + bit_distance v (map not s) ≡ length s
opposite [] [] l = refl
opposite [] (y ∷ s) l = absurd (omega (arith, l))
opposite (x ∷ v) [] l = absurd (omega (arith, l))
opposite (x ∷ v) (y ∷ s) l = omega (arith, opposite v s (omega (arith, l)), differ x y)

sync_2 : sync_word 2 ≡ map not (sync_word 1)
unfolding sync_word
sync_2 = refl

sync_length : length (sync_word 1) ≡ 16
unfolding sync_word
sync_length = refl

one_of_two : (frame : ℕ) → (sync_word frame ≡ sync_word 1) ⊎ (sync_word frame ≡ sync_word 2)
unfolding sync_word
one_of_two frame = go (frame % 2 == 1)
  where
    go : (b : Bool) → (cond b (sync_word 1) (sync_word 2) ≡ sync_word 1) ⊎ (cond b (sync_word 1) (sync_word 2) ≡ sync_word 2)
    go true = inl refl
    go false = inr refl

abbrev Begins : List Bool → List Bool → Type 0
Begins s bits = (rest : List Bool) × (bits ≡ s ++ rest)

more : (s bits rest : List Bool) → Begins s bits → Begins s (bits ++ rest)
more s bits rest h = (h.0 ++ rest, ap (λ (z : List Bool). z ++ rest) h.1 ∙ append_assoc s h.0 rest)

word_begins : (w : TpsWord) → Begins (sync_word w.frame) (tps_word w)
unfolding tps_word tps_info
word_begins w = let s = sync_word w.frame in more s _ _ (more s _ _ (more s _ _ (more s _ _ (more s _ _ (more s _ _ (more s _ _ (more s _ _ (more s _ _ (more s _ _ (length_bits w.with_cell, refl))))))))))

-- within two errors of a word, the first bits are within two of a sync word
pub sync_within : (bits : List Bool) (w : TpsWord) (errors : ℕ) → length bits ≡ 67 → errors ≡ bit_distance (take 16 bits) (sync_word 1) → Signals bits w → (errors ≤ 2) ⊎ (14 ≤ errors)
sync_within bits w errors long e h = go (one_of_two w.frame)
  where
    near : (s : List Bool) → sync_word w.frame ≡ s → length s ≡ 16 → bit_distance (take 16 bits) s ≤ 2
    near s is l =
        let word : tps_word w ≡ s ++ (word_begins w).0 = (word_begins w).1 ∙ ap (λ (z : List Bool). z ++ (word_begins w).0) is in
        let closer : bit_distance (take 16 bits) s ≤ bit_distance bits (s ++ (word_begins w).0) = subst (λ (k : ℕ). bit_distance (take k bits) s ≤ bit_distance bits (s ++ (word_begins w).0)) l (front_closer bits s (word_begins w).0) in
        omega (arith, closer, h.close, ap (bit_distance bits) word)

    front : length (take 16 bits) ≡ length (sync_word 1)
    front = length-take 16 bits ∙ omega (arith, long, sync_length)

    go : (sync_word w.frame ≡ sync_word 1) ⊎ (sync_word w.frame ≡ sync_word 2) → (errors ≤ 2) ⊎ (14 ≤ errors)
    go (inl one) = inl (omega (arith, e, near (sync_word 1) one sync_length))
    go (inr two) = inr (omega (arith, e, opposite (take 16 bits) (sync_word 1) front, sync_length, near (map not (sync_word 1)) (two ∙ sync_2) (length-map (sync_word 1) not ∙ sync_length)))

reaches : (a b : ℕ) → a ≤ b → IsTrue (nat_le a b)
reaches a b h = grind arith

pub far_from_one : (bits : List Bool) (w : TpsWord) (errors : ℕ) → length bits ≡ 67 → errors ≡ bit_distance (take 16 bits) (sync_word 1) → 2 < errors → Signals bits w → IsTrue (nat_le 14 errors)
far_from_one bits w errors long e far h = go (sync_within bits w errors long e h)
  where
    go : (errors ≤ 2) ⊎ (14 ≤ errors) → IsTrue (nat_le 14 errors)
    go (inl l) = absurd (omega (arith, l, far))
    go (inr l) = reaches 14 errors l

-- ---- the count of the errors

byte : (b : Bool) → bool_byte b ≡ cond b 1 0
byte true = refl
byte false = refl

bit_small : (b : Bool) → cond b 1 0 ≤ 1
bit_small true = omega arith
bit_small false = omega arith

long_text : (text : List ℕ) → digits text ≡ sync_word 1 → length text ≡ 16
long_text text e = sym (length-map text (λ c. c == 49)) ∙ ap length e ∙ sync_length

pub counted : (bits : List Bool) (text : List ℕ) (i errors more : ℕ) → length bits ≡ 67 → digits text ≡ sync_word 1 → i < 16 → more ≡ bool_byte (xor (get_or bits i false) (get_or text i 0 == 49))
    → (errors ≡ bit_distance (take i bits) (take i (digits text))) × (errors ≤ i) → (errors + more ≡ bit_distance (take (i + 1) bits) (take (i + 1) (digits text))) × (errors + more ≤ i + 1)
counted bits text i errors more long e l m h =
    let one : more ≡ cond (xor (get_or bits i false) (get_or text i 0 == 49)) 1 0 = m ∙ byte (xor (get_or bits i false) (get_or text i 0 == 49)) in
    (omega (arith, h.0, one, place_more bits text i (omega (arith, l, long)) (omega (arith, l, long_text text e))), omega (arith, h.1, one, bit_small (xor (get_or bits i false) (get_or text i 0 == 49))))

pub all_counted : (bits : List Bool) (text : List ℕ) (i errors : ℕ) → digits text ≡ sync_word 1 → i ≤ 16 → 16 ≤ i → errors ≡ bit_distance (take i bits) (take i (digits text)) → errors ≡ bit_distance (take 16 bits) (sync_word 1)
all_counted bits text i errors e l m h =
    let last : i ≡ 16 = omega (arith, l, m) in
    h ∙ ap (λ k. bit_distance (take k bits) (take k (digits text))) last ∙ ap (bit_distance (take 16 bits)) (take_all 16 (digits text) (omega (arith, ap length e, sync_length)) ∙ e)
