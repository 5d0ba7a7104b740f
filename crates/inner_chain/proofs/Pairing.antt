-- Labels of two bits out of the parities of a step a word.
use Rattle.std.proofs.Common.{◌≡◌, ℕ, zero, suc, ◌+◌, ◌-◌, ◌*◌, ◌/◌, ◌%◌, ◌^◌, ◌<◌, ◌≤◌, ◌≢◌, ◌⊎◌, inl, inr, Bool, true, false, cond, List, length, set, refl, sym, ap, ◌∙◌, subst, arith}
use Rattle.std.specs.Prelude.{slice_index, slice_index_or}
use Rattle.std.proofs.lemmas.Bool.{cases_lt}
use Rattle.std.proofs.lemmas.List.{get_or-set_same, get_or-set_other}
use Rattle.spec_words.specs.Bits.{is_set}
use Rattle.mode_set.specs.StreamTable.{payload, label_bits}
use Rattle.mode_set.specs.declared.modes.Shape.TheVariants.{Qpsk}
use Rattle.mode_set.specs.declared.modes.Hierarchy.TheVariants.{Flat}
use Rattle.mode_set.specs.declared.modes.Rate.TheVariants.{R1of2}
use Rattle.mode_set.specs.declared.modes.Stream.TheVariants.{Hp}
use Rattle.mode_set.specs.declared.settings.Settings.{Settings}
use Rattle.puncture.specs.SentBits.{X, Y, sent, sent_bit}
use Rattle.bit_interleave.specs.Place.{offset, place_in_label, word_of_bit, EachBitIsFound}
use Rattle.inner_chain.specs.Labels.{parity_at}
use Rattle.inner_chain.specs.Tables.{read_bit, IsEntry}
use Rattle.inner_chain.specs.Fours.{turned, ArePairs}
use Rattle.inner_chain.proofs.SentBits.{reads}
use Rattle.inner_chain.proofs.Quads.{AreRead, bit_entry, turned_small}

-- ---- words
pub none_paired : (xs : List Bool) (words : List ℕ) → ArePairs xs (126 * 0) words
none_paired xs words = record { small = λ w l. absurd (omega (arith, l)); at = λ w e l m. absurd (omega (arith, l)) }

-- a word more
pub pairs_more : (xs : List Bool) (words : List ℕ) (n label : ℕ) → n < length words → ArePairs xs n words → label < 4
    → is_set label 0 ≡ read_bit xs (2 * turned 0 n + 0) → is_set label 1 ≡ read_bit xs (2 * turned 1 n + 1) → ArePairs xs (n + 1) (set words n label)
pairs_more xs words n label within p little b0 b1 = record { small = small; at = at }
  where
    new : List ℕ
    new = set words n label

    here : slice_index new n ≡ label
    here = get_or-set_same words n label 0 within

    kept : (w : ℕ) → w < n → slice_index new w ≡ slice_index words w
    kept w l = let apart : w ≢ n = omega (arith, l) in get_or-set_other words n w label 0 apart

    small : (w : ℕ) → w < n + 1 → slice_index new w < 4
    small w l = go (cases_lt w n)
      where
        go : (w < n) ⊎ (n ≤ w) → slice_index new w < 4
        go (inl less) = subst (λ (z : ℕ). z < 4) (sym (kept w less)) (p.small w less)
        go (inr past) =
            let same : n ≡ w = omega (arith, l, past) in
            subst (λ (z : ℕ). slice_index new z < 4) same (subst (λ (z : ℕ). z < 4) (sym here) little)

    last : (e : ℕ) → e < 2 → is_set label e ≡ read_bit xs (2 * turned e n + e)
    last zero m = b0
    last (suc zero) m = b1
    last (suc (suc e)) m = absurd (omega (arith, m))

    at : (w e : ℕ) → w < n + 1 → e < 2 → is_set (slice_index new w) e ≡ read_bit xs (2 * turned e w + e)
    at w e l m = go (cases_lt w n)
      where
        go : (w < n) ⊎ (n ≤ w) → is_set (slice_index new w) e ≡ read_bit xs (2 * turned e w + e)
        go (inl less) = ap (λ (z : ℕ). is_set z e) (kept w less) ∙ p.at w e less m
        go (inr past) =
            let same : n ≡ w = omega (arith, l, past) in
            subst (λ (z : ℕ). is_set (slice_index new z) e ≡ read_bit xs (2 * turned e z + e)) same (ap (λ (z : ℕ). is_set z e) here ∙ last e m)

-- the step of a word itself, and those of the other half of its block
pub own_step : (n : ℕ) → turned 0 n ≡ n
own_step n = omega arith

pub later_half : (block j : ℕ) → j < 63 → turned 1 (126 * block + j) ≡ 126 * block + 63 + j
later_half block j l = omega (arith, l)

pub earlier_half : (block j : ℕ) → j < 63 → turned 1 (126 * block + 63 + j) ≡ 126 * block + j
earlier_half block j l = omega (arith, l)

-- ---- the coded bits of a word the word that the bit interleaver makes of coded bit 2 T + i
word_is : (e T d w : ℕ) → d / 2 ≡ T → place_in_label Qpsk Flat Hp d ≡ e → 126 * (T / 126) + (T + 126 - offset e) % 126 ≡ w → word_of_bit Qpsk Flat Hp d ≡ w
word_is e T d w et ep ew =
    ap (λ (z : ℕ). 126 * (d / 2 / 126) + (d / 2 + 126 - offset z) % 126) ep
    ∙ ap (λ (z : ℕ). 126 * (z / 126) + (z + 126 - offset e) % 126) et ∙ ew

-- the parity that it is
sent_is : (path : ℕ → Bool) (T i : ℕ) (y : Bool) → slice_index_or (sent R1of2) ((2 * T + i) % 2) (X 1) ≡ cond y (Y (0 + 1)) (X (0 + 1)) → (2 * T + i) / 2 * 1 + 0 ≡ T
    → sent_bit R1of2 path (2 * T + i) ≡ parity_at (cond y 1 0) path T
sent_is path T i y e place = reads R1of2 path (2 * T + i) 2 2 1 0 y refl refl refl e ∙ ap (parity_at (cond y 1 0) path) place

item : (T i k : ℕ) → (2 * T + i) % 2 ≡ k → slice_index_or (sent R1of2) ((2 * T + i) % 2) (X 1) ≡ slice_index_or (sent R1of2) k (X 1)
item T i k e = ap (λ (z : ℕ). slice_index_or (sent R1of2) z (X 1)) e

entry_of_two : (s : Settings) (e w : ℕ) → s.shape ≡ Qpsk → s.hierarchy ≡ Flat → s.rate_hp ≡ R1of2 → EachBitIsFound → e < 2 → w < payload s.mode → IsEntry s e w (2 * turned e w + e)
entry_of_two s zero w ec eh er found l m =
    let T : ℕ = turned 0 w in
    let small : T < payload s.mode = turned_small s.mode w 0 m in
    let place : place_in_label Qpsk Flat Hp (2 * T + 0) ≡ 0 = omega arith in
    bit_entry Qpsk R1of2 s 0 w (2 * T + 0) T (2 * T + 0) false ec eh er found refl place (word_is 0 T (2 * T + 0) w (omega arith) place (omega arith)) (omega (arith, small))
    (λ path. sent_is path T 0 false (item T 0 0 (omega arith)) (omega arith)) (λ p q. omega (arith, q)) (omega arith)
entry_of_two s (suc zero) w ec eh er found l m =
    let T : ℕ = turned 1 w in
    let small : T < payload s.mode = turned_small s.mode w 63 m in
    let place : place_in_label Qpsk Flat Hp (2 * T + 1) ≡ 1 = omega arith in
    bit_entry Qpsk R1of2 s 1 w (2 * T + 1) T (2 * T + 1) true ec eh er found refl place (word_is 1 T (2 * T + 1) w (omega arith) place (omega arith)) (omega (arith, small))
    (λ path. sent_is path T 1 true (item T 1 1 (omega arith)) (omega arith)) (λ p q. omega (arith, q)) (omega arith)
entry_of_two s (suc (suc e)) w ec eh er found l m = absurd (omega (arith, l))

-- ---- the labels of a symbol
pub two_words : (s : Settings) (ps : List Bool) (words : List ℕ) (number : ℕ) → s.shape ≡ Qpsk → s.hierarchy ≡ Flat → s.rate_hp ≡ R1of2 → EachBitIsFound → number ≡ payload s.mode
    → ArePairs ps number words → AreRead s ps (λ e w. 2 * turned e w + e) words
two_words s ps words number ec eh er found en pairs = record { small = small; at = at }
  where
    two : label_bits s.shape ≡ 2
    two = ap label_bits ec

    small : (w : ℕ) → w < payload s.mode → slice_index words w < 2 ^ label_bits s.shape
    small w l = subst (λ (z : ℕ). slice_index words w < 2 ^ z) (sym two) (pairs.small w (omega (arith, l, en)))

    at : (w e : ℕ) → w < payload s.mode → e < label_bits s.shape → IsEntry s e w (2 * turned e w + e) × (is_set (slice_index words w) e ≡ read_bit ps (2 * turned e w + e))
    at w e l le = let few : e < 2 = omega (arith, le, two) in (entry_of_two s e w ec eh er found few l, pairs.at w e (omega (arith, l, en)) few)
