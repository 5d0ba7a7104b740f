-- The labels of a symbol, for any streams.
use Rattle.std.proofs.Common.{◌≡◌, ℕ, ◌+◌, ◌^◌, ◌<◌, ◌≤◌, Bool, true, false, List, [], ◌∷◌, ◌++◌, length, take, get_or, slice_index, refl, sym, ap, ◌∙◌, subst, arith}
use Rattle.std.proofs.lemmas.List.{get_or_append_left, get_or-append-add, get_or-take, length-take-le}
use Rattle.spec_words.specs.Bits.{bit, is_set}
use Rattle.mode_set.specs.StreamTable.{need, payload, label_bits}
use Rattle.mode_set.specs.declared.modes.Mode.{Mode}
use Rattle.mode_set.specs.declared.modes.Stream.{Stream}
use Rattle.mode_set.specs.declared.modes.Stream.TheVariants.{Hp, Lp}
use Rattle.mode_set.specs.declared.settings.Settings.{Settings}
use Rattle.puncture.specs.SentBits.{bits_from}
use Rattle.symbol_interleave.specs.Carried.{h, carried, HIsAPermutation, PlacesAndWordsAgree}
use Rattle.inner_chain.specs.Labels.{Paths, TxState, IsBefore, AppendsLabels, AreWordLabels, label_bit, word_bit}
use Rattle.frame_build.specs.Symbol.{Agree, bits_of}
use Rattle.frame_build.specs.Words.{carried_bits}
use Rattle.modulator.proofs.Runs.{run_is}

-- a path that begins with the register and the pending bits
abbrev pub own_paths : TxState → List Bool → List Bool → Paths
own_paths st hp lp Hp = bit (st.hp ++ hp)
own_paths st hp lp Lp = bit (st.lp ++ lp)

own_register : (r w : List Bool) → length r ≡ 6 → r ≡ bits_from (bit (r ++ w)) 0 6
own_register r w e = run_is (bit (r ++ w)) r 0 6 e at
  where
    at : (k : ℕ) → k < 6 → get_or r k false ≡ bit (r ++ w) (0 + k)
    at k l = let place : k ≡ 0 + k = omega arith in sym (get_or_append_left r w false k (omega (arith, l, e))) ∙ ap (bit (r ++ w)) place

own_input : (r w : List Bool) (n : ℕ) → length r ≡ 6 → n ≤ length w → take n w ≡ bits_from (bit (r ++ w)) 6 n
own_input r w n e l = run_is (bit (r ++ w)) (take n w) 6 n (length-take-le n w l) at
  where
    at : (k : ℕ) → k < n → get_or (take n w) k false ≡ bit (r ++ w) (6 + k)
    at k m = let place : length r + k ≡ 6 + k = omega (arith, e) in get_or-take n w k false m ∙ sym (get_or-append-add r w k false) ∙ ap (bit (r ++ w)) place

pub own_at : (st : TxState) (hp lp : List Bool) → length st.hp ≡ 6 → length st.lp ≡ 6 → IsBefore st (own_paths st hp lp)
own_at st hp lp eh el Hp = own_register st.hp hp eh
own_at st hp lp eh el Lp = own_register st.lp lp el

pub own_hp : (s : Settings) (st : TxState) (hp lp : List Bool) → length st.hp ≡ 6 → need s Hp ≤ length hp → take (need s Hp) hp ≡ bits_from (own_paths st hp lp Hp) 6 (need s Hp)
own_hp s st hp lp e l = own_input st.hp hp (need s Hp) e l

pub own_lp : (s : Settings) (st : TxState) (hp lp : List Bool) → length st.lp ≡ 6 → need s Lp ≤ length lp → take (need s Lp) lp ≡ bits_from (own_paths st hp lp Lp) 6 (need s Lp)
own_lp s st hp lp e l = own_input st.lp lp (need s Lp) e l

-- labels with nothing before them
only_labels : (s : Settings) (odd : Bool) (bits : Stream → ℕ → Bool) (old new : List ℕ) (a : AppendsLabels s odd bits old new) → old ≡ [] → new ≡ a.labels
only_labels s odd bits old new a e = a.is ∙ ap (λ (z : List ℕ). z ++ a.labels) e

pub labels_count : (s : Settings) (odd : Bool) (bits : Stream → ℕ → Bool) (old new : List ℕ) → AppendsLabels s odd bits old new → old ≡ [] → length new ≡ payload s.mode
labels_count s odd bits old new a e = ap length (only_labels s odd bits old new a e) ∙ a.are.long

pub labels_small : (s : Settings) (odd : Bool) (bits : Stream → ℕ → Bool) (old new : List ℕ) → AppendsLabels s odd bits old new → old ≡ [] → (q : ℕ) → q < payload s.mode → get_or new q 0 < 2 ^ label_bits s.shape
labels_small s odd bits old new a e q l = subst (λ (z : List ℕ). get_or z q 0 < 2 ^ label_bits s.shape) (sym (only_labels s odd bits old new a e)) (a.are.small q l)

pub labels_agree : (s : Settings) (odd : Bool) (bits : Stream → ℕ → Bool) (old new : List ℕ) → AppendsLabels s odd bits old new → old ≡ [] → Agree s (bits_of new) (label_bit s odd bits)
labels_agree s odd bits old new a e q k l m = ap (λ (z : List ℕ). is_set (get_or z q 0) k) (only_labels s odd bits old new a e) ∙ a.are.bit q k l m

-- the word on a payload carrier
word_within : HIsAPermutation → PlacesAndWordsAgree → (m : Mode) (odd : Bool) (q : ℕ) → q < payload m → carried m odd q < payload m
word_within perm agree m true q l = (perm m).below q l
word_within perm agree m false q l =
    let found = (perm m).each q l in
    let back : carried m false (slice_index (h m) found.0) ≡ found.0 = (agree m false found.0 found.1).1 in
    let here : carried m false q ≡ found.0 = ap (carried m false) (sym found.2) ∙ back in
    omega (arith, here, found.1)

label_is : (s : Settings) (odd : Bool) (bits : Stream → ℕ → Bool) (q e : ℕ) → word_bit s bits (carried s.mode odd q) e ≡ label_bit s odd bits q e
unfolding word_bit label_bit
label_is s odd bits q e = refl

-- words' labels on the carriers that carry them
pub words_agree : HIsAPermutation → PlacesAndWordsAgree → (s : Settings) (m : Mode) (odd : Bool) (bits : Stream → ℕ → Bool) (words : List ℕ) → s.mode ≡ m → AreWordLabels s bits words → Agree s (carried_bits m odd words) (label_bit s odd bits)
words_agree perm agree s m odd bits words em a q e l le =
    ap (λ (z : Mode). carried_bits z odd words q e) (sym em) ∙ a.bit (carried s.mode odd q) e (word_within perm agree s.mode odd q l) le ∙ label_is s odd bits q e

pub words_small : (s : Settings) (m : Mode) (bits : Stream → ℕ → Bool) (words : List ℕ) → s.mode ≡ m → AreWordLabels s bits words → (w : ℕ) → w < payload m → get_or words w 0 < 2 ^ label_bits s.shape
words_small s m bits words em a w l = a.small w (omega (arith, l, ap payload em))

-- a list that was written over as a whole
take_front : {A : Type 0} (xs ys : List A) → take (length xs) (xs ++ ys) ≡ xs
take_front [] ys = refl
take_front (x ∷ xs) ys = ap (λ zs. x ∷ zs) (take_front xs ys)

pub written_over : {A : Type 0} (n : ℕ) (xs ys : List A) → n ≡ length xs → take n (xs ++ ys) ≡ xs
written_over n xs ys e = ap (λ (z : ℕ). take z (xs ++ ys)) e ∙ take_front xs ys
