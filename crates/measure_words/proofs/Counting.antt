-- Words are counted.
use Rattle.std.proofs.Common.{◌≡◌, ℕ, zero, suc, ◌+◌, ◌-◌, ◌%◌, ◌<◌, ◌≤◌, ◌⊎◌, inl, inr, Bool, not, eqb, ◌&&◌, List, [], ◌∷◌, ◌++◌, length, get_or, refl, sym, ap, ap₂, ◌∙◌, arith, subst, length-append}
use Rattle.std.specs.Prelude.{Option, Some, None, min, is_some, map}
use Rattle.std.specs.List.{range_with_len}
use Rattle.std.proofs.lemmas.Bool.{ne_eqb, eq-eqb, cases_lt}
use Rattle.std.proofs.lemmas.List.FromFn.{length-range_with_len}
use Rattle.std.proofs.lemmas.List.{get_or_append_left}
use Rattle.std.proofs.Math.Seq.{get_or-append_seam}
use Rattle.spec_words.specs.Words.{numbers}
use Rattle.rs204.specs.Codes.{distance}
use Rattle.rs204.specs.Decoded.{Decoded}
use Rattle.rs204.specs.declared.outcome.Outcome.{Outcome}
use Rattle.rs204.specs.declared.outcome.Outcome.TheVariants.{Clean, Corrected, Bad}
use Rattle.outer_chain.specs.Nears.{near_of}
use Rattle.outer_chain.specs.Running.{is_clean_outcome, is_corrected_outcome, is_bad_outcome, WordStays}
use Rattle.outer_chain.specs.Receiving.{Receiver, Receives, EndsWord, undecoded}
use Rattle.outer_chain.specs.Words.{word_at, word_count, IsNear, phase_of, phase_before, has, is_clean, given_packet}
use Rattle.outer_chain.specs.declared.slot.WordSlot.{WordSlot}
use Rattle.outer_chain.proofs.OwnWords.{length-word_at}
use Rattle.outer_chain.proofs.WordLaws.{phase_same, distance_self}
use Rattle.outer_chain.proofs.DecodedWords.{decoded_is_near}
use Rattle.outer_chain.proofs.Finishing.{with_near, others, this, near_all}
use Rattle.measurement.specs.SuperFrames.{bits_apart, repaired_in}
use Rattle.measure_words.specs.declared.counts.WordSums.{WordSums}
use Rattle.measure_words.specs.Sums.{sums_over, counted, no_sums, AreFew}
use Rattle.measure_words.specs.Counted.{HasCounted, Measures, AreDecoded, AreReceived}
use Rattle.measure_words.specs.Seen.{WordsState}
use Rattle.measure_words.proofs.Bits.{none_apart, range_push}
use Rattle.measure_words.proofs.Sums.{sums_same, sums_push}

-- ---- a decoded word

clean_outcome : (old new : List ℕ) (outcome : Outcome) → Decoded old new outcome → is_clean old (near_of outcome new) ≡ is_clean_outcome outcome
clean_outcome old new Clean d = ap (λ w. eqb (distance old w) 0) d.1 ∙ eq-eqb (distance old old) 0 (distance_self old)
clean_outcome old new (Corrected n) d = ne_eqb (distance old new) 0 (λ e. absurd (omega (arith, d.1, d.2, e)))
clean_outcome old new Bad d = refl

corrected_outcome : (old new : List ℕ) (outcome : Outcome) → Decoded old new outcome → (has (near_of outcome new) && not (is_clean old (near_of outcome new))) ≡ is_corrected_outcome outcome
corrected_outcome old new Clean d = ap not (clean_outcome old new Clean d)
corrected_outcome old new (Corrected n) d = ap not (clean_outcome old new (Corrected n) d)
corrected_outcome old new Bad d = refl

bad_outcome : (word : List ℕ) (outcome : Outcome) → not (has (near_of outcome word)) ≡ is_bad_outcome outcome
bad_outcome word Clean = refl
bad_outcome word (Corrected n) = refl
bad_outcome word Bad = refl

repaired_outcome : (old new : List ℕ) (outcome : Outcome) → Decoded old new outcome → repaired_in old (near_of outcome new) ≡ bits_apart old new
unfolding repaired_in
repaired_outcome old new Clean d = refl
repaired_outcome old new (Corrected n) d = refl
repaired_outcome old new Bad d = sym (ap (bits_apart old) d.0 ∙ none_apart old)

has_packet : (phase : Option ℕ) (word : List ℕ) (near : Option (List ℕ)) → is_some (given_packet phase word near) ≡ has phase
has_packet None word near = refl
has_packet (Some f) word near = refl

-- what is counted of word `done` once it is decoded
pub record NextWord (bytes : List ℕ) (done : ℕ) (before : ℕ → Option (List ℕ)) (near : ℕ → Option (List ℕ)) (outcome : Outcome) (phased : Bool) (repaired : ℕ) : Type 0 where
  pub same : (k : ℕ) → k < done → before k ≡ near k
  pub push : (xs : List ℕ) → counted (sums_over near (word_at bytes) xs) outcome phased repaired ≡ sums_over near (word_at bytes) (xs ++ done ∷ [])

next_word : (old new : Receiver) (all current later : WordSums) (bytes : List ℕ) (done from limit : ℕ) (received word : List ℕ) (outcome : Outcome) (phased : Bool) (h : HasCounted old all current later bytes done from limit)
    → Decoded (word_at bytes done) word outcome → new.phase ≡ phase_of (near_of outcome word) old.phase → phased ≡ is_some (given_packet new.phase word (near_of outcome word)) → received ≡ word_at bytes done
    → NextWord bytes done h.near (with_near h.near done (near_of outcome word)) outcome phased (bits_apart received word)
unfolding phase_before
next_word old new all current later bytes done from limit received word outcome phased h d p f r =
    let x : Option (List ℕ) = near_of outcome word in
    let near : ℕ → Option (List ℕ) = with_near h.near done x in
    let here : near done ≡ x = this h.near done x in
    let w : List ℕ = word_at bytes done in
    let phases : new.phase ≡ phase_before near (suc done) = p ∙ ap₂ phase_of (sym here) (h.phase ∙ phase_same h.near near done (λ k l. sym (others h.near done x k l))) in
    record {
      same = λ k l. sym (others h.near done x k l);
      push = λ xs. sums_push near (word_at bytes) xs done outcome phased (bits_apart received word)
          (ap (is_clean w) here ∙ clean_outcome w word outcome d)
          (ap (λ (z : Option (List ℕ)). has z && not (is_clean w z)) here ∙ corrected_outcome w word outcome d)
          (ap (λ (z : Option (List ℕ)). not (has z)) here ∙ bad_outcome word outcome)
          (sym (ap (λ (z : Option ℕ). has z) phases) ∙ sym (has_packet new.phase word x) ∙ sym f)
          (ap (repaired_in w) here ∙ repaired_outcome w word outcome d ∙ ap (λ (z : List ℕ). bits_apart z word) (sym r));
    }

-- counts of ranges that stay, with the nearest codewords of a word more
stay : (bytes : List ℕ) (done : ℕ) (before near : ℕ → Option (List ℕ)) (sums : WordSums) (a n : ℕ) → a + n ≤ done → ((k : ℕ) → k < done → before k ≡ near k) → sums ≡ sums_over before (word_at bytes) (range_with_len a n)
    → sums ≡ sums_over near (word_at bytes) (range_with_len a n)
stay bytes done before near sums a n l h e = e ∙ sums_same before near (word_at bytes) (word_at bytes) a n done l h (λ k m. refl)

-- and with the word
grown : (bytes : List ℕ) (done : ℕ) (before near : ℕ → Option (List ℕ)) (sums new : WordSums) (outcome : Outcome) (phased : Bool) (repaired a n : ℕ) → a + n ≡ done → NextWord bytes done before near outcome phased repaired
    → new ≡ counted sums outcome phased repaired → sums ≡ sums_over before (word_at bytes) (range_with_len a n) → new ≡ sums_over near (word_at bytes) (range_with_len a (n + 1))
grown bytes done before near sums new outcome phased repaired a n l w is e =
    is ∙ ap (λ (z : WordSums). counted z outcome phased repaired) (stay bytes done before near sums a n (omega (arith, l)) w.same e) ∙ w.push (range_with_len a n)
    ∙ ap (λ (z : ℕ). sums_over near (word_at bytes) (range_with_len a n ++ z ∷ [])) (sym l) ∙ ap (sums_over near (word_at bytes)) (sym (range_push a n))

min_low : (a b : ℕ) → a ≤ b → min a b ≡ a
min_low a b l = omega (arith, l)

min_high : (a b : ℕ) → b ≤ a → min a b ≡ b
min_high a b l = omega (arith, l)

-- how many words are in the super-frame and after it, with a word more
range_at : (near : ℕ → Option (List ℕ)) (bytes : List ℕ) (sums : WordSums) (a n m : ℕ) → n ≡ m → sums ≡ sums_over near (word_at bytes) (range_with_len a n) → sums ≡ sums_over near (word_at bytes) (range_with_len a m)
range_at near bytes sums a n m e h = h ∙ ap (λ (z : ℕ). sums_over near (word_at bytes) (range_with_len a z)) e

pub word_counted : (old new : Receiver) (all current later new_all new_current new_later : WordSums) (bytes : List ℕ) (done from limit : ℕ) (received word : List ℕ) (outcome : Outcome) (phased : Bool)
    → HasCounted old all current later bytes done from limit → done < word_count bytes → received ≡ word_at bytes done → Decoded (word_at bytes done) word outcome
    → ((z : List ℕ) → Receives old z → Receives new z) → new.phase ≡ phase_of (near_of outcome word) old.phase → phased ≡ is_some (given_packet new.phase word (near_of outcome word))
    → new_all ≡ counted all outcome phased (bits_apart received word)
    → (all.words < limit → (new_current ≡ counted current outcome phased (bits_apart received word)) × (new_later ≡ later))
    → (limit ≤ all.words → (new_current ≡ current) × (new_later ≡ counted later outcome phased (bits_apart received word)))
    → HasCounted new new_all new_current new_later bytes (done + 1) from limit
unfolding phase_before numbers
word_counted old new all current later new_all new_current new_later bytes done from limit received word outcome phased h l r d stands p f is low high =
    go (cases_lt all.words limit)
  where
    x : Option (List ℕ)
    x = near_of outcome word

    near : ℕ → Option (List ℕ)
    near = with_near h.near done x

    next : NextWord bytes done h.near near outcome phased (bits_apart received word)
    next = next_word old new all current later bytes done from limit received word outcome phased h d p f r

    number : all.words ≡ done
    number = ap (λ (s : WordSums). s.words) h.all_are ∙ length-range_with_len 0 done

    found : IsNear (word_at bytes done) x
    found = decoded_is_near (word_at bytes done) word outcome (length-word_at bytes done) d

    more : done + 1 ≡ suc done
    more = omega arith

    phases : new.phase ≡ phase_before near (done + 1)
    phases = p ∙ ap₂ phase_of (sym (this h.near done x)) (h.phase ∙ phase_same h.near near done (λ k i. sym (others h.near done x k i))) ∙ ap (phase_before near) (sym more)

    result : new_current ≡ sums_over near (word_at bytes) (range_with_len from (min (done + 1) limit - from)) → new_later ≡ sums_over near (word_at bytes) (range_with_len limit (done + 1 - limit))
        → HasCounted new new_all new_current new_later bytes (done + 1) from limit
    result c t = record {
      receives = stands bytes h.receives;
      within = omega (arith, l);
      near = near;
      is_near = λ n i. near_all h.near done x (word_at bytes) (word_at bytes) h.is_near (λ k j. refl) found n (omega (arith, i));
      phase = phases;
      begun = omega (arith, h.begun);
      all_are = grown bytes done h.near near all new_all outcome phased (bits_apart received word) 0 done (omega arith) next is h.all_are;
      current_are = c;
      later_are = t;
    }

    go : (all.words < limit) ⊎ (limit ≤ all.words) → HasCounted new new_all new_current new_later bytes (done + 1) from limit
    go (inl i) = result
        (range_at near bytes new_current from (min done limit - from + 1) (min (done + 1) limit - from) (omega (arith, i, number, h.begun))
        (grown bytes done h.near near current new_current outcome phased (bits_apart received word) from (min done limit - from) (omega (arith, i, number, h.begun)) next (low i).0 h.current_are))
        (range_at near bytes new_later limit (done - limit) (done + 1 - limit) (omega (arith, i, number))
        ((low i).1 ∙ stay_none bytes h.near near later limit (done - limit) (omega (arith, i, number)) h.later_are))
      where
        stay_none : (bytes : List ℕ) (before near : ℕ → Option (List ℕ)) (sums : WordSums) (a n : ℕ) → n ≡ 0 → sums ≡ sums_over before (word_at bytes) (range_with_len a n) → sums ≡ sums_over near (word_at bytes) (range_with_len a n)
        stay_none bytes before near sums a n z e = e ∙ ap (λ (n : ℕ). sums_over before (word_at bytes) (range_with_len a n)) z ∙ sym (ap (λ (n : ℕ). sums_over near (word_at bytes) (range_with_len a n)) z)
    go (inr i) = result
        (range_at near bytes new_current from (min done limit - from) (min (done + 1) limit - from) (omega (arith, i, number, h.begun))
        ((high i).0 ∙ stay bytes done h.near near current from (min done limit - from) (omega (arith, i, number, h.begun)) next.same h.current_are))
        (range_at near bytes new_later limit (done - limit + 1) (done + 1 - limit) (omega (arith, i, number))
        (grown bytes done h.near near later new_later outcome phased (bits_apart received word) limit (done - limit) (omega (arith, i, number)) next (high i).1 h.later_are))

-- ---- words in order

-- the first k of some decoded words are counted
pub record CountsTo (k : ℕ) (slots : List WordSlot) (received : List (List ℕ)) (limit : ℕ) (old new : Receiver) (all current later new_all new_current new_later : WordSums) : Type 0 where
  pub few_all : (n : ℕ) → AreFew all n → AreFew new_all (n + k)
  pub few_current : (n : ℕ) → AreFew current n → AreFew new_current (n + k)
  pub few_later : (n : ℕ) → AreFew later n → AreFew new_later (n + k)
  pub words : new_all.words ≡ all.words + k
  pub counted : (bytes : List ℕ) (done from : ℕ) → HasCounted old all current later bytes done from limit → done + length slots ≤ word_count bytes → AreReceived bytes done received → AreDecoded bytes done slots
      → HasCounted new new_all new_current new_later bytes (done + k) from limit

few_same : (sums : WordSums) (n m : ℕ) → n ≡ m → AreFew sums n → AreFew sums m
few_same sums n m e h = subst (AreFew sums) e h

pub few_more : (sums : WordSums) (n m : ℕ) → n ≤ m → AreFew sums n → AreFew sums m
few_more sums n m l h = record {
  words = omega (arith, l, h.words);
  clean = omega (arith, l, h.clean);
  corrected = omega (arith, l, h.corrected);
  bad = omega (arith, l, h.bad);
  unphased = omega (arith, l, h.unphased);
  repaired = omega (arith, l, h.repaired);
}

pub counts_none : (slots : List WordSlot) (received : List (List ℕ)) (limit : ℕ) (old : Receiver) (all current later : WordSums) → CountsTo 0 slots received limit old old all current later all current later
counts_none slots received limit old all current later = record {
  few_all = λ n h. few_same all n (n + 0) (omega arith) h;
  few_current = λ n h. few_same current n (n + 0) (omega arith) h;
  few_later = λ n h. few_same later n (n + 0) (omega arith) h;
  words = omega arith;
  counted = λ bytes done from h l r d. let e : done ≡ done + 0 = omega arith in subst (λ (z : ℕ). HasCounted old all current later bytes z from limit) e h;
}

pub counts_more : (k : ℕ) (slots : List WordSlot) (received : List (List ℕ)) (limit : ℕ) (old mid new : Receiver) (all current later mid_all mid_current mid_later new_all new_current new_later : WordSums) (slot : WordSlot) (word : List ℕ)
    → k < length slots → length received ≡ length slots → slot ≡ get_or slots k slot → word ≡ get_or received k word
    → ((n : ℕ) → AreFew mid_all n → AreFew new_all (n + 1)) → ((n : ℕ) → AreFew mid_current n → AreFew new_current (n + 1)) → ((n : ℕ) → AreFew mid_later n → AreFew new_later (n + 1)) → new_all.words ≡ mid_all.words + 1
    → ((bytes : List ℕ) (done from : ℕ) → HasCounted mid mid_all mid_current mid_later bytes done from limit → done < word_count bytes → word ≡ word_at bytes done → Decoded (word_at bytes done) slot.word slot.outcome
    → HasCounted new new_all new_current new_later bytes (done + 1) from limit)
    → CountsTo k slots received limit old mid all current later mid_all mid_current mid_later → CountsTo (k + 1) slots received limit old new all current later new_all new_current new_later
counts_more k slots received limit old mid new all current later mid_all mid_current mid_later new_all new_current new_later slot word l long is_slot is_word few_all few_current few_later one step h = record {
  few_all = λ n f. few_same new_all (n + k + 1) (n + (k + 1)) (omega arith) (few_all (n + k) (h.few_all n f));
  few_current = λ n f. few_same new_current (n + k + 1) (n + (k + 1)) (omega arith) (few_current (n + k) (h.few_current n f));
  few_later = λ n f. few_same new_later (n + k + 1) (n + (k + 1)) (omega arith) (few_later (n + k) (h.few_later n f));
  words = omega (arith, one, h.words);
  counted = λ bytes done from f within r d.
      let e : done + k + 1 ≡ done + (k + 1) = omega arith in
      subst (λ (z : ℕ). HasCounted new new_all new_current new_later bytes z from limit) e
      (step bytes (done + k) from (h.counted bytes done from f within r d) (omega (arith, l, within)) (is_word ∙ r k word (omega (arith, l, long)))
      (subst (λ (z : WordSlot). Decoded (word_at bytes (done + k)) z.word z.outcome) (sym is_slot) (d k slot l)));
}

-- ---- bytes

ends_or : (bytes : List ℕ) → EndsWord bytes ⊎ (EndsWord bytes → ⊥)
ends_or bytes = go (cases_lt 0 (length bytes % 204)) (cases_lt 0 (word_count bytes))
  where
    go : (0 < length bytes % 204) ⊎ (length bytes % 204 ≤ 0) → (0 < word_count bytes) ⊎ (word_count bytes ≤ 0) → EndsWord bytes ⊎ (EndsWord bytes → ⊥)
    go (inl l) w = inr (λ e. omega (arith, l, e.0))
    go (inr l) (inl w) = inl (omega (arith, l), w)
    go (inr l) (inr w) = inr (λ e. omega (arith, w, e.1))

counted_byte : WordStays → (old new : Receiver) (all current later : WordSums) (bytes : List ℕ) (byte done from limit : ℕ) → HasCounted old all current later bytes done from limit
    → Receives new (bytes ++ byte ∷ []) → new.phase ≡ old.phase → HasCounted new all current later (bytes ++ byte ∷ []) done from limit
unfolding numbers
counted_byte stays old new all current later bytes byte done from limit h r p =
    let same : (k : ℕ) → k < done → word_at bytes k ≡ word_at (bytes ++ byte ∷ []) k = λ k l. sym (stays bytes (byte ∷ []) k (omega (arith, l, h.within))) in
    record {
      receives = r;
      within = omega (arith, h.within, length-append bytes (byte ∷ []));
      near = h.near;
      is_near = λ n l. subst (λ (w : List ℕ). IsNear w (h.near n)) (same n l) (h.is_near n l);
      phase = p ∙ h.phase;
      begun = h.begun;
      all_are = h.all_are ∙ sums_same h.near h.near (word_at bytes) (word_at (bytes ++ byte ∷ [])) 0 done done (omega arith) (λ k l. refl) same;
      current_are = h.current_are ∙ sums_same h.near h.near (word_at bytes) (word_at (bytes ++ byte ∷ [])) from (min done limit - from) done (omega (arith, h.begun)) (λ k l. refl) same;
      later_are = h.later_are ∙ later_same (cases_lt limit done) same;
    }
  where
    later_same : (limit < done) ⊎ (done ≤ limit) → ((k : ℕ) → k < done → word_at bytes k ≡ word_at (bytes ++ byte ∷ []) k)
        → sums_over h.near (word_at bytes) (range_with_len limit (done - limit)) ≡ sums_over h.near (word_at (bytes ++ byte ∷ [])) (range_with_len limit (done - limit))
    later_same (inl l) same = sums_same h.near h.near (word_at bytes) (word_at (bytes ++ byte ∷ [])) limit (done - limit) done (omega (arith, l)) (λ k i. refl) same
    later_same (inr l) same =
        let none : done - limit ≡ 0 = omega (arith, l) in
        ap (λ (z : ℕ). sums_over h.near (word_at bytes) (range_with_len limit z)) none ∙ sym (ap (λ (z : ℕ). sums_over h.near (word_at (bytes ++ byte ∷ [])) (range_with_len limit z)) none)

pub measures_byte : WordStays → (old new : WordsState) (bytes : List ℕ) (byte done from limit : ℕ) → Measures old bytes done from limit
    → new.all ≡ old.all → new.current ≡ old.current → new.later ≡ old.later → new.outer.phase ≡ old.outer.phase
    → ((z : List ℕ) → Receives old.outer z → Receives new.outer (z ++ byte ∷ []))
    → ((z : List ℕ) → Receives old.outer z → EndsWord (z ++ byte ∷ []) → new.slots ≡ old.slots ++ undecoded (z ++ byte ∷ []) (word_count (z ++ byte ∷ []) - 1) ∷ [])
    → ((z : List ℕ) → Receives old.outer z → (EndsWord (z ++ byte ∷ []) → ⊥) → new.slots ≡ old.slots) → Measures new (bytes ++ byte ∷ []) done from limit
measures_byte stays old new bytes byte done from limit h a c t p stands word none = go (ends_or (bytes ++ byte ∷ []))
  where
    long : length (bytes ++ byte ∷ []) ≡ length bytes + 1
    long = length-append bytes (byte ∷ [])

    were : HasCounted new.outer new.all new.current new.later (bytes ++ byte ∷ []) done from limit
    were = subst (λ (z : WordSums). HasCounted new.outer z new.current new.later (bytes ++ byte ∷ []) done from limit) (sym a)
        (subst (λ (z : WordSums). HasCounted new.outer old.all z new.later (bytes ++ byte ∷ []) done from limit) (sym c)
        (subst (λ (z : WordSums). HasCounted new.outer old.all old.current z (bytes ++ byte ∷ []) done from limit) (sym t)
        (counted_byte stays old.outer new.outer old.all old.current old.later bytes byte done from limit h.counted (stands bytes h.counted.receives) p)))

    last : WordSlot
    last = undecoded (bytes ++ byte ∷ []) (word_count (bytes ++ byte ∷ []) - 1)

    words_of : EndsWord (bytes ++ byte ∷ []) → new.slots ≡ old.slots ++ last ∷ [] → (i : ℕ) (d : WordSlot) → i < length new.slots → (i < length old.slots) ⊎ (length old.slots ≤ i) → (get_or new.slots i d).word ≡ word_at (bytes ++ byte ∷ []) (done + i)
    words_of e is i d l (inl k) =
        ap (λ (z : List WordSlot). (get_or z i d).word) is ∙ ap (λ (z : WordSlot). z.word) (get_or_append_left old.slots (last ∷ []) d i k)
        ∙ h.words i d k ∙ sym (stays bytes (byte ∷ []) (done + i) (omega (arith, h.waiting, k)))
    words_of e is i d l (inr k) =
        let here : i ≡ length old.slots = omega (arith, l, k, ap length is, length-append old.slots (last ∷ [])) in
        let number : word_count (bytes ++ byte ∷ []) - 1 ≡ done + i = omega (arith, here, h.waiting, long, e.0, e.1) in
        ap₂ (λ (z : List WordSlot) (j : ℕ). (get_or z j d).word) is here ∙ ap (λ (z : WordSlot). z.word) (get_or-append_seam old.slots last [] d) ∙ ap (word_at (bytes ++ byte ∷ [])) number

    same : (EndsWord (bytes ++ byte ∷ []) → ⊥) → (word_count bytes < word_count (bytes ++ byte ∷ [])) ⊎ (word_count (bytes ++ byte ∷ []) ≤ word_count bytes) → word_count (bytes ++ byte ∷ []) ≡ word_count bytes
    same n (inl k) = absurd (n (omega (arith, k, long), omega (arith, k)))
    same n (inr k) = omega (arith, k, long)

    go : EndsWord (bytes ++ byte ∷ []) ⊎ (EndsWord (bytes ++ byte ∷ []) → ⊥) → Measures new (bytes ++ byte ∷ []) done from limit
    go (inl e) =
        let is : new.slots ≡ old.slots ++ last ∷ [] = word bytes h.counted.receives e in
        record {
          counted = were;
          waiting = omega (arith, h.waiting, ap length is, length-append old.slots (last ∷ []), long, e.0, e.1);
          words = λ i d l. words_of e is i d l (cases_lt i (length old.slots));
        }
    go (inr n) =
        let is : new.slots ≡ old.slots = none bytes h.counted.receives n in
        record {
          counted = were;
          waiting = ap (λ (z : List WordSlot). done + length z) is ∙ h.waiting ∙ sym (same n (cases_lt (word_count bytes) (word_count (bytes ++ byte ∷ []))));
          words = λ i d l. ap (λ (z : List WordSlot). (get_or z i d).word) is ∙ h.words i d (omega (arith, l, ap length is)) ∙ sym (stays bytes (byte ∷ []) (done + i) (omega (arith, l, ap length is, h.waiting)));
        }

-- ---- the next super-frame

pub advanced : (outer : Receiver) (all current later : WordSums) (bytes : List ℕ) (done from limit next : ℕ) → HasCounted outer all current later bytes done from limit → limit ≤ next → done ≤ next
    → HasCounted outer all later no_sums bytes done (min done limit) next
advanced outer all current later bytes done from limit next h l m = record {
  receives = h.receives;
  within = h.within;
  near = h.near;
  is_near = h.is_near;
  phase = h.phase;
  begun = omega (arith, l, m);
  all_are = h.all_are;
  current_are = h.later_are ∙ begins (cases_lt limit done);
  later_are = let none : done - next ≡ 0 = omega (arith, m) in ap (λ (z : ℕ). sums_over h.near (word_at bytes) (range_with_len next z)) (sym none);
}
  where
    begins : (limit < done) ⊎ (done ≤ limit) → sums_over h.near (word_at bytes) (range_with_len limit (done - limit)) ≡ sums_over h.near (word_at bytes) (range_with_len (min done limit) (min done next - min done limit))
    begins (inl i) =
        let a : limit ≡ min done limit = omega (arith, i) in
        let b : done - limit ≡ min done next - min done limit = omega (arith, i, m) in
        ap₂ (λ (x y : ℕ). sums_over h.near (word_at bytes) (range_with_len x y)) a b
    begins (inr i) =
        let a : done - limit ≡ 0 = omega (arith, i) in
        let b : min done next - min done limit ≡ 0 = omega (arith, i, m) in
        ap (λ (z : ℕ). sums_over h.near (word_at bytes) (range_with_len limit z)) a ∙ sym (ap (λ (z : ℕ). sums_over h.near (word_at bytes) (range_with_len (min done limit) z)) b)

-- ---- at first

pub none_measured : (outer : Receiver) (slots : List WordSlot) (all current later : WordSums) (limit : ℕ) → Receives outer [] → outer.phase ≡ None → slots ≡ [] → all ≡ no_sums → current ≡ no_sums → later ≡ no_sums
    → Measures (record { outer = outer; slots = slots; all = all; current = current; later = later }) [] 0 0 limit
unfolding phase_before numbers
none_measured outer slots all current later limit r p s a c t = record {
  counted = record {
    receives = r;
    within = omega arith;
    near = λ n. None;
    is_near = λ n l. absurd (omega (arith, l));
    phase = p;
    begun = omega arith;
    all_are = a;
    current_are = let e : min 0 limit - 0 ≡ 0 = omega arith in c ∙ ap (λ (z : ℕ). sums_over (λ n. None) (word_at []) (range_with_len 0 z)) (sym e);
    later_are = let e : 0 - limit ≡ 0 = omega arith in t ∙ ap (λ (z : ℕ). sums_over (λ n. None) (word_at []) (range_with_len limit z)) (sym e);
  };
  waiting = omega (arith, ap length s);
  words = λ i d l. absurd (omega (arith, l, ap length s));
}

few_count : (sums : WordSums) (n : ℕ) → AreFew sums n → AreFew sums (n + 1)
few_count sums n h = few_more sums n (n + 1) (omega arith) h

pub few_next : (sums : WordSums) (n : ℕ) → AreFew sums n → AreFew sums (n + 1)
few_next = few_count

pub few_up : (sums : WordSums) (n m : ℕ) → n ≤ m → AreFew sums n → AreFew sums m
few_up = few_more

-- ---- decoded together

mapped : (xs : List WordSlot) (i : ℕ) (d : List ℕ) (e : WordSlot) → i < length xs → get_or (map (λ (s : WordSlot). s.word) xs) i d ≡ (get_or xs i e).word
mapped [] i d e l = absurd (omega (arith, l))
mapped (x ∷ xs) zero d e l = refl
mapped (x ∷ xs) (suc i) d e l = mapped xs i d e (omega (arith, l))

length_mapped : (xs : List WordSlot) → length (map (λ (s : WordSlot). s.word) xs) ≡ length xs
length_mapped [] = refl
length_mapped (x ∷ xs) = ap suc (length_mapped xs)

pub kept_long : (slots : List WordSlot) (received : List (List ℕ)) → received ≡ map (λ (s : WordSlot). s.word) slots → length received ≡ length slots
kept_long slots received e = ap length e ∙ length_mapped slots

pub measures_finished : (x : WordsState) (bytes : List ℕ) (done from limit : ℕ) (decoded : List WordSlot) (received : List (List ℕ)) (outer : Receiver) (all current later : WordSums) → Measures x bytes done from limit
    → received ≡ map (λ (s : WordSlot). s.word) x.slots → length decoded ≡ length x.slots
    → ((i : ℕ) (d : WordSlot) → i < length x.slots → Decoded (get_or x.slots i d).word (get_or decoded i d).word (get_or decoded i d).outcome)
    → ((b : List ℕ) (n f : ℕ) → HasCounted x.outer x.all x.current x.later b n f limit → n + length decoded ≤ word_count b → AreReceived b n received → AreDecoded b n decoded → HasCounted outer all current later b (n + length decoded) f limit)
    → Measures (record { outer = outer; slots = []; all = all; current = current; later = later }) bytes (word_count bytes) from limit
measures_finished x bytes done from limit decoded received outer all current later h kept long each counts =
    let whole : done + length decoded ≡ word_count bytes = omega (arith, h.waiting, long) in
    record {
      counted = subst (λ (n : ℕ). HasCounted outer all current later bytes n from limit) whole (counts bytes done from h.counted (omega (arith, whole)) are_received are_decoded);
      waiting = omega arith;
      words = λ i d l. absurd (omega (arith, l));
    }
  where
    are_received : AreReceived bytes done received
    are_received i d l =
        let within : i < length x.slots = omega (arith, l, kept_long x.slots received kept) in
        ap (λ (z : List (List ℕ)). get_or z i d) kept ∙ mapped x.slots i d (undecoded [] 0) within ∙ h.words i (undecoded [] 0) within

    are_decoded : AreDecoded bytes done decoded
    are_decoded i d l =
        let within : i < length x.slots = omega (arith, l, long) in
        subst (λ (z : List ℕ). Decoded z (get_or decoded i d).word (get_or decoded i d).outcome) (h.words i d within) (each i d within)
