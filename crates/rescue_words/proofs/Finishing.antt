-- The output of a rescuing receiver, byte by byte.
use Rattle.std.proofs.Common.{◌≡◌, ℕ, suc, ◌+◌, ◌-◌, ◌*◌, ◌/◌, ◌%◌, ◌<◌, ◌≤◌, Bool, not, cond, eqb, inl, inr, ◌⊎◌, List, [], ◌∷◌, ◌++◌, length, refl, sym, ◌∙◌, ap, ap₂, subst, arith, length-append, append-nil}
use Rattle.std.specs.Prelude.{Option, Some, None, is_some, unwrap_or, true, false, IsTrue, ◌↔◌}
use Rattle.std.proofs.lemmas.Bool.{cases_lt, ne_eqb, eq-eqb}
use Rattle.rs204.specs.Codes.{distance}
use Rattle.rs204.specs.declared.outcome.Outcome.TheVariants.{Clean, Corrected, Bad}
use Rattle.forney.specs.Values.{values, stream_of}
use Rattle.forney.specs.Interleaving.{deinterleaved}
use Rattle.outer_chain.specs.Receiving.{Receives, EndsWord}
use Rattle.outer_chain.specs.declared.slot.WordSlot.{WordSlot}
use Rattle.outer_chain.specs.Nears.{near_of}
use Rattle.outer_chain.specs.Running.{bytes_given}
use Rattle.outer_chain.specs.Words.{word_at, word_count, phase_of, phase_before, packets_to, given_packet, written, count, has}
use Rattle.outer_chain.proofs.WordLaws.{phase_same, packets_same, word_more}
use Rattle.outer_chain.proofs.Finishing.{packets_suc}
use Rattle.rescue_words.specs.ByteMargins.{margins_at}
use Rattle.rescue_words.specs.Recovery.{Recovery, IsRecovery, codeword_of}
use Rattle.rescue_words.specs.Recovery.Recovery.{Nearest, Rescued, Lost}
use Rattle.rescue_words.specs.Rescued.{RescueTally, codewords, tally_to, known_words, is_clean, is_corrected, is_rescued, is_lost}
use Rattle.rescue_words.specs.Carrying.{Holds}
use Rattle.rescue_words.specs.Recovering.{IsFinished, HasRecovered, kind_of, outcome_of, counted, is_clean_kind, is_corrected_kind, is_rescued_kind, is_bad_kind}
use Rattle.rescue_words.specs.Running.{WordsState, Stands, Took, counts_of}
use Rattle.rescue_words.specs.Laws.{AllRescued}
use Rattle.rescue_words.specs.declared.counts.WordKind.{WordKind}
use Rattle.rescue_words.specs.declared.counts.WordKind.TheVariants as kind
use Rattle.rescue_words.specs.declared.counts.RescueCounts.{RescueCounts}
use Rattle.rescue_words.proofs.Once.{same_codewords, same_tally}

-- one more recovery
with_recovery : (ℕ → Recovery) → ℕ → Recovery → ℕ → Recovery
with_recovery recovery m r k = cond (eqb k m) r (recovery k)

others : (recovery : ℕ → Recovery) (m : ℕ) (r : Recovery) (k : ℕ) → k < m → with_recovery recovery m r k ≡ recovery k
unfolding with_recovery
others recovery m r k l = ap (λ e. cond e r (recovery k)) (ne_eqb k m (λ h. absurd (omega (arith, h, l))))

this : (recovery : ℕ → Recovery) (m : ℕ) (r : Recovery) → with_recovery recovery m r m ≡ r
unfolding with_recovery
this recovery m r = ap (λ e. cond e r (recovery m)) (eq-eqb m m refl)

phase_suc : (near : ℕ → Option (List ℕ)) (m : ℕ) → phase_of (near m) (phase_before near m) ≡ phase_before near (suc m)
unfolding phase_before
phase_suc near m = refl

-- ---- the kinds

clean_kind : (word : List ℕ) (r : Recovery) → is_clean_kind (kind_of word r) ≡ is_clean word r
clean_kind word (Nearest c) = go (eqb (distance word c) 0)
  where
    go : (b : Bool) → is_clean_kind (cond b kind.Clean kind.Corrected) ≡ b
    go true = refl
    go false = refl
clean_kind word (Rescued c) = refl
clean_kind word Lost = refl

corrected_kind : (word : List ℕ) (r : Recovery) → is_corrected_kind (kind_of word r) ≡ is_corrected word r
corrected_kind word (Nearest c) = go (eqb (distance word c) 0)
  where
    go : (b : Bool) → is_corrected_kind (cond b kind.Clean kind.Corrected) ≡ not b
    go true = refl
    go false = refl
corrected_kind word (Rescued c) = refl
corrected_kind word Lost = refl

rescued_kind : (word : List ℕ) (r : Recovery) → is_rescued_kind (kind_of word r) ≡ is_rescued r
rescued_kind word (Nearest c) = go (eqb (distance word c) 0)
  where
    go : (b : Bool) → is_rescued_kind (cond b kind.Clean kind.Corrected) ≡ false
    go true = refl
    go false = refl
rescued_kind word (Rescued c) = refl
rescued_kind word Lost = refl

bad_kind : (word : List ℕ) (r : Recovery) → is_bad_kind (kind_of word r) ≡ is_lost r
bad_kind word (Nearest c) = go (eqb (distance word c) 0)
  where
    go : (b : Bool) → is_bad_kind (cond b kind.Clean kind.Corrected) ≡ false
    go true = refl
    go false = refl
bad_kind word (Rescued c) = refl
bad_kind word Lost = refl

count_suc : (f : ℕ → Bool) (n : ℕ) (b : Bool) → b ≡ f n → count f n + cond b 1 0 ≡ count f (suc n)
unfolding count
count_suc f n b e = ap (λ b. count f n + cond b 1 0) e ∙ (let t : count f n + cond (f n) 1 0 ≡ cond (f n) 1 0 + count f n = omega arith in t)

-- the next word counted
tally_next : (recovery : ℕ → Recovery) (word : ℕ → List ℕ) (n : ℕ) (w : List ℕ) (r : Recovery) (phase : Option ℕ) → w ≡ word n → r ≡ recovery n → phase ≡ phase_before (codewords recovery) (suc n)
    → counted (counts_of (tally_to recovery word n)) (kind_of w r) (has phase) ≡ counts_of (tally_to recovery word (suc n))
tally_next recovery word n w r phase e f p =
    made _ _ _ _ _ _ _ _ _ _ _ _
    (let t : n + 1 ≡ suc n = omega arith in t)
    (count_suc (λ k. is_clean (word k) (recovery k)) n _ (clean_kind w r ∙ ap₂ is_clean e f))
    (count_suc (λ k. is_corrected (word k) (recovery k)) n _ (corrected_kind w r ∙ ap₂ is_corrected e f))
    (count_suc (λ k. is_rescued (recovery k)) n _ (rescued_kind w r ∙ ap is_rescued f))
    (count_suc (λ k. is_lost (recovery k)) n _ (bad_kind w r ∙ ap is_lost f))
    (count_suc (λ k. not (has (phase_before (codewords recovery) (suc k)))) n _ (ap (λ x. not (has x)) p))
  where
    made : (a b c d e f a2 b2 c2 d2 e2 f2 : ℕ) → a ≡ a2 → b ≡ b2 → c ≡ c2 → d ≡ d2 → e ≡ e2 → f ≡ f2
        → (let t : RescueCounts = record { words = a; clean = b; corrected = c; rescued = d; bad = e; unphased = f } in t) ≡ record { words = a2; clean = b2; corrected = c2; rescued = d2; bad = e2; unphased = f2 }
    made a b c d e f a2 b2 c2 d2 e2 f2 p q r s t u = cc

-- ---- byte by byte

is_recovery_more : (bytes margins more_bytes more_margins : List ℕ) (n : ℕ) (r : Recovery) → n < word_count bytes → n < word_count margins → IsRecovery (word_at bytes n) (margins_at margins n) r
    → IsRecovery (word_at (bytes ++ more_bytes) n) (margins_at (margins ++ more_margins) n) r
is_recovery_more bytes margins more_bytes more_margins n r l m h =
    subst (λ z. IsRecovery z (margins_at (margins ++ more_margins) n) r) (sym (word_more bytes more_bytes n l))
    (subst (λ z. IsRecovery (word_at bytes n) z r) (sym (word_more margins more_margins n m)) h)

same_count : (bytes : List ℕ) (b : ℕ) → (EndsWord (bytes ++ b ∷ []) → ⊥) → word_count (bytes ++ b ∷ []) ≡ word_count bytes
same_count bytes b none = go (cases_lt (word_count bytes) (word_count (bytes ++ b ∷ [])))
  where
    go : (word_count bytes < word_count (bytes ++ b ∷ [])) ⊎ (word_count (bytes ++ b ∷ []) ≤ word_count bytes) → word_count (bytes ++ b ∷ []) ≡ word_count bytes
    go (inl k) = absurd (none (omega (arith, k, length-append bytes (b ∷ [])), omega (arith, k)))
    go (inr k) = omega (arith, k, length-append bytes (b ∷ []))

-- a byte that completes no word
pub stays : (old new : WordsState) (bytes margins given to : List ℕ) (tally : RescueTally) (b m : ℕ) → Stands old bytes margins given tally → Receives new.outer (bytes ++ b ∷ []) → new.outer.phase ≡ old.outer.phase
    → Holds new.margins (margins ++ m ∷ []) → new.counts ≡ old.counts → (EndsWord (bytes ++ b ∷ []) → ⊥) → Took new (bytes ++ b ∷ []) (margins ++ m ∷ []) given to to
stays old new bytes margins given to tally b m h r p g e none =
    let same = same_count bytes b none in
    let many : word_count margins ≡ word_count bytes = ap (λ n. n / 204 - 11) h.as_many in
    let near = codewords h.recovery in
    record {
      written = [];
      is = sym (append-nil to);
      tally = tally;
      stands = record {
        receives = r;
        holds = g;
        as_many = omega (arith, length-append margins (m ∷ []), length-append bytes (b ∷ []), h.as_many);
        recovery = h.recovery;
        is_recovery = λ n l. is_recovery_more bytes margins (b ∷ []) (m ∷ []) n (h.recovery n) (omega (arith, l, same)) (omega (arith, l, same, many)) (h.is_recovery n (omega (arith, l, same)));
        phase = p ∙ h.phase ∙ ap (phase_before near) (sym same);
        packets = append-nil given ∙ h.packets ∙ packets_same near near (word_at bytes) (word_at (bytes ++ b ∷ [])) (word_count bytes) (λ k l. refl) (λ k l. sym (word_more bytes (b ∷ []) k l))
            ∙ ap (packets_to near (word_at (bytes ++ b ∷ []))) (sym same);
        tally_is = h.tally_is ∙ same_tally h.recovery h.recovery (word_at bytes) (word_at (bytes ++ b ∷ [])) (word_count bytes) (λ k l. refl) (λ k l. sym (word_more bytes (b ∷ []) k l))
            ∙ ap (tally_to h.recovery (word_at (bytes ++ b ∷ []))) (sym same);
        counts = e ∙ h.counts;
      };
    }

-- a byte that completes a word, which is then finished
pub finishes : (old new : WordsState) (bytes margins given : List ℕ) (tally : RescueTally) (b m : ℕ) (word marks from to : List ℕ) → Stands old bytes margins given tally → Receives new.outer (bytes ++ b ∷ [])
    → Holds new.margins (margins ++ m ∷ []) → EndsWord (bytes ++ b ∷ []) → word ≡ word_at (bytes ++ b ∷ []) (word_count (bytes ++ b ∷ []) - 1)
    → marks ≡ values (deinterleaved (stream_of (margins ++ m ∷ []))) (204 * (length margins / 204)) 204
    → IsFinished word marks old.outer.phase new.outer.phase from to old.counts new.counts → Took new (bytes ++ b ∷ []) (margins ++ m ∷ []) given from to
unfolding word_at
finishes old new bytes margins given tally b m word marks from to h r g ends w k f =
    let longer = bytes ++ b ∷ [] in
    let n = word_count bytes in
    let long = length-append bytes (b ∷ []) in
    let one : word_count longer ≡ suc n = omega (arith, long, ends.0, ends.1) in
    let last : word_count longer - 1 ≡ n = omega (arith, one) in
    let many : word_count margins ≡ n = ap (λ n. n / 204 - 11) h.as_many in
    let start : length margins / 204 ≡ n + 11 = omega (arith, h.as_many, long, ends.0, ends.1) in
    let recovery = with_recovery h.recovery n f.recovery in
    let word_is : word ≡ word_at longer n = w ∙ ap (word_at longer) last in
    let marks_are : marks ≡ margins_at (margins ++ m ∷ []) n = k ∙ ap (λ z. values (deinterleaved (stream_of (margins ++ m ∷ []))) (204 * z) 204) start in
    let before : (j : ℕ) → j < n → h.recovery j ≡ recovery j = λ j l. sym (others h.recovery n f.recovery j l) in
    let words : (j : ℕ) → j < n → word_at bytes j ≡ word_at longer j = λ j l. sym (word_more bytes (b ∷ []) j l) in
    let here : f.recovery ≡ recovery n = sym (this h.recovery n f.recovery) in
    let phases : new.outer.phase ≡ phase_before (codewords recovery) (suc n) =
    f.phase ∙ ap₂ phase_of (ap codeword_of here) (h.phase ∙ phase_same (codewords h.recovery) (codewords recovery) n (same_codewords h.recovery recovery n before)) ∙ phase_suc (codewords recovery) n in
    record {
      written = written new.outer.phase word (codeword_of f.recovery);
      is = f.is;
      tally = tally_to recovery (word_at longer) (word_count longer);
      stands = record {
        receives = r;
        holds = g;
        as_many = omega (arith, length-append margins (m ∷ []), long, h.as_many);
        recovery = recovery;
        is_recovery = λ j l. elim (cases_lt j n) [
          | inl i ↦ subst (IsRecovery (word_at longer j) (margins_at (margins ++ m ∷ []) j)) (before j i) (is_recovery_more bytes margins (b ∷ []) (m ∷ []) j (h.recovery j) i (omega (arith, i, many)) (h.is_recovery j i))
          | inr i ↦ let e : n ≡ j = omega (arith, l, i, one) in
              subst (λ z. IsRecovery (word_at longer z) (margins_at (margins ++ m ∷ []) z) (recovery z)) e
              (subst (IsRecovery (word_at longer n) (margins_at (margins ++ m ∷ []) n)) here
              (subst (λ z. IsRecovery z (margins_at (margins ++ m ∷ []) n) f.recovery) word_is (subst (λ z. IsRecovery word z f.recovery) marks_are f.is_recovery)))
        ];
        phase = phases ∙ ap (phase_before (codewords recovery)) (sym one);
        packets = ap₂ (λ (x y : List ℕ). x ++ y)
            (h.packets ∙ packets_same (codewords h.recovery) (codewords recovery) (word_at bytes) (word_at longer) n (same_codewords h.recovery recovery n before) words)
            (ap (λ p. written p word (codeword_of f.recovery)) phases ∙ ap₂ (written (phase_before (codewords recovery) (suc n))) word_is (ap codeword_of here))
            ∙ sym (packets_suc (codewords recovery) (word_at longer) n) ∙ ap (packets_to (codewords recovery) (word_at longer)) (sym one);
        tally_is = refl;
        counts = f.counted_is
            ∙ ap (λ (c : RescueCounts). counted c (kind_of word f.recovery) (has new.outer.phase)) (h.counts ∙ ap counts_of (h.tally_is ∙ same_tally h.recovery recovery (word_at bytes) (word_at longer) n before words))
            ∙ tally_next recovery (word_at longer) n word f.recovery new.outer.phase word_is here phases
            ∙ ap (λ z. counts_of (tally_to recovery (word_at longer) z)) (sym one);
      };
    }

-- the same in the terms of the calls: the margins of the word are known exactly if one ends
pub finishes_here : (old mid new : WordsState) (bytes margins given from to : List ℕ) (tally : RescueTally) (b m : ℕ) (word marks : List ℕ) (known : Bool) → Stands old bytes margins given tally
    → Receives mid.outer (bytes ++ b ∷ []) → Holds mid.margins (margins ++ m ∷ []) → mid.outer.phase ≡ old.outer.phase → mid.counts ≡ old.counts
    → EndsWord (bytes ++ b ∷ []) → word ≡ word_at (bytes ++ b ∷ []) (word_count (bytes ++ b ∷ []) - 1)
    → IsTrue known ↔ (length (margins ++ m ∷ []) % 204 ≡ 0) → (IsTrue known → marks ≡ values (deinterleaved (stream_of (margins ++ m ∷ []))) (204 * (length margins / 204)) 204)
    → new.margins ≡ mid.margins → ((z : List ℕ) → Receives mid.outer z → Receives new.outer z)
    → (IsTrue known → IsFinished word marks mid.outer.phase new.outer.phase from to mid.counts new.counts)
    → Took new (bytes ++ b ∷ []) (margins ++ m ∷ []) given from to
finishes_here old mid new bytes margins given from to tally b m word marks known h r g p c ends w some k same receives f =
    let t : IsTrue known = some.1 (omega (arith, ends.0, h.as_many, length-append margins (m ∷ []), length-append bytes (b ∷ []))) in
    finishes old new bytes margins given tally b m word marks from to h (receives (bytes ++ b ∷ []) r) (subst (λ z. Holds z (margins ++ m ∷ [])) (sym same) g) ends w (k t)
    (subst (λ z. IsFinished word marks z new.outer.phase from to old.counts new.counts) p (subst (λ z. IsFinished word marks mid.outer.phase new.outer.phase from to z new.counts) c (f t)))

-- at the start
pub nothing_stands : (s : WordsState) → Receives s.outer [] → s.outer.phase ≡ None → Holds s.margins [] → s.counts ≡ record { words = 0; clean = 0; corrected = 0; rescued = 0; bad = 0; unphased = 0 }
    → Stands s [] [] [] (record { words = 0; clean = 0; corrected = 0; rescued = 0; bad = 0; unphased = 0 })
unfolding phase_before packets_to count
nothing_stands s r p g e = record {
  receives = r;
  holds = g;
  as_many = refl;
  recovery = λ n. Lost;
  is_recovery = λ n l. absurd (omega (arith, l));
  phase = p;
  packets = refl;
  tally_is = refl;
  counts = e;
}

-- ---- everything known

pub all_rescued : AllRescued
all_rescued s bytes margins more_bytes more_margins out tally h e =
    let n = word_count bytes in
    let many : word_count margins ≡ n = ap (λ n. n / 204 - 11) h.as_many in
    let known : known_words (bytes ++ more_bytes) (margins ++ more_margins) ≡ n = elim e [
      | inl i ↦ omega (arith, many, length-append bytes more_bytes, length-append margins more_margins, ap length i)
      | inr i ↦ omega (arith, many, length-append bytes more_bytes, length-append margins more_margins, ap length i)
    ] in
    let words : (j : ℕ) → j < n → word_at bytes j ≡ word_at (bytes ++ more_bytes) j = λ j l. sym (word_more bytes more_bytes j l) in
    let near = codewords h.recovery in
    record {
      recovery = h.recovery;
      is_recovery = λ j l. is_recovery_more bytes margins more_bytes more_margins j (h.recovery j) (omega (arith, l, known)) (omega (arith, l, known, many)) (h.is_recovery j (omega (arith, l, known)));
      packets = h.packets ∙ packets_same near near (word_at bytes) (word_at (bytes ++ more_bytes)) n (λ k l. refl) words ∙ ap (packets_to near (word_at (bytes ++ more_bytes))) (sym known);
      counts = h.tally_is ∙ same_tally h.recovery h.recovery (word_at bytes) (word_at (bytes ++ more_bytes)) n (λ k l. refl) words ∙ ap (tally_to h.recovery (word_at (bytes ++ more_bytes))) (sym known);
    }

-- ---- a word

-- the slot of a recovered word has its codeword
held_near : (word : List ℕ) (recovery : Recovery) → near_of (outcome_of word recovery) (unwrap_or (codeword_of recovery) word) ≡ codeword_of recovery
held_near word (Nearest c) = go (eqb (distance word c) 0)
  where
    go : (b : Bool) → near_of (cond b Clean (Corrected (distance word c))) c ≡ Some c
    go true = refl
    go false = refl
held_near word (Rescued c) = refl
held_near word Lost = refl

-- and its packet is that of the word
held_written : (word : List ℕ) (recovery : Recovery) (phase : Option ℕ) → written phase (unwrap_or (codeword_of recovery) word) (codeword_of recovery) ≡ written phase word (codeword_of recovery)
held_written word recovery None = refl
held_written word (Nearest c) (Some f) = refl
held_written word (Rescued c) (Some f) = refl
held_written word Lost (Some f) = refl

packet_written : (phase : Option ℕ) (word : List ℕ) (near : Option (List ℕ)) → bytes_given (given_packet phase word near) ≡ written phase word near
packet_written None word near = refl
packet_written (Some f) word near = refl

has_packet : (phase : Option ℕ) (word : List ℕ) (near : Option (List ℕ)) → is_some (given_packet phase word near) ≡ has phase
has_packet None word near = refl
has_packet (Some f) word near = refl

-- a word was recovered, its slot finished, and it was counted and written
pub word_finished : (word margins : List ℕ) (slot : WordSlot) (counts_as : WordKind) (before after : Option ℕ) (packet : Option (List ℕ)) (from to : List ℕ) (counts now : RescueCounts)
    → HasRecovered word margins slot counts_as → after ≡ phase_of (near_of slot.outcome slot.word) before → packet ≡ given_packet after slot.word (near_of slot.outcome slot.word)
    → now ≡ counted counts counts_as (is_some packet) → to ≡ from ++ bytes_given packet → IsFinished word margins before after from to counts now
word_finished word margins slot counts_as before after packet from to counts now h p g c w =
    let near : near_of slot.outcome slot.word ≡ codeword_of h.recovery = ap₂ near_of h.outcome_is h.holds ∙ held_near word h.recovery in
    let given : packet ≡ given_packet after slot.word (codeword_of h.recovery) = g ∙ ap (given_packet after slot.word) near in
    let is_written : written after slot.word (codeword_of h.recovery) ≡ written after word (codeword_of h.recovery) =
    ap (λ w. written after w (codeword_of h.recovery)) h.holds ∙ held_written word h.recovery after in
    record {
      recovery = h.recovery;
      is_recovery = h.is_recovery;
      phase = p ∙ ap (λ x. phase_of x before) near;
      is = w ∙ ap (λ z. from ++ z) (ap bytes_given given ∙ packet_written after slot.word (codeword_of h.recovery) ∙ is_written);
      counted_is = c ∙ ap₂ (counted counts) h.kind_is (ap is_some given ∙ has_packet after slot.word (codeword_of h.recovery));
    }
