-- What a receiver has written, as bytes come and words are finished.
use Rattle.std.proofs.Common.{◌≡◌, ℕ, suc, ◌+◌, ◌<◌, inl, inr, cond, eqb, not, ◌&&◌, List, [], ◌∷◌, ◌++◌, refl, sym, ◌∙◌, ap, ap₂, subst, arith, length-append}
use Rattle.std.specs.Prelude.{Option, Some, None}
use Rattle.std.proofs.lemmas.Bool.{cases_lt, ne_eqb, eq-eqb}
use Rattle.rs204.specs.Codes.{distance}
use Rattle.rs204.specs.Decoded.{Decoded}
use Rattle.rs204.specs.declared.outcome.Outcome.{Outcome}
use Rattle.rs204.specs.declared.outcome.Outcome.TheVariants.{Clean, Corrected, Bad}
use Rattle.outer_chain.specs.Nears.{near_of}
use Rattle.outer_chain.specs.Words.{word_at, IsNear, phase_of, phase_before, written, given_packet, packets_to, Tally, tally_to, count, is_clean, has}
use Rattle.outer_chain.specs.Running.{is_clean_outcome, is_corrected_outcome, is_bad_outcome, counted, bytes_given, NothingFinished, TookByte, TookBytes, FinishedWord, AllFinished, WordStays}
use Rattle.outer_chain.proofs.OwnWords.{length-word_at}
use Rattle.outer_chain.proofs.WordLaws.{word_more, packets_same, phase_same, tally_same, distance_self}
use Rattle.outer_chain.proofs.DecodedWords.{decoded_is_near, decoded_packet}

-- one Near more
abbrev pub with_near : (ℕ → Option (List ℕ)) → ℕ → Option (List ℕ) → ℕ → Option (List ℕ)
with_near near m x k = cond (eqb k m) x (near k)

pub others : (near : ℕ → Option (List ℕ)) (m : ℕ) (x : Option (List ℕ)) (k : ℕ) → k < m → with_near near m x k ≡ near k
others near m x k l = ap (λ e. cond e x (near k)) (ne_eqb k m (λ h. absurd (omega arith)))

pub this : (near : ℕ → Option (List ℕ)) (m : ℕ) (x : Option (List ℕ)) → with_near near m x m ≡ x
this near m x = ap (λ e. cond e x (near m)) (eq-eqb m m refl)

pub given_written : (phase : Option ℕ) (word : List ℕ) (near : Option (List ℕ)) → bytes_given (given_packet phase word near) ≡ written phase word near
given_written None word near = refl
given_written (Some f) word near = refl

pub decoded_written : (old new : List ℕ) (outcome : Outcome) (phase : Option ℕ) → Decoded old new outcome → written phase new (near_of outcome new) ≡ written phase old (near_of outcome new)
decoded_written old new outcome None d = refl
decoded_written old new outcome (Some f) d = decoded_packet old new outcome f d

pub packets_suc : (near : ℕ → Option (List ℕ)) (word : ℕ → List ℕ) (m : ℕ) → packets_to near word (suc m) ≡ packets_to near word m ++ written (phase_before near (suc m)) (word m) (near m)
unfolding packets_to
packets_suc near word m = refl

pub near_all : (near : ℕ → Option (List ℕ)) (m : ℕ) (x : Option (List ℕ)) (word words : ℕ → List ℕ) → ((n : ℕ) → n < m → IsNear (word n) (near n)) → ((n : ℕ) → n < m → word n ≡ words n) → IsNear (words m) x → (n : ℕ) → n < suc m → IsNear (words n) (with_near near m x n)
near_all near m x word words h g f n l = elim (cases_lt n m) [
  | inl lt ↦ subst (IsNear (words n)) (sym (others near m x n lt)) (subst (λ w. IsNear w (near n)) (g n lt) (h n lt))
  | inr ge ↦ let q : n ≡ m = omega arith in subst (λ k. IsNear (words k) (with_near near m x k)) (sym q) (subst (IsNear (words m)) (sym (this near m x)) f)
]

-- ---- the counts

clean_outcome : (old new : List ℕ) (outcome : Outcome) → Decoded old new outcome → is_clean old (near_of outcome new) ≡ is_clean_outcome outcome
clean_outcome old new Clean d = ap (λ w. eqb (distance old w) 0) d.1 ∙ eq-eqb (distance old old) 0 (distance_self old)
clean_outcome old new (Corrected n) d = ne_eqb (distance old new) 0 (λ e. absurd (omega (arith, d.1, d.2, e)))
clean_outcome old new Bad d = refl

corrected_outcome : (old new : List ℕ) (outcome : Outcome) → Decoded old new outcome → (has (near_of outcome new) && not (is_clean old (near_of outcome new))) ≡ is_corrected_outcome outcome
corrected_outcome old new Clean d = ap not (clean_outcome old new Clean d)
corrected_outcome old new (Corrected n) d = ap not (clean_outcome old new (Corrected n) d)
corrected_outcome old new Bad d = refl

bad_outcome : (word : List ℕ) (outcome : Outcome) → not (has (near_of outcome word)) ≡ is_bad_outcome outcome
bad_outcome word Clean = refl
bad_outcome word (Corrected n) = refl
bad_outcome word Bad = refl

tally_next : (near : ℕ → Option (List ℕ)) (word : ℕ → List ℕ) (m : ℕ) (decoded : List ℕ) (outcome : Outcome) (phase : Option ℕ) → Decoded (word m) decoded outcome → near m ≡ near_of outcome decoded → phase ≡ phase_before near (suc m)
    → counted (tally_to near word m) outcome phase ≡ tally_to near word (suc m)
unfolding count
tally_next near word m decoded outcome phase d n p =
    made m _ _ _ _ _ _ _ _ _
    (let e : m + 1 ≡ suc m = omega arith in e)
    (ap (λ b. cond b 1 0 + count (λ k. is_clean (word k) (near k)) m) (sym (ap (is_clean (word m)) n ∙ clean_outcome (word m) decoded outcome d)))
    (ap (λ b. cond b 1 0 + count (λ k. has (near k) && not (is_clean (word k) (near k))) m) (sym (ap (λ x. has x && not (is_clean (word m) x)) n ∙ corrected_outcome (word m) decoded outcome d)))
    (ap (λ b. cond b 1 0 + count (λ k. not (has (near k))) m) (sym (ap (λ x. not (has x)) n ∙ bad_outcome decoded outcome)))
    (ap (λ f. cond (not (has f)) 1 0 + count (λ k. not (has (phase_before near (suc k)))) m) p)
  where
    made : (m a b c d n a' b' c' d' : ℕ) → m + 1 ≡ n → a ≡ a' → b ≡ b' → c ≡ c' → d ≡ d' → (let t : Tally = record { words = m + 1; clean = a; corrected = b; bad = c; unphased = d } in t) ≡ record { words = n; clean = a'; corrected = b'; bad = c'; unphased = d' }
    made m a b c d n a' b' c' d' w e f g h = cc

-- ---- the laws

pub nothing_finished : NothingFinished
unfolding phase_before packets_to count
nothing_finished receiver r p = record {
  receives = r;
  within = omega arith;
  near = λ n. None;
  is_near = λ n l. absurd (omega arith);
  phase = p;
  is = refl;
  tally_is = refl;
}

pub took_bytes : TookBytes
took_bytes old new bytes more out tally done h r p = record {
  receives = r;
  within = omega (arith, h.within, length-append bytes more);
  near = h.near;
  is_near = λ n l. subst (λ w. IsNear w (h.near n)) (sym (word_more bytes more n (omega (arith, h.within)))) (h.is_near n l);
  phase = p ∙ h.phase;
  is = h.is ∙ packets_same h.near h.near (word_at bytes) (word_at (bytes ++ more)) done (λ k l. refl) (λ k l. sym (word_more bytes more k (omega (arith, h.within))));
  tally_is = h.tally_is ∙ tally_same h.near h.near (word_at bytes) (word_at (bytes ++ more)) done (λ k l. refl) (λ k l. sym (word_more bytes more k (omega (arith, h.within))));
}

pub took_byte : TookByte
took_byte old new bytes out tally done b h r p = took_bytes old new bytes (b ∷ []) out tally done h r p

pub finished_word : FinishedWord
unfolding phase_before
finished_word old new bytes out after decoded tally outcome done h l r d p e =
    let x = near_of outcome decoded in
    let near = with_near h.near done x in
    let word = word_at bytes in
    let found : IsNear (word done) x = decoded_is_near (word done) decoded outcome (length-word_at bytes done) d in
    let phases : new.phase ≡ phase_before near (suc done) = p ∙ ap₂ phase_of (sym (this h.near done x)) (h.phase ∙ phase_same h.near near done (λ k l. sym (others h.near done x k l))) in
    let more : done + 1 ≡ suc done = omega arith in
    record {
      receives = r;
      within = omega arith;
      near = near;
      is_near = λ n l. near_all h.near done x word word h.is_near (λ k i. refl) found n (omega arith);
      phase = phases ∙ ap (phase_before near) (sym more);
      is = e ∙ ap₂ (λ (a b : List ℕ). a ++ b)
          (h.is ∙ packets_same h.near near word word done (λ k l. sym (others h.near done x k l)) (λ k l. refl))
          (given_written new.phase decoded x ∙ decoded_written (word done) decoded outcome new.phase d ∙ ap (λ f. written f (word done) x) phases ∙ ap (written (phase_before near (suc done)) (word done)) (sym (this h.near done x)))
          ∙ sym (packets_suc near word done) ∙ ap (packets_to near word) (sym more);
      tally_is = ap (λ t. counted t outcome new.phase) (h.tally_is ∙ tally_same h.near near word word done (λ k l. sym (others h.near done x k l)) (λ k l. refl))
          ∙ tally_next near word done decoded outcome new.phase d (this h.near done x) phases ∙ ap (tally_to near word) (sym more);
    }

pub all_finished : AllFinished
all_finished receiver bytes out tally h = (
  record { near = h.near; is_near = h.is_near; is = h.is },
  record { near = h.near; is_near = h.is_near; is = h.tally_is },
)

pub word_stays : WordStays
word_stays bytes more n l = word_more bytes more n l
