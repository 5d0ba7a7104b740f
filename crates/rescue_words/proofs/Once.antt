-- The recovery of a word is unique, so there is one list of packets and one tally, and packets already written stay.
use Rattle.std.proofs.Common.{◌≡◌, ℕ, zero, suc, ◌+◌, ◌-◌, ◌<◌, ◌≤◌, Bool, not, cond, List, [], ◌++◌, length, take, refl, sym, ap, ap₂, ◌∙◌, subst, arith, length-append, append-nil, append_assoc}
use Rattle.std.specs.Prelude.{Option, Some, None}
use Rattle.std.proofs.Math.Seq.{take-append_seam}
use Rattle.bit_margin.specs.Laws.{LeastOnce}
use Rattle.bit_margin.specs.Places.{AreLeast}
use Rattle.rs_erasure.specs.Outside.{IsOutside, IsFarOutside}
use Rattle.rs_erasure.proofs.Outside.{one_outside}
use Rattle.outer_chain.specs.Words.{word_at, IsNear, phase_before, packets_to, written, count, has}
use Rattle.outer_chain.proofs.OwnWords.{length-word_at}
use Rattle.outer_chain.proofs.WordLaws.{one_near, phase_same, packets_same, word_more}
use Rattle.outer_chain.proofs.Finishing.{packets_suc}
use Rattle.rescue_words.specs.ByteMargins.{margins_at}
use Rattle.rescue_words.specs.Recovery.{Recovery, IsRecovery, IsSaved, IsLost, codeword_of}
use Rattle.rescue_words.specs.Recovery.Recovery.{Nearest, Rescued, Lost}
use Rattle.rescue_words.specs.Rescued.{RescueTally, codewords, tally_to, known_words, is_clean, is_corrected, is_rescued, is_lost}
use Rattle.rescue_words.specs.Laws.{OneRecovery, OneRescue, MoreRescued}

-- ---- one recovery

one_nearest : (c d : List ℕ) → Some c ≡ Some d → Nearest c ≡ Nearest d
one_nearest c d e = cc

not_near : (word c : List ℕ) → IsNear word None → IsNear word (Some c) → ⊥
not_near word c far near = omega (arith, far c near.0, near.1)

same_places : LeastOnce → (margins ps qs : List ℕ) → AreLeast margins 204 ps → AreLeast margins 204 qs → ps ≡ qs
same_places once margins ps qs p q = once margins 204 ps qs p q

saved_once : LeastOnce → (word margins c d : List ℕ) → length word ≡ 204 → IsSaved word margins c → IsSaved word margins d → c ≡ d
saved_once once word margins c d long p q =
    let same = same_places once margins p.erased q.erased p.least q.least in
    let out : IsOutside word p.erased q.apart d = subst (λ ps. IsOutside word ps q.apart d) (sym same) q.outside in
    one_outside word p.erased c d long p.least.long p.outside.code out.code (omega (arith, p.outside.apart, p.outside.few)) (omega (arith, out.apart, out.few))

saved_or_lost : LeastOnce → (word margins c : List ℕ) → IsSaved word margins c → IsLost word margins → ⊥
saved_or_lost once word margins c p q =
    let far : IsFarOutside word p.erased = subst (λ ps. IsFarOutside word ps) (sym (same_places once margins p.erased q.erased p.least q.least)) q.far in
    omega (arith, far c p.outside.code, p.outside.apart, p.outside.few)

pub one_recovery : LeastOnce → OneRecovery
one_recovery once word margins (Nearest c) (Nearest d) l p q = one_nearest c d (one_near word (Some c) (Some d) l p q)
one_recovery once word margins (Nearest c) (Rescued d) l p q = absurd (not_near word c q.0 p)
one_recovery once word margins (Nearest c) Lost l p q = absurd (not_near word c q.0 p)
one_recovery once word margins (Rescued c) (Nearest d) l p q = absurd (not_near word d p.0 q)
one_recovery once word margins (Rescued c) (Rescued d) l p q = ap Rescued (saved_once once word margins c d l p.1 q.1)
one_recovery once word margins (Rescued c) Lost l p q = absurd (saved_or_lost once word margins c p.1 q.1)
one_recovery once word margins Lost (Nearest d) l p q = absurd (not_near word d p.0 q)
one_recovery once word margins Lost (Rescued d) l p q = absurd (saved_or_lost once word margins d q.1 p.1)
one_recovery once word margins Lost Lost l p q = refl

-- ---- the same words have the same output

abbrev one : Bool → ℕ
one b = cond b 1 0

count_same : (f g : ℕ → Bool) (n : ℕ) → ((k : ℕ) → k < n → f k ≡ g k) → count f n ≡ count g n
unfolding count
count_same f g zero h = refl
count_same f g (suc n) h = ap₂ (λ (a b : ℕ). a + b) (ap one (h n (omega arith))) (count_same f g n (λ k l. h k (omega arith)))

pub same_codewords : (recovery other : ℕ → Recovery) (m : ℕ) → ((k : ℕ) → k < m → recovery k ≡ other k) → (k : ℕ) → k < m → codewords recovery k ≡ codewords other k
same_codewords recovery other m h k l = ap codeword_of (h k l)

pub same_tally : (recovery other : ℕ → Recovery) (word words : ℕ → List ℕ) (m : ℕ) → ((k : ℕ) → k < m → recovery k ≡ other k) → ((k : ℕ) → k < m → word k ≡ words k) → tally_to recovery word m ≡ tally_to other words m
same_tally recovery other word words m h g =
    made m _ _ _ _ _ _ _ _ _ _
    (count_same (λ k. is_clean (word k) (recovery k)) (λ k. is_clean (words k) (other k)) m (λ k l. ap₂ is_clean (g k l) (h k l)))
    (count_same (λ k. is_corrected (word k) (recovery k)) (λ k. is_corrected (words k) (other k)) m (λ k l. ap₂ is_corrected (g k l) (h k l)))
    (count_same (λ k. is_rescued (recovery k)) (λ k. is_rescued (other k)) m (λ k l. ap is_rescued (h k l)))
    (count_same (λ k. is_lost (recovery k)) (λ k. is_lost (other k)) m (λ k l. ap is_lost (h k l)))
    (count_same (λ k. not (has (phase_before (codewords recovery) (suc k)))) (λ k. not (has (phase_before (codewords other) (suc k)))) m
    (λ k l. ap (λ x. not (has x)) (phase_same (codewords recovery) (codewords other) (suc k) (λ j i. same_codewords recovery other m h j (omega (arith, i, l))))))
  where
    made : (m a b c d e a2 b2 c2 d2 e2 : ℕ) → a ≡ a2 → b ≡ b2 → c ≡ c2 → d ≡ d2 → e ≡ e2 → (let t : RescueTally = record { words = m; clean = a; corrected = b; rescued = c; bad = d; unphased = e } in t) ≡ record { words = m; clean = a2; corrected = b2; rescued = c2; bad = d2; unphased = e2 }
    made m a b c d e a2 b2 c2 d2 e2 p q r s t = cc

-- ---- one rescue

pub one_rescue : LeastOnce → OneRescue
one_rescue once bytes margins out other tally counts p q =
    let m = known_words bytes margins in
    let same : (k : ℕ) → k < m → p.recovery k ≡ q.recovery k = λ k l. one_recovery once (word_at bytes k) (margins_at margins k) (p.recovery k) (q.recovery k) (length-word_at bytes k) (p.is_recovery k l) (q.is_recovery k l) in (
      p.packets ∙ packets_same (codewords p.recovery) (codewords q.recovery) (word_at bytes) (word_at bytes) m (same_codewords p.recovery q.recovery m same) (λ k l. refl) ∙ sym q.packets,
      p.counts ∙ same_tally p.recovery q.recovery (word_at bytes) (word_at bytes) m same (λ k l. refl) ∙ sym q.counts,
    )

-- ---- more

more_written : (near : ℕ → Option (List ℕ)) (word : ℕ → List ℕ) (m d : ℕ) → (rest : List ℕ) × (packets_to near word (d + m) ≡ packets_to near word m ++ rest)
more_written near word m zero = ([], ap (packets_to near word) (let e : 0 + m ≡ m = omega arith in e) ∙ sym (append-nil (packets_to near word m)))
more_written near word m (suc d) =
    let r = more_written near word m d in
    let e : suc d + m ≡ suc (d + m) = omega arith in (
      r.0 ++ written (phase_before near (suc (d + m))) (word (d + m)) (near (d + m)),
      ap (packets_to near word) e ∙ packets_suc near word (d + m) ∙ ap (λ (l : List ℕ). l ++ written (phase_before near (suc (d + m))) (word (d + m)) (near (d + m))) r.1 ∙ append_assoc (packets_to near word m) r.0 _,
    )

pub more_rescued : LeastOnce → MoreRescued
more_rescued once bytes margins more_bytes more_margins out longer tally counts p q =
    let m = known_words bytes margins in
    let l = known_words (bytes ++ more_bytes) (margins ++ more_margins) in
    let le : m ≤ l = omega (arith, length-append bytes more_bytes, length-append margins more_margins) in
    let w : l - m + m ≡ l = omega (arith, le) in
    let words : (k : ℕ) → k < m → word_at (bytes ++ more_bytes) k ≡ word_at bytes k = λ k i. word_more bytes more_bytes k (omega (arith, i)) in
    let marks : (k : ℕ) → k < m → margins_at (margins ++ more_margins) k ≡ margins_at margins k = λ k i. word_more margins more_margins k (omega (arith, i)) in
    let same : (k : ℕ) → k < m → q.recovery k ≡ p.recovery k = λ k i.
    one_recovery once (word_at bytes k) (margins_at margins k) (q.recovery k) (p.recovery k) (length-word_at bytes k)
    (subst (λ z. IsRecovery z (margins_at margins k) (q.recovery k)) (words k i) (subst (λ z. IsRecovery (word_at (bytes ++ more_bytes) k) z (q.recovery k)) (marks k i) (q.is_recovery k (omega (arith, i, le)))))
    (p.is_recovery k i) in
    let r = more_written (codewords q.recovery) (word_at (bytes ++ more_bytes)) m (l - m) in
    let first : packets_to (codewords q.recovery) (word_at (bytes ++ more_bytes)) m ≡ out =
    packets_same (codewords q.recovery) (codewords p.recovery) (word_at (bytes ++ more_bytes)) (word_at bytes) m (same_codewords q.recovery p.recovery m same) words ∙ sym p.packets in
    let e : longer ≡ out ++ r.0 = q.packets ∙ ap (packets_to (codewords q.recovery) (word_at (bytes ++ more_bytes))) (sym w) ∙ r.1 ∙ ap (λ (l : List ℕ). l ++ r.0) first in
    ap (take (length out)) e ∙ take-append_seam out r.0
