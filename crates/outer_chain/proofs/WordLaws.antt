-- The laws of received words.
use Rattle.std.proofs.Common.{◌≡◌, ℕ, zero, suc, ◌+◌, ◌-◌, ◌*◌, ◌/◌, ◌%◌, ◌<◌, ◌≤◌, Bool, true, false, cond, eqb, not, ◌&&◌, List, [], ◌∷◌, ◌++◌, length, get_or, take, refl, sym, ◌∙◌, ap, ap₂, subst, arith, length-append, ltb, append_assoc, lit<}
use Rattle.std.proofs.lemmas.List.{append-nil}
use Rattle.std.proofs.Math.Seq.{take-append_seam}
use Rattle.std.specs.Prelude.{Option, Some, None}
use Rattle.std.proofs.lemmas.Bool.{cond_both, eqb-false}
use Rattle.rs204.specs.Codes.{distance, AreBytes}
use Rattle.forney.specs.Values.{values, stream_of}
use Rattle.forney.specs.Interleaving.{deinterleaved}
use Rattle.forney.proofs.ValueLists.{values_same}
use Rattle.forney.proofs.DelayLines.{delayed_append}
use Rattle.outer_chain.specs.Words.{word_at, word_count, IsNear, phase_of, phase_before, written, packets_to, Tally, tally_to, count, is_clean, has}
use Rattle.outer_chain.specs.Sent.{ArePackets, code_at, coded_byte, outer_byte, outer_bytes}
use Rattle.outer_chain.specs.Laws.{OuterAreBytes, OwnBytes, OwnTally, BurstNear, BurstPhases, BurstPackets, OneNear, OnePackets, OneTally, MorePackets}
use Rattle.outer_chain.proofs.NearWords.{near_is}
use Rattle.outer_chain.proofs.OwnWords.{code_of, own_word, phases, no_burst, received_count, received_near, same_packets, length-word_at}

-- ---- bytes

byte_at : (xs : List ℕ) (i : ℕ) → AreBytes xs → get_or xs i 0 < 256
byte_at [] i s = omega arith
byte_at (x ∷ xs) zero s = s.0
byte_at (x ∷ xs) (suc i) s = byte_at xs i s.1

values_bytes : (f : ℕ → ℕ) (i n : ℕ) → ((k : ℕ) → f k < 256) → AreBytes (values f i n)
unfolding values
values_bytes f i zero h = tt
values_bytes f i (suc n) h = (h i, values_bytes f (suc i) n h)

coded_small : (packets : List (List ℕ)) (p : ℕ) → ArePackets packets → coded_byte packets p < 256
unfolding coded_byte
coded_small packets p h = byte_at (code_at packets (p / 204)) (p % 204) (code_of packets (p / 204) h).code.bytes

pub outer_small : (packets : List (List ℕ)) (p : ℕ) → ArePackets packets → outer_byte packets p < 256
outer_small packets p h = cond_both (ltb p (204 * (p % 12))) 0 (coded_byte packets (p - 204 * (p % 12))) (λ x. x < 256) (λ e. lit< tt) (λ e. coded_small packets (p - 204 * (p % 12)) h)

pub outer_are_bytes : OuterAreBytes
unfolding outer_bytes
outer_are_bytes packets n h = values_bytes (outer_byte packets) 0 n (λ p. outer_small packets p h)

pub own_bytes : OwnBytes
own_bytes packets n out h p = same_packets packets n (outer_bytes packets n) out h (no_burst _) p

-- ---- counts

abbrev one : Bool → ℕ
one b = cond b 1 0

count_all : (f : ℕ → Bool) (n : ℕ) → ((k : ℕ) → k < n → f k ≡ true) → count f n ≡ n
unfolding count
count_all f zero h = refl
count_all f (suc n) h = omega (arith, ap one (h n (omega arith)), count_all f n (λ k l. h k (omega arith)))

count_no : (f : ℕ → Bool) (n : ℕ) → ((k : ℕ) → k < n → f k ≡ false) → count f n ≡ 0
unfolding count
count_no f zero h = refl
count_no f (suc n) h = omega (arith, ap one (h n (omega arith)), count_no f n (λ k l. h k (omega arith)))

pub distance_self : (w : List ℕ) → distance w w ≡ 0
distance_self [] = refl
distance_self (a ∷ w) = go (eqb a a) refl (distance_self w)
  where
    go : (b : Bool) → eqb a a ≡ b → distance w w ≡ 0 → cond b 0 1 + distance w w ≡ 0
    go true e r = omega arith
    go false e r = absurd (eqb-false a a e refl)

pub own_tally : OwnTally
own_tally packets n tally h t =
    let o = outer_bytes packets n in
    let m = n / 204 - 11 in
    let size : word_count o ≡ m = received_count packets n o (no_burst o) in
    let near : (k : ℕ) → k < m → t.near k ≡ Some (code_at packets k) = λ k l. received_near packets n k o (t.near k) h (no_burst o) l (t.is_near k (omega (arith, size))) in
    let clean : (k : ℕ) → k < m → is_clean (word_at o k) (t.near k) ≡ true = λ k l.
    ap₂ is_clean (own_word packets n k h (omega arith)) (near k l) ∙ ap (λ d. eqb d 0) (distance_self (code_at packets k)) in
    let phase : (k : ℕ) → k < m → phase_before t.near (suc k) ≡ Some (k % 8) = λ k l. phases t.near packets k h (λ j i. near j (omega arith)) in
    t.is ∙ ap (tally_to t.near (word_at o)) size
    ∙ made m _ _ _ _
    (count_all (λ k. is_clean (word_at o k) (t.near k)) m clean)
    (count_no (λ k. has (t.near k) && not (is_clean (word_at o k) (t.near k))) m (λ k l. ap₂ (λ x y. has x && not y) (near k l) (clean k l)))
    (count_no (λ k. not (has (t.near k))) m (λ k l. ap (λ x. not (has x)) (near k l)))
    (count_no (λ k. not (has (phase_before t.near (suc k)))) m (λ k l. ap (λ x. not (has x)) (phase k l)))
  where
    made : (m a b c d : ℕ) → a ≡ m → b ≡ 0 → c ≡ 0 → d ≡ 0 → (let t : Tally = record { words = m; clean = a; corrected = b; bad = c; unphased = d } in t) ≡ record { words = m; clean = m; corrected = 0; bad = 0; unphased = 0 }
    made m a b c d e f g h = cc

-- ---- bursts

pub burst_near : BurstNear
burst_near packets n received h b k near l i = received_near packets n k received near h b l i

pub burst_phases : BurstPhases
burst_phases packets n received h b near i k l =
    let e : k + 1 ≡ suc k = omega arith in
    ap (phase_before near) e ∙ phases near packets k h (λ j m. received_near packets n j received (near j) h b (omega arith) (i j (omega arith)))

pub burst_packets : BurstPackets
burst_packets packets n received out h b p = same_packets packets n received out h b p

-- ---- one list, and more bytes

pub one_near : OneNear
one_near word None None l h k = refl
one_near word None (Some c) l h k = absurd (omega (arith, h c k.0, k.1))
one_near word (Some c) other l h k = sym (near_is word c other l h.0 h.1 k)

pub phase_same : (near other : ℕ → Option (List ℕ)) (m : ℕ) → ((k : ℕ) → k < m → near k ≡ other k) → phase_before near m ≡ phase_before other m
unfolding phase_before
phase_same near other zero h = refl
phase_same near other (suc m) h = ap₂ phase_of (h m (omega arith)) (phase_same near other m (λ k l. h k (omega arith)))

pub packets_same : (near other : ℕ → Option (List ℕ)) (word words : ℕ → List ℕ) (m : ℕ) → ((k : ℕ) → k < m → near k ≡ other k) → ((k : ℕ) → k < m → word k ≡ words k) → packets_to near word m ≡ packets_to other words m
unfolding packets_to
packets_same near other word words zero h g = refl
packets_same near other word words (suc m) h g =
    let p = phase_same near other (suc m) h in let w = g m (omega arith) in let n = h m (omega arith) in
    ap₂ (λ (a b : List ℕ). a ++ b) (packets_same near other word words m (λ k l. h k (omega arith)) (λ k l. g k (omega arith)))
    (ap (λ f. written f (word m) (near m)) p ∙ ap₂ (written (phase_before other (suc m))) w n)

pub one_packets : OnePackets
one_packets bytes out other p q =
    p.is ∙ packets_same p.near q.near (word_at bytes) (word_at bytes) (word_count bytes) (λ k l. one_near (word_at bytes k) (p.near k) (q.near k) (length-word_at bytes k) (p.is_near k l) (q.is_near k l)) (λ k l. refl) ∙ sym q.is

pub word_more : (bytes more : List ℕ) (k : ℕ) → k < word_count bytes → word_at (bytes ++ more) k ≡ word_at bytes k
unfolding word_at
word_more bytes more k l =
    values_same (deinterleaved (stream_of (bytes ++ more))) (deinterleaved (stream_of bytes)) (204 * (k + 11)) (204 * (k + 11)) 204
    (λ t m. delayed_append bytes more (204 * (k + 11) + t) (204 * (11 - (204 * (k + 11) + t) % 12)) (omega arith))

packets_add : (near : ℕ → Option (List ℕ)) (word : ℕ → List ℕ) (m d : ℕ) → (rest : List ℕ) × (packets_to near word (d + m) ≡ packets_to near word m ++ rest)
unfolding packets_to
packets_add near word m zero = ([], ap (packets_to near word) (let e : 0 + m ≡ m = omega arith in e) ∙ sym (append-nil (packets_to near word m)))
packets_add near word m (suc d) =
    let r = packets_add near word m d in
    let e : suc d + m ≡ suc (d + m) = omega arith in (
      r.0 ++ written (phase_before near (suc (d + m))) (word (d + m)) (near (d + m)),
      ap (packets_to near word) e ∙ ap (λ (l : List ℕ). l ++ written (phase_before near (suc (d + m))) (word (d + m)) (near (d + m))) r.1 ∙ append_assoc (packets_to near word m) r.0 _,
    )

pub more_packets : MorePackets
more_packets bytes more out longer p q =
    let m = word_count bytes in let l = word_count (bytes ++ more) in
    let le : m ≤ l = omega (arith, length-append bytes more) in
    let r = packets_add q.near (word_at (bytes ++ more)) m (l - m) in
    let w : l - m + m ≡ l = omega arith in
    let same : packets_to q.near (word_at (bytes ++ more)) m ≡ out =
    packets_same q.near p.near (word_at (bytes ++ more)) (word_at bytes) m
    (λ k i. one_near (word_at bytes k) (q.near k) (p.near k) (length-word_at bytes k) (subst (λ w. IsNear w (q.near k)) (word_more bytes more k i) (q.is_near k (omega arith))) (p.is_near k i))
    (λ k i. word_more bytes more k i) ∙ sym p.is in
    let e : longer ≡ out ++ r.0 = q.is ∙ ap (packets_to q.near (word_at (bytes ++ more))) (sym w) ∙ r.1 ∙ ap (λ (l : List ℕ). l ++ r.0) same in
    ap (take (length out)) e ∙ take-append_seam out r.0

count_same : (f g : ℕ → Bool) (n : ℕ) → ((k : ℕ) → k < n → f k ≡ g k) → count f n ≡ count g n
unfolding count
count_same f g zero h = refl
count_same f g (suc n) h = ap₂ (λ (a b : ℕ). a + b) (ap one (h n (omega arith))) (count_same f g n (λ k l. h k (omega arith)))

pub tally_same : (near other : ℕ → Option (List ℕ)) (word words : ℕ → List ℕ) (m : ℕ) → ((k : ℕ) → k < m → near k ≡ other k) → ((k : ℕ) → k < m → word k ≡ words k) → tally_to near word m ≡ tally_to other words m
tally_same near other word words m h g =
    let clean : (k : ℕ) → k < m → is_clean (word k) (near k) ≡ is_clean (words k) (other k) = λ k l. ap₂ is_clean (g k l) (h k l) in
    made m _ _ _ _ _ _ _ _
    (count_same (λ k. is_clean (word k) (near k)) (λ k. is_clean (words k) (other k)) m clean)
    (count_same (λ k. has (near k) && not (is_clean (word k) (near k))) (λ k. has (other k) && not (is_clean (words k) (other k))) m (λ k l. ap₂ (λ x y. has x && not y) (h k l) (clean k l)))
    (count_same (λ k. not (has (near k))) (λ k. not (has (other k))) m (λ k l. ap (λ x. not (has x)) (h k l)))
    (count_same (λ k. not (has (phase_before near (suc k)))) (λ k. not (has (phase_before other (suc k)))) m (λ k l. ap (λ x. not (has x)) (phase_same near other (suc k) (λ j i. h j (omega arith)))))
  where
    made : (m a b c d a' b' c' d' : ℕ) → a ≡ a' → b ≡ b' → c ≡ c' → d ≡ d' → (let t : Tally = record { words = m; clean = a; corrected = b; bad = c; unphased = d } in t) ≡ record { words = m; clean = a'; corrected = b'; bad = c'; unphased = d' }
    made m a b c d a' b' c' d' e f g h = cc

pub one_tally : OneTally
one_tally bytes tally other p q =
    p.is ∙ tally_same p.near q.near (word_at bytes) (word_at bytes) (word_count bytes) (λ k l. one_near (word_at bytes k) (p.near k) (q.near k) (length-word_at bytes k) (p.is_near k l) (q.is_near k l)) (λ k l. refl) ∙ sym q.is
