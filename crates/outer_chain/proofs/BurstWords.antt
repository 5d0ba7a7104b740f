-- What is received of bytes with bursts, call by call.
use Rattle.std.proofs.Common.{◌≡◌, ℕ, ◌-◌, ◌/◌, ◌%◌, ◌<◌, inl, inr, List, length, sym, ◌∙◌, ap, ap₂, subst, arith, length-take-le}
use Rattle.std.specs.Prelude.{Option, Some}
use Rattle.std.proofs.lemmas.Bool.{cases_lt}
use Rattle.std.proofs.lemmas.List.{get_or-take}
use Rattle.rs204.specs.declared.outcome.Outcome.{Outcome}
use Rattle.outer_chain.specs.Words.{word_at, IsNear, phase_of, phase_before, given_packet}
use Rattle.outer_chain.specs.Nears.{near_of}
use Rattle.outer_chain.specs.Sent.{packet_at, code_at, outer_bytes, ArePackets}
use Rattle.outer_chain.specs.Receiving.{Receiver}
use Rattle.outer_chain.specs.Bursts.{Bursts, NextOfBursts}
use Rattle.outer_chain.specs.Laws.{BurstSameNear, BurstBeginning}
use Rattle.outer_chain.proofs.OwnWords.{code_of, phases, packet_back, no_burst, burst_distance, received_near, length-word_at, length-outer_bytes}
use Rattle.outer_chain.proofs.Sender.{byte_after_byte}
use Rattle.outer_chain.proofs.WordLaws.{phase_same}
use Rattle.outer_chain.proofs.DecodedWords.{decoded_is_near}
use Rattle.outer_chain.proofs.Finishing.{with_near, others, this}

pub is_near : (packets : List (List ℕ)) (n k : ℕ) (received : List ℕ) → ArePackets packets → Bursts (outer_bytes packets n) received → k < n / 204 - 11 → IsNear (word_at received k) (Some (code_at packets k))
is_near packets n k received h b l = ((code_of packets k h).code, burst_distance packets n k received h b l)

pub burst_same_near : BurstSameNear
burst_same_near packets n received h b k near l i =
    subst (IsNear (word_at received k)) (sym (received_near packets n k (outer_bytes packets n) near h (no_burst (outer_bytes packets n)) l i)) (is_near packets n k received h b l)

pub burst_beginning : BurstBeginning
burst_beginning packets n m received l b =
    let size = length-outer_bytes packets n in
    let part = length-outer_bytes packets m in
    record {
      same_length = length-take-le m received (omega (arith, b.same_length, size)) ∙ sym part;
      runs = b.runs;
      apart = b.apart;
      only = λ p i d. b.only p (omega (arith, size, part))
          (λ e. d (get_or-take m received p 0 (omega (arith, part)) ∙ e ∙ byte_after_byte packets n p (omega (arith, part)) ∙ sym (byte_after_byte packets m p (omega (arith, part)))));
    }

-- ---- the word that is finished next

next_near : (receiver : Receiver) (packets : List (List ℕ)) (done : ℕ) (word : List ℕ) (outcome : Outcome) → NextOfBursts receiver packets done word outcome → near_of outcome word ≡ Some (code_at packets done)
next_near receiver packets done word outcome h =
    received_near packets (length h.bytes) done h.bytes (near_of outcome word) h.bursts.are_packets h.bursts.bursts h.waits
    (decoded_is_near (word_at h.bytes done) word outcome (length-word_at h.bytes done) h.decoded)

pub next_phase : (receiver : Receiver) (packets : List (List ℕ)) (done : ℕ) (word : List ℕ) (outcome : Outcome) → NextOfBursts receiver packets done word outcome → phase_of (near_of outcome word) receiver.phase ≡ Some (done % 8)
unfolding phase_before
next_phase receiver packets done word outcome h =
    let x = near_of outcome word in
    let before = h.finished.near in
    let near = with_near before done x in
    let b = h.bursts in
    let found : (k : ℕ) → k < done → before k ≡ Some (code_at packets k) = λ k l.
    received_near packets (length h.bytes) k h.bytes (before k) b.are_packets b.bursts (omega (arith, h.waits)) (h.finished.is_near k l) in
    ap₂ phase_of (sym (this before done x)) (h.finished.phase ∙ phase_same before near done (λ k l. sym (others before done x k l)))
    ∙ phases near packets done b.are_packets (λ k l. elim (cases_lt k done) [
      | inl lt ↦ others before done x k lt ∙ found k lt
      | inr ge ↦ let q : k ≡ done = omega arith in subst (λ j. near j ≡ Some (code_at packets j)) (sym q) (this before done x ∙ next_near receiver packets done word outcome h)
    ])

pub next_packet : (receiver : Receiver) (packets : List (List ℕ)) (done : ℕ) (word : List ℕ) (outcome : Outcome) (phase : Option ℕ) → NextOfBursts receiver packets done word outcome → phase ≡ Some (done % 8)
    → given_packet phase word (near_of outcome word) ≡ Some (packet_at packets done)
next_packet receiver packets done word outcome phase h p =
    ap₂ (λ f x. given_packet f word x) p (next_near receiver packets done word outcome h) ∙ ap Some (packet_back packets done h.bursts.are_packets)
