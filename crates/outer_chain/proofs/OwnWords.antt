-- The words of a sender's own bytes, and what they give.
use Rattle.std.proofs.Common.{◌≡◌, ℕ, zero, suc, ◌+◌, ◌-◌, ◌*◌, ◌/◌, ◌%◌, ◌<◌, ◌≤◌, inl, inr, Bool, true, false, cond, eqb, List, [], ◌∷◌, ◌++◌, length, get_or, take, refl, sym, ◌∙◌, ap, ap₂, subst, arith, lit<, replicate}
use Rattle.std.specs.Prelude.{Option, Some, None, bit_xor}
use Rattle.std.proofs.lemmas.Bool.{cases_lt, eqb-true}
use Rattle.std.proofs.lemmas.List.{get_or_past}
use lib.Bits.{xor_assoc, xor_self, xor_zero_r, xor_lt}
use Rattle.ts_packet.specs.Packet.{IsPacket, null_packet}
use Rattle.dispersal.specs.Packet.{dispersed, undone, xor_from}
use Rattle.dispersal.specs.Sequence.{sequence_byte}
use Rattle.dispersal.proofs.Sequence_laws.{spelled_small}
use Rattle.rs204.specs.Codes.{AreBytes, distance}
use Rattle.rs204.specs.Laws.{IsCodewordOf}
use Rattle.rs204.proofs.Codewords.{message_code}
use Rattle.forney.specs.Values.{values, stream_of}
use Rattle.forney.specs.Interleaving.{deinterleaved}
use Rattle.forney.proofs.ValueLists.{length-values, values_same}
use Rattle.forney.proofs.DelayLines.{back, over, first_deinterleaved}
use Rattle.outer_chain.specs.Words.{word_at, word_count, IsNear, begins_group, phase_of, phase_before, written, packets_to, Packets}
use Rattle.outer_chain.specs.Sent.{packet_at, code_at, coded_byte, outer_byte, outer_bytes, joined, ArePackets, first_packets}
use Rattle.outer_chain.specs.Bursts.{Bursts}
use Rattle.outer_chain.proofs.NearWords.{near_is}
use Rattle.outer_chain.proofs.BurstPlaces.{eight_places}
use Rattle.outer_chain.proofs.Sender.{code_values}

-- ---- packets and their codewords

null_bytes : (n : ℕ) → AreBytes (replicate n 255)
null_bytes zero = tt
null_bytes (suc n) = (lit< tt, null_bytes n)

null_is_packet : IsPacket null_packet
null_is_packet = record { length = refl; sync = refl }

null_are_bytes : AreBytes null_packet
null_are_bytes = (lit< tt, (lit< tt, (lit< tt, (lit< tt, null_bytes 184))))

pub is_packet : (packets : List (List ℕ)) (i : ℕ) → ArePackets packets → IsPacket (packet_at packets i)
is_packet packets i h = elim (cases_lt i (length packets)) [
  | inl lt ↦ h.each i lt
  | inr ge ↦ subst IsPacket (sym (get_or_past packets i null_packet ge)) null_is_packet
]

pub are_bytes : (packets : List (List ℕ)) (i : ℕ) → ArePackets packets → AreBytes (packet_at packets i)
are_bytes packets i h = elim (cases_lt i (length packets)) [
  | inl lt ↦ h.bytes i lt
  | inr ge ↦ subst AreBytes (sym (get_or_past packets i null_packet ge)) null_are_bytes
]

mask_small : (m : ℕ) → sequence_byte m < 256
unfolding sequence_byte
mask_small m = spelled_small 8 (8 * m + 15)

mixed_bytes : (m : ℕ) (xs : List ℕ) → AreBytes xs → AreBytes (xor_from m xs)
mixed_bytes m [] s = tt
mixed_bytes m (x ∷ xs) s = (xor_lt 8 x (sequence_byte m) s.0 (mask_small m), mixed_bytes (m + 1) xs s.1)

length-mixed : (m : ℕ) (xs : List ℕ) → length (xor_from m xs) ≡ length xs
length-mixed m [] = refl
length-mixed m (x ∷ xs) = ap suc (length-mixed (m + 1) xs)

first_small : (b : Bool) → cond b 0xB8 0x47 < 256
first_small true = lit< tt
first_small false = lit< tt

dispersed_bytes : (phase : ℕ) (packet : List ℕ) → AreBytes packet → AreBytes (dispersed phase packet)
dispersed_bytes phase [] s = (first_small (eqb phase 0), tt)
dispersed_bytes phase (x ∷ xs) s = (first_small (eqb phase 0), mixed_bytes (188 * phase) xs s.1)

length-dispersed : (phase : ℕ) (packet : List ℕ) → length packet ≡ 188 → length (dispersed phase packet) ≡ 188
length-dispersed phase [] l = absurd (omega arith)
length-dispersed phase (x ∷ xs) l = omega (arith, length-mixed (188 * phase) xs)

pub code_of : (packets : List (List ℕ)) (i : ℕ) → ArePackets packets → IsCodewordOf (dispersed (i % 8) (packet_at packets i)) (code_at packets i)
code_of packets i h = message_code (dispersed (i % 8) (packet_at packets i)) (length-dispersed (i % 8) (packet_at packets i) (is_packet packets i h).length) (dispersed_bytes (i % 8) (packet_at packets i) (are_bytes packets i h))

-- ---- the words are the codewords

pub length-outer_bytes : (packets : List (List ℕ)) (n : ℕ) → length (outer_bytes packets n) ≡ n
unfolding outer_bytes
length-outer_bytes packets n = length-values (outer_byte packets) 0 n

pub own_word : (packets : List (List ℕ)) (n k : ℕ) → ArePackets packets → 204 * (k + 12) ≤ n → word_at (outer_bytes packets n) k ≡ code_at packets k
unfolding word_at outer_bytes
own_word packets n k h l =
    let sent = outer_byte packets in
    values_same (deinterleaved (stream_of (values sent 0 n))) (coded_byte packets) (204 * (k + 11)) (204 * k) 204
    (λ t m.
    let p = 204 * (k + 11) + t in
    first_deinterleaved sent n p (omega arith) ∙ back (coded_byte packets) p ∙ over (coded_byte packets) p 2244 (omega arith)
    ∙ ap (coded_byte packets) (let e : p - 2244 ≡ 204 * k + t = omega arith in e))
    ∙ code_values packets k (code_of packets k h).code.long

-- ---- what a codeword gives

xor_back : (m : ℕ) (xs : List ℕ) → xor_from m (xor_from m xs) ≡ xs
xor_back m [] = refl
xor_back m (x ∷ xs) = ap₂ (λ (y : ℕ) (ys : List ℕ). y ∷ ys) (xor_assoc x (sequence_byte m) (sequence_byte m) ∙ ap (bit_xor x) (xor_self (sequence_byte m)) ∙ xor_zero_r x) (xor_back (m + 1) xs)

undone_dispersed : (phase : ℕ) (packet : List ℕ) → IsPacket packet → undone phase (dispersed phase packet) ≡ packet
undone_dispersed phase [] p = absurd (omega (arith, p.length))
undone_dispersed phase (x ∷ xs) p = ap₂ (λ (y : ℕ) (ys : List ℕ). y ∷ ys) (sym p.sync) (xor_back (188 * phase) xs)

first_of_take : (c : List ℕ) (x : ℕ) (xs : List ℕ) → take 188 c ≡ x ∷ xs → get_or c 0 0 ≡ x
first_of_take [] x xs e = cc
first_of_take (y ∷ ys) x xs e = let e' : y ∷ take 187 ys ≡ x ∷ xs = e in cc

group : (packets : List (List ℕ)) (k : ℕ) → ArePackets packets → begins_group (Some (code_at packets k)) ≡ eqb (k % 8) 0
group packets k h =
    ap (λ x. eqb x 0xB8) (first_of_take (code_at packets k) _ _ (code_of packets k h).begins) ∙ go (eqb (k % 8) 0)
  where
    go : (b : Bool) → eqb (cond b 0xB8 0x47) 0xB8 ≡ b
    go true = refl
    go false = refl

pub phases : (near : ℕ → Option (List ℕ)) (packets : List (List ℕ)) (m : ℕ) → ArePackets packets → ((k : ℕ) → k ≤ m → near k ≡ Some (code_at packets k)) → phase_before near (suc m) ≡ Some (m % 8)
unfolding phase_before
phases near packets zero h e =
    ap (λ o. phase_of o None) (e 0 (omega arith)) ∙ ap (λ b. cond b (Some 0) None) (group packets 0 h)
phases near packets (suc m) h e =
    ap (λ o. phase_of o (phase_before near (suc m))) (e (suc m) (omega arith))
    ∙ ap (phase_of (Some (code_at packets (suc m)))) (phases near packets m h (λ k i. e k (omega arith)))
    ∙ ap (λ b. cond b (Some 0) (Some ((m % 8 + 1) % 8))) (group packets (suc m) h)
    ∙ go (eqb (suc m % 8) 0) refl
  where
    go : (b : Bool) → eqb (suc m % 8) 0 ≡ b → cond b (Some 0) (Some ((m % 8 + 1) % 8)) ≡ Some (suc m % 8)
    go true e = ap (λ (x : ℕ). Some x) (sym (eqb-true _ _ e))
    go false e = ap (λ (x : ℕ). Some x) (omega arith)

pub packet_back : (packets : List (List ℕ)) (k : ℕ) → ArePackets packets → undone (k % 8) (take 188 (code_at packets k)) ≡ packet_at packets k
packet_back packets k h = ap (undone (k % 8)) (code_of packets k h).begins ∙ undone_dispersed (k % 8) (packet_at packets k) (is_packet packets k h)

pub own_packets : (near : ℕ → Option (List ℕ)) (word : ℕ → List ℕ) (packets : List (List ℕ)) (m : ℕ) → ArePackets packets → ((k : ℕ) → k < m → near k ≡ Some (code_at packets k)) → packets_to near word m ≡ first_packets packets m
unfolding packets_to joined
own_packets near word packets zero h e = refl
own_packets near word packets (suc m) h e =
    let here : written (phase_before near (suc m)) (word m) (near m) ≡ packet_at packets m =
    ap₂ (λ f o. written f (word m) o) (phases near packets m h (λ k i. e k (omega arith))) (e m (omega arith))
    ∙ packet_back packets m h in
    ap₂ (λ (a b : List ℕ). a ++ b) (own_packets near word packets m h (λ k i. e k (omega arith))) here

-- ---- bursts

pub no_burst : (sent : List ℕ) → Bursts sent sent
no_burst sent = record { same_length = refl; runs = []; apart = tt; only = λ p l d. absurd (d refl) }

pub received_count : (packets : List (List ℕ)) (n : ℕ) (received : List ℕ) → Bursts (outer_bytes packets n) received → word_count received ≡ n / 204 - 11
received_count packets n received b = omega (arith, b.same_length, length-outer_bytes packets n)

pub burst_distance : (packets : List (List ℕ)) (n k : ℕ) (received : List ℕ) → ArePackets packets → Bursts (outer_bytes packets n) received → k < n / 204 - 11 → distance (word_at received k) (code_at packets k) ≤ 8
burst_distance packets n k received h b l =
    subst (λ w. distance (word_at received k) w ≤ 8) (own_word packets n k h (omega arith))
    (eight_places (outer_bytes packets n) received k b (omega (arith, length-outer_bytes packets n)))

pub length-word_at : (bytes : List ℕ) (k : ℕ) → length (word_at bytes k) ≡ 204
unfolding word_at
length-word_at bytes k = length-values _ (204 * (k + 11)) 204

pub received_near : (packets : List (List ℕ)) (n k : ℕ) (received : List ℕ) (near : Option (List ℕ)) → ArePackets packets → Bursts (outer_bytes packets n) received → k < n / 204 - 11 → IsNear (word_at received k) near → near ≡ Some (code_at packets k)
received_near packets n k received near h b l i =
    near_is (word_at received k) (code_at packets k) near (length-word_at received k) (code_of packets k h).code (burst_distance packets n k received h b l) i

pub same_packets : (packets : List (List ℕ)) (n : ℕ) (received out : List ℕ) → ArePackets packets → Bursts (outer_bytes packets n) received → Packets received out → out ≡ first_packets packets (n / 204 - 11)
same_packets packets n received out h b p =
    let size = received_count packets n received b in
    p.is ∙ ap (packets_to p.near (word_at received)) size
    ∙ own_packets p.near (word_at received) packets (n / 204 - 11) h (λ k l. received_near packets n k received (p.near k) h b l (p.is_near k (omega (arith, size))))
