-- What a sender stands for after one packet more.
use Rattle.std.proofs.Common.{◌≡◌, ℕ, ◌+◌, ◌*◌, ◌/◌, ◌%◌, ◌<◌, List, [], ◌∷◌, ◌++◌, length, get_or, refl, sym, ◌∙◌, ap, ap₂, subst, arith, length-append}
use Rattle.std.specs.Prelude.{slice_index}
use Rattle.std.proofs.Math.ListN.{get_or-append}
use Rattle.std.proofs.lemmas.List.{get_or_push}
use Rattle.ts_packet.specs.Packet.{null_packet}
use Rattle.dispersal.specs.Packet.{dispersed}
use Rattle.rs204.specs.Codes.{codeword}
use Rattle.forney.specs.Values.{values, stream_of}
use Rattle.forney.specs.Interleaving.{interleaved}
use Rattle.forney.specs.Delays.{Interleaves}
use Rattle.forney.proofs.ValueLists.{length-values, values_same, values_add, values_of}
use Rattle.forney.proofs.DelayLines.{delayed_same, first_value_at}
use Rattle.outer_chain.specs.Sent.{packet_at, code_at, coded_byte, outer_byte, outer_bytes, sent_bytes}
use Rattle.outer_chain.specs.Sending.{Sender, Sends}

-- ---- packets and their bytes

pub coded_same : (packets other : List (List ℕ)) (n : ℕ) → ((i : ℕ) → i < n → packet_at packets i ≡ packet_at other i) → (p : ℕ) → p < 204 * n → coded_byte packets p ≡ coded_byte other p
unfolding coded_byte
coded_same packets other n h p l = ap (λ (q : List ℕ). slice_index (codeword (dispersed (p / 204 % 8) q)) (p % 204)) (h (p / 204) (omega arith))

pub outer_same : (packets other : List (List ℕ)) (n : ℕ) → ((i : ℕ) → i < n → packet_at packets i ≡ packet_at other i) → (p : ℕ) → p < 204 * n → outer_byte packets p ≡ outer_byte other p
outer_same packets other n h p l = delayed_same (coded_byte packets) (coded_byte other) p (204 * (p % 12)) (λ k m. coded_same packets other n h k (omega arith))

front_packets : (packets more : List (List ℕ)) (i : ℕ) → i < length packets → packet_at (packets ++ more) i ≡ packet_at packets i
front_packets packets more i l = get_or-append packets more null_packet i l

pub more_sent : (packets more : List (List ℕ)) → outer_bytes (packets ++ more) (204 * length packets) ≡ sent_bytes packets
unfolding outer_bytes
more_sent packets more =
    values_same (outer_byte (packets ++ more)) (outer_byte packets) 0 0 (204 * length packets)
    (λ k l. outer_same (packets ++ more) packets (length packets) (λ i m. front_packets packets more i m) (0 + k) (omega arith))

pub byte_after_byte : (packets : List (List ℕ)) (n p : ℕ) → p < n → slice_index (outer_bytes packets n) p ≡ outer_byte packets p
unfolding outer_bytes
byte_after_byte packets n p l = first_value_at (outer_byte packets) n p l

-- the bytes of a codeword
code_byte : (packets : List (List ℕ)) (n k : ℕ) → k < 204 → coded_byte packets (204 * n + k) ≡ get_or (code_at packets n) k 0
unfolding coded_byte
code_byte packets n k l = ap₂ (λ i j. slice_index (code_at packets i) j) (let e : (204 * n + k) / 204 ≡ n = omega arith in e) (let e : (204 * n + k) % 204 ≡ k = omega arith in e)

pub code_values : (packets : List (List ℕ)) (n : ℕ) → length (code_at packets n) ≡ 204 → values (coded_byte packets) (204 * n) 204 ≡ code_at packets n
code_values packets n long = values_of (code_at packets n) (coded_byte packets) (204 * n) 204 (sym long) (λ k l. code_byte packets n k l)

-- ---- one packet more

coded_push : (packets : List (List ℕ)) (p word : List ℕ) → word ≡ codeword (dispersed (length packets % 8) p) → length word ≡ 204
    → values (coded_byte packets) 0 (204 * length packets) ++ word ≡ values (coded_byte (packets ++ p ∷ [])) 0 (204 * length (packets ++ p ∷ []))
coded_push packets p word e long =
    let n = length packets in
    let all = packets ++ p ∷ [] in
    let size : 204 * length all ≡ 204 * n + 204 = omega (arith, length-append packets (p ∷ [])) in
    let here : code_at all n ≡ word = ap (λ (q : List ℕ). codeword (dispersed (n % 8) q)) (get_or_push packets p null_packet n refl) ∙ sym e in
    ap₂ (λ (a b : List ℕ). a ++ b)
    (values_same (coded_byte packets) (coded_byte all) 0 0 (204 * n) (λ k l. sym (coded_same all packets n (λ i m. front_packets packets (p ∷ []) i m) (0 + k) (omega arith))))
    (sym (code_values all n (ap length here ∙ long) ∙ here) ∙ ap (λ i. values (coded_byte all) i 204) (let z : 204 * n ≡ 0 + 204 * n = omega arith in z))
    ∙ sym (ap (values (coded_byte all) 0) size ∙ values_add (coded_byte all) 0 (204 * n) 204)

pub sends_push : (old new : Sender) (packets : List (List ℕ)) (p word : List ℕ) → word ≡ codeword (dispersed old.phase p) → length word ≡ 204 → Sends old packets
    → ((coded : List ℕ) → Interleaves old.delays coded → Interleaves new.delays (coded ++ word)) → new.phase ≡ (old.phase + 1) % 8 → Sends new (packets ++ p ∷ [])
sends_push old new packets p word e long h stands next = record {
  delays = subst (Interleaves new.delays) (coded_push packets p word (e ∙ ap (λ f. codeword (dispersed f p)) h.phase) long) (stands (values (coded_byte packets) 0 (204 * length packets)) h.delays);
  phase = omega (arith, next, h.phase, length-append packets (p ∷ []));
}

pub bytes_push : (old : Sender) (packets : List (List ℕ)) (p word given : List ℕ) → word ≡ codeword (dispersed old.phase p) → length word ≡ 204 → Sends old packets
    → ((coded : List ℕ) → Interleaves old.delays coded → given ≡ values (interleaved (stream_of (coded ++ word))) (length coded) (length word))
    → given ≡ values (outer_byte (packets ++ p ∷ [])) (204 * length packets) 204
bytes_push old packets p word given e long h g =
    let n = 204 * length packets in
    let all = packets ++ p ∷ [] in
    let o = coded_byte all in
    let whole = coded_push packets p word (e ∙ ap (λ f. codeword (dispersed f p)) h.phase) long in
    g (values (coded_byte packets) 0 n) h.delays
    ∙ ap₂ (λ (s : List ℕ) (i : ℕ). values (interleaved (stream_of s)) i (length word)) whole (length-values (coded_byte packets) 0 n)
    ∙ ap (values (interleaved (stream_of (values o 0 (204 * length all)))) n) long
    ∙ values_same (interleaved (stream_of (values o 0 (204 * length all)))) (interleaved o) n n 204
    (λ k l. delayed_same (stream_of (values o 0 (204 * length all))) o (n + k) (204 * ((n + k) % 12)) (λ j m. first_value_at o (204 * length all) j (omega (arith, length-append packets (p ∷ [])))))

pub next_push : (packets : List (List ℕ)) (p given : List ℕ) → given ≡ values (outer_byte (packets ++ p ∷ [])) (204 * length packets) 204 → sent_bytes (packets ++ p ∷ []) ≡ sent_bytes packets ++ given
unfolding outer_bytes
next_push packets p given g =
    let n = 204 * length packets in
    let all = packets ++ p ∷ [] in
    let size : 204 * length all ≡ n + 204 = omega (arith, length-append packets (p ∷ [])) in
    ap (values (outer_byte all) 0) size ∙ values_add (outer_byte all) 0 n 204
    ∙ ap₂ (λ (a b : List ℕ). a ++ b) (more_sent packets (p ∷ [])) (ap (λ i. values (outer_byte all) i 204) (let z : 0 + n ≡ n = omega arith in z) ∙ sym g)

pub none_sent : (packets : List (List ℕ)) → length packets ≡ 0 → [] ≡ values (coded_byte packets) 0 (204 * length packets)
unfolding values
none_sent packets e = let z : 204 * length packets ≡ 0 = omega arith in rw z refl
