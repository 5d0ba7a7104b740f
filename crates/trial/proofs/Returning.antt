-- One packet is received for each word with a phase.
use Rattle.std.proofs.Common.{◌≡◌, ℕ, zero, suc, ◌+◌, ◌*◌, ◌≤◌, ◌<◌, List, [], ◌∷◌, ◌++◌, length, take, drop, refl, ap, ◌∙◌, arith, length-append, length-set, Bool, true, false, cond, not, Option, Some, None}
use Rattle.std.specs.Prelude.{bit_or, slice_index}
use Rattle.std.proofs.Common.{length-drop, length-take-le}
use Rattle.dispersal.specs.Packet.{xor_from, undone}
use Rattle.ts_packet.specs.Packet.{marked}
use Rattle.forney.specs.Values.{values}
use Rattle.outer_chain.specs.Bits.{bytes_of}
use Rattle.outer_chain.specs.Words.{word_count, word_at, IsNear, phase_before, packet_of, written, packets_to, Packets, Tally, Tallies, tally_to, count, has}
use Rattle.outer_chain.specs.Laws.{OneTally}
use Rattle.trial.specs.Laws.{AreCounted, PacketsAreCounted}

long_xor : (xs : List ℕ) (m : ℕ) → length (xor_from m xs) ≡ length xs
long_xor [] m = refl
long_xor (x ∷ xs) m = ap suc (long_xor xs (m + 1))

long_undone : (phase : ℕ) (word : List ℕ) → length word ≡ 204 → length (undone phase (take 188 word)) ≡ 188
long_undone phase word long =
    let part = length-take-le 188 word (omega (arith, long)) in
    let rest = length-drop 1 (take 188 word) in
    let same = long_xor (drop 1 (take 188 word)) (188 * phase) in
    omega (arith, part, rest, same)

long_marked : (packet : List ℕ) → length (marked packet) ≡ length packet
long_marked packet = length-set packet 1 (bit_or (slice_index packet 1) 0x80)

long_packet : (phase : ℕ) (word : List ℕ) (near : Option (List ℕ)) → length word ≡ 204 → IsNear word near → length (packet_of phase word near) ≡ 188
long_packet phase word (Some c) long near = long_undone phase c near.0.long
long_packet phase word None long near = long_marked (undone phase (take 188 word)) ∙ long_undone phase word long

abbrev missing : Option ℕ → ℕ
missing phase = cond (not (has phase)) 1 0

long_written : (phase : Option ℕ) (word : List ℕ) (near : Option (List ℕ)) → length word ≡ 204 → IsNear word near → length (written phase word near) + 188 * missing phase ≡ 188
long_written None word near long is = omega arith
long_written (Some phase) word near long is = let l = long_packet phase word near long is in omega (arith, l)

long_words : (near : ℕ → Option (List ℕ)) (word : ℕ → List ℕ) (n : ℕ) → ((k : ℕ) → length (word k) ≡ 204) → ((k : ℕ) → k < n → IsNear (word k) (near k))
    → length (packets_to near word n) + 188 * count (λ k. not (has (phase_before near (suc k)))) n ≡ 188 * n
unfolding packets_to count
long_words near word zero long is = omega arith
long_words near word (suc n) long is =
    let rest = long_words near word n long (λ k l. is k (omega (arith, l))) in
    let here = long_written (phase_before near (suc n)) (word n) (near n) (long n) (is n (omega arith)) in
    let both = length-append (packets_to near word n) (written (phase_before near (suc n)) (word n) (near n)) in
    sum_up (length (packets_to near word n)) (length (written (phase_before near (suc n)) (word n) (near n))) (missing (phase_before near (suc n))) (count (λ k. not (has (phase_before near (suc k)))) n)
    (length (packets_to near word n ++ written (phase_before near (suc n)) (word n) (near n))) rest here both
  where
    sum_up : (a b c d e : ℕ) → a + 188 * d ≡ 188 * n → b + 188 * c ≡ 188 → e ≡ a + b → e + 188 * (c + d) ≡ 188 * suc n
    sum_up a b c d e p q r = omega (arith, p, q, r)

few_counted : (test : ℕ → Bool) (n : ℕ) → count test n ≤ n
unfolding count
few_counted test zero = omega arith
few_counted test (suc n) = go (test n) (few_counted test n)
  where
    go : (b : Bool) → count test n ≤ n → cond b 1 0 + count test n ≤ suc n
    go true l = omega (arith, l)
    go false l = omega (arith, l)

long_values : (f : ℕ → ℕ) (i n : ℕ) → length (values f i n) ≡ n
unfolding values
long_values f i zero = refl
long_values f i (suc n) = ap suc (long_values f (suc i) n)

long_word : (bytes : List ℕ) (k : ℕ) → length (word_at bytes k) ≡ 204
unfolding word_at
long_word bytes k = long_values _ _ 204

counted_from : (packets : List ℕ) (tally : Tally) (n u : ℕ) → tally.words ≡ n → tally.unphased ≡ u → u ≤ n → length packets + 188 * u ≡ 188 * n → AreCounted packets tally
counted_from packets tally n u e f l long = record { few = omega (arith, e, f, l); long = omega (arith, e, f, l, long) }

counted : OneTally → (bytes out : List ℕ) (tally : Tally) → Packets bytes out → Tallies bytes tally → AreCounted out tally
counted one bytes out tally p t =
    let same : tally ≡ tally_to p.near (word_at bytes) (word_count bytes) = one bytes tally (tally_to p.near (word_at bytes) (word_count bytes)) t (record { near = p.near; is_near = p.is_near; is = refl }) in
    let long = long_words p.near (word_at bytes) (word_count bytes) (long_word bytes) p.is_near in
    counted_from out tally (word_count bytes) (count (λ k. not (has (phase_before p.near (suc k)))) (word_count bytes)) (ap (λ (z : Tally). z.words) same) (ap (λ (z : Tally). z.unphased) same)
    (few_counted (λ k. not (has (phase_before p.near (suc k)))) (word_count bytes))
    (ap (λ (z : List ℕ). length z + 188 * count (λ k. not (has (phase_before p.near (suc k)))) (word_count bytes)) p.is ∙ long)

pub packets_are_counted : OneTally → PacketsAreCounted
packets_are_counted one s bytes r σ f = counted one (bytes_of (f.bits σ)) (r.packets σ) (r.tally σ) (f.packets σ) (f.tally σ)
