-- Costs that favour the path sent give its bytes, and these the packets.
use Rattle.std.proofs.Common.{◌≡◌, ℕ, zero, suc, ◌+◌, ◌-◌, ◌*◌, ◌/◌, ◌%◌, ◌<◌, ◌≤◌, List, [], ◌∷◌, ◌++◌, length, get_or, take, drop, map, refl, sym, ap, ◌∙◌, subst, arith, Bool, false, cond}
use Rattle.std.specs.Prelude.{IsTrue, Option, Some, option_map, unwrap_or, replicate, slice_index, nat_lt}
use Rattle.std.proofs.lemmas.Bool.{le-ltb}
use Rattle.std.proofs.lemmas.List.{length-map}
use Rattle.std.proofs.lemmas.List.FromFn.{get_or-map-range_with_len}
use Rattle.spec_words.specs.Bits.{bit, is_set}
use Rattle.spec_words.specs.Words.{numbers}
use Rattle.spec_words.proofs.Counting.{length-numbers}
use Rattle.mode_set.specs.declared.modes.Start.{Start}
use Rattle.mode_set.specs.declared.modes.Start.TheVariants.{Zero}
use Rattle.mode_set.specs.declared.modes.Stream.{Stream}
use Rattle.mode_set.specs.declared.settings.Settings.{Settings}
use Rattle.code_paths.specs.declared.costs.CostPair.{CostPair}
use Rattle.code_paths.specs.Paths.{parity_x, parity_y}
use Rattle.code_paths.specs.Streams.{Ended}
use Rattle.code_paths.specs.Favoured.{SpeaksFor, SpeakFor, IsShown, KeepsSent}
use Rattle.puncture.specs.SentBits.{path_of, window}
use Rattle.puncture.specs.Laws.{ListsArePaths}
use Rattle.rs204.specs.Codes.{AreBytes}
use Rattle.outer_chain.specs.Bits.{bytes_of, bit_of_stream, FirstBits}
use Rattle.outer_chain.specs.Words.{Packets, Tally, Tallies}
use Rattle.outer_chain.specs.Sent.{ArePackets, outer_byte, outer_bytes, first_packets}
use Rattle.outer_chain.specs.SendingLaws.{ByteAfterByte}
use Rattle.outer_chain.specs.Laws.{OuterAreBytes, OwnBytes, OwnTally}
use Rattle.inner_chain.specs.PairLists.{pair_of}
use Rattle.inner_chain.specs.Labels.{from_step}
use Rattle.symbol_parameters.specs.Spans.{exists_in, steps_of, steps_before, IsStepOf, words_before}
use Rattle.symbol_parameters.specs.Laws.{StepsOfOneMore, StepsHaveSymbols, StepsAreOfAStream, SpansHaveWholeWords}
use Rattle.transmission.specs.Transmission.{Inputs, paths_of, paths_at}
use Rattle.transmission.specs.SuperFrames.{super_frames, counts_of, symbols_of}
use Rattle.reception.specs.Cells.{symbols}
use Rattle.reception.specs.Costs.{costs}
use Rattle.reception.specs.Laws.{CostsAreSteps, CostOfStep}
use Rattle.reception.specs.Streams.{memory, start_of, Reception, Final}
use Rattle.law_link.specs.Returned.{words_of, HavePackets, IsWithin}
use Rattle.law_link.specs.Laws.{NoiseLaw, NoiseIsClean}
use Rattle.law_link.proofs.Favoured.{AreKnown, step_speaks}

-- ---- all steps
dropped : {A : Type 0} (t : ℕ) (p : List A) → drop t (drop 1 p) ≡ drop (suc t) p
dropped zero [] = refl
dropped (suc t) [] = refl
dropped t (x ∷ p) = refl

speak_all : (d : CostPair) (c : List CostPair) (p : List Bool) → ((t : ℕ) → t < length c → SpeaksFor (get_or c t d) (drop t p)) → SpeakFor c p
speak_all d [] p h = tt
speak_all d (x ∷ c) p h = (h 0 (omega arith), speak_all d c (drop 1 p) (λ t l. subst (SpeaksFor (get_or c t d)) (sym (dropped t p)) (h (suc t) (omega (arith, l)))))

-- ---- the path sent six zeros, and the first n bits of a stream of bytes
unfoldable sent_path : (ℕ → ℕ) → ℕ → List Bool
sent_path bytes n = replicate 6 false ++ map (bit_of_stream bytes) (numbers n)

sent_long : (bytes : ℕ → ℕ) (n : ℕ) → length (sent_path bytes n) ≡ 6 + n
unfolding sent_path
sent_long bytes n = let e : length (map (bit_of_stream bytes) (numbers n)) ≡ n = length-map (numbers n) (bit_of_stream bytes) ∙ length-numbers n in omega (arith, e)

sent_starts : (bytes : ℕ → ℕ) (n : ℕ) → take 6 (sent_path bytes n) ≡ replicate 6 false
unfolding sent_path
sent_starts bytes n = refl

sent_rest : (bytes : ℕ → ℕ) (n : ℕ) → drop 6 (sent_path bytes n) ≡ map (bit_of_stream bytes) (numbers n)
unfolding sent_path
sent_rest bytes n = refl

behind : (bytes : ℕ → ℕ) (j : ℕ) → path_of bytes (6 + j) ≡ bit_of_stream bytes j
behind bytes j =
    let test : nat_lt (6 + j) 6 ≡ false = le-ltb (6 + j) 6 (omega arith) in
    let same : 6 + j - 6 ≡ j = omega arith in
    ap (λ (b : Bool). cond b false (is_set (bytes ((6 + j - 6) / 8)) (7 - (6 + j - 6) % 8))) test ∙ ap (bit_of_stream bytes) same

sent_bits : (bytes : ℕ → ℕ) (n k : ℕ) → k < 6 + n → bit (sent_path bytes n) k ≡ path_of bytes k
unfolding sent_path numbers
sent_bits bytes n zero l = refl
sent_bits bytes n (suc zero) l = refl
sent_bits bytes n (suc (suc zero)) l = refl
sent_bits bytes n (suc (suc (suc zero))) l = refl
sent_bits bytes n (suc (suc (suc (suc zero)))) l = refl
sent_bits bytes n (suc (suc (suc (suc (suc zero))))) l = refl
sent_bits bytes n (suc (suc (suc (suc (suc (suc j)))))) l =
    let place : 0 + j ≡ j = omega arith in
    let next : 6 + j ≡ suc (suc (suc (suc (suc (suc j))))) = omega arith in
    get_or-map-range_with_len (bit_of_stream bytes) 0 n j j false (omega (arith, l)) place ∙ sym (behind bytes j) ∙ ap (path_of bytes) next

seven : (a b c d e f g a' b' c' d' e' f' g' : Bool) → a ≡ a' → b ≡ b' → c ≡ c' → d ≡ d' → e ≡ e' → f ≡ f' → g ≡ g' → ◌≡◌ {A = List Bool} (a ∷ b ∷ c ∷ d ∷ e ∷ f ∷ g ∷ []) (a' ∷ b' ∷ c' ∷ d' ∷ e' ∷ f' ∷ g' ∷ [])
seven a b c d e f g a' b' c' d' e' f' g' pa pb pc pd pe pf pg = cc

sent_window : (bytes : ℕ → ℕ) (n t : ℕ) → t < n → window (bit (sent_path bytes n)) t ≡ window (path_of bytes) t
sent_window bytes n t l =
    seven _ _ _ _ _ _ _ _ _ _ _ _ _ _ (at t (omega (arith, l))) (at (t + 1) (omega (arith, l))) (at (t + 2) (omega (arith, l))) (at (t + 3) (omega (arith, l))) (at (t + 4) (omega (arith, l))) (at (t + 5) (omega (arith, l))) (at (t + 6) (omega (arith, l)))
  where
    at : (k : ℕ) → k < 6 + n → bit (sent_path bytes n) k ≡ path_of bytes k
    at k m = sent_bits bytes n k m

-- a path from one of its steps on
window_from : (path : ℕ → Bool) (n t : ℕ) → window (from_step path n) t ≡ window path (n + t)
window_from path n t =
    seven _ _ _ _ _ _ _ _ _ _ _ _ _ _ refl (moved (t + 1) (n + t + 1) (omega arith)) (moved (t + 2) (n + t + 2) (omega arith)) (moved (t + 3) (n + t + 3) (omega arith)) (moved (t + 4) (n + t + 4) (omega arith)) (moved (t + 5) (n + t + 5) (omega arith)) (moved (t + 6) (n + t + 6) (omega arith))
  where
    moved : (k u : ℕ) → n + k ≡ u → path (n + k) ≡ path u
    moved k u e = ap path e

-- ---- the costs of all steps the known facts on the costs of bytes
pub record AreListed : Type 0 where
  pub long : CostsAreSteps
  pub step : CostOfStep

-- the known facts on the steps of a transmission
pub record AreSteps : Type 0 where
  pub more : StepsOfOneMore
  pub symbols : StepsHaveSymbols
  pub streams : StepsAreOfAStream

all_speak : AreKnown → AreSteps → AreListed → ListsArePaths → (s : Settings) (inputs : Inputs) (bytes : List ℕ) (σ : Stream) → IsWithin s inputs bytes
    → IsShown (replicate 6 false) (costs s bytes σ) (sent_path (outer_byte (inputs σ)) (steps_before s σ (symbols s bytes)))
all_speak known steps listed lists s inputs bytes σ w = record {
  path = record { long = sent_long (outer_byte (inputs σ)) n ∙ ap (λ (z : ℕ). 6 + z) (sym long); start = sent_starts (outer_byte (inputs σ)) n };
  speak = speak_all d (costs s bytes σ) p each;
}
  where
    n : ℕ
    n = steps_before s σ (symbols s bytes)

    p : List Bool
    p = sent_path (outer_byte (inputs σ)) n

    d : CostPair
    d = pair_of s [] [] 0 σ 0

    long : length (costs s bytes σ) ≡ n
    long = listed.long s bytes σ

    behind : (a b c : ℕ) → b ≡ a + c → (t : ℕ) → a ≤ t → t < b → (t - a < c) × (0 < c) × (a + (t - a) ≡ t)
    behind a b c e t l k = (omega (arith, e, l, k), omega (arith, e, l, k), omega (arith, l))

    each : (t : ℕ) → t < length (costs s bytes σ) → SpeaksFor (get_or (costs s bytes σ) t d) (drop t p)
    each t l =
        let few : t < n = omega (arith, l, long) in
        let found = steps.symbols s σ (symbols s bytes) t few in
        let m : ℕ = found.0 in
        let o : IsStepOf s σ m t = found.2 in
        let place = behind (steps_before s σ m) (steps_before s σ (m + 1)) (steps_of s σ m) (steps.more s σ m) t o.from o.to in
        let same : window (bit p) t ≡ window (paths_at s inputs m σ) (t - steps_before s σ m) =
        sent_window (outer_byte (inputs σ)) n t few ∙ ap (window (paths_of inputs σ)) (sym place.2) ∙ sym (window_from (paths_of inputs σ) (steps_before s σ m) (t - steps_before s σ m)) in
        subst (λ (z : CostPair). SpeaksFor z (drop t p)) (sym (listed.step s bytes σ m t d found.1 o))
        (step_speaks known s inputs bytes m (t - steps_before s σ m) σ (drop t p) w (subst (λ (z : ℕ). m < z) w.all found.1) (steps.streams s σ (m / 272) place.1).here place.0 ((lists p t).x ∙ ap parity_x same) ((lists p t).y ∙ ap parity_y same))

-- ---- the bytes
byte_small : (xs : List ℕ) (p : ℕ) → AreBytes xs → slice_index xs p < 256
byte_small [] p h = omega arith
byte_small (x ∷ xs) zero h = h.0
byte_small (x ∷ xs) (suc p) h = byte_small xs p h.1

outer_small : OuterAreBytes → ByteAfterByte → (packets : List (List ℕ)) → ArePackets packets → (p : ℕ) → outer_byte packets p < 256
outer_small are after packets h p =
    let l : p < p + 1 = omega arith in
    let b : slice_index (outer_bytes packets (p + 1)) p < 256 = byte_small (outer_bytes packets (p + 1)) p (are packets (p + 1) h) in
    subst (λ (z : ℕ). z < 256) (after packets (p + 1) p l) b

-- the known facts on bits and packets
pub record AreOwn : Type 0 where
  pub keeps : (most : ℕ) → KeepsSent most
  pub first : FirstBits
  pub bytes : OuterAreBytes
  pub after : ByteAfterByte
  pub packets : OwnBytes
  pub tally : OwnTally
  pub whole : SpansHaveWholeWords

sent_bytes_of : AreOwn → (packets : List (List ℕ)) (n : ℕ) → ArePackets packets → bytes_of (drop 6 (sent_path (outer_byte packets) n)) ≡ outer_bytes packets (n / 8)
unfolding outer_bytes
sent_bytes_of own packets n h = ap bytes_of (sent_rest (outer_byte packets) n) ∙ own.first (outer_byte packets) n (outer_small own.bytes own.after packets h)

-- as many words as the super-frames have
words_are : (steps words : ℕ) → 1632 * words ≡ steps → steps / 8 / 204 ≡ words
words_are steps words e = omega (arith, e)

symbols_are : (s : Settings) (inputs : Inputs) (n : ℕ) → super_frames s (counts_of inputs) ≡ Some n → symbols_of s inputs ≡ 272 * n
unfolding symbols_of
symbols_are s inputs n e = ap (λ (o : Option ℕ). unwrap_or (option_map (λ k. 272 * k) o) (s.max_symbols + 1)) e

-- the bits at the end are the bits sent
ended_bytes : AreKnown → AreSteps → AreListed → ListsArePaths → AreOwn → (s : Settings) (inputs : Inputs) (bytes : List ℕ) (r : Reception) (σ : Stream) (e : s.start ≡ Zero) → HavePackets s inputs → IsWithin s inputs bytes → (f : Final s bytes r)
    → IsTrue (exists_in s σ) → bytes_of (f.bits σ) ≡ outer_bytes (inputs σ) (steps_before s σ (symbols s bytes) / 8)
ended_bytes known steps listed lists own s inputs bytes r σ e have w f exists =
    let ended : Ended memory (Some (replicate 6 false)) (costs s bytes σ) (f.bits σ) = subst (λ (z : Start). Ended memory (start_of z) (costs s bytes σ) (f.bits σ)) e (f.decoded σ) in
    let n : ℕ = steps_before s σ (symbols s bytes) in
    ap bytes_of ((own.keeps memory).ended (replicate 6 false) (sent_path (outer_byte (inputs σ)) n) (f.bits σ) (costs s bytes σ) (all_speak known steps listed lists s inputs bytes σ w) ended) ∙ sent_bytes_of own (inputs σ) n (have σ exists)

word_count_is : AreOwn → (s : Settings) (inputs : Inputs) (bytes : List ℕ) (n : ℕ) (σ : Stream) → super_frames s (counts_of inputs) ≡ Some n → IsWithin s inputs bytes → steps_before s σ (symbols s bytes) / 8 / 204 - 11 ≡ words_of s σ n
word_count_is own s inputs bytes n σ frames w =
    ap (λ (z : ℕ). z - 11) (words_are (steps_before s σ (symbols s bytes)) (words_before s σ n) (own.whole s σ n ∙ ap (steps_before s σ) (sym (w.all ∙ symbols_are s inputs n frames))))

pub noise_law : AreKnown → AreSteps → AreListed → ListsArePaths → AreOwn → NoiseLaw
noise_law known steps listed lists own s inputs bytes r e have w f n σ frames exists =
    own.packets (inputs σ) (steps_before s σ (symbols s bytes) / 8) (r.packets σ) (have σ exists) (subst (λ (z : List ℕ). Packets z (r.packets σ)) (ended_bytes known steps listed lists own s inputs bytes r σ e have w f exists) (f.packets σ))
    ∙ ap (first_packets (inputs σ)) (word_count_is own s inputs bytes n σ frames w)

all_clean : ℕ → Tally
all_clean n = record { words = n; clean = n; corrected = 0; bad = 0; unphased = 0 }

pub noise_is_clean : AreKnown → AreSteps → AreListed → ListsArePaths → AreOwn → NoiseIsClean
unfolding all_clean
noise_is_clean known steps listed lists own s inputs bytes r e have w f n σ frames exists =
    own.tally (inputs σ) (steps_before s σ (symbols s bytes) / 8) (r.tally σ) (have σ exists) (subst (λ (z : List ℕ). Tallies z (r.tally σ)) (ended_bytes known steps listed lists own s inputs bytes r σ e have w f exists) (f.tally σ))
    ∙ ap all_clean (word_count_is own s inputs bytes n σ frames w)
