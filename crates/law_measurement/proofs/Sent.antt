-- From close cells the decoder gives the bits sent.
use Rattle.std.proofs.Common.{◌≡◌, ℕ, zero, suc, ◌+◌, ◌-◌, ◌/◌, ◌<◌, ◌≤◌, Bool, false, List, [], ◌∷◌, ◌++◌, length, get_or, take, drop, replicate, refl, sym, ap, ◌∙◌, subst, arith, length-append}
use Rattle.std.specs.Prelude.{Some}
use Rattle.std.proofs.lemmas.List.{length-map}
use Rattle.std.proofs.lemmas.List.FromFn.{take-map-range_with_len}
use Rattle.std.proofs.Math.Seq.{take-append_seam}
use Rattle.spec_words.specs.Bits.{bit}
use Rattle.spec_words.specs.Words.{numbers}
use Rattle.spec_words.proofs.Counting.{length-numbers}
use Rattle.mode_set.specs.declared.modes.Start.{Start}
use Rattle.mode_set.specs.declared.modes.Start.TheVariants.{Zero}
use Rattle.mode_set.specs.declared.modes.Stream.{Stream}
use Rattle.mode_set.specs.declared.settings.Settings.{Settings}
use Rattle.code_paths.specs.declared.costs.CostPair.{CostPair}
use Rattle.code_paths.specs.Paths.{parity_x, parity_y}
use Rattle.code_paths.specs.Streams.{IsPrefix, Ended}
use Rattle.code_paths.specs.Favoured.{SpeaksFor, SpeakFor, IsShown, KeepsSent}
use Rattle.puncture.specs.SentBits.{path_of, window}
use Rattle.puncture.specs.Laws.{ListsArePaths}
use Rattle.outer_chain.specs.Bits.{bit_of_stream}
use Rattle.outer_chain.specs.Sent.{outer_byte}
use Rattle.inner_chain.specs.PairLists.{pair_of}
use Rattle.inner_chain.specs.Labels.{from_step}
use Rattle.symbol_parameters.specs.Spans.{steps_of, steps_before, IsStepOf}
use Rattle.transmission.specs.Transmission.{Inputs, paths_of, paths_at}
use Rattle.reception.specs.Cells.{symbols}
use Rattle.reception.specs.Costs.{costs}
use Rattle.reception.specs.Streams.{memory, start_of}
use Rattle.measurement.specs.Known.{IsKnown, known_path}
use Rattle.law_link.specs.Returned.{IsWithin}
use Rattle.law_link.proofs.Favoured.{AreKnown, step_speaks}
use Rattle.law_link.proofs.Received.{AreListed, AreSteps}
use Rattle.law_measurement.specs.Remade.{first_bits, AreFirstSent}
use Rattle.law_measurement.proofs.KnownBits.{IsDecoding, is_start, known_begins}
use Rattle.law_measurement.proofs.Remade.{first_path}

-- the known facts on sending and decoding
pub record IsSending : Type 0 where
  pub known : AreKnown
  pub steps : AreSteps
  pub listed : AreListed
  pub lists : ListsArePaths
  pub keeps : KeepsSent memory

-- ---- all steps

dropped : {A : Type 0} (t : ℕ) (p : List A) → drop t (drop 1 p) ≡ drop (suc t) p
dropped zero [] = refl
dropped (suc t) [] = refl
dropped t (x ∷ p) = refl

speak_all : (d : CostPair) (c : List CostPair) (p : List Bool) → ((t : ℕ) → t < length c → SpeaksFor (get_or c t d) (drop t p)) → SpeakFor c p
speak_all d [] p h = tt
speak_all d (x ∷ c) p h = (h 0 (omega arith), speak_all d c (drop 1 p) (λ t l. subst (SpeaksFor (get_or c t d)) (sym (dropped t p)) (h (suc t) (omega (arith, l)))))

seven : (a b c d e f g a' b' c' d' e' f' g' : Bool) → a ≡ a' → b ≡ b' → c ≡ c' → d ≡ d' → e ≡ e' → f ≡ f' → g ≡ g' → ◌≡◌ {A = List Bool} (a ∷ b ∷ c ∷ d ∷ e ∷ f ∷ g ∷ []) (a' ∷ b' ∷ c' ∷ d' ∷ e' ∷ f' ∷ g' ∷ [])
seven a b c d e f g a' b' c' d' e' f' g' pa pb pc pd pe pf pg = cc

sent_window : (packets : List (List ℕ)) (n t : ℕ) → t < n → window (known_path (first_bits packets n)) t ≡ window (path_of (outer_byte packets)) t
sent_window packets n t l =
    seven _ _ _ _ _ _ _ _ _ _ _ _ _ _ (at t (omega (arith, l))) (at (t + 1) (omega (arith, l))) (at (t + 2) (omega (arith, l))) (at (t + 3) (omega (arith, l))) (at (t + 4) (omega (arith, l))) (at (t + 5) (omega (arith, l))) (at (t + 6) (omega (arith, l)))
  where
    at : (k : ℕ) → k < 6 + n → known_path (first_bits packets n) k ≡ path_of (outer_byte packets) k
    at k m = first_path packets n k m

-- a path from one of its steps on
window_from : (path : ℕ → Bool) (n t : ℕ) → window (from_step path n) t ≡ window path (n + t)
window_from path n t =
    seven _ _ _ _ _ _ _ _ _ _ _ _ _ _ refl (moved (t + 1) (n + t + 1) (omega arith)) (moved (t + 2) (n + t + 2) (omega arith)) (moved (t + 3) (n + t + 3) (omega arith)) (moved (t + 4) (n + t + 4) (omega arith)) (moved (t + 5) (n + t + 5) (omega arith)) (moved (t + 6) (n + t + 6) (omega arith))
  where
    moved : (k u : ℕ) → n + k ≡ u → path (n + k) ≡ path u
    moved k u e = ap path e

first_long : (packets : List (List ℕ)) (n : ℕ) → length (first_bits packets n) ≡ n
first_long packets n = length-map (numbers n) (bit_of_stream (outer_byte packets)) ∙ length-numbers n

-- six zeros, and the first bits sent
unfoldable sent_path : List (List ℕ) → ℕ → List Bool
sent_path packets n = replicate 6 false ++ first_bits packets n

path_long : (packets : List (List ℕ)) (n : ℕ) → length (sent_path packets n) ≡ 6 + n
unfolding sent_path
path_long packets n = let e : length (first_bits packets n) ≡ n = first_long packets n in omega (arith, e)

path_starts : (packets : List (List ℕ)) (n : ℕ) → take 6 (sent_path packets n) ≡ replicate 6 false
unfolding sent_path
path_starts packets n = refl

path_rest : (packets : List (List ℕ)) (n : ℕ) → drop 6 (sent_path packets n) ≡ first_bits packets n
unfolding sent_path
path_rest packets n = refl

path_window : (packets : List (List ℕ)) (n t : ℕ) → t < n → window (bit (sent_path packets n)) t ≡ window (path_of (outer_byte packets)) t
unfolding sent_path
path_window packets n t l = sent_window packets n t l

all_speak : IsSending → (s : Settings) (inputs : Inputs) (bytes : List ℕ) (σ : Stream) → IsWithin s inputs bytes
    → IsShown (replicate 6 false) (costs s bytes σ) (sent_path (inputs σ) (steps_before s σ (symbols s bytes)))
all_speak laws s inputs bytes σ w = record {
  path = record { long = path_long (inputs σ) n ∙ ap (λ (z : ℕ). 6 + z) (sym long); start = path_starts (inputs σ) n };
  speak = speak_all d (costs s bytes σ) p each;
}
  where
    n : ℕ
    n = steps_before s σ (symbols s bytes)

    p : List Bool
    p = sent_path (inputs σ) n

    d : CostPair
    d = pair_of s [] [] 0 σ 0

    long : length (costs s bytes σ) ≡ n
    long = laws.listed.long s bytes σ

    behind : (a b c : ℕ) → b ≡ a + c → (t : ℕ) → a ≤ t → t < b → (t - a < c) × (0 < c) × (a + (t - a) ≡ t)
    behind a b c e t l k = (omega (arith, e, l, k), omega (arith, e, l, k), omega (arith, l))

    each : (t : ℕ) → t < length (costs s bytes σ) → SpeaksFor (get_or (costs s bytes σ) t d) (drop t p)
    each t l =
        let few : t < n = omega (arith, l, long) in
        let found = laws.steps.symbols s σ (symbols s bytes) t few in
        let m : ℕ = found.0 in
        let o : IsStepOf s σ m t = found.2 in
        let place = behind (steps_before s σ m) (steps_before s σ (m + 1)) (steps_of s σ m) (laws.steps.more s σ m) t o.from o.to in
        let same : window (bit p) t ≡ window (paths_at s inputs m σ) (t - steps_before s σ m) =
        path_window (inputs σ) n t few ∙ ap (window (paths_of inputs σ)) (sym place.2) ∙ sym (window_from (paths_of inputs σ) (steps_before s σ m) (t - steps_before s σ m)) in
        subst (λ (z : CostPair). SpeaksFor z (drop t p)) (sym (laws.listed.step s bytes σ m t d found.1 o))
        (step_speaks laws.known s inputs bytes m (t - steps_before s σ m) σ (drop t p) w (subst (λ (z : ℕ). m < z) w.all found.1) (laws.steps.streams s σ (m / 272) place.1).here place.0 ((laws.lists p t).x ∙ ap parity_x same) ((laws.lists p t).y ∙ ap parity_y same))

-- the bits at the end are the bits sent
pub ended_is_sent : IsSending → (s : Settings) (inputs : Inputs) (bytes : List ℕ) (σ : Stream) (bits : List Bool) → s.start ≡ Zero → IsWithin s inputs bytes → Ended memory (start_of s.start) (costs s bytes σ) bits
    → bits ≡ first_bits (inputs σ) (steps_before s σ (symbols s bytes))
ended_is_sent laws s inputs bytes σ bits e w ended =
    let n : ℕ = steps_before s σ (symbols s bytes) in
    let from : Ended memory (Some (replicate 6 false)) (costs s bytes σ) bits = subst (λ (z : Start). Ended memory (start_of z) (costs s bytes σ) bits) e ended in
    laws.keeps.ended (replicate 6 false) (sent_path (inputs σ) n) bits (costs s bytes σ) (all_speak laws s inputs bytes σ w) from ∙ path_rest (inputs σ) n

-- a prefix of sent bits is the first sent bits
front_is_first : (packets : List (List ℕ)) (bits last : List Bool) (n : ℕ) → IsPrefix bits last → length bits ≤ n → last ≡ first_bits packets n → AreFirstSent packets bits
unfolding numbers
front_is_first packets bits last n p l e =
    sym (take-append_seam bits p.rest) ∙ ap (take (length bits)) (sym p.is) ∙ ap (take (length bits)) e ∙ take-map-range_with_len (bit_of_stream (outer_byte packets)) 0 n (length bits) l

-- the bits known for a symbol are the first sent bits
pub known_is_first : IsDecoding → IsSending → (s : Settings) (inputs : Inputs) (bytes : List ℕ) (σ : Stream) (m : ℕ) (bits : List Bool) → s.start ≡ Zero → IsWithin s inputs bytes → IsKnown s bytes σ m bits → AreFirstSent (inputs σ) bits
known_is_first decoding laws s inputs bytes σ m bits e w k =
    let last = decoding.some_ended memory (start_of s.start) (costs s bytes σ) (is_start s.start) in
    let p : IsPrefix bits last.0 = known_begins decoding s bytes σ m bits last.0 k last.1 in
    let is = ended_is_sent laws s inputs bytes σ last.0 e w last.1 in
    let fewer : length bits ≤ length last.0 = shorter bits last.0 p in
    front_is_first (inputs σ) bits last.0 (steps_before s σ (symbols s bytes)) p (omega (arith, fewer, ap length is, first_long (inputs σ) (steps_before s σ (symbols s bytes)))) is
  where
    shorter : (a b : List Bool) → IsPrefix a b → length a ≤ length b
    shorter a b p = omega (arith, ap length p.is, length-append a p.rest)
