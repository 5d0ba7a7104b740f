-- Close cells measure as free of errors.
use Rattle.std.proofs.Common.{◌≡◌, ℕ, zero, suc, ◌+◌, ◌-◌, ◌*◌, ◌/◌, ◌%◌, ◌^◌, ◌<◌, ◌≤◌, Bool, true, false, cond, not, ◌&&◌, List, length, Option, Some, refl, sym, ap, ap₂, ◌∙◌, subst, arith, eqb}
use Rattle.std.specs.Prelude.{ℤ, IsTrue, count_by, sum_by, slice_index, unwrap_or, option_map}
use Rattle.std.specs.Bool.{beq}
use Rattle.std.specs.List.{range_with_len}
use Rattle.std.proofs.lemmas.Bool.{lt-ltb}
use Rattle.std.proofs.lemmas.Int.{ints}
use Rattle.std.proofs.lemmas.List.Sums.{sum_by-cons}
use Rattle.std.proofs.Math.Nat.{pow-le-pow_left}
use Rattle.spec_words.specs.Bits.{is_set}
use Rattle.spec_words.specs.Words.{numbers}
use Rattle.mode_set.specs.StreamTable.{payload, carriers, label_bits}
use Rattle.mode_set.specs.declared.modes.Mode.{Mode}
use Rattle.mode_set.specs.declared.modes.Start.TheVariants.{Zero}
use Rattle.mode_set.specs.declared.modes.Stream.{Stream}
use Rattle.mode_set.specs.declared.settings.Settings.{Settings}
use Rattle.symbol_parameters.specs.Spans.{settings_at, exists_in}
use Rattle.pilots.specs.Carriers.{is_payload, payload_carriers}
use Rattle.qam_map.specs.Points.{distance, map_cell, tolerance}
use Rattle.qam_map.specs.Cells.{cell_of}
use Rattle.qam_map.specs.declared.cell.Cell.{Cell}
use Rattle.soft_metric.specs.Costs.{IsNear}
use Rattle.outer_chain.specs.Bits.{bytes_of, FirstBits}
use Rattle.outer_chain.specs.Sent.{ArePackets, code_at, outer_byte, outer_bytes}
use Rattle.outer_chain.specs.Words.{word_count, word_at, IsNear as IsNearest, phase_before, has, is_clean}
use Rattle.outer_chain.proofs.OwnWords.{own_word, phases, no_burst, received_near}
use Rattle.outer_chain.proofs.WordLaws.{outer_small, distance_self}
use Rattle.transmission.specs.Transmission.{Inputs, tx_cell, tx_label}
use Rattle.transmission.specs.SuperFrames.{super_frames, counts_of, symbols_of, tx}
use Rattle.reception.specs.Cells.{symbols, symbol_cells}
use Rattle.measure_report.specs.declared.sums.StreamSums.{StreamSums}
use Rattle.measure_report.specs.declared.sums.SuperFrame.{SuperFrame}
use Rattle.hard_decision.specs.Hard.{hard_bit}
use Rattle.measure_sums.specs.Comparing.{Comparison, counts, carries, is_wrong, received, remade, carrier_at, label_places, squared_distance, cells_in, muted_in, error_in, wrong_in}
use Rattle.measure_sums.proofs.Counting.{count_none}
use Rattle.measurement.specs.Known.{is_compared, remade_bit, comparison}
use Rattle.measurement.specs.SuperFrames.{over_compared, known_with, told, told_before, words_of, bits_apart, repaired_in, AreStreamSums, AreSums}
use Rattle.measurement.specs.Lines.{begun_by}
use Rattle.law_link.specs.Returned.{HavePackets, IsWithin}
use Rattle.law_link.specs.Laws.{CellsAreRead, OwnAreWithin}
use Rattle.law_link.proofs.Cells.{IsCarrierOf, carrier_of, point_is, cell_on, weight_on, some_weight}
use Rattle.law_measurement.specs.Totals.{sums_of}
use Rattle.law_measurement.specs.Remade.{AreFirstSent, AreSentIn}
use Rattle.law_measurement.specs.Own.{NearPointsAreDecided, SymbolsAreCompared, IsClean, IsMeasuredClean, tolerance_in, NoiseIsMeasured, OwnIsMeasured, FramesAreNear, FramesAreExact}
use Rattle.law_measurement.proofs.KnownBits.{IsDecoding}
use Rattle.law_measurement.proofs.Long.{length-bytes_of}
use Rattle.law_measurement.proofs.Remade.{IsCoding, same_bit, remade_are_sent}
use Rattle.law_measurement.proofs.Sent.{IsSending, known_is_first}
use Rattle.law_measurement.proofs.Totals.{stream_sums}

-- ---- sums of zeros, and bounds

none_in_range : (f : ℕ → ℕ) (a n : ℕ) → ((k : ℕ) → a ≤ k → k < a + n → f k ≡ 0) → sum_by f (range_with_len a n) ≡ 0
none_in_range f a zero h = refl
none_in_range f a (suc n) h =
    let rest = none_in_range f (a + 1) n (λ k p q. h k (omega (arith, p)) (omega (arith, q))) in
    omega (arith, sum_by-cons f a (range_with_len (a + 1) n), rest, h a (omega arith) (omega arith))

bound_in_range : (f g : ℕ → ℕ) (b a n : ℕ) → ((k : ℕ) → a ≤ k → k < a + n → f k ≤ b * g k) → sum_by f (range_with_len a n) ≤ b * sum_by g (range_with_len a n)
bound_in_range f g b a zero h = omega arith
bound_in_range f g b a (suc n) h =
    let rest = bound_in_range f g b (a + 1) n (λ k p q. h k (omega (arith, p)) (omega (arith, q))) in
    let here = h a (omega arith) (omega arith) in
    let split : b * sum_by g (range_with_len a (suc n)) ≡ b * g a + b * sum_by g (range_with_len (a + 1) n) = ap (λ (z : ℕ). b * z) (sum_by-cons g a (range_with_len (a + 1) n)) ∙ (omega arith) in
    omega (arith, sum_by-cons f a (range_with_len (a + 1) n), rest, here, split)

bound_below : (f g : ℕ → ℕ) (b n : ℕ) → ((k : ℕ) → k < n → f k ≤ b * g k) → sum_by f (numbers n) ≤ b * sum_by g (numbers n)
unfolding numbers
bound_below f g b n h = bound_in_range f g b 0 n (λ k p q. h k (omega (arith, q)))

none_below : (f : ℕ → ℕ) (n : ℕ) → ((k : ℕ) → k < n → f k ≡ 0) → sum_by f (numbers n) ≡ 0
unfolding numbers
none_below f n h = none_in_range f 0 n (λ k p q. h k (omega (arith, q)))

if_none : (b : Bool) (x : ℕ) → (IsTrue b → x ≡ 0) → cond b x 0 ≡ 0
if_none true x h = h refl
if_none false x h = refl

if_bound : (b : Bool) (x y c : ℕ) → (IsTrue b → x ≤ c * y) → cond b x 0 ≤ c * cond b y 0
if_bound true x y c h = h refl
if_bound false x y c h = omega arith

-- ---- a word

beq_self : (b : Bool) → beq b b ≡ true
beq_self true = refl
beq_self false = refl

nothing_apart : (w : List ℕ) → bits_apart w w ≡ 0
nothing_apart w =
    none_below (λ p. count_by (λ i. not (beq (is_set (slice_index w p) i) (is_set (slice_index w p) i))) (numbers 8)) 204
    (λ p l. count_none (λ i. not (beq (is_set (slice_index w p) i) (is_set (slice_index w p) i))) 8 (λ i k. ap not (beq_self (is_set (slice_index w p) i))))

nothing_repaired : (w c : List ℕ) (near : Option (List ℕ)) → w ≡ c → near ≡ Some c → repaired_in w near ≡ 0
unfolding repaired_in
nothing_repaired w c near e f = ap₂ repaired_in e f ∙ nothing_apart c

-- ---- words of the first bits sent

module _ (first : FirstBits) (packets : List (List ℕ)) (are : ArePackets packets) (bits : List Bool) (sent : AreFirstSent packets bits) where
  bytes_are : bytes_of bits ≡ outer_bytes packets (length bits / 8)
  unfolding outer_bytes
  bytes_are = ap bytes_of sent ∙ first (outer_byte packets) (length bits) (λ p. outer_small packets p are)

  word_is : (x : ℕ) → x < word_count (bytes_of bits) → word_at (bytes_of bits) x ≡ code_at packets x
  word_is x l =
      ap (λ (z : List ℕ). word_at z x) bytes_are ∙ own_word packets (length bits / 8) x are (omega (arith, l, length-bytes_of bits))

  near_is : (x : ℕ) (near : Option (List ℕ)) → x < word_count (bytes_of bits) → IsNearest (word_at (bytes_of bits) x) near → near ≡ Some (code_at packets x)
  near_is x near l h =
      received_near packets (length bits / 8) x (outer_bytes packets (length bits / 8)) near are (no_burst (outer_bytes packets (length bits / 8))) (omega (arith, l, length-bytes_of bits))
      (subst (λ (z : List ℕ). IsNearest (word_at z x) near) bytes_are h)

-- ---- one symbol

tolerated : (t : ℕ) (c d : Cell) → distance c.re d.re ≤ t → distance c.im d.im ≤ t → squared_distance c d ≤ 2 * t ^ 2
tolerated t c d p q = omega (arith, pow-le-pow_left p 2, pow-le-pow_left q 2)

self_distance : (z : ℤ) → distance z z ≡ 0
self_distance z = omega (arith, ints)

no_distance : (c : Cell) → squared_distance c c ≡ 0
no_distance c = ap₂ (λ (x y : ℕ). x ^ 2 + y ^ 2) (self_distance c.re) (self_distance c.im)

and_false : (b : Bool) → (b && false) ≡ false
and_false true = refl
and_false false = refl

unwrong : (carried a b c : Bool) → a ≡ c → b ≡ c → (carried && not (beq a b)) ≡ false
unwrong carried a b c p q = ap₂ (λ (x y : Bool). carried && not (beq x y)) p q ∙ ap (λ (x : Bool). carried && not x) (beq_self c) ∙ and_false carried

module _ (decided : NearPointsAreDecided) (coding : IsCoding) (s : Settings) (inputs : Inputs) (bytes : List ℕ) (w : IsWithin s inputs bytes) (m : ℕ) (within : m < symbols_of s inputs) (known : Stream → List Bool) (sent : AreSentIn s inputs m known)
    (compared : IsTrue (is_compared s m known)) where
  abbrev now : Settings
  now = settings_at s m

  abbrev place : ℕ → ℕ
  place q = slice_index (payload_carriers now.mode (m % 68)) q

  carrier : (q : ℕ) → q < payload now.mode → IsCarrierOf now m q (place q)
  carrier q l = carrier_of now m q (coding.counts now.mode (m % 68)) l

  near_sent : (q : ℕ) → q < payload now.mode → IsNear now.shape now.hierarchy (tx_cell s inputs m (place q)) (cell_on s bytes m q)
  near_sent q l =
      let c : IsCarrierOf now m q (place q) = carrier q l in
      w.near m (place q) within (subst (λ (z : Mode). place q < carriers z) (coding.stays s (m / 272)) c.within) (subst (λ (z : Mode). IsTrue (is_payload z (m % 68) (place q))) (coding.stays s (m / 272)) c.free)

  near_label : (q : ℕ) → q < payload now.mode → IsNear now.shape now.hierarchy (map_cell now.shape now.hierarchy (tx_label s inputs m q)) (cell_on s bytes m q)
  near_label q l = subst (λ (z : Cell). IsNear now.shape now.hierarchy z (cell_on s bytes m q)) (point_is s inputs m q (place q) (carrier q l).kind_is) (near_sent q l)

  abbrev x : Comparison
  x = comparison s bytes known m

  counted : (q : ℕ) → q < payload now.mode → counts x q ≡ true
  unfolding comparison
  counted q l = lt-ltb 0 (weight_on s bytes m q) (omega (arith, some_weight coding.stays s inputs bytes m q w within (coding.counts now.mode (m % 68)) l))

  none_muted : muted_in x ≡ 0
  unfolding comparison
  none_muted = count_none (λ q. not (counts x q)) (payload now.mode) (λ q l. ap not (counted q l))

  none_wrong : (σ : Stream) → wrong_in x σ ≡ 0
  unfolding comparison
  none_wrong σ =
      none_below (λ q. cond (counts x q) (count_by (λ e. carries x σ e && is_wrong x q e) (label_places x)) 0) (payload now.mode)
      (λ q l. if_none (counts x q) (count_by (λ e. carries x σ e && is_wrong x q e) (label_places x))
      (λ c. count_none (λ e. carries x σ e && is_wrong x q e) (label_bits now.shape)
      (λ e k. unwrong (carries x σ e) (hard_bit now.shape now.hierarchy (cell_on s bytes m q) e) (remade_bit s known m q e) (tx_label s inputs m q e)
      (decided now.shape now.hierarchy (tx_label s inputs m q) (cell_on s bytes m q) e k (near_label q l))
      (same_bit coding s inputs m known q e compared sent l k))))

  remade_is : (q : ℕ) → q < payload now.mode → remade x q ≡ tx_cell s inputs m (carrier_at x q)
  remade_is q l = remade_are_sent coding s inputs bytes m known q compared sent (subst (λ (z : Mode). q < payload z) (coding.stays s (m / 272)) l)

  little_error : error_in x ≤ 2 * tolerance now.shape now.hierarchy ^ 2 * cells_in x
  unfolding comparison
  little_error =
      bound_below (λ q. cond (counts x q) (squared_distance (received x q) (remade x q)) 0) (λ q. cond (counts x q) 1 0) (2 * tolerance now.shape now.hierarchy ^ 2) (payload now.mode)
      (λ q l. if_bound (counts x q) (squared_distance (received x q) (remade x q)) 1 (2 * tolerance now.shape now.hierarchy ^ 2)
      (λ c. subst (λ (p : Cell). squared_distance (cell_on s bytes m q) p ≤ 2 * tolerance now.shape now.hierarchy ^ 2 * 1) (sym (remade_is q l))
      (omega (arith, tolerated (tolerance now.shape now.hierarchy) (cell_on s bytes m q) (tx_cell s inputs m (place q)) (near_sent q l).re (near_sent q l).im))))

  no_error : ((k : ℕ) → k < carriers s.mode → cell_of (symbol_cells s bytes m) k ≡ tx_cell s inputs m k) → error_in x ≡ 0
  unfolding comparison
  no_error exact =
      none_below (λ q. cond (counts x q) (squared_distance (received x q) (remade x q)) 0) (payload now.mode)
      (λ q l. if_none (counts x q) (squared_distance (received x q) (remade x q))
      (λ c. ap₂ squared_distance (exact (place q) (subst (λ (z : Mode). place q < carriers z) (coding.stays s (m / 272)) (carrier q l).within)) (remade_is q l) ∙ no_distance (tx_cell s inputs m (place q))))

-- ---- one super-frame

symbols_are : (s : Settings) (inputs : Inputs) (n : ℕ) → super_frames s (counts_of inputs) ≡ Some n → symbols_of s inputs ≡ 272 * n
unfolding symbols_of
symbols_are s inputs n e = ap (λ (o : Option ℕ). unwrap_or (option_map (λ k. 272 * k) o) (s.max_symbols + 1)) e

-- the known facts on all that is measured
pub record IsMeasuring : Type 0 where
  pub decoding : IsDecoding
  pub coding : IsCoding
  pub sending : IsSending
  pub decided : NearPointsAreDecided
  pub compared : SymbolsAreCompared
  pub first : FirstBits

module _ (laws : IsMeasuring) (s : Settings) (inputs : Inputs) (bytes : List ℕ) (n j : ℕ) (f : SuperFrame) (start : s.start ≡ Zero) (have : HavePackets s inputs) (frames : super_frames s (counts_of inputs) ≡ Some n) (w : IsWithin s inputs bytes) (less : j < n)
    (a : AreSums s bytes j f) where
  whole : symbols_of s inputs ≡ 272 * n
  whole = symbols_are s inputs n frames

  within : (m : ℕ) → m < 272 * j + 272 → m < symbols_of s inputs
  within m l = omega (arith, l, whole, less)

  first_known : (m : ℕ) (σ : Stream) → 272 * j ≤ m + 1 → m < 272 * (j + 1) → AreFirstSent (inputs σ) (a.known m σ)
  first_known m σ p q = known_is_first laws.decoding laws.sending s inputs bytes σ m (a.known m σ) start w (a.are_known m σ p q)

  sent_in : (m : ℕ) → 272 * j ≤ m → m < 272 * j + 272 → AreSentIn s inputs m (a.known m)
  sent_in m p q σ there = first_known m σ (omega (arith, p)) (omega (arith, q))

  none_compared : (g : Comparison → ℕ) → ((m : ℕ) → 272 * j ≤ m → m < 272 * j + 272 → IsTrue (is_compared s m (a.known m)) → g (comparison s bytes (a.known m) m) ≡ 0) → over_compared s bytes a.known j g ≡ 0
  none_compared g h = none_in_range (λ m. cond (is_compared s m (a.known m)) (g (comparison s bytes (a.known m) m)) 0) (272 * j) 272 (λ m p q. if_none (is_compared s m (a.known m)) (g (comparison s bytes (a.known m) m)) (h m p q))

  unmuted : f.muted ≡ 0
  unmuted = a.muted ∙ none_compared muted_in (λ m p q c. none_muted laws.decided laws.coding s inputs bytes w m (within m q) (a.known m) (sent_in m p q) c)

  frame_of : (m : ℕ) → 272 * j ≤ m → m < 272 * j + 272 → m / 272 ≡ j
  frame_of m p q = omega (arith, p, q)

  bounded : f.error ≤ 2 * tolerance_in s j ^ 2 * f.cells
  bounded =
      let most = bound_in_range (λ m. cond (is_compared s m (a.known m)) (error_in (comparison s bytes (a.known m) m)) 0) (λ m. cond (is_compared s m (a.known m)) (cells_in (comparison s bytes (a.known m) m)) 0) (2 * tolerance_in s j ^ 2) (272 * j) 272
      (λ m p q. if_bound (is_compared s m (a.known m)) (error_in (comparison s bytes (a.known m) m)) (cells_in (comparison s bytes (a.known m) m)) (2 * tolerance_in s j ^ 2)
      (λ c. subst (λ (i : ℕ). error_in (comparison s bytes (a.known m) m) ≤ 2 * tolerance_in s i ^ 2 * cells_in (comparison s bytes (a.known m) m)) (frame_of m p q)
      (little_error laws.decided laws.coding s inputs bytes w m (within m q) (a.known m) (sent_in m p q) c))) in
      subst (λ (z : ℕ). z ≤ 2 * tolerance_in s j ^ 2 * f.cells) (sym a.error) (subst (λ (z : ℕ). over_compared s bytes a.known j error_in ≤ 2 * tolerance_in s j ^ 2 * z) (sym a.cells) most)

  exactly : ((m k : ℕ) → m < symbols_of s inputs → k < carriers s.mode → cell_of (symbol_cells s bytes m) k ≡ tx_cell s inputs m k) → f.error ≡ 0
  exactly exact = a.error ∙ none_compared error_in (λ m p q c. no_error laws.decided laws.coding s inputs bytes w m (within m q) (a.known m) (sent_in m p q) c (λ k l. exact m k (within m q) l))

  module _ (σ : Stream) (there : IsTrue (exists_in s σ)) (t : StreamSums) (b : AreStreamSums s bytes a.known j σ t) where
    abbrev bits : List Bool
    bits = known_with a.known σ j

    sent_bits : AreFirstSent (inputs σ) bits
    sent_bits = first_known (272 * j + 271) σ (omega arith) (omega arith)

    below : (x : ℕ) → x < told s a.known σ j → x < word_count (bytes_of bits)
    below x l = omega (arith, l)

    near : (x : ℕ) → x < told s a.known σ j → b.near x ≡ Some (code_at (inputs σ) x)
    near x l = near_is laws.first (inputs σ) (have σ there) bits sent_bits x (b.near x) (below x l) (b.is_near x l)

    word : (x : ℕ) → x < told s a.known σ j → word_at (bytes_of bits) x ≡ code_at (inputs σ) x
    word x l = word_is laws.first (inputs σ) (have σ there) bits sent_bits x (below x l)

    told_here : (x : ℕ) → told_before s a.known σ j ≤ x → x < told_before s a.known σ j + (told s a.known σ j - told_before s a.known σ j) → x < told s a.known σ j
    told_here x p q = omega (arith, p, q)

    none_counted : (p : ℕ → Bool) → ((x : ℕ) → x < told s a.known σ j → p x ≡ false) → count_by p (words_of s a.known σ j) ≡ 0
    none_counted p h = none_in_range (λ x. cond (p x) 1 0) (told_before s a.known σ j) (told s a.known σ j - told_before s a.known σ j) (λ x u v. ap (λ (c : Bool). cond c 1 0) (h x (told_here x u v)))

    clean_word : (c : List ℕ) → (has (Some c) && not (is_clean c (Some c))) ≡ false
    clean_word c = ap (λ (d : ℕ). not (eqb d 0)) (distance_self c)

    is_clean_stream : IsClean t
    is_clean_stream = record {
      wrong = b.wrong ∙ none_compared (λ x. wrong_in x σ) (λ m p q c. none_wrong laws.decided laws.coding s inputs bytes w m (within m q) (a.known m) (sent_in m p q) c σ);
      corrected =
          b.corrected ∙ none_counted (λ x. has (b.near x) && not (is_clean (word_at (bytes_of bits) x) (b.near x)))
          (λ x l. ap₂ (λ (v : List ℕ) (o : Option (List ℕ)). has o && not (is_clean v o)) (word x l) (near x l) ∙ clean_word (code_at (inputs σ) x));
      bad = b.bad ∙ none_counted (λ x. not (has (b.near x))) (λ x l. ap (λ (o : Option (List ℕ)). not (has o)) (near x l));
      unphased =
          b.unphased ∙ none_counted (λ x. not (has (phase_before b.near (suc x))))
          (λ x l. ap (λ (o : Option ℕ). not (has o)) (phases b.near (inputs σ) x (have σ there) (λ k i. near k (omega (arith, i, l)))));
      repaired =
          b.repaired ∙ none_in_range (λ x. repaired_in (word_at (bytes_of bits) x) (b.near x)) (told_before s a.known σ j) (told s a.known σ j - told_before s a.known σ j)
          (λ x u v. nothing_repaired (word_at (bytes_of bits) x) (code_at (inputs σ) x) (b.near x) (word x (told_here x u v)) (near x (told_here x u v)));
    }

  measured : IsMeasuredClean s n j f
  measured = record {
    compared = laws.compared s bytes n j f start (w.all ∙ whole) less a;
    muted = unmuted;
    streams = λ σ there. is_clean_stream σ there (sums_of σ f) (stream_sums s bytes j f a σ there);
  }

pub noise_is_measured : IsMeasuring → NoiseIsMeasured
noise_is_measured laws s inputs bytes n j f start have frames w less a = record {
  clean = measured laws s inputs bytes n j f start have frames w less a;
  error = bounded laws s inputs bytes n j f start have frames w less a;
}

pub own_is_measured : IsMeasuring → CellsAreRead → OwnAreWithin → OwnIsMeasured
own_is_measured laws read within s inputs n j f start have frames less a = record {
  clean = measured laws s inputs (tx s inputs) n j f start have frames (within s inputs) less a;
  error = exactly laws s inputs (tx s inputs) n j f start have frames (within s inputs) less a (λ m k p q. read s inputs m k p q);
}

-- ---- the lines of a measurement

as_many : (n k : ℕ) → k ≡ 272 * n → begun_by k ≡ n
as_many n k e = omega (arith, e)

pub frames_are_near : NoiseIsMeasured → FramesAreNear
frames_are_near noise s inputs bytes out n m start have frames w =
    let count : begun_by (symbols s bytes) ≡ n = as_many n (symbols s bytes) (w.all ∙ symbols_are s inputs n frames) in
    (count, λ j l. noise s inputs bytes n j (m.frames j) start have frames w l (m.are j (omega (arith, l, count))))

pub frames_are_exact : OwnIsMeasured → OwnAreWithin → FramesAreExact
frames_are_exact own within s inputs out n m start have frames =
    let count : begun_by (symbols s (tx s inputs)) ≡ n = as_many n (symbols s (tx s inputs)) ((within s inputs).all ∙ symbols_are s inputs n frames) in
    (count, λ j l. own s inputs n j (m.frames j) start have frames l (m.are j (omega (arith, l, count))))
