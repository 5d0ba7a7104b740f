-- The lines of a measurement add up to the closing lines.
use Rattle.std.proofs.Common.{◌≡◌, ℕ, zero, suc, ◌+◌, ◌-◌, ◌*◌, ◌/◌, ◌<◌, ◌≤◌, min, Bool, true, false, cond, not, ◌&&◌, List, length, ◌⊎◌, inl, inr, Option, Some, None, refl, sym, ap, ap₂, ◌∙◌, subst, arith, length-append}
use Rattle.std.specs.Prelude.{IsTrue, count_by, nat_lt, nat_le, unwrap_or}
use Rattle.std.specs.List.{range_with_len, concat}
use Rattle.std.proofs.lemmas.Bool.{cases_lt, lt-ltb, le-ltb, le-leb, lt-leb}
use Rattle.std.proofs.lemmas.List.Elements.{All-weaker}
use Rattle.code_paths.specs.Streams.{IsPrefix}
use Rattle.code_paths.specs.Laws.{ReportsOnce}
use Rattle.mode_set.specs.declared.modes.Stream.{Stream}
use Rattle.mode_set.specs.declared.modes.Stream.TheVariants.{Hp, Lp}
use Rattle.mode_set.specs.declared.settings.Settings.{Settings}
use Rattle.symbol_parameters.specs.Spans.{exists_in, steps_before, words_before}
use Rattle.symbol_parameters.specs.Laws.{NoSteps, StepsGrow, WordsGrow, SpansHaveWholeWords}
use Rattle.outer_chain.specs.Bits.{bytes_of, MoreBits}
use Rattle.outer_chain.specs.Laws.{OneNear}
use Rattle.outer_chain.specs.Running.{WordStays}
use Rattle.outer_chain.specs.Words.{count, word_at, word_count, IsNear, phase_before, has, is_clean, Tally, tally_to}
use Rattle.outer_chain.proofs.OwnWords.{length-word_at}
use Rattle.outer_chain.proofs.WordLaws.{phase_same}
use Rattle.reception.specs.Cells.{symbols, tail}
use Rattle.reception.specs.Costs.{costs}
use Rattle.reception.specs.Frames.{CountsWords, IsReadable, tps_cells, frame_bits}
use Rattle.reception.specs.Laws.{CostsAreSteps, ReportsAreSteps, OneFinal, AreSame}
use Rattle.reception.specs.Lines.{stream_counts, counts_of_stream, closing_lines}
use Rattle.rx_report.specs.Text as text
use Rattle.rx_report.specs.declared.counts.Counts.{Counts}
use Rattle.rx_report.specs.declared.counts.StreamCounts.{StreamCounts}
use Rattle.reception.specs.Streams.{memory, start_of, Reception, Final}
use Rattle.measure_report.specs.declared.sums.StreamSums.{StreamSums}
use Rattle.measure_report.specs.declared.sums.SuperFrame.{SuperFrame}
use Rattle.measurement.specs.Known.{IsKnown}
use Rattle.measurement.specs.SuperFrames.{Knowns, known_with, told, told_before, words_of, is_reported_in, AreStreamSums, AreKnownAround, AreSums}
use Rattle.measurement.specs.Lines.{begun_by}
use Rattle.measurement.proofs.Lists.{range_counts}
use Rattle.law_measurement.specs.Totals.{nothing, sums_of, AreTotals, AddUp, LinesAddUp, ClosingIsReceived}
use Rattle.law_measurement.proofs.Long.{ended_long, length-bytes_of}
use Rattle.law_measurement.proofs.KnownBits.{IsDecoding, some_known, known_once, known_begins, known_grows}
use Rattle.law_measurement.proofs.Adding.{added_up, part_added, counted, count_on, count_alike, count_few, counts_join, all_counted, none_counted, no_count}

-- the known facts on words, steps and reports
pub record AreListed : Type 0 where
  pub more : MoreBits
  pub stays : WordStays
  pub near : OneNear
  pub words : WordsGrow
  pub whole : SpansHaveWholeWords
  pub steps : StepsGrow
  pub none : NoSteps
  pub long : CostsAreSteps
  pub reports : ReportsOnce
  pub reported : ReportsAreSteps

-- ---- the words of a prefix of bits

fewer_words : (a b : List Bool) → IsPrefix a b → word_count (bytes_of a) ≤ word_count (bytes_of b)
fewer_words a b p = omega (arith, length-bytes_of a, length-bytes_of b, ap length p.is, length-append a p.rest)

same_word : AreListed → (a b : List Bool) (x : ℕ) → IsPrefix a b → x < word_count (bytes_of a) → word_at (bytes_of b) x ≡ word_at (bytes_of a) x
same_word laws a b x p l =
    let m = laws.more a p.rest in
    ap (λ (z : List Bool). word_at (bytes_of z) x) p.is ∙ ap (λ (z : List ℕ). word_at z x) m.1 ∙ laws.stays (bytes_of a) m.0 x l

-- the sums of an existing stream
pub stream_sums : (s : Settings) (bytes : List ℕ) (j : ℕ) (f : SuperFrame) (a : AreSums s bytes j f) (σ : Stream) → IsTrue (exists_in s σ) → AreStreamSums s bytes a.known j σ (sums_of σ f)
stream_sums s bytes j f a Hp there = a.hp
stream_sums s bytes j f a Lp there =
    let is : f.lp ≡ Some a.lp = a.lp_is ∙ ap (λ (b : Bool). cond b (Some a.lp) None) there in
    subst (AreStreamSums s bytes a.known j Lp) (ap (λ (o : Option StreamSums). unwrap_or o nothing) (sym is)) a.lp_are

-- ---- a frame of TPS words

same_test : (b c : Bool) → (IsTrue b → IsTrue c) → (IsTrue c → IsTrue b) → b ≡ c
same_test true c f g = sym (f refl)
same_test false true f g = g refl
same_test false false f g = refl

read_alike : (word other : ℕ → List Bool) (n m read bad read1 bad1 a : ℕ) (x : CountsWords word n read bad) (y : CountsWords other m read1 bad1) → ((f : ℕ) → f < m → other f ≡ word (a + f)) → a + m ≤ n → read1 ≡ count (λ f. x.is_read (a + f)) m
read_alike word other n m read bad read1 bad1 a x y same l =
    y.read_is
    ∙ count_alike y.is_read (λ f. x.is_read (a + f)) m
    (λ f k. same_test (y.is_read f) (x.is_read (a + f))
    (λ t. (x.reads (a + f) (omega (arith, k, l))).1 (subst IsReadable (same f k) ((y.reads f k).0 t)))
    (λ t. (y.reads f k).1 (subst IsReadable (sym (same f k)) ((x.reads (a + f) (omega (arith, k, l))).0 t))))

module _ (decoding : IsDecoding) (laws : AreListed) (s : Settings) (bytes : List ℕ) (r : Reception) (fin : Final s bytes r) where
  abbrev known_of : Knowns
  known_of m σ = (some_known decoding s bytes σ m).0

  known_is : (m : ℕ) (σ : Stream) → IsKnown s bytes σ m (known_of m σ)
  known_is m σ = (some_known decoding s bytes σ m).1

  abbrev last : Stream → List Bool
  last σ = fin.bits σ

  abbrev outer : Stream → List ℕ
  outer σ = bytes_of (last σ)

  abbrev told_to : Stream → ℕ → ℕ
  told_to σ j = told_before s known_of σ j

  begins : (m : ℕ) (σ : Stream) → IsPrefix (known_of m σ) (last σ)
  begins m σ = known_begins decoding s bytes σ m (known_of m σ) (last σ) (known_is m σ) (fin.decoded σ)

  -- no super-frame reports fewer words than the one before
  told_up : (σ : Stream) (j : ℕ) → told_to σ j ≤ told s known_of σ j
  told_up σ zero = omega arith
  told_up σ (suc i) =
      let more = fewer_words (known_of (272 * i + 271) σ) (known_of (272 * suc i + 271) σ)
      (known_grows decoding s bytes σ (272 * i + 271) (272 * suc i + 271) (known_of (272 * i + 271) σ) (known_of (272 * suc i + 271) σ) (omega arith) (known_is (272 * i + 271) σ) (known_is (272 * suc i + 271) σ)) in
      omega (arith, more, laws.words s σ (i + 1) (suc i + 1) (omega arith))

  -- the last one has all remaining words
  all_words : (σ : Stream) (i : ℕ) → symbols s bytes ≤ 272 * (i + 1) → word_count (outer σ) ≤ words_before s σ (i + 1) - 11
  all_words σ i l =
      let long = ended_long memory (start_of s.start) (costs s bytes σ) (last σ) (fin.decoded σ) in
      omega (arith, long, length-bytes_of (last σ), laws.long s bytes σ, laws.steps s σ (symbols s bytes) (272 * (i + 1)) l, laws.whole s σ (i + 1))

  told_all : (σ : Stream) (j : ℕ) → j ≡ begun_by (symbols s bytes) → told_to σ j ≡ word_count (outer σ)
  told_all σ zero e =
      let long = ended_long memory (start_of s.start) (costs s bytes σ) (last σ) (fin.decoded σ) in
      let none : symbols s bytes ≡ 0 = omega (arith, e) in
      omega (arith, long, length-bytes_of (last σ), laws.long s bytes σ ∙ ap (steps_before s σ) none ∙ laws.none s σ)
  told_all σ (suc i) e =
      let here : symbols s bytes < 272 * i + 271 + 4 = omega (arith, e) in
      let same : known_of (272 * i + 271) σ ≡ last σ = decoding.ended_once memory (start_of s.start) (costs s bytes σ) (known_of (272 * i + 271) σ) (last σ) ((known_is (272 * i + 271) σ).at_end here) (fin.decoded σ) in
      ap (λ (z : List Bool). min (word_count (bytes_of z)) (words_before s σ (i + 1) - 11)) same ∙ (omega (arith, all_words σ i (omega (arith, e))))

  -- ---- one super-frame

  module _ (σ : Stream) (j : ℕ) (known : Knowns) (around : AreKnownAround s bytes j known) (t : StreamSums) (a : AreStreamSums s bytes known j σ t) where
    known_same : (m : ℕ) → 272 * j ≤ m + 1 → m < 272 * (j + 1) → known m σ ≡ known_of m σ
    known_same m p q = known_once decoding s bytes σ m (known m σ) (known_of m σ) (around m σ p q) (known_is m σ)

    with_same : known_with known σ j ≡ known_with known_of σ j
    with_same = known_same (272 * j + 271) (omega arith) (omega arith)

    told_same : told s known σ j ≡ told s known_of σ j
    told_same = ap (λ (z : List Bool). min (word_count (bytes_of z)) (words_before s σ (j + 1) - 11)) with_same

    word_is : (x : ℕ) → x < told s known_of σ j → word_at (bytes_of (known_with known σ j)) x ≡ word_at (outer σ) x
    word_is x l = ap (λ (z : List Bool). word_at (bytes_of z) x) with_same ∙ sym (same_word laws (known_with known_of σ j) (last σ) x (begins (272 * j + 271) σ) (omega (arith, l)))

    near_is : (x : ℕ) → x < told s known_of σ j → a.near x ≡ (fin.tally σ).near x
    near_is x l =
        laws.near (word_at (outer σ) x) (a.near x) ((fin.tally σ).near x) (length-word_at (outer σ) x)
        (subst (λ (w : List ℕ). IsNear w (a.near x)) (word_is x l) (a.is_near x (omega (arith, l, told_same))))
        ((fin.tally σ).is_near x (omega (arith, l, fewer_words (known_with known_of σ j) (last σ) (begins (272 * j + 271) σ))))

  before_same : (σ : Stream) (j : ℕ) (known : Knowns) → AreKnownAround s bytes j known → told_before s known σ j ≡ told_to σ j
  before_same σ zero known around = refl
  before_same σ (suc i) known around =
      ap (λ (z : List Bool). min (word_count (bytes_of z)) (words_before s σ (i + 1) - 11))
      (known_once decoding s bytes σ (272 * i + 271) (known (272 * i + 271) σ) (known_of (272 * i + 271) σ) (around (272 * i + 271) σ (omega arith) (omega arith)) (known_is (272 * i + 271) σ))

  -- the counts of a super-frame's words
  counts_more : (σ : Stream) (j : ℕ) (known : Knowns) → AreKnownAround s bytes j known → told s known σ j ≡ told s known_of σ j → (v : ℕ) (p q : ℕ → Bool) → v ≡ count_by p (words_of s known σ j)
      → ((x : ℕ) → x < told s known_of σ j → p x ≡ q x) → v + count q (told_to σ j) ≡ count q (told s known_of σ j)
  counts_more σ j known around same v p q e agree =
      let from = before_same σ j known around in
      let b = told_to σ j in
      let end = told s known_of σ j in
      let up : b ≤ end = told_up σ j in
      let here : v ≡ count_by q (range_with_len b (end - b)) =
      e ∙ ap₂ (λ (f t : ℕ). count_by p (range_with_len f (t - f))) from same ∙ range_counts p q b (end - b) (λ x l m. agree x (omega (arith, m, up))) in
      omega (arith, here, part_added (λ x. cond (q x) 1 0) b end up, counted q b, counted q end)

  frame_words : (σ : Stream) (j : ℕ) (known : Knowns) (around : AreKnownAround s bytes j known) (t : StreamSums) → AreStreamSums s bytes known j σ t → t.words + told_to σ j ≡ told s known_of σ j
  frame_words σ j known around t a =
      let same = told_same σ j known around t a in
      omega (arith, a.words, before_same σ j known around, same, told_up σ j)

  frame_clean : (σ : Stream) (j : ℕ) (known : Knowns) (around : AreKnownAround s bytes j known) (t : StreamSums) → AreStreamSums s bytes known j σ t
      → t.clean + count (λ x. is_clean (word_at (outer σ) x) ((fin.tally σ).near x)) (told_to σ j) ≡ count (λ x. is_clean (word_at (outer σ) x) ((fin.tally σ).near x)) (told s known_of σ j)
  frame_clean σ j known around t a =
      counts_more σ j known around (told_same σ j known around t a) t.clean (λ x. is_clean (word_at (bytes_of (known_with known σ j)) x) (a.near x)) (λ x. is_clean (word_at (outer σ) x) ((fin.tally σ).near x)) a.clean
      (λ x l. ap₂ is_clean (word_is σ j known around t a x l) (near_is σ j known around t a x l))

  frame_corrected : (σ : Stream) (j : ℕ) (known : Knowns) (around : AreKnownAround s bytes j known) (t : StreamSums) → AreStreamSums s bytes known j σ t
      → t.corrected + count (λ x. has ((fin.tally σ).near x) && not (is_clean (word_at (outer σ) x) ((fin.tally σ).near x))) (told_to σ j) ≡ count (λ x. has ((fin.tally σ).near x) && not (is_clean (word_at (outer σ) x) ((fin.tally σ).near x))) (told s known_of σ j)
  frame_corrected σ j known around t a =
      counts_more σ j known around (told_same σ j known around t a) t.corrected (λ x. has (a.near x) && not (is_clean (word_at (bytes_of (known_with known σ j)) x) (a.near x)))
      (λ x. has ((fin.tally σ).near x) && not (is_clean (word_at (outer σ) x) ((fin.tally σ).near x))) a.corrected
      (λ x l. ap₂ (λ (w : List ℕ) (n : Option (List ℕ)). has n && not (is_clean w n)) (word_is σ j known around t a x l) (near_is σ j known around t a x l))

  frame_bad : (σ : Stream) (j : ℕ) (known : Knowns) (around : AreKnownAround s bytes j known) (t : StreamSums) → AreStreamSums s bytes known j σ t
      → t.bad + count (λ x. not (has ((fin.tally σ).near x))) (told_to σ j) ≡ count (λ x. not (has ((fin.tally σ).near x))) (told s known_of σ j)
  frame_bad σ j known around t a =
      counts_more σ j known around (told_same σ j known around t a) t.bad (λ x. not (has (a.near x))) (λ x. not (has ((fin.tally σ).near x))) a.bad
      (λ x l. ap (λ (n : Option (List ℕ)). not (has n)) (near_is σ j known around t a x l))

  frame_unphased : (σ : Stream) (j : ℕ) (known : Knowns) (around : AreKnownAround s bytes j known) (t : StreamSums) → AreStreamSums s bytes known j σ t
      → t.unphased + count (λ x. not (has (phase_before (fin.tally σ).near (suc x)))) (told_to σ j) ≡ count (λ x. not (has (phase_before (fin.tally σ).near (suc x)))) (told s known_of σ j)
  frame_unphased σ j known around t a =
      counts_more σ j known around (told_same σ j known around t a) t.unphased (λ x. not (has (phase_before a.near (suc x)))) (λ x. not (has (phase_before (fin.tally σ).near (suc x)))) a.unphased
      (λ x l. ap (λ (p : Option ℕ). not (has p)) (phase_same a.near (fin.tally σ).near (suc x) (λ k m. near_is σ j known around t a k (omega (arith, m, l)))))

  -- ---- reports

  abbrev up_to : Stream → ℕ → ℕ → Bool
  up_to σ j at = nat_le at (steps_before s σ (272 * j))

  join_tests : (a b c : ℕ) → a ≤ b → ◌≡◌ {A = ℕ} (cond (nat_lt a c && nat_le c b) 1 0 + cond (nat_le c a) 1 0) (cond (nat_le c b) 1 0)
  join_tests a b c l = go (cases_lt a c)
    where
      go : (a < c) ⊎ (c ≤ a) → ◌≡◌ {A = ℕ} (cond (nat_lt a c && nat_le c b) 1 0 + cond (nat_le c a) 1 0) (cond (nat_le c b) 1 0)
      go (inl h) =
          let e : ◌≡◌ {A = ℕ} (cond (nat_lt a c && nat_le c b) 1 0) (cond (nat_le c b) 1 0) = ap (λ (t : Bool). cond (t && nat_le c b) 1 0) (lt-ltb a c h) in
          let f : ◌≡◌ {A = ℕ} (cond (nat_le c a) 1 0) 0 = ap (λ (t : Bool). cond t 1 0) (lt-leb c a h) in
          omega (arith, e, f)
      go (inr h) =
          let e : ◌≡◌ {A = ℕ} (cond (nat_lt a c && nat_le c b) 1 0) 0 = ap (λ (t : Bool). cond (t && nat_le c b) 1 0) (le-ltb a c h) in
          let f : ◌≡◌ {A = ℕ} (cond (nat_le c a) 1 0) 1 = ap (λ (t : Bool). cond t 1 0) (le-leb c a h) in
          let g : ◌≡◌ {A = ℕ} (cond (nat_le c b) 1 0) 1 = ap (λ (t : Bool). cond t 1 0) (le-leb c b (omega (arith, h, l))) in
          omega (arith, e, f, g)

  frame_reports : (σ : Stream) (j : ℕ) (known : Knowns) (t : StreamSums) → AreStreamSums s bytes known j σ t → t.unmerged + count_by (up_to σ j) (r.reports σ) ≡ count_by (up_to σ (suc j)) (r.reports σ)
  frame_reports σ j known t a =
      let same : a.reports ≡ r.reports σ = laws.reports memory (start_of s.start) (costs s bytes σ) a.reports (r.reports σ) a.are_reports (fin.reports σ) in
      let e : 272 * (j + 1) ≡ 272 * suc j = omega arith in
      let here : t.unmerged ≡ count_by (λ at. nat_lt (steps_before s σ (272 * j)) at && up_to σ (suc j) at) (r.reports σ) =
      a.unmerged ∙ ap (count_by (is_reported_in s σ j)) same ∙ ap (λ (k : ℕ). count_by (λ at. nat_lt (steps_before s σ (272 * j)) at && nat_le at (steps_before s σ k)) (r.reports σ)) e in
      let joined = counts_join (λ at. nat_lt (steps_before s σ (272 * j)) at && up_to σ (suc j) at) (up_to σ j) (up_to σ (suc j)) (r.reports σ)
      (λ at. join_tests (steps_before s σ (272 * j)) (steps_before s σ (272 * suc j)) at (laws.steps s σ (272 * j) (272 * suc j) (omega arith))) in
      omega (arith, here, joined)

  none_before : (σ : Stream) → count_by (up_to σ 0) (r.reports σ) ≡ 0
  none_before σ =
      let first : steps_before s σ (272 * 0) ≡ 0 = laws.none s σ in
      none_counted (up_to σ 0) (r.reports σ)
      (All-weaker (λ at. (0 < at) × (at ≤ length (costs s bytes σ))) (λ at. up_to σ 0 at ≡ false) (λ at h. lt-leb at (steps_before s σ (272 * 0)) (omega (arith, h.0, first))) (r.reports σ)
      (laws.reported memory (start_of s.start) (costs s bytes σ) (r.reports σ) (fin.reports σ)))

  all_before : (σ : Stream) → count_by (up_to σ (begun_by (symbols s bytes))) (r.reports σ) ≡ length (r.reports σ)
  all_before σ =
      let j = begun_by (symbols s bytes) in
      let long = laws.long s bytes σ in
      let up = laws.steps s σ (symbols s bytes) (272 * j) (omega arith) in
      all_counted (up_to σ j) (r.reports σ)
      (All-weaker (λ at. (0 < at) × (at ≤ length (costs s bytes σ))) (λ at. up_to σ j at ≡ true) (λ at h. le-leb at (steps_before s σ (272 * j)) (omega (arith, h.1, long, up))) (r.reports σ)
      (laws.reported memory (start_of s.start) (costs s bytes σ) (r.reports σ) (fin.reports σ)))

  -- ---- TPS words

  abbrev frames_to : ℕ → ℕ
  frames_to j = min (4 * j) (symbols s bytes / 68)

  abbrev read_to : ℕ → ℕ
  read_to j = count fin.frames.is_read (frames_to j)

  frame_read : (j read bad : ℕ) → CountsWords (λ i. frame_bits (tps_cells s bytes) (4 * j + i)) (min 4 (symbols s bytes / 68 - 4 * j)) read bad → read + read_to j ≡ read_to (suc j)
  frame_read j read bad c =
      let n = symbols s bytes / 68 in
      let m = min 4 (n - 4 * j) in
      let on : count fin.frames.is_read (frames_to j + m) ≡ count fin.frames.is_read (frames_to j) + count (λ i. fin.frames.is_read (frames_to j + i)) m = count_on fin.frames.is_read (frames_to j) m in
      let next : frames_to j + m ≡ frames_to (suc j) = omega arith in
      let here : read ≡ count (λ i. fin.frames.is_read (frames_to j + i)) m =
      read_alike (frame_bits (tps_cells s bytes)) (λ i. frame_bits (tps_cells s bytes) (4 * j + i)) n m r.read r.bad read bad (frames_to j) fin.frames c
      (λ f l. ap (frame_bits (tps_cells s bytes)) (let e : 4 * j + f ≡ frames_to j + f = omega (arith, l) in e)) (omega arith) in
      let end : count fin.frames.is_read (frames_to j + m) ≡ read_to (suc j) = ap (count fin.frames.is_read) next in
      omega (arith, on, here, end)

  frame_unread : (j read bad : ℕ) → CountsWords (λ i. frame_bits (tps_cells s bytes) (4 * j + i)) (min 4 (symbols s bytes / 68 - 4 * j)) read bad → bad + (frames_to j - read_to j) ≡ frames_to (suc j) - read_to (suc j)
  frame_unread j read bad c =
      let read_more = frame_read j read bad c in
      let few = count_few fin.frames.is_read (frames_to j) in
      let next : frames_to j + min 4 (symbols s bytes / 68 - 4 * j) ≡ frames_to (suc j) = omega arith in
      omega (arith, read_more, few, next, c.all)

  all_frames : frames_to (begun_by (symbols s bytes)) ≡ symbols s bytes / 68
  all_frames = omega arith

  -- ---- all super-frames

  module _ (frames : ℕ → SuperFrame) (are : (j : ℕ) → j < begun_by (symbols s bytes) → AreSums s bytes j (frames j)) where
    stream_of : (σ : Stream) → IsTrue (exists_in s σ) → (j : ℕ) (l : j < begun_by (symbols s bytes)) → AreStreamSums s bytes (are j l).known j σ (sums_of σ (frames j))
    stream_of σ there j l = stream_sums s bytes j (frames j) (are j l) σ there

    all_told : (σ : Stream) → told_to σ (begun_by (symbols s bytes)) ≡ word_count (outer σ)
    all_told σ = told_all σ (begun_by (symbols s bytes)) refl

    tally_is : (σ : Stream) → r.tally σ ≡ tally_to (fin.tally σ).near (word_at (outer σ)) (word_count (outer σ))
    tally_is σ = (fin.tally σ).is

    totals : (σ : Stream) → IsTrue (exists_in s σ) → AreTotals s bytes frames σ (counts_of_stream r σ)
    totals σ there = record {
      words =
          added_up (told_to σ) (λ j. (sums_of σ (frames j)).words) n refl (λ j l. frame_words σ j (are j l).known (are j l).are_known (sums_of σ (frames j)) (stream_of σ there j l))
          ∙ all_told σ ∙ ap (λ (t : Tally). t.words) (sym (tally_is σ));
      clean =
          added_up (λ j. count clean (told_to σ j)) (λ j. (sums_of σ (frames j)).clean) n (no_count clean) (λ j l. frame_clean σ j (are j l).known (are j l).are_known (sums_of σ (frames j)) (stream_of σ there j l))
          ∙ ap (count clean) (all_told σ) ∙ ap (λ (t : Tally). t.clean) (sym (tally_is σ));
      corrected =
          added_up (λ j. count corrected (told_to σ j)) (λ j. (sums_of σ (frames j)).corrected) n (no_count corrected) (λ j l. frame_corrected σ j (are j l).known (are j l).are_known (sums_of σ (frames j)) (stream_of σ there j l))
          ∙ ap (count corrected) (all_told σ) ∙ ap (λ (t : Tally). t.corrected) (sym (tally_is σ));
      bad =
          added_up (λ j. count bad (told_to σ j)) (λ j. (sums_of σ (frames j)).bad) n (no_count bad) (λ j l. frame_bad σ j (are j l).known (are j l).are_known (sums_of σ (frames j)) (stream_of σ there j l))
          ∙ ap (count bad) (all_told σ) ∙ ap (λ (t : Tally). t.bad) (sym (tally_is σ));
      unphased =
          added_up (λ j. count unphased (told_to σ j)) (λ j. (sums_of σ (frames j)).unphased) n (no_count unphased) (λ j l. frame_unphased σ j (are j l).known (are j l).are_known (sums_of σ (frames j)) (stream_of σ there j l))
          ∙ ap (count unphased) (all_told σ) ∙ ap (λ (t : Tally). t.unphased) (sym (tally_is σ));
      unmerged =
          added_up (λ j. count_by (up_to σ j) (r.reports σ)) (λ j. (sums_of σ (frames j)).unmerged) n (none_before σ) (λ j l. frame_reports σ j (are j l).known (sums_of σ (frames j)) (stream_of σ there j l))
          ∙ all_before σ;
    }
      where
        n : ℕ
        n = begun_by (symbols s bytes)

        clean : ℕ → Bool
        clean x = is_clean (word_at (outer σ) x) ((fin.tally σ).near x)

        corrected : ℕ → Bool
        corrected x = has ((fin.tally σ).near x) && not (is_clean (word_at (outer σ) x) ((fin.tally σ).near x))

        bad : ℕ → Bool
        bad x = not (has ((fin.tally σ).near x))

        unphased : ℕ → Bool
        unphased x = not (has (phase_before (fin.tally σ).near (suc x)))

    add_up : AddUp s bytes frames r
    add_up = record {
      streams = totals;
      read =
          added_up read_to (λ j. (frames j).tps_read) n (ap (count fin.frames.is_read) (let z : frames_to 0 ≡ 0 = omega arith in z) ∙ no_count fin.frames.is_read) (λ j l. frame_read j (frames j).tps_read (frames j).tps_bad (are j l).frames)
          ∙ ap (count fin.frames.is_read) all_frames ∙ sym fin.frames.read_is;
      bad =
          added_up (λ j. frames_to j - read_to j) (λ j. (frames j).tps_bad) n (omega arith) (λ j l. frame_unread j (frames j).tps_read (frames j).tps_bad (are j l).frames)
          ∙ (omega (arith, all_frames, ap (count fin.frames.is_read) all_frames, fin.frames.read_is, fin.frames.all));
    }
      where
        n : ℕ
        n = begun_by (symbols s bytes)

pub lines_add_up : IsDecoding → AreListed → LinesAddUp
lines_add_up decoding laws s bytes out m = add_up decoding laws s bytes m.reception m.final m.frames m.are

stream_same : (r q : Reception) → AreSame r q → (σ : Stream) → counts_of_stream r σ ≡ counts_of_stream q σ
stream_same r q same σ = ap₂ (λ (t : Tally) (k : ℕ). stream_counts t k) (same.tally σ) (ap length (same.reports σ))

abbrev counts_by : Settings → List ℕ → ℕ → ℕ → StreamCounts → StreamCounts → Counts
counts_by s bytes read bad hp lp = record { symbols = symbols s bytes; tail = tail s bytes; tps_read = read; tps_bad = bad; hp = hp; lp = cond (exists_in s Lp) (Some lp) None }

counts_same : (s : Settings) (bytes : List ℕ) (a b a1 b1 : ℕ) (hp lp hp1 lp1 : StreamCounts) → a ≡ a1 → b ≡ b1 → hp ≡ hp1 → lp ≡ lp1 → counts_by s bytes a b hp lp ≡ counts_by s bytes a1 b1 hp1 lp1
counts_same s bytes a b a1 b1 hp lp hp1 lp1 p q t u = cc

closing_same : (s : Settings) (bytes : List ℕ) (r q : Reception) → AreSame r q → closing_lines s bytes r ≡ closing_lines s bytes q
closing_same s bytes r q same =
    ap (λ (c : Counts). concat (text.closing_lines c))
    (counts_same s bytes r.read r.bad q.read q.bad (counts_of_stream r Hp) (counts_of_stream r Lp) (counts_of_stream q Hp) (counts_of_stream q Lp) same.read same.bad (stream_same r q same Hp) (stream_same r q same Lp))

pub closing_is_received : OneFinal → ClosingIsReceived
closing_is_received one s bytes out m r f = closing_same s bytes m.reception r (one s bytes m.reception r m.final f)
