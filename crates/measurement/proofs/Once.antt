-- The sums of a super-frame are unique.
use Rattle.std.proofs.Common.{◌≡◌, ℕ, zero, suc, ◌+◌, ◌-◌, ◌*◌, ◌/◌, ◌<◌, ◌≤◌, min, Bool, true, false, cond, not, ◌&&◌, List, length, ◌⊎◌, inl, inr, Option, Some, None, refl, sym, ap, ap₂, ◌∙◌, subst, arith}
use Rattle.std.proofs.Math.Path.{fun_ext}
use Rattle.std.specs.Prelude.{IsTrue, count_by, sum_by}
use Rattle.std.specs.List.{range_with_len}
use Rattle.std.proofs.lemmas.Bool.{cases_lt}
use Rattle.code_paths.specs.Laws.{GivenOnce, EndedOnce, ReportsOnce}
use Rattle.mode_set.specs.declared.modes.Stream.{Stream}
use Rattle.mode_set.specs.declared.modes.Stream.TheVariants.{Hp, Lp}
use Rattle.mode_set.specs.declared.settings.Settings.{Settings}
use Rattle.symbol_parameters.specs.Spans.{exists_in, words_before}
use Rattle.forney.specs.Values.{stream_of}
use Rattle.forney.specs.Interleaving.{deinterleaved}
use Rattle.forney.proofs.ValueLists.{length-values}
use Rattle.outer_chain.specs.Bits.{bytes_of}
use Rattle.outer_chain.specs.Laws.{OneNear}
use Rattle.outer_chain.specs.Words.{count, word_at, word_count, IsNear, phase_of, phase_before, has, is_clean}
use Rattle.reception.specs.Cells.{symbols}
use Rattle.reception.specs.Costs.{costs}
use Rattle.reception.specs.Frames.{CountsWords, tps_cells, frame_bits}
use Rattle.reception.specs.Streams.{memory, start_of}
use Rattle.measure_sums.specs.Comparing.{Comparison, cells_in, muted_in, power_in, error_in, bits_in, wrong_in}
use Rattle.measure_report.specs.declared.sums.StreamSums.{StreamSums}
use Rattle.measure_report.specs.declared.sums.SuperFrame.{SuperFrame}
use Rattle.measurement.specs.Known.{first_symbols, IsKnown, is_compared, comparison}
use Rattle.measurement.specs.SuperFrames.{Knowns, compared_in, over_compared, known_with, told, told_before, words_of, repaired_in, is_reported_in, AreStreamSums}
use Rattle.measurement.specs.Laws.{OneSums}
use Rattle.measurement.proofs.Lists.{range_same, range_counts}

-- ---- known bits

known_once : GivenOnce → EndedOnce → (s : Settings) (bytes : List ℕ) (σ : Stream) (m : ℕ) (a b : List Bool) → IsKnown s bytes σ m a → IsKnown s bytes σ m b → a ≡ b
known_once given ended s bytes σ m a b x y = go (cases_lt (symbols s bytes) (m + 4))
  where
    go : (symbols s bytes < m + 4) ⊎ (m + 4 ≤ symbols s bytes) → a ≡ b
    go (inl l) = ended memory (start_of s.start) (costs s bytes σ) a b (x.at_end l) (y.at_end l)
    go (inr l) = given memory (start_of s.start) (costs s (first_symbols s (m + 4) bytes) σ) a b (x.so_far l) (y.so_far l)

-- ---- TPS words

same_test : (b c : Bool) → (IsTrue b → IsTrue c) → (IsTrue c → IsTrue b) → b ≡ c
same_test true c f g = sym (f refl)
same_test false true f g = g refl
same_test false false f g = refl

count_same : (f g : ℕ → Bool) (n : ℕ) → ((k : ℕ) → k < n → f k ≡ g k) → count f n ≡ count g n
unfolding count
count_same f g zero h = refl
count_same f g (suc n) h = ap₂ (λ (b : Bool) (k : ℕ). cond b 1 0 + k) (h n (omega arith)) (count_same f g n (λ k l. h k (omega (arith, l))))

words_once : (word : ℕ → List Bool) (n read bad read1 bad1 : ℕ) → CountsWords word n read bad → CountsWords word n read1 bad1 → (read ≡ read1) × (bad ≡ bad1)
words_once word n read bad read1 bad1 x y =
    let alike : count x.is_read n ≡ count y.is_read n = count_same x.is_read y.is_read n (λ f k. same_test (x.is_read f) (y.is_read f) (λ t. (y.reads f k).1 ((x.reads f k).0 t)) (λ t. (x.reads f k).1 ((y.reads f k).0 t))) in
    let same : read ≡ read1 = x.read_is ∙ alike ∙ sym y.read_is in
    (same, omega (arith, same, x.all, y.all))

-- ---- words

length_word : (bytes : List ℕ) (n : ℕ) → length (word_at bytes n) ≡ 204
unfolding word_at
length_word bytes n = length-values (deinterleaved (stream_of bytes)) (204 * (n + 11)) 204

phase_same : (near other : ℕ → Option (List ℕ)) (n : ℕ) → ((k : ℕ) → k < n → near k ≡ other k) → phase_before near n ≡ phase_before other n
unfolding phase_before
phase_same near other zero h = refl
phase_same near other (suc n) h = ap₂ phase_of (h n (omega arith)) (phase_same near other n (λ k l. h k (omega (arith, l))))

-- ---- records

abbrev a_stream : ℕ → ℕ → ℕ → ℕ → ℕ → ℕ → ℕ → ℕ → ℕ → StreamSums
a_stream b w n c d e f g h = record { bits = b; wrong = w; words = n; clean = c; corrected = d; bad = e; unphased = f; unmerged = g; repaired = h }

same_stream : (b w n c d e f g h b1 w1 n1 c1 d1 e1 f1 g1 h1 : ℕ) → b ≡ b1 → w ≡ w1 → n ≡ n1 → c ≡ c1 → d ≡ d1 → e ≡ e1 → f ≡ f1 → g ≡ g1 → h ≡ h1 → a_stream b w n c d e f g h ≡ a_stream b1 w1 n1 c1 d1 e1 f1 g1 h1
same_stream b w n c d e f g h b1 w1 n1 c1 d1 e1 f1 g1 h1 p q r s t u v x y = cc

abbrev a_frame : ℕ → ℕ → ℕ → ℕ → ℕ → ℕ → ℕ → ℕ → StreamSums → Option StreamSums → SuperFrame
a_frame n s c m p e r b hp lp = record { number = n; symbols = s; cells = c; muted = m; power = p; error = e; tps_read = r; tps_bad = b; hp = hp; lp = lp }

same_frame : (n s c m p e r b n1 s1 c1 m1 p1 e1 r1 b1 : ℕ) (hp hp1 : StreamSums) (lp lp1 : Option StreamSums) → n ≡ n1 → s ≡ s1 → c ≡ c1 → m ≡ m1 → p ≡ p1 → e ≡ e1 → r ≡ r1 → b ≡ b1 → hp ≡ hp1 → lp ≡ lp1
    → a_frame n s c m p e r b hp lp ≡ a_frame n1 s1 c1 m1 p1 e1 r1 b1 hp1 lp1
same_frame n s c m p e r b n1 s1 c1 m1 p1 e1 r1 b1 hp hp1 lp lp1 q1 q2 q3 q4 q5 q6 q7 q8 q9 q10 = cc

-- ---- two lists of known bits that agree around the super-frame

module _ (s : Settings) (bytes : List ℕ) (j : ℕ) (known other : Knowns) (same : (m : ℕ) → 272 * j ≤ m + 1 → m < 272 * (j + 1) → known m ≡ other m) where
  compared_same : compared_in s known j ≡ compared_in s other j
  compared_same = range_counts (λ m. is_compared s m (known m)) (λ m. is_compared s m (other m)) (272 * j) 272 (λ m p q. ap (is_compared s m) (same m (omega (arith, p)) (omega (arith, q))))

  abbrev term : (Comparison → ℕ) → ℕ → (Stream → List Bool) → ℕ
  term f m k = cond (is_compared s m k) (f (comparison s bytes k m)) 0

  over_same : (f : Comparison → ℕ) → over_compared s bytes known j f ≡ over_compared s bytes other j f
  over_same f = range_same (λ m. term f m (known m)) (λ m. term f m (other m)) (272 * j) 272 (λ m p q. ap (term f m) (same m (omega (arith, p)) (omega (arith, q))))

  with_same : (σ : Stream) → known_with known σ j ≡ known_with other σ j
  with_same σ = ap (λ (k : Stream → List Bool). k σ) (same (272 * j + 271) (omega arith) (omega arith))

  told_same : (σ : Stream) → told s known σ j ≡ told s other σ j
  told_same σ = ap (λ (z : List Bool). min (word_count (bytes_of z)) (words_before s σ (j + 1) - 11)) (with_same σ)

before_same : (s : Settings) (j : ℕ) (known other : Knowns) (σ : Stream) → ((m : ℕ) → 272 * j ≤ m + 1 → m < 272 * (j + 1) → known m ≡ other m) → told_before s known σ j ≡ told_before s other σ j
before_same s zero known other σ same = refl
before_same s (suc i) known other σ same =
    ap (λ (k : Stream → List Bool). min (word_count (bytes_of (k σ))) (words_before s σ (i + 1) - 11)) (same (272 * i + 271) (omega arith) (omega arith))

stream_once : OneNear → ReportsOnce → (s : Settings) (bytes : List ℕ) (known other : Knowns) (j : ℕ) (σ : Stream) (t u : StreamSums) → ((m : ℕ) → 272 * j ≤ m + 1 → m < 272 * (j + 1) → known m ≡ other m)
    → AreStreamSums s bytes known j σ t → AreStreamSums s bytes other j σ u → t ≡ u
stream_once one reports s bytes known other j σ t u same a b =
    same_stream _ _ _ _ _ _ _ _ _ _ _ _ _ _ _ _ _ _
    (a.bits ∙ over_same s bytes j known other same (λ x. bits_in x σ) ∙ sym b.bits)
    (a.wrong ∙ over_same s bytes j known other same (λ x. wrong_in x σ) ∙ sym b.wrong)
    (a.words ∙ ap₂ (λ (x y : ℕ). x - y) end from ∙ sym b.words)
    (a.clean ∙ counts (λ x. is_clean (word x) (a.near x)) (λ x. is_clean (word1 x) (b.near x)) (λ x l. ap₂ is_clean (word_same x) (near x l)) ∙ sym b.clean)
    (a.corrected ∙ counts (λ x. has (a.near x) && not (is_clean (word x) (a.near x))) (λ x. has (b.near x) && not (is_clean (word1 x) (b.near x)))
    (λ x l. ap₂ (λ (w : List ℕ) (n : Option (List ℕ)). has n && not (is_clean w n)) (word_same x) (near x l)) ∙ sym b.corrected)
    (a.bad ∙ counts (λ x. not (has (a.near x))) (λ x. not (has (b.near x))) (λ x l. ap (λ (n : Option (List ℕ)). not (has n)) (near x l)) ∙ sym b.bad)
    (a.unphased ∙ counts (λ x. not (has (phase_before a.near (suc x)))) (λ x. not (has (phase_before b.near (suc x))))
    (λ x l. ap (λ (n : Option ℕ). not (has n)) (phase_same a.near b.near (suc x) (λ k m. near k (omega (arith, m, l))))) ∙ sym b.unphased)
    (a.unmerged ∙ ap (count_by (is_reported_in s σ j)) (reports memory (start_of s.start) (costs s bytes σ) a.reports b.reports a.are_reports b.are_reports) ∙ sym b.unmerged)
    (a.repaired ∙ sums (λ x. repaired_in (word x) (a.near x)) (λ x. repaired_in (word1 x) (b.near x)) (λ x l. ap₂ repaired_in (word_same x) (near x l)) ∙ sym b.repaired)
  where
    end : told s known σ j ≡ told s other σ j
    end = told_same s bytes j known other same σ

    from : told_before s known σ j ≡ told_before s other σ j
    from = before_same s j known other σ same

    word : ℕ → List ℕ
    word x = word_at (bytes_of (known_with known σ j)) x

    word1 : ℕ → List ℕ
    word1 x = word_at (bytes_of (known_with other σ j)) x

    word_same : (x : ℕ) → word_at (bytes_of (known_with known σ j)) x ≡ word_at (bytes_of (known_with other σ j)) x
    word_same x = ap (λ (z : List Bool). word_at (bytes_of z) x) (with_same s bytes j known other same σ)

    near : (x : ℕ) → x < told s known σ j → a.near x ≡ b.near x
    near x l =
        one (word_at (bytes_of (known_with other σ j)) x) (a.near x) (b.near x) (length_word (bytes_of (known_with other σ j)) x)
        (subst (λ (w : List ℕ). IsNear w (a.near x)) (word_same x) (a.is_near x l)) (b.is_near x (omega (arith, l, end)))

    counts : (p q : ℕ → Bool) → ((x : ℕ) → x < told s known σ j → p x ≡ q x) → count_by p (words_of s known σ j) ≡ count_by q (words_of s other σ j)
    counts p q h =
        range_counts p q (told_before s known σ j) (told s known σ j - told_before s known σ j) (λ x l m. h x (omega (arith, l, m)))
        ∙ ap₂ (λ (f t : ℕ). count_by q (range_with_len f (t - f))) from end

    sums : (f g : ℕ → ℕ) → ((x : ℕ) → x < told s known σ j → f x ≡ g x) → sum_by f (words_of s known σ j) ≡ sum_by g (words_of s other σ j)
    sums f g h =
        range_same f g (told_before s known σ j) (told s known σ j - told_before s known σ j) (λ x l m. h x (omega (arith, l, m)))
        ∙ ap₂ (λ (y t : ℕ). sum_by g (range_with_len y (t - y))) from end

pub one_sums : GivenOnce → EndedOnce → ReportsOnce → OneNear → OneSums
one_sums given ended reports one s bytes j f g a b =
    same_frame _ _ _ _ _ _ _ _ _ _ _ _ _ _ _ _ _ _ _ _
    (a.number ∙ sym b.number)
    (a.compared ∙ compared_same s bytes j a.known b.known same ∙ sym b.compared)
    (a.cells ∙ over_same s bytes j a.known b.known same cells_in ∙ sym b.cells)
    (a.muted ∙ over_same s bytes j a.known b.known same muted_in ∙ sym b.muted)
    (a.power ∙ over_same s bytes j a.known b.known same power_in ∙ sym b.power)
    (a.error ∙ over_same s bytes j a.known b.known same error_in ∙ sym b.error)
    tps.0 tps.1
    (stream_once one reports s bytes a.known b.known j Hp f.hp g.hp same a.hp b.hp)
    (a.lp_is ∙ ap (λ (t : StreamSums). cond (exists_in s Lp) (Some t) None) (stream_once one reports s bytes a.known b.known j Lp a.lp b.lp same a.lp_are b.lp_are) ∙ sym b.lp_is)
  where
    same : (m : ℕ) → 272 * j ≤ m + 1 → m < 272 * (j + 1) → a.known m ≡ b.known m
    same m p q = fun_ext (λ σ. known_once given ended s bytes σ m (a.known m σ) (b.known m σ) (a.are_known m σ p q) (b.are_known m σ p q))

    tps : (f.tps_read ≡ g.tps_read) × (f.tps_bad ≡ g.tps_bad)
    tps = words_once (λ i. frame_bits (tps_cells s bytes) (4 * j + i)) (min 4 (symbols s bytes / 68 - 4 * j)) f.tps_read f.tps_bad g.tps_read g.tps_bad a.frames b.frames
