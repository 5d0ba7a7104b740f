-- The meter of a stream.
use Rattle.std.proofs.Common.{◌≡◌, ℕ, ◌+◌, ◌-◌, ◌*◌, ◌/◌, ◌<◌, ◌≤◌, Bool, List, [], ◌∷◌, ◌++◌, length, refl, sym, ap, ap₂, ◌∙◌, arith, subst, append_assoc, length-append}
use Rattle.std.specs.Prelude.{All, Option, min}
use Rattle.std.specs.List.{range_with_len}
use Rattle.std.proofs.lemmas.List.{take_all, drop_all}
use Rattle.std.proofs.lemmas.List.Elements.{All-head, All-tail}
use Rattle.std.proofs.lemmas.List.FromFn.{length-range_with_len}
use Rattle.spec_words.specs.Bits.{spelled}
use Rattle.bit_pack.specs.Queue.{bits_of_bytes}
use Rattle.inner_decoder.specs.Running.{BranchState}
use Rattle.mode_set.specs.declared.modes.Stream.{Stream}
use Rattle.mode_set.specs.declared.settings.Settings.{Settings}
use Rattle.symbol_parameters.specs.Spans.{words_before}
use Rattle.outer_chain.specs.Bits.{bytes_of, ByteOfBits}
use Rattle.outer_chain.specs.Words.{word_count, word_at, IsNear}
use Rattle.reception.specs.Costs.{costs}
use Rattle.reception.specs.Streams.{Moment}
use Rattle.measure_sums.specs.Comparing.{bits_in, wrong_in}
use Rattle.measurement.specs.SuperFrames.{Knowns, over_compared, known_with, told, told_before, words_of, AreStreamSums}
use Rattle.measure_known_bits.specs.Seen.{KnownState}
use Rattle.measure_words.specs.declared.counts.WordSums.{WordSums}
use Rattle.measure_words.specs.Sums.{sums_over}
use Rattle.measure_words.specs.Seen.{WordsState}
use Rattle.measure_words.specs.Counted.{Measures}
use Rattle.measure_stream.specs.declared.stream.StreamMeter.{StreamMeter}
use Rattle.measure_stream.specs.Passing.{HasBits, HasRoom, Takes}
use Rattle.measure_stream.specs.Standing.{Stands, MayGive}
use Rattle.measure_stream.proofs.Bits.{length_bits}

-- the bits of a symbol leave room
pub room_at_first : (x : StreamMeter) (n : ℕ) → n ≤ 36864 → MayGive x → HasRoom x.part x.words n
room_at_first x n l h =
    let s = h.started in
    let long : length s.bits ≡ 8 * length s.has.bytes + length x.part = ap length s.has.is ∙ length-append (bits_of_bytes s.has.bytes) x.part ∙ ap (λ (z : ℕ). z + length x.part) (length_bits s.has.bytes) in
    let waiting : s.done + length x.words.slots ≡ length s.has.bytes / 204 - 11 = s.has.measures.waiting in
    let none : length x.words.slots ≡ 0 = ap length h.none in
    let few : length x.part < 8 = h.few in
    record { bits = s.bits; done = s.done; from = s.from; limit = x.words_before - 11; has = s.has; few = omega (arith, l, long, waiting, none, few) }

-- all bits that waited were handed on
pub none_waits : (b b2 : BranchState) (k k2 : KnownState) (p p2 : List Bool) (w w2 : WordsState) → Takes (length b.wait) b k p w b2 k2 p2 w2 → b2 ≡ record b { wait = [] }
none_waits b b2 k k2 p p2 w w2 h = h.wait ∙ ap (λ (z : List Bool). record b { wait = z }) (drop_all (length b.wait) b.wait (omega arith))

pub all_known : (b b2 : BranchState) (k k2 : KnownState) (p p2 : List Bool) (w w2 : WordsState) → Takes (length b.wait) b k p w b2 k2 p2 w2 → k2 ≡ record k { waiting = k.waiting ++ b.wait }
all_known b b2 k k2 p p2 w w2 h = h.known_more ∙ ap (λ (z : List Bool). record k { waiting = k.waiting ++ z }) (take_all (length b.wait) b.wait (omega arith))

pub all_given : (b b2 : BranchState) (k k2 : KnownState) (p p2 : List Bool) (w w2 w3 : WordsState) (limit end : ℕ) → limit ≡ end → Takes (length b.wait) b k p w b2 k2 p2 w2
    → ((bytes : List ℕ) (done from : ℕ) → Measures w2 bytes done from limit → Measures w3 bytes (word_count bytes) from limit)
    → (bits : List Bool) (done from : ℕ) → HasBits p w bits done from end → (n : ℕ) × HasBits p2 w3 (bits ++ b.wait) n from end
all_given b b2 k k2 p p2 w w2 w3 limit end e h finish bits done from i =
    let t : HasBits p2 w2 (bits ++ b.wait) done from end = subst (λ (z : List Bool). HasBits p2 w2 (bits ++ z) done from end) (take_all (length b.wait) b.wait (omega arith)) (h.bits bits done from end i) in (
      word_count t.bytes,
      record {
        bytes = t.bytes;
        is = t.is;
        small = t.small;
        measures = subst (λ (z : ℕ). Measures w3 t.bytes (word_count t.bytes) from z) e (finish t.bytes done from (subst (λ (z : ℕ). Measures w2 t.bytes done from z) (sym e) t.measures));
      },
    )

-- ---- the sums of a super-frame

no_bytes : (w : List Bool) → length w < 8 → bytes_of w ≡ []
unfolding bytes_of
no_bytes [] l = refl
no_bytes (a ∷ []) l = refl
no_bytes (a ∷ b ∷ []) l = refl
no_bytes (a ∷ b ∷ c ∷ []) l = refl
no_bytes (a ∷ b ∷ c ∷ d ∷ []) l = refl
no_bytes (a ∷ b ∷ c ∷ d ∷ e ∷ []) l = refl
no_bytes (a ∷ b ∷ c ∷ d ∷ e ∷ f ∷ []) l = refl
no_bytes (a ∷ b ∷ c ∷ d ∷ e ∷ f ∷ g ∷ []) l = refl
no_bytes (a ∷ b ∷ c ∷ d ∷ e ∷ f ∷ g ∷ h ∷ w) l = absurd (omega (arith, l))

-- the whole bytes of bytes' bits and fewer than eight more
pub bytes_back : ByteOfBits → (bytes : List ℕ) (w : List Bool) → All (λ b. b < 256) bytes → length w < 8 → bytes_of (bits_of_bytes bytes ++ w) ≡ bytes
bytes_back one [] w s l = no_bytes w l
bytes_back one (b ∷ bytes) w s l =
    ap bytes_of (append_assoc (spelled 8 b) (bits_of_bytes bytes) w) ∙ one b (bits_of_bytes bytes ++ w) (All-head (λ b. b < 256) b bytes s)
    ∙ ap (λ z. b ∷ z) (bytes_back one bytes w (All-tail (λ b. b < 256) b bytes s) l)

pub none_more : (d k n : ℕ) → d + k ≡ n → k ≡ 0 → d ≡ n
none_more d k n e z = omega (arith, e, z)

below : (n d a b limit : ℕ) → d ≡ a → a ≡ b → n < min b limit → n < d
below n d a b limit e f l = omega (arith, e, f, l)

pub are_sums : ByteOfBits → (moment : Moment) (x : StreamMeter) (s : Settings) (bytes : List ℕ) (known : Knowns) (σ : Stream) (j from : ℕ) (given : List Bool) (reports : List ℕ) (bits wrong : ℕ) (words : WordSums)
    → words ≡ x.words.current → Stands moment x s σ j from (costs s bytes σ) given reports → known_with known σ j ≡ given → told_before s known σ j ≡ from
    → bits ≡ over_compared s bytes known j (λ x. bits_in x σ) → wrong ≡ over_compared s bytes known j (λ x. wrong_in x σ)
    → AreStreamSums s bytes known j σ (record { bits = bits; wrong = wrong; words = words.words; clean = words.clean; corrected = words.corrected; bad = words.bad; unphased = words.unphased; unmerged = x.reports.current; repaired = words.repaired })
are_sums one moment x s bytes known σ j from given reports bits wrong words e h k f eb ew = record {
  bits = eb;
  wrong = ew;
  near = near;
  is_near = λ n l. subst (λ (z : List ℕ). IsNear (word_at z n) (near n)) whole (m.counted.is_near n (below n h.done (word_count h.has_bits.bytes) (word_count (bytes_of (known_with known σ j))) (words_before s σ (j + 1) - 11) finished count l));
  words = ap (λ (z : WordSums). z.words) sums ∙ length-range_with_len (told_before s known σ j) (told s known σ j - told_before s known σ j);
  clean = ap (λ (z : WordSums). z.clean) sums;
  corrected = ap (λ (z : WordSums). z.corrected) sums;
  bad = ap (λ (z : WordSums). z.bad) sums;
  unphased = ap (λ (z : WordSums). z.unphased) sums;
  repaired = ap (λ (z : WordSums). z.repaired) sums;
  reports = reports;
  are_reports = h.has_given.reports;
  unmerged = h.counted.current;
}
  where
    m : Measures x.words h.has_bits.bytes h.done from (words_before s σ (j + 1) - 11)
    m = h.has_bits.measures

    near : ℕ → Option (List ℕ)
    near = m.counted.near

    whole : h.has_bits.bytes ≡ bytes_of (known_with known σ j)
    whole = sym (ap bytes_of (k ∙ h.has_bits.is) ∙ bytes_back one h.has_bits.bytes x.part h.has_bits.small h.few)

    finished : h.done ≡ word_count h.has_bits.bytes
    finished = none_more h.done (length x.words.slots) (word_count h.has_bits.bytes) m.waiting (ap length h.all_done)

    count : word_count h.has_bits.bytes ≡ word_count (bytes_of (known_with known σ j))
    count = ap word_count whole

    end : min h.done (words_before s σ (j + 1) - 11) ≡ told s known σ j
    end = ap (λ (z : ℕ). min z (words_before s σ (j + 1) - 11)) (finished ∙ count)

    sums : words ≡ sums_over near (word_at (bytes_of (known_with known σ j))) (words_of s known σ j)
    sums = e ∙ m.counted.current_are ∙ ap (λ (z : List ℕ). sums_over near (word_at z) (range_with_len from (min h.done (words_before s σ (j + 1) - 11) - from))) whole
        ∙ ap₂ (λ (a n : ℕ). sums_over near (word_at (bytes_of (known_with known σ j))) (range_with_len a (n - a))) (sym f) end
