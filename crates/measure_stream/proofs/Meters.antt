-- The meter of a stream goes on.
use Rattle.std.proofs.Common.{◌≡◌, ℕ, zero, suc, ◌+◌, ◌-◌, ◌*◌, ◌/◌, ◌<◌, ◌≤◌, ◌⊎◌, inl, inr, Bool, cond, not, ◌&&◌, List, [], ◌∷◌, ◌++◌, length, refl, sym, ap, ap₂, ◌∙◌, arith, subst, length-append, length-drop}
use Rattle.std.specs.Prelude.{All, Option, min, count_by}
use Rattle.std.proofs.lemmas.List.Elements.{All-nil, All-weaker}
use Rattle.std.specs.List.{range_with_len}
use Rattle.std.proofs.lemmas.List.Sums.{sum_by_push}
use Rattle.std.proofs.lemmas.List.FromFn.{length-range_with_len}
use Rattle.spec_words.specs.Words.{numbers}
use Rattle.bit_pack.specs.Queue.{bits_of_bytes}
use Rattle.code_paths.specs.declared.costs.CostPair.{CostPair}
use Rattle.inner_decoder.specs.Events.{ats}
use Rattle.inner_decoder.specs.Seen.{DecoderState}
use Rattle.inner_decoder.specs.Running.{BranchState}
use Rattle.mode_set.specs.declared.modes.Stream.{Stream}
use Rattle.mode_set.specs.declared.settings.Settings.{Settings}
use Rattle.symbol_parameters.specs.Spans.{steps_before, words_in, words_before}
use Rattle.symbol_parameters.specs.Laws.{NoSteps, StepsGrow, NoWords, WordsOfOneMore, WordsGrow, SpansHaveWholeWords}
use Rattle.outer_chain.specs.Bits.{bytes_of, ByteOfBits}
use Rattle.outer_chain.specs.Words.{word_count, word_at, IsNear, packets_to, tally_to, count, has, is_clean, phase_before}
use Rattle.rx_report.specs.declared.counts.StreamCounts.{StreamCounts}
use Rattle.reception.specs.Streams.{Moment, so_far, start_of}
use Rattle.reception.specs.Lines.{stream_counts}
use Rattle.reception.specs.Laws.{ReportsAreSteps, NewReportsAreLater}
use Rattle.inner_receiver.specs.Branches.{HasGiven, GaveMore, HasTaken, HasEnded}
use Rattle.measure_known_bits.specs.Passing.{passed, HasPassed, IsSettled}
use Rattle.measure_known_bits.specs.Laws.{StepsAreFew}
use Rattle.measure_words.specs.declared.counts.WordSums.{WordSums}
use Rattle.measure_words.specs.Sums.{sums_over}
use Rattle.measure_words.specs.Seen.{WordsState}
use Rattle.measure_words.specs.Counted.{Measures}
use Rattle.measure_stream.specs.declared.reports.ReportCounts.{ReportCounts}
use Rattle.measure_stream.specs.declared.stream.StreamMeter.{StreamMeter}
use Rattle.measure_stream.specs.Passing.{HasBits}
use Rattle.measure_stream.specs.Reports.{AreCounted}
use Rattle.measure_stream.specs.Standing.{Stands, IsReady, IsGiving, HasRun, Gave, WentOn, AreTotals}
use Rattle.measure_stream.specs.Laws.{AreFewOfSteps}
use Rattle.measure_stream.proofs.Bits.{length_bits}
use Rattle.measure_stream.proofs.Standing.{bytes_back, none_more}

-- ---- at first

pub first_limit : NoWords → WordsOfOneMore → (s : Settings) (σ : Stream) → words_in s σ 0 ≡ words_before s σ 1
first_limit none more s σ =
    let one : 0 + 1 ≡ 1 = omega arith in
    let before : words_before s σ 0 ≡ 0 = none s σ in
    let next : words_before s σ 1 ≡ words_before s σ 0 + words_in s σ 0 = ap (words_before s σ) (sym one) ∙ more s σ 0 in
    omega (arith, before, next)

pub first_stands : (x : StreamMeter) (s : Settings) (σ : Stream) → HasGiven so_far x.branch.decoder (start_of s.start) [] [] [] → x.branch.loaded ≡ [] → x.branch.wait ≡ [] → x.part ≡ [] → x.words.slots ≡ []
    → Measures x.words [] 0 0 (words_before s σ 1 - 11) → x.words_before ≡ words_before s σ 1 → AreCounted x.reports s σ 0 [] → Stands so_far x s σ 0 0 [] [] []
first_stands x s σ given loaded none part slots measures limit counted =
    record {
      has_given = given;
      loaded = loaded;
      none = none;
      few = omega (arith, ap length part);
      done = 0;
      has_bits = record { bytes = []; is = sym part; small = All-nil (λ b. b < 256); measures = measures };
      all_done = slots;
      before = limit;
      counted = counted;
    }

pub stands_ready : (x : StreamMeter) (s : Settings) (σ : Stream) (j from : ℕ) (c : List CostPair) (bits : List Bool) (reports : List ℕ) → Stands so_far x s σ j from c bits reports → IsReady x
stands_ready x s σ j from c bits reports h = record {
  giving = record { start = start_of s.start; costs = c; bits = bits; reports = reports; given = h.has_given };
  going = h.has_given.decoder.0;
  loaded = h.loaded;
  wait = h.none;
  may = record {
    few = h.few;
    none = h.all_done;
    started = record { bits = bits; done = h.done; from = from; has = subst (λ (z : ℕ). HasBits x.part x.words bits h.done from (z - 11)) (sym h.before) h.has_bits };
  };
}

-- ---- a symbol and the end

pub runs_on : (x : StreamMeter) (ran : BranchState) (pairs : List CostPair) → IsReady x → HasTaken pairs x.branch ran → HasRun (record x { branch = ran })
runs_on x ran pairs h run =
    let g = h.giving in
    let s = h.may.started in
    let r = run.gave g.start g.costs g.bits g.reports g.given in
    record {
      giving = record { start = g.start; costs = g.costs ++ pairs; bits = g.bits ++ r.more; reports = g.reports ++ ats ran.events; given = r.given };
      loaded = run.loaded;
      may = record { few = h.may.few; none = h.may.none; started = record { bits = s.bits; done = s.done; from = s.from; has = s.has } };
    }

-- the bits that a decoder gave are known, and their words are counted
pub gave_on : (moment : Moment) (old mid : StreamMeter) (counts : ReportCounts) (before : BranchState) (s : Settings) (σ : Stream) (j from : ℕ) (c after : List CostPair) (bits : List Bool) (reports later : List ℕ)
    → GaveMore moment before old.branch (start_of s.start) after bits later → old.branch.loaded ≡ [] → Gave old mid → mid.branch ≡ record old.branch { wait = [] } → mid.known ≡ record old.known { waiting = old.known.waiting ++ old.branch.wait }
    → mid.words_before ≡ old.words_before → AreCounted counts s σ j later → Stands so_far (record old { branch = before }) s σ j from c bits reports
    → WentOn moment old (record mid { reports = counts }) s σ j from after bits later
gave_on moment old mid counts before s σ j from c after bits reports later given loaded gave branch known limit counted h =
    let same : given.more ≡ old.branch.wait = sym (given.appended ∙ ap (λ (z : List Bool). z ++ given.more) h.none) in
    let went : (n : ℕ) × HasBits mid.part mid.words (bits ++ old.branch.wait) n from (old.words_before - 11) =
    gave.bits bits h.done from (subst (λ (z : ℕ). HasBits old.part old.words bits h.done from (z - 11)) (sym h.before) h.has_bits) in
    record {
      more = old.branch.wait;
      known = known;
      stands = record {
        has_given = subst (λ (z : DecoderState). HasGiven moment z (start_of s.start) after (bits ++ old.branch.wait) later) (sym (ap (λ (z : BranchState). z.decoder) branch))
            (subst (λ (z : List Bool). HasGiven moment old.branch.decoder (start_of s.start) after (bits ++ z) later) same given.given);
        loaded = ap (λ (z : BranchState). z.loaded) branch ∙ loaded;
        none = ap (λ (z : BranchState). z.wait) branch;
        few = gave.few;
        done = went.0;
        has_bits = subst (λ (z : ℕ). HasBits mid.part mid.words (bits ++ old.branch.wait) went.0 from (z - 11)) h.before went.1;
        all_done = gave.none;
        before = limit ∙ h.before;
        counted = counted;
      };
    }

pub ready_on : (old mid : StreamMeter) (counts : ReportCounts) → HasRun old → mid.branch ≡ record old.branch { wait = [] } → mid.words_before ≡ old.words_before → Gave old mid → IsReady (record mid { reports = counts })
ready_on old mid counts h branch limit gave =
    let s = h.may.started in
    let g = h.giving in
    let went = gave.bits s.bits s.done s.from s.has in
    record {
      giving = record { start = g.start; costs = g.costs; bits = g.bits; reports = g.reports; given = subst (λ (z : DecoderState). HasGiven so_far z g.start g.costs g.bits g.reports) (sym (ap (λ (z : BranchState). z.decoder) branch)) g.given };
      going = ap (λ (z : BranchState). z.decoder.ended) branch ∙ g.given.decoder.0;
      loaded = ap (λ (z : BranchState). z.loaded) branch ∙ h.loaded;
      wait = ap (λ (z : BranchState). z.wait) branch;
      may = record {
        few = gave.few;
        none = gave.none;
        started = record { bits = s.bits ++ old.branch.wait; done = went.0; from = s.from; has = subst (λ (z : ℕ). HasBits mid.part mid.words (s.bits ++ old.branch.wait) went.0 s.from (z - 11)) (sym limit) went.1 };
      };
    }

-- what is left at the end
pub end_wait : (old ended : BranchState) → HasEnded old ended → old.wait ≡ [] → IsGiving old.decoder → length ended.wait ≤ old.decoder.waiting
end_wait old ended h none g =
    let r = h.gave g.start g.costs g.bits g.reports g.given in
    let amount : length g.bits + old.decoder.waiting ≡ length g.costs = g.given.amount in
    let all : length (g.bits ++ r.more) + ended.decoder.waiting ≡ length g.costs = r.given.amount in
    let wait : length ended.wait ≡ length old.wait + length r.more = ap length r.appended ∙ length-append old.wait r.more in
    omega (arith, amount, all, wait, ap length none, length-append g.bits r.more)

-- ---- the reports of a symbol

pub new_reports : NewReportsAreLater → (d e : DecoderState) (a : Option (List Bool)) (c pairs : List CostPair) (bits more : List Bool) (reports us : List ℕ)
    → HasGiven so_far d a c bits reports → HasGiven so_far e a (c ++ pairs) more (reports ++ us) → All (λ at. (length c < at) × (at ≤ length c + length pairs)) us
new_reports later d e a c pairs bits more reports us h g = later _ a c pairs reports us h.reports g.reports

-- ---- words of steps

long_numbers : (n : ℕ) → length (numbers n) ≡ n
unfolding numbers
long_numbers n = length-range_with_len 0 n

-- all words are counted, of the bits of no more than these steps
counted_words : (moment : Moment) (x : StreamMeter) (s : Settings) (σ : Stream) (j from : ℕ) (c : List CostPair) (bits : List Bool) (reports : List ℕ) (h : Stands moment x s σ j from c bits reports)
    → (h.done ≡ word_count h.has_bits.bytes) × (8 * length h.has_bits.bytes ≤ length c)
counted_words moment x s σ j from c bits reports h =
    let long : length bits ≡ 8 * length h.has_bits.bytes + length x.part = ap length h.has_bits.is ∙ length-append (bits_of_bytes h.has_bits.bytes) x.part ∙ ap (λ (z : ℕ). z + length x.part) (length_bits h.has_bits.bytes) in
    let amount : length bits + x.branch.decoder.waiting ≡ length c = h.has_given.amount in
    (none_more h.done (length x.words.slots) (word_count h.has_bits.bytes) h.has_bits.measures.waiting (ap length h.all_done), omega (arith, long, amount))

all_words : (moment : Moment) (x : StreamMeter) (s : Settings) (σ : Stream) (j from : ℕ) (c : List CostPair) (bits : List Bool) (reports : List ℕ) (h : Stands moment x s σ j from c bits reports) → x.words.all.words ≡ h.done
all_words moment x s σ j from c bits reports h = ap (λ (z : WordSums). z.words) h.has_bits.measures.counted.all_are ∙ long_numbers h.done

whole_bytes : ByteOfBits → (moment : Moment) (x : StreamMeter) (s : Settings) (σ : Stream) (j from : ℕ) (c : List CostPair) (bits : List Bool) (reports : List ℕ) (h : Stands moment x s σ j from c bits reports) → h.has_bits.bytes ≡ bytes_of bits
whole_bytes one moment x s σ j from c bits reports h = sym (ap bytes_of h.has_bits.is ∙ bytes_back one h.has_bits.bytes x.part h.has_bits.small h.few)

pub counts_few : StepsAreFew → NoSteps → SpansHaveWholeWords → (x : StreamMeter) (s : Settings) (σ : Stream) (j from : ℕ) (c : List CostPair) (bits : List Bool) (reports : List ℕ) → Stands so_far x s σ j from c bits reports → AreFewOfSteps x j (length c)
counts_few few none whole x s σ j from c bits reports h =
    let w = counted_words so_far x s σ j from c bits reports h in
    let words : x.words.all.words ≡ h.done = all_words so_far x s σ j from c bits reports h in
    let done : h.done ≡ length h.has_bits.bytes / 204 - 11 = w.0 in
    let within : 8 * length h.has_bits.bytes ≤ length c = w.1 in
    let start : 0 + 272 * (j + 1) ≡ 272 * (j + 1) = omega arith in
    let all : steps_before s σ (272 * (j + 1)) ≤ steps_before s σ 0 + 31752 * (272 * (j + 1)) = subst (λ (z : ℕ). steps_before s σ z ≤ steps_before s σ 0 + 31752 * (272 * (j + 1))) start (few s σ 0 (272 * (j + 1))) in
    let zero_steps : steps_before s σ 0 ≡ 0 = none s σ in
    let spans : 1632 * words_before s σ (j + 1) ≡ steps_before s σ (272 * (j + 1)) = whole s σ (j + 1) in
    let limit : x.words_before ≡ words_before s σ (j + 1) = h.before in
    record {
      decoder = h.has_given.decoder.1.counts;
      words = omega (arith, words, done, within);
      before = omega (arith, limit, spans, all, zero_steps);
    }

-- ---- room

pub room_for_symbol : StepsAreFew → StepsGrow → (x : StreamMeter) (ran : BranchState) (pairs : List CostPair) (s : Settings) (σ : Stream) (j from m n : ℕ) (register : List Bool) (c : List CostPair) (bits : List Bool) (reports : List ℕ)
    → Stands so_far x s σ j from c bits reports → HasPassed s σ m x.known register bits → IsSettled x.known → length c ≡ steps_before s σ n → n ≤ m + 3 → length pairs ≤ 31752
    → HasTaken pairs x.branch ran → length x.known.waiting + length ran.wait ≤ 127008
room_for_symbol few grow x ran pairs s σ j from m n register c bits reports h passes settled steps near short run = go settled
  where
    g : GaveMore so_far x.branch ran (start_of s.start) (c ++ pairs) bits (reports ++ ats ran.events)
    g = run.gave (start_of s.start) c bits reports h.has_given

    waits : length ran.wait ≡ length g.more
    waits = ap length (g.appended ∙ ap (λ (z : List Bool). z ++ g.more) h.none)

    amount : length bits + x.branch.decoder.waiting ≡ length c
    amount = h.has_given.amount

    all : length bits + length g.more + ran.decoder.waiting ≡ length c + length pairs
    all = ap (λ (z : ℕ). z + ran.decoder.waiting) (sym (length-append bits g.more)) ∙ g.given.amount ∙ length-append c pairs

    memory_few : x.branch.decoder.waiting ≤ 2048
    memory_few = h.has_given.decoder.1.few

    long : length x.known.waiting ≡ length bits - passed x.known
    long = ap length passes.waiting ∙ length-drop (passed x.known) bits

    three : steps_before s σ n ≤ steps_before s σ m + 31752 * 3
    three = omega (arith, grow s σ n (m + 3) near, few s σ m 3)

    go : ◌⊎◌ (x.known.lag ≡ 0) (x.known.waiting ≡ []) → length x.known.waiting + length ran.wait ≤ 127008
    go (inl e) = omega (arith, waits, all, long, three, steps, short, passes.before, passes.within, e)
    go (inr e) = omega (arith, waits, all, amount, memory_few, short, ap length e)

pub room_at_end : StepsAreFew → StepsGrow → (x : StreamMeter) (s : Settings) (σ : Stream) (j from m n : ℕ) (register : List Bool) (c : List CostPair) (bits : List Bool) (reports : List ℕ)
    → Stands so_far x s σ j from c bits reports → HasPassed s σ m x.known register bits → IsSettled x.known → length c ≡ steps_before s σ n → n ≤ m + 3
    → length x.known.waiting + x.branch.decoder.waiting ≤ 127008
room_at_end few grow x s σ j from m n register c bits reports h passes settled steps near = go settled
  where
    amount : length bits + x.branch.decoder.waiting ≡ length c
    amount = h.has_given.amount

    memory_few : x.branch.decoder.waiting ≤ 2048
    memory_few = h.has_given.decoder.1.few

    long : length x.known.waiting ≡ length bits - passed x.known
    long = ap length passes.waiting ∙ length-drop (passed x.known) bits

    three : steps_before s σ n ≤ steps_before s σ m + 31752 * 3
    three = omega (arith, grow s σ n (m + 3) near, few s σ m 3)

    go : ◌⊎◌ (x.known.lag ≡ 0) (x.known.waiting ≡ []) → length x.known.waiting + x.branch.decoder.waiting ≤ 127008
    go (inl e) = omega (arith, amount, long, three, steps, passes.before, passes.within, e)
    go (inr e) = omega (arith, memory_few, ap length e)

-- ---- the next super-frame

pub advances : ByteOfBits → WordsGrow → SpansHaveWholeWords → ReportsAreSteps → (moment : Moment) (x : StreamMeter) (words : WordsState) (limit : ℕ) (counts : ReportCounts) (s : Settings) (σ : Stream) (j from : ℕ) (c : List CostPair) (bits : List Bool) (reports : List ℕ)
    → words.slots ≡ x.words.slots → ((bytes : List ℕ) (done from limit next : ℕ) → Measures x.words bytes done from limit → limit ≤ next → done ≤ next → Measures words bytes done (min done limit) next)
    → limit ≡ words_before s σ (j + 1 + 1) → ((reports : List ℕ) → AreCounted x.reports s σ j reports → All (λ at. at ≤ steps_before s σ (272 * (j + 2))) reports → AreCounted counts s σ (j + 1) reports)
    → Stands moment x s σ j from c bits reports → length c ≤ steps_before s σ (272 * (j + 2))
    → Stands moment (record x { words = words; words_before = limit; reports = counts }) s σ (j + 1) (min (word_count (bytes_of bits)) (words_before s σ (j + 1) - 11)) c bits reports
advances one grow whole steps moment x words limit counts s σ j from c bits reports slots advance next count h short =
    let w = counted_words moment x s σ j from c bits reports h in
    let done : h.done ≡ length h.has_bits.bytes / 204 - 11 = w.0 in
    let within : 8 * length h.has_bits.bytes ≤ length c = w.1 in
    let two : j + 1 + 1 ≡ j + 2 = omega arith in
    let spans : 1632 * words_before s σ (j + 1 + 1) ≡ steps_before s σ (272 * (j + 2)) = whole s σ (j + 1 + 1) ∙ ap (λ (z : ℕ). steps_before s σ (272 * z)) two in
    let on : j + 1 ≤ j + 1 + 1 = omega arith in
    let limits : words_before s σ (j + 1) - 11 ≤ words_before s σ (j + 1 + 1) - 11 = omega (arith, grow s σ (j + 1) (j + 1 + 1) on) in
    let enough : h.done ≤ words_before s σ (j + 1 + 1) - 11 = omega (arith, done, within, spans, short) in
    let count_is : h.done ≡ word_count (bytes_of bits) = w.0 ∙ ap word_count (whole_bytes one moment x s σ j from c bits reports h) in
    record {
      has_given = h.has_given;
      loaded = h.loaded;
      none = h.none;
      few = h.few;
      done = h.done;
      has_bits = record {
        bytes = h.has_bits.bytes;
        is = h.has_bits.is;
        small = h.has_bits.small;
        measures = subst (λ (z : ℕ). Measures words h.has_bits.bytes h.done (min z (words_before s σ (j + 1) - 11)) (words_before s σ (j + 1 + 1) - 11)) count_is
            (advance h.has_bits.bytes h.done from (words_before s σ (j + 1) - 11) (words_before s σ (j + 1 + 1) - 11) h.has_bits.measures limits enough);
      };
      all_done = slots ∙ h.all_done;
      before = next;
      counted = count reports h.counted
          (All-weaker (λ at. (0 < at) × (at ≤ length c)) (λ at. at ≤ steps_before s σ (272 * (j + 2))) (λ at k. omega (arith, k.1, short)) reports (steps _ _ c reports h.has_given.reports));
    }

-- ---- all words

range_push : (a n : ℕ) → range_with_len a (suc n) ≡ range_with_len a n ++ (a + n) ∷ []
range_push a zero = let e : a ≡ a + 0 = omega arith in ap (λ (z : ℕ). z ∷ []) e
range_push a (suc n) =
    let f : a + 1 + n ≡ a + suc n = omega arith in
    ap (λ (z : List ℕ). a ∷ z) (range_push (a + 1) n) ∙ ap (λ (z : ℕ). a ∷ (range_with_len (a + 1) n ++ z ∷ [])) f

-- the two ways to count below a number
count_is : (p : ℕ → Bool) (n : ℕ) → count_by p (numbers n) ≡ count p n
unfolding count numbers
count_is p zero = refl
count_is p (suc n) =
    let e : 0 + n ≡ n = omega arith in
    let rest : count_by p (range_with_len 0 n) ≡ count p n = count_is p n in
    ap (count_by p) (range_push 0 n ∙ ap (λ (z : ℕ). range_with_len 0 n ++ z ∷ []) e) ∙ sum_by_push (λ k. cond (p k) 1 0) (range_with_len 0 n) n ∙ (omega (arith, rest))

tallied : (near : ℕ → Option (List ℕ)) (word : ℕ → List ℕ) (n : ℕ) (unmerged : ℕ) (words : WordSums) → words ≡ sums_over near word (numbers n)
    → (let r : StreamCounts = record { words = words.words; clean = words.clean; corrected = words.corrected; bad = words.bad; unphased = words.unphased; unmerged = unmerged } in r) ≡ stream_counts (tally_to near word n) unmerged
tallied near word n unmerged words e =
    ap (λ (z : WordSums). record { words = z.words; clean = z.clean; corrected = z.corrected; bad = z.bad; unphased = z.unphased; unmerged = unmerged }) e
    ∙ made _ _ _ _ _ _ _ _ _ _ unmerged (long_numbers n)
    (count_is (λ x. is_clean (word x) (near x)) n)
    (count_is (λ x. has (near x) && not (is_clean (word x) (near x))) n)
    (count_is (λ x. not (has (near x))) n)
    (count_is (λ x. not (has (phase_before near (suc x)))) n)
  where
    made : (w w2 a a2 b b2 c c2 d d2 u : ℕ) → w ≡ w2 → a ≡ a2 → b ≡ b2 → c ≡ c2 → d ≡ d2
        → (let r : StreamCounts = record { words = w; clean = a; corrected = b; bad = c; unphased = d; unmerged = u } in r) ≡ record { words = w2; clean = a2; corrected = b2; bad = c2; unphased = d2; unmerged = u }
    made w w2 a a2 b b2 c c2 d d2 u f g h i j = cc

pub totals : ByteOfBits → (moment : Moment) (x : StreamMeter) (s : Settings) (σ : Stream) (j from : ℕ) (c : List CostPair) (bits : List Bool) (reports : List ℕ) (words : WordSums) → words ≡ x.words.all → Stands moment x s σ j from c bits reports
    → AreTotals bits reports (record { words = words.words; clean = words.clean; corrected = words.corrected; bad = words.bad; unphased = words.unphased; unmerged = x.reports.all })
totals one moment x s σ j from c bits reports words same h =
    let m = h.has_bits.measures.counted in
    let whole : h.has_bits.bytes ≡ bytes_of bits = whole_bytes one moment x s σ j from c bits reports h in
    let done : h.done ≡ word_count (bytes_of bits) = (counted_words moment x s σ j from c bits reports h).0 ∙ ap word_count whole in
    let is_near : (n : ℕ) → n < word_count (bytes_of bits) → IsNear (word_at (bytes_of bits) n) (m.near n) =
    λ n l. subst (λ (z : List ℕ). IsNear (word_at z n) (m.near n)) whole (m.is_near n (omega (arith, l, done))) in
    let all : words ≡ sums_over m.near (word_at (bytes_of bits)) (numbers (word_count (bytes_of bits))) =
    same ∙ m.all_are ∙ ap₂ (λ (z : List ℕ) (n : ℕ). sums_over m.near (word_at z) (numbers n)) whole done in
    record {
      packets = packets_to m.near (word_at (bytes_of bits)) (word_count (bytes_of bits));
      are_packets = record { near = m.near; is_near = is_near; is = refl };
      tally = tally_to m.near (word_at (bytes_of bits)) (word_count (bytes_of bits));
      are_tallied = record { near = m.near; is_near = is_near; is = refl };
      is = tallied m.near (word_at (bytes_of bits)) (word_count (bytes_of bits)) x.reports.all words all ∙ ap (stream_counts (tally_to m.near (word_at (bytes_of bits)) (word_count (bytes_of bits)))) h.counted.all;
    }
