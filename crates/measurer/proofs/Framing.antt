-- The sums of a super-frame, and the next one.
use Rattle.std.proofs.Common.{◌≡◌, ℕ, suc, ◌+◌, ◌-◌, ◌*◌, ◌/◌, ◌^◌, ◌<◌, ◌≤◌, min, Bool, List, length, if◌then◌else◌, refl, sym, ap, ◌∙◌, subst, arith}
use Rattle.std.specs.Prelude.{Option, Some, None}
use Rattle.code_paths.specs.declared.costs.CostPair.{CostPair}
use Rattle.code_paths.specs.Laws.{GivenOnce, EndedOnce}
use Rattle.code_paths.specs.Uniqueness.{SomeAreGiven, SomeAreEnded}
use Rattle.mode_set.specs.declared.modes.Stream.{Stream}
use Rattle.mode_set.specs.declared.modes.Stream.TheVariants.{Hp, Lp}
use Rattle.mode_set.specs.declared.settings.Settings.{Settings}
use Rattle.symbol_parameters.specs.Spans.{exists_in, steps_before, words_before}
use Rattle.symbol_parameters.specs.Laws.{StepsOfOneMore, StepsGrow, NoSteps, SpansHaveWholeWords}
use Rattle.outer_chain.specs.Bits.{bytes_of}
use Rattle.outer_chain.specs.Words.{word_count}
use Rattle.measure_known_bits.specs.Seen.{KnownState}
use Rattle.measure_known_bits.specs.Laws.{StepsAreFew}
use Rattle.reception.specs.Cells.{symbols}
use Rattle.reception.specs.Costs.{costs}
use Rattle.reception.specs.Frames.{tps_cells, frame_bits, CountsWords}
use Rattle.reception.specs.Laws.{SameCosts, CostsAreSteps}
use Rattle.reception.specs.Streams.{Moment, so_far, at_end, start_of, IsDecoded}
use Rattle.inner_receiver.specs.declared.frames.FrameReader.{FrameReader}
use Rattle.measure_stream.specs.Standing.{Stands}
use Rattle.measure_stream.specs.declared.stream.StreamMeter.{StreamMeter}
use Rattle.measure_comparison.specs.Standing.{StandsBefore}
use Rattle.measure_sums.specs.Comparing.{bits_in, wrong_in}
use Rattle.measure_report.specs.declared.sums.BitSums.{BitSums}
use Rattle.measure_report.specs.declared.sums.StreamSums.{StreamSums}
use Rattle.measurement.specs.Known.{IsKnown}
use Rattle.measurement.specs.SuperFrames.{Knowns, over_compared, known_with, told_before, AreStreamSums, AreSums}
use Rattle.measurer.specs.declared.current.Current.{Current}
use Rattle.measurer.specs.Seen.{MeterState, meter_of}
use Rattle.measurer.specs.Sums.{AreFirstSums, nothing_of}
use Rattle.measurer.specs.Standing.{MeterStands, MetersStand, FramesStand}
use Rattle.measurer.specs.Steps.{IsDone, CountsOn, HasStood}
use Rattle.measurer.proofs.Knowing.{HasLast, last_known, known_once, some_known}
use Rattle.measurer.proofs.Summing.{AreAllSums, all_sums, nothing_summed}
use Rattle.measurer.proofs.Counting.{FollowOn, words_follow}
use Rattle.measurer.proofs.Lasting.{none_past}
use Rattle.measurer.proofs.Taking.{few_steps}

pub record AreDone : Type 0 where
  pub given_once : GivenOnce
  pub ended_once : EndedOnce
  pub same : SameCosts
  pub long : CostsAreSteps
  pub next : StepsOfOneMore
  pub grow : StepsGrow

-- ---- what is done

pub record DoneFacts (n next j : ℕ) : Type 0 where
  pub from : 272 * j ≤ next
  pub to : next ≤ 272 * (j + 1)
  pub begun : 272 * j ≤ n
  pub few : n < 272 * (j + 1) + 4
  pub rest : (m : ℕ) → next ≤ m → m < 272 * (j + 1) → n ≤ m

pub done_facts : (moment : Moment) (n next j : ℕ) → IsDone moment n next j → DoneFacts n next j
done_facts so_far n next j d = record {
  from = omega (arith, d.0, d.1);
  to = omega (arith, d.1);
  begun = omega (arith, d.0);
  few = omega (arith, d.0);
  rest = λ m p q. absurd (omega (arith, p, q, d.1));
}
done_facts at_end n next j d = record {
  from = omega (arith, d.0, d.2);
  to = omega (arith, d.2);
  begun = omega (arith, d.0);
  few = omega (arith, d.1);
  rest = λ m p q. omega (arith, p, q, d.2);
}

done_last : (moment : Moment) (n next j m : ℕ) → m + 1 ≡ 272 * (j + 1) → IsDone moment n next j → HasLast moment n m
done_last so_far n next j m e d = omega (arith, d.0, e)
done_last at_end n next j m e d = omega (arith, d.1, e)

-- the bits known for the last symbol of the super-frame
with_bits : AreDone → (moment : Moment) (s : Settings) (bytes : List ℕ) (x : MeterState) (h : MetersStand moment s bytes x) → IsDone moment (symbols s bytes) x.comparer.next x.current.number
    → (m : ℕ) (σ : Stream) (bits : List Bool) → m + 1 ≡ 272 * (x.current.number + 1) → IsKnown s bytes σ m bits → bits ≡ h.bits σ
with_bits laws moment s bytes x h d m σ bits e k =
    known_once laws.given_once laws.ended_once s bytes σ m bits (h.bits σ) k
    (last_known laws.same moment s bytes σ m (h.bits σ) (at σ) (done_last moment (symbols s bytes) x.comparer.next x.current.number m e d))
  where
    at : (σ : Stream) → IsDecoded moment (start_of s.start) (costs s bytes σ) (h.bits σ)
    at Hp = (h.meters Hp).stands.has_given.decoded
    at Lp = (h.meters Lp).stands.has_given.decoded

-- ---- the sums

-- what the meter of a stream says of its sums
abbrev pub SumsUp : StreamMeter → BitSums → StreamSums → Type 0
SumsUp x b t = (moment : Moment) (s : Settings) (bytes : List ℕ) (known : Knowns) (σ : Stream) (j from : ℕ) (given : List Bool) (reports : List ℕ) → Stands moment x s σ j from (costs s bytes σ) given reports
    → known_with known σ j ≡ given → told_before s known σ j ≡ from → b.bits ≡ over_compared s bytes known j (λ x. bits_in x σ) → b.wrong ≡ over_compared s bytes known j (λ x. wrong_in x σ)
    → AreStreamSums s bytes known j σ t

frames_all : (n j : ℕ) → 272 * j ≤ n → 4 * j + (n / 68 - 4 * j) ≡ n / 68
frames_all n j l = omega (arith, l)

frames_few : (n j : ℕ) → n < 272 * (j + 1) + 4 → n / 68 - 4 * j ≡ min 4 (n / 68 - 4 * j)
frames_few n j l = omega (arith, l)

pub frame_sums : AreDone → SomeAreGiven → SomeAreEnded → (x : MeterState) (frames : FrameReader) (moment : Moment) (s : Settings) (bytes : List ℕ) (hp lp : StreamSums) (of_lp : Option StreamSums) → SumsUp x.hp x.current.sums.hp hp → SumsUp x.lp x.current.sums.lp lp → of_lp ≡ (if exists_in s Lp then Some lp else None)
    → MetersStand moment s bytes x → FramesStand s bytes frames x.current → IsDone moment (symbols s bytes) x.comparer.next x.current.number
    → AreSums s bytes x.current.number (record { number = x.current.number; symbols = x.current.symbols; cells = x.current.sums.cells; muted = x.current.sums.muted; power = x.current.sums.power; error = x.current.sums.error; tps_read = frames.read - x.current.read_before; tps_bad = frames.bad - x.current.bad_before; hp = hp; lp = of_lp })
frame_sums laws some_given some_ended x frames moment s bytes hp lp of_lp give_hp give_lp e h f d = record {
  known = known;
  are_known = λ m σ p q. are m σ;
  number = refl;
  compared = all.symbols;
  cells = all.cells;
  muted = all.muted;
  power = all.power;
  error = all.error;
  frames = subst (λ (k : ℕ). CountsWords (λ i. frame_bits (tps_cells s bytes) (4 * j + i)) k (frames.read - x.current.read_before) (frames.bad - x.current.bad_before)) (frames_few n j facts.few) follow.counts;
  hp = give_hp moment s bytes known Hp j (h.meters Hp).from (h.bits Hp) (h.meters Hp).reports (h.meters Hp).stands (last Hp) ((h.meters Hp).told known (λ m k. are m Hp)) all.hp_bits all.hp_wrong;
  lp = lp;
  lp_are = give_lp moment s bytes known Lp j (h.meters Lp).from (h.bits Lp) (h.meters Lp).reports (h.meters Lp).stands (last Lp) ((h.meters Lp).told known (λ m k. are m Lp)) all.lp_bits all.lp_wrong;
  lp_is = e;
}
  where
    j : ℕ
    j = x.current.number

    n : ℕ
    n = symbols s bytes

    next : ℕ
    next = x.comparer.next

    facts : DoneFacts (symbols s bytes) x.comparer.next x.current.number
    facts = done_facts moment (symbols s bytes) x.comparer.next x.current.number d

    known : Knowns
    known m σ = (some_known some_given some_ended s bytes σ m).0

    are : (m : ℕ) (σ : Stream) → IsKnown s bytes σ m ((some_known some_given some_ended s bytes σ m).0)
    are m σ = (some_known some_given some_ended s bytes σ m).1

    first : AreFirstSums s bytes known x.current.number (x.comparer.next - 272 * x.current.number) x.current
    first = h.summed known (λ m σ p q. are m σ)

    all : AreAllSums s bytes known x.current.number x.current
    all = all_sums s bytes known j (next - 272 * j) x.current (omega (arith, facts.to))
        (λ m p q. none_past laws.next laws.grow laws.long s bytes m (known m) (facts.rest m (omega (arith, p, facts.from)) q) (are m Hp)) first

    last : (σ : Stream) → known_with known σ x.current.number ≡ h.bits σ
    last σ = with_bits laws moment s bytes x h d (272 * j + 271) σ (known (272 * j + 271) σ) (omega arith) (are (272 * j + 271) σ)

    follow : FollowOn (frame_bits (tps_cells s bytes)) (4 * x.current.number) (symbols s bytes / 68 - 4 * x.current.number) x.current.read_before x.current.bad_before frames.read frames.bad
    follow = words_follow (frame_bits (tps_cells s bytes)) (4 * j) (n / 68 - 4 * j) x.current.read_before x.current.bad_before frames.read frames.bad f.before
        (subst (λ (k : ℕ). CountsWords (frame_bits (tps_cells s bytes)) k frames.read frames.bad) (sym (frames_all n j facts.begun)) f.reader.counts)

-- ---- the next super-frame

-- what the meter of a stream makes of it
abbrev pub PassesOn : ℕ → Settings → Stream → StreamMeter → StreamMeter → Type 0
PassesOn next s σ old new = (moment : Moment) (j from : ℕ) (c : List CostPair) (bits : List Bool) (reports : List ℕ) → next ≡ j + 1 → Stands moment old s σ j from c bits reports
    → length c ≤ steps_before s σ (272 * (j + 2))
    → Stands moment new s σ (j + 1) (min (word_count (bytes_of bits)) (words_before s σ (j + 1) - 11)) c bits reports

told_next : (s : Settings) (known : Knowns) (σ : Stream) (j : ℕ) (bits : List Bool) → known (272 * j + 271) σ ≡ bits → told_before s known σ (j + 1) ≡ min (word_count (bytes_of bits)) (words_before s σ (j + 1) - 11)
told_next s known σ j bits e =
    let next : j + 1 ≡ suc j = omega arith in
    ap (told_before s known σ) next ∙ ap (λ (z : List Bool). min (word_count (bytes_of z)) (words_before s σ (j + 1) - 11)) e

pub advanced_on : AreDone → (x : MeterState) (hp lp : StreamMeter) (number read bad : ℕ) (moment : Moment) (s : Settings) (bytes : List ℕ) → number ≡ x.current.number + 1 → PassesOn number s Hp x.hp hp → PassesOn number s Lp x.lp lp → hp.known ≡ x.hp.known → lp.known ≡ x.lp.known
    → MetersStand moment s bytes x → IsDone moment (symbols s bytes) x.comparer.next x.current.number → MetersStand moment s bytes (record { comparer = x.comparer; hp = hp; lp = lp; current = nothing_of (x.current.number + 1) read bad })
advanced_on laws x hp lp number read bad moment s bytes en pass_hp pass_lp ehp elp h d = record {
  bits = h.bits;
  meters = meters;
  settings = h.settings;
  before = subst (λ (k : KnownState). StandsBefore x.comparer.next x.comparer k lp.known h.bits) (sym ehp) (subst (λ (k : KnownState). StandsBefore x.comparer.next x.comparer x.hp.known k h.bits) (sym elp) h.before);
  keeps = h.keeps;
  summed = λ known are. subst (λ (k : ℕ). AreFirstSums s bytes known (x.current.number + 1) k (nothing_of (x.current.number + 1) read bad)) none (nothing_summed s bytes known (x.current.number + 1) read bad);
}
  where
    facts : DoneFacts (symbols s bytes) x.comparer.next x.current.number
    facts = done_facts moment (symbols s bytes) x.comparer.next x.current.number d

    none : 0 ≡ x.comparer.next - 272 * (x.current.number + 1)
    none = omega (arith, facts.to)

    short : (σ : Stream) → length (costs s bytes σ) ≤ steps_before s σ (272 * (x.current.number + 2))
    short σ = let g = laws.grow s σ (symbols s bytes) (272 * (x.current.number + 2)) (omega (arith, facts.few)) in omega (arith, g, laws.long s bytes σ)

    passed : (σ : Stream) (y : StreamMeter) → Stands moment y s σ (x.current.number + 1) (min (word_count (bytes_of (h.bits σ))) (words_before s σ (x.current.number + 1) - 11)) (costs s bytes σ) (h.bits σ) (h.meters σ).reports
        → MeterStands moment y s bytes σ (x.current.number + 1) (h.bits σ)
    passed σ y k = record {
      from = min (word_count (bytes_of (h.bits σ))) (words_before s σ (x.current.number + 1) - 11);
      reports = (h.meters σ).reports;
      stands = k;
      told = λ known are. told_next s known σ x.current.number (h.bits σ)
          (with_bits laws moment s bytes x h d (272 * x.current.number + 271) σ (known (272 * x.current.number + 271) σ) (omega arith) (are (272 * x.current.number + 271) (omega arith)));
    }

    meters : (σ : Stream) → MeterStands moment (meter_of (record { comparer = x.comparer; hp = hp; lp = lp; current = nothing_of (x.current.number + 1) read bad }) σ) s bytes σ (x.current.number + 1) (h.bits σ)
    meters Hp = passed Hp hp (pass_hp moment x.current.number (h.meters Hp).from (costs s bytes Hp) (h.bits Hp) (h.meters Hp).reports en (h.meters Hp).stands (short Hp))
    meters Lp = passed Lp lp (pass_lp moment x.current.number (h.meters Lp).from (costs s bytes Lp) (h.bits Lp) (h.meters Lp).reports en (h.meters Lp).stands (short Lp))

-- ---- what the calls ask

pub counts_on : (x : Current) (frames : FrameReader) → CountsOn x frames → (x.read_before ≤ frames.read) × (x.bad_before ≤ frames.bad)
counts_on x frames c = let f = words_follow c.word c.first c.more x.read_before x.bad_before frames.read frames.bad c.before c.all in (f.read_before, f.bad_before)

words_few : SpansHaveWholeWords → NoSteps → StepsAreFew → (s : Settings) (σ : Stream) (j w : ℕ) → j < 2 ^ 31 → w ≡ words_before s σ (j + 1) → w < 2 ^ 60
words_few whole none few s σ j w l e = omega (arith, l, e, whole s σ (j + 1), few_steps none few s σ (272 * (j + 1)))

pub stood_few : SpansHaveWholeWords → NoSteps → StepsAreFew → (x : MeterState) (s : Settings) → x.current.number < 2 ^ 31 → HasStood s x → (x.hp.words_before < 2 ^ 60) × (x.lp.words_before < 2 ^ 60)
stood_few whole none few x s l h =
    (words_few whole none few s Hp x.current.number x.hp.words_before l (h.stand.meters Hp).stands.before, words_few whole none few s Lp x.current.number x.lp.words_before l (h.stand.meters Lp).stands.before)
