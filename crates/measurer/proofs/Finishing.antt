-- What the meters stand for at the end.
use Rattle.std.proofs.Common.{◌≡◌, ℕ, ◌+◌, ◌*◌, ◌^◌, ◌≤◌, Bool, List, ◌++◌, length, sym, subst, arith}
use Rattle.inner_chain.specs.Labels.{register_of}
use Rattle.measure_known_bits.specs.Passing.{HasPassed}
use Rattle.measure_known_bits.specs.Seen.{KnownState}
use Rattle.measure_known_bits.specs.Laws.{StepsAreFew}
use Rattle.mode_set.specs.declared.modes.Stream.{Stream}
use Rattle.mode_set.specs.declared.modes.Stream.TheVariants.{Hp, Lp}
use Rattle.mode_set.specs.declared.settings.Settings.{Settings}
use Rattle.symbol_parameters.specs.Spans.{steps_before}
use Rattle.symbol_parameters.specs.Laws.{NoSteps}
use Rattle.reception.specs.Cells.{symbols}
use Rattle.reception.specs.Costs.{costs}
use Rattle.reception.specs.Laws.{CostsAreSteps}
use Rattle.reception.specs.Streams.{so_far, at_end}
use Rattle.measure_stream.specs.declared.stream.StreamMeter.{StreamMeter}
use Rattle.measure_stream.specs.Standing.{WentOn, IsReady}
use Rattle.measure_stream.specs.Laws.{CountsAreFew, RoomAtEnd, StandsReady, AreFewOfSteps}
use Rattle.measure_comparison.specs.Seen.{ComparerState, known_of}
use Rattle.measure_comparison.specs.Standing.{StandsBefore}
use Rattle.measure_comparison.specs.Laws.{MoreBitsKnown}
use Rattle.measurer.specs.declared.current.Current.{Current}
use Rattle.measurer.specs.Seen.{MeterState, meter_of}
use Rattle.measurer.specs.Standing.{MeterStands, MetersStand, GoOn, KeepsLast}
use Rattle.measurer.specs.Sums.{AreSummed}
use Rattle.measurer.specs.Steps.{HasGone}

-- ---- what the end asks of a meter

pub record MayEnd (x : StreamMeter) : Type 0 where
  pub ready : IsReady x
  pub known : length x.known.waiting + x.branch.decoder.waiting ≤ 127008
  pub words : x.words.all.words ≤ 2 ^ 49

pub record EndLaws : Type 0 where
  pub ready : StandsReady
  pub counts : CountsAreFew
  pub room : RoomAtEnd
  pub steps : StepsAreFew
  pub none : NoSteps
  pub long : CostsAreSteps

pub may_end : EndLaws → (s : Settings) (x : MeterState) → HasGone s x → (σ : Stream) → MayEnd (meter_of x σ)
may_end laws s x gone σ = go σ
  where
    g : GoOn s gone.bytes x
    g = gone.goes_on

    n : ℕ
    n = symbols s gone.bytes

    steps : (σ : Stream) → steps_before s σ n ≤ 31752 * n
    steps σ =
        let e : 0 + n ≡ n = omega arith in
        let few : steps_before s σ n ≤ steps_before s σ 0 + 31752 * n = subst (λ (z : ℕ). steps_before s σ z ≤ steps_before s σ 0 + 31752 * n) e (laws.steps s σ 0 n) in
        let none : steps_before s σ 0 ≡ 0 = laws.none s σ in
        omega (arith, few, none)

    passed : (σ : Stream) → HasPassed s σ x.comparer.next (known_of x.hp.known x.lp.known σ) (register_of x.comparer.coder σ) (g.stand.bits σ)
    passed σ = subst (λ (z : Settings). HasPassed z σ x.comparer.next (known_of x.hp.known x.lp.known σ) (register_of x.comparer.coder σ) (g.stand.bits σ)) g.stand.settings (g.stand.before.streams σ)

    near : n ≤ x.comparer.next + 3
    near = omega (arith, g.next)

    few_words : (σ : Stream) (words : ℕ) → 1632 * words ≤ length (costs s gone.bytes σ) → words ≤ 2 ^ 49
    few_words σ words l = omega (arith, l, laws.long s gone.bytes σ, steps σ, gone.few)

    go : (σ : Stream) → MayEnd (meter_of x σ)
    go Hp =
        let m = g.stand.meters Hp in
        let few : AreFewOfSteps x.hp x.current.number (length (costs s gone.bytes Hp)) = laws.counts x.hp s Hp x.current.number m.from (costs s gone.bytes Hp) (g.stand.bits Hp) m.reports m.stands in
        record {
          ready = laws.ready x.hp s Hp x.current.number m.from (costs s gone.bytes Hp) (g.stand.bits Hp) m.reports m.stands;
          known = laws.room x.hp s Hp x.current.number m.from x.comparer.next n _ (costs s gone.bytes Hp) (g.stand.bits Hp) m.reports m.stands
              (passed Hp) g.hp_settled (laws.long s gone.bytes Hp) near;
          words = few_words Hp x.hp.words.all.words few.words;
        }
    go Lp =
        let m = g.stand.meters Lp in
        let few : AreFewOfSteps x.lp x.current.number (length (costs s gone.bytes Lp)) = laws.counts x.lp s Lp x.current.number m.from (costs s gone.bytes Lp) (g.stand.bits Lp) m.reports m.stands in
        record {
          ready = laws.ready x.lp s Lp x.current.number m.from (costs s gone.bytes Lp) (g.stand.bits Lp) m.reports m.stands;
          known = laws.room x.lp s Lp x.current.number m.from x.comparer.next n _ (costs s gone.bytes Lp) (g.stand.bits Lp) m.reports m.stands
              (passed Lp) g.lp_settled (laws.long s gone.bytes Lp) near;
          words = few_words Lp x.lp.words.all.words few.words;
        }

-- ---- what the end makes of the meters

pub meters_ended : MoreBitsKnown → (s : Settings) (bytes : List ℕ) (old new : MeterState) (h : MetersStand so_far s bytes old) → new.comparer ≡ old.comparer → new.current ≡ old.current
    → WentOn at_end old.hp new.hp s Hp old.current.number (h.meters Hp).from (costs s bytes Hp) (h.bits Hp) (h.meters Hp).reports
    → WentOn at_end old.lp new.lp s Lp old.current.number (h.meters Lp).from (costs s bytes Lp) (h.bits Lp) (h.meters Lp).reports → MetersStand at_end s bytes new
meters_ended more s bytes old new h same current hp lp = record {
  bits = λ σ. h.bits σ ++ new_bits σ;
  meters = λ σ. subst (λ (z : Current). MeterStands at_end (meter_of new σ) s bytes σ z.number (h.bits σ ++ new_bits σ)) (sym current) (each σ);
  settings = subst (λ (z : ComparerState). z.settings ≡ s) (sym same) h.settings;
  before = subst (λ (z : ComparerState). StandsBefore z.next z new.hp.known new.lp.known (λ σ. h.bits σ ++ new_bits σ)) (sym same) before;
  keeps = subst (KeepsLast s bytes (symbols s bytes)) (sym same) h.keeps;
  summed = subst (λ (z : ComparerState). AreSummed s bytes z.next new.current) (sym same) (subst (AreSummed s bytes old.comparer.next) (sym current) h.summed);
}
  where
    new_bits : Stream → List Bool
    new_bits Hp = hp.more
    new_bits Lp = lp.more

    each : (σ : Stream) → MeterStands at_end (meter_of new σ) s bytes σ old.current.number (h.bits σ ++ new_bits σ)
    each Hp = record { from = (h.meters Hp).from; reports = (h.meters Hp).reports; stands = hp.stands; told = (h.meters Hp).told }
    each Lp = record { from = (h.meters Lp).from; reports = (h.meters Lp).reports; stands = lp.stands; told = (h.meters Lp).told }

    before : StandsBefore old.comparer.next old.comparer new.hp.known new.lp.known (λ σ. h.bits σ ++ new_bits σ)
    before =
        subst (λ (k : KnownState). StandsBefore old.comparer.next old.comparer k new.lp.known (λ σ. h.bits σ ++ new_bits σ)) (sym hp.known)
        (subst (λ (k : KnownState). StandsBefore old.comparer.next old.comparer (record old.hp.known { waiting = old.hp.known.waiting ++ hp.more }) k (λ σ. h.bits σ ++ new_bits σ)) (sym lp.known)
        (more old.comparer.next old.comparer old.hp.known old.lp.known h.bits new_bits h.before))
