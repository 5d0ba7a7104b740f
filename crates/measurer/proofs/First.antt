-- The meters before the first symbol.
use Rattle.std.proofs.Common.{◌≡◌, ℕ, ◌+◌, ◌-◌, ◌*◌, ◌/◌, ◌≤◌, inl, List, [], refl, sym, ap, subst, arith}
use Rattle.conv_code.specs.Coded.{zeros}
use Rattle.code_paths.specs.declared.costs.CostPair.{CostPair}
use Rattle.measure_known_bits.specs.Laws.{nothing_known}
use Rattle.measure_known_bits.specs.Passing.{IsSettled}
use Rattle.mode_set.specs.StreamTable.{carriers}
use Rattle.mode_set.specs.declared.modes.Mode.{Mode}
use Rattle.mode_set.specs.declared.modes.Mode.TheVariants.{M2k, M8k}
use Rattle.mode_set.specs.declared.modes.Stream.{Stream}
use Rattle.mode_set.specs.declared.modes.Stream.TheVariants.{Hp, Lp}
use Rattle.mode_set.specs.declared.settings.Settings.{Settings}
use Rattle.reception.specs.Cells.{symbols}
use Rattle.reception.specs.Laws.{NoCosts}
use Rattle.reception.specs.Streams.{so_far}
use Rattle.measure_sums.specs.Tables.{AreLittle, no_sums}
use Rattle.measure_stream.specs.declared.reports.ReportCounts.{ReportCounts}
use Rattle.measure_stream.specs.Reports.{AreFew, no_reports}
use Rattle.measure_stream.specs.Standing.{Stands}
use Rattle.measure_comparison.specs.Laws.{StandsAtFirst}
use Rattle.measure_comparison.specs.Standing.{StandsBefore}
use Rattle.measurer.specs.declared.current.Current.{Current}
use Rattle.measurer.specs.Seen.{MeterState, meter_of}
use Rattle.measurer.specs.Standing.{MeterStands, GoOn}
use Rattle.measurer.specs.Steps.{AreKept}
use Rattle.measurer.specs.Sums.{nothing_of, AreFirstSums}
use Rattle.measurer.proofs.Summing.{nothing_summed}

few_none : (x : ReportCounts) → x ≡ no_reports → AreFew x (16 * 0)
few_none x e = subst (λ (z : ReportCounts). AreFew z (16 * 0)) (sym e) (record { all = omega arith; current = omega arith; later = omega arith })

pub kept_first : (x : MeterState) → x.hp.reports ≡ no_reports → x.lp.reports ≡ no_reports → x.current ≡ nothing_of 0 0 0 → x.comparer.next ≡ 0 → AreLittle no_sums (6048 * 0) → AreKept x 0
kept_first x hp lp current next little = record {
  hp_reports = few_none x.hp.reports hp;
  lp_reports = few_none x.lp.reports lp;
  little = subst (λ (z : Current). AreLittle z.sums (6048 * z.symbols)) (sym current) little;
  symbols = subst (λ (z : Current). z.symbols + 272 * z.number ≤ x.comparer.next) (sym current) (omega (arith, next));
  next = omega (arith, next);
}

no_length : (m : Mode) → 0 / (5 * carriers m) ≡ 0
no_length M2k = omega arith
no_length M8k = omega arith

no_symbols : (s : Settings) → symbols s [] ≡ 0
no_symbols s = no_length s.mode

pub goes_on_first : StandsAtFirst → NoCosts → (s : Settings) (x : MeterState) → x.comparer.settings ≡ s → x.comparer.next ≡ 0 → x.comparer.coder.hp ≡ zeros → x.comparer.coder.lp ≡ zeros
    → x.hp.known ≡ nothing_known → x.lp.known ≡ nothing_known → x.current ≡ nothing_of 0 0 0 → Stands so_far x.hp s Hp 0 0 [] [] [] → Stands so_far x.lp s Lp 0 0 [] [] [] → GoOn s [] x
goes_on_first first none s x settings next hp_zeros lp_zeros hp_known lp_known current hp lp = record {
  next = omega (arith, next, no_symbols s);
  number = omega (arith, number, no_symbols s);
  hp_settled = subst IsSettled (sym hp_known) (inl refl);
  lp_settled = subst IsSettled (sym lp_known) (inl refl);
  stand = record {
    bits = λ σ. [];
    meters = λ σ. subst (λ (n : ℕ). MeterStands so_far (meter_of x σ) s [] σ n []) (sym number) (meters σ);
    settings = settings;
    before = subst (λ (n : ℕ). StandsBefore n x.comparer x.hp.known x.lp.known (λ σ. [])) (sym next) (first x.comparer x.hp.known x.lp.known next hp_zeros lp_zeros hp_known lp_known);
    keeps = λ m d below late. absurd (omega (arith, below, no_symbols s));
    summed = λ known are. subst (λ (z : Current). AreFirstSums s [] known z.number (x.comparer.next - 272 * z.number) z) (sym current)
        (subst (λ (n : ℕ). AreFirstSums s [] known 0 n (nothing_of 0 0 0)) (sym left) (nothing_summed s [] known 0 0 0));
  };
}
  where
    number : x.current.number ≡ 0
    number = ap (λ (z : Current). z.number) current

    left : x.comparer.next - 272 * 0 ≡ 0
    left = omega (arith, next)

    at_first : (σ : Stream) → Stands so_far (meter_of x σ) s σ 0 0 [] [] []
    at_first Hp = hp
    at_first Lp = lp

    meters : (σ : Stream) → MeterStands so_far (meter_of x σ) s [] σ 0 []
    meters σ = record {
      from = 0;
      reports = [];
      stands = subst (λ (c : List CostPair). Stands so_far (meter_of x σ) s σ 0 0 c [] []) (sym (none s σ)) (at_first σ);
      told = λ known k. refl;
    }
