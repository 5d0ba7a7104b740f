-- A symbol compared.
use Rattle.std.proofs.Common.{◌≡◌, ℕ, ◌+◌, ◌-◌, ◌*◌, ◌%◌, ◌^◌, ◌<◌, ◌≤◌, Bool, List, refl, sym, ap, ◌∙◌, subst, arith}
use Rattle.std.specs.Prelude.{Option, Some, None, IfSome, slice_index_or}
use Rattle.code_paths.specs.declared.costs.CostPair.{CostPair}
use Rattle.code_paths.specs.Laws.{GivenOnce, EndedOnce}
use Rattle.mode_set.specs.StreamTable.{payload}
use Rattle.mode_set.specs.declared.modes.Mode.{Mode}
use Rattle.mode_set.specs.declared.modes.Mode.TheVariants.{M2k, M8k}
use Rattle.mode_set.specs.declared.modes.Stream.{Stream}
use Rattle.mode_set.specs.declared.modes.Stream.TheVariants.{Hp, Lp}
use Rattle.mode_set.specs.declared.settings.Settings.{Settings}
use Rattle.symbol_parameters.specs.Laws.{NoSteps}
use Rattle.inner_chain.specs.Labels.{register_of}
use Rattle.measure_known_bits.specs.Seen.{KnownState}
use Rattle.measure_known_bits.specs.Passing.{HasPassed}
use Rattle.measure_known_bits.specs.Laws.{StepsAreFew}
use Rattle.reception.specs.Cells.{symbols}
use Rattle.reception.specs.Costs.{costs}
use Rattle.reception.specs.Laws.{SameCosts}
use Rattle.reception.specs.Streams.{Moment, so_far, at_end}
use Rattle.measure_stream.specs.Standing.{Stands}
use Rattle.measure_stream.specs.declared.stream.StreamMeter.{StreamMeter}
use Rattle.measure_comparison.specs.Seen.{SymbolState, ComparerState, known_of}
use Rattle.measure_comparison.specs.Standing.{StandsBefore, IsSummed, kept_at}
use Rattle.measure_sums.specs.Tables.{AreLittle}
use Rattle.measure_report.specs.declared.sums.SymbolSums.{SymbolSums}
use Rattle.measurement.specs.Known.{IsKnown}
use Rattle.measurer.specs.declared.current.Current.{Current}
use Rattle.measurer.specs.Seen.{MeterState, meter_of}
use Rattle.measurer.specs.Sums.{AreFirstSums, AreSummed, with_symbol}
use Rattle.measurer.specs.Standing.{MeterStands, MetersStand, symbol_of}
use Rattle.measurer.specs.Steps.{HasBegun, IsDue}
use Rattle.measurer.proofs.Knowing.{due_known, known_once}
use Rattle.measurer.proofs.Summing.{symbol_more}
use Rattle.measurer.proofs.Taking.{few_steps}

-- ---- the sums

due_next : (moment : Moment) (n m : ℕ) → IsDue moment n m → (m < n) × (n ≤ m + 4)
due_next so_far n m e = (omega (arith, e), omega (arith, e))
due_next at_end n m e = (e.0, omega (arith, e.1))

-- the sums of a symbol, by any bits that are known for it
abbrev SumsOf : Settings → List ℕ → ℕ → Option SymbolSums → Type 0
SumsOf s bytes m result = (known : Stream → List Bool) → ((σ : Stream) → IsKnown s bytes σ m (known σ)) → IsSummed s (symbol_of s bytes m) known m result

summed_next : (s : Settings) (bytes : List ℕ) (next : ℕ) (x : Current) (result : Option SymbolSums) → 272 * x.number ≤ next → AreSummed s bytes next x → SumsOf s bytes next result → AreSummed s bytes (next + 1) (with_symbol x result)
summed_next s bytes next x None from h sums = λ known are.
    let e : next - 272 * x.number + 1 ≡ next + 1 - 272 * x.number = omega (arith, from) in
    subst (λ (k : ℕ). AreFirstSums s bytes known x.number k x) e
    (symbol_more s bytes known x.number (next - 272 * x.number) next x None (omega (arith, from)) (h known (λ m σ p q. are m σ p (omega (arith, q)))) (sums (known next) (λ σ. are next σ from (omega arith))))
summed_next s bytes next x (Some y) from h sums = λ known are.
    let e : next - 272 * x.number + 1 ≡ next + 1 - 272 * x.number = omega (arith, from) in
    subst (λ (k : ℕ). AreFirstSums s bytes known x.number k (with_symbol x (Some y))) e
    (symbol_more s bytes known x.number (next - 272 * x.number) next x (Some y) (omega (arith, from)) (h known (λ m σ p q. are m σ p (omega (arith, q)))) (sums (known next) (λ σ. are next σ from (omega arith))))

-- ---- the meters

same_meter : (moment : Moment) (x : StreamMeter) (k : KnownState) (s : Settings) (σ : Stream) (j from : ℕ) (c : List CostPair) (bits : List Bool) (reports : List ℕ) → Stands moment x s σ j from c bits reports → Stands moment (record x { known = k }) s σ j from c bits reports
same_meter moment x k s σ j from c bits reports h = record {
  has_given = h.has_given;
  loaded = h.loaded;
  none = h.none;
  few = h.few;
  done = h.done;
  has_bits = h.has_bits;
  all_done = h.all_done;
  before = h.before;
  counted = h.counted;
}

meter_stays : (moment : Moment) (x : StreamMeter) (k : KnownState) (s : Settings) (bytes : List ℕ) (σ : Stream) (j : ℕ) (bits : List Bool) → MeterStands moment x s bytes σ j bits → MeterStands moment (record x { known = k }) s bytes σ j bits
meter_stays moment x k s bytes σ j bits h = record { from = h.from; reports = h.reports; stands = same_meter moment x k s σ j h.from (costs s bytes σ) bits h.reports h.stands; told = h.told }

number_stays : (x : Current) (result : Option SymbolSums) → (with_symbol x result).number ≡ x.number
number_stays x None = refl
number_stays x (Some y) = refl

-- ---- a symbol

pub record AreCompared : Type 0 where
  pub same : SameCosts
  pub given_once : GivenOnce
  pub ended_once : EndedOnce

-- what the comparer makes of the next symbol
pub record Compares (x y : ComparerState) (hp lp new_hp new_lp : KnownState) (result : Option SymbolSums) : Type 0 where
  pub settings : y.settings ≡ x.settings
  pub next : y.next ≡ x.next + 1
  pub kept : y.kept ≡ x.kept
  pub summed : (m : ℕ) (known : Stream → List Bool) (d : SymbolState) → StandsBefore m x hp lp known → IsSummed x.settings (kept_at x m d) known m result
  pub stands : (m : ℕ) (known : Stream → List Bool) → StandsBefore m x hp lp known → StandsBefore (m + 1) y new_hp new_lp known

pub compared_on : AreCompared → (x : MeterState) (comparer : ComparerState) (hp lp : KnownState) (current : Current) (result : Option SymbolSums) → Compares x.comparer comparer x.hp.known x.lp.known hp lp result → current ≡ with_symbol x.current result
    → (moment : Moment) (s : Settings) (bytes : List ℕ) → MetersStand moment s bytes x → IsDue moment (symbols s bytes) x.comparer.next → 272 * x.current.number ≤ x.comparer.next
    → MetersStand moment s bytes (record { comparer = comparer; hp = record x.hp { known = hp }; lp = record x.lp { known = lp }; current = current })
compared_on laws x comparer hp lp current result made ec moment s bytes h due from = record {
  bits = h.bits;
  meters = meters;
  settings = made.settings ∙ h.settings;
  before = subst (λ (k : ℕ). StandsBefore k comparer hp lp h.bits) (sym made.next) (made.stands x.comparer.next h.bits h.before);
  keeps = λ m d l k. ap (λ (z : List SymbolState). slice_index_or z (m % 4) d) made.kept ∙ h.keeps m d l k;
  summed = subst (λ (z : Current). AreSummed s bytes comparer.next z) (sym ec)
      (subst (λ (k : ℕ). AreSummed s bytes k (with_symbol x.current result)) (sym made.next) (summed_next s bytes x.comparer.next x.current result from h.summed sums));
}
  where
    within : (x.comparer.next < symbols s bytes) × (symbols s bytes ≤ x.comparer.next + 4)
    within = due_next moment (symbols s bytes) x.comparer.next due

    number : x.current.number ≡ current.number
    number = sym (ap (λ (z : Current). z.number) ec ∙ number_stays x.current result)

    meters : (σ : Stream) → MeterStands moment (meter_of (record { comparer = comparer; hp = record x.hp { known = hp }; lp = record x.lp { known = lp }; current = current }) σ) s bytes σ current.number (h.bits σ)
    meters Hp = subst (λ (k : ℕ). MeterStands moment (record x.hp { known = hp }) s bytes Hp k (h.bits Hp)) number (meter_stays moment x.hp hp s bytes Hp x.current.number (h.bits Hp) (h.meters Hp))
    meters Lp = subst (λ (k : ℕ). MeterStands moment (record x.lp { known = lp }) s bytes Lp k (h.bits Lp)) number (meter_stays moment x.lp lp s bytes Lp x.current.number (h.bits Lp) (h.meters Lp))

    known_here : (σ : Stream) → IsKnown s bytes σ x.comparer.next (h.bits σ)
    known_here σ = due_known laws.same moment s bytes σ x.comparer.next (h.bits σ) (h.meters σ).stands.has_given.decoded due

    sums : (known : Stream → List Bool) → ((σ : Stream) → IsKnown s bytes σ x.comparer.next (known σ)) → IsSummed s (symbol_of s bytes x.comparer.next) known x.comparer.next result
    sums known are =
        let d = symbol_of s bytes x.comparer.next in
        let stands : StandsBefore x.comparer.next x.comparer x.hp.known x.lp.known known = record {
          next = refl;
          streams = λ σ. subst (λ (b : List Bool). HasPassed x.comparer.settings σ x.comparer.next (known_of x.hp.known x.lp.known σ) (register_of x.comparer.coder σ) b)
              (known_once laws.given_once laws.ended_once s bytes σ x.comparer.next (h.bits σ) (known σ) (known_here σ) (are σ)) (h.before.streams σ);
        } in
        subst (λ (z : Settings). IsSummed z (symbol_of s bytes x.comparer.next) known x.comparer.next result) h.settings
        (subst (λ (z : SymbolState). IsSummed x.comparer.settings z known x.comparer.next result) (h.keeps x.comparer.next d within.0 within.1) (made.summed x.comparer.next known d stands))

-- ---- what the calls ask

pub before_few : NoSteps → StepsAreFew → (x : MeterState) → HasBegun x → x.comparer.next < 2 ^ 32 → (x.hp.known.before < 2 ^ 60) × (x.lp.known.before < 2 ^ 60)
before_few none few x h l =
    let s = x.comparer.settings in
    (omega (arith, (h.stands.streams Hp).before, few_steps none few s Hp x.comparer.next, l), omega (arith, (h.stands.streams Lp).before, few_steps none few s Lp x.comparer.next, l))

payload_few : (m : Mode) → payload m ≤ 6048
payload_few M2k = omega arith
payload_few M8k = omega arith

pub few_in_symbol : (m : Mode) (r : Option SymbolSums) → IfSome r (λ (x : SymbolSums). AreLittle x (payload m)) → IfSome r (λ (x : SymbolSums). AreLittle x 6048)
few_in_symbol m None h = h
few_in_symbol m (Some x) h =
    let l = payload_few m in
    record {
      cells = omega (arith, h.cells, l);
      muted = omega (arith, h.muted, l);
      power = omega (arith, h.power, l);
      error = omega (arith, h.error, l);
      hp = (omega (arith, h.hp.0, l), omega (arith, h.hp.1, l));
      lp = (omega (arith, h.lp.0, l), omega (arith, h.lp.1, l));
    }

pub still_little : (x : Current) (r : Option SymbolSums) → AreLittle x.sums (6048 * x.symbols) → IfSome r (λ (y : SymbolSums). AreLittle y 6048) → AreLittle (with_symbol x r).sums (6048 * (with_symbol x r).symbols)
still_little x None h k = h
still_little x (Some y) h k = record {
  cells = omega (arith, h.cells, k.cells);
  muted = omega (arith, h.muted, k.muted);
  power = omega (arith, h.power, k.power);
  error = omega (arith, h.error, k.error);
  hp = (omega (arith, h.hp.0, k.hp.0), omega (arith, h.hp.1, k.hp.1));
  lp = (omega (arith, h.lp.0, k.lp.0), omega (arith, h.lp.1, k.lp.1));
}

pub symbols_few : (x : Current) (r : Option SymbolSums) → (with_symbol x r).symbols ≤ x.symbols + 1
symbols_few x None = omega arith
symbols_few x (Some y) = omega arith

pub rest_stays : (x : Current) (r : Option SymbolSums) → with_symbol x r ≡ record x { symbols = (with_symbol x r).symbols; sums = (with_symbol x r).sums }
rest_stays x None = refl
rest_stays x (Some y) = refl

pub begun_next : (x : MeterState) (comparer : ComparerState) (hp lp : KnownState) (current : Current) (result : Option SymbolSums) → Compares x.comparer comparer x.hp.known x.lp.known hp lp result → HasBegun x
    → HasBegun (record { comparer = comparer; hp = record x.hp { known = hp }; lp = record x.lp { known = lp }; current = current })
begun_next x comparer hp lp current result made h = record { known = h.known; stands = subst (λ (k : ℕ). StandsBefore k comparer hp lp h.known) (sym made.next) (made.stands x.comparer.next h.known h.stands) }

-- ---- symbol after symbol, at the end

-- so it is before symbol m, where the comparing began at x
pub record ComparesOn (x y : MeterState) (m to : ℕ) : Type 0 where
  pub next : y.comparer.next ≡ m
  pub begun : HasBegun y
  pub little : AreLittle y.current.sums (6048 * y.current.symbols)
  pub few : y.current.symbols + to ≤ 272 + m
  pub from : x.comparer.next ≤ m
  pub current : y.current ≡ record x.current { symbols = y.current.symbols; sums = y.current.sums }
  pub compared : (s : Settings) (bytes : List ℕ) → MetersStand at_end s bytes x → to ≤ symbols s bytes → symbols s bytes < x.comparer.next + 4 → 272 * x.current.number ≤ x.comparer.next → MetersStand at_end s bytes y

pub compares_first : (x : MeterState) (m to : ℕ) → m ≡ x.comparer.next → HasBegun x → AreLittle x.current.sums (6048 * x.current.symbols) → x.current.symbols + to ≤ 272 + x.comparer.next → ComparesOn x x m to
compares_first x m to e begun little l = record { next = sym e; begun = begun; little = little; few = omega (arith, e, l); from = omega (arith, e); current = refl; compared = λ s bytes h a b d. h }

pub compares_next : (x y z : MeterState) (m to : ℕ) → m < to → ComparesOn x y m to → HasBegun z → AreLittle z.current.sums (6048 * z.current.symbols) → z.current.symbols ≤ y.current.symbols + 1 → z.comparer.next ≡ y.comparer.next + 1
    → z.current ≡ record y.current { symbols = z.current.symbols; sums = z.current.sums }
    → ((moment : Moment) (s : Settings) (bytes : List ℕ) → MetersStand moment s bytes y → IsDue moment (symbols s bytes) y.comparer.next → 272 * y.current.number ≤ y.comparer.next → MetersStand moment s bytes z) → ComparesOn x z (m + 1) to
compares_next x y z m to l c begun little few next current compare = record {
  next = next ∙ ap (λ (k : ℕ). k + 1) c.next;
  begun = begun;
  little = little;
  few = omega (arith, few, c.few);
  from = omega (arith, c.from);
  current = current ∙ ap (λ (k : Current). record k { symbols = z.current.symbols; sums = z.current.sums }) c.current;
  compared = λ s bytes h a b d.
      compare at_end s bytes (c.compared s bytes h a b d) (omega (arith, c.next, l, a), omega (arith, c.next, c.from, b)) (omega (arith, d, c.from, c.next, ap (λ (k : Current). k.number) c.current));
}
