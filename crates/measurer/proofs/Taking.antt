-- A symbol more for the meters of both streams.
use Rattle.std.proofs.Common.{◌≡◌, ◌≢◌, ℕ, ◌+◌, ◌-◌, ◌*◌, ◌%◌, ◌^◌, ◌<◌, ◌≤◌, Bool, List, ◌++◌, length, inl, inr, sym, ap, ap₂, ◌∙◌, subst, arith, length-append}
use Rattle.std.specs.Prelude.{nat_le}
use Rattle.std.proofs.lemmas.Bool.{cases_lt, le-leb, lt-leb}
use Rattle.code_paths.specs.declared.costs.CostPair.{CostPair}
use Rattle.inner_decoder.specs.Events.{ats}
use Rattle.inner_decoder.specs.Running.{BranchState}
use Rattle.mode_set.specs.declared.modes.Stream.{Stream}
use Rattle.mode_set.specs.declared.modes.Stream.TheVariants.{Hp, Lp}
use Rattle.mode_set.specs.declared.settings.Settings.{Settings}
use Rattle.symbol_parameters.specs.Spans.{steps_before}
use Rattle.symbol_parameters.specs.Laws.{StepsGrow, NoSteps}
use Rattle.qam_map.specs.declared.cell.Cell.{Cell}
use Rattle.measure_known_bits.specs.Seen.{KnownState}
use Rattle.measure_known_bits.specs.Passing.{IsSettled}
use Rattle.measure_known_bits.specs.Laws as bits_law
use Rattle.reception.specs.Cells.{symbols, symbol_cells, symbol_weights}
use Rattle.reception.specs.Costs.{costs}
use Rattle.reception.specs.Laws.{CostsAreSteps, CellsStay, WeightsStay, OneSymbolMore}
use Rattle.reception.specs.Streams.{so_far}
use Rattle.inner_receiver.specs.Branches.{HasTaken}
use Rattle.inner_receiver.specs.Seen.{CostsState}
use Rattle.measure_stream.specs.Laws.{StandsReady, RunsOn, CountsAreFew, RoomForSymbol}
use Rattle.measure_stream.specs.Reports.{LieIn, AreFew}
use Rattle.measure_stream.specs.Standing.{Stands, WentOn, HasRun}
use Rattle.measure_stream.specs.declared.stream.StreamMeter.{StreamMeter}
use Rattle.measure_stream.specs.declared.reports.ReportCounts.{ReportCounts}
use Rattle.measure_comparison.specs.Laws.{MoreBitsKnown}
use Rattle.measure_comparison.specs.Seen.{SymbolState, ComparerState}
use Rattle.measure_comparison.specs.Standing.{StandsBefore, kept_at}
use Rattle.word_workers.specs.Symbols.{MayRunOver}
use Rattle.measurement.specs.Lines.{defined_by}
use Rattle.measurer.specs.Seen.{MeterState, meter_of}
use Rattle.measurer.specs.Sums.{AreSummed}
use Rattle.measurer.specs.Standing.{MeterStands, MetersStand, GoOn, KeepsLast, symbol_of}
use Rattle.measurer.specs.Steps.{AreKept, TakesSymbol, TakesNext}
use Rattle.measurer.proofs.Knowing.{known_back}
use Rattle.measurer.proofs.Summing.{summed_stays}

-- ---- one stream

lies : StepsGrow → (s : Settings) (σ : Stream) (j n a b : ℕ) (within : Bool) → within ≡ nat_le (n + 1) (272 * (j + 1)) → 272 * j ≤ n → a ≡ steps_before s σ n → a + b ≡ steps_before s σ (n + 1) → LieIn within s σ j a (a + b)
lies grow s σ j n a b within e from ea eb = elim (cases_lt (272 * (j + 1)) (n + 1)) [
  | inl l ↦ subst (λ (z : Bool). LieIn z s σ j a (a + b)) (sym (e ∙ lt-leb (n + 1) (272 * (j + 1)) l)) (let g = grow s σ (272 * (j + 1)) n (omega (arith, l)) in omega (arith, g, ea))
  | inr l ↦
      let g = grow s σ (272 * j) n from in
      let h = grow s σ (n + 1) (272 * (j + 1)) l in
      subst (λ (z : Bool). LieIn z s σ j a (a + b)) (sym (e ∙ le-leb (n + 1) (272 * (j + 1)) l)) (omega (arith, g, ea), omega (arith, h, eb))
]

-- what the meter of a stream makes of a symbol that its decoder has run
abbrev pub GivesOn : Bool → StreamMeter → StreamMeter → Type 0
GivesOn within old new = (before : BranchState) (pairs : List CostPair) → HasTaken pairs before old.branch
    → (s : Settings) (σ : Stream) (j from : ℕ) (c : List CostPair) (bits : List Bool) (reports : List ℕ) → Stands so_far (record old { branch = before }) s σ j from c bits reports
    → LieIn within s σ j (length c) (length c + length pairs) → WentOn so_far old new s σ j from (c ++ pairs) bits (reports ++ ats old.branch.events)

-- a meter took a symbol
pub record Took (x new : StreamMeter) (s : Settings) (bytes : List ℕ) (σ : Stream) (j : ℕ) (bits : List Bool) : Type 0 where
  pub more : List Bool
  pub known : new.known ≡ record x.known { waiting = x.known.waiting ++ more }
  pub stands : MeterStands so_far new s bytes σ j (bits ++ more)

pub stream_took : StepsGrow → CostsAreSteps → (x new : StreamMeter) (ran : BranchState) (pairs : List CostPair) (within : Bool) (s : Settings) (bytes p : List ℕ) (σ : Stream) (j : ℕ) (bits : List Bool)
    → HasTaken pairs x.branch ran → GivesOn within (record x { branch = ran }) new → costs s (bytes ++ p) σ ≡ costs s bytes σ ++ pairs → symbols s (bytes ++ p) ≡ symbols s bytes + 1 → j ≡ defined_by (symbols s bytes)
    → within ≡ nat_le (symbols s bytes + 1) (272 * (j + 1)) → MeterStands so_far x s bytes σ j bits → Took x new s (bytes ++ p) σ j bits
stream_took grow long x new ran pairs within s bytes p σ j bits run give e count ej ew h = record { more = w.more; known = w.known; stands = stands }
  where
    c : List CostPair
    c = costs s bytes σ

    all : length c + length pairs ≡ steps_before s σ (symbols s bytes + 1)
    all = sym (length-append c pairs) ∙ ap length (sym e) ∙ long s (bytes ++ p) σ ∙ ap (steps_before s σ) count

    w : WentOn so_far (record x { branch = ran }) new s σ j h.from (c ++ pairs) bits (h.reports ++ ats ran.events)
    w = give x.branch pairs run s σ j h.from c bits h.reports h.stands (lies grow s σ j (symbols s bytes) (length c) (length pairs) within ew (omega (arith, ej)) (long s bytes σ) all)

    stands : MeterStands so_far new s (bytes ++ p) σ j (bits ++ w.more)
    stands = record {
      from = h.from;
      reports = h.reports ++ ats ran.events;
      stands = subst (λ (z : List CostPair). Stands so_far new s σ j h.from z (bits ++ w.more) (h.reports ++ ats ran.events)) (sym e) w.stands;
      told = λ known k. h.told known (λ m em. known_back s bytes p σ m (known m σ) (omega (arith, em, ej)) (k m em));
    }

-- ---- the symbols that are kept

keeps_more : CellsStay → WeightsStay → (s : Settings) (bytes p : List ℕ) (n : ℕ) (cells : List Cell) (weights : List ℕ) (old new : ComparerState) → symbols s bytes ≡ n → cells ≡ symbol_cells s (bytes ++ p) n → weights ≡ symbol_weights s (bytes ++ p) n
    → ((d : SymbolState) → kept_at new n d ≡ record { cells = cells; weights = weights }) → ((m : ℕ) (d : SymbolState) → m % 4 ≢ n % 4 → kept_at new m d ≡ kept_at old m d) → KeepsLast s bytes n old → KeepsLast s (bytes ++ p) (n + 1) new
keeps_more stay weigh s bytes p n cells weights old new count ec ew here others h = λ m d l k. elim (cases_lt m n) [
  | inl a ↦
      let within : m < symbols s bytes = omega (arith, a, count) in
      others m d (λ e. omega (arith, e, a, k)) ∙ h m d a (omega (arith, k))
      ∙ ap₂ (λ (x : List Cell) (y : List ℕ). let z : SymbolState = record { cells = x; weights = y } in z) (sym (stay s bytes p m within)) (sym (weigh s bytes p m within))
  | inr a ↦
      let e : n ≡ m = omega (arith, a, l) in
      subst (λ (i : ℕ). kept_at new i d ≡ symbol_of s (bytes ++ p) i) e (here d ∙ ap₂ (λ (x : List Cell) (y : List ℕ). let z : SymbolState = record { cells = x; weights = y } in z) ec ew)
]

-- ---- both

pub record AreTaken : Type 0 where
  pub grow : StepsGrow
  pub long : CostsAreSteps
  pub cells : CellsStay
  pub weights : WeightsStay
  pub next : OneSymbolMore
  pub more : MoreBitsKnown

pub took_on : AreTaken → (x : MeterState) (hp lp : StreamMeter) (ran_hp ran_lp : BranchState) (comparer : ComparerState) (kept : List SymbolState) (cells : CostsState) (within : Bool) (bytes p : List ℕ) (n : ℕ)
    → n ≡ cells.taken - 1 → within ≡ nat_le cells.taken (272 * (x.current.number + 1)) → HasTaken cells.hp x.hp.branch ran_hp → HasTaken cells.lp x.lp.branch ran_lp → GivesOn within (record x.hp { branch = ran_hp }) hp → GivesOn within (record x.lp { branch = ran_lp }) lp
    → comparer ≡ record x.comparer { kept = kept } → ((d : SymbolState) → kept_at comparer n d ≡ record { cells = cells.cells; weights = cells.weights })
    → ((m : ℕ) (d : SymbolState) → m % 4 ≢ n % 4 → kept_at comparer m d ≡ kept_at x.comparer m d)
    → ((m : ℕ) (hp lp : KnownState) (known : Stream → List Bool) → StandsBefore m x.comparer hp lp known → StandsBefore m comparer hp lp known)
    → TakesSymbol x cells bytes p → MetersStand so_far cells.settings (bytes ++ p) (record { comparer = comparer; hp = hp; lp = lp; current = x.current })
took_on laws x hp lp ran_hp ran_lp comparer kept cells within bytes p n en ew run_hp run_lp give_hp give_lp keeps here others stands_on t = record {
  bits = bits;
  meters = λ σ. meters σ;
  settings = ap (λ (z : ComparerState). z.settings) keeps ∙ g.stand.settings;
  before = subst (λ (k : ℕ). StandsBefore k comparer hp.known lp.known bits) (sym (ap (λ (z : ComparerState). z.next) keeps))
      (stands_on x.comparer.next hp.known lp.known bits
      (subst (λ (k : KnownState). StandsBefore x.comparer.next x.comparer k lp.known bits) (sym hp_took.known)
      (subst (λ (k : KnownState). StandsBefore x.comparer.next x.comparer (record x.hp.known { waiting = x.hp.known.waiting ++ hp_took.more }) k bits) (sym lp_took.known)
      (laws.more x.comparer.next x.comparer x.hp.known x.lp.known g.stand.bits more g.stand.before))));
  keeps = subst (λ (k : ℕ). KeepsLast s (bytes ++ p) k comparer) (sym count)
      (subst (λ (k : ℕ). KeepsLast s (bytes ++ p) (k + 1) comparer) last
      (keeps_more laws.cells laws.weights s bytes p n cells.cells cells.weights x.comparer comparer (sym last) (t.ends.cells_are ∙ ap (symbol_cells s (bytes ++ p)) (sym last)) (t.ends.weights_are ∙ ap (symbol_weights s (bytes ++ p)) (sym last)) here others
      (subst (λ (k : ℕ). KeepsLast s bytes k x.comparer) (sym last) g.stand.keeps)));
  summed = subst (λ (k : ℕ). (AreSummed s (bytes ++ p) k x.current)) (sym (ap (λ (z : ComparerState). z.next) keeps))
      (summed_stays laws.cells laws.weights s bytes p x.comparer.next x.current g.next (omega (arith, g.number, g.next)) g.stand.summed);
}
  where
    s : Settings
    s = cells.settings

    g : GoOn s bytes x
    g = t.goes_on

    count : symbols s (bytes ++ p) ≡ symbols s bytes + 1
    count = (laws.next s bytes p t.ends.ends).0

    last : n ≡ symbols s bytes
    last = omega (arith, en, t.taken)

    now : within ≡ nat_le (symbols s bytes + 1) (272 * (x.current.number + 1))
    now = ew ∙ ap (λ (k : ℕ). nat_le k (272 * (x.current.number + 1))) t.taken

    hp_took : Took x.hp hp s (bytes ++ p) Hp x.current.number (g.stand.bits Hp)
    hp_took = stream_took laws.grow laws.long x.hp hp ran_hp cells.hp within s bytes p Hp x.current.number (g.stand.bits Hp) run_hp give_hp (t.ends.costs_are Hp) count g.number now (g.stand.meters Hp)

    lp_took : Took x.lp lp s (bytes ++ p) Lp x.current.number (g.stand.bits Lp)
    lp_took = stream_took laws.grow laws.long x.lp lp ran_lp cells.lp within s bytes p Lp x.current.number (g.stand.bits Lp) run_lp give_lp (t.ends.costs_are Lp) count g.number now (g.stand.meters Lp)

    more : Stream → List Bool
    more Hp = hp_took.more
    more Lp = lp_took.more

    bits : Stream → List Bool
    bits σ = g.stand.bits σ ++ more σ

    meters : (σ : Stream) → MeterStands so_far (meter_of (record { comparer = comparer; hp = hp; lp = lp; current = x.current }) σ) s (bytes ++ p) σ x.current.number (bits σ)
    meters Hp = hp_took.stands
    meters Lp = lp_took.stands

-- ---- what the calls ask

pub few_steps : NoSteps → bits_law.StepsAreFew → (s : Settings) (σ : Stream) (n : ℕ) → steps_before s σ n ≤ 31752 * n
few_steps none few s σ n =
    let e : 0 + n ≡ n = omega arith in
    let same = ap (steps_before s σ) e in
    let f = few s σ 0 n in
    let z = none s σ in
    omega (arith, same, f, z)

pub may_run : StandsReady → CountsAreFew → NoSteps → bits_law.StepsAreFew → CostsAreSteps → (x : StreamMeter) (pairs : List CostPair) (s : Settings) (bytes : List ℕ) (σ : Stream) (j : ℕ) (bits : List Bool) → MeterStands so_far x s bytes σ j bits → symbols s bytes ≤ 2 ^ 32 → length pairs ≤ 31752 → MayRunOver pairs x.branch
may_run ready counts none few long x pairs s bytes σ j bits h l k =
    let r = ready x s σ j h.from (costs s bytes σ) bits h.reports h.stands in
    let c = counts x s σ j h.from (costs s bytes σ) bits h.reports h.stands in
    record {
      going = r.going;
      loaded = r.loaded;
      few = k;
      wait = omega (arith, ap length r.wait);
      steps = omega (arith, c.decoder, long s bytes σ, few_steps none few s σ (symbols s bytes), l);
    }

pub few_words : CountsAreFew → NoSteps → bits_law.StepsAreFew → CostsAreSteps → (x : StreamMeter) (s : Settings) (bytes : List ℕ) (σ : Stream) (j : ℕ) (bits : List Bool) → MeterStands so_far x s bytes σ j bits → symbols s bytes ≤ 2 ^ 32 → x.words.all.words ≤ 2 ^ 49
few_words counts none few long x s bytes σ j bits h l =
    let c = counts x s σ j h.from (costs s bytes σ) bits h.reports h.stands in
    omega (arith, c.words, long s bytes σ, few_steps none few s σ (symbols s bytes), l)

pub has_run : StandsReady → RunsOn → (x : StreamMeter) (ran : BranchState) (pairs : List CostPair) (s : Settings) (bytes : List ℕ) (σ : Stream) (j : ℕ) (bits : List Bool) → MeterStands so_far x s bytes σ j bits → HasTaken pairs x.branch ran → HasRun (record x { branch = ran })
has_run ready runs x ran pairs s bytes σ j bits h t = runs x ran pairs (ready x s σ j h.from (costs s bytes σ) bits h.reports h.stands) t

pub room : RoomForSymbol → CostsAreSteps → (x : MeterState) (ran : BranchState) (pairs : List CostPair) (s : Settings) (bytes : List ℕ) (σ : Stream) → GoOn s bytes x → IsSettled (meter_of x σ).known → HasTaken pairs (meter_of x σ).branch ran → length pairs ≤ 31752
    → length (meter_of x σ).known.waiting + length ran.wait ≤ 127008
room enough long x ran pairs s bytes Hp g settled t l =
    let h = g.stand.meters Hp in
    enough x.hp ran pairs x.comparer.settings Hp x.current.number h.from x.comparer.next (symbols s bytes) _ (costs s bytes Hp) (g.stand.bits Hp) h.reports
    (subst (λ (z : Settings). Stands so_far x.hp z Hp x.current.number h.from (costs s bytes Hp) (g.stand.bits Hp) h.reports) (sym g.stand.settings) h.stands) (g.stand.before.streams Hp) settled
    (long s bytes Hp ∙ ap (λ (z : Settings). steps_before z Hp (symbols s bytes)) (sym g.stand.settings)) (omega (arith, g.next)) l t
room enough long x ran pairs s bytes Lp g settled t l =
    let h = g.stand.meters Lp in
    enough x.lp ran pairs x.comparer.settings Lp x.current.number h.from x.comparer.next (symbols s bytes) _ (costs s bytes Lp) (g.stand.bits Lp) h.reports
    (subst (λ (z : Settings). Stands so_far x.lp z Lp x.current.number h.from (costs s bytes Lp) (g.stand.bits Lp) h.reports) (sym g.stand.settings) h.stands) (g.stand.before.streams Lp) settled
    (long s bytes Lp ∙ ap (λ (z : Settings). steps_before z Lp (symbols s bytes)) (sym g.stand.settings)) (omega (arith, g.next)) l t

pub more_few : (x : ReportCounts) (n k : ℕ) → n ≤ k → AreFew x n → AreFew x k
more_few x n k l h = record { all = omega (arith, h.all, l); current = omega (arith, h.current, l); later = omega (arith, h.later, l) }

pub record AreAsked : Type 0 where
  pub ready : StandsReady
  pub runs : RunsOn
  pub counts : CountsAreFew
  pub room : RoomForSymbol
  pub none : NoSteps
  pub few : bits_law.StepsAreFew
  pub long : CostsAreSteps

-- what a symbol asks of both streams
pub record Asked (x : StreamMeter) : Type 0 where
  pub run : (pairs : List CostPair) → length pairs ≤ 31752 → MayRunOver pairs x.branch
  pub has_run : (ran : BranchState) (pairs : List CostPair) → HasTaken pairs x.branch ran → HasRun (record x { branch = ran })
  pub room : (ran : BranchState) (pairs : List CostPair) → HasTaken pairs x.branch ran → length pairs ≤ 31752 → length x.known.waiting + length ran.wait ≤ 127008
  pub words : x.words.all.words ≤ 2 ^ 49

pub asked_hp : AreAsked → (x : MeterState) (cells : CostsState) → TakesNext x cells → cells.taken ≤ 2 ^ 32 → Asked x.hp
asked_hp laws x cells t l =
    let s = cells.settings in
    let g = t.takes.goes_on in
    let few : symbols s t.bytes ≤ 2 ^ 32 = omega (arith, t.takes.taken, l) in
    record {
      run = λ pairs k. may_run laws.ready laws.counts laws.none laws.few laws.long x.hp pairs s t.bytes Hp x.current.number (g.stand.bits Hp) (g.stand.meters Hp) few k;
      has_run = λ ran pairs k. has_run laws.ready laws.runs x.hp ran pairs s t.bytes Hp x.current.number (g.stand.bits Hp) (g.stand.meters Hp) k;
      room = λ ran pairs k m. room laws.room laws.long x ran pairs s t.bytes Hp g g.hp_settled k m;
      words = few_words laws.counts laws.none laws.few laws.long x.hp s t.bytes Hp x.current.number (g.stand.bits Hp) (g.stand.meters Hp) few;
    }

pub asked_lp : AreAsked → (x : MeterState) (cells : CostsState) → TakesNext x cells → cells.taken ≤ 2 ^ 32 → Asked x.lp
asked_lp laws x cells t l =
    let s = cells.settings in
    let g = t.takes.goes_on in
    let few : symbols s t.bytes ≤ 2 ^ 32 = omega (arith, t.takes.taken, l) in
    record {
      run = λ pairs k. may_run laws.ready laws.counts laws.none laws.few laws.long x.lp pairs s t.bytes Lp x.current.number (g.stand.bits Lp) (g.stand.meters Lp) few k;
      has_run = λ ran pairs k. has_run laws.ready laws.runs x.lp ran pairs s t.bytes Lp x.current.number (g.stand.bits Lp) (g.stand.meters Lp) k;
      room = λ ran pairs k m. room laws.room laws.long x ran pairs s t.bytes Lp g g.lp_settled k m;
      words = few_words laws.counts laws.none laws.few laws.long x.lp s t.bytes Lp x.current.number (g.stand.bits Lp) (g.stand.meters Lp) few;
    }

pub kept_on : (x : MeterState) (hp lp : StreamMeter) (comparer : ComparerState) (kept : List SymbolState) (taken before : ℕ) → taken ≡ before + 1 → AreKept x (taken - 1) → ((n : ℕ) → AreFew x.hp.reports n → AreFew hp.reports (n + 16)) → ((n : ℕ) → AreFew x.lp.reports n → AreFew lp.reports (n + 16))
    → comparer ≡ record x.comparer { kept = kept } → AreKept (record { comparer = comparer; hp = hp; lp = lp; current = x.current }) taken
kept_on x hp lp comparer kept taken before e k hp_more lp_more same = record {
  hp_reports = more_few hp.reports (16 * (taken - 1) + 16) (16 * taken) (omega (arith, e)) (hp_more (16 * (taken - 1)) k.hp_reports);
  lp_reports = more_few lp.reports (16 * (taken - 1) + 16) (16 * taken) (omega (arith, e)) (lp_more (16 * (taken - 1)) k.lp_reports);
  little = k.little;
  symbols = omega (arith, k.symbols, ap (λ (z : ComparerState). z.next) same);
  next = omega (arith, k.next, ap (λ (z : ComparerState). z.next) same);
}
