use Rattle.std.proofs.Common.{◌+◌, ◌-◌, ◌*◌, ◌++◌, ℕ, List, sym, ap, ap₂, ◌∙◌, subst}
use Rattle.std.specs.Prelude.{nat_le}
use Rattle.code_paths.specs.declared.costs.CostPair.{CostPair}
use Rattle.qam_map.specs.declared.cell.Cell.{Cell}
use Rattle.reception.specs.Streams.{so_far}
use Rattle.inner_receiver.specs.Branches.{HasTaken}
use Rattle.measure_comparison.specs.Seen.{SymbolState}
use Rattle.measurer.specs.Seen.{MeterState}
use Rattle.measurer.specs.Standing.{MetersStand}
use Rattle.measurer.specs.Steps.{AreKept, TakesSymbol, TakesNext}
use Rattle.measurer.proofs.Taking.{took_on, asked_hp, asked_lp, kept_on}
use Rattle.measurer.proofs.meter.FrameMeter.take.Goals as goal

pub take_symbol-requires-clause-hp : goal.take_symbol-requires-clause-hp
take_symbol-requires-clause-hp g c κs within =
    let x = c.self.inside in
    let s : MeterState = record { comparer = x.comparer; hp = x.hp; lp = x.lp; current = x.current } in
    let t : TakesNext s c.args.cells.now = subst (λ (z : MeterState). TakesNext z c.args.cells.now) (sym c.self.view_is) c.requires.takes in
    (asked_hp (record { ready = c.ready.ensures.ready; runs = c.ready.ensures.runs; counts = c.few.ensures.counts; room = c.room.ensures.symbol; none = c.steps.ensures.none; few = c.rooms.ensures.steps; long = c.costs.ensures.long })
    s c.args.cells.now t c.requires.few).run c.pairs.result.now c.pairs.ensures.largest

pub take_symbol-requires-clause-lp : goal.take_symbol-requires-clause-lp
take_symbol-requires-clause-lp g c κs within =
    let x = c.self.inside in
    let s : MeterState = record { comparer = x.comparer; hp = x.hp; lp = x.lp; current = x.current } in
    let t : TakesNext s c.args.cells.now = subst (λ (z : MeterState). TakesNext z c.args.cells.now) (sym c.self.view_is) c.requires.takes in
    (asked_lp (record { ready = c.ready.ensures.ready; runs = c.ready.ensures.runs; counts = c.few.ensures.counts; room = c.room.ensures.symbol; none = c.steps.ensures.none; few = c.rooms.ensures.steps; long = c.costs.ensures.long })
    s c.args.cells.now t c.requires.few).run c.pairs-2.result.now c.pairs-2.ensures.largest

pub deliver-requires-clause-has_run : goal.deliver-requires-clause-has_run
deliver-requires-clause-has_run g c κs within =
    let x = c.self.inside in
    let s : MeterState = record { comparer = x.comparer; hp = x.hp; lp = x.lp; current = x.current } in
    let t : TakesNext s c.args.cells.now = subst (λ (z : MeterState). TakesNext z c.args.cells.now) (sym c.self.view_is) c.requires.takes in
    (asked_hp (record { ready = c.ready.ensures.ready; runs = c.ready.ensures.runs; counts = c.few.ensures.counts; room = c.room.ensures.symbol; none = c.steps.ensures.none; few = c.rooms.ensures.steps; long = c.costs.ensures.long })
    s c.args.cells.now t c.requires.few).has_run c.take_symbol.new.hp c.pairs.result.now c.take_symbol.ensures.hp

pub deliver-requires-clause-known : goal.deliver-requires-clause-known
deliver-requires-clause-known g c κs within =
    let x = c.self.inside in
    let s : MeterState = record { comparer = x.comparer; hp = x.hp; lp = x.lp; current = x.current } in
    let t : TakesNext s c.args.cells.now = subst (λ (z : MeterState). TakesNext z c.args.cells.now) (sym c.self.view_is) c.requires.takes in
    (asked_hp (record { ready = c.ready.ensures.ready; runs = c.ready.ensures.runs; counts = c.few.ensures.counts; room = c.room.ensures.symbol; none = c.steps.ensures.none; few = c.rooms.ensures.steps; long = c.costs.ensures.long })
    s c.args.cells.now t c.requires.few).room c.take_symbol.new.hp c.pairs.result.now c.take_symbol.ensures.hp c.pairs.ensures.largest

pub deliver-requires-clause-words : goal.deliver-requires-clause-words
deliver-requires-clause-words g c κs within =
    let x = c.self.inside in
    let s : MeterState = record { comparer = x.comparer; hp = x.hp; lp = x.lp; current = x.current } in
    let t : TakesNext s c.args.cells.now = subst (λ (z : MeterState). TakesNext z c.args.cells.now) (sym c.self.view_is) c.requires.takes in
    (asked_hp (record { ready = c.ready.ensures.ready; runs = c.ready.ensures.runs; counts = c.few.ensures.counts; room = c.room.ensures.symbol; none = c.steps.ensures.none; few = c.rooms.ensures.steps; long = c.costs.ensures.long })
    s c.args.cells.now t c.requires.few).words

pub deliver-requires-2-clause-has_run : goal.deliver-requires-2-clause-has_run
deliver-requires-2-clause-has_run g c κs within =
    let x = c.self.inside in
    let s : MeterState = record { comparer = x.comparer; hp = x.hp; lp = x.lp; current = x.current } in
    let t : TakesNext s c.args.cells.now = subst (λ (z : MeterState). TakesNext z c.args.cells.now) (sym c.self.view_is) c.requires.takes in
    (asked_lp (record { ready = c.ready.ensures.ready; runs = c.ready.ensures.runs; counts = c.few.ensures.counts; room = c.room.ensures.symbol; none = c.steps.ensures.none; few = c.rooms.ensures.steps; long = c.costs.ensures.long })
    s c.args.cells.now t c.requires.few).has_run c.take_symbol.new.lp c.pairs-2.result.now c.take_symbol.ensures.lp

pub deliver-requires-2-clause-known : goal.deliver-requires-2-clause-known
deliver-requires-2-clause-known g c κs within =
    let x = c.self.inside in
    let s : MeterState = record { comparer = x.comparer; hp = x.hp; lp = x.lp; current = x.current } in
    let t : TakesNext s c.args.cells.now = subst (λ (z : MeterState). TakesNext z c.args.cells.now) (sym c.self.view_is) c.requires.takes in
    (asked_lp (record { ready = c.ready.ensures.ready; runs = c.ready.ensures.runs; counts = c.few.ensures.counts; room = c.room.ensures.symbol; none = c.steps.ensures.none; few = c.rooms.ensures.steps; long = c.costs.ensures.long })
    s c.args.cells.now t c.requires.few).room c.take_symbol.new.lp c.pairs-2.result.now c.take_symbol.ensures.lp c.pairs-2.ensures.largest

pub deliver-requires-2-clause-words : goal.deliver-requires-2-clause-words
deliver-requires-2-clause-words g c κs within =
    let x = c.self.inside in
    let s : MeterState = record { comparer = x.comparer; hp = x.hp; lp = x.lp; current = x.current } in
    let t : TakesNext s c.args.cells.now = subst (λ (z : MeterState). TakesNext z c.args.cells.now) (sym c.self.view_is) c.requires.takes in
    (asked_lp (record { ready = c.ready.ensures.ready; runs = c.ready.ensures.runs; counts = c.few.ensures.counts; room = c.room.ensures.symbol; none = c.steps.ensures.none; few = c.rooms.ensures.steps; long = c.costs.ensures.long })
    s c.args.cells.now t c.requires.few).words

pub returns-clause-kept : goal.returns-clause-kept
returns-clause-kept g c =
    let x = c.self.inside in
    let s : MeterState = record { comparer = x.comparer; hp = x.hp; lp = x.lp; current = x.current } in
    kept_on s c.deliver.new.self c.deliver-2.new.self c.keep.new.self _ c.args.cells.now.taken _ c.requires.takes.takes.taken (subst (λ (z : MeterState). AreKept z (c.args.cells.now.taken - 1)) (sym c.self.view_is) c.requires.kept)
    c.deliver.ensures.reports c.deliver-2.ensures.reports c.keep.ensures.kept

pub returns-clause-taken : goal.returns-clause-taken
returns-clause-taken g c = λ bytes p.
    let x = c.self.inside in
    let s : MeterState = record { comparer = x.comparer; hp = x.hp; lp = x.lp; current = x.current } in
    let cells = c.args.cells.now in
    let new : MeterState = record { comparer = c.keep.new.self; hp = c.deliver.new.self; lp = c.deliver-2.new.self; current = x.current } in
    subst (λ (z : MeterState). TakesSymbol z cells bytes p → MetersStand so_far cells.settings (bytes ++ p) new) c.self.view_is
    (took_on (record { grow = c.steps.ensures.grow; long = c.costs.ensures.long; cells = c.symbols.ensures.cells; weights = c.symbols.ensures.weights; next = c.symbols.ensures.next; more = c.standing.ensures.more })
    s c.deliver.new.self c.deliver-2.new.self c.take_symbol.new.hp c.take_symbol.new.lp c.keep.new.self _ cells (nat_le c.symbols-taken.result (272 * (x.current.number + 1))) bytes p (c.symbols-taken.result - 1)
    (ap (λ (k : ℕ). k - 1) c.symbols-taken.ensures.number) (ap (λ (k : ℕ). nat_le k (272 * (x.current.number + 1))) c.symbols-taken.ensures.number)
    (subst (λ (z : List CostPair). HasTaken z x.hp.branch c.take_symbol.new.hp) c.pairs.ensures.pairs c.take_symbol.ensures.hp)
    (subst (λ (z : List CostPair). HasTaken z x.lp.branch c.take_symbol.new.lp) c.pairs-2.ensures.pairs c.take_symbol.ensures.lp)
    c.deliver.ensures.fed c.deliver-2.ensures.fed c.keep.ensures.kept
    (λ d. c.keep.ensures.here d ∙ ap₂ (λ (a : List Cell) (b : List ℕ). let z : SymbolState = record { cells = a; weights = b } in z) c.cells.ensures.cells c.weights.ensures.weights)
    c.keep.ensures.others c.keep.ensures.stands)
