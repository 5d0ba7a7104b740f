use Rattle.std.proofs.Common.{◌*◌, ◌^◌, ◌<◌, ◌≤◌, sym, subst}
use Rattle.reception.specs.Cells.{symbols}
use Rattle.measurer.specs.Seen.{MeterState}
use Rattle.measurer.specs.Standing.{MetersStand}
use Rattle.measurer.specs.Steps.{HasBegun, IsDue}
use Rattle.measurer.proofs.Comparing.{compared_on, before_few, begun_next}
use Rattle.measurer.proofs.meter.FrameMeter.compare.Goals as goal

pub compare-sums-requires-clause-hp_before : goal.compare-sums-requires-clause-hp_before
compare-sums-requires-clause-hp_before g c =
    let x = c.self.inside in
    let s : MeterState = record { comparer = x.comparer; hp = x.hp; lp = x.lp; current = x.current } in
    (before_few c.steps.ensures.none c.rooms.ensures.steps s (subst (λ (z : MeterState). HasBegun z) (sym c.self.view_is) c.requires.begun) (subst (λ (z : MeterState). z.comparer.next < 2 ^ 32) (sym c.self.view_is) c.requires.few)).0

pub compare-sums-requires-clause-lp_before : goal.compare-sums-requires-clause-lp_before
compare-sums-requires-clause-lp_before g c =
    let x = c.self.inside in
    let s : MeterState = record { comparer = x.comparer; hp = x.hp; lp = x.lp; current = x.current } in
    (before_few c.steps.ensures.none c.rooms.ensures.steps s (subst (λ (z : MeterState). HasBegun z) (sym c.self.view_is) c.requires.begun) (subst (λ (z : MeterState). z.comparer.next < 2 ^ 32) (sym c.self.view_is) c.requires.few)).1

pub returns-clause-begun : goal.returns-clause-begun
returns-clause-begun g c =
    let x = c.self.inside in
    let s : MeterState = record { comparer = x.comparer; hp = x.hp; lp = x.lp; current = x.current } in
    let e = c.compare-sums.ensures in
    begun_next s c.compare-sums.new.self c.compare-sums.new.hp c.compare-sums.new.lp c.add.new.self c.compare-sums.result (record { settings = e.settings; next = e.next; kept = e.kept; summed = e.summed; stands = e.stands })
    (subst (λ (z : MeterState). HasBegun z) (sym c.self.view_is) c.requires.begun)

pub returns-clause-compared : goal.returns-clause-compared
returns-clause-compared g c = λ moment t bytes.
    let x = c.self.inside in
    let s : MeterState = record { comparer = x.comparer; hp = x.hp; lp = x.lp; current = x.current } in
    let e = c.compare-sums.ensures in
    let new : MeterState = record { comparer = c.compare-sums.new.self; hp = record x.hp { known = c.compare-sums.new.hp }; lp = record x.lp { known = c.compare-sums.new.lp }; current = c.add.new.self } in
    subst (λ (z : MeterState). MetersStand moment t bytes z → IsDue moment (symbols t bytes) z.comparer.next → 272 * z.current.number ≤ z.comparer.next → MetersStand moment t bytes new) c.self.view_is
    (compared_on (record { same = c.costs.ensures.same; given_once = c.given_once.ensures.law; ended_once = c.ended_once.ensures.law }) s c.compare-sums.new.self c.compare-sums.new.hp c.compare-sums.new.lp c.add.new.self c.compare-sums.result
    (record { settings = e.settings; next = e.next; kept = e.kept; summed = e.summed; stands = e.stands }) c.add.ensures.added moment t bytes)
