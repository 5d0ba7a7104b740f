use Rattle.std.proofs.Common.{◌≡◌, ◌+◌, ◌*◌, ◌<◌, min, arith}
use Rattle.reception.specs.Streams.{at_end}
use Rattle.measurer.proofs.Ending.{ComparesTo, closed_end, counts_to}
use Rattle.measurer.proofs.measurer.end_super_frame.Goals as goal

pub close_super_frame-requires-clause-counts : goal.close_super_frame-requires-clause-counts
close_super_frame-requires-clause-counts g c =
    let x = c.args.meter.now in
    let begun : 272 * x.current.number < c.args.cells.now.taken = omega (arith, c.if-number-taken.true, c.symbols-taken.ensures.number, c.number-number.ensures.number) in
    let e = c.compare_up_to.ensures in
    let to : ComparesTo x c.compare_up_to.new.self c.min.result = record { next = e.next; current = e.current; compared = e.compared } in
    counts_to c.args.cells.now.settings c.args.cells.now.taken c.min.result c.args.frames.now x c.compare_up_to.new.self c.requires.ending begun to

pub returns-then-number-taken-clause-ended : goal.returns-then-number-taken-clause-ended
returns-then-number-taken-clause-ended g c = λ bytes given count h.
    let x = c.args.meter.now in
    let s = c.args.cells.now.settings in
    let begun : 272 * x.current.number < c.args.cells.now.taken = omega (arith, c.if-number-taken.true, c.symbols-taken.ensures.number, c.number-number.ensures.number) in
    let least : c.min.result ≡ min c.args.cells.now.taken (272 * (x.current.number + 1)) = omega (arith, c.min.ensures, c.symbols-taken.ensures.number, c.number-number.ensures.number) in
    let e = c.compare_up_to.ensures in
    let k = c.close_super_frame.ensures in
    let to : ComparesTo x c.compare_up_to.new.self c.min.result = record { next = e.next; current = e.current; compared = e.compared } in
    closed_end s bytes c.args.cells.now.taken c.min.result c.args.frames.now x c.compare_up_to.new.self c.close_super_frame.new.meter given c.args.out.now c.close_super_frame.new.out count begun least to
    (record { comparer = k.comparer; hp_known = k.hp_known; lp_known = k.lp_known; current = k.current }) (k.stand at_end bytes) (λ a b d m. k.lines at_end bytes given a b d m) h
