use Rattle.std.proofs.Common.{◌≡◌, ◌+◌, ◌*◌, arith}
use Rattle.reception.specs.Cells.{symbols}
use Rattle.reception.specs.Streams.{so_far}
use Rattle.measurer.specs.Steps.{IsDone}
use Rattle.measurer.proofs.Giving.{counts_now, done_now, kept_given, given_live, none_live}
use Rattle.measurer.proofs.measurer.give_lines.Goals as goal

pub close_super_frame-requires-clause-counts : goal.close_super_frame-requires-clause-counts
close_super_frame-requires-clause-counts g c =
    let k = c.requires.compared in
    counts_now c.args.cells.now.settings k.bytes c.args.frames.now c.args.meter.now.current k.compared.frames_stand (omega (arith, k.compared.number))

pub returns-then-symbols-number-clause-kept : goal.returns-then-symbols-number-clause-kept
returns-then-symbols-number-clause-kept g c =
    let k = c.requires.compared in
    let e = c.close_super_frame.ensures in
    kept_given c.args.meter.now c.close_super_frame.new.meter c.args.frames.now c.args.cells.now.taken c.requires.kept (record { comparer = e.comparer; hp_known = e.hp_known; lp_known = e.lp_known; current = e.current })
    (omega (arith, k.compared.next, k.count, c.if-symbols-number.true, c.symbols.ensures.number, c.number.ensures.number)) e.hp_reports e.lp_reports

pub returns-then-symbols-number-clause-live : goal.returns-then-symbols-number-clause-live
returns-then-symbols-number-clause-live g c = λ bytes given count h.
    let s = c.args.cells.now.settings in
    let e = c.close_super_frame.ensures in
    let there : symbols s bytes ≡ 272 * (c.args.meter.now.current.number + 1) + 3 = omega (arith, count, c.if-symbols-number.true, c.symbols.ensures.number, c.number.ensures.number) in
    let done : IsDone so_far (symbols s bytes) c.args.meter.now.comparer.next c.args.meter.now.current.number = done_now s bytes c.args.frames.now c.args.meter.now given h there in
    given_live s bytes c.args.frames.now c.args.meter.now c.close_super_frame.new.meter given c.args.out.now c.close_super_frame.new.out h there c.requires.none (record { comparer = e.comparer; hp_known = e.hp_known; lp_known = e.lp_known; current = e.current })
    (e.stand so_far bytes h.stand done) (e.lines so_far bytes given h.stand h.frames_stand done h.lines_are)

pub returns-else-symbols-number-clause-live : goal.returns-else-symbols-number-clause-live
returns-else-symbols-number-clause-live g c = λ bytes given count h.
    none_live c.args.cells.now.settings bytes c.args.frames.now c.args.meter.now given c.args.out.now h (λ e. omega (arith, e, count, c.if-symbols-number.false, c.symbols.ensures.number, c.number.ensures.number)) c.requires.none
