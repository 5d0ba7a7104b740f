use Rattle.std.proofs.Common.{◌∙◌, ◌+◌, ◌<◌, arith, length-set}
use Rattle.acs_lanes.proofs.PhaseTables.{close_in}
use Rattle.acs_lanes.proofs.PhaseTurns.{first_step, grown_in, grown_low, no_higher, second_step}
use Rattle.acs_lanes.proofs.Rows16.{above_written, below_written, next_read, two_steps}
use Rattle.acs_plain.proofs.Spread.{spread_step}
use Rattle.acs_lanes.proofs.six.two_in.Goals as goal

pub lowered_if-requires-clause-close : goal.lowered_if-requires-clause-close
lowered_if-requires-clause-close c = let f = c.args.from in close_in c.args.phase (omega (arith, c.requires.phase)) f.a f.b f.c f.d c.requires.spread

pub step_in-first_word-requires-clause-sums : goal.step_in-first_word-requires-clause-sums
step_in-first_word-requires-clause-sums c = let x = c.requires.first in (x.0, c.sums_in.ensures x.0 x.1)

pub step_in-last_word-requires-clause-fit : goal.step_in-last_word-requires-clause-fit
step_in-last_word-requires-clause-fit c =
    let x = c.requires.first in
    let r = c.lowered_if.result in
    let m = c.step_in-first_word.result.0 in
    grown_in c.args.phase (omega (arith, c.requires.phase)) r.a r.b r.c r.d m.a m.b m.c m.d _ _ 49155 (c.step_in-first_word.ensures.step x.0 (c.sums_in.ensures x.0 x.1)) c.lowered_if.ensures.room

pub step_in-last_word-requires-clause-sums : goal.step_in-last_word-requires-clause-sums
step_in-last_word-requires-clause-sums c = let y = c.requires.last in (y.0, c.sums_in-2.ensures y.0 (next_read c.args.words.now c.args.at c.step_in-first_word.result.1 ∙ y.1))

pub returns-clause-steps : goal.returns-clause-steps
returns-clause-steps c = λ x y ex ey.
    let in6 : c.args.phase < 6 = omega (arith, c.requires.phase) in
    let f = c.args.from in
    let r = c.lowered_if.result in
    let m = c.step_in-first_word.result.0 in
    let t = c.step_in-last_word.result.0 in
    let first = c.step_in-first_word.ensures.step x (c.sums_in.ensures x ex) in
    let s1 = first_step c.args.phase in6 f.a f.b f.c f.d r.a r.b r.c r.d m.a m.b m.c m.d _ _ c.lowered_if.ensures.lowered first in
    let fit = grown_in c.args.phase in6 r.a r.b r.c r.d m.a m.b m.c m.d _ _ 49155 first c.lowered_if.ensures.room in
    let s2 = second_step c.args.phase c.requires.phase m.a m.b m.c m.d t.a t.b t.c t.d _ _ fit (c.step_in-last_word.ensures.step y (c.sums_in-2.ensures y (next_read c.args.words.now c.args.at c.step_in-first_word.result.1 ∙ ey))) in
    two_steps c.args.words.now c.args.at _ _ c.requires.more _ _ _ x y c.args.phase (c.args.phase + 1) s1 s2

pub returns-clause-spread : goal.returns-clause-spread
returns-clause-spread c =
    let in6 : c.args.phase < 6 = omega (arith, c.requires.phase) in
    let x = c.requires.first in
    let y = c.requires.last in
    let f = c.args.from in
    let r = c.lowered_if.result in
    let m = c.step_in-first_word.result.0 in
    let t = c.step_in-last_word.result.0 in
    let first = c.step_in-first_word.ensures.step x.0 (c.sums_in.ensures x.0 x.1) in
    let s1 = first_step c.args.phase in6 f.a f.b f.c f.d r.a r.b r.c r.d m.a m.b m.c m.d _ _ c.lowered_if.ensures.lowered first in
    let fit = grown_in c.args.phase in6 r.a r.b r.c r.d m.a m.b m.c m.d _ _ 49155 first c.lowered_if.ensures.room in
    let s2 = second_step c.args.phase c.requires.phase m.a m.b m.c m.d t.a t.b t.c t.d _ _ fit (c.step_in-last_word.ensures.step y.0 (c.sums_in-2.ensures y.0 (next_read c.args.words.now c.args.at c.step_in-first_word.result.1 ∙ y.1))) in
    spread_step _ _ _ _ (spread_step _ _ _ _ c.requires.spread s1) s2

pub returns-clause-grown : goal.returns-clause-grown
returns-clause-grown c = λ x y most ex ey lx ly few n l.
    let p = c.args.phase in
    let in6 : p < 6 = omega (arith, c.requires.phase) in
    let in5 : p + 1 < 6 = omega (arith, c.requires.phase) in
    let r = c.lowered_if.result in
    let m = c.step_in-first_word.result.0 in
    let t = c.step_in-last_word.result.0 in
    let first = c.step_in-first_word.ensures.step x (c.sums_in.ensures x ex) in
    let last = c.step_in-last_word.ensures.step y (c.sums_in-2.ensures y (next_read c.args.words.now c.args.at c.step_in-first_word.result.1 ∙ ey)) in
    let low = no_higher _ _ most c.lowered_if.ensures.lowered few in
    let middle = grown_low p in6 r.a r.b r.c r.d m.a m.b m.c m.d x _ most first low lx in
    omega (arith, grown_low (p + 1) in5 m.a m.b m.c m.d t.a t.b t.c t.d y _ (most + 4095) last middle ly n l)

pub returns-clause-below : goal.returns-clause-below
returns-clause-below c = below_written c.args.words.now c.args.at _ _ c.requires.more

pub returns-clause-above : goal.returns-clause-above
returns-clause-above c = above_written c.args.words.now c.args.at _ _ c.requires.more

pub returns-clause-room : goal.returns-clause-room
returns-clause-room c = length-set _ _ _ ∙ length-set _ _ _
