use Rattle.std.proofs.Common.{◌/◌, ◌≡◌, length, refl, ap, ◌∙◌, subst, arith, length-append}
use Rattle.rescue.specs.Moves.{Passes}
use Rattle.rescue.proofs.Moving.{passes_none, passes_more}
use Rattle.rescue.proofs.queues.pass_bytes.Goals as goal

pub loop-k-init : goal.loop-k-init
loop-k-init c = record { wait = omega arith; same = refl; passes = passes_none _ _ }

pub pass_byte-requires-clause-wait : goal.pass_byte-requires-clause-wait
pass_byte-requires-clause-wait c = omega (arith, c.loop-k.invariant.wait, c.waiting-k-end.ensures.number, c.loop-k-test.true)

pub pass_byte-requires-clause-room : goal.pass_byte-requires-clause-room
pass_byte-requires-clause-room c =
    omega (arith, c.loop-k.invariant.same, c.loop-k.invariant.wait, c.waiting-k-end.ensures.number, c.loop-k-test.true, c.requires.room, c.loop-k.to.ok, c.args.to.now.ok, c.loop-k.invariant.passes.long, ap length c.loop-k.invariant.passes.appended, length-append c.args.to.now.items c.loop-k.invariant.passes.more)

pub loop-k-preserved : goal.loop-k-preserved
loop-k-preserved c = record {
  wait = omega (arith, c.loop-k.invariant.wait, c.pass_byte.ensures.wait);
  same = c.pass_byte.ensures.capacity ∙ c.loop-k.invariant.same;
  passes = passes_more c.loop-k._k _ _ _ _ _ _ c.loop-k.invariant.passes c.pass_byte.ensures.passed;
}

pub returns-clause-wait : goal.returns-clause-wait
returns-clause-wait c = omega (arith, c.loop-k.invariant.wait, c.waiting-k-end.ensures.number, c.loop-k-test.false)

pub returns-clause-passed : goal.returns-clause-passed
returns-clause-passed c =
    let e : c.loop-k._k ≡ length c.args.branch.now.wait / 8 = omega (arith, c.loop-k.invariant.wait, c.waiting-k-end.ensures.number, c.loop-k-test.false) in
    subst (λ k. Passes k c.args.branch.now c.loop-k.branch c.args.to.now.items c.loop-k.to.items) e c.loop-k.invariant.passes
