use Rattle.std.proofs.Common.{◌+◌, ◌-◌, ◌/◌, ◌∙◌, length, arith, length-set}
use Rattle.survivor_ring.proofs.Traces.{root_more, part_more}
use Rattle.survivor_ring.proofs.ring.trace_steps.Goals as goal

pub loop-k-preserved : goal.loop-k-preserved
loop-k-preserved c =
    let i = length c.args.words.now - 1 - c.loop-k.k in
    let v = c.loop-k.invariant in
    record {
      size = length-set c.loop-k.bytes ((c.args.place + i) / 8) _ ∙ v.size;
      now_is = root_more c.args.words.now c.args.state c.loop-k.k c.loop-k.now c.step_back-now.result c.loop-k-test.true v.now_is c.step_back-now.ensures.is;
      now_small = c.step_back-now.ensures.small;
      last_small = omega (arith, v.now_small, v.last_small);
      traced = λ bits e t. part_more bits c.args.words.now c.args.place c.args.state c.loop-k.k c.loop-k.last c.loop-k.now c.loop-k.bytes e c.loop-k-test.true v.now_is v.now_small v.last_small (omega (arith, v.size, c.requires.room, c.loop-k-test.true)) (v.traced bits e t);
    }
