use Rattle.acs_lanes.proofs.Turns.{add_fits, a_few, b_few, c_few, d_few, both_fit, both_marks, turned_step}
use Rattle.acs_lanes.proofs.step16.step.Goals as goal

pub pick-requires-clause-lens : goal.pick-requires-clause-lens
pick-requires-clause-lens c = add_fits c.args.old.a _ c.args.old.lanes.a_len c.step_costs.ensures.zero_len (a_few c.args.old.a c.args.old.b c.args.old.c c.args.old.d c.args.old.lanes c.requires.fit) c.step_costs.ensures.zero_small

pub pick-requires-clause-odd_lens : goal.pick-requires-clause-odd_lens
pick-requires-clause-odd_lens c = add_fits c.args.old.c _ c.args.old.lanes.c_len c.step_costs.ensures.one_len (c_few c.args.old.a c.args.old.b c.args.old.c c.args.old.d c.args.old.lanes c.requires.fit) c.step_costs.ensures.one_small

pub pick-requires-2-clause-lens : goal.pick-requires-2-clause-lens
pick-requires-2-clause-lens c = add_fits c.args.old.a _ c.args.old.lanes.a_len c.step_costs.ensures.one_len (a_few c.args.old.a c.args.old.b c.args.old.c c.args.old.d c.args.old.lanes c.requires.fit) c.step_costs.ensures.one_small

pub pick-requires-2-clause-odd_lens : goal.pick-requires-2-clause-odd_lens
pick-requires-2-clause-odd_lens c = add_fits c.args.old.c _ c.args.old.lanes.c_len c.step_costs.ensures.zero_len (c_few c.args.old.a c.args.old.b c.args.old.c c.args.old.d c.args.old.lanes c.requires.fit) c.step_costs.ensures.zero_small

pub pick-requires-3-clause-lens : goal.pick-requires-3-clause-lens
pick-requires-3-clause-lens c = add_fits c.args.old.b _ c.args.old.lanes.b_len c.step_costs.ensures.one_len (b_few c.args.old.a c.args.old.b c.args.old.c c.args.old.d c.args.old.lanes c.requires.fit) c.step_costs.ensures.one_small

pub pick-requires-3-clause-odd_lens : goal.pick-requires-3-clause-odd_lens
pick-requires-3-clause-odd_lens c = add_fits c.args.old.d _ c.args.old.lanes.d_len c.step_costs.ensures.zero_len (d_few c.args.old.a c.args.old.b c.args.old.c c.args.old.d c.args.old.lanes c.requires.fit) c.step_costs.ensures.zero_small

pub pick-requires-4-clause-lens : goal.pick-requires-4-clause-lens
pick-requires-4-clause-lens c = add_fits c.args.old.b _ c.args.old.lanes.b_len c.step_costs.ensures.zero_len (b_few c.args.old.a c.args.old.b c.args.old.c c.args.old.d c.args.old.lanes c.requires.fit) c.step_costs.ensures.zero_small

pub pick-requires-4-clause-odd_lens : goal.pick-requires-4-clause-odd_lens
pick-requires-4-clause-odd_lens c = add_fits c.args.old.d _ c.args.old.lanes.d_len c.step_costs.ensures.one_len (d_few c.args.old.a c.args.old.b c.args.old.c c.args.old.d c.args.old.lanes c.requires.fit) c.step_costs.ensures.one_small

pub turned-requires-clause-low : goal.turned-requires-clause-low
turned-requires-clause-low c = both_fit _ _ _ _ _ _ _ _ _ _ _ _ c.args.old.lanes.a_len c.args.old.lanes.c_len c.step_costs.ensures.zero_len c.step_costs.ensures.one_len c.pick.ensures c.pick-3.ensures (a_few c.args.old.a c.args.old.b c.args.old.c c.args.old.d c.args.old.lanes c.requires.fit) (b_few c.args.old.a c.args.old.b c.args.old.c c.args.old.d c.args.old.lanes c.requires.fit) c.step_costs.ensures.zero_small c.step_costs.ensures.one_small

pub turned-requires-clause-high : goal.turned-requires-clause-high
turned-requires-clause-high c = both_fit _ _ _ _ _ _ _ _ _ _ _ _ c.args.old.lanes.a_len c.args.old.lanes.c_len c.step_costs.ensures.one_len c.step_costs.ensures.zero_len c.pick-2.ensures c.pick-4.ensures (a_few c.args.old.a c.args.old.b c.args.old.c c.args.old.d c.args.old.lanes c.requires.fit) (b_few c.args.old.a c.args.old.b c.args.old.c c.args.old.d c.args.old.lanes c.requires.fit) c.step_costs.ensures.one_small c.step_costs.ensures.zero_small

pub returns : goal.returns
returns c =
    let o = c.args.old.lanes in
    let s = c.step_costs.ensures in
    record {
      step =
          turned_step c.args.pair c.args.old.a c.args.old.b c.args.old.c c.args.old.d _ _ _ _ _ _ _ _ _ _ _ _ _ o s c.turned.ensures c.pick.ensures c.pick-3.ensures c.pick-2.ensures c.pick-4.ensures c.half_word.ensures.small
          (c.half_word.ensures.bits _ (both_marks _ _ _ _ _ _ _ _ _ _ _ _ o.a_len o.c_len s.zero_len s.one_len c.pick.ensures c.pick-3.ensures))
          (c.half_word-2.ensures.bits _ (both_marks _ _ _ _ _ _ _ _ _ _ _ _ o.a_len o.c_len s.one_len s.zero_len c.pick-2.ensures c.pick-4.ensures));
    }
