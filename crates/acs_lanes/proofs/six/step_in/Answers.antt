use Rattle.std.proofs.Common.{◌+◌, ◌++◌, arith}
use Rattle.std.specs.Prelude.{slice_index}
use Rattle.std.specs.Bool.{nat_lt}
use Rattle.acs_lanes.proofs.Turns.{add_fits, a_few, b_few, c_few, d_few, both_marks}
use Rattle.acs_lanes.proofs.PhaseTurns.{word_step_in}
use Rattle.acs_lanes.proofs.six.step_in.Goals as goal

pub pick-requires-clause-lens : goal.pick-requires-clause-lens
pick-requires-clause-lens c =
    let o = c.args.old in
    let s = c.costs_in.ensures c.requires.sums.0 c.requires.sums.1 in
    add_fits o.a _ o.lanes.a_len s.zero_first_len (a_few o.a o.b o.c o.d o.lanes c.requires.fit) s.zero_first_small

pub pick-requires-clause-odd_lens : goal.pick-requires-clause-odd_lens
pick-requires-clause-odd_lens c =
    let o = c.args.old in
    let s = c.costs_in.ensures c.requires.sums.0 c.requires.sums.1 in
    add_fits o.c _ o.lanes.c_len s.one_first_len (c_few o.a o.b o.c o.d o.lanes c.requires.fit) s.one_first_small

pub pick-requires-3-clause-lens : goal.pick-requires-3-clause-lens
pick-requires-3-clause-lens c =
    let o = c.args.old in
    let s = c.costs_in.ensures c.requires.sums.0 c.requires.sums.1 in
    add_fits o.a _ o.lanes.a_len s.one_first_len (a_few o.a o.b o.c o.d o.lanes c.requires.fit) s.one_first_small

pub pick-requires-3-clause-odd_lens : goal.pick-requires-3-clause-odd_lens
pick-requires-3-clause-odd_lens c =
    let o = c.args.old in
    let s = c.costs_in.ensures c.requires.sums.0 c.requires.sums.1 in
    add_fits o.c _ o.lanes.c_len s.zero_first_len (c_few o.a o.b o.c o.d o.lanes c.requires.fit) s.zero_first_small

pub pick-requires-2-clause-lens : goal.pick-requires-2-clause-lens
pick-requires-2-clause-lens c =
    let o = c.args.old in
    let s = c.costs_in.ensures c.requires.sums.0 c.requires.sums.1 in
    add_fits o.b _ o.lanes.b_len s.zero_last_len (b_few o.a o.b o.c o.d o.lanes c.requires.fit) s.zero_last_small

pub pick-requires-2-clause-odd_lens : goal.pick-requires-2-clause-odd_lens
pick-requires-2-clause-odd_lens c =
    let o = c.args.old in
    let s = c.costs_in.ensures c.requires.sums.0 c.requires.sums.1 in
    add_fits o.d _ o.lanes.d_len s.one_last_len (d_few o.a o.b o.c o.d o.lanes c.requires.fit) s.one_last_small

pub pick-requires-4-clause-lens : goal.pick-requires-4-clause-lens
pick-requires-4-clause-lens c =
    let o = c.args.old in
    let s = c.costs_in.ensures c.requires.sums.0 c.requires.sums.1 in
    add_fits o.b _ o.lanes.b_len s.one_last_len (b_few o.a o.b o.c o.d o.lanes c.requires.fit) s.one_last_small

pub pick-requires-4-clause-odd_lens : goal.pick-requires-4-clause-odd_lens
pick-requires-4-clause-odd_lens c =
    let o = c.args.old in
    let s = c.costs_in.ensures c.requires.sums.0 c.requires.sums.1 in
    add_fits o.d _ o.lanes.d_len s.zero_last_len (d_few o.a o.b o.c o.d o.lanes c.requires.fit) s.zero_last_small

pub returns : goal.returns
returns c =
    let o = c.args.old.lanes in
    record {
      step = λ pair is.
          let s = c.costs_in.ensures pair is in
          word_step_in c.args.phase c.requires.phase pair c.args.old.a c.args.old.b c.args.old.c c.args.old.d _ _ _ _ _ _ _ _ _ _ _ _ _ _ o s c.turned_in.ensures c.pick.ensures c.pick-2.ensures c.pick-3.ensures c.pick-4.ensures
          (c.word_in.ensures.low (λ w. nat_lt (slice_index (c.args.old.c ++ c.args.old.d) w + slice_index (c.costs_in.result.1 ++ c.costs_in.result.3) w) (slice_index (c.args.old.a ++ c.args.old.b) w + slice_index (c.costs_in.result.0 ++ c.costs_in.result.2) w)) (c.half_marks-low_even.ensures.bits _ (both_marks _ _ _ _ _ _ _ _ _ _ _ _ o.a_len o.c_len s.zero_first_len s.one_first_len c.pick.ensures c.pick-2.ensures)))
          (c.word_in.ensures.high (λ w. nat_lt (slice_index (c.args.old.c ++ c.args.old.d) w + slice_index (c.costs_in.result.0 ++ c.costs_in.result.2) w) (slice_index (c.args.old.a ++ c.args.old.b) w + slice_index (c.costs_in.result.1 ++ c.costs_in.result.3) w)) (c.half_marks-high_even.ensures.bits _ (both_marks _ _ _ _ _ _ _ _ _ _ _ _ o.a_len o.c_len s.one_first_len s.zero_first_len c.pick-3.ensures c.pick-4.ensures)));
      low = λ t k l. omega (arith, c.turned_in.ensures.low k (omega (arith, l)), c.may_be_high.ensures t k l);
    }
