use Rattle.std.proofs.Common.{◌≡◌, ◌+◌}
use Rattle.std.specs.Prelude.{vec_len, vec_capacity}
use Rattle.inner_chain.specs.Fours.{AppendsCarried}
use Rattle.inner_chain.proofs.fours.push_carried.Given as goal

abbrev pub invariant-loop-q : goal.invariant-loop-q
invariant-loop-q g l = record {
  labels : AppendsCarried l.words g.M.Carriers.MODE l.odd l.q l.initial.labels.items l.labels.items;
  len : vec_len l.labels ≡ vec_len l.initial.labels + l.q;
  capacity : vec_capacity l.labels ≡ vec_capacity l.initial.labels;
}
