-- The symbols so far were sent and fed.
use Rattle.std.proofs.Common.{◌≡◌}
use Rattle.std.specs.Prelude.{vec_capacity}
use Rattle.trial.specs.State.{IsBefore}
use Rattle.trial.proofs.work.Work.all_symbols.Given as goal

abbrev pub invariant-loop-symbol : goal.invariant-loop-symbol
invariant-loop-symbol g l = record {
  number : l.self.draws.number ≡ l.initial.self.draws.number;
  sent : vec_capacity l.self.sent ≡ vec_capacity l.initial.self.sent;
  fed : vec_capacity l.self.fed ≡ vec_capacity l.initial.self.fed;
  at : IsBefore l.settings l.symbol l.self.draws l.self.tx l.self.rx.receiver l.self.rx.hp l.self.rx.lp l.self.cells;
}
