use Rattle.std.proofs.Common.{◌≡◌, ◌+◌, ◌++◌, take, map}
use Rattle.std.specs.Prelude.{vec_len, vec_capacity}
use Rattle.inner_decoder.specs.Events.{ats}
use Rattle.reception.specs.Lines.{event_at}
use Rattle.inner_receiver.proofs.branches.push_events.Given as goal

abbrev pub invariant-loop-report : goal.invariant-loop-report
invariant-loop-report l = (l.to.items ≡ l.initial.to.items ++ map (event_at l.stream) (ats (take l.report-index l.reports))) × (vec_len l.to ≡ vec_len l.initial.to + l.report-index) × (vec_capacity l.to ≡ vec_capacity l.initial.to)
