use Rattle.std.proofs.Common.{◌+◌, arith}
use Rattle.receiver.proofs.Pending.{few_more}
use Rattle.receiver.proofs.Stepping.{finish_gave}
use Rattle.receiver.proofs.stream.StreamRx.finish.Goals as goal

pub returns-clause-counts : goal.returns-clause-counts
returns-clause-counts g c = λ n h. few_more _ (n + 24) (n + 40) (omega arith) (c.give.ensures.few n h)

pub returns-clause-ended_stream : goal.returns-clause-ended_stream
returns-clause-ended_stream g c = λ a s d t r h.
    finish_gave c.args.self.now.branch c.end.new.branch c.give.new.self.branch c.args.self.now.outer c.give.new.self.outer c.args.self.now.counts c.give.new.self.counts _ _
    c.end.ensures.ended c.give.ensures.rest c.give.ensures.wait c.give.ensures.gives a s d t r h
