-- If a write fails, a prefix of the bytes is written: the one given by the port's own write.
use Rattle.std.proofs.Common.{ap, true}
use Rattle.station_core.specs.Memory.{memory_meaning}
use Rattle.station_core.specs.Meaning.{Sink}
use Rattle.station_core.proofs.Fronts.{some_front}
use Rattle.station_core.proofs.memory.MemoryStationStation.write.Goals as goal

pub returns-in-Cells-clause-err : goal.returns-in-Cells-clause-err
unfolding memory_meaning
returns-in-Cells-clause-err c = some_front _ (λ n front. rw c.in-Cells.is (ap (λ (x : Sink). record (memory_meaning c.args.self.now) { cells_out = x; write_faults = c.write.new.faults; pending = true }) front)) c.write.ensures.err

pub returns-in-Hp-clause-err : goal.returns-in-Hp-clause-err
unfolding memory_meaning
returns-in-Hp-clause-err c = some_front _ (λ n front. rw c.in-Hp.is (ap (λ (x : Sink). record (memory_meaning c.args.self.now) { hp_out = x; write_faults = c.write-in-Hp.new.faults; pending = true }) front)) c.write-in-Hp.ensures.err

pub returns-in-Lp-clause-err : goal.returns-in-Lp-clause-err
unfolding memory_meaning
returns-in-Lp-clause-err c = some_front _ (λ n front. rw c.in-Lp.is (ap (λ (x : Sink). record (memory_meaning c.args.self.now) { lp_out = x; write_faults = c.write-in-Lp.new.faults; pending = true }) front)) c.write-in-Lp.ensures.err

pub returns-in-Bytes-clause-err : goal.returns-in-Bytes-clause-err
unfolding memory_meaning
returns-in-Bytes-clause-err c = some_front _ (λ n front. rw c.in-Bytes.is (ap (λ (x : Sink). record (memory_meaning c.args.self.now) { bytes_out = x; write_faults = c.write-in-Bytes.new.faults; pending = true }) front)) c.write-in-Bytes.ensures.err

pub returns-in-Report-clause-err : goal.returns-in-Report-clause-err
unfolding memory_meaning
returns-in-Report-clause-err c = some_front _ (λ n front. rw c.in-Report.is (ap (λ (x : Sink). record (memory_meaning c.args.self.now) { report = x; write_faults = c.write-in-Report.new.faults; report_faults = c.write-in-Report.new.self.faults }) front)) c.write-in-Report.ensures.err
