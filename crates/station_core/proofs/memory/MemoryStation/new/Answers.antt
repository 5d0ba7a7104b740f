-- At a new station no name was requested at any port.
use Rattle.std.proofs.Common.{ap, refl}
use Rattle.station_core.specs.Memory.{memory_meaning}
use Rattle.station_core.specs.Meaning.{Source, Sink}
use Rattle.station_core.proofs.memory.MemoryStation.new.Goals as goal

pub returns-clause-fresh : goal.returns-clause-fresh
unfolding memory_meaning
returns-clause-fresh c = record {
  settings = record { asked = ap (λ (x : Source). x.asked) (c.new-2.ensures c.args.files.items); attached = ap (λ (x : Source). x.attached) (c.new-2.ensures c.args.files.items) };
  hp = record { asked = ap (λ (x : Source). x.asked) (c.new-3.ensures c.args.files.items); attached = ap (λ (x : Source). x.attached) (c.new-3.ensures c.args.files.items) };
  lp = record { asked = ap (λ (x : Source). x.asked) (c.new-4.ensures c.args.files.items); attached = ap (λ (x : Source). x.attached) (c.new-4.ensures c.args.files.items) };
  cells = record { asked = ap (λ (x : Source). x.asked) (c.new-5.ensures c.args.files.items); attached = ap (λ (x : Source). x.attached) (c.new-5.ensures c.args.files.items) };
  cells_out = record { asked = ap (λ (x : Sink). x.asked) c.in_ok-new.ensures.new; created = ap (λ (x : Sink). x.created) c.in_ok-new.ensures.new; closed = ap (λ (x : Sink). x.closed) c.in_ok-new.ensures.new };
  hp_out = record { asked = ap (λ (x : Sink). x.asked) c.in_ok-new-2.ensures.new; created = ap (λ (x : Sink). x.created) c.in_ok-new-2.ensures.new; closed = ap (λ (x : Sink). x.closed) c.in_ok-new-2.ensures.new };
  lp_out = record { asked = ap (λ (x : Sink). x.asked) c.in_ok-new-3.ensures.new; created = ap (λ (x : Sink). x.created) c.in_ok-new-3.ensures.new; closed = ap (λ (x : Sink). x.closed) c.in_ok-new-3.ensures.new };
  bytes_out = record { asked = ap (λ (x : Sink). x.asked) c.in_ok-new-4.ensures.new; created = ap (λ (x : Sink). x.created) c.in_ok-new-4.ensures.new; closed = ap (λ (x : Sink). x.closed) c.in_ok-new-4.ensures.new };
  report_asked = ap (λ (x : Sink). x.asked) c.in_ok-report.ensures.new;
  report = refl;
  report_open = ap (λ (x : Sink). x.closed) c.in_ok-report.ensures.new;
  report_empty = λ _. ap (λ (x : Sink). x.written) c.in_ok-report.ensures.new;
  settled = refl;
}
