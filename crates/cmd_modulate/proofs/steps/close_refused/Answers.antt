use Rattle.cmd_modulate.proofs.steps.close_refused.Goals as goal

pub returns : goal.returns
returns g c = record {
  closed = record {
    flushed = g.S.Station.meaning c.settle-settled.new.station;
    flushes = c.settle-settled.ensures.others;
    settles = c.settle-settled.ensures.settles;
    closes = c.close_output.ensures.closed;
  };
}
