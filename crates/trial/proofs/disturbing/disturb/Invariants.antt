-- The cells of the carriers so far were disturbed.
use Rattle.std.proofs.Common.{◌≡◌, ◌*◌}
use Rattle.std.specs.Prelude.{vec_len, vec_capacity, ◌%◌}
use Rattle.load_gen.specs.Draws.{after}
use Rattle.trial.specs.Drawn.{before, shifts_from}
use Rattle.trial.specs.Disturbing.{fed_carriers, payload_below}
use Rattle.trial.proofs.disturbing.disturb.Given as goal

abbrev pub invariant-loop-k : goal.invariant-loop-k
invariant-loop-k g l = record {
  draws : l.draws ≡ record l.initial.draws { load = after (2 * payload_below g.M.Carriers.MODE (l.symbol % 68) l.k) (shifts_from l.settings l.initial.draws.number l.symbol (before l.settings l.initial.draws.number l.symbol)) };
  bytes : l.fed.items ≡ fed_carriers l.settings l.initial.draws.number l.symbol l.k;
  long : vec_len l.fed ≡ 5 * l.k;
  room : vec_capacity l.fed ≡ vec_capacity l.initial.fed;
}
