use Rattle.std.proofs.Common.{◌≡◌, ◌<◌, ◌+◌, ◌-◌}
use Rattle.mode_set.specs.declared.modes.Stream.TheVariants.{Hp, Lp}
use Rattle.transmission.specs.SuperFrames.{packets_for}
use Rattle.trial.specs.Drawn.{trial_symbols}
use Rattle.trial.specs.Putting.{IsPutting, KeepsCounts}
use Rattle.trial.proofs.draws.put_wanted.Given as goal

-- packets of the symbol were put
abbrev pub invariant-loop-stream : goal.invariant-loop-stream
invariant-loop-stream g l = record {
  kept : KeepsCounts l.initial.draws l.draws;
  settings : l.tx.settings ≡ l.initial.tx.settings;
  made : l.tx.made ≡ l.initial.tx.made;
  within : l.tx.made < trial_symbols l.tx.settings l.draws.number;
  putting : IsPutting l.tx.settings l.tx.made l.draws l.tx;
}

-- the packets that the symbol still needs
abbrev pub decreases-loop-stream : goal.decreases-loop-stream
decreases-loop-stream g l = (packets_for l.tx.settings Hp (l.tx.made + 1) - l.tx.hp) + (packets_for l.tx.settings Lp (l.tx.made + 1) - l.tx.lp)
