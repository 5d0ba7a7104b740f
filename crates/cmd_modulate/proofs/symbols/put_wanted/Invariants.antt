use Rattle.std.proofs.Common.{◌≡◌, ◌+◌, ◌-◌, ℕ, List, None, true}
use Rattle.mode_set.specs.declared.modes.Stream.{Stream}
use Rattle.mode_set.specs.declared.modes.Stream.TheVariants.{Hp, Lp}
use Rattle.transmission.specs.SuperFrames.{packets_for}
use Rattle.modulator.specs.State.{HasPut}
use Rattle.cmd_modulate.specs.Seen.{seen_of}
use Rattle.cmd_modulate.specs.Work.{AreOpen, AreWithin, IsAtWork, IsDue, KeepsOutputs}
use Rattle.cmd_modulate.proofs.symbols.put_wanted.Given as goal

-- packets were put, none of which was refused
abbrev pub invariant-loop-stream : goal.invariant-loop-stream
invariant-loop-stream g l = record {
  opened : AreOpen l.inputs (g.S.Station.meaning l.station);
  within : AreWithin l.limit l.inputs;
  met : l.inputs.lp.tail ≡ None → l.initial.inputs.lp.tail ≡ None;
  others : KeepsOutputs (g.S.Station.meaning l.initial.station) (g.S.Station.meaning l.station);
  read_faults : (g.S.Station.meaning l.station).read_faults ≡ (g.S.Station.meaning l.initial.station).read_faults;
  settings : l.tx.settings ≡ l.initial.tx.settings;
  made : l.tx.made ≡ l.initial.tx.made;
  works : (g.S.Station.meaning l.initial.station).tells ≡ true → (files : Stream → List ℕ) → IsDue files (seen_of l.initial.tx)
      → IsAtWork l.limit files (g.S.Station.meaning l.initial.station) l.initial.inputs (seen_of l.initial.tx) (HasPut l.initial.tx)
      → IsAtWork l.limit files (g.S.Station.meaning l.station) l.inputs (seen_of l.tx) (HasPut l.tx);
}

-- the packets that the symbol still needs
abbrev pub decreases-loop-stream : goal.decreases-loop-stream
decreases-loop-stream g l =
    let t = seen_of l.tx in
    (packets_for t.settings Hp (t.made + 1) - t.hp) + (packets_for t.settings Lp (t.made + 1) - t.lp)
