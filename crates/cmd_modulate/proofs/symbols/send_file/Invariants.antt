use Rattle.std.proofs.Common.{◌≡◌, ◌<◌, ℕ, List, None, true, length}
use Rattle.mode_set.specs.declared.modes.Stream.{Stream}
use Rattle.transmission.specs.SuperFrames.{symbols_of}
use Rattle.modulator.specs.State.{HasPut}
use Rattle.cmd_modulate.specs.ModulateCommand.{inputs_of}
use Rattle.cmd_modulate.specs.Seen.{seen_of}
use Rattle.cmd_modulate.specs.Work.{AreOpen, AreWithin, IsWritten, KeepsOthers}
use Rattle.cmd_modulate.proofs.symbols.send_file.Given as goal

-- one symbol for each pass was sent, and the transmission has more
abbrev pub invariant-loop-symbol : goal.invariant-loop-symbol
invariant-loop-symbol g l = record {
  others : KeepsOthers (g.S.Station.meaning l.initial.station) (g.S.Station.meaning l.station);
  read_faults : (g.S.Station.meaning l.station).read_faults ≡ (g.S.Station.meaning l.initial.station).read_faults;
  write_faults : (g.S.Station.meaning l.station).write_faults ≡ (g.S.Station.meaning l.initial.station).write_faults;
  settings : l.tx.settings ≡ l.initial.tx.settings;
  made : l.tx.made ≡ l.symbol;
  long : length l.bytes ≡ length l.initial.bytes;
  opened : AreOpen l.inputs (g.S.Station.meaning l.station);
  within : AreWithin l.limits.packets l.inputs;
  met : l.inputs.lp.tail ≡ None → l.initial.inputs.lp.tail ≡ None;
  works : (g.S.Station.meaning l.initial.station).tells ≡ true → (files : Stream → List ℕ)
      → IsWritten l.limits.packets files (g.S.Station.meaning l.initial.station) l.initial.inputs (seen_of l.initial.tx) (HasPut l.initial.tx)
      → IsWritten l.limits.packets files (g.S.Station.meaning l.station) l.inputs (seen_of l.tx) (HasPut l.tx)
      × (l.symbol < symbols_of l.initial.tx.settings (inputs_of files));
}
