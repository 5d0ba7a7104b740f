use Rattle.std.proofs.Common.{◌≡◌, ◌≤◌, ◌-◌, ◌*◌, true, ℕ, List, [], length}
use Rattle.station_core.specs.Meaning.{Meaning}
use Rattle.cmd_cells.specs.Work.{AreOpen, Written}
use Rattle.cmd_cells.specs.Cells.{IsWorking, KeepsOthers}
use Rattle.cmd_cells.proofs.cells.work_on_cells.Given as goal

-- one symbol for each pass of the loop was taken, after the start of the work
abbrev pub invariant-symbols : goal.invariant-symbols
invariant-symbols g l = record {
  within : l.number ≤ l.max_symbols;
  attached : (g.S.Station.meaning l.station).cells.attached ≡ true;
  opened : AreOpen (g.X.SymbolWork.outputs (g.X.SymbolWork.setup l.initial.work)) (g.S.Station.meaning l.station);
  setup : g.X.SymbolWork.setup l.work ≡ g.X.SymbolWork.setup l.initial.work;
  size : length l.symbol ≡ (g.X.SymbolWork.work (g.X.SymbolWork.setup l.initial.work)).size;
  others : KeepsOthers (g.S.Station.meaning l.initial.station) (g.S.Station.meaning l.station);
  read_faults : (g.S.Station.meaning l.station).read_faults ≡ (g.S.Station.meaning l.initial.station).read_faults;
  write_faults : (g.S.Station.meaning l.station).write_faults ≡ (g.S.Station.meaning l.initial.station).write_faults;
  later_report : (g.S.Station.meaning l.initial.station).report_faults ≤ (g.S.Station.meaning l.station).report_faults;
  working : (file : List ℕ) (start : Meaning) (first : Written)
      → IsWorking (g.X.SymbolWork.work (g.X.SymbolWork.setup l.initial.work)) (g.X.SymbolWork.stands l.initial.work) file start (g.S.Station.meaning l.initial.station) [] first
      → (bytes : List ℕ) × (given : Written) × IsWorking (g.X.SymbolWork.work (g.X.SymbolWork.setup l.initial.work)) (g.X.SymbolWork.stands l.work) file start (g.S.Station.meaning l.station) bytes given
      × (length bytes ≡ l.number * (g.X.SymbolWork.work (g.X.SymbolWork.setup l.initial.work)).size);
}

-- the symbols up to the limit
abbrev pub decreases-symbols : goal.decreases-symbols
decreases-symbols g l = l.max_symbols - l.number
