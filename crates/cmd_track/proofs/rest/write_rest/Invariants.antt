use Rattle.std.proofs.Common.{◌≡◌, ◌≤◌, ◌*◌, ◌-◌, List, [], true, false, vec_capacity}
use Rattle.tracking.specs.Tracking.{Symbol}
use Rattle.tracker.specs.Tracks.{Tracks}
use Rattle.cmd_track.specs.Working.{CellsOnly}
use Rattle.cmd_track.proofs.Left.{AreWritten}
use Rattle.cmd_track.proofs.rest.write_rest.Given as goal

-- the symbols up to the next one were written
abbrev pub invariant-loop-room : goal.invariant-loop-room
invariant-loop-room g l = record {
  ended : l.tracker.ended ≡ true;
  settings : l.tracker.settings ≡ l.initial.tracker.settings;
  count : l.tracker.window.count ≡ l.initial.tracker.window.count;
  room : 5 * g.M.Carriers.K ≤ vec_capacity l.room;
  empty : l.room.items ≡ [];
  created : (g.S.Station.meaning l.station).cells_out.created ≡ true;
  opened : (g.S.Station.meaning l.station).cells_out.closed ≡ false;
  others : CellsOnly (g.S.Station.meaning l.initial.station) (g.S.Station.meaning l.station);
  write_faults : (g.S.Station.meaning l.station).write_faults ≡ (g.S.Station.meaning l.initial.station).write_faults;
  written : (g.S.Station.meaning l.initial.station).tells ≡ true → (all : List Symbol) → Tracks l.initial.tracker all
      → Tracks l.tracker all × AreWritten l.initial.tracker.settings all l.initial.tracker.given l.tracker.given (g.S.Station.meaning l.initial.station).cells_out.written (g.S.Station.meaning l.station).cells_out.written;
}

-- the remaining symbols
abbrev pub decreases-loop-room : goal.decreases-loop-room
decreases-loop-room g l = l.tracker.window.count - l.tracker.given
