use Rattle.std.proofs.Common.{◌≡◌, ◌≤◌, ◌-◌, true, length, take}
use Rattle.station_core.specs.Meaning.{source_at, with_source, read_source}
use Rattle.cmd_base.proofs.read.fill.Given as goal

-- the first bytes of what was left are at the start of the buffer
abbrev pub invariant-loop-filled : goal.invariant-loop-filled
invariant-loop-filled g l = record {
  filled : l.filled ≤ length l.initial.bytes;
  size : length l.bytes ≡ length l.initial.bytes;
  meaning : g.S.Station.meaning l.station ≡ with_source l.port (read_source l.filled (source_at l.port (g.S.Station.meaning l.initial.station))) (g.S.Station.meaning l.initial.station);
  within : (g.S.Station.meaning l.initial.station).tells ≡ true → l.filled ≤ length (source_at l.port (g.S.Station.meaning l.initial.station)).left;
  front : (g.S.Station.meaning l.initial.station).tells ≡ true → take l.filled l.bytes ≡ take l.filled (source_at l.port (g.S.Station.meaning l.initial.station)).left;
}

-- the bytes that the buffer lacks
abbrev pub decreases-loop-filled : goal.decreases-loop-filled
decreases-loop-filled g l = length l.bytes - l.filled
