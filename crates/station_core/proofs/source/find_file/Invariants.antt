use Rattle.std.proofs.Common.{◌≡◌, drop}
use Rattle.station_core.specs.Files.{found, has_file}
use Rattle.station_core.proofs.source.find_file.Given as goal

abbrev pub invariant-loop-i : goal.invariant-loop-i
invariant-loop-i l = record {
  found : found l.files l.name ≡ found (drop l.i l.files) l.name;
  none : has_file l.files l.name ≡ has_file (drop l.i l.files) l.name;
}
