use Rattle.std.proofs.Common.{◌≡◌, true, ℕ, List}
use Rattle.cmd_packets.specs.Coding.{KeepsOthers}
use Rattle.cmd_base.specs.Packets.{first_packets}
use Rattle.cmd_packets.proofs.Progress.{Progress}
use Rattle.cmd_packets.proofs.coding.code_packets.Given as goal

-- one packet for each pass of the loop was taken, accepted and coded
abbrev pub invariant-loop-number : goal.invariant-loop-number
invariant-loop-number g l = record {
  others : KeepsOthers (g.S.Station.meaning l.initial.station) (g.S.Station.meaning l.station);
  read_faults : (g.S.Station.meaning l.station).read_faults ≡ (g.S.Station.meaning l.initial.station).read_faults;
  write_faults : (g.S.Station.meaning l.station).write_faults ≡ (g.S.Station.meaning l.initial.station).write_faults;
  same : (packets : List (List ℕ)) → g.C.Coder.coded l.coder packets ≡ g.C.Coder.coded l.initial.coder packets;
  same_end : (packets : List (List ℕ)) → g.C.Coder.ended l.coder packets ≡ g.C.Coder.ended l.initial.coder packets;
  took : (g.S.Station.meaning l.initial.station).tells ≡ true → g.C.Coder.took l.coder (first_packets l.number (g.S.Station.meaning l.initial.station).hp.left);
  contents : (g.S.Station.meaning l.initial.station).tells ≡ true → Progress (g.C.Coder.coded l.initial.coder) l.limits.packets l.number
      (g.S.Station.meaning l.initial.station).hp.left (g.S.Station.meaning l.initial.station).bytes_out.written
      (g.S.Station.meaning l.station).hp.left (g.S.Station.meaning l.station).bytes_out.written;
}
