use Rattle.std.proofs.Common.{refl, None, ◌∷◌, []}
use Rattle.station_core.specs.Meaning.{Meaning}
use Rattle.cmd_packets.specs.Commands.{dispersing}
use Rattle.cmd_packets.specs.DispersedPackets.{dispersed_packets}
use Rattle.cmd_packets.proofs.DispersedPackets.{dispersed_grows}
use Rattle.cmd_packets.proofs.CodingEnd.{no_settings, ready_after, ends_at_once, run_of}
use Rattle.cmd_packets.proofs.commands.disperse.Goals as goal

pub returns : goal.returns
returns g c =
    let old : Meaning = g.S.Station.meaning c.args.station.now in
    run_of None (0 ∷ 4 ∷ 5 ∷ 6 ∷ 8 ∷ []) (record { done = refl; not_sync = refl; read_fault = refl; write_fault = refl; limit = refl })
    dispersing c.args.limits.now.packets c.args.input.now c.args.output.now old old.settings c.requires.fresh (no_settings old c.requires.fresh)
    dispersed_packets dispersed_packets (λ t. record { so_far = λ packets. refl; in_all = λ packets. refl }) dispersed_grows (ends_at_once dispersed_packets)
    (g.S.Station.meaning c.run_coding.new.station) c.run_coding.result c.run_coding.ensures.runs

pub run_coding-requires : goal.run_coding-requires
unfolding dispersed_packets
run_coding-requires g c κs =
    let old : Meaning = g.S.Station.meaning c.args.station.now in
    ((refl, tt), ((ready_after old old.settings c.requires.fresh), (c.start.ensures, refl)))
