use Rattle.std.proofs.Common.{ℕ, refl, subst, sym, None, ◌∷◌, []}
use Rattle.forney.specs.Values.{values}
use Rattle.outer_chain.specs.Sent.{outer_bytes, sent_bytes}
use Rattle.outer_chain.specs.Sending.{Sender, Sends}
use Rattle.station_core.specs.Meaning.{Meaning}
use Rattle.cmd_base.specs.declared.refusal.Refusal.TheVariants.{Memory}
use Rattle.cmd_base.specs.Command.{Command}
use Rattle.cmd_base.specs.Run.{Run}
use Rattle.cmd_base.proofs.Early.{unstarted_ended}
use Rattle.cmd_base.proofs.Whole.{run_refused}
use Rattle.cmd_packets.specs.Commands.{outer_coding, outer_command}
use Rattle.cmd_packets.proofs.OuterGrows.{outer_grows}
use Rattle.cmd_packets.proofs.CodingEnd.{no_settings, ready_after, ends_at_once, run_of}
use Rattle.cmd_packets.proofs.commands.outer.Goals as goal

pub returns-in-Ok : goal.returns-in-Ok
returns-in-Ok g c =
    let old : Meaning = g.S.Station.meaning c.args.station.now in
    run_of None (0 ∷ 4 ∷ 5 ∷ 6 ∷ 7 ∷ 8 ∷ []) (record { done = refl; not_sync = refl; read_fault = refl; write_fault = refl; limit = refl })
    outer_coding c.args.limits.now.packets c.args.input.now c.args.output.now old old.settings c.requires.fresh (no_settings old c.requires.fresh)
    sent_bytes sent_bytes (λ t. record { so_far = λ packets. refl; in_all = λ packets. refl }) (outer_grows c.sending.ensures.more) (ends_at_once sent_bytes)
    (g.S.Station.meaning c.run_coding.new.station) c.run_coding.result c.run_coding.ensures.runs

pub returns-in-Err : goal.returns-in-Err
returns-in-Err g c =
    let old : Meaning = g.S.Station.meaning c.args.station.now in
    let new : Meaning = g.S.Station.meaning c.refuse.new.station in
    let command : Command = outer_command c.args.input.now c.args.output.now in
    let limit : ℕ = c.args.limits.now.packets in
    subst (λ (n : ℕ). Run command limit old new n) (sym c.refuse.ensures.status)
    (run_refused command limit old old new Memory (unstarted_ended command limit old refl (λ u same. refl) (λ file. tt) c.requires.fresh Memory refl refl) c.refuse.ensures.text)

pub run_coding-requires : goal.run_coding-requires
unfolding outer_bytes values
run_coding-requires g c κs =
    let old : Meaning = g.S.Station.meaning c.args.station.now in
    ((refl, tt), ((ready_after old old.settings c.requires.fresh), (subst (λ (tx : Sender). Sends tx []) (sym c.new-in-Ok.ensures) c.in-Ok.ensures.empty, refl)))
