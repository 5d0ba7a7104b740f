use Rattle.std.proofs.Common.{ℕ, refl, subst, sym, []}
use Rattle.station_core.specs.Meaning.{Meaning}
use Rattle.mode_set.specs.declared.modes.Rate.{Rate}
use Rattle.outer_chain.specs.Sending.{Sender, Sends}
use Rattle.cmd_base.specs.Run.{Run}
use Rattle.cmd_packets.specs.Commands.{inner_command}
use Rattle.cmd_packets.specs.Inner.{IsAfter}
use Rattle.cmd_packets.proofs.InnerRuns.{ready, after_nothing, nothing_coded, inner_run, inner_without_memory, inner_refused}
use Rattle.cmd_packets.proofs.commands.inner.Goals as goal

pub returns-in-Ok-new : goal.returns-in-Ok-new
returns-in-Ok-new g c =
    inner_run c.args.settings.now (g.S.Station.meaning c.args.station.now) (g.S.Station.meaning c.read_settings.new.station) c.requires.fresh
    c.in-Ok.ensures.asks c.in-Ok.read c.in-Ok.ensures.reads c.args.input.now c.args.output.now c.args.limits.now.packets
    (g.S.Station.meaning c.run_coding.new.station) c.new-coder.result.rate c.new-coder.ensures.rate c.run_coding.result c.run_coding.ensures.runs
    c.steps_send_in_order.ensures c.steps_are_numbered.ensures c.sent_bits_are_runs.ensures c.sending.ensures.more

pub returns-in-Err-new : goal.returns-in-Err-new
returns-in-Err-new g c =
    let old : Meaning = g.S.Station.meaning c.args.station.now in
    let mid : Meaning = g.S.Station.meaning c.read_settings.new.station in
    let new : Meaning = g.S.Station.meaning c.refuse.new.station in
    subst (λ (n : ℕ). Run (inner_command c.args.settings.now c.args.input.now c.args.output.now) c.args.limits.now.packets old new n) (sym c.refuse.ensures.status)
    (inner_without_memory c.args.settings.now c.args.input.now c.args.output.now c.args.limits.now.packets old mid new c.requires.fresh c.in-Ok.ensures.asks
    c.in-Ok.ensures.reads.0 c.refuse.ensures.text)

pub returns-in-Err : goal.returns-in-Err
returns-in-Err g c =
    let old : Meaning = g.S.Station.meaning c.args.station.now in
    let mid : Meaning = g.S.Station.meaning c.read_settings.new.station in
    let new : Meaning = g.S.Station.meaning c.refuse-in-Err.new.station in
    subst (λ (n : ℕ). Run (inner_command c.args.settings.now c.args.input.now c.args.output.now) c.args.limits.now.packets old new n) (sym c.refuse-in-Err.ensures.status)
    (inner_refused c.args.settings.now c.args.input.now c.args.output.now c.args.limits.now.packets old mid new c.requires.fresh c.in-Err.ensures.asks
    c.in-Err.refusal c.in-Err.ensures.reads c.refuse-in-Err.ensures.text)

pub run_coding-requires : goal.run_coding-requires
run_coding-requires g c κs =
    let old : Meaning = g.S.Station.meaning c.args.station.now in
    let mid : Meaning = g.S.Station.meaning c.read_settings.new.station in
    let r : Rate = c.new-coder.result.rate in
    let inner = after_nothing c.new-coder.result.inner r (subst (λ (x : Rate). IsAfter c.new-coder.result.inner x []) (sym c.new-coder.ensures.rate) c.new-coder.ensures.inner) in
    let outer = subst (λ (tx : Sender). Sends tx []) (sym c.new-coder.ensures.outer) c.in-Ok-new.ensures.empty in
    ((refl, tt), ((ready c.args.settings.now old mid c.requires.fresh c.in-Ok.ensures.asks c.in-Ok.read c.in-Ok.ensures.reads), ((outer, inner), nothing_coded r)))
