use Rattle.std.proofs.Common.{◌≡◌, ◌∙◌, ℕ, List, true, refl, ap, subst}
use Rattle.station_core.specs.Meaning.{Meaning}
use Rattle.cmd_base.specs.declared.counts.Counts.{Counts}
use Rattle.cmd_base.specs.Causes.{HasEndCause}
use Rattle.cmd_base.proofs.EndCauses.{finished_cause, refused_cause, settled_cause}
use Rattle.cmd_base.proofs.HandedOn.{handed_on}
use Rattle.cmd_base.specs.Packets.{AcceptsFirst, first_packets, whole_packets}
use Rattle.cmd_packets.proofs.Progress.{ends_first}
use Rattle.cmd_packets.proofs.Endings.{finished, refused_end, refused_work, unopened_waits}
use Rattle.cmd_packets.proofs.Keeping.{keeps_again, works_closed, works_finished, later_closed, later_finished, asks_worked}
use Rattle.cmd_packets.proofs.packets_command.code_all.Goals as goal

pub returns-in-Ok-write_end-clause-ran : goal.returns-in-Ok-write_end-clause-ran
returns-in-Ok-write_end-clause-ran g c =
    let old : Meaning = g.S.Station.meaning c.args.station.now in
    let mid : Meaning = g.S.Station.meaning c.open.new.station in
    let done : Meaning = g.S.Station.meaning c.code_packets.new.station in
    let fin : Meaning = g.S.Station.meaning c.write_end.new.station in
    let new : Meaning = g.S.Station.meaning c.finish.new.station in
    let work = c.in-Ok.ensures in
    let counts = c.in-Ok.counts in
    let end = c.in-Ok-write_end.ensures in
    finished (g.C.Coder.coded c.args.coder.now) (g.C.Coder.ended c.args.coder.now) c.args.limits.now.packets c.args.input.now c.args.output.now old mid c.in_ok-open.ensures.opened done counts work.others work.contents
    (g.C.Coder.piece c.write_end.new.coder)
    (λ t. ends_first (g.C.Coder.coded c.args.coder.now) (g.C.Coder.ended c.args.coder.now) _ _ (first_packets counts.packets mid.hp.left) _ work.same work.same_end (end.gives (first_packets counts.packets mid.hp.left) (work.took t)))
    fin new _ end.others end.contents c.finish.ensures.finished

pub returns-in-Err-write_end-clause-ran : goal.returns-in-Err-write_end-clause-ran
returns-in-Err-write_end-clause-ran g c =
    let old : Meaning = g.S.Station.meaning c.args.station.now in
    let mid : Meaning = g.S.Station.meaning c.open.new.station in
    let done : Meaning = g.S.Station.meaning c.code_packets.new.station in
    let fin : Meaning = g.S.Station.meaning c.write_end.new.station in
    let new : Meaning = g.S.Station.meaning c.close_refused.new.station in
    let work = c.in-Ok.ensures in
    let counts = c.in-Ok.counts in
    let end = c.in-Err-write_end.ensures in
    refused_end (g.C.Coder.coded c.args.coder.now) (g.C.Coder.ended c.args.coder.now) c.args.limits.now.packets c.args.input.now c.args.output.now old mid c.in_ok-open.ensures.opened done counts work.others work.contents
    (g.C.Coder.piece c.write_end.new.coder)
    (λ t. ends_first (g.C.Coder.coded c.args.coder.now) (g.C.Coder.ended c.args.coder.now) _ _ (first_packets counts.packets mid.hp.left) _ work.same work.same_end (end.gives (first_packets counts.packets mid.hp.left) (work.took t)))
    c.in-Err-write_end.fault c.close_refused.result fin new end.others end.contents c.close_refused.ensures.closed

pub returns-in-Ok-write_end-clause-asks : goal.returns-in-Ok-write_end-clause-asks
returns-in-Ok-write_end-clause-asks g c =
    let mid : Meaning = g.S.Station.meaning c.open.new.station in
    let done : Meaning = g.S.Station.meaning c.code_packets.new.station in
    let fin : Meaning = g.S.Station.meaning c.write_end.new.station in
    let new : Meaning = g.S.Station.meaning c.finish.new.station in
    let counts = c.in-Ok.counts in
    let keeps = keeps_again mid done fin c.in-Ok.ensures.others c.in-Ok-write_end.ensures.others in
    asks_worked c.args.input.now c.args.output.now (g.S.Station.meaning c.args.station.now) mid new c.in_ok-open.ensures.opened
    (works_finished mid fin new counts c.finish.result keeps c.finish.ensures.finished)
    (later_finished mid fin new counts c.finish.result keeps c.finish.ensures.finished)

pub returns-in-Err-write_end-clause-asks : goal.returns-in-Err-write_end-clause-asks
returns-in-Err-write_end-clause-asks g c =
    let mid : Meaning = g.S.Station.meaning c.open.new.station in
    let done : Meaning = g.S.Station.meaning c.code_packets.new.station in
    let fin : Meaning = g.S.Station.meaning c.write_end.new.station in
    let new : Meaning = g.S.Station.meaning c.close_refused.new.station in
    let keeps = keeps_again mid done fin c.in-Ok.ensures.others c.in-Err-write_end.ensures.others in
    asks_worked c.args.input.now c.args.output.now (g.S.Station.meaning c.args.station.now) mid new c.in_ok-open.ensures.opened
    (works_closed c.in-Err-write_end.fault c.close_refused.result mid fin new keeps c.close_refused.ensures.closed)
    (later_closed c.in-Err-write_end.fault c.close_refused.result mid fin new keeps c.close_refused.ensures.closed)

pub returns-in-Err-clause-ran : goal.returns-in-Err-clause-ran
returns-in-Err-clause-ran g c =
    let mid : Meaning = g.S.Station.meaning c.open.new.station in
    let fin : Meaning = g.S.Station.meaning c.code_packets.new.station in
    let new : Meaning = g.S.Station.meaning c.close_refused-in-Err.new.station in
    let work = c.in-Err.ensures in
    refused_work (g.C.Coder.coded c.args.coder.now) (g.C.Coder.ended c.args.coder.now) c.args.limits.now.packets c.args.input.now c.args.output.now (g.S.Station.meaning c.args.station.now) mid c.in_ok-open.ensures.opened
    c.in-Err.refusal c.close_refused-in-Err.result fin new work.others work.contents c.close_refused-in-Err.ensures.closed

pub returns-in-Err-clause-asks : goal.returns-in-Err-clause-asks
returns-in-Err-clause-asks g c =
    let mid : Meaning = g.S.Station.meaning c.open.new.station in
    let fin : Meaning = g.S.Station.meaning c.code_packets.new.station in
    let new : Meaning = g.S.Station.meaning c.close_refused-in-Err.new.station in
    asks_worked c.args.input.now c.args.output.now (g.S.Station.meaning c.args.station.now) mid new c.in_ok-open.ensures.opened
    (works_closed c.in-Err.refusal c.close_refused-in-Err.result mid fin new c.in-Err.ensures.others c.close_refused-in-Err.ensures.closed)
    (later_closed c.in-Err.refusal c.close_refused-in-Err.result mid fin new c.in-Err.ensures.others c.close_refused-in-Err.ensures.closed)

pub returns-in_err-open-clause-cause : goal.returns-in_err-open-clause-cause
returns-in_err-open-clause-cause g c =
    let old : Meaning = g.S.Station.meaning c.args.station.now in
    let mid : Meaning = g.S.Station.meaning c.open.new.station in
    let file : List ℕ = old.file c.args.input.now in
    let whole : Type 0 = old.tells ≡ true → AcceptsFirst c.args.limits.now.packets file (whole_packets file) in
    handed_on c.from_residual.result c.in_err-open.field-0.0 (HasEndCause whole old mid) c.from_residual.ensures.1
    (refused_cause (Unit {0}) Counts whole old old mid mid c.in_err-open.field-0.0 (record { reads = refl; writes = refl }) c.in_err-open.ensures.cause refl refl
    (unopened_waits c.args.input.now c.args.output.now old mid c.in_err-open.field-0.0 c.in_err-open.ensures.opened ∙ c.requires.ready.settled))

pub returns-in-Ok-write_end-clause-cause : goal.returns-in-Ok-write_end-clause-cause
returns-in-Ok-write_end-clause-cause g c =
    let old : Meaning = g.S.Station.meaning c.args.station.now in
    let mid : Meaning = g.S.Station.meaning c.open.new.station in
    let fin : Meaning = g.S.Station.meaning c.write_end.new.station in
    let new : Meaning = g.S.Station.meaning c.finish.new.station in
    let limit : ℕ = c.args.limits.now.packets in
    let file : List ℕ = old.file c.args.input.now in
    let opened = c.in_ok-open.ensures in
    let work = c.in-Ok.ensures in
    let end = c.in-Ok-write_end.ensures in
    finished_cause Counts (old.tells ≡ true → AcceptsFirst limit file (whole_packets file)) old fin new c.finish.result
    (record { reads = end.cause.reads ∙ work.cause.reads ∙ opened.cause.reads; writes = end.cause.writes ∙ work.cause.writes ∙ opened.cause.writes })
    (ap (λ (x : Meaning). x.close_faults) end.others ∙ ap (λ (x : Meaning). x.close_faults) work.others ∙ ap (λ (x : Meaning). x.close_faults) opened.opened)
    (λ t. subst (λ (l : List ℕ). AcceptsFirst limit l (whole_packets l)) (ap (λ (x : Meaning). x.hp.left) opened.opened) (work.contents (ap (λ (x : Meaning). x.tells) opened.opened ∙ t)).1)
    c.finish.ensures.cause

pub returns-in-Err-write_end-clause-cause : goal.returns-in-Err-write_end-clause-cause
returns-in-Err-write_end-clause-cause g c =
    let old : Meaning = g.S.Station.meaning c.args.station.now in
    let done : Meaning = g.S.Station.meaning c.code_packets.new.station in
    let fin : Meaning = g.S.Station.meaning c.write_end.new.station in
    let new : Meaning = g.S.Station.meaning c.close_refused.new.station in
    let file : List ℕ = old.file c.args.input.now in
    let opened = c.in_ok-open.ensures in
    let work = c.in-Ok.ensures in
    let shut = c.close_refused.ensures.closed in
    settled_cause (Unit {0}) Counts (old.tells ≡ true → AcceptsFirst c.args.limits.now.packets file (whole_packets file)) old done fin shut.flushed new c.in-Err-write_end.fault c.close_refused.result
    (record { reads = work.cause.reads ∙ opened.cause.reads; writes = work.cause.writes ∙ opened.cause.writes })
    c.in-Err-write_end.ensures.cause shut.settles (ap (λ (x : Meaning). x.read_faults) shut.closes.closed) (ap (λ (x : Meaning). x.write_faults) shut.closes.closed) (ap (λ (x : Meaning). x.pending) shut.closes.closed)

pub returns-in-Err-clause-cause : goal.returns-in-Err-clause-cause
returns-in-Err-clause-cause g c =
    let old : Meaning = g.S.Station.meaning c.args.station.now in
    let mid : Meaning = g.S.Station.meaning c.open.new.station in
    let fin : Meaning = g.S.Station.meaning c.code_packets.new.station in
    let new : Meaning = g.S.Station.meaning c.close_refused-in-Err.new.station in
    let file : List ℕ = old.file c.args.input.now in
    let shut = c.close_refused-in-Err.ensures.closed in
    settled_cause Counts Counts (old.tells ≡ true → AcceptsFirst c.args.limits.now.packets file (whole_packets file)) old mid fin shut.flushed new c.in-Err.refusal c.close_refused-in-Err.result
    c.in_ok-open.ensures.cause c.in-Err.ensures.cause shut.settles (ap (λ (x : Meaning). x.read_faults) shut.closes.closed) (ap (λ (x : Meaning). x.write_faults) shut.closes.closed) (ap (λ (x : Meaning). x.pending) shut.closes.closed)
