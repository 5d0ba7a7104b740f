use Rattle.std.proofs.Common.{ℕ, ◌∙◌, ap, sym}
use Rattle.std.specs.Prelude.{Option, Some}
use Rattle.outer_chain.specs.Words.{phase_of, given_packet}
use Rattle.outer_chain.specs.Nears.{near_of}
use Rattle.outer_chain.proofs.BurstWords.{next_phase, next_packet}
use Rattle.outer_chain.proofs.rx.OuterRx.finish_word.Goals as goal

pub returns-in_err-phase-clause-burst_phase : goal.returns-in_err-phase-clause-burst_phase
returns-in_err-phase-clause-burst_phase c = λ packets done h.
    let slot = c.args.slot.now in
    c.phase_after-phase.ensures.phase ∙ ap (λ rx. phase_of (near_of slot.outcome slot.word) rx.phase) c.self.view_is
    ∙ next_phase c.args.self.now packets done slot.word slot.outcome h

pub returns-in_err-phase-clause-burst_packet : goal.returns-in_err-phase-clause-burst_packet
returns-in_err-phase-clause-burst_packet c = λ packets done h.
    let slot = c.args.slot.now in
    let phase = returns-in_err-phase-clause-burst_phase c packets done h in
    let given = λ (f : Option ℕ). given_packet f slot.word (near_of slot.outcome slot.word) in
    let packet = next_packet c.args.self.now packets done slot.word slot.outcome c.phase_after-phase.result h phase in
    c.from_residual.ensures ∙ ap given (sym c.in_err-phase.was) ∙ packet

pub returns-clause-burst_phase : goal.returns-clause-burst_phase
returns-clause-burst_phase c = λ packets done h.
    let slot = c.args.slot.now in
    c.phase_after-phase.ensures.phase ∙ ap (λ rx. phase_of (near_of slot.outcome slot.word) rx.phase) c.self.view_is
    ∙ next_phase c.args.self.now packets done slot.word slot.outcome h

pub returns-clause-burst_packet : goal.returns-clause-burst_packet
returns-clause-burst_packet c = λ packets done h.
    let slot = c.args.slot.now in
    let phase = returns-clause-burst_phase c packets done h in
    let given = λ (f : Option ℕ). given_packet f slot.word (near_of slot.outcome slot.word) in
    let packet = next_packet c.args.self.now packets done slot.word slot.outcome c.phase_after-phase.result h phase in
    ap Some c.packet_at.ensures ∙ ap given (sym c.in_ok-phase.was) ∙ packet
