use Rattle.std.proofs.Common.{◌≡◌, ◌∙◌, refl, arith, inl, inr}
use Rattle.std.specs.Prelude.{slice_index}
use Rattle.std.proofs.lemmas.Bool.{cases_eq, false≢true}
use Rattle.cmd_modulate.proofs.Taking.{ends, passes_limit, lacks_sync, takes}
use Rattle.cmd_modulate.proofs.input.PacketInput.take.Goals as goal

pub returns-then-filled-lt-PACKET_LEN-clause-gives : goal.returns-then-filled-lt-PACKET_LEN-clause-gives
returns-then-filled-lt-PACKET_LEN-clause-gives c = λ files put left none reads front.
    let g = ends c.args.limit files c.args.stream put left c.args.self.now none reads c.args.filled c.args.bytes.now front c.if-filled-lt-PACKET_LEN.true in
    (c.null.ensures.null ∙ g.0, g.1, g.2)

pub returns-then-self-limit-clause-gives : goal.returns-then-self-limit-clause-gives
returns-then-self-limit-clause-gives c = λ files put left none reads front.
    passes_limit c.args.limit files c.args.stream put left c.args.self.now none reads c.args.filled c.args.bytes.now front
    (omega (arith, c.if-filled-lt-PACKET_LEN.false, c.requires.filled)) c.if-self-limit.true

pub returns-in-Ok-clause-gives : goal.returns-in-Ok-clause-gives
returns-in-Ok-clause-gives c = λ files put left none reads front.
    let sync : slice_index c.args.bytes.now 0 ≡ 0x47 = elim (cases_eq (slice_index c.args.bytes.now 0) 0x47) [
      | inl e ↦ e
      | inr differs ↦ absurd (false≢true (c.in-Ok.ensures.refused.1 differs))
    ] in
    let g = takes c.args.limit files c.args.stream put left c.args.self.now none reads c.args.filled c.args.bytes.now front
    (omega (arith, c.if-filled-lt-PACKET_LEN.false, c.requires.filled)) c.if-self-limit.false c.told-bytes sync in
    (c.in-Ok.ensures.packet ∙ g.0, g.1, g.2)

pub returns-in-Err-clause-gives : goal.returns-in-Err-clause-gives
returns-in-Err-clause-gives c = λ files put left none reads front.
    lacks_sync c.args.limit files c.args.stream put left c.args.self.now none reads c.args.filled c.args.bytes.now front
    (omega (arith, c.if-filled-lt-PACKET_LEN.false, c.requires.filled)) c.if-self-limit.false c.told-bytes (c.in-Err.ensures.refused.0 refl)
