use Rattle.std.proofs.Common.{sym, subst}
use Rattle.inner_decoder.specs.Seen.{DecoderState}
use Rattle.inner_decoder.specs.Tracking.{Stands}
use Rattle.inner_decoder.proofs.Stand.{gave_all}
use Rattle.inner_decoder.proofs.Rows64.{from_rows, gave_rows}
use Rattle.inner_decoder.proofs.decoder.Decoder.give.Goals as goal

pub returns-clause-gave : goal.returns-clause-gave
returns-clause-gave g c = λ a s b h.
    gave_rows g.row.L _ _ _ _ _ a s b _ _
    (gave_all g.row.L c.self.inside.metric _ _ _ _ c.shared-common.result _ 0 _ _ _ c.self.invariant.same c.shared-common.ensures.shared c.give.ensures.list c.give.ensures.given c.give.ensures.count
    a s b (from_rows g.row.L _ (g.V.Survivors.list c.self.inside.survivors.inner.value) _ _ a s b (subst (λ (z : DecoderState). Stands g.row.L z a s b) (sym c.self.view_is) h)))
