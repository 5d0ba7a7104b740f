use Rattle.std.proofs.Common.{refl, sym, subst}
use Rattle.inner_decoder.specs.Seen.{DecoderState}
use Rattle.inner_decoder.specs.Tracking.{Stands}
use Rattle.inner_decoder.proofs.Stand.{finished_all}
use Rattle.inner_decoder.proofs.Rows64.{from_rows}
use Rattle.inner_decoder.proofs.decoder.Decoder.finish.Goals as goal

pub returns-clause-finished : goal.returns-clause-finished
returns-clause-finished g c = λ a s b h.
    finished_all g.row.L c.self.inside.metric _ _ _ c.best-last.result _ _ _ c.best-last.ensures c.force.ensures.given refl c.force.ensures.count c.only-self-inside.ensures.lives
    a s b (from_rows g.row.L _ (g.V.Survivors.list c.self.inside.survivors.inner.value) _ _ a s b (subst (λ (z : DecoderState). Stands g.row.L z a s b) (sym c.self.view_is) h))
