use Rattle.std.proofs.Common.{arith, refl, sym, subst, subst₂}
use Rattle.inner_decoder.specs.Seen.{DecoderState}
use Rattle.inner_decoder.specs.Tracking.{Stands}
use Rattle.survivor_ring.specs.Survivors.{IsFollowed, IsPushed}
use Rattle.inner_decoder.proofs.Follow.{followed}
use Rattle.inner_decoder.proofs.Rows64.{from_rows, stepped_rows}
use Rattle.inner_decoder.proofs.decoder.Decoder.step.Goals as goal

pub push-requires : goal.push-requires
push-requires g c = (
  omega arith,
  (
    c.self.invariant.few,
    subst₂ (λ y z. IsFollowed y c.step-decisions.result z) (sym c.self.invariant.same) (sym c.alive.ensures.is)
        (followed c.self.inside.metric c.args.pair c.step-decisions.new.self c.step-decisions.result c.step-decisions.ensures.step),
  ),
)

pub returns-clause-stepped : goal.returns-clause-stepped
returns-clause-stepped g c = λ a s b h.
    stepped_rows g.row.L _ _ _ _ _ a s b c.args.pair _ _ _
    (c.settle.ensures.settles.each _ (g.V.Survivors.list c.self.inside.survivors.inner.value) _ _ c.args.pair c.step-decisions.result c.step-decisions.ensures.step c.step-decisions.ensures.some
    (subst (λ z. IsPushed (g.V.Survivors.list c.self.inside.survivors.inner.value) c.step-decisions.result z (g.V.Survivors.list c.push.new.self.inner.value)) c.alive.ensures.is c.push.ensures.list)
    c.push.ensures.count refl a s b (from_rows g.row.L _ (g.V.Survivors.list c.self.inside.survivors.inner.value) _ _ a s b (subst (λ (z : DecoderState). Stands g.row.L z a s b) (sym c.self.view_is) h)))
