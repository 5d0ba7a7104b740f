use Rattle.std.proofs.Common.{◌∙◌, sym, subst, ap, []}
use Rattle.std.specs.Prelude.{slice_index}
use Rattle.inner_decoder.specs.Tracking.{StandsBy}
use Rattle.inner_decoder.specs.Starts.{start_of}
use Rattle.acs_plain.specs.declared.sums.Sums.{Sums}
use Rattle.acs_plain.specs.Steps.{alive}
use Rattle.inner_decoder.proofs.Rows64.{to_rows}
use Rattle.inner_decoder.proofs.Stand.{new_zero, new_any}
use Rattle.inner_decoder.proofs.decoder.Decoder.new.Goals.{in-Zero, in-Any}
use Rattle.inner_decoder.proofs.decoder.Decoder.new.Goals as goal

pub returns-clause-stands : goal.returns-clause-stands
returns-clause-stands g c =
    to_rows g.row.L _ (g.V.Survivors.list c.in_ok-survivors.survivors.inner.value) _ _ _ _ _
    (elim c.match-start.branch [
      | in-Zero w ↦
          let m : Sums = c.match-start.metric in
          subst (λ s. StandsBy g.row.L m (g.V.Survivors.list c.in_ok-survivors.survivors.inner.value) (g.V.Survivors.count c.in_ok-survivors.survivors.inner.value) 0 s [] []) (sym (ap start_of w.in-Zero.is))
          (new_zero g.row.L m _ _ c.alive.result c.alive.ensures.some (ap (λ (z : Sums). z.alive) w.metric-is ∙ w.only-metric.ensures.lives) (ap (λ (z : Sums). slice_index z.cost 0) w.metric-is ∙ w.only-metric.ensures.cost) c.alive.ensures.is c.in_ok-survivors.ensures.list c.in_ok-survivors.ensures.count)
      | in-Any w ↦
          let m : Sums = c.match-start.metric in
          subst (λ s. StandsBy g.row.L m (g.V.Survivors.list c.in_ok-survivors.survivors.inner.value) (g.V.Survivors.count c.in_ok-survivors.survivors.inner.value) 0 s [] []) (sym (ap start_of w.in-Any.is))
          (new_any g.row.L m _ _ c.alive.result c.alive.ensures.some (λ n l. ap (λ (z : Sums). alive z n) w.metric-is ∙ w.any-metric.ensures.lives n l) (λ n l. ap (λ (z : Sums). slice_index z.cost n) w.metric-is ∙ w.any-metric.ensures.cost n l) c.alive.ensures.is c.in_ok-survivors.ensures.list c.in_ok-survivors.ensures.count)
    ])
