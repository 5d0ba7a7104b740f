use Rattle.std.proofs.Common.{◌≡◌, ◌∷◌, [], ◌++◌, ◌∙◌, ap, arith, sym, subst, length, take, drop, length-take-le}
use Rattle.std.proofs.lemmas.List.{take_more}
use Rattle.code_paths.specs.declared.costs.CostPair.{CostPair}
use Rattle.inner_decoder.specs.Seen.{DecoderState}
use Rattle.inner_decoder.specs.Tracking.{Stands}
use Rattle.inner_decoder.proofs.Rows64.{from_rows}
use Rattle.inner_decoder.proofs.Runs.{step_ran}
use Rattle.acs_plain.specs.Steps.{AreSteps}
use Rattle.inner_decoder.proofs.Slices.{slice_ran, front_is}
use Rattle.inner_decoder.proofs.decoder.Decoder.run_part.Goals as goal

pub returns-then-alive-clause-ran : goal.returns-then-alive-clause-ran
returns-then-alive-clause-ran g c = λ a s b h.
    step_ran g.row.L _ a s b c.index-pairs-0.result _ _ _ _ (c.step.ensures.stepped a s b h)
    (take_more c.args.pairs.now 0 c.index-pairs-0.result c.requires.some ∙ ap (λ (z : CostPair). z ∷ []) (sym c.index-pairs-0.is))

pub returns-clause-ran : goal.returns-clause-ran
returns-clause-ran g c = λ a s b h.
    let n = c.min-count.result in
    let l : length (take n c.args.pairs.now) ≡ n = length-take-le n c.args.pairs.now (omega (arith, c.min.ensures, c.min-count.ensures)) in
    let e : take n (c.run.new.words ++ drop n c.args.words.now) ≡ c.run.new.words = front_is n c.run.new.words _ (c.run.ensures.size ∙ l) in
    slice_ran g.row.L c.self.inside.metric (g.V.Survivors.list c.self.inside.survivors.inner.value) _ _ a s b (take n c.args.pairs.now) (take n (c.run.new.words ++ drop n c.args.words.now)) c.run.new.self _ _ _ _ _ _ _ _ _
    (sym c.alive.ensures.is ∙ c.if-alive.false)
    (from_rows g.row.L _ (g.V.Survivors.list c.self.inside.survivors.inner.value) _ _ a s b (subst (λ (z : DecoderState). Stands g.row.L z a s b) (sym c.self.view_is) h))
    (subst (λ z. AreSteps c.self.inside.metric (take n c.args.pairs.now) c.run.new.self z) (sym e) c.run.ensures.steps)
    c.run.ensures.some
    (omega (arith, l, c.min.ensures, c.min-count.ensures, c.requires.some, c.requires.space, c.self.invariant.few, c.waiting-before.ensures.number))
    (omega (arith, l, ap length e, c.run.ensures.size))
    (omega (arith, l, ap length e, c.run.ensures.size, c.min.ensures, c.min-count.ensures, c.self.invariant.few, c.waiting-before.ensures.number))
    c.settle_all-report.ensures.settles
    (omega (arith, l))
