use Rattle.std.proofs.Common.{◌≡◌, ◌∙◌, ◌-◌, arith, sym, ap, subst, ◌++◌, length, take, drop, length-take-le, length-drop}
use Rattle.std.proofs.Math.Seq.{take-add}
use Rattle.std.proofs.lemmas.List.{take_all}
use Rattle.inner_decoder.specs.Running.{Ran}
use Rattle.inner_decoder.specs.Events.{ats}
use Rattle.inner_decoder.proofs.Runs.{runs_none, runs_more}
use Rattle.inner_decoder.proofs.branch.run.Goals as goal

pub loop-taken-init : goal.loop-taken-init
loop-taken-init g c = (omega arith, runs_none 2048 _ _ _ c.requires.going (ap ats c.requires.none) c.requires.waiting)

pub loop-taken-preserved : goal.loop-taken-preserved
loop-taken-preserved g c =
    let k = c.loop-taken.taken in
    let n = c.run_part-count.result.0 in
    let xs = c.args.pairs.now in
    let rest = take (length xs - k) (drop k xs) in
    let e : rest ≡ drop k xs = take_all (length xs - k) (drop k xs) (omega (arith, length-drop k xs)) in
    let l : length (take n rest) ≡ n = length-take-le n rest c.run_part-count.ensures.within in (
      omega (arith, ap length e, length-drop k xs, c.run_part-count.ensures.within, c.loop-taken.invariant.0),
      runs_more 2048 _ _ _ _ _ _ c.loop-taken.invariant.1 (take n rest) n _ _ c.run_part-count.result.1 _ _ l c.run_part-count.ensures.going c.run_part-count.ensures.steps c.run_part-count.ensures.amount c.run_part-count.ensures.spaced c.run_part-count.ensures.few c.run_part-count.ensures.ran c.note.ensures
          (take-add k n xs ∙ ap (λ z. take k xs ++ take n z) (sym e)),
    )

pub returns-clause-ran : goal.returns-clause-ran
returns-clause-ran g c = λ a s b h.
    let e : take c.loop-taken.taken c.args.pairs.now ≡ c.args.pairs.now = take_all c.loop-taken.taken c.args.pairs.now c.loop-taken-test.false in
    subst (λ z. Ran 2048 c.loop-taken.decoder a s b z c.args.to.now c.loop-taken.to (ats c.loop-taken.events.items)) e (c.loop-taken.invariant.1.ran a s b h)
