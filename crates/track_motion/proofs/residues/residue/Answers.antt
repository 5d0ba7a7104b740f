-- One point more.
use Rattle.std.proofs.Common.{◌≡◌, ℕ, ◌+◌, ◌*◌, ◌<◌, ◌≤◌, List, take, length, get_or, refl, ap, sym, ◌∙◌, arith}
use Rattle.std.specs.Prelude.{sum_by}
use Rattle.std.proofs.lemmas.List.{take_all}
use Rattle.mode_set.specs.declared.modes.Mode.{Mode}
use Rattle.tracking.specs.Comb.{comb_of, continual_points}
use Rattle.track_motion.specs.Means.{left, most_left}
use Rattle.track_turns.proofs.Adding.{total_more}
use Rattle.track_turns.proofs.Turning.{mode_of}
use Rattle.track_motion.proofs.Means.{residue_is}
use Rattle.track_motion.proofs.residues.residue.Goals as goal

pub loop-i-preserved : goal.loop-i-preserved
loop-i-preserved g c =
    let i = c.loop-i.i in
    let points = c.continual_points-points.result.now in
    record {
      is = λ symbols h a.
          let f = left (comb_of g.M.Carriers.MODE symbols) c.args.motion c.args.m in
          ap (λ (z : ℕ). z + c.left-sum.result) (c.loop-i.invariant.is symbols h a) ∙ ap (λ (z : ℕ). sum_by f (take i points) + z) (c.left-sum.ensures.is symbols h a ∙ ap f c.from.ensures) ∙ sym (total_more f points i (omega (arith, c.loop-i-test.true)));
      most = omega (arith, c.loop-i.invariant.most, c.left-sum.ensures.most);
    }

pub returns-clause-is : goal.returns-clause-is
returns-clause-is g c = λ symbols h a.
    let m : Mode = g.M.Carriers.MODE in
    let comb = comb_of m symbols in
    let all = c.continual_points-points.result.now in
    let f = left comb c.args.motion c.args.m in
    let is = c.continual_points-points.ensures.is ∙ ap continual_points (c.MODE.ensures ∙ sym (mode_of m symbols)) in
    let whole : c.loop-i.i ≡ length all = omega (arith, c.loop-i-test.false, c.loop-i.auto.i-end) in
    c.loop-i.invariant.is symbols h a ∙ ap (λ (z : ℕ). sum_by f (take z all)) whole ∙ ap (sum_by f) (take_all (length all) all (omega arith)) ∙ residue_is comb c.args.motion c.args.m all is
