use Rattle.std.proofs.Common.{◌≡◌, ℕ, ◌+◌, subst}
use Rattle.measure_comparison.proofs.Comparing.{left_stands}
use Rattle.measure_comparison.proofs.streams.leave_out.Goals as goal

pub returns : goal.returns
returns c = record {
  passed = λ s m coder known here h.
      let hp = c.args.hp.now in
      let lp = c.args.lp.now in
      left_stands c.steps.ensures.next s c.args.settings.now m hp lp c.leave_out.new.self c.leave_out-2.new.self coder known here
      (subst (λ (n : ℕ). c.leave_out.new.self ≡ record hp { lag = hp.lag + n; before = hp.before + n }) c.need.ensures.need c.leave_out.ensures.left)
      (subst (λ (n : ℕ). c.leave_out-2.new.self ≡ record lp { lag = lp.lag + n; before = lp.before + n }) c.need-2.ensures.need c.leave_out-2.ensures.left) h;
}
