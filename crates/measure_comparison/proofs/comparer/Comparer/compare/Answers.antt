use Rattle.std.proofs.Common.{ℕ, ◌+◌, ◌≤◌, ◌^◌, refl, sym, ap, ◌∙◌, subst, arith}
use Rattle.mode_set.specs.StreamTable.{carriers, payload}
use Rattle.measure_comparison.specs.Seen.{ComparerState}
use Rattle.measure_comparison.specs.Standing.{IsSummed, StandsBefore, kept_at}
use Rattle.measure_comparison.proofs.Comparing.{compare_stands, compare_summed, kept_whole}
use Rattle.measure_comparison.proofs.comparer.Comparer.compare.Goals as goal

pub compare_symbol-sums-requires-clause-whole : goal.compare_symbol-sums-requires-clause-whole
compare_symbol-sums-requires-clause-whole g c =
    let x = c.self.inside in
    kept_whole (carriers x.settings.mode) x.kept.items x.next c.index.result.now c.self.invariant.four c.index.ensures c.self.invariant.whole

pub invariant_of-self : goal.invariant_of-self
invariant_of-self g c =
    let x = c.self.inside in
    let few : x.next + 1 ≤ 2 ^ 32 = omega (arith, c.requires.few, ap (λ (z : ComparerState). z.next) c.self.view_is) in
    record {
      mode_is = c.self.invariant.mode_is;
      coder_is = c.pass_both.ensures.settings ∙ c.compare_symbol-sums.ensures.settings;
      registers = c.pass_both.ensures.registers c.compare_symbol-sums.ensures.registers;
      room = subst (λ (n : ℕ). payload x.settings.mode ≤ n) (sym c.compare_symbol-sums.ensures.capacity) c.self.invariant.room;
      four = c.self.invariant.four;
      whole = c.self.invariant.whole;
      few = few;
    }

pub returns-clause-summed : goal.returns-clause-summed
returns-clause-summed g c = λ m known d.
    let x = c.self.inside in
    let old : ComparerState = record { settings = x.settings; coder = x.coder; kept = x.kept.items; next = x.next } in
    subst (λ (z : ComparerState). StandsBefore m z c.args.hp.now c.args.lp.now known → IsSummed z.settings (kept_at z m d) known m c.compare_symbol-sums.result) c.self.view_is
    (compare_summed old m c.args.hp.now c.args.lp.now known c.index.result.now d c.compare_symbol-sums.result c.self.invariant.four c.index.ensures (c.compare_symbol-sums.ensures.summed known))

pub returns-clause-stands : goal.returns-clause-stands
returns-clause-stands g c = λ m known.
    let x = c.self.inside in
    let old : ComparerState = record { settings = x.settings; coder = x.coder; kept = x.kept.items; next = x.next } in
    let mid : ComparerState = record { settings = x.settings; coder = c.compare_symbol-sums.new.coder; kept = x.kept.items; next = x.next + 1 } in
    let new : ComparerState = record { settings = x.settings; coder = c.pass_both.new.coder; kept = x.kept.items; next = x.next + 1 } in
    subst (λ (z : ComparerState). StandsBefore m z c.args.hp.now c.args.lp.now known → StandsBefore (m + 1) new c.pass_both.new.hp c.pass_both.new.lp known) c.self.view_is
    (λ h.
    let s = compare_stands old mid m c.args.hp.now c.args.lp.now c.compare_symbol-sums.new.hp c.compare_symbol-sums.new.lp known refl refl (c.compare_symbol-sums.ensures.passed known) h in
    record { next = s.next; streams = c.pass_both.ensures.passed x.settings (m + 1) known s.streams })
