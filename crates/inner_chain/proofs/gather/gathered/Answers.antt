use Rattle.std.proofs.Common.{◌≡◌, ◌+◌, ◌-◌, ℕ, ap, ◌∙◌, subst, arith}
use Rattle.std.specs.Prelude.{slice_index}
use Rattle.inner_chain.specs.Tables.{IsGathered, read_bit}
use Rattle.inner_chain.proofs.Gathering.{gather_none, gather_up, label_small}
use Rattle.inner_chain.proofs.gather.gathered.Goals as goal

pub loop-e-init : goal.loop-e-init
loop-e-init g c = gather_none c.args.bits.now c.args.entries.now _

pub with_bit-label-requires : goal.with_bit-label-requires
with_bit-label-requires g c = label_small c.loop-e.e c.loop-e.label (omega (arith, c.requires.count, c.loop-e-test.true)) c.loop-e.invariant.small

pub loop-e-preserved : goal.loop-e-preserved
loop-e-preserved g c =
    let below = c.args.first + (g.row.COUNT - (c.loop-e.e + 1)) in
    let place : c.args.first + (g.row.COUNT - 1 - c.loop-e.e) ≡ below = omega arith in
    gather_up c.args.bits.now c.args.entries.now (c.args.first + (g.row.COUNT - c.loop-e.e)) below c.loop-e.e c.loop-e.label c.with_bit-label.result c.loop-e.invariant (omega (arith, c.loop-e-test.true))
    (c.with_bit-label.ensures.small c.loop-e.e c.loop-e.invariant.small) c.with_bit-label.ensures.above
    (c.with_bit-label.ensures.here ∙ c.entered.ensures ∙ ap (λ (n : ℕ). read_bit c.args.bits.now (slice_index c.args.entries.now n)) place)

pub returns : goal.returns
returns g c =
    let all : c.loop-e.e ≡ g.row.COUNT = omega arith in
    let from : c.args.first + (g.row.COUNT - c.loop-e.e) ≡ c.args.first = omega (arith, all) in
    subst (λ (n : ℕ). IsGathered c.args.bits.now c.args.entries.now c.args.first n c.loop-e.label) all
    (subst (λ (n : ℕ). IsGathered c.args.bits.now c.args.entries.now n c.loop-e.e c.loop-e.label) from c.loop-e.invariant)
