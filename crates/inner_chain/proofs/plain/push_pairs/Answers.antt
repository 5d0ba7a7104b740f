use Rattle.std.proofs.Common.{◌≡◌, ◌∙◌, ◌+◌, ◌-◌, ◌≤◌, ℕ, ap, arith}
use Rattle.mode_set.specs.StreamTable.{coded, rate}
use Rattle.mode_set.specs.declared.modes.Rate.{Rate}
use Rattle.mode_set.specs.declared.settings.Settings.{Settings}
use Rattle.puncture.specs.Steps.{needed, sent_before}
use Rattle.inner_chain.specs.CostPairs.{IsPairOf, costs_of_bit}
use Rattle.inner_chain.proofs.CostEntering.{most_sent}
use Rattle.inner_chain.proofs.CostReading.{append_more}
use Rattle.inner_chain.proofs.Entering.{few_coded}
use Rattle.inner_chain.proofs.plain.push_pairs.Goals as goal

pub loop-step-preserved : goal.loop-step-preserved
loop-step-preserved c =
    let s : Settings = c.args.settings.now in
    let r : Rate = rate s c.args.stream in
    let t : ℕ = c.loop-step.step in
    let number : c.loop-step.bit ≡ sent_before r t = c.loop-step.invariant.number in
    let needs : c.needs-needs.result ≡ needed r t = c.needs-needs.ensures.step r t c.loop-step.invariant.at in
    let next : c.loop-step.bit + c.needs-needs.result ≡ sent_before r (t + 1) = omega (arith, number, needs, (c.steps_are_numbered.ensures r t).grows) in
    let second : needed r t ≡ 2 → c.of_bit-second.result ≡ costs_of_bit s c.args.cells.now c.args.weights.now c.args.l c.args.stream (sent_before r t + 1)
    = λ two. let place : c.loop-step.bit + c.needs-needs.result - 1 ≡ sent_before r t + 1 = omega (arith, number, needs, two) in
    c.of_bit-second.ensures.costs ∙ ap (costs_of_bit s c.args.cells.now c.args.weights.now c.args.l c.args.stream) place in
    let read = c.pair.ensures.numbered r (costs_of_bit s c.args.cells.now c.args.weights.now c.args.l c.args.stream) t c.loop-step.invariant.at
    (c.of_bit-first.ensures.costs ∙ ap (costs_of_bit s c.args.cells.now c.args.weights.now c.args.l c.args.stream) number) second in
    let pair : IsPairOf s c.args.cells.now c.args.weights.now c.args.l c.args.stream t c.pair.result = record { x = read.0; y = read.1 } in
    record {
      number = next;
      at = c.pair.ensures.next r t c.loop-step.invariant.at;
      pairs = append_more s c.args.cells.now c.args.weights.now c.args.l c.args.stream t _ _ _ c.pair.result c.loop-step.invariant.pairs pair c.push_reserved.ensures.items;
      len = omega arith;
      capacity = omega arith;
    }

pub of_bit-first-requires-clause-within : goal.of_bit-first-requires-clause-within
of_bit-first-requires-clause-within c =
    let s : Settings = c.args.settings.now in
    let r : Rate = rate s c.args.stream in
    let t : ℕ = c.loop-step.step in
    let needs : c.needs-needs.result ≡ needed r t = c.needs-needs.ensures.step r t c.loop-step.invariant.at in
    let next : c.loop-step.bit + c.needs-needs.result ≡ sent_before r (t + 1) = omega (arith, c.loop-step.invariant.number, needs, (c.steps_are_numbered.ensures r t).grows) in
    let most : sent_before r (t + 1) ≤ coded s c.args.stream = most_sent s c.steps_are_numbered.ensures c.args.stream (t + 1) (omega (arith, c.loop-step-test.true, c.need-step-end.ensures.need)) in
    omega (arith, next, most, c.needs-needs.ensures.some, few_coded s c.args.stream)

pub overflow_add-last : goal.overflow_add-last
overflow_add-last c =
    let s : Settings = c.args.settings.now in
    let r : Rate = rate s c.args.stream in
    let t : ℕ = c.loop-step.step in
    let needs : c.needs-needs.result ≡ needed r t = c.needs-needs.ensures.step r t c.loop-step.invariant.at in
    let next : c.loop-step.bit + c.needs-needs.result ≡ sent_before r (t + 1) = omega (arith, c.loop-step.invariant.number, needs, (c.steps_are_numbered.ensures r t).grows) in
    let most : sent_before r (t + 1) ≤ coded s c.args.stream = most_sent s c.steps_are_numbered.ensures c.args.stream (t + 1) (omega (arith, c.loop-step-test.true, c.need-step-end.ensures.need)) in
    omega (arith, next, most, c.needs-needs.ensures.some, few_coded s c.args.stream)

pub of_bit-second-requires-clause-within : goal.of_bit-second-requires-clause-within
of_bit-second-requires-clause-within c =
    let s : Settings = c.args.settings.now in
    let r : Rate = rate s c.args.stream in
    let t : ℕ = c.loop-step.step in
    let needs : c.needs-needs.result ≡ needed r t = c.needs-needs.ensures.step r t c.loop-step.invariant.at in
    let next : c.loop-step.bit + c.needs-needs.result ≡ sent_before r (t + 1) = omega (arith, c.loop-step.invariant.number, needs, (c.steps_are_numbered.ensures r t).grows) in
    let most : sent_before r (t + 1) ≤ coded s c.args.stream = most_sent s c.steps_are_numbered.ensures c.args.stream (t + 1) (omega (arith, c.loop-step-test.true, c.need-step-end.ensures.need)) in
    omega (arith, next, most, c.needs-needs.ensures.some, few_coded s c.args.stream)

pub overflow_add-bit : goal.overflow_add-bit
overflow_add-bit c =
    let s : Settings = c.args.settings.now in
    let r : Rate = rate s c.args.stream in
    let t : ℕ = c.loop-step.step in
    let needs : c.needs-needs.result ≡ needed r t = c.needs-needs.ensures.step r t c.loop-step.invariant.at in
    let next : c.loop-step.bit + c.needs-needs.result ≡ sent_before r (t + 1) = omega (arith, c.loop-step.invariant.number, needs, (c.steps_are_numbered.ensures r t).grows) in
    let most : sent_before r (t + 1) ≤ coded s c.args.stream = most_sent s c.steps_are_numbered.ensures c.args.stream (t + 1) (omega (arith, c.loop-step-test.true, c.need-step-end.ensures.need)) in
    omega (arith, next, most, c.needs-needs.ensures.some, few_coded s c.args.stream)
