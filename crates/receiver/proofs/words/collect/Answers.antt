use Rattle.std.proofs.Common.{◌/◌, ◌<◌, ◌≡◌, length, refl, ap, ◌∙◌, subst, arith}
use Rattle.inner_decoder.specs.Running.{BranchState}
use Rattle.outer_chain.specs.Words.{word_count}
use Rattle.receiver.specs.Words.{Collected}
use Rattle.receiver.proofs.Pending.{collected_none, collected_more, few_words}
use Rattle.receiver.proofs.words.collect.Goals as goal

pub loop-taken-init : goal.loop-taken-init
loop-taken-init c = (omega arith, omega (arith, c.waiting.ensures.number), record { wait = omega arith; rest = refl; same = refl; collected = λ b g t h. collected_none _ b g t _ _ c.requires.none h })

pub pass_run-requires-clause-wait : goal.pass_run-requires-clause-wait
pass_run-requires-clause-wait c = omega (arith, c.loop-taken.invariant.2.wait, c.loop-taken.invariant.1, c.loop-taken-test.true, c.run_of-number.ensures.few)

pub pass_run-requires-clause-room : goal.pass_run-requires-clause-room
pass_run-requires-clause-room c =
    let s = c.requires.started in
    let f : length c.loop-taken.slots.items < 24 = few_words _ _ s.bytes s.given s.tally c.loop-taken.taken _ _ (omega (arith, c.waiting.ensures.few, c.waiting.ensures.number, c.loop-taken.invariant.1, c.loop-taken-test.true)) (c.loop-taken.invariant.2.collected s.bytes s.given s.tally s.finished) in
    omega (arith, f, c.loop-taken.slots.ok, c.loop-taken.invariant.2.same, c.requires.room)

pub loop-taken-preserved : goal.loop-taken-preserved
loop-taken-preserved c = (
  omega (arith, c.loop-taken-test.true, c.run_of-number.ensures.few),
  c.loop-taken.invariant.1,
  record {
    wait = omega (arith, c.loop-taken.invariant.2.wait, c.pass_run.ensures.wait);
    rest = c.pass_run.ensures.rest ∙ ap (λ (z : BranchState). record z { wait = c.pass_run.new.branch.wait }) c.loop-taken.invariant.2.rest;
    same = c.pass_run.ensures.capacity ∙ c.loop-taken.invariant.2.same;
    collected = λ b g t h. collected_more _ _ _ b g t _ _ _ _ _ _ _ (c.loop-taken.invariant.2.collected b g t h) c.pass_run.ensures.passed;
  },
)

pub returns-clause-few : goal.returns-clause-few
returns-clause-few c =
    let s = c.requires.started in
    let f : length c.loop-taken.slots.items < 24 = few_words _ _ s.bytes s.given s.tally c.loop-taken.taken _ _ (omega (arith, c.waiting.ensures.few, c.waiting.ensures.number, c.loop-taken.invariant.0, c.loop-taken.invariant.1)) (c.loop-taken.invariant.2.collected s.bytes s.given s.tally s.finished) in
    omega (arith, f, c.loop-taken.slots.ok)

pub returns-clause-wait : goal.returns-clause-wait
returns-clause-wait c = omega (arith, c.loop-taken.invariant.2.wait, c.loop-taken.invariant.0, c.loop-taken.invariant.1, c.loop-taken-test.false)

pub returns-clause-collected : goal.returns-clause-collected
returns-clause-collected c = λ b g t h.
    let e : c.loop-taken.taken ≡ length c.args.branch.now.wait / 8 = omega (arith, c.loop-taken.invariant.0, c.loop-taken.invariant.1, c.loop-taken-test.false) in
    subst (λ k. Collected c.args.branch.now.wait b g t (word_count b) k c.loop-taken.outer c.loop-taken.branch.wait c.loop-taken.slots.items) e (c.loop-taken.invariant.2.collected b g t h)
