use Rattle.std.proofs.Common.{rules, ◌≡◌, ◌≤◌, ◌-◌, Bool, List, length, subst}
use Rattle.std.specs.Prelude.{min}
use Rattle.inner_chain.specs.Labels.{register_of}
use Rattle.measure_known_bits.specs.Seen.{KnownState}
use Rattle.measure_known_bits.specs.Passing.{HasPassed, Skips}
use Rattle.measure_known_bits.proofs.Steps.{passes, stays_long}
use Rattle.measure_known_bits.proofs.known.KnownBits.pass_by.Goals as goal

pub returns-clause-passed : goal.returns-clause-passed
returns-clause-passed g c = λ s m known.
    let x = c.self.inside in
    let old : KnownState = record { waiting = x.waiting.value; lag = x.lag; before = x.before } in
    let count : c.min-count.result ≡ min x.lag (length x.waiting.value) = search rules in
    let skips : Skips x.waiting.value c.skip_bits.new.from (register_of c.args.coder.now c.args.stream) (register_of c.skip_bits.new.coder c.args.stream) c.min-count.result =
    subst (λ (w : List Bool). Skips w c.skip_bits.new.from (register_of c.args.coder.now c.args.stream) (register_of c.skip_bits.new.coder c.args.stream) c.min-count.result) c.deref_mut.ensures.value c.skip_bits.ensures.skips in
    subst (λ (z : KnownState). HasPassed s c.args.stream m z (register_of c.args.coder.now c.args.stream) known
    → HasPassed s c.args.stream m (record { waiting = c.skip_bits.new.from; lag = x.lag - c.min-count.result; before = x.before }) (register_of c.skip_bits.new.coder c.args.stream) known) c.self.view_is
    (λ h. passes s c.args.stream m old c.skip_bits.new.from _ _ known c.min-count.result count skips h)

pub returns-clause-long : goal.returns-clause-long
returns-clause-long g c = λ l.
    let x = c.self.inside in
    let few : c.min-count.result ≤ length x.waiting.value = search rules in
    let skips : Skips x.waiting.value c.skip_bits.new.from (register_of c.args.coder.now c.args.stream) (register_of c.skip_bits.new.coder c.args.stream) c.min-count.result =
    subst (λ (w : List Bool). Skips w c.skip_bits.new.from (register_of c.args.coder.now c.args.stream) (register_of c.skip_bits.new.coder c.args.stream) c.min-count.result) c.deref_mut.ensures.value c.skip_bits.ensures.skips in
    stays_long x.waiting.value c.skip_bits.new.from _ _ c.min-count.result few l skips
