use Rattle.std.proofs.Common.{◌≡◌, ℕ, ◌<◌, ◌≤◌, ◌∙◌, ap, subst}
use Rattle.std.specs.Prelude.{is_some}
use Rattle.measure_words.specs.Sums.{counted}
use Rattle.measure_words.proofs.Counting.{word_counted}
use Rattle.measure_words.proofs.words.count_word.Goals as goal

pub returns-clause-counted : goal.returns-clause-counted
returns-clause-counted c = λ bytes done from h l r d.
    let e = c.bits_apart-repaired.ensures.is in
    let all = c.args.all.now in
    let current = c.args.current.now in
    let later = c.args.later.now in
    let outcome = c.args.slot.now.outcome in
    let phased = c.is_some-phased.result in
    word_counted c.args.outer.now c.finish_word.new.self all current later c.count.new.self c.count_apart.new.current c.count_apart.new.later bytes done from c.args.limit c.args.received.now c.args.slot.now.word outcome phased
    h l r d c.finish_word.ensures.stands c.finish_word.ensures.phase (c.is_some-phased.ensures ∙ ap is_some c.finish_word.ensures.packet)
    (subst (λ (n : ℕ). c.count.new.self ≡ counted all outcome phased n) e c.count.ensures.counted)
    (subst (λ (n : ℕ). all.words < c.args.limit → (c.count_apart.new.current ≡ counted current outcome phased n) × (c.count_apart.new.later ≡ later)) e c.count_apart.ensures.below)
    (subst (λ (n : ℕ). c.args.limit ≤ all.words → (c.count_apart.new.current ≡ current) × (c.count_apart.new.later ≡ counted later outcome phased n)) e c.count_apart.ensures.above)
