use Rattle.std.proofs.Common.{refl, sym, true≢false}
use Rattle.rescue_words.proofs.MarginWords.{goes_on, not_yet, begins_anew, ends_here, word_is}
use Rattle.rescue_words.proofs.fill.MarginFill.put.Goals as goal

pub returns-then-self-lt-LAST-clause-holds : goal.returns-then-self-lt-LAST-clause-holds
returns-then-self-lt-LAST-clause-holds c = λ margins h.
    let x = c.args.self.now in
    goes_on x.lines c.step.new.self x.word x.filled c.step.result c.args.margin margins c.requires.long c.if-self-lt-LAST.true h (c.step.ensures.stands margins h.carries) (c.step.ensures.given margins h.carries)

pub returns-then-self-lt-LAST-clause-ends : goal.returns-then-self-lt-LAST-clause-ends
returns-then-self-lt-LAST-clause-ends c = λ margins h.
    let x = c.args.self.now in
    (λ e. absurd (true≢false (sym e)), λ e. absurd (not_yet x.lines x.word x.filled c.args.margin margins c.requires.long c.if-self-lt-LAST.true h e))

pub returns-clause-holds : goal.returns-clause-holds
returns-clause-holds c = λ margins h.
    let x = c.args.self.now in
    begins_anew x.lines c.step.new.self x.word x.word x.filled c.args.margin margins c.requires.long c.requires.small c.if-self-lt-LAST.false h (c.step.ensures.stands margins h.carries)

pub returns-clause-ends : goal.returns-clause-ends
returns-clause-ends c = λ margins h.
    let x = c.args.self.now in
    (λ e. ends_here x.lines x.word x.filled c.args.margin margins c.requires.long c.requires.small c.if-self-lt-LAST.false h, λ e. refl)

pub returns-clause-word : goal.returns-clause-word
returns-clause-word c = λ margins h t.
    let x = c.args.self.now in
    word_is x.lines x.word x.filled c.step.result c.args.margin margins c.requires.long c.requires.small c.if-self-lt-LAST.false h (c.step.ensures.given margins h.carries)
