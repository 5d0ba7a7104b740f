use Rattle.std.proofs.Common.{refl, sym, subst, true≢false}
use Rattle.rescue_words.specs.Carrying.{Holds}
use Rattle.rescue_words.proofs.MarginWords.{goes_on, not_yet, begins_anew, ends_here, word_is}
use Rattle.rescue_words.proofs.plain.MarginRx.take.Goals as goal

pub returns-then-self-lt-LAST-clause-holds : goal.returns-then-self-lt-LAST-clause-holds
returns-then-self-lt-LAST-clause-holds c = λ margins h.
    let x = c.self.inside in
    let g = subst (λ z. Holds z margins) (sym c.self.view_is) h in
    goes_on x.lines c.step.new.self x.word x.filled c.step.result c.args.margin margins c.self.told c.if-self-lt-LAST.true g (c.step.ensures.stands margins g.carries) (c.step.ensures.given margins g.carries)

pub returns-then-self-lt-LAST-clause-ends : goal.returns-then-self-lt-LAST-clause-ends
returns-then-self-lt-LAST-clause-ends c = λ margins h.
    let x = c.self.inside in
    let g = subst (λ z. Holds z margins) (sym c.self.view_is) h in
    (λ e. absurd (true≢false (sym e)), λ e. absurd (not_yet x.lines x.word x.filled c.args.margin margins c.self.told c.if-self-lt-LAST.true g e))

pub returns-clause-holds : goal.returns-clause-holds
returns-clause-holds c = λ margins h.
    let x = c.self.inside in
    let g = subst (λ z. Holds z margins) (sym c.self.view_is) h in
    begins_anew x.lines c.step.new.self x.word x.word x.filled c.args.margin margins c.self.told c.self.invariant c.if-self-lt-LAST.false g (c.step.ensures.stands margins g.carries)

pub returns-clause-ends : goal.returns-clause-ends
returns-clause-ends c = λ margins h.
    let x = c.self.inside in
    let g = subst (λ z. Holds z margins) (sym c.self.view_is) h in
    (λ e. ends_here x.lines x.word x.filled c.args.margin margins c.self.told c.self.invariant c.if-self-lt-LAST.false g, λ e. refl)

pub returns-clause-word : goal.returns-clause-word
returns-clause-word c = λ margins h.
    let x = c.self.inside in
    let g = subst (λ z. Holds z margins) (sym c.self.view_is) h in
    word_is x.lines x.word x.filled c.step.result c.args.margin margins c.self.told c.self.invariant c.if-self-lt-LAST.false g (c.step.ensures.given margins g.carries)
