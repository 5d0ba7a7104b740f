use Rattle.std.proofs.Common.{◌≡◌, ◌-◌, ◌++◌, ◌∷◌, [], List, ℕ, length, take, drop, sym, ◌∙◌, ap, subst, refl, true≢false, arith}
use Rattle.std.specs.Prelude.{Some}
use Rattle.std.specs.Vec.{with_item}
use Rattle.outer_chain.specs.Words.{IsNear, word_count}
use Rattle.outer_chain.specs.Sent.{code_at}
use Rattle.outer_chain.specs.Receiving.{Receives}
use Rattle.outer_chain.proofs.Taking.{made_of, goes_on, no_word_yet, begins_anew, still_starting, word_ends, word_is}
use Rattle.outer_chain.proofs.BurstWords.{is_near}
use Rattle.outer_chain.proofs.rx.OuterRx.take_byte.Goals as goal

pub returns-then-self-lt-LAST-clause-stands : goal.returns-then-self-lt-LAST-clause-stands
returns-then-self-lt-LAST-clause-stands c = λ bytes h.
    let r = c.self.inside in
    let g = subst (λ x. Receives x bytes) (sym c.self.view_is) h in
    goes_on r.words.items r.next c.place_after-self-inside.result r.start c.args.byte r.phase bytes c.self.invariant.1 (omega (arith, c.self.invariant.2, c.if-self-lt-LAST.true)) c.place_after-self-inside.ensures.is g

pub returns-then-self-lt-LAST-clause-ends : goal.returns-then-self-lt-LAST-clause-ends
returns-then-self-lt-LAST-clause-ends c = λ bytes h.
    let r = c.self.inside in
    let g = subst (λ x. Receives x bytes) (sym c.self.view_is) h in
    (λ e. absurd (true≢false (sym e)), λ e. absurd (no_word_yet r.words.items r.next r.start c.args.byte r.phase bytes (omega (arith, c.self.invariant.2, c.if-self-lt-LAST.true)) g e))

pub returns-then-self-gt0-clause-stands : goal.returns-then-self-gt0-clause-stands
returns-then-self-gt0-clause-stands c = λ bytes h.
    let r = c.self.inside in
    let g = subst (λ x. Receives x bytes) (sym c.self.view_is) h in
    begins_anew r.words.items r.next c.place_after-self-inside.result r.start c.args.byte r.phase bytes c.self.invariant.1 (omega (arith, c.self.invariant.2, c.if-self-lt-LAST.false)) c.place_after-self-inside.ensures.is g

pub returns-then-self-gt0-clause-ends : goal.returns-then-self-gt0-clause-ends
returns-then-self-gt0-clause-ends c = λ bytes h.
    let r = c.self.inside in
    let g = subst (λ x. Receives x bytes) (sym c.self.view_is) h in
    (λ e. absurd (true≢false (sym e)), λ e. absurd (still_starting r.words.items r.next r.start c.args.byte r.phase bytes (omega (arith, c.self.invariant.2, c.if-self-lt-LAST.false)) c.if-self-gt0.true g e))

pub returns-clause-stands : goal.returns-clause-stands
returns-clause-stands c = λ bytes h.
    let r = c.self.inside in
    let g = subst (λ x. Receives x bytes) (sym c.self.view_is) h in
    let none : r.start - 1 ≡ r.start = omega (arith, c.if-self-gt0.false) in
    subst (λ s. Receives (made_of (with_item r.words r.next c.args.byte).items c.place_after-self-inside.result s r.phase) (bytes ++ c.args.byte ∷ [])) none
    (begins_anew r.words.items r.next c.place_after-self-inside.result r.start c.args.byte r.phase bytes c.self.invariant.1 (omega (arith, c.self.invariant.2, c.if-self-lt-LAST.false)) c.place_after-self-inside.ensures.is g)

pub returns-clause-ends : goal.returns-clause-ends
returns-clause-ends c = λ bytes h.
    let r = c.self.inside in
    let g = subst (λ x. Receives x bytes) (sym c.self.view_is) h in
    (λ e. word_ends r.words.items r.next r.start c.args.byte r.phase bytes (omega (arith, c.self.invariant.2, c.if-self-lt-LAST.false)) c.if-self-gt0.false g, λ e. refl)

pub returns-clause-word : goal.returns-clause-word
returns-clause-word c = λ bytes h.
    let r = c.self.inside in
    let g = subst (λ x. Receives x bytes) (sym c.self.view_is) h in
    c.word_from.ensures ∙ ap (λ (v : List ℕ). take 204 (drop (r.next - 203) v)) c.as_slice.ensures.value
    ∙ word_is r.words.items r.next r.start c.args.byte r.phase bytes c.self.invariant.1 (omega (arith, c.self.invariant.2, c.if-self-lt-LAST.false)) c.if-self-gt0.false g

pub returns-clause-bursts : goal.returns-clause-bursts
returns-clause-bursts c = λ bytes packets h b.
    let r = c.self.inside in
    let g = subst (λ x. Receives x bytes) (sym c.self.view_is) h in
    let longer = bytes ++ c.args.byte ∷ [] in
    let ends = word_ends r.words.items r.next r.start c.args.byte r.phase bytes (omega (arith, c.self.invariant.2, c.if-self-lt-LAST.false)) c.if-self-gt0.false g in
    subst (λ w. IsNear w (Some (code_at packets (word_count longer - 1)))) (sym (returns-clause-word c bytes h))
    (is_near packets (length longer) (word_count longer - 1) longer b.are_packets b.bursts (omega (arith, ends.1)))
