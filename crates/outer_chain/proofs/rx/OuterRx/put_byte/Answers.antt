use Rattle.std.proofs.Common.{◌≤◌, ◌-◌, ◌++◌, ◌∷◌, ◌%◌, [], List, ℕ, length, take, drop, sym, ◌∙◌, ap, subst, arith}
use Rattle.std.specs.Vec.{with_item}
use Rattle.outer_chain.specs.Words.{word_count}
use Rattle.outer_chain.specs.Receiving.{Receives}
use Rattle.outer_chain.proofs.Taking.{made_of, goes_on, no_word_yet, begins_anew, puts_word, puts_none, slot_of}
use Rattle.outer_chain.proofs.BurstWords.{is_near}
use Rattle.outer_chain.proofs.rx.OuterRx.put_byte.Goals as goal

pub returns-then-self-lt-LAST-clause-stands : goal.returns-then-self-lt-LAST-clause-stands
returns-then-self-lt-LAST-clause-stands c = λ bytes h.
    let r = c.self.inside in
    let g = subst (λ x. Receives x bytes) (sym c.self.view_is) h in
    goes_on r.words.items r.next c.place_after-self-inside.result r.start c.args.byte r.phase bytes c.self.invariant.1 (omega (arith, c.self.invariant.2, c.if-self-lt-LAST.true)) c.place_after-self-inside.ensures.is g

pub returns-then-self-lt-LAST-clause-word : goal.returns-then-self-lt-LAST-clause-word
returns-then-self-lt-LAST-clause-word c = λ bytes h e.
    let r = c.self.inside in
    let g = subst (λ x. Receives x bytes) (sym c.self.view_is) h in
    absurd (no_word_yet r.words.items r.next r.start c.args.byte r.phase bytes (omega (arith, c.self.invariant.2, c.if-self-lt-LAST.true)) g e)

pub returns-then-self-lt-LAST-clause-bursts : goal.returns-then-self-lt-LAST-clause-bursts
returns-then-self-lt-LAST-clause-bursts c = λ bytes packets h b e.
    let longer = bytes ++ c.args.byte ∷ [] in
    is_near packets (length longer) (word_count longer - 1) longer b.are_packets b.bursts (omega (arith, e.1))

pub returns-clause-stands : goal.returns-clause-stands
returns-clause-stands c = λ bytes h.
    let r = c.self.inside in
    let g = subst (λ x. Receives x bytes) (sym c.self.view_is) h in
    let last : 203 ≤ r.next % 204 = omega (arith, c.self.invariant.2, c.if-self-lt-LAST.false) in
    subst (λ s. Receives (made_of (with_item r.words r.next c.args.byte).items c.place_after-self-inside.result s r.phase) (bytes ++ c.args.byte ∷ [])) (sym c.end_word.ensures.start)
    (begins_anew r.words.items r.next c.place_after-self-inside.result r.start c.args.byte r.phase bytes c.self.invariant.1 last c.place_after-self-inside.ensures.is g)

pub returns-clause-word : goal.returns-clause-word
returns-clause-word c = λ bytes h e.
    let r = c.self.inside in
    let g = subst (λ x. Receives x bytes) (sym c.self.view_is) h in
    let last : 203 ≤ r.next % 204 = omega (arith, c.self.invariant.2, c.if-self-lt-LAST.false) in
    puts_word r.words.items r.next r.start c.args.byte r.phase bytes _ _ c.self.invariant.1 last g
    (λ z. c.end_word.ensures.word z ∙ ap (λ (v : List ℕ). c.args.slots.now.items ++ slot_of (take 204 (drop (r.next - 203) v)) ∷ []) c.as_slice.ensures.value) e

pub returns-clause-none : goal.returns-clause-none
returns-clause-none c = λ bytes h n.
    let r = c.self.inside in
    let g = subst (λ x. Receives x bytes) (sym c.self.view_is) h in
    let last : 203 ≤ r.next % 204 = omega (arith, c.self.invariant.2, c.if-self-lt-LAST.false) in
    puts_none r.words.items r.next r.start c.args.byte r.phase bytes _ _ last g c.end_word.ensures.none n

pub returns-clause-bursts : goal.returns-clause-bursts
returns-clause-bursts c = λ bytes packets h b e.
    let longer = bytes ++ c.args.byte ∷ [] in
    is_near packets (length longer) (word_count longer - 1) longer b.are_packets b.bursts (omega (arith, e.1))
