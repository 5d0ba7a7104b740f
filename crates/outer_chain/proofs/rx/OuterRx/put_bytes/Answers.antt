use Rattle.std.proofs.Common.{◌≡◌, ◌+◌, ◌-◌, ◌++◌, ◌∷◌, ◌%◌, [], List, ℕ, length, take, drop, sym, ◌∙◌, ap, subst, arith}
use Rattle.outer_chain.specs.Words.{word_count}
use Rattle.outer_chain.specs.Receiving.{Receiver, Receives, Holds}
use Rattle.outer_chain.proofs.Taking.{made_of, slot_of}
use Rattle.outer_chain.proofs.ByteRuns.{written_over, run_goes_on, run_no_word, run_begins, run_puts_word, run_puts_none}
use Rattle.outer_chain.proofs.BurstWords.{is_near}
use Rattle.outer_chain.proofs.rx.OuterRx.put_bytes.Goals as goal

pub invariant_of-self : goal.invariant_of-self
invariant_of-self c =
    let over = written_over c.self.inside.words.items c.put_each-next.new.words c.self.inside.words.len (omega (arith, c.put_each-next.ensures.size, c.self.invariant.0, c.self.inside.words.ok)) in
    (ap length over ∙ c.put_each-next.ensures.size, c.put_each-next.ensures.next, omega (arith, c.put_each-next.ensures.place, c.self.invariant.2, c.if-filled-lt-WORD.true), c.self.invariant.3)

pub returns-then-filled-lt-WORD-clause-stands : goal.returns-then-filled-lt-WORD-clause-stands
returns-then-filled-lt-WORD-clause-stands c = λ before h.
    let r = c.self.inside in
    let over = written_over r.words.items c.put_each-next.new.words r.words.len (omega (arith, c.put_each-next.ensures.size, c.self.invariant.0, r.words.ok)) in
    let g = subst (λ x. Receives x before) (sym c.self.view_is) h in
    let held : Holds r.words.items r.next before = record { twelve = g.twelve; next_is = g.next; holds = g.holds } in
    let k = c.put_each-next.ensures.holds before (subst (λ (w : List ℕ). Holds w r.next before) (sym c.as_mut_slice.ensures.value) held) in
    subst (λ (w : List ℕ). Receives (made_of w c.put_each-next.result r.start r.phase) (before ++ c.args.bytes.now)) (sym over)
    (run_goes_on r.words.items c.put_each-next.new.words r.next c.put_each-next.result r.start r.phase before c.args.bytes.now (omega (arith, c.self.invariant.2, c.if-filled-lt-WORD.true)) k g)

pub returns-then-filled-lt-WORD-clause-word : goal.returns-then-filled-lt-WORD-clause-word
returns-then-filled-lt-WORD-clause-word c = λ before h e.
    let r = c.self.inside in
    let g = subst (λ x. Receives x before) (sym c.self.view_is) h in
    absurd (run_no_word r.words.items r.next r.start r.phase before c.args.bytes.now c.requires.some (omega (arith, c.self.invariant.2, c.if-filled-lt-WORD.true)) g e)

pub returns-then-filled-lt-WORD-clause-bursts : goal.returns-then-filled-lt-WORD-clause-bursts
returns-then-filled-lt-WORD-clause-bursts c = λ before packets h b e.
    let longer = before ++ c.args.bytes.now in
    is_near packets (length longer) (word_count longer - 1) longer b.are_packets b.bursts (omega (arith, e.1))

pub end_word-requires-clause-within : goal.end_word-requires-clause-within
end_word-requires-clause-within c =
    let r = c.self.inside in
    let over = written_over r.words.items c.put_each-next.new.words r.words.len (omega (arith, c.put_each-next.ensures.size, c.self.invariant.0, r.words.ok)) in
    let l : r.next % 204 + length c.args.bytes.now ≡ 204 = omega (arith, c.self.invariant.2, c.if-filled-lt-WORD.false, c.requires.within, ap (λ (x : Receiver). x.next) c.self.view_is) in
    omega (arith, ap length (c.as_slice.ensures.value ∙ over), c.put_each-next.ensures.size, c.put_each-next.ensures.next, c.put_each-next.ensures.place, l)

pub invariant_of-self-2 : goal.invariant_of-self-2
invariant_of-self-2 c =
    let r = c.self.inside in
    let over = written_over r.words.items c.put_each-next.new.words r.words.len (omega (arith, c.put_each-next.ensures.size, c.self.invariant.0, r.words.ok)) in
    let l : r.next % 204 + length c.args.bytes.now ≡ 204 = omega (arith, c.self.invariant.2, c.if-filled-lt-WORD.false, c.requires.within, ap (λ (x : Receiver). x.next) c.self.view_is) in
    (ap length over ∙ c.put_each-next.ensures.size, c.put_each-next.ensures.next, omega (arith, c.put_each-next.ensures.place, l), c.self.invariant.3)

pub returns-clause-stands : goal.returns-clause-stands
returns-clause-stands c = λ before h.
    let r = c.self.inside in
    let over = written_over r.words.items c.put_each-next.new.words r.words.len (omega (arith, c.put_each-next.ensures.size, c.self.invariant.0, r.words.ok)) in
    let l : r.next % 204 + length c.args.bytes.now ≡ 204 = omega (arith, c.self.invariant.2, c.if-filled-lt-WORD.false, c.requires.within, ap (λ (x : Receiver). x.next) c.self.view_is) in
    let g = subst (λ x. Receives x before) (sym c.self.view_is) h in
    let held : Holds r.words.items r.next before = record { twelve = g.twelve; next_is = g.next; holds = g.holds } in
    let k = c.put_each-next.ensures.holds before (subst (λ (w : List ℕ). Holds w r.next before) (sym c.as_mut_slice.ensures.value) held) in
    subst (λ (w : List ℕ). Receives (made_of w c.put_each-next.result c.end_word.new.start r.phase) (before ++ c.args.bytes.now)) (sym over)
    (subst (λ s. Receives (made_of c.put_each-next.new.words c.put_each-next.result s r.phase) (before ++ c.args.bytes.now)) (sym c.end_word.ensures.start)
    (run_begins r.words.items c.put_each-next.new.words r.next c.put_each-next.result r.start r.phase before c.args.bytes.now l k g))

pub returns-clause-word : goal.returns-clause-word
returns-clause-word c = λ before h e.
    let r = c.self.inside in
    let over = written_over r.words.items c.put_each-next.new.words r.words.len (omega (arith, c.put_each-next.ensures.size, c.self.invariant.0, r.words.ok)) in
    let l : r.next % 204 + length c.args.bytes.now ≡ 204 = omega (arith, c.self.invariant.2, c.if-filled-lt-WORD.false, c.requires.within, ap (λ (x : Receiver). x.next) c.self.view_is) in
    let g = subst (λ x. Receives x before) (sym c.self.view_is) h in
    let held : Holds r.words.items r.next before = record { twelve = g.twelve; next_is = g.next; holds = g.holds } in
    let k = c.put_each-next.ensures.holds before (subst (λ (w : List ℕ). Holds w r.next before) (sym c.as_mut_slice.ensures.value) held) in
    run_puts_word r.words.items c.put_each-next.new.words r.next c.put_each-next.result r.start r.phase before c.args.bytes.now _ _ l k g
    (λ z. c.end_word.ensures.word z ∙ ap (λ (v : List ℕ). c.args.slots.now.items ++ slot_of (take 204 (drop c.put_each-next.result v)) ∷ []) (c.as_slice.ensures.value ∙ over)) e

pub returns-clause-none : goal.returns-clause-none
returns-clause-none c = λ before h n.
    let r = c.self.inside in
    let l : r.next % 204 + length c.args.bytes.now ≡ 204 = omega (arith, c.self.invariant.2, c.if-filled-lt-WORD.false, c.requires.within, ap (λ (x : Receiver). x.next) c.self.view_is) in
    let g = subst (λ x. Receives x before) (sym c.self.view_is) h in
    run_puts_none r.words.items r.next r.start r.phase before c.args.bytes.now _ _ l g c.end_word.ensures.none n

pub returns-clause-bursts : goal.returns-clause-bursts
returns-clause-bursts c = λ before packets h b e.
    let longer = before ++ c.args.bytes.now in
    is_near packets (length longer) (word_count longer - 1) longer b.are_packets b.bursts (omega (arith, e.1))
