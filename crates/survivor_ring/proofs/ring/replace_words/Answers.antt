use Rattle.std.proofs.Common.{◌≡◌, ◌+◌, ◌-◌, ◌++◌, ◌∙◌, [], ap, ap₂, sym, arith, drop, length}
use Rattle.std.proofs.lemmas.List.{drop-append-le, drop_all, take_rest}
use Rattle.std.proofs.Math.Seq.{drop-append-add}
use Rattle.survivor_ring.proofs.ring.replace_words.Goals as goal

pub returns-then-number-count-clause-items : goal.returns-then-number-count-clause-items
returns-then-number-count-clause-items c =
    c.push_words.ensures.items ∙ ap (λ z. z ++ c.args.more.now) c.drop_words.ensures.items ∙ sym (drop-append-le c.args.number c.args.words.now.items c.args.more.now (omega (arith, c.len-count.ensures.len, c.if-number-count.true)))

pub returns-else-number-count-clause-items : goal.returns-else-number-count-clause-items
returns-else-number-count-clause-items c =
    let ws = c.args.words.now.items in
    let more = c.args.more.now in
    let k = c.args.number - c.len-count.result in
    let none : drop c.len-count.result ws ≡ [] = drop_all c.len-count.result ws (omega (arith, c.len-count.ensures.len)) in
    let sum : length ws + k ≡ c.args.number = omega (arith, c.len-count.ensures.len, c.if-number-count.false) in
    c.push_words-else-number-count.ensures.items ∙ ap₂ (λ x y. x ++ y) (c.drop_words-else-number-count.ensures.items ∙ none) (take_rest more k) ∙ sym (drop-append-add ws more k) ∙ ap (λ z. drop z (ws ++ more)) sum
