use Rattle.std.proofs.Common.{◌≡◌, ◌++◌, sym, ap, subst, ◌∙◌, List, ℕ, length}
use Rattle.std.proofs.lemmas.List.{with_items_is}
use Rattle.std.specs.Vec.{with_items}
use Rattle.forney.specs.Delays.{StandsFor, rising, delays}
use Rattle.forney.specs.Window.{HasTaken, window_lines}
use Rattle.forney.proofs.WindowLines.{stands_holds, holds_stands, holds_more, word_given}
use Rattle.forney.proofs.word_interleaver.WordInterleaver.take.Goals as goal

pub returns-clause-given : goal.returns-clause-given
returns-clause-given c = λ coded h.
    let old = c.deref_mut.result.now in
    let kept : (with_items c.self.inside.window c.push_word.new.window).items ≡ c.push_word.new.window =
    with_items_is c.self.inside.window c.push_word.new.window (c.push_word.ensures.size ∙ sym c.self.invariant ∙ sym (ap length c.deref_mut.ensures.value) ∙ c.deref_mut.ensures.len) in
    let same : c.deref.result.now ≡ c.push_word.new.window = c.deref.ensures.value ∙ kept in
    let taken : HasTaken old c.args.word.now c.deref.result.now = subst (λ (z : List ℕ). HasTaken old c.args.word.now z) (sym same)
    (record { size = c.push_word.ensures.size; kept = c.push_word.ensures.kept; taken = c.push_word.ensures.taken }) in
    word_given old c.args.word.now c.deref.result.now c.put_word.new.word coded c.requires c.put_word.ensures.size taken
    (stands_holds old coded (subst (λ (w : List ℕ). StandsFor rising (delays (window_lines w) 0) coded) (sym c.deref_mut.ensures.value) (subst (λ d. StandsFor rising d coded) (sym c.self.view_is) h)))
    c.put_word.ensures.bytes

pub returns-clause-stands : goal.returns-clause-stands
returns-clause-stands c = λ coded h.
    let old = c.deref_mut.result.now in
    let kept : (with_items c.self.inside.window c.push_word.new.window).items ≡ c.push_word.new.window =
    with_items_is c.self.inside.window c.push_word.new.window (c.push_word.ensures.size ∙ sym c.self.invariant ∙ sym (ap length c.deref_mut.ensures.value) ∙ c.deref_mut.ensures.len) in
    let taken : HasTaken old c.args.word.now c.push_word.new.window = record { size = c.push_word.ensures.size; kept = c.push_word.ensures.kept; taken = c.push_word.ensures.taken } in
    let held : StandsFor rising (delays (window_lines c.push_word.new.window) 0) (coded ++ c.args.word.now) =
    holds_stands c.push_word.new.window (coded ++ c.args.word.now) (holds_more old c.args.word.now c.push_word.new.window coded c.requires taken
    (stands_holds old coded (subst (λ (w : List ℕ). StandsFor rising (delays (window_lines w) 0) coded) (sym c.deref_mut.ensures.value) (subst (λ d. StandsFor rising d coded) (sym c.self.view_is) h)))) in
    subst (λ (w : List ℕ). StandsFor rising (delays (window_lines w) 0) (coded ++ c.args.word.now)) (sym kept) held
