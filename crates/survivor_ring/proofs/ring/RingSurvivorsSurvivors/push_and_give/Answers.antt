use Rattle.std.proofs.Common.{◌++◌, ◌∙◌, ap, sym, subst, length, drop}
use Rattle.std.proofs.lemmas.List.{length-append}
use Rattle.bit_pack.specs.Queue.{bits_of_bytes}
use Rattle.survivor_ring.specs.Ring.{trace}
use Rattle.survivor_ring.specs.Survivors.{IsAlike, all_pushed}
use Rattle.survivor_ring.proofs.AllAlive.{all_traces, alike_as, gives_as}
use Rattle.survivor_ring.proofs.Walks.{traces_dropped, given_any}
use Rattle.survivor_ring.proofs.ring.RingSurvivorsSurvivors.push_and_give.Goals as goal

pub returns-clause-shared : goal.returns-clause-shared
returns-clause-shared g c =
    let ws = c.args.self.now.words.items in
    let ds = c.args.decisions.now in
    subst (λ x. IsAlike c.args.self.now.states (all_pushed (trace ws) ds) x c.shared_words-number.result) (length-append ws ds)
    (alike_as c.args.self.now.states (trace (ws ++ ds)) (all_pushed (trace ws) ds) (length (ws ++ ds)) c.shared_words-number.result (λ n l. all_traces ws ds n) c.shared_words-number.ensures)

pub returns-clause-list : goal.returns-clause-list
returns-clause-list g c = λ n l.
    let ws = c.args.self.now.words.items in
    let ds = c.args.decisions.now in
    traces_dropped (ws ++ ds) _ c.shared_words-number.result n c.replace_words.ensures.items ∙ ap (drop c.shared_words-number.result) (sym (all_traces ws ds n))

pub returns-clause-given : goal.returns-clause-given
returns-clause-given g c =
    let ws = c.args.self.now.words.items in
    let ds = c.args.decisions.now in
    gives_as c.args.self.now.states (trace (ws ++ ds)) (all_pushed (trace ws) ds) c.shared_words-number.result _ _ (λ n l. all_traces ws ds n)
    (given_any (ws ++ ds) c.args.self.now.states c.lowest-state.result c.shared_words-number.result (bits_of_bytes c.trace_back.new.bytes) _ _ c.lowest-state.ensures.below c.lowest-state.ensures.lives c.shared_words-number.ensures.within c.trace_back.ensures.bits c.append_traced.ensures.bits c.shared_words-number.ensures.alike)
