use Rattle.std.proofs.Common.{◌∙◌, sym, ap, subst, subst₂, drop}
use Rattle.spec_words.specs.Bits.{is_set}
use Rattle.survivor_ring.specs.Survivors.{IsAlike, GivesAway, all_pushed}
use Rattle.survivor_ring.proofs.AllAlive.{all_alive, alike_as, gives_as}
use Rattle.survivor_ring.proofs.survivors.Survivors.push_and_give.Goals as goal

pub returns-clause-shared : goal.returns-clause-shared
returns-clause-shared g c =
    subst₂ (λ x y. IsAlike x (all_pushed (g.Self.Survivors.list c.args.self.now) c.args.decisions.now) y c.shared-number.result) c.push_all.ensures.states c.push_all.ensures.count
    (alike_as _ (g.Self.Survivors.list c.push_all.new.self) (all_pushed (g.Self.Survivors.list c.args.self.now) c.args.decisions.now) _ c.shared-number.result (λ n l. sym (c.push_all.ensures.list.each n l)) c.shared-number.ensures.shared)

pub returns-clause-list : goal.returns-clause-list
returns-clause-list g c = λ n l.
    c.give.ensures.list n l (ap (λ z. is_set z n) (c.push_all.ensures.states ∙ c.requires.all) ∙ all_alive n l) ∙ ap (drop c.shared-number.result) (c.push_all.ensures.list.each n l)

pub returns-clause-given : goal.returns-clause-given
returns-clause-given g c =
    subst (λ x. GivesAway x (all_pushed (g.Self.Survivors.list c.args.self.now) c.args.decisions.now) c.shared-number.result c.args.to.now c.give.new.to) c.push_all.ensures.states
    (gives_as _ (g.Self.Survivors.list c.push_all.new.self) (all_pushed (g.Self.Survivors.list c.args.self.now) c.args.decisions.now) c.shared-number.result _ _ (λ n l. sym (c.push_all.ensures.list.each n l)) c.give.ensures.given)
