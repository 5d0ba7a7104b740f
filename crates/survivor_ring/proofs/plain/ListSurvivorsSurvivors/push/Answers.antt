use Rattle.std.proofs.Common.{subst, sym, ap, ◌≡◌}
use Rattle.std.specs.Global.{Vec}
use Rattle.std.proofs.Common.{Bool}
use Rattle.survivor_ring.specs.Rows.{AreSized, EachPushed}
use Rattle.survivor_ring.proofs.RowSteps.{rows_pushed, before_below, half_lives}
use Rattle.survivor_ring.proofs.plain.ListSurvivorsSurvivors.push.Goals as goal

pub invariant_of-self-clause-lives : goal.invariant_of-self-clause-lives
invariant_of-self-clause-lives g c = half_lives c.args.self.now.states c.args.decisions c.args.alive c.args.self.now.first c.requires.follows c.args.self.now.below c.args.self.now.lives

pub returns-clause-list : goal.returns-clause-list
returns-clause-list g c =
    let e : c.swap.new.x.items ≡ c.push_rows.new.next.items = ap (λ (v : Vec (Vec Bool)). v.items) c.swap.ensures.x_after in
    rows_pushed _ c.args.self.now.now.items c.swap.new.x.items c.args.self.now.waiting c.args.decisions c.args.alive c.args.self.now.now_sized
    (subst (AreSized _) (sym e) c.push_rows.ensures.sized)
    (subst (λ z. EachPushed c.args.self.now.now.items z c.args.self.now.waiting c.args.decisions 64) (sym e) c.push_rows.ensures.each) (before_below c.args.decisions)
