use Rattle.std.proofs.Common.{ℕ, ◌*◌, ◌^◌, true, List, ap, ◌∙◌, subst, arith}
use Rattle.reception.specs.Feeds.{Output}
use Rattle.reception.specs.Streams.{so_far, at_end}
use Rattle.rescue.specs.Feeds.{Finishes}
use Rattle.rescue.specs.Kept.{seen}
use Rattle.rescue.specs.Seen.{RescueState}
use Rattle.rescue.specs.Standing.{StreamGave, StandsFor}
use Rattle.rescue.proofs.Keeping.{few_more}
use Rattle.rescue.proofs.Feeding.{state, finishes}
use Rattle.rescue.proofs.feed.Rescue.finish.Goals as goal

pub finish-requires-clause-counts : goal.finish-requires-clause-counts
finish-requires-clause-counts g c =
    let e = ap (λ (z : RescueState). z.ended) c.self.view_is ∙ c.requires.going in
    few_more _ (4400 * c.self.inside.cells.taken) (2 ^ 60) (omega (arith, c.self.invariant.few_taken)) (c.self.invariant.hp_kept e).counts

pub finish-requires-2-clause-counts : goal.finish-requires-2-clause-counts
finish-requires-2-clause-counts g c =
    let e = ap (λ (z : RescueState). z.ended) c.self.view_is ∙ c.requires.going in
    few_more _ (4400 * c.self.inside.cells.taken) (2 ^ 60) (omega (arith, c.self.invariant.few_taken)) (c.self.invariant.lp_kept e).counts

pub returns-clause-finished : goal.returns-clause-finished
returns-clause-finished g c = λ b r.
    let x = c.self.inside in
    let y : RescueState = state x.cells (seen c.finish.new.self) (seen c.finish-2.new.self) true in
    let out : Output = record { hp = c.finish.new.to.items; lp = c.finish-2.new.to.items; events = c.out.inside.events.items } in
    let empty = c.out.view_is ∙ c.clear.ensures in
    subst (λ (z : RescueState). StandsFor so_far z b r → Finishes (StandsFor at_end y) z.settings b r out) c.self.view_is
    (finishes c.bits.ensures.byte c.receiving.ensures.all x.cells (seen x.hp) (seen x.lp) (seen c.finish.new.self) (seen c.finish-2.new.self) x.ended b r out (ap (λ (o : Output). o.events) empty)
    (λ a s d t q k. subst (λ (z : List ℕ). StreamGave at_end (seen c.finish.new.self) a s d q z c.finish.new.to.items) (ap (λ (o : Output). o.hp) empty) (c.finish.ensures.ended_stream a s d t q k))
    (λ a s d t q k. subst (λ (z : List ℕ). StreamGave at_end (seen c.finish-2.new.self) a s d q z c.finish-2.new.to.items) (ap (λ (o : Output). o.lp) empty) (c.finish-2.ensures.ended_stream a s d t q k)))
