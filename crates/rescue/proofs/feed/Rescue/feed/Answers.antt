use Rattle.std.proofs.Common.{ℕ, List, [], ◌++◌, map, sym, ap, ◌∙◌, subst, arith}
use Rattle.code_paths.specs.declared.costs.CostPair.{CostPair}
use Rattle.mode_set.specs.declared.modes.Stream.TheVariants.{Hp, Lp}
use Rattle.inner_decoder.specs.Events.{ats}
use Rattle.inner_decoder.specs.Running.{BranchState}
use Rattle.rx_report.specs.declared.counts.Event.{Event}
use Rattle.reception.specs.Lines.{event_at}
use Rattle.reception.specs.Feeds.{Output}
use Rattle.rescue.specs.Feeds.{Feeds}
use Rattle.reception.specs.Streams.{so_far}
use Rattle.rescue.specs.Kept.{seen, IsKeptStream}
use Rattle.rescue.specs.Seen.{RescueState}
use Rattle.rescue.specs.Standing.{StreamGave, StandsFor}
use Rattle.rescue.proofs.Feeding.{state, feeds_within, feeds_whole}
use Rattle.rescue.proofs.Keeping.{may_take, ran_from, keeps}
use Rattle.rescue.proofs.feed.Rescue.feed.Goals as goal

pub returns-then-not-whole-clause-fed : goal.returns-then-not-whole-clause-fed
returns-then-not-whole-clause-fed g c = λ b r.
    let x = c.self.inside in
    let n = c.feed-count.result in
    subst (λ (z : RescueState). StandsFor so_far z b r → Feeds (StandsFor so_far (state c.feed-count.new.self (seen x.hp) (seen x.lp) x.ended)) z.settings b c.args.piece.now r n c.clear.new.self) c.self.view_is
    (λ h. feeds_within c.symbols.ensures.same c.costs.ensures.same c.bits.ensures.byte c.receiving.ensures.all x.cells c.feed-count.new.self (seen x.hp) (seen x.lp) x.ended b c.args.piece.now n r c.clear.new.self
    c.feed-count.ensures.settings c.feed-count.ensures.fed (sym c.if-not-whole.ensures.whole) c.clear.ensures h)

pub returns-clause-fed : goal.returns-clause-fed
returns-clause-fed g c = λ b r.
    let x = c.self.inside in
    let n = c.feed-count.result in
    let new = c.feed-count.new.self in
    let hp = seen c.deliver.new.self in
    let lp = seen c.deliver-2.new.self in
    let out : Output = record { hp = c.deliver.new.to.items; lp = c.deliver-2.new.to.items; events = c.take_symbol.new.events.items } in
    let empty = c.out.view_is ∙ c.clear.ensures in
    let hp_steps : List ℕ = ats c.deliver.new.self.branch.events in
    let lp_steps : List ℕ = ats c.deliver-2.new.self.branch.events in
    let hp_same = ap (λ (z : BranchState). z.events) c.deliver.ensures.rest in
    let lp_same = ap (λ (z : BranchState). z.events) c.deliver-2.ensures.rest in
    subst (λ (z : RescueState). StandsFor so_far z b r → Feeds (StandsFor so_far (state new hp lp x.ended)) z.settings b c.args.piece.now r n out) c.self.view_is
    (λ h. feeds_whole
    (record { next = c.symbols.ensures.next; events_next = c.events.ensures.next; one = c.bits.ensures.byte; all = c.receiving.ensures.all })
    x.cells new (seen x.hp) (seen x.lp) hp lp x.ended b c.args.piece.now n r out hp_steps lp_steps
    (ap (λ (z : RescueState). z.ended) c.self.view_is ∙ c.requires.going) c.feed-count.ensures.settings c.feed-count.ensures.fed (sym c.if-not-whole.ensures.whole)
    (record {
      hp_gave = λ a s d t q m. subst (λ (z : List CostPair). StreamGave so_far hp a (s ++ z) d (q ++ hp_steps) [] c.deliver.new.to.items) c.pairs-hp_pairs.ensures.pairs
          (subst (λ (z : List ℕ). StreamGave so_far hp a (s ++ c.pairs-hp_pairs.result.now) d (q ++ hp_steps) z c.deliver.new.to.items) (ap (λ (o : Output). o.hp) empty) (c.deliver.ensures.fed x.hp.branch c.take_symbol.ensures.hp a s d t q m));
      lp_gave = λ a s d t q m. subst (λ (z : List CostPair). StreamGave so_far lp a (s ++ z) d (q ++ lp_steps) [] c.deliver-2.new.to.items) c.pairs-lp_pairs.ensures.pairs
          (subst (λ (z : List ℕ). StreamGave so_far lp a (s ++ c.pairs-lp_pairs.result.now) d (q ++ lp_steps) z c.deliver-2.new.to.items) (ap (λ (o : Output). o.lp) empty) (c.deliver-2.ensures.fed x.lp.branch c.take_symbol.ensures.lp a s d t q m));
      events_are = c.take_symbol.ensures.events ∙ ap (λ (z : List Event). z ++ map (event_at Hp) (ats c.take_symbol.new.hp.events) ++ map (event_at Lp) (ats c.take_symbol.new.lp.events)) (ap (λ (o : Output). o.events) empty)
          ∙ ap (λ z. map (event_at Hp) (ats z) ++ map (event_at Lp) (ats c.take_symbol.new.lp.events)) (sym hp_same) ∙ ap (λ z. map (event_at Hp) hp_steps ++ map (event_at Lp) (ats z)) (sym lp_same);
    }) h)

pub take_symbol-requires-clause-hp : goal.take_symbol-requires-clause-hp
take_symbol-requires-clause-hp g c κs within =
    let e = ap (λ (z : RescueState). z.ended) c.self.view_is ∙ c.requires.going in
    let few = ap (λ (z : RescueState). z.taken) c.self.view_is in
    may_take c.self.inside.hp _ c.self.inside.cells.taken (c.self.invariant.hp_kept e) (omega (arith, few, c.requires.few)) c.pairs-hp_pairs.ensures.largest

pub take_symbol-requires-clause-lp : goal.take_symbol-requires-clause-lp
take_symbol-requires-clause-lp g c κs within =
    let e = ap (λ (z : RescueState). z.ended) c.self.view_is ∙ c.requires.going in
    let few = ap (λ (z : RescueState). z.taken) c.self.view_is in
    may_take c.self.inside.lp _ c.self.inside.cells.taken (c.self.invariant.lp_kept e) (omega (arith, few, c.requires.few)) c.pairs-lp_pairs.ensures.largest

pub deliver-requires-clause-ran : goal.deliver-requires-clause-ran
deliver-requires-clause-ran g c =
    let e = ap (λ (z : RescueState). z.ended) c.self.view_is ∙ c.requires.going in
    ran_from c.self.inside.hp c.take_symbol.new.hp _ (c.self.invariant.hp_kept e).ready c.take_symbol.ensures.hp

pub deliver-requires-2-clause-ran : goal.deliver-requires-2-clause-ran
deliver-requires-2-clause-ran g c =
    let e = ap (λ (z : RescueState). z.ended) c.self.view_is ∙ c.requires.going in
    ran_from c.self.inside.lp c.take_symbol.new.lp _ (c.self.invariant.lp_kept e).ready c.take_symbol.ensures.lp

pub invariant_of-self-2 : goal.invariant_of-self-2
invariant_of-self-2 g c =
    let e = ap (λ (z : RescueState). z.ended) c.self.view_is ∙ c.requires.going in
    let x = c.self.inside in
    let more = c.feed-count.ensures.ended (sym c.if-not-whole.ensures.whole) in
    record {
      hp_kept = λ _. subst (λ k. IsKeptStream c.deliver.new.self k) (sym more)
          (keeps x.hp c.deliver.new.self c.take_symbol.new.hp _ x.cells.taken (c.self.invariant.hp_kept e) c.pairs-hp_pairs.ensures.largest
          c.take_symbol.ensures.hp c.deliver.ensures.rest c.deliver.ensures.ready c.deliver.ensures.counts);
      lp_kept = λ _. subst (λ k. IsKeptStream c.deliver-2.new.self k) (sym more)
          (keeps x.lp c.deliver-2.new.self c.take_symbol.new.lp _ x.cells.taken (c.self.invariant.lp_kept e) c.pairs-lp_pairs.ensures.largest
          c.take_symbol.ensures.lp c.deliver-2.ensures.rest c.deliver-2.ensures.ready c.deliver-2.ensures.counts);
      few_taken = omega (arith, more, c.requires.few, ap (λ (z : RescueState). z.taken) c.self.view_is);
    }
