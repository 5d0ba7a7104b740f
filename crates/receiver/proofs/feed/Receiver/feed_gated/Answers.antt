use Rattle.std.proofs.Common.{ℕ, ◌≡◌, ◌+◌, List, ◌++◌, map, sym, ap, ◌∙◌, subst, arith}
use Rattle.code_paths.specs.declared.costs.CostPair.{CostPair}
use Rattle.mode_set.specs.declared.modes.Stream.TheVariants.{Hp, Lp}
use Rattle.mode_set.specs.declared.settings.Settings.{Settings}
use Rattle.inner_decoder.specs.Events.{ats}
use Rattle.inner_decoder.specs.Running.{BranchState}
use Rattle.rx_report.specs.declared.counts.Event.{Event}
use Rattle.pilots.specs.Carriers.{tps_carriers}
use Rattle.qam_map.specs.declared.cell.Cell.{Cell}
use Rattle.qam_map.specs.Cells.{cell_of}
use Rattle.inner_receiver.specs.Framing.{FrameStands}
use Rattle.reception.specs.Lines.{event_at}
use Rattle.reception.specs.Feeds.{Output, Feeds}
use Rattle.reception.specs.Streams.{so_far}
use Rattle.inner_receiver.specs.Branches.{HasTaken}
use Rattle.receiver.specs.Ready.{seen, IsKeptStream}
use Rattle.receiver.specs.Seen.{ReceiverState}
use Rattle.receiver.specs.Standing.{StreamGave, StandsFor}
use Rattle.receiver.proofs.Feeding.{state, feeds_within, feeds_whole}
use Rattle.receiver.proofs.Stepping.{may_take, may_give, keeps}
use Rattle.receiver.proofs.feed.Receiver.feed_gated.Goals as goal

pub returns-then-not-whole-clause-fed : goal.returns-then-not-whole-clause-fed
returns-then-not-whole-clause-fed g c = λ b r.
    let x = c.self.inside in
    let n = c.feed-count.result in
    subst (λ (z : ReceiverState). StandsFor so_far z b r → Feeds (StandsFor so_far (state c.feed-count.new.self (seen x.hp) (seen x.lp) x.frames x.ended)) z.settings b c.args.piece.now r n c.clear.new.self) c.self.view_is
    (λ h. feeds_within c.symbols.ensures.same c.symbols.ensures.tps c.symbols.ensures.bits c.costs.ensures.same c.bits.ensures.byte c.receiving.ensures.all x.cells c.feed-count.new.self (seen x.hp) (seen x.lp) x.frames x.ended b c.args.piece.now n r c.clear.new.self
    c.feed-count.ensures.settings c.feed-count.ensures.fed (sym c.if-not-whole.ensures.whole) c.clear.ensures h)

pub returns-clause-fed : goal.returns-clause-fed
returns-clause-fed g c = λ b r.
    let x = c.self.inside in
    let n = c.feed-count.result in
    let new = c.feed-count.new.self in
    let hp = seen c.deliver.new.self in
    let lp = seen c.deliver-2.new.self in
    let out : Output = record { hp = c.deliver.new.to.items; lp = c.deliver-2.new.to.items; events = c.take_symbol.new.events.items } in
    let empty = c.out.view_is ∙ c.clear.ensures in
    let hp_steps : List ℕ = ats c.deliver.new.self.branch.events in
    let lp_steps : List ℕ = ats c.deliver-2.new.self.branch.events in
    let hp_same = ap (λ (z : BranchState). z.events) c.deliver.ensures.rest in
    let lp_same = ap (λ (z : BranchState). z.events) c.deliver-2.ensures.rest in
    subst (λ (z : ReceiverState). StandsFor so_far z b r → Feeds (StandsFor so_far (state new hp lp c.take.new.self x.ended)) z.settings b c.args.piece.now r n out) c.self.view_is
    (λ h. feeds_whole
    (record { next = c.symbols.ensures.next; stay = c.symbols.ensures.tps; bits = c.symbols.ensures.bits; events_next = c.events.ensures.next; one = c.bits.ensures.byte; all = c.receiving.ensures.all })
    x.cells new (seen x.hp) (seen x.lp) hp lp x.frames c.take.new.self x.ended b c.args.piece.now n r out hp_steps lp_steps
    (ap (λ (z : ReceiverState). z.ended) c.self.view_is ∙ c.requires.going) c.feed-count.ensures.settings c.feed-count.ensures.fed (sym c.if-not-whole.ensures.whole)
    (record {
      hp_gave = λ a s d t q m. subst (λ (z : List ℕ). StreamGave so_far hp a (s ++ new.hp) d (q ++ hp_steps) z c.deliver.new.to.items) (ap (λ (o : Output). o.hp) empty)
          (c.deliver.ensures.fed x.hp.branch new.hp (subst (λ (z : List CostPair). HasTaken z x.hp.branch c.take_symbol.new.hp) c.pairs.ensures.pairs c.take_symbol.ensures.hp) a s d t q m);
      lp_gave = λ a s d t q m. subst (λ (z : List ℕ). StreamGave so_far lp a (s ++ new.lp) d (q ++ lp_steps) z c.deliver-2.new.to.items) (ap (λ (o : Output). o.lp) empty)
          (c.deliver-2.ensures.fed x.lp.branch new.lp (subst (λ (z : List CostPair). HasTaken z x.lp.branch c.take_symbol.new.lp) c.pairs-2.ensures.pairs c.take_symbol.ensures.lp) a s d t q m);
      events_are = c.take_symbol.ensures.events ∙ ap (λ (z : List Event). z ++ map (event_at Hp) (ats c.take_symbol.new.hp.events) ++ map (event_at Lp) (ats c.take_symbol.new.lp.events)) (ap (λ (o : Output). o.events) empty)
          ∙ ap (λ z. map (event_at Hp) (ats z) ++ map (event_at Lp) (ats c.take_symbol.new.lp.events)) (sym hp_same) ∙ ap (λ z. map (event_at Hp) hp_steps ++ map (event_at Lp) (ats z)) (sym lp_same);
      framed = subst (λ (z : Settings). (shown : ℕ → List Cell) (m : ℕ) → shown m ≡ map (cell_of new.cells) (tps_carriers z.mode) → FrameStands z.mode x.frames shown m → FrameStands z.mode c.take.new.self shown (m + 1)) c.settings-settings.ensures.settings
          (subst (λ (z : List Cell). (shown : ℕ → List Cell) (m : ℕ) → shown m ≡ map (cell_of z) (tps_carriers c.settings-settings.result.now.mode) → FrameStands c.settings-settings.result.now.mode x.frames shown m → FrameStands c.settings-settings.result.now.mode c.take.new.self shown (m + 1)) c.cells.ensures.cells c.take.ensures.taken);
    }) h)

pub take_symbol-requires-clause-hp : goal.take_symbol-requires-clause-hp
take_symbol-requires-clause-hp g c κs within =
    let e = ap (λ (z : ReceiverState). z.ended) c.self.view_is ∙ c.requires.going in
    let few = ap (λ (z : ReceiverState). z.taken) c.self.view_is in
    may_take c.self.inside.hp _ c.self.inside.cells.taken (c.self.invariant.hp_kept e) (omega (arith, few, c.requires.few)) c.pairs.ensures.largest

pub take_symbol-requires-clause-lp : goal.take_symbol-requires-clause-lp
take_symbol-requires-clause-lp g c κs within =
    let e = ap (λ (z : ReceiverState). z.ended) c.self.view_is ∙ c.requires.going in
    let few = ap (λ (z : ReceiverState). z.taken) c.self.view_is in
    may_take c.self.inside.lp _ c.self.inside.cells.taken (c.self.invariant.lp_kept e) (omega (arith, few, c.requires.few)) c.pairs-2.ensures.largest

pub deliver-requires-clause-may : goal.deliver-requires-clause-may
deliver-requires-clause-may g c κs within =
    let e = ap (λ (z : ReceiverState). z.ended) c.self.view_is ∙ c.requires.going in
    may_give c.self.inside.hp c.take_symbol.new.hp _ (c.self.invariant.hp_kept e).ready c.take_symbol.ensures.hp

pub deliver-requires-2-clause-may : goal.deliver-requires-2-clause-may
deliver-requires-2-clause-may g c κs within =
    let e = ap (λ (z : ReceiverState). z.ended) c.self.view_is ∙ c.requires.going in
    may_give c.self.inside.lp c.take_symbol.new.lp _ (c.self.invariant.lp_kept e).ready c.take_symbol.ensures.lp

pub invariant_of-self-2 : goal.invariant_of-self-2
invariant_of-self-2 g c =
    let e = ap (λ (z : ReceiverState). z.ended) c.self.view_is ∙ c.requires.going in
    let x = c.self.inside in
    let more = c.feed-count.ensures.ended (sym c.if-not-whole.ensures.whole) in
    record {
      hp_kept = λ _. subst (λ k. IsKeptStream c.deliver.new.self k) (sym more)
          (keeps x.hp c.deliver.new.self c.take_symbol.new.hp _ x.cells.taken (c.self.invariant.hp_kept e) c.pairs.ensures.largest
          c.take_symbol.ensures.hp c.deliver.ensures.rest c.deliver.ensures.ready c.deliver.ensures.counts);
      lp_kept = λ _. subst (λ k. IsKeptStream c.deliver-2.new.self k) (sym more)
          (keeps x.lp c.deliver-2.new.self c.take_symbol.new.lp _ x.cells.taken (c.self.invariant.lp_kept e) c.pairs-2.ensures.largest
          c.take_symbol.ensures.lp c.deliver-2.ensures.rest c.deliver-2.ensures.ready c.deliver-2.ensures.counts);
      few_taken = omega (arith, more, c.requires.few, ap (λ (z : ReceiverState). z.taken) c.self.view_is);
      symbol = c.take.ensures.symbol;
      few_frames = omega (arith, more, c.take.ensures.few, c.self.invariant.few_frames);
    }
