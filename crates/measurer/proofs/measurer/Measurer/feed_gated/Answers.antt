use Rattle.std.proofs.Common.{◌≡◌, ◌+◌, ◌-◌, ◌++◌, ℕ, List, true, false, take, map, sym, ap, ◌∙◌, subst, arith}
use Rattle.std.specs.List.{concat}
use Rattle.mode_set.specs.declared.settings.Settings.{Settings}
use Rattle.pilots.specs.Carriers.{tps_carriers}
use Rattle.qam_map.specs.declared.cell.Cell.{Cell}
use Rattle.qam_map.specs.Cells.{cell_of}
use Rattle.reception.specs.Streams.{so_far}
use Rattle.inner_receiver.specs.Framing.{FrameStands}
use Rattle.measurement.specs.Lines.{defined_by}
use Rattle.measurer.specs.Kept.{HasMeasured}
use Rattle.measurer.specs.Seen.{MeasurerState}
use Rattle.measurer.specs.Standing.{StandsFor}
use Rattle.measurer.specs.Steps.{AreKept, TakesNext}
use Rattle.measurer.proofs.Feeding.{AreFed, Moved, state, fed_within, fed_whole, may_take, may_compare, begun_took, next_took, number_took, measured_within, measured_whole, kept_within}
use Rattle.measurer.proofs.measurer.Measurer.feed_gated.Goals as goal

pub returns-then-not-whole-clause-fed : goal.returns-then-not-whole-clause-fed
returns-then-not-whole-clause-fed g c = λ b given.
    let x = c.self.inside in
    let new = c.feed-count.new.self in
    let old : MeasurerState = state x.cells x.meter x.frames x.ended in
    let laws : AreFed = record { same = c.symbols.ensures.same; next = c.symbols.ensures.next; cells = c.symbols.ensures.cells; weights = c.symbols.ensures.weights; tps = c.symbols.ensures.tps; bits = c.symbols.ensures.bits; costs_same = c.costs.ensures.same; stay = c.sums_stay.ensures.law } in
    subst (λ (z : MeasurerState). StandsFor so_far z b given → StandsFor so_far (state new x.meter x.frames x.ended) (b ++ take c.feed-count.result c.args.piece.now) (given ++ concat c.clear.new.self)) c.self.view_is
    (fed_within laws x.cells new x.meter x.frames x.ended b c.args.piece.now given c.clear.new.self c.feed-count.result c.feed-count.ensures.settings c.feed-count.ensures.fed (sym c.if-not-whole.ensures.whole) c.clear.ensures.nothing)

pub invariant_of-self : goal.invariant_of-self
invariant_of-self g c =
    let x = c.self.inside in
    let new = c.feed-count.new.self in
    let old : MeasurerState = state x.cells x.meter x.frames x.ended in
    let laws : AreFed = record { same = c.symbols.ensures.same; next = c.symbols.ensures.next; cells = c.symbols.ensures.cells; weights = c.symbols.ensures.weights; tps = c.symbols.ensures.tps; bits = c.symbols.ensures.bits; costs_same = c.costs.ensures.same; stay = c.sums_stay.ensures.law } in
    kept_within x.cells new x.meter x.frames x.ended c.self.invariant (c.feed-count.ensures.within (sym c.if-not-whole.ensures.whole))
    (measured_within laws x.cells new x.meter x.frames x.ended c.args.piece.now c.feed-count.result c.feed-count.ensures.settings c.feed-count.ensures.fed (sym c.if-not-whole.ensures.whole))

pub take-requires-2-clause-takes : goal.take-requires-2-clause-takes
take-requires-2-clause-takes g c κs within =
    let x = c.self.inside in
    let new = c.feed-count.new.self in
    let old : MeasurerState = state x.cells x.meter x.frames x.ended in
    let laws : AreFed = record { same = c.symbols.ensures.same; next = c.symbols.ensures.next; cells = c.symbols.ensures.cells; weights = c.symbols.ensures.weights; tps = c.symbols.ensures.tps; bits = c.symbols.ensures.bits; costs_same = c.costs.ensures.same; stay = c.sums_stay.ensures.law } in
    let whole : new.whole ≡ true = sym c.if-not-whole.ensures.whole in
    let going : x.ended ≡ false = ap (λ (z : MeasurerState). z.ended) c.self.view_is ∙ c.requires.going in
    let measured : HasMeasured old = c.self.invariant.measured going in
    let t : TakesNext x.meter new = may_take laws x.cells new x.meter x.frames x.ended c.args.piece.now c.feed-count.result c.feed-count.ensures.settings c.feed-count.ensures.fed whole measured in
    t

pub take-requires-2-clause-kept : goal.take-requires-2-clause-kept
take-requires-2-clause-kept g c κs within =
    let x = c.self.inside in
    let new = c.feed-count.new.self in
    let old : MeasurerState = state x.cells x.meter x.frames x.ended in
    let laws : AreFed = record { same = c.symbols.ensures.same; next = c.symbols.ensures.next; cells = c.symbols.ensures.cells; weights = c.symbols.ensures.weights; tps = c.symbols.ensures.tps; bits = c.symbols.ensures.bits; costs_same = c.costs.ensures.same; stay = c.sums_stay.ensures.law } in
    let whole : new.whole ≡ true = sym c.if-not-whole.ensures.whole in
    let going : x.ended ≡ false = ap (λ (z : MeasurerState). z.ended) c.self.view_is ∙ c.requires.going in
    let measured : HasMeasured old = c.self.invariant.measured going in
    let t : TakesNext x.meter new = may_take laws x.cells new x.meter x.frames x.ended c.args.piece.now c.feed-count.result c.feed-count.ensures.settings c.feed-count.ensures.fed whole measured in
    let e : x.cells.taken ≡ new.taken - 1 = omega (arith, c.feed-count.ensures.ended whole) in
    subst (AreKept x.meter) e (c.self.invariant.kept going)

pub compare_next-requires-clause-next : goal.compare_next-requires-clause-next
compare_next-requires-clause-next g c =
    let x = c.self.inside in
    let new = c.feed-count.new.self in
    let old : MeasurerState = state x.cells x.meter x.frames x.ended in
    let laws : AreFed = record { same = c.symbols.ensures.same; next = c.symbols.ensures.next; cells = c.symbols.ensures.cells; weights = c.symbols.ensures.weights; tps = c.symbols.ensures.tps; bits = c.symbols.ensures.bits; costs_same = c.costs.ensures.same; stay = c.sums_stay.ensures.law } in
    let whole : new.whole ≡ true = sym c.if-not-whole.ensures.whole in
    let going : x.ended ≡ false = ap (λ (z : MeasurerState). z.ended) c.self.view_is ∙ c.requires.going in
    let measured : HasMeasured old = c.self.invariant.measured going in
    let t : TakesNext x.meter new = may_take laws x.cells new x.meter x.frames x.ended c.args.piece.now c.feed-count.result c.feed-count.ensures.settings c.feed-count.ensures.fed whole measured in
    next_took new x.meter c.take-2.new.self t c.take-2.ensures.next ∙ ap (λ (k : ℕ). k - 4) (sym c.symbols-2.ensures.number)

pub compare_next-requires-clause-number : goal.compare_next-requires-clause-number
compare_next-requires-clause-number g c =
    let x = c.self.inside in
    let new = c.feed-count.new.self in
    let old : MeasurerState = state x.cells x.meter x.frames x.ended in
    let laws : AreFed = record { same = c.symbols.ensures.same; next = c.symbols.ensures.next; cells = c.symbols.ensures.cells; weights = c.symbols.ensures.weights; tps = c.symbols.ensures.tps; bits = c.symbols.ensures.bits; costs_same = c.costs.ensures.same; stay = c.sums_stay.ensures.law } in
    let whole : new.whole ≡ true = sym c.if-not-whole.ensures.whole in
    let going : x.ended ≡ false = ap (λ (z : MeasurerState). z.ended) c.self.view_is ∙ c.requires.going in
    let measured : HasMeasured old = c.self.invariant.measured going in
    let t : TakesNext x.meter new = may_take laws x.cells new x.meter x.frames x.ended c.args.piece.now c.feed-count.result c.feed-count.ensures.settings c.feed-count.ensures.fed whole measured in
    number_took new x.meter c.take-2.new.self t c.take-2.ensures.current ∙ ap (λ (k : ℕ). defined_by (k - 1)) (sym c.symbols-2.ensures.number)

pub compare_next-requires-clause-begun : goal.compare_next-requires-clause-begun
compare_next-requires-clause-begun g c =
    let x = c.self.inside in
    let new = c.feed-count.new.self in
    let old : MeasurerState = state x.cells x.meter x.frames x.ended in
    let laws : AreFed = record { same = c.symbols.ensures.same; next = c.symbols.ensures.next; cells = c.symbols.ensures.cells; weights = c.symbols.ensures.weights; tps = c.symbols.ensures.tps; bits = c.symbols.ensures.bits; costs_same = c.costs.ensures.same; stay = c.sums_stay.ensures.law } in
    let whole : new.whole ≡ true = sym c.if-not-whole.ensures.whole in
    let going : x.ended ≡ false = ap (λ (z : MeasurerState). z.ended) c.self.view_is ∙ c.requires.going in
    let measured : HasMeasured old = c.self.invariant.measured going in
    let t : TakesNext x.meter new = may_take laws x.cells new x.meter x.frames x.ended c.args.piece.now c.feed-count.result c.feed-count.ensures.settings c.feed-count.ensures.fed whole measured in
    begun_took new x.meter c.take-2.new.self t c.take-2.ensures.taken

pub give_lines-requires-clause-compared : goal.give_lines-requires-clause-compared
give_lines-requires-clause-compared g c =
    let x = c.self.inside in
    let new = c.feed-count.new.self in
    let old : MeasurerState = state x.cells x.meter x.frames x.ended in
    let laws : AreFed = record { same = c.symbols.ensures.same; next = c.symbols.ensures.next; cells = c.symbols.ensures.cells; weights = c.symbols.ensures.weights; tps = c.symbols.ensures.tps; bits = c.symbols.ensures.bits; costs_same = c.costs.ensures.same; stay = c.sums_stay.ensures.law } in
    let whole : new.whole ≡ true = sym c.if-not-whole.ensures.whole in
    let going : x.ended ≡ false = ap (λ (z : MeasurerState). z.ended) c.self.view_is ∙ c.requires.going in
    let measured : HasMeasured old = c.self.invariant.measured going in
    let t : TakesNext x.meter new = may_take laws x.cells new x.meter x.frames x.ended c.args.piece.now c.feed-count.result c.feed-count.ensures.settings c.feed-count.ensures.fed whole measured in
    let moved : Moved new x.meter c.take-2.new.self c.compare_next.new.meter x.frames c.take.new.self = record {
      take = c.take-2.ensures.taken;
      took_current = c.take-2.ensures.current;
      compare = λ s b e. c.compare_next.ensures.compared s b (e ∙ sym c.symbols-2.ensures.number);
      next = c.compare_next.ensures.next ∙ ap (λ (k : ℕ). k - 3) c.symbols-2.ensures.number;
      current = c.compare_next.ensures.current;
      hp_settled = c.compare_next.ensures.hp_settled;
      lp_settled = c.compare_next.ensures.lp_settled;
      framed = subst (λ (z : Settings). (shown : ℕ → List Cell) (m : ℕ) → shown m ≡ map (cell_of new.cells) (tps_carriers z.mode) → FrameStands z.mode x.frames shown m → FrameStands z.mode c.take.new.self shown (m + 1)) c.settings.ensures.settings
          (subst (λ (z : List Cell). (shown : ℕ → List Cell) (m : ℕ) → shown m ≡ map (cell_of z) (tps_carriers c.settings.result.now.mode) → FrameStands c.settings.result.now.mode x.frames shown m → FrameStands c.settings.result.now.mode c.take.new.self shown (m + 1)) c.cells.ensures.cells c.take.ensures.taken);
    } in
    may_compare laws x.cells new x.meter c.take-2.new.self c.compare_next.new.meter x.frames c.take.new.self x.ended c.args.piece.now c.feed-count.result c.feed-count.ensures.settings c.feed-count.ensures.fed whole moved measured

pub returns-clause-fed : goal.returns-clause-fed
returns-clause-fed g c = λ b given.
    let x = c.self.inside in
    let new = c.feed-count.new.self in
    let old : MeasurerState = state x.cells x.meter x.frames x.ended in
    let laws : AreFed = record { same = c.symbols.ensures.same; next = c.symbols.ensures.next; cells = c.symbols.ensures.cells; weights = c.symbols.ensures.weights; tps = c.symbols.ensures.tps; bits = c.symbols.ensures.bits; costs_same = c.costs.ensures.same; stay = c.sums_stay.ensures.law } in
    let whole : new.whole ≡ true = sym c.if-not-whole.ensures.whole in
    let going : x.ended ≡ false = ap (λ (z : MeasurerState). z.ended) c.self.view_is ∙ c.requires.going in
    let measured : HasMeasured old = c.self.invariant.measured going in
    let t : TakesNext x.meter new = may_take laws x.cells new x.meter x.frames x.ended c.args.piece.now c.feed-count.result c.feed-count.ensures.settings c.feed-count.ensures.fed whole measured in
    let moved : Moved new x.meter c.take-2.new.self c.compare_next.new.meter x.frames c.take.new.self = record {
      take = c.take-2.ensures.taken;
      took_current = c.take-2.ensures.current;
      compare = λ s b e. c.compare_next.ensures.compared s b (e ∙ sym c.symbols-2.ensures.number);
      next = c.compare_next.ensures.next ∙ ap (λ (k : ℕ). k - 3) c.symbols-2.ensures.number;
      current = c.compare_next.ensures.current;
      hp_settled = c.compare_next.ensures.hp_settled;
      lp_settled = c.compare_next.ensures.lp_settled;
      framed = subst (λ (z : Settings). (shown : ℕ → List Cell) (m : ℕ) → shown m ≡ map (cell_of new.cells) (tps_carriers z.mode) → FrameStands z.mode x.frames shown m → FrameStands z.mode c.take.new.self shown (m + 1)) c.settings.ensures.settings
          (subst (λ (z : List Cell). (shown : ℕ → List Cell) (m : ℕ) → shown m ≡ map (cell_of z) (tps_carriers c.settings.result.now.mode) → FrameStands c.settings.result.now.mode x.frames shown m → FrameStands c.settings.result.now.mode c.take.new.self shown (m + 1)) c.cells.ensures.cells c.take.ensures.taken);
    } in
    subst (λ (z : MeasurerState). StandsFor so_far z b given → StandsFor so_far (state new c.give_lines.new.meter c.take.new.self x.ended) (b ++ take c.feed-count.result c.args.piece.now) (given ++ concat c.give_lines.new.out)) c.self.view_is
    (fed_whole laws x.cells new x.meter c.take-2.new.self c.compare_next.new.meter c.give_lines.new.meter x.frames c.take.new.self x.ended b c.args.piece.now given c.give_lines.new.out c.feed-count.result c.feed-count.ensures.settings c.feed-count.ensures.fed whole moved
    c.give_lines.ensures.live)

pub invariant_of-self-2 : goal.invariant_of-self-2
invariant_of-self-2 g c =
    let x = c.self.inside in
    let new = c.feed-count.new.self in
    let old : MeasurerState = state x.cells x.meter x.frames x.ended in
    let laws : AreFed = record { same = c.symbols.ensures.same; next = c.symbols.ensures.next; cells = c.symbols.ensures.cells; weights = c.symbols.ensures.weights; tps = c.symbols.ensures.tps; bits = c.symbols.ensures.bits; costs_same = c.costs.ensures.same; stay = c.sums_stay.ensures.law } in
    let whole : new.whole ≡ true = sym c.if-not-whole.ensures.whole in
    let going : x.ended ≡ false = ap (λ (z : MeasurerState). z.ended) c.self.view_is ∙ c.requires.going in
    let measured : HasMeasured old = c.self.invariant.measured going in
    let t : TakesNext x.meter new = may_take laws x.cells new x.meter x.frames x.ended c.args.piece.now c.feed-count.result c.feed-count.ensures.settings c.feed-count.ensures.fed whole measured in
    let moved : Moved new x.meter c.take-2.new.self c.compare_next.new.meter x.frames c.take.new.self = record {
      take = c.take-2.ensures.taken;
      took_current = c.take-2.ensures.current;
      compare = λ s b e. c.compare_next.ensures.compared s b (e ∙ sym c.symbols-2.ensures.number);
      next = c.compare_next.ensures.next ∙ ap (λ (k : ℕ). k - 3) c.symbols-2.ensures.number;
      current = c.compare_next.ensures.current;
      hp_settled = c.compare_next.ensures.hp_settled;
      lp_settled = c.compare_next.ensures.lp_settled;
      framed = subst (λ (z : Settings). (shown : ℕ → List Cell) (m : ℕ) → shown m ≡ map (cell_of new.cells) (tps_carriers z.mode) → FrameStands z.mode x.frames shown m → FrameStands z.mode c.take.new.self shown (m + 1)) c.settings.ensures.settings
          (subst (λ (z : List Cell). (shown : ℕ → List Cell) (m : ℕ) → shown m ≡ map (cell_of z) (tps_carriers c.settings.result.now.mode) → FrameStands c.settings.result.now.mode x.frames shown m → FrameStands c.settings.result.now.mode c.take.new.self shown (m + 1)) c.cells.ensures.cells c.take.ensures.taken);
    } in
    let more = c.feed-count.ensures.ended whole in
    record {
      few_taken = omega (arith, more, c.requires.few, ap (λ (z : MeasurerState). z.taken) c.self.view_is);
      symbol = c.take.ensures.symbol;
      few_frames = omega (arith, more, c.take.ensures.few, c.self.invariant.few_frames);
      kept = λ _. c.give_lines.ensures.kept;
      measured = λ _. measured_whole laws x.cells new x.meter c.take-2.new.self c.compare_next.new.meter c.give_lines.new.meter x.frames c.take.new.self x.ended c.args.piece.now c.give_lines.new.out c.feed-count.result c.feed-count.ensures.settings c.feed-count.ensures.fed whole moved c.give_lines.ensures.live measured;
    }
