use Rattle.std.proofs.Common.{rules, ◌≡◌, ◌∙◌, ◌*◌, ◌%◌, ◌+◌, ◌<◌, ℕ, List, length, sym, ap, subst}
use Rattle.mode_set.specs.StreamTable.{payload}
use Rattle.mode_set.specs.declared.modes.Mode.{Mode}
use Rattle.qam_map.specs.declared.cell.Cell.{Cell}
use Rattle.inner_chain.specs.CostTables.{AreCarriers, AreCosts, AreWeights, AreWordCells, AreWordWeights, IsRoom, IsWeightRoom, blocks}
use Rattle.inner_chain.proofs.CellCosts.{cells_gathered, costs_all, room_kept, weights_gathered}
use Rattle.inner_chain.proofs.Symbols.{written_over}
use Rattle.inner_chain.proofs.cell_costs.CellCosts.write.Goals as goal

pub returns-clause-costs : goal.returns-clause-costs
returns-clause-costs c =
    let m : Mode = c.self.inside.mode in
    let mode : m ≡ c.args.settings.now.mode = search rules in
    let cells_room : c.self.inside.cells.len ≡ length c.gather.new.to = search rules in
    let weights_room : c.self.inside.weights.len ≡ length c.gather.new.weights_to = search rules in
    let costs_room : c.self.inside.costs.len ≡ length c.write_weighted_costs.new.to = search rules in
    let list : c.deref-2.result.now ≡ c.gather.new.to = c.deref-2.ensures.value ∙ written_over c.self.inside.cells.len c.gather.new.to _ cells_room in
    let ws : c.deref-3.result.now ≡ c.gather.new.weights_to = c.deref-3.ensures.value ∙ written_over c.self.inside.weights.len c.gather.new.weights_to _ weights_room in
    let few : c.args.block < blocks m = subst (λ (z : Mode). c.args.block < blocks z) (sym mode) c.requires.block in
    let e : c.args.l % 4 * c.payload.result + 252 * c.args.block ≡ c.args.l % 4 * payload m + 252 * c.args.block = ap (λ (z : ℕ). c.args.l % 4 * z + 252 * c.args.block) c.payload.ensures in
    let table : AreCarriers m (4 * payload m) c.deref.result.now = subst (λ (z : List ℕ). AreCarriers m (4 * payload m) z) (sym c.deref.ensures.value) c.self.invariant.are_carriers in
    let w : AreWeights m c.args.weights.now = subst (λ (z : Mode). AreWeights z c.args.weights.now) (sym mode) c.requires.weights in
    let before : IsWeightRoom c.deref_mut-2.result.now = subst (λ (z : List ℕ). IsWeightRoom z) (sym c.deref_mut-2.ensures.value) c.self.invariant.weight_room in
    let long : length c.gather.new.to ≡ 256 = search rules in
    let cells : AreWordCells m c.args.cells.now c.args.l c.args.block c.gather.new.to
    = cells_gathered m c.args.l c.args.block (c.args.l % 4 * c.payload.result + 252 * c.args.block) c.deref.result.now c.args.cells.now c.gather.new.to table few c.kinds_repeat.ensures.carriers e long c.gather.ensures.cells in
    let weights : AreWordWeights m c.args.weights.now c.args.l c.args.block c.gather.new.weights_to
    = weights_gathered m c.args.l c.args.block (c.args.l % 4 * c.payload.result + 252 * c.args.block) c.deref.result.now c.args.weights.now c.deref_mut-2.result.now c.gather.new.weights_to table w few c.kinds_repeat.ensures.carriers e before c.gather.ensures.weights_long c.gather.ensures.weights c.gather.ensures.rest in
    let cells' : AreWordCells c.args.settings.now.mode c.args.cells.now c.args.l c.args.block c.deref-2.result.now
    = subst (λ (z : Mode). AreWordCells z c.args.cells.now c.args.l c.args.block c.deref-2.result.now) mode (subst (λ (z : List Cell). AreWordCells m c.args.cells.now c.args.l c.args.block z) (sym list) cells) in
    let weights' : AreWordWeights c.args.settings.now.mode c.args.weights.now c.args.l c.args.block c.deref-3.result.now
    = subst (λ (z : Mode). AreWordWeights z c.args.weights.now c.args.l c.args.block c.deref-3.result.now) mode (subst (λ (z : List ℕ). AreWordWeights m c.args.weights.now c.args.l c.args.block z) (sym ws) weights) in
    subst (λ (z : List (ℕ × ℕ)). AreCosts c.args.settings.now c.args.cells.now c.args.weights.now c.args.l c.args.block z) (sym (written_over c.self.inside.costs.len c.write_weighted_costs.new.to _ costs_room))
    (costs_all c.args.settings.now c.args.metric.now c.args.cells.now c.deref-2.result.now c.args.weights.now c.deref-3.result.now c.args.l c.args.block c.write_weighted_costs.new.to c.requires.metric cells' weights' c.write_weighted_costs.ensures.costs)

pub returns-clause-room : goal.returns-clause-room
returns-clause-room c =
    let cells_room : c.self.inside.cells.len ≡ length c.gather.new.to = search rules in
    let costs_room : c.self.inside.costs.len ≡ length c.write_weighted_costs.new.to = search rules in
    let gathered : length c.gather.new.to ≡ 256 = search rules in
    let list : c.deref-2.result.now ≡ c.gather.new.to = c.deref-2.ensures.value ∙ written_over c.self.inside.cells.len c.gather.new.to _ cells_room in
    let long : length c.deref-2.result.now ≡ 256 = ap (λ (z : List Cell). length z) list ∙ gathered in
    let before : IsRoom c.deref_mut-3.result.now = subst (λ (z : List (ℕ × ℕ)). IsRoom z) (sym c.deref_mut-3.ensures.value) c.self.invariant.room in
    subst (λ (z : List (ℕ × ℕ)). IsRoom z) (sym (written_over c.self.inside.costs.len c.write_weighted_costs.new.to _ costs_room))
    (room_kept c.args.metric.now.0 (length c.deref-2.result.now) c.deref_mut-3.result.now c.write_weighted_costs.new.to long before c.write_weighted_costs.ensures.long c.write_weighted_costs.ensures.small c.write_weighted_costs.ensures.rest)

pub invariant_of-self : goal.invariant_of-self
invariant_of-self c =
    let m : Mode = c.self.inside.mode in
    let mode : m ≡ c.args.settings.now.mode = search rules in
    let cells_room : c.self.inside.cells.len ≡ length c.gather.new.to = search rules in
    let weights_room : c.self.inside.weights.len ≡ length c.gather.new.weights_to = search rules in
    let costs_room : c.self.inside.costs.len ≡ length c.write_weighted_costs.new.to = search rules in
    let list : c.deref-2.result.now ≡ c.gather.new.to = c.deref-2.ensures.value ∙ written_over c.self.inside.cells.len c.gather.new.to _ cells_room in
    let ws : c.deref-3.result.now ≡ c.gather.new.weights_to = c.deref-3.ensures.value ∙ written_over c.self.inside.weights.len c.gather.new.weights_to _ weights_room in
    let few : c.args.block < blocks m = subst (λ (z : Mode). c.args.block < blocks z) (sym mode) c.requires.block in
    let e : c.args.l % 4 * c.payload.result + 252 * c.args.block ≡ c.args.l % 4 * payload m + 252 * c.args.block = ap (λ (z : ℕ). c.args.l % 4 * z + 252 * c.args.block) c.payload.ensures in
    let table : AreCarriers m (4 * payload m) c.deref.result.now = subst (λ (z : List ℕ). AreCarriers m (4 * payload m) z) (sym c.deref.ensures.value) c.self.invariant.are_carriers in
    let w : AreWeights m c.args.weights.now = subst (λ (z : Mode). AreWeights z c.args.weights.now) (sym mode) c.requires.weights in
    let before : IsWeightRoom c.deref_mut-2.result.now = subst (λ (z : List ℕ). IsWeightRoom z) (sym c.deref_mut-2.ensures.value) c.self.invariant.weight_room in
    let long : length c.gather.new.to ≡ 256 = search rules in
    let weights : AreWordWeights m c.args.weights.now c.args.l c.args.block c.gather.new.weights_to
    = weights_gathered m c.args.l c.args.block (c.args.l % 4 * c.payload.result + 252 * c.args.block) c.deref.result.now c.args.weights.now c.deref_mut-2.result.now c.gather.new.weights_to table w few c.kinds_repeat.ensures.carriers e before c.gather.ensures.weights_long c.gather.ensures.weights c.gather.ensures.rest in
    let before_costs : IsRoom c.deref_mut-3.result.now = subst (λ (z : List (ℕ × ℕ)). IsRoom z) (sym c.deref_mut-3.ensures.value) c.self.invariant.room in
    let list_long : length c.deref-2.result.now ≡ 256 = ap (λ (z : List Cell). length z) list ∙ long in
    record {
      are_carriers = c.self.invariant.are_carriers;
      cells_long = ap (λ (z : List Cell). length z) (written_over c.self.inside.cells.len c.gather.new.to _ cells_room) ∙ long;
      weight_room = subst (λ (z : List ℕ). IsWeightRoom z) (sym (written_over c.self.inside.weights.len c.gather.new.weights_to _ weights_room)) weights.room;
      room = subst (λ (z : List (ℕ × ℕ)). IsRoom z) (sym (written_over c.self.inside.costs.len c.write_weighted_costs.new.to _ costs_room))
          (room_kept c.args.metric.now.0 (length c.deref-2.result.now) c.deref_mut-3.result.now c.write_weighted_costs.new.to list_long before_costs c.write_weighted_costs.ensures.long c.write_weighted_costs.ensures.small c.write_weighted_costs.ensures.rest);
    }
