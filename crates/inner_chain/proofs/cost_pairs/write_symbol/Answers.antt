use Rattle.std.proofs.Common.{◌≡◌, ◌∙◌, ◌*◌, ◌≤◌, ℕ, List, length, sym, ap, subst, arith}
use Rattle.std.specs.Prelude.{IsTrue}
use Rattle.mode_set.specs.StreamTable.{need}
use Rattle.mode_set.specs.declared.modes.Stream.TheVariants.{Hp, Lp}
use Rattle.mode_set.specs.declared.settings.Settings.{Settings}
use Rattle.inner_chain.specs.CostTables.{AreCostEntries, AreCosts, IsRoom, WritesPairs, block_steps, blocks}
use Rattle.inner_chain.proofs.Blocks.{block_more, fits_in, all_written}
use Rattle.inner_chain.proofs.cost_pairs.write_symbol.Goals as goal

pub loop-block-preserved : goal.loop-block-preserved
loop-block-preserved c =
    let s : Settings = c.settings-settings.result in
    let costs : AreCosts s c.args.cells.now c.args.weights.now c.args.l c.loop-block.block c.costs-list.result.now
    = subst (λ (z : List (ℕ × ℕ)). AreCosts s c.args.cells.now c.args.weights.now c.args.l c.loop-block.block z) (sym c.costs-list.ensures) c.write.ensures.costs in
    let room : IsRoom c.costs-list.result.now = subst (λ (z : List (ℕ × ℕ)). IsRoom z) (sym c.costs-list.ensures) c.write.ensures.room in
    let hp_entries : AreCostEntries s Hp (block_steps s Hp) c.entries-hp_table.result.0.now = subst (λ (z : Settings). AreCostEntries z Hp (block_steps z Hp) c.entries-hp_table.result.0.now) (sym c.settings-settings.ensures) c.entries-hp_table.ensures.entries in
    let lp_entries : AreCostEntries s Lp (block_steps s Lp) c.entries-lp_table.result.0.now = subst (λ (z : Settings). AreCostEntries z Lp (block_steps z Lp) c.entries-lp_table.result.0.now) (sym c.settings-settings.ensures) c.entries-lp_table.ensures.entries in
    let hp_steps : c.block_steps-hp_steps.result ≡ block_steps s Hp = c.block_steps-hp_steps.ensures.steps in
    let lp_steps : c.block_steps-lp_steps.result ≡ block_steps s Lp = c.block_steps-lp_steps.ensures.steps in
    record {
      mode = c.write.ensures.mode ∙ c.loop-block.invariant.mode;
      full = λ t. c.loop-block.invariant.full (subst IsTrue c.write.ensures.full t);
      hp = block_more c.periods_shift.ensures s c.args.cells.now c.args.weights.now c.args.l c.loop-block.block Hp c.costs-list.result.now c.entries-hp_table.result.0.now (c.loop-block.block * c.block_steps-hp_steps.result) c.block_steps-hp_steps.result _ _ _
          (ap (λ (z : ℕ). c.loop-block.block * z) hp_steps) hp_steps costs room hp_entries c.loop-block.invariant.hp c.write_pairs.ensures.here c.write_pairs.ensures.before c.write_pairs.ensures.rest c.write_pairs.ensures.long;
      lp = block_more c.periods_shift.ensures s c.args.cells.now c.args.weights.now c.args.l c.loop-block.block Lp c.costs-list.result.now c.entries-lp_table.result.0.now (c.loop-block.block * c.block_steps-lp_steps.result) c.block_steps-lp_steps.result _ _ _
          (ap (λ (z : ℕ). c.loop-block.block * z) lp_steps) lp_steps costs room lp_entries c.loop-block.invariant.lp c.write_pairs-in-loop-block.ensures.here c.write_pairs-in-loop-block.ensures.before c.write_pairs-in-loop-block.ensures.rest c.write_pairs-in-loop-block.ensures.long;
    }

pub write_pairs-requires-in-loop-block-clause-room : goal.write_pairs-requires-in-loop-block-clause-room
write_pairs-requires-in-loop-block-clause-room c =
    let s : Settings = c.settings-settings.result in
    let fits : need s Lp ≤ length c.args.lp.now = subst (λ (z : Settings). need z Lp ≤ length c.args.lp.now) (sym c.settings-settings.ensures) c.requires.lp_room in
    let steps : c.block_steps-lp_steps.result ≡ block_steps s Lp = c.block_steps-lp_steps.ensures.steps in
    omega (
      arith,
      c.loop-block.invariant.lp.long,
      fits_in s Lp c.loop-block.block (c.loop-block.block * c.block_steps-lp_steps.result) c.block_steps-lp_steps.result (length c.args.lp.now) (omega (arith, c.loop-block-test.true, c.blocks-block-end.ensures)) (ap (λ (z : ℕ). c.loop-block.block * z) steps) steps fits,
    )

pub returns-clause-hp : goal.returns-clause-hp
returns-clause-hp c =
    let s : Settings = c.settings-settings.result in
    let last : c.loop-block.block ≡ blocks s.mode = omega (arith, c.blocks-block-end.ensures) in
    subst (λ (z : Settings). WritesPairs z c.args.cells.now c.args.weights.now c.args.l Hp (need z Hp) c.args.hp.now c.loop-block.hp) c.settings-settings.ensures
    (all_written s c.args.cells.now c.args.weights.now c.args.l Hp c.loop-block.block c.args.hp.now c.loop-block.hp last c.loop-block.invariant.hp)

pub returns-clause-lp : goal.returns-clause-lp
returns-clause-lp c =
    let s : Settings = c.settings-settings.result in
    let last : c.loop-block.block ≡ blocks s.mode = omega (arith, c.blocks-block-end.ensures) in
    subst (λ (z : Settings). WritesPairs z c.args.cells.now c.args.weights.now c.args.l Lp (need z Lp) c.args.lp.now c.loop-block.lp) c.settings-settings.ensures
    (all_written s c.args.cells.now c.args.weights.now c.args.l Lp c.loop-block.block c.args.lp.now c.loop-block.lp last c.loop-block.invariant.lp)
