use Rattle.std.proofs.Common.{◌≡◌, ◌<◌, ◌∙◌, ℕ, List, sym, ap, subst, arith, length}
use Rattle.std.specs.Prelude.{◌%◌, ◌==◌}
use Rattle.mode_set.specs.StreamTable.{carriers}
use Rattle.mode_set.specs.declared.modes.Mode.{Mode}
use Rattle.mode_set.specs.declared.settings.Settings.{Settings}
use Rattle.pilots.specs.declared.carrier_kind.CarrierKind.{CarrierKind}
use Rattle.pilots.specs.Carriers.{kind}
use Rattle.qam_map.specs.Points.{tolerance}
use Rattle.frame_build.specs.Symbol.{cell_from}
use Rattle.rand_pcg.specs.Lcg.{Lcg}
use Rattle.symbol_parameters.specs.Spans.{settings_at}
use Rattle.transmission.specs.Transmission.{Inputs, tx_cell}
use Rattle.trial.specs.Drawn.{drawn}
use Rattle.trial.specs.Laws.{IsSmall}
use Rattle.trial.specs.declared.draws.Draws.{Draws}
use Rattle.trial.specs.Disturbing.{behind_cell, disturbed_by}
use Rattle.trial.proofs.CellSteps.{few_shifts, next_cell_is, next_load_is}
use Rattle.trial.proofs.disturbing.next_cell.Goals as goal

pub read_cell-cell-requires : goal.read_cell-cell-requires
read_cell-cell-requires g c =
    let s : Settings = c.args.settings.now in
    omega (arith, ap length c.requires.sent, c.symbols.ensures.long s (drawn s c.args.draws.now.number) c.args.symbol, ap carriers c.requires.mode, g.M.Carriers.k_of, c.requires.carrier)

pub kind-kind-requires-clause-carrier : goal.kind-kind-requires-clause-carrier
kind-kind-requires-clause-carrier g c = omega (arith, ap carriers c.MODE.ensures, g.M.Carriers.k_of, c.requires.carrier)

pub disturb_cell-requires-clause-small : goal.disturb_cell-requires-clause-small
disturb_cell-requires-clause-small g c =
    let s : Settings = c.args.settings.now in
    let inputs : Inputs = drawn s c.args.draws.now.number in
    let within : c.args.k < carriers s.mode = omega (arith, ap carriers c.requires.mode, g.M.Carriers.k_of, c.requires.carrier) in
    let cell : c.read_cell-cell.result ≡ tx_cell s inputs c.args.symbol c.args.k =
    c.read_cell-cell.ensures ∙ ap (λ (z : List ℕ). cell_from z c.args.k) c.requires.sent ∙ c.cells.ensures.read s inputs c.args.symbol c.args.k within in
    subst IsSmall (sym cell) (c.cells.ensures.small s inputs c.args.symbol c.args.k)

pub disturb_cell-requires-clause-most : goal.disturb_cell-requires-clause-most
disturb_cell-requires-clause-most g c =
    let z : Settings = settings_at c.args.settings.now c.args.symbol in
    let few = few_shifts z.shape z.hierarchy in omega (arith, few, c.requires.delta)

pub returns-clause-cell : goal.returns-clause-cell
returns-clause-cell g c =
    let s : Settings = c.args.settings.now in
    let d : Draws = c.args.draws.now in
    let inputs : Inputs = drawn s d.number in
    let m : ℕ = c.args.symbol in
    let within : c.args.k < carriers s.mode = omega (arith, ap carriers c.requires.mode, g.M.Carriers.k_of, c.requires.carrier) in
    let cell : c.read_cell-cell.result ≡ tx_cell s inputs m c.args.k =
    c.read_cell-cell.ensures ∙ ap (λ (z : List ℕ). cell_from z c.args.k) c.requires.sent ∙ c.cells.ensures.read s inputs m c.args.k within in
    c.disturb_cell.ensures.cell
    ∙ ap (λ (n : ℕ). disturbed_by n (m % 17 == 16) d.load c.read_cell-cell.result c.kind-kind.result) c.requires.delta
    ∙ ap (λ (kd : CarrierKind). disturbed_by (tolerance (settings_at s m).shape (settings_at s m).hierarchy) (m % 17 == 16) d.load c.read_cell-cell.result kd) (c.kind-kind.ensures.kind ∙ ap (λ (z : Mode). kind z (m % 68) c.args.k) c.MODE.ensures)
    ∙ next_cell_is c.draws_add.ensures s d.number m c.args.k g.M.Carriers.MODE c.requires.mode d.load c.requires.load c.read_cell-cell.result cell

pub returns-clause-draws : goal.returns-clause-draws
returns-clause-draws g c =
    let s : Settings = c.args.settings.now in
    let d : Draws = c.args.draws.now in
    ap (λ (h : Lcg). record d { load = h })
    (c.disturb_cell.ensures.next
    ∙ ap (λ (kd : CarrierKind). behind_cell d.load kd) (c.kind-kind.ensures.kind ∙ ap (λ (z : Mode). kind z (c.args.symbol % 68) c.args.k) c.MODE.ensures)
    ∙ next_load_is c.draws_add.ensures s d.number c.args.symbol c.args.k g.M.Carriers.MODE c.requires.mode d.load c.requires.load)
