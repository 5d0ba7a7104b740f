use Rattle.std.proofs.Common.{◌≡◌, ◌∙◌, List, ℕ, Some, refl, ap, sym, subst, inl, arith}
use Rattle.station_core.specs.Meaning.{Meaning}
use Rattle.mode_set.specs.StreamTable.{carriers}
use Rattle.mode_set.specs.declared.settings.Settings.{Settings}
use Rattle.cmd_cells.specs.Outputs.{cell_names}
use Rattle.cmd_cells.specs.Runs.{RunsCells}
use Rattle.cmd_convert.proofs.Commands.{outputs_are}
use Rattle.tune_search.proofs.Held.{some_bytes}
use Rattle.cmd_align.specs.Working.{aligning_work}
use Rattle.cmd_align.proofs.command.align_in.Goals as goal

pub run_cells-requires : goal.run_cells-requires
run_cells-requires g c κs =
    let s : Settings = c.args.settings.now in
    let many : carriers s.mode ≡ g.M.Carriers.K = ap carriers c.requires.mode ∙ sym g.M.Carriers.k_of in (
      (refl, tt),
      (
        tt,
        (
          c.requires.ready,
          (
            outputs_are c.args.new_cells.now,
            (
              omega (arith, c.deref_mut.ensures.len, c.in-Ok.ensures.len, c.K.ensures, many),
              (
                omega (arith, c.deref_mut.ensures.len, c.in-Ok.ensures.len, c.K.ensures, many, some_bytes s),
                (refl, c.in-Ok-new.ensures s c.requires.mode, c.requires.mode),
              ),
            ),
          ),
        ),
      ),
    )

pub returns : goal.returns
returns g c =
    let s : Settings = c.args.settings.now in
    let old : Meaning = g.S.Station.meaning c.args.station.now in
    let new : Meaning = g.S.Station.meaning c.run_cells.new.station in
    inl (subst (λ (h : List ℕ). RunsCells (aligning_work s) s.max_symbols c.args.old_cells.now (Some h) (cell_names c.args.new_cells.now) old new c.run_cells.result) c.header.ensures c.run_cells.ensures.runs)
