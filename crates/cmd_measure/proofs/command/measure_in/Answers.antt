use Rattle.std.proofs.Common.{◌≡◌, ◌∙◌, ◌<◌, ℕ, List, Some, refl, ap, sym, subst, inl, arith}
use Rattle.station_core.specs.Meaning.{Meaning}
use Rattle.mode_set.specs.StreamTable.{carriers}
use Rattle.mode_set.specs.declared.settings.Settings.{Settings}
use Rattle.frame_build.specs.CellFile.{header}
use Rattle.reception.specs.Cells.{symbol_length}
use Rattle.cmd_cells.specs.Runs.{RunsCells}
use Rattle.cmd_receive.proofs.Parts.{some_bytes}
use Rattle.cmd_measure.specs.MeasureCommand.{no_names}
use Rattle.cmd_measure.specs.Working.{measuring_work}
use Rattle.cmd_measure.proofs.command.measure_in.Goals as goal

pub run_cells-requires : goal.run_cells-requires
run_cells-requires g c κs =
    let s : Settings = c.args.settings.now in
    let many : carriers s.mode ≡ g.M.Carriers.K = ap carriers c.requires.mode ∙ sym g.M.Carriers.k_of in
    let size = ap symbol_length c.in-Ok-new.ensures.settings in
    let some : 0 < symbol_length s = some_bytes s in (
      (refl, tt),
      (
        record { shared = c.type_bounds.sync-R.shared },
        (
          c.requires.ready,
          (
            (λ port. refl),
            (
              omega (arith, c.deref_mut.ensures.len, c.in-Ok-vec.ensures.len, c.K.ensures, many, size),
              (
                omega (arith, c.deref_mut.ensures.len, c.in-Ok-vec.ensures.len, c.K.ensures, many, some),
                (
                  c.in-Ok-new.ensures.stands,
                  record {
                    may = λ x piece out going few. (
                      (record { shared = c.type_bounds.sync-R.shared }, going, few),
                      (record { shared = c.type_bounds.sync-R.shared }, record { shared = c.type_bounds.sync-G.shared }),
                    );
                    feeds = λ x y piece out made n h. h;
                  },
                  omega (arith, many, size),
                ),
              ),
            ),
          ),
        ),
      ),
    )

pub returns : goal.returns
returns g c =
    let s : Settings = c.args.settings.now in
    let old : Meaning = g.S.Station.meaning c.args.station.now in
    let new : Meaning = g.S.Station.meaning c.run_cells.new.station in
    inl (subst (λ (x : Settings). RunsCells (measuring_work x) s.max_symbols c.args.cells.now (Some (header s.mode)) no_names old new c.run_cells.result) c.in-Ok-new.ensures.settings
    (subst (λ (h : List ℕ). RunsCells (measuring_work c.in-Ok-new.measurer.settings) s.max_symbols c.args.cells.now (Some h) no_names old new c.run_cells.result) c.header.ensures c.run_cells.ensures.runs))
