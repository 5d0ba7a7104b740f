use Rattle.std.proofs.Common.{◌≡◌, ◌<◌, ℕ, List, Some, refl, sym, ap, subst, inl, arith, ◌∙◌, length}
use Rattle.mode_set.specs.StreamTable.{carriers}
use Rattle.mode_set.specs.declared.settings.Settings.{Settings}
use Rattle.frame_build.specs.CellFile.{header}
use Rattle.reception.specs.Cells.{symbol_length}
use Rattle.station_core.specs.Meaning.{Meaning}
use Rattle.cmd_cells.specs.Outputs.{cell_names}
use Rattle.cmd_cells.specs.Runs.{RunsCells}
use Rattle.cmd_convert.proofs.Commands.{outputs_are}
use Rattle.cmd_track.specs.Working.{tracking_work}
use Rattle.cmd_track.proofs.Bytes.{some_bytes}
use Rattle.cmd_track.proofs.command.track_in.Goals as goal

pub run_cells-requires : goal.run_cells-requires
run_cells-requires g c κs =
    let s : Settings = c.in-Ok-new-2.tracker.settings in
    let many : carriers s.mode ≡ g.M.Carriers.K = ap (λ (x : Settings). carriers x.mode) c.in-Ok-new-2.ensures.settings ∙ ap carriers c.requires.mode ∙ sym g.M.Carriers.k_of in
    let some : 0 < symbol_length s = some_bytes s in
    let long : length c.deref_mut.result.now ≡ symbol_length s = omega (arith, c.deref_mut.ensures.len, c.in-Ok.ensures.len, c.K.ensures, many) in (
      (refl, tt),
      (
        tt,
        (
          c.requires.ready,
          (
            outputs_are c.args.new_cells.now,
            (
              long,
              (
                omega (arith, long, some),
                record {
                  mode = ap (λ (x : Settings). x.mode) c.in-Ok-new-2.ensures.settings ∙ c.requires.mode;
                  tracks = c.in-Ok-new-2.ensures.tracks;
                  going = c.in-Ok-new-2.ensures.going;
                  none = c.in-Ok-new.ensures;
                  room = omega (arith, c.in-Ok-with_capacity.ensures.capacity, c.K.ensures, many);
                  whole = refl;
                  after = refl;
                },
              ),
            ),
          ),
        ),
      ),
    )

pub returns : goal.returns
returns g c =
    let s : Settings = c.args.settings.now in
    let old : Meaning = g.S.Station.meaning c.args.station.now in
    let new : Meaning = g.S.Station.meaning c.run_cells.new.station in
    let same : c.in-Ok-new-2.tracker.settings ≡ s = c.in-Ok-new-2.ensures.settings in
    let head : c.header.result ≡ header s.mode = c.header.ensures ∙ ap header (c.MODE.ensures ∙ sym c.requires.mode) in
    inl
    (subst (λ (h : List ℕ). RunsCells (tracking_work s) s.max_symbols c.args.old_cells.now (Some h) (cell_names c.args.new_cells.now) old new c.run_cells.result) head
    (subst (λ (x : Settings). RunsCells (tracking_work x) s.max_symbols c.args.old_cells.now (Some c.header.result) (cell_names c.args.new_cells.now) old new c.run_cells.result) same c.run_cells.ensures.runs))
