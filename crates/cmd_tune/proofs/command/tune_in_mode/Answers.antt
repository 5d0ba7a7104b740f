use Rattle.std.proofs.Common.{◌≡◌, ◌∙◌, ℕ, Bool, List, Option, Some, refl, ap, sym, subst, inl, arith}
use Rattle.std.specs.Prelude.{is_some}
use Rattle.std.specs.Option.{option_copied}
use Rattle.station_core.specs.Meaning.{Meaning}
use Rattle.mode_set.specs.StreamTable.{carriers}
use Rattle.mode_set.specs.declared.settings.Settings.{Settings}
use Rattle.frame_build.specs.CellFile.{header}
use Rattle.cmd_base.proofs.Fitting.{copied_some}
use Rattle.cmd_base.specs.Ports.{stream_names}
use Rattle.cmd_cells.specs.Outputs.{Names}
use Rattle.cmd_cells.specs.Runs.{RunsCells}
use Rattle.cmd_receive.proofs.Commands.{outputs_are}
use Rattle.cmd_receive.proofs.Parts.{some_bytes}
use Rattle.cmd_tune.specs.Working.{tuning_work}
use Rattle.cmd_tune.proofs.command.tune_in_mode.Goals as goal

pub run_cells-requires : goal.run_cells-requires
run_cells-requires g c κs =
    let s : Settings = c.args.settings.now in
    let two : c.is_some.result ≡ is_some (option_copied c.args.files.lp) = c.is_some.ensures ∙ copied_some c.args.files.lp in
    let many : carriers s.mode ≡ g.M.Carriers.K = ap carriers c.requires.mode ∙ sym g.M.Carriers.k_of in (
      (refl, tt),
      (
        record { shared = c.type_bounds.sync-R.shared },
        (
          c.requires.ready,
          (
            outputs_are c.args.files.hp.now (option_copied c.args.files.lp) c.is_some.result two,
            (
              omega (arith, c.deref_mut.ensures.len, c.in-Ok.ensures.len, c.K.ensures, many),
              (
                omega (arith, c.deref_mut.ensures.len, c.in-Ok.ensures.len, c.K.ensures, many, some_bytes s),
                (
                  refl,
                  c.in-Ok-new.ensures s c.requires.mode,
                  c.requires.mode,
                  refl,
                  record {
                    may = λ x piece out going few. (
                      (record { shared = c.type_bounds.sync-R.shared }, going, few),
                      (record { shared = c.type_bounds.sync-R.shared }, record { shared = c.type_bounds.sync-G.shared }),
                    );
                    feeds = λ x y piece out made n h. h;
                  },
                ),
              ),
            ),
          ),
        ),
      ),
    )

pub returns : goal.returns
returns g c =
    let old : Meaning = g.S.Station.meaning c.args.station.now in
    let new : Meaning = g.S.Station.meaning c.run_cells.new.station in
    let s : Settings = c.args.settings.now in
    let cells : List ℕ = c.args.files.cells.now in
    let lp : Option (List ℕ) = option_copied c.args.files.lp in
    let names : Names = stream_names c.args.files.hp.now lp in
    let two : c.is_some.result ≡ is_some lp = c.is_some.ensures ∙ copied_some c.args.files.lp in
    inl (subst (λ (b : Bool). RunsCells (tuning_work s b) s.max_symbols cells (Some (header s.mode)) names old new c.run_cells.result) two
    (subst (λ (h : List ℕ). RunsCells (tuning_work s c.is_some.result) s.max_symbols cells (Some h) names old new c.run_cells.result) c.header.ensures c.run_cells.ensures.runs))
