use Rattle.std.proofs.Common.{◌≡◌, ◌∙◌, ℕ, Bool, List, Option, Some, refl, ap, sym, subst, inl, arith}
use Rattle.std.specs.Prelude.{is_some}
use Rattle.std.specs.Option.{option_copied}
use Rattle.station_core.specs.Meaning.{Meaning}
use Rattle.mode_set.specs.StreamTable.{carriers}
use Rattle.mode_set.specs.declared.settings.Settings.{Settings}
use Rattle.frame_build.specs.CellFile.{header}
use Rattle.cmd_base.proofs.Fitting.{copied_some}
use Rattle.reception.specs.Cells.{symbol_length}
use Rattle.cmd_cells.specs.Outputs.{Names, stream_names}
use Rattle.cmd_cells.specs.Runs.{RunsCells}
use Rattle.cmd_receive.specs.Working.{reception_work}
use Rattle.cmd_receive.proofs.Commands.{outputs_are}
use Rattle.cmd_receive.proofs.Parts.{some_bytes}
use Rattle.cmd_receive.proofs.command.receive_in.Goals as goal

pub run_cells-requires : goal.run_cells-requires
run_cells-requires g c κs =
    let s : Settings = c.args.settings.now in
    let two : c.is_some.result ≡ is_some (option_copied c.args.files.lp) = c.is_some.ensures ∙ copied_some c.args.files.lp in
    let many : carriers s.mode ≡ g.M.Carriers.K = ap carriers c.requires.mode ∙ sym g.M.Carriers.k_of in
    let size = ap symbol_length c.in-Ok-new.ensures.settings in (
      (refl, tt),
      (
        record { shared = c.type_bounds.sync-R.shared },
        (
          c.requires.ready,
          (
            outputs_are c.args.files.hp.now (option_copied c.args.files.lp) c.is_some.result two,
            (
              omega (arith, c.deref_mut.ensures.len, c.in-Ok-vec.ensures.len, c.K.ensures, many, size),
              (
                omega (arith, c.deref_mut.ensures.len, c.in-Ok-vec.ensures.len, c.K.ensures, many, some_bytes s),
                (
                  c.in-Ok-new.ensures.stands,
                  record {
                    may = λ x piece out going few. (
                      (record { shared = c.type_bounds.sync-R.shared }, going, few),
                      (record { shared = c.type_bounds.sync-R.shared }, record { shared = c.type_bounds.sync-G.shared }),
                    );
                    feeds = λ x y piece out made n h. h;
                  },
                ),
              ),
            ),
          ),
        ),
      ),
    )

pub returns : goal.returns
returns g c =
    let old : Meaning = g.S.Station.meaning c.args.station.now in
    let new : Meaning = g.S.Station.meaning c.run_cells.new.station in
    let s : Settings = c.args.settings.now in
    let own : Settings = c.in-Ok-new.receiver.settings in
    let cells : List ℕ = c.args.files.cells.now in
    let lp : Option (List ℕ) = option_copied c.args.files.lp in
    let names : Names = stream_names c.args.files.hp.now lp in
    let two : c.is_some.result ≡ is_some lp = c.is_some.ensures ∙ copied_some c.args.files.lp in
    inl (subst (λ (x : Settings). RunsCells (reception_work x (is_some lp)) s.max_symbols cells (Some (header s.mode)) names old new c.run_cells.result) c.in-Ok-new.ensures.settings
    (subst (λ (b : Bool). RunsCells (reception_work own b) s.max_symbols cells (Some (header s.mode)) names old new c.run_cells.result) two
    (subst (λ (h : List ℕ). RunsCells (reception_work own c.is_some.result) s.max_symbols cells (Some h) names old new c.run_cells.result) c.header.ensures c.run_cells.ensures.runs)))
