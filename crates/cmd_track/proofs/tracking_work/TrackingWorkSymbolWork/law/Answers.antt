use Rattle.std.proofs.Common.{ℕ, List, [], ◌∙◌, sym, ap}
use Rattle.mode_set.specs.declared.settings.Settings.{Settings}
use Rattle.cmd_convert.specs.Working.{written_at}
use Rattle.cmd_track.proofs.Bytes.{Cuts}
use Rattle.cmd_track.proofs.Files.{part_live}
use Rattle.cmd_track.proofs.tracking_work.TrackingWorkSymbolWork.law.Goals as goal

pub returns : goal.returns
returns g c = record {
  part = λ bytes more given within gives port.
      let s : Settings = c.args.self.now.tracker.settings in
      let e = c.symbols.ensures in
      let cuts : Cuts = record { same = e.same; next = e.next; tail = e.tail; ended = e.ended; cells = e.cells; weights = e.weights } in
      gives port ∙ ap (λ (cells : List ℕ). written_at cells [] port) (sym (part_live cuts s bytes more within));
}
