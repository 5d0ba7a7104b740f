-- A label has its own cell, and each other source the one behind those of the labels.
use Rattle.std.proofs.Common.{ℕ, List, ap, sym, ◌∙◌, get_or, [], rules}
use Rattle.qam_map.specs.Points.{map_cell}
use Rattle.frame_build.specs.Symbol.{bits_of, sent_bytes}
use Rattle.frame_build.specs.State.{bytes_sent}
use Rattle.frame_build.specs.declared.carrier_content.CarrierContent.{CarrierContent}
use Rattle.frame_build.proofs.cell_table.CellTable.bytes.Goals as goal
use Rattle.frame_build.proofs.cell_table.CellTable.bytes.Goals.{in-Label, in-Pilot}

pub returns : goal.returns
returns c =
    let label : List ℕ = sent_bytes (map_cell c.args.self.now.shape c.args.self.now.hierarchy (bits_of c.args.labels.now c.args.next)) in
    elim c.match-source.branch [
      | in-Label w ↦ ap (λ (z : ℕ). get_or c.args.self.now.cells z []) w.place-is ∙ c.args.self.now.table.labels (get_or c.args.labels.now c.args.next 0) [] (c.requires.small w.in-Label.is)
          ∙ ap (λ (z : CarrierContent). bytes_sent z c.args.turned label) (sym w.in-Label.is)
      | in-Pilot w ↦ ap (λ (z : ℕ). get_or c.args.self.now.cells z []) (w.place-is ∙ w.place-place.ensures) ∙ c.args.self.now.table.others c.args.source c.args.turned label [] (search rules)
    ]
