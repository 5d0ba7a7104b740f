-- Each carrier's cell is at the place of its index.
use Rattle.std.proofs.Common.{ap, get_or, ◌∙◌, arith, sym}
use Rattle.mode_set.specs.StreamTable.{carriers}
use Rattle.frame_build.specs.Symbol.{bits_of}
use Rattle.frame_build.proofs.Indices.{all_bytes, few_payload, own_sent}
use Rattle.frame_build.proofs.symbol_out.put_symbol.Goals as goal

pub put_cells-requires-clause-index : goal.put_cells-requires-clause-index
put_cells-requires-clause-index g c = λ k l. (own_sent g.M.Carriers.MODE _ c.args.settings.now c.args.next.now c.args.label_cells.now.shape c.args.label_cells.now.hierarchy c.args.number c.turned_at.result c.args.label_cells.now.cells c.args.labels.now c.places-places.result k (get_or c.args.indices.now k 0)
    c.requires.mode c.requires.shape c.requires.hierarchy c.payload_carriers_are_numbered.ensures c.MODE.ensures (omega (arith, l, g.M.Carriers.k_of)) c.args.label_cells.now.table c.places-places.ensures (omega (arith, few_payload g.M.Carriers.MODE))
    (λ q less. c.requires.small q (omega (arith, less, g.M.Carriers.nmax_of))) c.turned_at.ensures (c.requires.indices k 0 (omega (arith, l, g.M.Carriers.k_of)))).few

pub put_cells-requires-clause-place : goal.put_cells-requires-clause-place
put_cells-requires-clause-place g c = λ k l. (own_sent g.M.Carriers.MODE _ c.args.settings.now c.args.next.now c.args.label_cells.now.shape c.args.label_cells.now.hierarchy c.args.number c.turned_at.result c.args.label_cells.now.cells c.args.labels.now c.places-places.result k (get_or c.args.indices.now k 0)
    c.requires.mode c.requires.shape c.requires.hierarchy c.payload_carriers_are_numbered.ensures c.MODE.ensures (omega (arith, l, g.M.Carriers.k_of)) c.args.label_cells.now.table c.places-places.ensures (omega (arith, few_payload g.M.Carriers.MODE))
    (λ q less. c.requires.small q (omega (arith, less, g.M.Carriers.nmax_of))) c.turned_at.ensures (c.requires.indices k 0 (omega (arith, l, g.M.Carriers.k_of)))).place

pub returns : goal.returns
returns g c = record {
  bytes = c.put_cells.ensures
      ∙ all_bytes c.args.settings.now c.args.next.now c.args.number (bits_of c.args.labels.now) c.args.label_cells.now.cells c.places-places.result c.args.indices.now g.M.Carriers.K (g.M.Carriers.k_of ∙ ap carriers (sym c.requires.mode)) (λ k l. (own_sent g.M.Carriers.MODE _ c.args.settings.now c.args.next.now c.args.label_cells.now.shape c.args.label_cells.now.hierarchy c.args.number c.turned_at.result c.args.label_cells.now.cells c.args.labels.now c.places-places.result k (get_or c.args.indices.now k 0)
      c.requires.mode c.requires.shape c.requires.hierarchy c.payload_carriers_are_numbered.ensures c.MODE.ensures (omega (arith, l, g.M.Carriers.k_of)) c.args.label_cells.now.table c.places-places.ensures (omega (arith, few_payload g.M.Carriers.MODE))
      (λ q less. c.requires.small q (omega (arith, less, g.M.Carriers.nmax_of))) c.turned_at.ensures (c.requires.indices k 0 (omega (arith, l, g.M.Carriers.k_of)))).cell);
}
