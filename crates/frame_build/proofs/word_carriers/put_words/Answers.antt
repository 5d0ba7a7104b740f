-- Each carrier's cell is at the place of its index.
use Rattle.std.proofs.Common.{ap, get_or, ◌∙◌, arith, sym}
use Rattle.mode_set.specs.StreamTable.{carriers}
use Rattle.symbol_interleave.specs.Carried.{is_odd}
use Rattle.frame_build.specs.Words.{carried_bits}
use Rattle.frame_build.proofs.Indices.{all_bytes, word_place_small, word_sent}
use Rattle.frame_build.proofs.word_carriers.put_words.Goals as goal

pub put_cells-requires-clause-index : goal.put_cells-requires-clause-index
put_cells-requires-clause-index g c = λ k l. omega (arith, (c.requires.indices.at k (omega (arith, l, g.M.Carriers.k_of))).few, c.write_places.ensures.long, c.requires.room)

pub put_cells-requires-clause-place : goal.put_cells-requires-clause-place
put_cells-requires-clause-place g c = λ k l.
    word_place_small g.M.Carriers.MODE _ c.args.label_cells.now.shape _ c.args.turned c.args.words.now c.write_places.new.places k _ c.payload_carriers_are_numbered.ensures c.MODE.ensures (omega (arith, l, g.M.Carriers.k_of)) c.write_places.ensures.places
    (λ w less. c.requires.small w (omega (arith, less, c.requires.count))) (c.requires.indices.at k (omega (arith, l, g.M.Carriers.k_of)))

pub returns-clause-bytes : goal.returns-clause-bytes
returns-clause-bytes g c = λ now next em es eh et.
    c.put_cells.ensures
    ∙ all_bytes now next c.args.number (carried_bits g.M.Carriers.MODE (is_odd c.args.number) c.args.words.now) c.args.label_cells.now.cells c.write_places.new.places c.args.indices.now g.M.Carriers.K (g.M.Carriers.k_of ∙ ap carriers (sym em))
    (λ k l. word_sent g.M.Carriers.MODE _ now next c.args.label_cells.now.shape c.args.label_cells.now.hierarchy c.args.number c.args.turned c.args.label_cells.now.cells c.args.words.now c.write_places.new.places k (get_or c.args.indices.now k 0) em es eh
    c.payload_carriers_are_numbered.ensures c.MODE.ensures (omega (arith, l, g.M.Carriers.k_of)) c.args.label_cells.now.table c.write_places.ensures.places (λ w less. c.requires.small w (omega (arith, less, c.requires.count))) et
    (c.requires.indices.at k (omega (arith, l, g.M.Carriers.k_of))))
