-- A file's cells are read from its bytes; then the laws over symbols and over close cells apply.
use Rattle.law_link.proofs.FlatFiles.{restored, within, returned, clean}
use Rattle.law_link.proofs.flat_gain.files_come_back.Goals as goal

pub returns-clause-restored : goal.returns-clause-restored
returns-clause-restored c = restored (record { long = c.cells_are_read_back.ensures.long; cells = c.cells_are_read_back.ensures.cells; weights = c.cells_are_read_back.ensures.weights; fit = c.corrected_are_cells.ensures }) c.transmissions_come_back.ensures.transmissions

pub returns-clause-within : goal.returns-clause-within
returns-clause-within c = within c.transmissions_come_back.ensures.tolerated (returns-clause-restored c)

pub returns-clause-returned : goal.returns-clause-returned
returns-clause-returned c = returned c.noise.ensures.packets (returns-clause-within c)

pub returns-clause-clean : goal.returns-clause-clean
returns-clause-clean c = clean c.noise.ensures.clean (returns-clause-within c)
