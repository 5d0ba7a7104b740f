-- A file's cells are read from its bytes; then the laws over symbols and over close cells apply.
use Rattle.law_tracking.proofs.Files.{beginnings, files, within, returned, clean}
use Rattle.law_tracking.proofs.Sent.{tolerated}
use Rattle.law_tracking.proofs.laws.flat_gain_is_tracked.Goals as goal

pub returns-clause-beginnings : goal.returns-clause-beginnings
returns-clause-beginnings c = beginnings (record { long = c.cells_are_read_back.ensures.long; cells = c.cells_are_read_back.ensures.cells; weights = c.cells_are_read_back.ensures.weights }) c.settings.ensures.mode

pub returns-clause-files : goal.returns-clause-files
returns-clause-files c = files (returns-clause-beginnings c)

pub returns-clause-tolerated : goal.returns-clause-tolerated
returns-clause-tolerated c = tolerated

pub returns-clause-within : goal.returns-clause-within
returns-clause-within c = within tolerated (returns-clause-files c)

pub returns-clause-returned : goal.returns-clause-returned
returns-clause-returned c = returned c.super_frames.ensures.found c.noise.ensures.packets (returns-clause-within c)

pub returns-clause-clean : goal.returns-clause-clean
returns-clause-clean c = clean c.super_frames.ensures.found c.noise.ensures.clean (returns-clause-within c)
