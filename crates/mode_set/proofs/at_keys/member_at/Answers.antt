-- The value that the map of a table finds for a text is that of the table's member.
use Rattle.toml.proofs.Views.{table_get}
use Rattle.mode_set.proofs.at_keys.member_at.Goals as goal

pub returns : goal.returns
returns c = table_get c.get.result c.args.text.now c.args.table.now.entries c.get.ensures.value
