use Rattle.std.proofs.Common.{◌∙◌}
use Rattle.mode_set.proofs.EntryKeys.{all_entry_keys}
use Rattle.mode_set.proofs.plan_key.keys_are_of_entry.Goals as goal

pub returns : goal.returns
returns c = c.all_of_entry.ensures ∙ all_entry_keys c.args.table.now.entries
