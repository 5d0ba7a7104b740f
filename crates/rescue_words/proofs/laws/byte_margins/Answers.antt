use Rattle.rescue_words.proofs.ByteLists.{more_byte_margins}
use Rattle.rescue_words.proofs.laws.byte_margins.Goals as goal

pub returns : goal.returns
returns c = record { more = more_byte_margins }
