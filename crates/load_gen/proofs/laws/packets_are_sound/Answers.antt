use Rattle.load_gen.proofs.Drawn.{sound, bytes}
use Rattle.load_gen.proofs.laws.packets_are_sound.Goals as goal

pub returns-clause-packet : goal.returns-clause-packet
returns-clause-packet c = sound

pub returns-clause-bytes : goal.returns-clause-bytes
returns-clause-bytes c = bytes
