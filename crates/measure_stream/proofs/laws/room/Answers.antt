use Rattle.measure_stream.proofs.Meters.{room_for_symbol, room_at_end}
use Rattle.measure_stream.proofs.laws.room.Goals as goal

pub returns-clause-symbol : goal.returns-clause-symbol
returns-clause-symbol c = room_for_symbol c.rooms.ensures.steps c.steps.ensures.grow

pub returns-clause-last : goal.returns-clause-last
returns-clause-last c = room_at_end c.rooms.ensures.steps c.steps.ensures.grow
