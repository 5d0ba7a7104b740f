use Rattle.std.proofs.Common.{refl}
use Rattle.rescue_words.proofs.Recovered.{rescued_word}
use Rattle.rescue_words.proofs.recovery.rescue.Goals as goal

pub returns-in-Found : goal.returns-in-Found
returns-in-Found c = λ far. rescued_word c.args.slot.now.word c.args.margins.now c.least_places-places.result _ c.in-Found.field-0 refl c.least_places-places.ensures.least c.in-Found.ensures.decoded far
