use Rattle.measure_words.proofs.Counting.{none_measured}
use Rattle.measure_words.proofs.words.MeasuredWords.new.Goals as goal

pub returns-clause-measures : goal.returns-clause-measures
returns-clause-measures c = λ limit.
    none_measured c.in_ok-outer.outer c.in_ok-slots.slots.items c.none.result c.none-2.result c.none-3.result limit c.in_ok-outer.ensures.empty c.in_ok-outer.ensures.phase c.in_ok-slots.ensures.items c.none.ensures.is c.none-2.ensures.is c.none-3.ensures.is
