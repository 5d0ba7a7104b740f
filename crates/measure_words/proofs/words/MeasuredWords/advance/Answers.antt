use Rattle.std.proofs.Common.{min, sym, subst, ◌≤◌}
use Rattle.measure_words.specs.declared.counts.WordSums.{WordSums}
use Rattle.measure_words.specs.Seen.{WordsState}
use Rattle.measure_words.specs.Counted.{HasCounted, Measures}
use Rattle.measure_words.proofs.Counting.{advanced}
use Rattle.measure_words.proofs.words.MeasuredWords.advance.Goals as goal

pub returns-clause-measures : goal.returns-clause-measures
returns-clause-measures c = λ bytes done from limit next.
    let x = c.self.inside in
    let new : WordsState = record { outer = x.outer; slots = x.slots.items; all = x.all; current = x.later; later = c.none-self-inside.result } in
    subst (λ (z : WordsState). Measures z bytes done from limit → limit ≤ next → done ≤ next → Measures new bytes done (min done limit) next) c.self.view_is
    (λ h l m. record {
      counted = subst (λ (z : WordSums). HasCounted x.outer x.all x.later z bytes done (min done limit) next) (sym c.none-self-inside.ensures.is) (advanced _ _ _ _ bytes done from limit next h.counted l m);
      waiting = h.waiting;
      words = h.words;
    })
