use Rattle.std.proofs.Common.{[], ◌∷◌, ◌++◌, refl, subst}
use Rattle.measure_words.specs.Seen.{WordsState}
use Rattle.measure_words.specs.Counted.{Measures}
use Rattle.measure_words.proofs.Counting.{measures_byte}
use Rattle.measure_words.proofs.words.MeasuredWords.put_byte.Goals as goal

pub returns-clause-measures : goal.returns-clause-measures
returns-clause-measures c = λ bytes done from limit.
    let x = c.self.inside in
    let new : WordsState = record { outer = c.put_byte.new.self; slots = c.put_byte.new.slots.items; all = x.all; current = x.current; later = x.later } in
    subst (λ (z : WordsState). Measures z bytes done from limit → Measures new (bytes ++ c.args.byte ∷ []) done from limit) c.self.view_is
    (λ h. measures_byte c.growth.ensures.word _ new bytes c.args.byte done from limit h refl refl refl c.put_byte.ensures.phase c.put_byte.ensures.stands c.put_byte.ensures.word c.put_byte.ensures.none)
