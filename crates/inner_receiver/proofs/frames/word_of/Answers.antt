use Rattle.std.proofs.Common.{drop, ◌∙◌, arith, length-drop}
use Rattle.std.proofs.lemmas.List.{take_all}
use Rattle.inner_receiver.proofs.frames.word_of.Goals as goal

pub returns-clause-word : goal.returns-clause-word
returns-clause-word c = c.copy_from_slice.ensures.after ∙ take_all 67 (drop 1 c.args.bits.now) (omega (arith, c.told-bits, length-drop 1 c.args.bits.now))
