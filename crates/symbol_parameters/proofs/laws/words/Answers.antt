use Rattle.symbol_parameters.proofs.Adding.{no_words, words_of_one_more, words_grow, spans_have_whole_words}
use Rattle.symbol_parameters.proofs.Constant.{constant_words}
use Rattle.symbol_parameters.proofs.laws.words.Goals as goal

pub returns-clause-none : goal.returns-clause-none
returns-clause-none c = no_words

pub returns-clause-next : goal.returns-clause-next
returns-clause-next c = words_of_one_more

pub returns-clause-grow : goal.returns-clause-grow
returns-clause-grow c = words_grow

pub returns-clause-whole : goal.returns-clause-whole
returns-clause-whole c = spans_have_whole_words c.super_frames_have_whole_words.ensures

pub returns-clause-constant : goal.returns-clause-constant
returns-clause-constant c = constant_words
