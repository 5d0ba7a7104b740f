use Rattle.inner_chain.proofs.word_labels.is_for.Goals as goal

pub returns-in-Some : goal.returns-in-Some
returns-in-Some c = λ is. (_, c.in-Some.is, c.are_alike.ensures is)
