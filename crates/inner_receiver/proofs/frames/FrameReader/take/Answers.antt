use Rattle.inner_receiver.proofs.frames.FrameReader.take.Goals as goal

pub returns-clause-taken : goal.returns-clause-taken
returns-clause-taken c = λ shown n e h. c.advance.ensures.stands c.args.mode shown n (c.note.ensures.voted shown n e h)
