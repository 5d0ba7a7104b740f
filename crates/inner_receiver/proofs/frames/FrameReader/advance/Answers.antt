use Rattle.std.proofs.Common.{true, false, refl, arith}
use Rattle.inner_receiver.proofs.Voting.{ends_frame}
use Rattle.inner_receiver.proofs.frames.FrameReader.advance.Goals as goal

pub returns-then-is_readable-clause-stands : goal.returns-then-is_readable-clause-stands
returns-then-is_readable-clause-stands c = λ mode shown n h.
    ends_frame mode _ _ shown n c.word_of-word.result true c.word_of-word.ensures.long c.requires.symbol c.if-self-lt67.false refl c.word_of-word.ensures.word c.if-is_readable.ensures (omega arith) (omega arith) h

pub returns-else-is_readable-clause-stands : goal.returns-else-is_readable-clause-stands
returns-else-is_readable-clause-stands c = λ mode shown n h.
    ends_frame mode _ _ shown n c.word_of-word.result false c.word_of-word.ensures.long c.requires.symbol c.if-self-lt67.false refl c.word_of-word.ensures.word c.if-is_readable.ensures (omega arith) (omega arith) h
