use Rattle.std.proofs.Common.{◌++◌, ap, ◌∙◌}
use Rattle.rescue_words.specs.ByteMargins.{byte_margins}
use Rattle.rescue.proofs.Moving.{ended_margins}
use Rattle.rescue.proofs.blocks.end_margins.Goals as goal

pub returns-clause-ends : goal.returns-clause-ends
returns-clause-ends c = ended_margins c.byte_margins.ensures.more c.args.margins.now c.clear.new.self.items c.finish.new.to.items _ _ c.clear.ensures.items (c.push_byte_margins.ensures.margins ∙ ap (λ z. c.args.to.now.items ++ byte_margins z) c.deref.ensures.value) c.finish.ensures.finished
