use Rattle.std.proofs.Common.{◌++◌, ap, ◌∙◌}
use Rattle.rescue_words.specs.ByteMargins.{byte_margins}
use Rattle.rescue.proofs.Moving.{took_block}
use Rattle.rescue.proofs.blocks.take_block.Goals as goal

pub returns-clause-pushed : goal.returns-clause-pushed
returns-clause-pushed c = took_block c.byte_margins.ensures.more c.args.margins.now c.take.new.self c.clear.new.self.items c.take.new.to.items _ _ c.clear.ensures.items c.take.ensures.left (c.push_byte_margins.ensures.margins ∙ ap (λ z. c.args.to.now.items ++ byte_margins z) c.deref.ensures.value) c.take.ensures.took
