use Rattle.std.proofs.Common.{◌++◌, ◌∷◌, [], ℕ, ◌∙◌, ap}
use Rattle.circular_buffer.specs.Buffer.{Buffer, buffer, keep_last}
use Rattle.forney.proofs.DelayLines.{stands_step, stands_gives, line_read}
use Rattle.forney.proofs.lines.Lines.step.Goals as goal

pub returns-clause-given : goal.returns-clause-given
returns-clause-given c = λ delay stream h.
    stands_gives delay c.args.self.now.lines.items c.args.self.now.next stream c.args.byte c.unwrap_or-out.result c.index_mut.result.now c.push_back.result h c.index_mut.ensures.value c.push_back.ensures.value c.unwrap_or-out.ensures

pub returns-clause-stands : goal.returns-clause-stands
returns-clause-stands c = λ delay stream h.
    stands_step delay c.args.self.now.lines.items c.args.self.now.next stream c.args.byte c.push_back.new.self _ h
    (c.push_back.ensures.items ∙ ap (λ (l : Buffer ℕ). buffer (keep_last l.capacity (l.items ++ c.args.byte ∷ [])) l.capacity)
    (line_read delay c.args.self.now.lines.items c.args.self.now.next stream c.index_mut.result.now h c.index_mut.ensures.value))
    c.next_branch-self.ensures
