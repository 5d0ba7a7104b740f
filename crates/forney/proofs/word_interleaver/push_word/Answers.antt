use Rattle.std.proofs.Common.{ap, ◌∙◌, arith, slice_index}
use Rattle.forney.proofs.WindowLines.{put_kept, put_taken}
use Rattle.forney.proofs.word_interleaver.push_word.Goals as goal

pub returns-clause-kept : goal.returns-clause-kept
returns-clause-kept c = λ i l.
    put_kept _ c.copy_within.new.self c.copy_from_slice.new.self i (omega (arith, c.copy_within.ensures.len, c.requires.window)) l
    ∙ c.copy_within.ensures.by_index.0 i 0 (omega arith) (omega (arith, c.requires.window, l))
    ∙ ap (slice_index c.args.window.now) (omega arith)

pub returns-clause-taken : goal.returns-clause-taken
returns-clause-taken c = λ j l.
    put_taken _ c.copy_within.new.self c.copy_from_slice.new.self j (omega (arith, c.copy_within.ensures.len, c.requires.window))
    (omega (arith, c.copy_from_slice.ensures.len, c.copy_within.ensures.len, c.requires.window)) l
    ∙ ap (λ xs. slice_index xs j) c.copy_from_slice.ensures.after
