use Rattle.std.proofs.Common.{arith, refl, ◌∙◌}
use Rattle.inner_chain.proofs.Entering.{words_more, word_fits}
use Rattle.inner_chain.proofs.entries.write_word_entries.Goals as goal

pub push_word-requires-clause-spare : goal.push_word-requires-clause-spare
push_word-requires-clause-spare c = omega (arith, word_fits c.args.settings.now c.loop-word.word _ _ _ _ c.loop-word.invariant.entries.long c.loop-word.invariant.capacity (omega (arith, c.requires, c.clear.ensures.capacity)) c.loop-word-test.true c.payload-word-end.ensures)

pub loop-word-preserved : goal.loop-word-preserved
loop-word-preserved c = record {
  entries = words_more c.args.settings.now (λ w. w) c.loop-word.word _ _ _ c.loop-word.invariant.entries c.push_word.ensures.entries refl;
  capacity = c.push_word.ensures.capacity ∙ c.loop-word.invariant.capacity;
}
