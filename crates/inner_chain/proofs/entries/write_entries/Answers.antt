use Rattle.std.proofs.Common.{arith, ◌≡◌, sym, subst, ◌∙◌}
use Rattle.mode_set.specs.declared.modes.Mode.{Mode}
use Rattle.symbol_interleave.specs.Carried.{carried}
use Rattle.inner_chain.proofs.Entering.{words_more, word_fits}
use Rattle.inner_chain.proofs.entries.write_entries.Goals as goal

pub push_word-requires-clause-spare : goal.push_word-requires-clause-spare
push_word-requires-clause-spare g c = omega (arith, word_fits c.args.settings.now c.loop-q.q _ _ _ _ c.loop-q.invariant.entries.long c.loop-q.invariant.capacity (omega (arith, c.requires.spare, c.clear.ensures.capacity)) c.loop-q-test.true c.payload-q-end.ensures)

pub loop-q-preserved : goal.loop-q-preserved
loop-q-preserved g c =
    let word : c.source.result ≡ carried c.args.settings.now.mode c.args.odd c.loop-q.q = subst (λ (m : Mode). c.source.result ≡ carried m c.args.odd c.loop-q.q) (sym c.requires.mode) c.source.ensures.carried in
    record {
      entries = words_more c.args.settings.now (carried c.args.settings.now.mode c.args.odd) c.loop-q.q _ _ _ c.loop-q.invariant.entries c.push_word.ensures.entries word;
      capacity = c.push_word.ensures.capacity ∙ c.loop-q.invariant.capacity;
    }
