use Rattle.std.proofs.Common.{arith}
use Rattle.symbol_interleave.proofs.Marks.{words_long, word_is}
use Rattle.symbol_interleave.proofs.permutation.Permutation.word_at.Goals as goal

pub index-requires : goal.index-requires
index-requires g c = omega (arith, words_long _ _ _ c.self.invariant, c.self.inside.words.ok)

pub returns-clause-word : goal.returns-clause-word
returns-clause-word g c = (word_is _ _ _ _ _ c.self.invariant c.requires c.index.ensures).word

pub returns-clause-in_symbol : goal.returns-clause-in_symbol
returns-clause-in_symbol g c = (word_is _ _ _ _ _ c.self.invariant c.requires c.index.ensures).low

pub returns-clause-back : goal.returns-clause-back
returns-clause-back g c = (word_is _ _ _ _ _ c.self.invariant c.requires c.index.ensures).back
