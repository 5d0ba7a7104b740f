use Rattle.std.proofs.Common.{ℕ, ◌+◌, ◌*◌, ap, sym}
use Rattle.mode_set.specs.StreamTable.{payload}
use Rattle.inner_chain.specs.Fours.{turned}
use Rattle.inner_chain.proofs.Quads.{carried_are}
use Rattle.inner_chain.proofs.Pairing.{two_words}
use Rattle.inner_chain.proofs.twos.push_twos.Goals as goal

pub returns-in-M2k-clause-labels : goal.returns-in-M2k-clause-labels
returns-in-M2k-clause-labels g c = λ paths all.
    carried_are c.args.settings.now c.args.odd paths c.args.parities.now c.turned_words-words.result g.M.Carriers.MODE (λ (e w : ℕ). 2 * turned e w + e) _ _ c.requires.mode all
    (two_words c.args.settings.now c.args.parities.now c.turned_words-words.result (126 * 12)
    c.requires.shape c.requires.hierarchy c.requires.rate c.each_bit_is_found.ensures (sym (ap payload c.in-M2k.is)) c.turned_words-words.ensures) c.push_carried.ensures.labels

pub returns-in-M8k-clause-labels : goal.returns-in-M8k-clause-labels
returns-in-M8k-clause-labels g c = λ paths all.
    carried_are c.args.settings.now c.args.odd paths c.args.parities.now c.turned_words-words-in-M8k.result g.M.Carriers.MODE (λ (e w : ℕ). 2 * turned e w + e) _ _ c.requires.mode all
    (two_words c.args.settings.now c.args.parities.now c.turned_words-words-in-M8k.result (126 * 48)
    c.requires.shape c.requires.hierarchy c.requires.rate c.each_bit_is_found.ensures (sym (ap payload c.in-M8k.is)) c.turned_words-words-in-M8k.ensures) c.push_carried-in-M8k.ensures.labels
