use Rattle.std.proofs.Common.{ℕ, ◌+◌, ◌*◌, ◌/◌, arith}
use Rattle.inner_chain.specs.Fours.{parity_place, turned}
use Rattle.inner_chain.proofs.Quads.{carried_are, four_words, is_whole}
use Rattle.inner_chain.proofs.fours.push_fours.Goals as goal

pub returns-clause-labels : goal.returns-clause-labels
returns-clause-labels g c = λ paths all.
    carried_are c.args.settings.now c.args.odd paths c.args.parities.now c.turned-words.result g.M.Carriers.MODE (λ (e w : ℕ). 8 * turned e w + parity_place e) _ _ c.requires.mode all
    (four_words c.args.settings.now c.args.parities.now c.packed.result c.turned-words.result c.payload-number.result (126 * (c.payload-number.result / 126))
    c.requires.shape c.requires.hierarchy c.requires.rate c.each_bit_is_found.ensures c.payload-number.ensures
    (omega (arith, (is_whole c.args.settings.now.mode).blocks, c.payload-number.ensures)) c.packed.ensures c.turned-words.ensures) c.push_carried.ensures.labels
