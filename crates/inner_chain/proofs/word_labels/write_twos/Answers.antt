use Rattle.std.proofs.Common.{◌≡◌, ℕ, ◌+◌, ◌*◌, length, sym, ap, ◌∙◌, subst, arith}
use Rattle.mode_set.specs.StreamTable.{payload}
use Rattle.inner_chain.specs.Fours.{turned}
use Rattle.inner_chain.specs.Labels.{AreWordLabels, coded_bits}
use Rattle.inner_chain.proofs.Quads.{words_are}
use Rattle.inner_chain.proofs.Pairing.{two_words}
use Rattle.inner_chain.proofs.word_labels.write_twos.Goals as goal

pub returns-in-M2k : goal.returns-in-M2k
returns-in-M2k c = λ paths all.
    let s = c.args.settings.now in
    let number : 1512 ≡ payload s.mode = sym (ap payload c.in-M2k.is) in
    let long : length c.turned_words-words.result ≡ 1512 = omega arith in
    subst (AreWordLabels s (coded_bits s paths)) (sym c.copy_from_slice.ensures.after)
    (words_are s paths c.args.parities.now (λ (e w : ℕ). 2 * turned e w + e) c.turned_words-words.result all
    (two_words s c.args.parities.now c.turned_words-words.result (126 * 12) c.requires.shape c.requires.hierarchy c.requires.rate c.each_bit_is_found.ensures number c.turned_words-words.ensures) (long ∙ number))

pub returns-in-M8k : goal.returns-in-M8k
returns-in-M8k c = λ paths all.
    let s = c.args.settings.now in
    let number : 6048 ≡ payload s.mode = sym (ap payload c.in-M8k.is) in
    let long : length c.turned_words-words-in-M8k.result ≡ 6048 = omega arith in
    subst (AreWordLabels s (coded_bits s paths)) (sym c.copy_from_slice-in-M8k.ensures.after)
    (words_are s paths c.args.parities.now (λ (e w : ℕ). 2 * turned e w + e) c.turned_words-words-in-M8k.result all
    (two_words s c.args.parities.now c.turned_words-words-in-M8k.result (126 * 48) c.requires.shape c.requires.hierarchy c.requires.rate c.each_bit_is_found.ensures number c.turned_words-words-in-M8k.ensures) (long ∙ number))
