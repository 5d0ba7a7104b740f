use Rattle.std.proofs.Common.{◌≡◌, ℕ, ◌+◌, ◌*◌, ◌/◌, List, length, take, sym, ◌∙◌, subst, arith}
use Rattle.std.proofs.lemmas.List.{length-take-le}
use Rattle.inner_chain.specs.Fours.{parity_place, turned}
use Rattle.inner_chain.specs.Labels.{AreWordLabels, coded_bits}
use Rattle.inner_chain.proofs.Quads.{first_read, four_words, is_whole, words_are}
use Rattle.inner_chain.proofs.word_labels.write_fours.Goals as goal

pub returns : goal.returns
returns c = λ paths all.
    let s = c.args.settings.now in
    let n : ℕ = c.payload-number.result in
    let words : List ℕ = c.turned-words.result in
    let whole = is_whole s.mode in
    let long : length (take n words) ≡ n = length-take-le n words (omega (arith, whole.few, c.payload-number.ensures)) in
    subst (AreWordLabels s (coded_bits s paths)) (sym c.copy_from_slice.ensures.after)
    (words_are s paths c.args.parities.now (λ (e w : ℕ). 8 * turned e w + parity_place e) (take n words) all
    (first_read s c.args.parities.now (λ (e w : ℕ). 8 * turned e w + parity_place e) words n c.payload-number.ensures
    (four_words s c.args.parities.now c.packed.result words n (126 * (n / 126)) c.requires.shape c.requires.hierarchy c.requires.rate c.each_bit_is_found.ensures c.payload-number.ensures
    (omega (arith, whole.blocks, c.payload-number.ensures)) c.packed.ensures c.turned-words.ensures)) (long ∙ c.payload-number.ensures))
