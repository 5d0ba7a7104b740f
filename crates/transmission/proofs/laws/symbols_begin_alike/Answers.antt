use Rattle.transmission.proofs.Beginnings.{AreCoded, same_beginning}
use Rattle.transmission.proofs.laws.symbols_begin_alike.Goals as goal

pub returns : goal.returns
returns c =
    let known : AreCoded = record {
      bytes = c.sending.ensures.beginning;
      more = c.steps.ensures.next;
      found = c.each_bit_is_found.ensures;
      permutation = c.h_is_a_permutation.ensures;
      agree = c.places_and_words_agree.ensures;
      steps = c.sent_bits_have_steps.ensures;
    } in
    same_beginning c.args.settings.now c.args.m c.settings.ensures.mode known c.symbols_follow_labels.ensures
