use Rattle.law_measurement.proofs.Modes.{both_modes}
use Rattle.law_measurement.proofs.Remade.{IsCoding, remade_are_sent, error_is_from_sent}
use Rattle.law_measurement.proofs.laws.decided_cells_are_sent.Goals as goal

pub returns : goal.returns
returns c =
    let coding : IsCoding = record {
      counts = both_modes c.counted.ensures c.counted-2.ensures;
      stays = c.settings.ensures.mode;
      more = c.steps.ensures.next;
      found = c.each_bit_is_found.ensures;
      permutation = c.h_is_a_permutation.ensures;
      agree = c.places_and_words_agree.ensures;
      steps = c.sent_bits_have_steps.ensures;
    } in
    record { cells = remade_are_sent coding; error = error_is_from_sent coding }
