use Rattle.law_link.proofs.Favoured.{AreKnown}
use Rattle.law_link.proofs.Received.{AreListed, AreSteps}
use Rattle.reception.specs.Streams.{memory}
use Rattle.law_measurement.specs.Own.{NoiseIsMeasured, OwnIsMeasured}
use Rattle.law_measurement.proofs.Clean.{IsMeasuring, noise_is_measured, own_is_measured, frames_are_near, frames_are_exact}
use Rattle.law_measurement.proofs.KnownBits.{IsDecoding}
use Rattle.law_measurement.proofs.Modes.{both_modes}
use Rattle.law_measurement.proofs.Remade.{IsCoding}
use Rattle.law_measurement.proofs.Sent.{IsSending}
use Rattle.law_measurement.proofs.laws.transmissions_are_measured.Goals as goal

pub returns : goal.returns
returns c =
    let decoding : IsDecoding = record {
      some_given = c.existence.ensures.given;
      some_ended = c.existence.ensures.ended;
      given_once = c.given_once.ensures.law;
      ended_once = c.ended_once.ensures.law;
      grows = c.given_grows.ensures.law;
      begins = c.given_begins_ended.ensures.law;
      costs = c.costs.ensures.grow;
    } in
    let coding : IsCoding = record {
      counts = both_modes c.counted.ensures c.counted-2.ensures;
      stays = c.settings.ensures.mode;
      more = c.steps.ensures.next;
      found = c.each_bit_is_found.ensures;
      permutation = c.h_is_a_permutation.ensures;
      agree = c.places_and_words_agree.ensures;
      steps = c.sent_bits_have_steps.ensures;
    } in
    let known : AreKnown = record {
      counts = coding.counts;
      permutation = coding.permutation;
      agree = coding.agree;
      found = coding.found;
      favour = c.near_points_favour_their_bits.ensures;
      apart = c.weights_tell_apart.ensures;
      order = c.steps_send_in_order.ensures;
      numbers = c.steps_are_numbered.ensures;
      stays = coding.stays;
      periods = c.symbols_have_whole_periods.ensures;
    } in
    let steps : AreSteps = record { more = c.steps.ensures.next; symbols = c.steps.ensures.symbols; streams = c.steps.ensures.streams } in
    let listed : AreListed = record { long = c.costs.ensures.long; step = c.costs.ensures.step } in
    let sending : IsSending = record { known = known; steps = steps; listed = listed; lists = c.lists_are_paths.ensures; keeps = c.keeps_sent.ensures.law memory } in
    let laws : IsMeasuring = record { decoding = decoding; coding = coding; sending = sending; decided = c.near_points_are_decided.ensures; compared = c.symbols_are_compared.ensures; first = c.bits.ensures.first } in
    let noise : NoiseIsMeasured = noise_is_measured laws in
    let own : OwnIsMeasured = own_is_measured laws c.own_cells.ensures.cells c.own_cells.ensures.within in
    record { noise = noise; own = own; near_lines = frames_are_near noise; own_lines = frames_are_exact own c.own_cells.ensures.within }
