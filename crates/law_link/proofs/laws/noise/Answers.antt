use Rattle.std.proofs.Common.{ℕ}
use Rattle.mode_set.specs.declared.modes.Mode.{Mode}
use Rattle.mode_set.specs.declared.modes.Mode.TheVariants.{M2k, M8k}
use Rattle.law_link.specs.Counted.{AreCounted}
use Rattle.law_link.proofs.Favoured.{AreKnown}
use Rattle.law_link.proofs.Received.{AreListed, AreOwn, AreSteps, noise_law, noise_is_clean}
use Rattle.law_link.proofs.laws.noise.Goals as goal

both : ((l : ℕ) → AreCounted M2k l) → ((l : ℕ) → AreCounted M8k l) → (m : Mode) (l : ℕ) → AreCounted m l
both f g M2k l = f l
both f g M8k l = g l

pub returns : goal.returns
returns c =
    let known : AreKnown = record {
      counts = both c.counted.ensures c.counted-2.ensures;
      permutation = c.h_is_a_permutation.ensures;
      agree = c.places_and_words_agree.ensures;
      found = c.each_bit_is_found.ensures;
      favour = c.near_points_favour_their_bits.ensures;
      apart = c.weights_tell_apart.ensures;
      order = c.steps_send_in_order.ensures;
      numbers = c.steps_are_numbered.ensures;
      stays = c.settings.ensures.mode;
      periods = c.symbols_have_whole_periods.ensures;
    } in
    let steps : AreSteps = record { more = c.steps.ensures.next; symbols = c.steps.ensures.symbols; streams = c.steps.ensures.streams } in
    let listed : AreListed = record { long = c.costs.ensures.long; step = c.costs.ensures.step } in
    let own : AreOwn = record {
      keeps = c.keeps_sent.ensures.law;
      first = c.bits.ensures.first;
      bytes = c.own_bytes.ensures.are_bytes;
      after = c.sending.ensures.bytes;
      packets = c.own_bytes.ensures.packets;
      tally = c.own_bytes.ensures.tally;
      whole = c.words.ensures.whole;
    } in
    record { packets = noise_law known steps listed c.lists_are_paths.ensures own; clean = noise_is_clean known steps listed c.lists_are_paths.ensures own }
