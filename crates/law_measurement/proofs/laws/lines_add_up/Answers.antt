use Rattle.law_measurement.proofs.KnownBits.{IsDecoding}
use Rattle.law_measurement.proofs.Totals.{AreListed, lines_add_up, closing_is_received}
use Rattle.law_measurement.proofs.laws.lines_add_up.Goals as goal

pub returns : goal.returns
returns c =
    let decoding : IsDecoding = record {
      some_given = c.existence.ensures.given;
      some_ended = c.existence.ensures.ended;
      given_once = c.given_once.ensures.law;
      ended_once = c.ended_once.ensures.law;
      grows = c.given_grows.ensures.law;
      begins = c.given_begins_ended.ensures.law;
      costs = c.costs.ensures.grow;
    } in
    let laws : AreListed = record {
      more = c.bits.ensures.more;
      stays = c.growth.ensures.word;
      near = c.growth.ensures.one_near;
      words = c.words.ensures.grow;
      whole = c.words.ensures.whole;
      steps = c.steps.ensures.grow;
      none = c.steps.ensures.none;
      long = c.costs.ensures.long;
      reports = c.reports_once.ensures.law;
      reported = c.events.ensures.steps;
    } in
    record { sums = lines_add_up decoding laws; closing = closing_is_received c.receptions.ensures.last }
