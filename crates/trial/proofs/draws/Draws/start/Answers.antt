use Rattle.std.proofs.Common.{◌≡◌, ◌∙◌, ap, refl, cond}
use Rattle.mode_set.specs.declared.modes.Stream.TheVariants.{Lp}
use Rattle.mode_set.specs.declared.settings.Settings.{Settings}
use Rattle.rand_pcg.specs.Lcg.{Lcg}
use Rattle.load_gen.specs.Draws.{after, count_of, generator}
use Rattle.symbol_parameters.specs.Spans.{exists_in}
use Rattle.trial.specs.Drawn.{before}
use Rattle.trial.proofs.PacketSteps.{counted}
use Rattle.trial.proofs.draws.Draws.start.Goals as goal

pub returns : goal.returns
unfolding before
returns c =
    let s : Settings = c.args.settings.now in
    let first : c.count-hp_packets.new.self ≡ after 1 (generator c.args.number) = c.count-hp_packets.ensures.next ∙ ap (after 1) c.start-load.ensures.start in
    let hp : c.count-hp_packets.result ≡ count_of (generator c.args.number) = c.count-hp_packets.ensures.value ∙ ap (λ (h : Lcg). count_of h) c.start-load.ensures.start in
    let lp = c.lp_packets-lp_packets.ensures.count ∙ ap (λ (h : Lcg). cond (exists_in s Lp) (count_of h) 0) first in
    record {
      number_is = refl;
      hp_packets = hp;
      lp_packets = lp;
      hp_left = hp;
      lp_left = lp;
      load = c.lp_packets-lp_packets.ensures.next ∙ ap (λ (h : Lcg). cond (exists_in s Lp) (after 1 h) h) first ∙ counted c.draws_add.ensures (exists_in s Lp) (generator c.args.number);
    }
