use Rattle.std.proofs.Common.{sym, ◌∙◌, subst}
use Rattle.mode_set.specs.declared.modes.Stream.TheVariants.{Hp, Lp}
use Rattle.mode_set.specs.declared.settings.Settings.{Settings}
use Rattle.reception.specs.Costs.{costs}
use Rattle.reception.specs.Streams.{at_end}
use Rattle.measurer.specs.Seen.{MeterState}
use Rattle.measurer.specs.Standing.{MetersStand}
use Rattle.measurer.proofs.Closing.{closing}
use Rattle.measurer.proofs.meter.FrameMeter.counts.Goals as goal

pub returns : goal.returns
returns g c = record {
  counts = λ bytes m f count left.
      let s : Settings = c.args.cells.now.settings in
      let x = c.self.inside in
      let y : MeterState = record { comparer = x.comparer; hp = x.hp; lp = x.lp; current = x.current } in
      let h : MetersStand at_end s bytes y = subst (MetersStand at_end s bytes) (sym c.self.view_is) m in
      closing c.symbols.ensures.tail s bytes c.args.cells.now.rest y c.args.frames.now c.symbols-2.result c.waiting.result c.counts-hp.result c.counts-lp.result c.where_lp.result h f
      (c.counts-hp.ensures.totals at_end s Hp x.current.number (h.meters Hp).from (costs s bytes Hp) (h.bits Hp) (h.meters Hp).reports (h.meters Hp).stands)
      (c.counts-lp.ensures.totals at_end s Lp x.current.number (h.meters Lp).from (costs s bytes Lp) (h.bits Lp) (h.meters Lp).reports (h.meters Lp).stands)
      (c.symbols-2.ensures.number ∙ count) c.waiting.ensures.number left c.where_lp.ensures;
}
