use Rattle.std.proofs.Common.{◌≡◌, ◌-◌, [], refl, sym, ◌∙◌, subst}
use Rattle.symbol_parameters.specs.Spans.{words_before}
use Rattle.measure_stream.specs.declared.reports.ReportCounts.{ReportCounts}
use Rattle.measure_stream.specs.Reports.{AreCounted}
use Rattle.measure_stream.proofs.Meters.{first_limit, first_stands, stands_ready}
use Rattle.measure_stream.proofs.stream.StreamMeter.new.Goals as goal

pub returns-clause-before : goal.returns-clause-before
returns-clause-before c =
    c.words_of.ensures.words ∙ first_limit c.words.ensures.none c.words.ensures.next c.args.settings.now c.args.stream

pub returns-clause-stands : goal.returns-clause-stands
returns-clause-stands c =
    let s = c.args.settings.now in
    let σ = c.args.stream in
    let limit : c.words_of.result ≡ words_before s σ 1 = c.words_of.ensures.words ∙ first_limit c.words.ensures.none c.words.ensures.next s σ in
    first_stands _ s σ c.in_ok-begin.ensures.stands c.in_ok-begin.ensures.loaded c.in_ok-begin.ensures.wait c.new-2.ensures.empty c.in_ok-new-2.ensures.none
    (c.in_ok-new-2.ensures.measures (words_before s σ 1 - 11)) limit
    (subst (λ (z : ReportCounts). AreCounted z s σ 0 []) (sym c.none.ensures.is) (record { all = refl; current = refl; later = refl }))

pub returns-clause-ready : goal.returns-clause-ready
returns-clause-ready c = stands_ready _ _ _ 0 0 [] [] [] (returns-clause-stands c)
