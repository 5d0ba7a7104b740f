use Rattle.std.proofs.Common.{◌≡◌, ℕ, ◌+◌, ap, ap₂, sym, ◌∙◌}
use Rattle.symbol_parameters.specs.Spans.{words_in, words_before}
use Rattle.measure_stream.proofs.Meters.{advances}
use Rattle.measure_stream.proofs.stream.StreamMeter.advance.Goals as goal

pub returns-clause-advanced : goal.returns-clause-advanced
returns-clause-advanced c = λ moment j from k bits reports next h short.
    let s = c.args.settings.now in
    let σ = c.args.stream in
    let limit : c.args.self.now.words_before + c.words_of.result ≡ words_before s σ (j + 1 + 1) =
    ap₂ (λ (y z : ℕ). y + z) h.before (c.words_of.ensures.words ∙ ap (words_in s σ) next) ∙ sym (c.words.ensures.next s σ (j + 1)) in
    advances c.bits.ensures.byte c.words.ensures.grow c.words.ensures.whole c.events.ensures.steps moment c.args.self.now c.advance.new.self (c.args.self.now.words_before + c.words_of.result) c.advance-2.new.self s σ j from k bits reports
    c.advance.ensures.none c.advance.ensures.measures limit (λ r. c.advance-2.ensures.counted s σ j r) h short
