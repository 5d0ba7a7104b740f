use Rattle.std.proofs.Common.{arith}
use Rattle.inner_chain.proofs.Entering.{IsGoodEntry, good_entry}
use Rattle.inner_chain.proofs.entries.entry.Goals as goal

pub overflow_add-step : goal.overflow_add-step
overflow_add-step c =
    let g : IsGoodEntry c.args.settings.now c.args.e c.args.word c.first_step_of.result c.parity_of-parity.result.step c.parity_of-parity.result.is_y =
    good_entry c.args.settings.now c.args.e c.args.word c.bit_at-stream.result.0 c.bit_at-stream.result.1 _ _ _ c.rate.result
    c.bit_at-stream.ensures.stream c.bit_at-stream.ensures.exists c.bit_at-stream.ensures.place c.bit_at-stream.ensures.word
    (c.bit_at-stream.ensures.within c.args.settings.now.mode c.requires.word) c.each_bit_is_found.ensures c.rate.ensures c.first_step_of.ensures.first c.parity_of-parity.ensures.reads c.parity_of-parity.ensures.within in
    omega (arith, g.few)

pub overflow_mul-result : goal.overflow_mul-result
overflow_mul-result c =
    let g : IsGoodEntry c.args.settings.now c.args.e c.args.word c.first_step_of.result c.parity_of-parity.result.step c.parity_of-parity.result.is_y =
    good_entry c.args.settings.now c.args.e c.args.word c.bit_at-stream.result.0 c.bit_at-stream.result.1 _ _ _ c.rate.result
    c.bit_at-stream.ensures.stream c.bit_at-stream.ensures.exists c.bit_at-stream.ensures.place c.bit_at-stream.ensures.word
    (c.bit_at-stream.ensures.within c.args.settings.now.mode c.requires.word) c.each_bit_is_found.ensures c.rate.ensures c.first_step_of.ensures.first c.parity_of-parity.ensures.reads c.parity_of-parity.ensures.within in
    omega (arith, g.few)

pub overflow_add-result : goal.overflow_add-result
overflow_add-result c =
    let g : IsGoodEntry c.args.settings.now c.args.e c.args.word c.first_step_of.result c.parity_of-parity.result.step c.parity_of-parity.result.is_y =
    good_entry c.args.settings.now c.args.e c.args.word c.bit_at-stream.result.0 c.bit_at-stream.result.1 _ _ _ c.rate.result
    c.bit_at-stream.ensures.stream c.bit_at-stream.ensures.exists c.bit_at-stream.ensures.place c.bit_at-stream.ensures.word
    (c.bit_at-stream.ensures.within c.args.settings.now.mode c.requires.word) c.each_bit_is_found.ensures c.rate.ensures c.first_step_of.ensures.first c.parity_of-parity.ensures.reads c.parity_of-parity.ensures.within in
    omega (arith, g.small)

pub overflow_cast-result-2 : goal.overflow_cast-result-2
overflow_cast-result-2 c =
    let g : IsGoodEntry c.args.settings.now c.args.e c.args.word c.first_step_of.result c.parity_of-parity.result.step c.parity_of-parity.result.is_y =
    good_entry c.args.settings.now c.args.e c.args.word c.bit_at-stream.result.0 c.bit_at-stream.result.1 _ _ _ c.rate.result
    c.bit_at-stream.ensures.stream c.bit_at-stream.ensures.exists c.bit_at-stream.ensures.place c.bit_at-stream.ensures.word
    (c.bit_at-stream.ensures.within c.args.settings.now.mode c.requires.word) c.each_bit_is_found.ensures c.rate.ensures c.first_step_of.ensures.first c.parity_of-parity.ensures.reads c.parity_of-parity.ensures.within in
    omega (arith, g.small)

pub returns : goal.returns
returns c =
    let g : IsGoodEntry c.args.settings.now c.args.e c.args.word c.first_step_of.result c.parity_of-parity.result.step c.parity_of-parity.result.is_y =
    good_entry c.args.settings.now c.args.e c.args.word c.bit_at-stream.result.0 c.bit_at-stream.result.1 _ _ _ c.rate.result
    c.bit_at-stream.ensures.stream c.bit_at-stream.ensures.exists c.bit_at-stream.ensures.place c.bit_at-stream.ensures.word
    (c.bit_at-stream.ensures.within c.args.settings.now.mode c.requires.word) c.each_bit_is_found.ensures c.rate.ensures c.first_step_of.ensures.first c.parity_of-parity.ensures.reads c.parity_of-parity.ensures.within in
    g.is
