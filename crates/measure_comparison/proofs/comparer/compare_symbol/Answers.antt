use Rattle.std.proofs.Common.{◌≡◌, ℕ, ◌+◌, ◌%◌, ◌/◌, ◌<◌, ◌^◌, length, List, refl, sym, ap, ◌∙◌, subst}
use Rattle.std.specs.Prelude.{slice_index}
use Rattle.spec_words.specs.Bits.{is_set}
use Rattle.mode_set.specs.Entries.{with_entry}
use Rattle.mode_set.specs.StreamTable.{carriers, payload, label_bits}
use Rattle.mode_set.specs.declared.modes.Mode.{Mode}
use Rattle.mode_set.specs.declared.settings.Settings.{Settings}
use Rattle.symbol_parameters.specs.Spans.{settings_at}
use Rattle.measurement.specs.Known.{remade_bit}
use Rattle.measure_comparison.specs.Kept.{IsWhole}
use Rattle.measure_comparison.specs.Standing.{AreReady, HavePassed}
use Rattle.measure_comparison.proofs.Comparing.{compared, not_compared, made_ready}
use Rattle.measure_comparison.proofs.comparer.compare_symbol.Goals as goal

pub remake-requires-clause-settings : goal.remake-requires-clause-settings
remake-requires-clause-settings g c =
    subst (λ (z : Settings). with_entry z c.parameters_of_symbol-entry.result ≡ settings_at z c.args.m) (sym (c.pass_both.ensures.settings ∙ c.requires.settings)) c.parameters_of_symbol-entry.ensures.settings

pub remake-requires-clause-ready : goal.remake-requires-clause-ready
remake-requires-clause-ready g c =
    subst (λ (z : Settings). AreReady (settings_at z c.args.m) c.pass_both.new.hp c.pass_both.new.lp) (sym (c.pass_both.ensures.settings ∙ c.requires.settings))
    (made_ready c.args.settings.now c.with_entry-now.result c.args.m c.pass_both.new.hp c.pass_both.new.lp (c.with_entry-now.ensures ∙ c.parameters_of_symbol-entry.ensures.settings) c.if-has_all.ensures.all c.pass_both.ensures.hp_settled c.pass_both.ensures.lp_settled)

pub sum_kept-requires-clause-count : goal.sum_kept-requires-clause-count
sum_kept-requires-clause-count g c =
    let s : Settings = c.args.settings.now in
    let here : c.with_entry-now.result ≡ settings_at s c.args.m = c.with_entry-now.ensures ∙ c.parameters_of_symbol-entry.ensures.settings in
    let same : c.pass_both.new.coder.settings ≡ s = c.pass_both.ensures.settings ∙ c.requires.settings in
    let there : settings_at c.pass_both.new.coder.settings c.args.m ≡ c.with_entry-now.result = ap (λ (z : Settings). settings_at z c.args.m) same ∙ sym here in
    ap length c.deref.ensures.value ∙ c.remake.ensures.count ∙ ap (λ (z : Settings). payload z.mode) there

pub sum_kept-requires-clause-small : goal.sum_kept-requires-clause-small
sum_kept-requires-clause-small g c =
    let s : Settings = c.args.settings.now in
    let here : c.with_entry-now.result ≡ settings_at s c.args.m = c.with_entry-now.ensures ∙ c.parameters_of_symbol-entry.ensures.settings in
    let same : c.pass_both.new.coder.settings ≡ s = c.pass_both.ensures.settings ∙ c.requires.settings in
    let there : settings_at c.pass_both.new.coder.settings c.args.m ≡ c.with_entry-now.result = ap (λ (z : Settings). settings_at z c.args.m) same ∙ sym here in
    subst (λ (xs : List ℕ). (q : ℕ) → q < payload c.with_entry-now.result.mode → slice_index xs q < 2 ^ label_bits c.with_entry-now.result.shape) (sym c.deref.ensures.value)
    (subst (λ (z : Settings). (q : ℕ) → q < payload z.mode → slice_index c.remake.new.labels.items q < 2 ^ label_bits z.shape) there c.remake.ensures.small)

pub sum_kept-requires-clause-whole : goal.sum_kept-requires-clause-whole
sum_kept-requires-clause-whole g c =
    let s : Settings = c.args.settings.now in
    let here : c.with_entry-now.result ≡ settings_at s c.args.m = c.with_entry-now.ensures ∙ c.parameters_of_symbol-entry.ensures.settings in
    let mode : c.with_entry-now.result.mode ≡ s.mode = ap (λ (z : Settings). z.mode) here ∙ c.settings.ensures.mode s (c.args.m / 272) in
    subst (λ (z : Mode). IsWhole (carriers z) c.args.kept.now) (sym mode) c.requires.whole

pub returns-then-has_all-clause-summed : goal.returns-then-has_all-clause-summed
returns-then-has_all-clause-summed g c = λ known h.
    let s : Settings = c.args.settings.now in
    let m : ℕ = c.args.m in
    let here : c.with_entry-now.result ≡ settings_at s m = c.with_entry-now.ensures ∙ c.parameters_of_symbol-entry.ensures.settings in
    let same : c.pass_both.new.coder.settings ≡ s = c.pass_both.ensures.settings ∙ c.requires.settings in
    let passed : HavePassed s m c.pass_both.new.hp c.pass_both.new.lp c.pass_both.new.coder known = c.pass_both.ensures.passed s m known h in
    compared c.alike_are_summed_alike.ensures c.steps.ensures.next c.settings.ensures.start s c.with_entry-now.result m (m % 68) c.pass_both.new.hp c.pass_both.new.lp c.pass_both.new.coder c.args.kept.now known c.deref.result.now _ here refl c.if-has_all.ensures.all passed
    (subst (λ (xs : List ℕ). (q e : ℕ) → q < payload (settings_at s m).mode → e < label_bits (settings_at s m).shape → is_set (slice_index xs q) e ≡ remade_bit s known m q e) (sym c.deref.ensures.value)
    (subst (λ (z : Settings). HavePassed z m c.pass_both.new.hp c.pass_both.new.lp c.pass_both.new.coder known → (q e : ℕ) → q < payload (settings_at z m).mode → e < label_bits (settings_at z m).shape
    → is_set (slice_index c.remake.new.labels.items q) e ≡ remade_bit z known m q e) same (c.remake.ensures.remade known) passed))
    c.sum_kept.ensures.sums

pub returns-then-has_all-clause-passed : goal.returns-then-has_all-clause-passed
returns-then-has_all-clause-passed g c = λ known h.
    let s : Settings = c.args.settings.now in
    let m : ℕ = c.args.m in
    let same : c.pass_both.new.coder.settings ≡ s = c.pass_both.ensures.settings ∙ c.requires.settings in
    subst (λ (z : Settings). HavePassed z m c.pass_both.new.hp c.pass_both.new.lp c.pass_both.new.coder known → HavePassed z (m + 1) c.remake.new.hp c.remake.new.lp c.remake.new.coder known) same
    (c.remake.ensures.passed known) (c.pass_both.ensures.passed s m known h)

pub returns-else-has_all-clause-summed : goal.returns-else-has_all-clause-summed
returns-else-has_all-clause-summed g c = λ known h.
    not_compared c.steps.ensures.next c.settings.ensures.start c.args.settings.now c.with_entry-now.result c.args.m c.pass_both.new.hp c.pass_both.new.lp c.pass_both.new.coder c.args.kept.now known
    (c.with_entry-now.ensures ∙ c.parameters_of_symbol-entry.ensures.settings) c.if-has_all.ensures.all (c.pass_both.ensures.passed c.args.settings.now c.args.m known h)

pub returns-else-has_all-clause-passed : goal.returns-else-has_all-clause-passed
returns-else-has_all-clause-passed g c = λ known h.
    c.leave_out.ensures.passed c.args.settings.now c.args.m c.pass_both.new.coder known (c.with_entry-now.ensures ∙ c.parameters_of_symbol-entry.ensures.settings) (c.pass_both.ensures.passed c.args.settings.now c.args.m known h)
