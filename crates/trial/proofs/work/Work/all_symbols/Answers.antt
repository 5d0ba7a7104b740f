use Rattle.std.proofs.Common.{◌≡◌, ◌∙◌, ℕ, sym, ap, subst, arith}
use Rattle.trial.specs.Drawn.{trial_symbols}
use Rattle.trial.specs.State.{IsBefore}
use Rattle.trial.proofs.work.Work.all_symbols.Goals as goal

pub next_symbol-requires-clause-within : goal.next_symbol-requires-clause-within
next_symbol-requires-clause-within g c =
    let all : c.args.symbols ≡ trial_symbols c.args.settings.now c.loop-symbol.self.draws.number = c.requires.all ∙ ap (trial_symbols c.args.settings.now) (sym c.loop-symbol.invariant.number) in
    omega (arith, all, c.loop-symbol-test.true)

pub returns-clause-last : goal.returns-clause-last
returns-clause-last g c =
    let w = c.loop-symbol.self in
    let end : c.loop-symbol.symbol ≡ c.args.symbols = omega (arith, c.loop-symbol-test.false, c.loop-symbol.auto.symbol-end) in
    subst (λ (n : ℕ). IsBefore c.args.settings.now n w.draws w.tx w.rx.receiver w.rx.hp w.rx.lp w.cells) end c.loop-symbol.invariant.at
