-- As many symbols as the super-frames have.
use Rattle.std.proofs.Common.{◌≡◌, ◌*◌, ◌∙◌, ℕ, Option, Some, sym, ap, subst}
use Rattle.std.specs.Prelude.{unwrap_or}
use Rattle.trial.specs.Drawn.{trial_frames, trial_symbols}
use Rattle.trial.specs.State.{IsBefore, TrialOf}
use Rattle.trial.proofs.whole.Trial.run.Goals as goal

pub all_symbols-requires-clause-all : goal.all_symbols-requires-clause-all
all_symbols-requires-clause-all g c = λ bounds lives.
    let i = c.self.inside in
    let frames : trial_frames i.settings i.work.draws.number ≡ Some c.args.super_frames = ap (λ (t : TrialOf). trial_frames t.settings t.number) c.self.view_is ∙ c.requires.frames in
    sym (ap (λ (o : Option ℕ). 272 * unwrap_or o 0) frames)

pub finish-requires-clause-last : goal.finish-requires-clause-last
finish-requires-clause-last g c = λ bounds lives.
    let i = c.self.inside in
    let w = c.all_symbols.new.self in
    let frames : trial_frames i.settings i.work.draws.number ≡ Some c.args.super_frames = ap (λ (t : TrialOf). trial_frames t.settings t.number) c.self.view_is ∙ c.requires.frames in
    let all : 272 * c.args.super_frames ≡ trial_symbols i.settings w.draws.number = sym (ap (λ (o : Option ℕ). 272 * unwrap_or o 0) frames) ∙ ap (trial_symbols i.settings) (sym c.all_symbols.ensures.number) in
    subst (λ (n : ℕ). IsBefore i.settings n w.draws w.tx w.rx.receiver w.rx.hp w.rx.lp w.cells) all c.all_symbols.ensures.last
