use Rattle.std.proofs.Common.{◌≡◌, ◌<◌, ◌∙◌, ℕ, sym, ap, subst}
use Rattle.mode_set.specs.declared.settings.Settings.{Settings}
use Rattle.trial.specs.Drawn.{trial_symbols}
use Rattle.trial.specs.declared.draws.Draws.{Draws}
use Rattle.trial.proofs.PacketSteps.{lacks_less}
use Rattle.trial.proofs.draws.put_wanted.Goals as goal

-- a symbol of the trial, in terms of a later state
still_within : (s s' : Settings) (m m' n n' : ℕ) → s' ≡ s → m' ≡ m → n' ≡ n → m < trial_symbols s n → m' < trial_symbols s' n'
still_within s s' m m' n n' es em en l =
    subst (λ (k : ℕ). k < trial_symbols s' n') (sym em) (subst (λ (z : Settings). m < trial_symbols z n') (sym es) (subst (λ (k : ℕ). m < trial_symbols s k) (sym en) l))

pub loop-stream-preserved : goal.loop-stream-preserved
loop-stream-preserved g c =
    let inv = c.loop-stream.invariant in
    let e = c.put_next.ensures in
    let d : Draws = c.put_next.new.draws in
    record {
      kept = e.kept ∙ ap (λ (z : Draws). record z { load = d.load; hp_left = d.hp_left; lp_left = d.lp_left }) inv.kept;
      settings = e.settings ∙ inv.settings;
      made = e.made ∙ inv.made;
      within = still_within c.loop-stream.tx.settings c.put_next.new.tx.settings c.loop-stream.tx.made c.put_next.new.tx.made c.loop-stream.draws.number d.number e.settings e.made (ap (λ (z : Draws). z.number) e.kept) inv.within;
      putting = e.putting;
    }

pub loop-stream-smaller : goal.loop-stream-smaller
loop-stream-smaller g c =
    lacks_less c.in-Some.stream c.loop-stream.tx c.put_next.new.tx (sym c.wanted_stream.ensures ∙ c.in-Some.is) c.put_next.ensures.settings c.put_next.ensures.made c.put_next.ensures.more
