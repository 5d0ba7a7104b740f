-- The state of a trial between its symbols.
use Rattle.std.specs.Prelude.{◌≡◌, ℕ, ◌-◌, false, List, flat_map}
use Rattle.spec_words.specs.Words.{numbers}
use Rattle.mode_set.specs.declared.modes.Stream.TheVariants.{Hp, Lp}
use Rattle.mode_set.specs.declared.settings.Settings.{Settings}
use Rattle.transmission.specs.SuperFrames.{packets_for}
use Rattle.modulator.specs.State.{Transmitter, HasPut}
use Rattle.receiver.specs.Seen.{ReceiverState}
use Rattle.trial.specs.Drawn.{hp_count, lp_count, drawn, before}
use Rattle.trial.specs.Fed.{fed_symbol, byte_sum}
use Rattle.trial.specs.declared.draws.Draws.{Draws}
use Rattle.trial.specs.Feeding.{HasGiven}

-- the visible state of a trial: its settings, and the number that all random values come from
pub record TrialOf : Type 0 where
  pub settings : Settings
  pub number : ℕ

-- the bytes of the first m symbols fed
unfoldable pub first_fed : Settings → ℕ → ℕ → List ℕ
first_fed s number m = flat_map (fed_symbol s number) (numbers m)

-- before symbol m: everything generated, made, fed and counted belongs to earlier symbols
pub record IsBefore (s : Settings) (m : ℕ) (d : Draws) (t : Transmitter) (x : ReceiverState) (hp lp cells : ℕ) : Type
    0 where
  pub hp_packets : d.hp_packets ≡ hp_count d.number
  pub lp_packets : d.lp_packets ≡ lp_count s d.number
  pub hp_left : d.hp_left ≡ hp_count d.number - packets_for s Hp m
  pub lp_left : d.lp_left ≡ lp_count s d.number - packets_for s Lp m
  pub load : d.load ≡ before s d.number m
  pub settings : t.settings ≡ s
  pub made : t.made ≡ m
  pub hp_put : t.hp ≡ packets_for s Hp m
  pub lp_put : t.lp ≡ packets_for s Lp m
  pub put : HasPut t (drawn s d.number)
  pub receives : x.settings ≡ s
  pub going : x.ended ≡ false
  pub taken : x.taken ≡ m
  pub given : HasGiven x (first_fed s d.number m) hp lp
  pub cells_are : cells ≡ byte_sum (first_fed s d.number m)
