-- The random packets for a symbol, and how they are put into the modulator.
use Rattle.std.specs.Prelude.{◌≡◌, ℕ, ◌+◌, ◌-◌, ◌*◌, ◌<◌, ◌≤◌, ◌==◌, min, if◌then◌else◌, List}
use Rattle.mode_set.specs.declared.modes.Stream.{Stream}
use Rattle.mode_set.specs.declared.modes.Stream.TheVariants.{Hp, Lp}
use Rattle.mode_set.specs.declared.settings.Settings.{Settings}
use Rattle.ts_packet.specs.Packet.{null_packet}
use Rattle.rand_pcg.specs.Lcg.{Lcg}
use Rattle.load_gen.specs.Draws.{after, packet_of, packet_words}
use Rattle.transmission.specs.SuperFrames.{packets_for}
use Rattle.modulator.specs.State.{Transmitter, HasPut}
use Rattle.trial.specs.Drawn.{hp_count, lp_count, drawn, drawn_count, drawn_before, before}
use Rattle.trial.specs.declared.draws.Draws.{Draws}

-- the counts of the packets were generated, and nothing else
pub record IsStarted (s : Settings) (number : ℕ) (d : Draws) : Type 0 where
  pub number_is : d.number ≡ number
  pub hp_packets : d.hp_packets ≡ hp_count number
  pub lp_packets : d.lp_packets ≡ lp_count s number
  pub hp_left : d.hp_left ≡ hp_count number
  pub lp_left : d.lp_left ≡ lp_count s number
  pub load : d.load ≡ before s number 0

-- the next packet of a stream with `left` packets still to generate
abbrev pub next_of : ℕ → Lcg → List ℕ
next_of left g = if left == 0 then null_packet else packet_of g

-- the generator after it
abbrev pub behind_next : ℕ → Lcg → Lcg
behind_next left g = if left == 0 then g else after packet_words g

-- only the generator and the packets still to generate have changed
abbrev pub KeepsCounts : Draws → Draws → Type 0
KeepsCounts old new = new ≡ record old { load = new.load; hp_left = new.hp_left; lp_left = new.lp_left }

-- the number of a stream's packets generated for symbol m so far, if `put` packets of the stream were put
abbrev pub drawn_since : Settings → ℕ → Stream → ℕ → ℕ → ℕ
drawn_since s number σ m put = min (drawn_count s number σ) put - drawn_before s number σ m

-- Between the packets of symbol m: those of earlier symbols were put, and some of its own, HP before LP.
pub record IsPutting (s : Settings) (m : ℕ) (d : Draws) (t : Transmitter) : Type 0 where
  pub settings : t.settings ≡ s
  pub made : t.made ≡ m
  pub put : HasPut t (drawn s d.number)
  pub hp_left : d.hp_left ≡ hp_count d.number - t.hp
  pub lp_left : d.lp_left ≡ lp_count s d.number - t.lp
  pub hp_least : packets_for s Hp m ≤ t.hp
  pub hp_most : t.hp ≤ packets_for s Hp (m + 1)
  pub lp_least : packets_for s Lp m ≤ t.lp
  pub lp_most : t.lp ≤ packets_for s Lp (m + 1)
  pub in_order : packets_for s Lp m < t.lp → t.hp ≡ packets_for s Hp (m + 1)
  pub load : d.load ≡ after (packet_words * drawn_since s d.number Lp m t.lp)
      (after (packet_words * drawn_since s d.number Hp m t.hp) (before s d.number m))
