-- How the meaning of a station changes from step to step of a modulation.
use Rattle.std.proofs.Common.{◌∙◌, ap}
use Rattle.station_core.specs.Meaning.{Meaning}
use Rattle.cmd_modulate.specs.Work.{KeepsOthers}

pub keeps_again : (a b c : Meaning) → KeepsOthers a b → KeepsOthers b c → KeepsOthers a c
keeps_again a b c p q =
    q ∙ ap (λ (x : Meaning). record x {
      hp = record x.hp { left = c.hp.left };
      lp = record x.lp { left = c.lp.left };
      cells_out = record x.cells_out { written = c.cells_out.written };
      read_faults = c.read_faults;
      write_faults = c.write_faults;
      pending = c.pending;
    }) p
