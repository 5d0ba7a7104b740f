-- The work of `rescue` on cells, with settings s; `two` means that there are two streams.
use Rattle.std.specs.Prelude.{ℕ, Bool, List}
use Rattle.mode_set.specs.declared.settings.Settings.{Settings}
use Rattle.rescue.specs.Streams.{Rescue, RescuesSoFar, RescuesAtEnd}
use Rattle.rescue.specs.Lines.{closing_lines}
use Rattle.cmd_cells.specs.Work.{Work, Written}
use Rattle.cmd_receive.specs.Kinds.{Kind, StandsAs, work_of}

-- the kind of `rescue`
abbrev pub rescuing : Kind
rescuing = record {
  Received = Rescue;
  Live = RescuesSoFar;
  Final = RescuesAtEnd;
  packets = λ r. r.packets;
  reports
      = λ r. r.reports;
  closing = closing_lines;
}

-- the work of `rescue` with these settings
abbrev pub rescue_work : Settings → Bool → Work
rescue_work = work_of rescuing

-- the receiver matches the bytes, and this is its output
abbrev pub RescueStands : (List ℕ → Rescue → Type 0) → Settings → Bool → List ℕ → Written → Type 0
RescueStands = StandsAs rescuing
