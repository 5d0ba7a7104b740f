-- The parameters of each super-frame of a transmission: constellation, hierarchy and code rates.
use Rattle.std.specs.Prelude.{ℕ, nat_le, Bool, ◌||◌, find, reverse, is_some, unwrap_or}
use Rattle.std.specs.List.{list_any}
use Rattle.mode_set.specs.Plans.{entries_of}
use Rattle.mode_set.specs.declared.entry.Entry.{Entry}
use Rattle.mode_set.specs.declared.settings.Settings.{Settings}

-- the settings' own parameters, valid from super-frame 0
abbrev pub top : Settings → Entry
top s = record {
  after = 0;
  shape = s.shape;
  hierarchy = s.hierarchy;
  rate_hp = s.rate_hp;
  rate_lp = s.rate_lp;
  kept
      = record { qpsk = s.kept.qpsk; lp = s.kept.lp };
}

-- the last plan entry whose number is at most j; without one, the settings' own parameters
abbrev pub entry : Settings → ℕ → Entry
entry s j = unwrap_or (find (λ e. nat_le e.after j) (reverse (entries_of s.plan))) (top s)

-- LP exists if the settings or an entry of the plan have it
abbrev pub has_lp : Settings → Bool
has_lp s = is_some s.rate_lp || list_any (λ e. is_some e.rate_lp) (entries_of s.plan)

-- the settings with the parameters of an entry; all else stays
abbrev pub with_entry : Settings → Entry → Settings
with_entry s e = record s {
  shape = e.shape;
  hierarchy = e.hierarchy;
  rate_hp = e.rate_hp;
  rate_lp = e.rate_lp;
  kept = record {
    qpsk = e.kept.qpsk;
    lp = e.kept.lp;
    some_worker = s.kept.some_worker;
    few_workers
        = s.kept.few_workers;
    some_symbol = s.kept.some_symbol;
  };
}
