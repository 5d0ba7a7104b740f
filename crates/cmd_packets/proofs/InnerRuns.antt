-- The runs of `inner`: its settings were accepted and its memory was allocated, or it was refused before.
use Rattle.std.proofs.Common.{◌≡◌, inr, true, ℕ, List, [], ◌∷◌, refl, ◌∙◌, sym, ap, subst, Ok, Err, Some}
use Rattle.station_core.specs.Meaning.{Meaning, IsFresh}
use Rattle.mode_set.specs.declared.modes.Rate.{Rate}
use Rattle.mode_set.specs.declared.settings.Settings.{Settings as TheSettings}
use Rattle.forney.specs.Values.{stream_of, values}
use Rattle.outer_chain.specs.Bits.{bytes_of}
use Rattle.outer_chain.specs.Sent.{outer_bytes, sent_bytes}
use Rattle.outer_chain.specs.SendingLaws.{MorePacketsSent}
use Rattle.puncture.specs.Laws.{StepsSendInOrder, StepsAreNumbered, SentBitsAreRuns}
use Rattle.puncture.specs.SentBits.{path_of}
use Rattle.cmd_base.specs.declared.refusal.Refusal.{Refusal}
use Rattle.cmd_base.specs.declared.refusal.Refusal.TheVariants.{Usage, Settings, ReadFault, WriteFault, NotSync, Memory, Limit, Cells}
use Rattle.cmd_base.specs.Command.{Command, is_among}
use Rattle.cmd_base.specs.Run.{Run}
use Rattle.cmd_base.specs.Text.{status_of, refusal_status, refusal_text}
use Rattle.cmd_base.proofs.Stated.{stated}
use Rattle.cmd_base.specs.Report.{WritesText}
use Rattle.cmd_base.specs.SettingsStep.{AsksSettings, ReadsSettings}
use Rattle.cmd_base.proofs.Early.{RefusedEarly, refused_early, early_ended}
use Rattle.cmd_base.proofs.Whole.{run_refused}
use Rattle.cmd_packets.specs.Commands.{inner_coding, inner_command}
use Rattle.cmd_packets.specs.Inner.{InnerState, IsAfter}
use Rattle.cmd_packets.specs.InnerBytes.{inner_bytes, filled_inner_bytes}
use Rattle.cmd_packets.specs.Steps.{IsReady, RunsCoding}
use Rattle.cmd_packets.proofs.CodingEnd.{SettingsDone, SameCoding, ready_after, run_of}
use Rattle.cmd_packets.proofs.InnerGrows.{inner_grows, inner_ends}
use Rattle.cmd_packets.proofs.SentOfBytes.{none_sent}

-- before the first packet nothing is coded
pub nothing_sent : sent_bytes [] ≡ []
unfolding outer_bytes values
nothing_sent = refl

pub nothing_coded : (r : Rate) → inner_bytes r (sent_bytes []) ≡ []
unfolding bytes_of
nothing_coded r = ap (inner_bytes r) nothing_sent ∙ ap bytes_of (none_sent r (path_of (stream_of [])))

pub after_nothing : (state : InnerState) (r : Rate) → IsAfter state r [] → IsAfter state r (sent_bytes [])
after_nothing state r is = subst (λ (l : List ℕ). IsAfter state r l) (sym nothing_sent) is

module _ (name : List ℕ) (old mid : Meaning) (fresh : IsFresh old) (asks : AsksSettings name old mid) (settings : TheSettings) (reads : ReadsSettings name old mid (Ok settings)) where
  same_mid : mid ≡ record old { settings = mid.settings }
  same_mid = asks.others ∙ ap (λ (n : ℕ). record old { settings = mid.settings; read_faults = n }) reads.0

  pub ready : IsReady mid
  ready = subst IsReady (sym same_mid) (ready_after old mid.settings fresh)

  settings_done : SettingsDone (Some name) old mid.settings
  settings_done = record {
    asked = inr reads.1;
    attached = λ is. reads.2;
    left = λ t is. (reads.3 t).0;
    read = λ t is attached. asks.read t attached;
    accepted = λ t. (reads.3 t).1.1;
  }

  module _ (input output : List ℕ) (limit : ℕ) (new : Meaning) (r : Rate) (rate : r ≡ settings.rate_hp) (status : ℕ)
      (runs : RunsCoding (λ packets. inner_bytes r (sent_bytes packets)) (λ packets. filled_inner_bytes r (sent_bytes packets)) limit input output mid new status) where
    abbrev gives : List (List ℕ) → List ℕ
    gives packets = inner_bytes r (sent_bytes packets)

    abbrev ends : List (List ℕ) → List ℕ
    ends packets = filled_inner_bytes r (sent_bytes packets)

    same : old.tells ≡ true → SameCoding (inner_coding name) old.file gives ends
    same t =
        let states = stated settings (old.file name) (reads.3 t).1.2 in
        record {
          so_far = λ packets. (settings, states, ap (λ (x : Rate). inner_bytes x (sent_bytes packets)) rate);
          in_all = λ packets. (settings, states, ap (λ (x : Rate). filled_inner_bytes x (sent_bytes packets)) rate);
        }

    runs' : RunsCoding gives ends limit input output (record old { settings = mid.settings }) new status
    runs' = subst (λ (m : Meaning). RunsCoding gives ends limit input output m new status) same_mid runs

    pub inner_run : StepsSendInOrder → StepsAreNumbered → SentBitsAreRuns → MorePacketsSent → Run (inner_command name input output) limit old new status
    inner_run in_order numbered laws more =
        run_of (Some name) (0 ∷ 3 ∷ 4 ∷ 5 ∷ 6 ∷ 7 ∷ 8 ∷ []) (record { done = refl; not_sync = refl; read_fault = refl; write_fault = refl; limit = refl })
        (inner_coding name) limit input output old mid.settings fresh settings_done gives ends same
        (inner_grows in_order numbered laws r more) (inner_ends in_order numbered laws r) new status runs'

module _ (name input output : List ℕ) (limit : ℕ) (old mid new : Meaning) (fresh : IsFresh old) (asks : AsksSettings name old mid) where
  abbrev c : Command
  c = inner_command name input output

  early_run : (r : Refusal) → RefusedEarly c limit old mid r → is_among (status_of (Some r)) c.statuses ≡ true → WritesText (refusal_text r) mid new → Run c limit old new (refusal_status r)
  early_run r h known tells =
      run_refused c limit old mid new r (early_ended c limit name old mid refl (inr (refl, refl)) (λ u same. refl) (λ file. tt) fresh asks r h known) tells

  -- memory was lacking
  pub inner_without_memory : mid.read_faults ≡ old.read_faults → WritesText (refusal_text Memory) mid new → Run c limit old new (refusal_status Memory)
  inner_without_memory same tells = early_run Memory same refl tells

  -- the settings were rejected, could not be read, or memory was lacking
  pub inner_refused : (r : Refusal) → ReadsSettings name old mid (Err r) → WritesText (refusal_text r) mid new → Run c limit old new (refusal_status r)
  inner_refused r reads tells = early_run r (refused_early c limit name old mid r (λ reason is. is) asks.later reads) (known r reads) tells
    where
      known : (r : Refusal) → ReadsSettings name old mid (Err r) → is_among (status_of (Some r)) c.statuses ≡ true
      known Usage h = absurd h
      known (Cells reason) h = absurd h
      known (Settings reason) h = refl
      known ReadFault h = refl
      known WriteFault h = absurd h
      known (NotSync stream n) h = absurd h
      known Memory h = refl
      known (Limit n) h = absurd h
