-- The header of the cell file is written before the first symbol.
use Rattle.std.proofs.Common.{◌≡◌, ℕ, List, [], ◌++◌, take, Option, None, Some, Ok, Err, ap, sym, subst, ◌∙◌}
use Rattle.std.proofs.lemmas.List.{append-nil}
use Rattle.station_core.specs.Meaning.{Meaning}
use Rattle.mode_set.specs.declared.modes.Stream.{Stream}
use Rattle.mode_set.specs.declared.settings.Settings.{Settings as TheSettings}
use Rattle.frame_build.specs.CellFile.{header}
use Rattle.transmission.specs.Transmission.{Inputs, first_symbols}
use Rattle.transmission.specs.SuperFrames.{tx}
use Rattle.transmission.specs.Agenda.{first_refusal, symbols_sent}
use Rattle.transmission.specs.Agenda as agenda
use Rattle.transmission.specs.Laws.{NoSymbol}
use Rattle.cmd_base.specs.declared.refusal.Refusal.{Refusal}
use Rattle.cmd_modulate.specs.ModulateCommand.{cells_sent, file_of_symbols, inputs_of, sent_by}
use Rattle.cmd_modulate.specs.declared.inputs.PacketInputs.{PacketInputs}
use Rattle.cmd_modulate.specs.Seen.{Seen}
use Rattle.cmd_modulate.specs.Inputs.{left_of}
use Rattle.cmd_modulate.specs.Work.{AreOpen, BothRead, Ends, IsAtWork, IsWritten, KeepsOthers, TakeFew, WritesBytes, WritesCells}
use Rattle.cmd_modulate.proofs.Few.{few_at_work}
use Rattle.cmd_modulate.proofs.Fronts.{front_of}

-- writing only to Cells
pub keeps_cells : (m m' m'' : Meaning) → WritesCells m m' → KeepsOthers m' m'' → KeepsOthers m m''
keeps_cells m m' m'' p q =
    q ∙ ap (λ (x : Meaning). record x {
      hp = record x.hp { left = m''.hp.left };
      lp = record x.lp { left = m''.lp.left };
      cells_out = record x.cells_out { written = m''.cells_out.written };
      read_faults = m''.read_faults;
      write_faults = m''.write_faults;
      pending = m''.pending;
    }) p

-- the inputs stay open
pub inputs_stay : (m m' : Meaning) (inputs : PacketInputs) → WritesCells m m' → AreOpen inputs m → AreOpen inputs m'
inputs_stay m m' inputs keeps opened = subst (λ (x : Meaning). AreOpen inputs x) (sym keeps) (record { hp = opened.hp; lp = opened.lp })

-- a prefix of the header is a prefix of the cells sent
front_sent : (s : TheSettings) (limit : ℕ) (inputs : Inputs) (k : ℕ) → (j : ℕ) × (take k (header s.mode) ≡ take j (cells_sent s limit inputs))
front_sent s limit inputs k = go (first_refusal s limit inputs)
  where
    go : (o : Option agenda.Refusal) → (j : ℕ) × (take k (header s.mode) ≡ take j (sent_by s limit inputs o))
    go None = front_of (header s.mode) (tx s inputs) k
    go (Some r) = front_of (header s.mode) (first_symbols s inputs (symbols_sent s limit inputs)) k

module _ (limit : ℕ) (files : Stream → List ℕ) (m m' : Meaning) (inputs : PacketInputs) (t : Seen) (put : Inputs → Type 0) (work : IsAtWork limit files m inputs t put) (empty : m.cells_out.written ≡ []) (keeps : WritesCells m m') where
  -- the header was written: no symbol yet
  pub headed : NoSymbol → t.made ≡ 0 → WritesBytes (header t.settings.mode) m m' (Ok tt) → IsWritten limit files m' inputs t put
  headed none new writes = record {
    work = record {
      at = work.at;
      stands = work.stands;
      read = subst (λ (x : Meaning). BothRead files x inputs t) (sym keeps) (record { hp = work.read.hp; lp = work.read.lp });
    };
    written =
        writes ∙ ap (λ (l : List ℕ). l ++ header t.settings.mode) empty ∙ sym (append-nil (header t.settings.mode))
        ∙ ap (λ (l : List ℕ). header t.settings.mode ++ l) (sym (none t.settings (inputs_of files)))
        ∙ ap (λ (n : ℕ). file_of_symbols t.settings (inputs_of files) n) (sym new);
  }

  -- it was not
  pub unheaded : (r : Refusal) → WritesBytes (header t.settings.mode) m m' (Err r) → Ends t.settings limit files m' r × TakeFew limit files (left_of m')
  unheaded r writes =
      let front = front_sent t.settings limit (inputs_of files) writes.1 in (
        subst (λ (x : Refusal). Ends t.settings limit files m' x) (sym writes.0) (
          front.0,
          writes.2 ∙ ap (λ (l : List ℕ). l ++ take writes.1 (header t.settings.mode)) empty ∙ front.1,
        ),
        subst (λ (l : Stream → List ℕ). TakeFew limit files l) (sym (ap left_of keeps)) (few_at_work limit files m inputs t put work),
      )
