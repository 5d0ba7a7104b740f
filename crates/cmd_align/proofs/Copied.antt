-- The output of a call of the work after a place, and at one.
use Rattle.std.proofs.Common.{◌≡◌, ◌≢◌, ℕ, ◌+◌, ◌<◌, ◌≤◌, ◌⊎◌, inl, inr, List, [], ◌++◌, length, true, Some, None, Result, Ok, refl, ◌∙◌, sym, ap, arith, append_assoc}
use Rattle.std.proofs.lemmas.List.{append-nil}
use Rattle.station_core.specs.Meaning.{Meaning}
use Rattle.station_core.specs.declared.ports.OutPort.TheVariants as outs
use Rattle.frame_build.specs.CellFile.{header}
use Rattle.mode_set.specs.declared.settings.Settings.{Settings}
use Rattle.reception.specs.Cells.{symbol_length, symbols, tail}
use Rattle.reception.specs.Laws.{EndsSymbol, IsWithin, OneSymbolMore, SameSymbols}
use Rattle.cmd_base.specs.declared.refusal.Refusal.{Refusal}
use Rattle.cmd_cells.specs.declared.run_error.RunError.{RunError}
use Rattle.cmd_cells.specs.Outputs.{IsWriting}
use Rattle.cmd_cells.specs.Work.{Does, Written}
use Rattle.cmd_cells.specs.Writing.{WritesAt}
use Rattle.cmd_convert.specs.Working.{written_at}
use Rattle.cmd_convert.proofs.Calls.{wrote_cells}
use Rattle.tune_in.specs.OfBytes.{rest}
use Rattle.tune_in.specs.Places.{begin}
use Rattle.tune_in.specs.declared.frame.Found.{Found}
use Rattle.tune_search.specs.Searching.{IsAtPlace}
use Rattle.tune_search.proofs.Bytes.{symbols_grow}
use Rattle.reception.specs.WholeSymbols.{whole_symbols}
use Rattle.cmd_align.specs.Announcement.{found_lines}
use Rattle.cmd_align.specs.Aligned.{aligned_cells, aligned_file}
use Rattle.cmd_align.specs.Working.{Appends, GivesAt, IsCopying, ReportOnly}
use Rattle.cmd_align.specs.declared.copying.Copying.{Copying}
use Rattle.cmd_align.proofs.Calls.{does_nothing, follow, told}
use Rattle.cmd_align.proofs.Cells.{before_it, next_symbol, part_symbol, part_tail}
use Rattle.cmd_align.proofs.Places.{none_aligned, same_gives}

module _ (s : Settings) (found : Found) (c c' : Copying) (bytes piece : List ℕ) (given : Written) (none : tail s bytes ≡ 0) (is : IsCopying s found bytes c) (gives : GivesAt s bytes (Some found) given) where
  abbrev Stands : Written → Type 0
  Stands after = IsCopying s found (bytes ++ piece) c'

  abbrev Is : Written → Type 0
  Is = GivesAt s (bytes ++ piece) (Some found)

  -- a symbol before the next super-frame is skipped, or the part there is of one
  pub passed : SameSymbols → OneSymbolMore → (m : Meaning) → length piece ≤ symbol_length s → 0 < c.skip → ((length piece ≡ symbol_length s) × (c'.skip + 1 ≡ c.skip)) ⊎ ((length piece ≢ symbol_length s) × (c'.skip ≡ c.skip))
      → c'.symbols ≡ c.symbols → c'.tail ≡ c.tail → Does Stands Is (λ r. ⊥) given m m (Ok tt)
  passed same more m few some cases symbols_are tail_is =
      does_nothing Stands Is (λ (r : Refusal). ⊥) given m (record { counts = inl counts; copied = symbols_are ∙ is.copied ∙ ap (symbols s) (sym rests); after = tail_is ∙ is.after ∙ ap (tail s) (sym rests) })
      (same_gives s bytes (bytes ++ piece) (Some found) given (ap (whole_symbols s) rests) gives)
    where
      before : c.skip + symbols s bytes ≡ begin found
      before = elim is.counts [ inl e ↦ e | inr p ↦ absurd (omega (arith, some, p.0)) ]

      rests : rest s (bytes ++ piece) found ≡ rest s bytes found
      rests = before_it s found bytes piece none (omega (arith, before, some)) few

      counts : c'.skip + symbols s (bytes ++ piece) ≡ begin found
      counts = elim cases [
        | inl p ↦
            let ends : EndsSymbol s bytes piece = omega (arith, none, p.0) in
            omega (arith, (more s bytes piece ends).0, before, p.1)
        | inr p ↦
            let within : IsWithin s bytes piece = omega (arith, none, few, p.0) in
            omega (arith, same s bytes piece within, before, p.1)
      ]

  -- from there on
  reached : c.skip ≡ 0 → begin found ≤ symbols s bytes
  reached no_skip = elim is.counts [ inl e ↦ omega (arith, e, no_skip) | inr p ↦ p.1 ]

  later : c.skip ≡ 0 → c'.skip ≡ c.skip → (c'.skip + symbols s (bytes ++ piece) ≡ begin found) ⊎ ((c'.skip ≡ 0) × (begin found ≤ symbols s (bytes ++ piece)))
  later no_skip kept = inr (kept ∙ no_skip, (let g = symbols_grow s bytes piece in let r = reached no_skip in omega (arith, g, r)))

  -- part of a symbol is counted
  pub counted : SameSymbols → (m : Meaning) → length piece < symbol_length s → c.skip ≡ 0 → c'.skip ≡ c.skip → c'.symbols ≡ c.symbols → c'.tail ≡ length piece → Does Stands Is (λ r. ⊥) given m m (Ok tt)
  counted same m few no_skip kept symbols_are tail_is =
      let within : IsWithin s bytes piece = omega (arith, none, few) in
      let p = part_tail s found same bytes piece none (reached no_skip) few in
      does_nothing Stands Is (λ (r : Refusal). ⊥) given m (record { counts = later no_skip kept; copied = symbols_are ∙ is.copied ∙ sym p.0; after = tail_is ∙ sym p.1 })
      (same_gives s bytes (bytes ++ piece) (Some found) given (part_symbol s found same bytes piece within) gives)

  -- and a whole one is copied
  pub handed : OneSymbolMore → (m m' : Meaning) (result : Result (Unit {0}) RunError) → length piece ≡ symbol_length s → c.skip ≡ 0 → c'.skip ≡ c.skip → c'.symbols ≡ c.symbols + 1 → c'.tail ≡ c.tail → WritesAt outs.Cells piece m m' result
      → Does Stands Is (λ r. ⊥) given m m' result
  handed more m m' result long no_skip kept symbols_are tail_is writes =
      let n = next_symbol s found more bytes piece none (reached no_skip) long in
      let all : List ℕ = aligned_file s (bytes ++ piece) (Some found) in
      let now : IsCopying s found (bytes ++ piece) c' = record { counts = later no_skip kept; copied = symbols_are ∙ ap (λ (k : ℕ). k + 1) is.copied ∙ sym n.1; after = tail_is ∙ is.after ∙ n.3 ∙ sym n.2 } in
      let longer : all ≡ aligned_file s bytes (Some found) ++ piece = ap (λ (l : List ℕ). header s.mode ++ l) n.0 ∙ sym (append_assoc (header s.mode) (aligned_cells s bytes (Some found)) piece) in
      wrote_cells Stands Is (λ (r : Refusal). ⊥) given (written_at all (found_lines found)) now (λ port. refl) m m' piece
      (follow (aligned_file s bytes (Some found)) piece (found_lines found) [] all (found_lines found) given gives longer (sym (append-nil (found_lines found)))) result writes

-- at a place its lines are written
pub placed : (Stands I : Written → Type 0) (Its : Refusal → Type 0) (s : Settings) (bytes longer : List ℕ) (found : Found) (given : Written) (m m' : Meaning) (result : Result (Unit {0}) RunError) → IsAtPlace s longer found → GivesAt s bytes None given
    → Stands (written_at (aligned_file s longer (Some found)) (found_lines found)) → I (written_at (aligned_file s longer (Some found)) (found_lines found)) → ReportOnly m m' → IsWriting result
    → (m.tells ≡ true → Appends (found_lines found) m.report.written m'.report.written result) → Does Stands I Its given m m' result
placed Stands I Its s bytes longer found given m m' result at gives stands is only kind written =
    let all : List ℕ = aligned_file s longer (Some found) in
    let none : all ≡ (header s.mode ++ []) ++ [] = ap (λ (l : List ℕ). header s.mode ++ l) (none_aligned s longer found at) ∙ sym (append-nil (header s.mode ++ [])) in
    told Stands I Its given (written_at all (found_lines found)) m m' (found_lines found) result stands is only
    (follow (header s.mode ++ []) [] [] (found_lines found) all (found_lines found) given gives none refl) kind written
