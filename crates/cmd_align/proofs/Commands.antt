-- `align` is a command on cells: its output is that of its work.
use Rattle.std.proofs.Common.{◌≡◌, ◌⊎◌, inl, inr, true, ℕ, zero, suc, ◌*◌, ◌≤◌, ◌<◌, Bool, List, [], ◌∷◌, ◌++◌, take, drop, Option, Some, None, refl, ◌∙◌, sym, ap, subst, arith, append_assoc, if◌then◌else◌}
use Rattle.std.proofs.lemmas.Bool.{cases_lt, le-ltb, lt-ltb, true≢false}
use Rattle.std.proofs.lemmas.List.{append-nil, drop_all, length-take, take-append-drop}
use Rattle.std.specs.Prelude.{option_and_then}
use Rattle.std.specs.Option.{option_or}
use Rattle.station_core.specs.Meaning.{Meaning}
use Rattle.station_core.specs.declared.ports.InPort.TheVariants as ins
use Rattle.station_core.specs.declared.ports.OutPort.{OutPort}
use Rattle.station_core.specs.declared.ports.OutPort.TheVariants as outs
use Rattle.mode_set.specs.declared.settings.Settings.{Settings as TheSettings}
use Rattle.mode_set.specs.declared.modes.Mode.{Mode}
use Rattle.mode_set.specs.declared.modes.Shape.TheVariants.{Qpsk, Qam16, Qam64}
use Rattle.mode_set.specs.declared.modes.Hierarchy.TheVariants.{Flat, Alpha1, Alpha2, Alpha4}
use Rattle.mode_set.specs.declared.modes.Rate.TheVariants.{R1of2, R2of3, R3of4, R5of6, R7of8}
use Rattle.mode_set.specs.declared.modes.Guard.TheVariants.{G1of32, G1of16, G1of8, G1of4}
use Rattle.frame_build.specs.CellFile.{header}
use Rattle.reception.specs.Cells.{symbol_length, symbols}
use Rattle.reception.specs.Laws.{SameSymbols, TpsCellsStay}
use Rattle.reception.specs.WholeSymbols.{AreReceivedAlike, WholeSymbolsAlike, whole_symbols}
use Rattle.cmd_base.specs.declared.refusal.Refusal.{Refusal}
use Rattle.cmd_base.specs.declared.refusal.Refusal.TheVariants.{Limit, Cells}
use Rattle.cmd_base.specs.declared.refusal.CellsRefusal.TheVariants.{NoPlace}
use Rattle.cmd_base.specs.Command.{Command, Files, IsOutput, Unread, is_among}
use Rattle.cmd_base.specs.StatedSettings.{settings_of}
use Rattle.cmd_base.specs.Text.{refusal_status}
use Rattle.cmd_base.specs.Ports.{cell_names}
use Rattle.cmd_cells.specs.Work.{Written}
use Rattle.cmd_cells.specs.Cells.{GivenUpTo}
use Rattle.cmd_cells.specs.Commands.{CellCommand, Come, ComeSoFar, ComesRefused, ComesTo, Continues, MayRefuse}
use Rattle.cmd_convert.specs.Working.{written_at}
use Rattle.tune_in.specs.OfBytes.{FoundStaysInBytes, IsFoundIn, rest}
use Rattle.tune_in.specs.declared.frame.Found.{Found}
use Rattle.tune_in.specs.LeastPlace.{held, place_of}
use Rattle.tune_search.specs.Searching.{FindsLeastPlaces}
use Rattle.tune_search.proofs.Bytes.{symbols_limited}
use Rattle.tune_search.proofs.Held.{finds_none, held_none, held_place, no_place, some_bytes, symbols_none}
use Rattle.cmd_align.specs.Announcement.{AreSettingsWords, found_lines}
use Rattle.cmd_align.specs.Aligned.{AlignLaws, AreTaken, FileComes, LinesCome, LinesSoFar, align_refusal, aligned_cells, aligned_file, cells_in, closing_at, limit_refusal, lines_at, refusal_at, within_limit}
use Rattle.cmd_align.specs.AlignCommand.{align_command, header_by, most_cells}
use Rattle.cmd_align.specs.Working.{AllGive, FirstGive, GivesAt, PlaceIs, RefusesAligning, aligning_work}
use Rattle.cmd_align.proofs.Cells.{grows, grows_limited}

pub record Laws : Type 0 where
  pub finds : FindsLeastPlaces
  pub stays : FoundStaysInBytes
  pub tps : TpsCellsStay
  pub same : SameSymbols
  pub alike : WholeSymbolsAlike

-- ---- its own laws

words : AreSettingsWords
words = record {
  shape = elim [ Qpsk ↦ refl | Qam16 ↦ refl | Qam64 ↦ refl ];
  hierarchy = elim [ Flat ↦ refl | Alpha1 ↦ refl | Alpha2 ↦ refl | Alpha4 ↦ refl ];
  rate = elim [ R1of2 ↦ refl | R2of3 ↦ refl | R3of4 ↦ refl | R5of6 ↦ refl | R7of8 ↦ refl ];
  guard = elim [ G1of32 ↦ refl | G1of16 ↦ refl | G1of8 ↦ refl | G1of4 ↦ refl ];
}

-- whole symbols are the same with settings of the same mode
same_whole : (a s : TheSettings) (bytes : List ℕ) → a.mode ≡ s.mode → whole_symbols a bytes ≡ whole_symbols s bytes
same_whole a s bytes same = ap (λ (m : Mode). whole_symbols (record s { mode = m }) bytes) same

pub own_laws : Laws → (stated : Option TheSettings) (file : List ℕ) → AlignLaws stated file
own_laws laws stated file = record {
  searches = λ s is. laws.finds s (cells_in file);
  received = λ s is found holds a announced.
      let bytes : List ℕ = rest s (cells_in file) found in
      subst (AreReceivedAlike a bytes) (same_whole a s bytes announced.mode_is) (laws.alike a bytes);
  words = words;
}

-- ---- if nothing past the header is taken of the cells, there are no lines

-- within the header no byte follows it
none_behind : (file : List ℕ) (k : ℕ) → k ≤ 8 → cells_in (take k file) ≡ []
none_behind file k few = drop_all 8 (take k file) (let some = length-take k file in omega (arith, some, few))

-- no bytes hold no place
nowhere : Laws → (s : TheSettings) → place_of s [] ≡ None
nowhere laws s = finds_none laws.stays laws.tps s [] (laws.finds s []) (held_none laws.stays laws.tps s [] [] [] refl (omega arith) (no_place s))

pub no_lines : Laws → (stated : Option TheSettings) (file left : List ℕ) (k : ℕ) → k ≤ 8 → left ≡ drop k file → LinesSoFar stated file left []
no_lines laws None file left k few is = refl
no_lines laws (Some s) file left k few is = (
  take k file,
  record {
    are = sym (take-append-drop k file) ∙ ap (λ (l : List ℕ). take k file ++ l) (sym is);
    within = let none : symbols s (cells_in (take k file)) ≡ 0 = ap (symbols s) (none_behind file k few) ∙ symbols_none s in omega (arith, none);
  },
  sym (ap (λ (l : List ℕ). lines_at (place_of s l)) (none_behind file k few) ∙ ap lines_at (nowhere laws s)),
)

-- the header, and the bytes taken after it
behind : (n : ℕ) (file taken left : List ℕ) → drop n file ≡ taken ++ left → drop n (take n file ++ taken) ≡ taken
behind zero file taken left e = refl
behind (suc n) [] [] left e = refl
behind (suc n) [] (x ∷ taken) left e = cc
behind (suc n) (y ∷ file) taken left e = behind n file taken left e

module _ (laws : Laws) (limit : ℕ) (settings old new : List ℕ) (file : Files) (s : TheSettings) (stated : settings_of (file settings) ≡ Some s) where
  abbrev c : Command
  c = align_command settings old new

  abbrev bytes : List ℕ
  bytes = cells_in (file old)

  -- the bytes written at the one output are the new file
  at_output : (cells lines : List ℕ) (port : OutPort) → IsOutput c port → written_at cells lines port ≡ cells
  at_output cells lines outs.Cells is = refl
  at_output cells lines outs.Hp is = absurd (true≢false (sym is))
  at_output cells lines outs.Lp is = absurd (true≢false (sym is))
  at_output cells lines outs.Bytes is = absurd (true≢false (sym is))
  at_output cells lines outs.Report is = absurd (true≢false (sym is))

  come : (cells lines : List ℕ) (given : Written) → ((port : OutPort) → given port ≡ written_at cells lines port) → FileComes s bytes cells → LinesCome s bytes lines → Come c limit file given
  come cells lines given is comes prints = record {
    outputs = λ port output. (s, stated, subst (FileComes s bytes) (sym (is port ∙ at_output cells lines port output)) comes);
    report = (s, stated, subst (LinesCome s bytes) (sym (is outs.Report)) prints);
  }

  refusal_is : (o : Option Refusal) → align_refusal s bytes ≡ o → c.work_refusal limit file ≡ o
  refusal_is o is = ap (λ (x : Option TheSettings). option_and_then (λ y. align_refusal y bytes) x) stated ∙ is

  unrefused : symbols s bytes ≤ s.max_symbols → limit_refusal s bytes ≡ None
  unrefused few = ap (λ (b : Bool). if b then Some (Limit s.max_symbols) else None) (le-ltb s.max_symbols (symbols s bytes) few)

  passed : s.max_symbols < symbols s bytes → limit_refusal s bytes ≡ Some (Limit s.max_symbols)
  passed more = ap (λ (b : Bool). if b then Some (Limit s.max_symbols) else None) (lt-ltb s.max_symbols (symbols s bytes) more)

  -- ---- the place of a prefix

  at_found : (taken left : List ℕ) (found : Found) → bytes ≡ taken ++ left → symbols s taken ≤ s.max_symbols → IsFoundIn s taken found → place_of s bytes ≡ Some found
  at_found taken left found are few is = (laws.finds s bytes).finds found (held_place laws.stays laws.tps s bytes taken left found are few is)

  -- if it has all symbols within the limit, it is the place of all
  place_is : (taken left : List ℕ) (place : Option Found) → bytes ≡ taken ++ left → symbols s taken ≤ s.max_symbols → held s bytes ≤ symbols s taken → PlaceIs s taken place → place_of s bytes ≡ place
  place_is taken left None are few long is = finds_none laws.stays laws.tps s bytes (laws.finds s bytes) (held_none laws.stays laws.tps s bytes taken left are long is)
  place_is taken left (Some found) are few long is = at_found taken left found are few is

  -- and so it is their own
  own_place : (taken : List ℕ) (place : Option Found) → symbols s taken ≤ s.max_symbols → PlaceIs s taken place → place_of s taken ≡ place
  own_place taken None few is = finds_none laws.stays laws.tps s taken (laws.finds s taken) (held_none laws.stays laws.tps s taken taken [] (sym (append-nil taken)) (omega arith) is)
  own_place taken (Some found) few is = (laws.finds s taken).finds found (held_place laws.stays laws.tps s taken taken [] found (sym (append-nil taken)) few is)

  -- ---- all cells

  whole_file : (found : Found) → place_of s bytes ≡ Some found → symbols s bytes ≤ s.max_symbols → FileComes s bytes (aligned_file s bytes (Some found))
  whole_file found is few = inl (few, ap (aligned_file s bytes) (sym is))

  whole_lines : (found : Found) → place_of s bytes ≡ Some found → symbols s bytes ≤ s.max_symbols → LinesCome s bytes (found_lines found ++ closing_at s bytes (Some found))
  whole_lines found is few = inl (few, ap (λ (o : Option Found). lines_at o ++ closing_at s bytes o) (sym is))

  whole : (given : Written) → symbols s bytes ≤ s.max_symbols → AllGive s bytes given → Come c limit file given × (c.work_refusal limit file ≡ None)
  whole given few ends =
      let is = at_found bytes [] ends.0 (sym (append-nil bytes)) few ends.1 in (
        come (aligned_file s bytes (Some ends.0)) (found_lines ends.0 ++ closing_at s bytes (Some ends.0)) given ends.2 (whole_file ends.0 is few) (whole_lines ends.0 is few),
        refusal_is None (ap (refusal_at (limit_refusal s bytes)) is ∙ unrefused few),
      )

  -- ---- the cells within the limit

  limited_left : bytes ≡ within_limit s bytes ++ drop (s.max_symbols * symbol_length s) bytes
  limited_left = sym (take-append-drop (s.max_symbols * symbol_length s) bytes)

  refused_past : (o : Option Found) → s.max_symbols < symbols s bytes → refusal_at (limit_refusal s bytes) o ≡ Some (Limit s.max_symbols)
  refused_past None more = ap (λ (r : Option Refusal). option_or r (Some (Cells NoPlace))) (passed more)
  refused_past (Some found) more = passed more

  past : (given : Written) → s.max_symbols < symbols s bytes → FirstGive s (within_limit s bytes) given → Come c limit file given × (c.work_refusal limit file ≡ Some (Limit s.max_symbols))
  past given more gives =
      let many : symbols s (within_limit s bytes) ≡ s.max_symbols = symbols_limited s bytes more in
      let is : place_of s bytes ≡ gives.0 = place_is (within_limit s bytes) (drop (s.max_symbols * symbol_length s) bytes) gives.0 limited_left (omega (arith, many)) (omega (arith, many)) gives.1 in (
        come (aligned_file s (within_limit s bytes) gives.0) (lines_at gives.0) given gives.2 (inr (more, ap (aligned_file s (within_limit s bytes)) (sym is))) (inr (more, ap lines_at (sym is))),
        refusal_is (Some (Limit s.max_symbols)) (refused_past (place_of s bytes) more),
      )

  -- ---- cells without a place

  none_file : place_of s bytes ≡ None → symbols s bytes ≤ s.max_symbols → FileComes s bytes (header s.mode ++ [])
  none_file is few = inl (few, ap (aligned_file s bytes) (sym is))

  none_lines : place_of s bytes ≡ None → symbols s bytes ≤ s.max_symbols → LinesCome s bytes []
  none_lines is few = inl (few, ap (λ (o : Option Found). lines_at o ++ closing_at s bytes o) (sym is))

  without : (unread : Unread) (taken : List ℕ) (given : Written) → bytes ≡ taken ++ unread ins.Cells → symbols s taken ≤ s.max_symbols → unread ins.Cells ≡ [] → PlaceIs s taken None → GivesAt s taken None given
      → Come c limit file given × (c.work_refusal limit file ≡ Some (Cells NoPlace))
  without unread taken given are few empty none gives =
      let same : bytes ≡ taken = are ∙ ap (λ (l : List ℕ). taken ++ l) empty ∙ append-nil taken in
      let all : symbols s bytes ≡ symbols s taken = ap (symbols s) same in
      let is = place_is taken (unread ins.Cells) None are few (omega (arith, all)) none in
      let within : symbols s bytes ≤ s.max_symbols = omega (arith, all, few) in (
        come (header s.mode ++ []) [] given gives (none_file is within) (none_lines is within),
        refusal_is (Some (Cells NoPlace)) (ap (refusal_at (limit_refusal s bytes)) is ∙ ap (λ (r : Option Refusal). option_or r (Some (Cells NoPlace))) (unrefused within)),
      )

  refused : (unread : Unread) (taken : List ℕ) (given : Written) (r : Refusal) → bytes ≡ taken ++ unread ins.Cells → symbols s taken ≤ s.max_symbols → r ≡ Cells NoPlace → RefusesAligning s taken (unread ins.Cells) given r
      → ComesRefused c limit file unread given r
  refused unread taken given r are few reason is = subst (ComesRefused c limit file unread given) (sym reason) (without unread taken given are few is.1 is.2 is.3)

  -- ---- up to a failed read

  so_far : (unread : Unread) (taken : List ℕ) (given : Written) → bytes ≡ taken ++ unread ins.Cells → symbols s taken ≤ s.max_symbols → FirstGive s taken given → ComeSoFar c limit file unread given
  so_far unread taken given are few gives =
      let all : List ℕ = take 8 (file old) ++ taken in
      let same : cells_in all ≡ taken = behind 8 (file old) taken (unread ins.Cells) are in
      let is : place_of s taken ≡ gives.0 = own_place taken gives.0 few gives.1 in
      let taken_are : AreTaken s (file old) (unread ins.Cells) all = record {
        are = sym (take-append-drop 8 (file old)) ∙ ap (λ (l : List ℕ). take 8 (file old) ++ l) are ∙ sym (append_assoc (take 8 (file old)) taken (unread ins.Cells));
        within = subst (λ (l : List ℕ). symbols s l ≤ s.max_symbols) (sym same) few;
      } in
      let file_is : aligned_file s taken gives.0 ≡ aligned_file s (cells_in all) (place_of s (cells_in all)) = ap (aligned_file s taken) (sym is) ∙ ap (λ (l : List ℕ). aligned_file s l (place_of s l)) (sym same) in
      let lines_are : lines_at gives.0 ≡ lines_at (place_of s (cells_in all)) = ap lines_at (sym is) ∙ ap (λ (l : List ℕ). lines_at (place_of s l)) (sym same) in
      record {
        outputs = λ port output. (s, stated, (all, taken_are, gives.2 port ∙ at_output (aligned_file s taken gives.0) (lines_at gives.0) port output ∙ file_is));
        report = subst (λ (o : Option TheSettings). LinesSoFar o (file old) (unread ins.Cells) (given outs.Report)) (sym stated) (all, taken_are, gives.2 outs.Report ∙ lines_are);
      }

  -- ---- the output of a prefix is a prefix of the output

  continued : (cells lines all_cells all_lines : List ℕ) (given : Written) → ((port : OutPort) → given port ≡ written_at cells lines port)
      → (more : List ℕ) × (all_cells ≡ cells ++ more) → (more : List ℕ) × (all_lines ≡ lines ++ more) → FileComes s bytes all_cells → LinesCome s bytes all_lines → Continues c limit file given
  continued cells lines all_cells all_lines given is more_cells more_lines comes prints = record {
    all = written_at all_cells all_lines;
    come = come all_cells all_lines (written_at all_cells all_lines) (λ port. refl) comes prints;
    begins = λ port. let m = more_at port in (m.0, m.1 ∙ ap (λ (l : List ℕ). l ++ m.0) (sym (is port)));
  }
    where
      more_at : (port : OutPort) → (others : List ℕ) × (written_at all_cells all_lines port ≡ written_at cells lines port ++ others)
      more_at outs.Cells = more_cells
      more_at outs.Hp = ([], refl)
      more_at outs.Lp = ([], refl)
      more_at outs.Bytes = ([], refl)
      more_at outs.Report = more_lines

  -- after the header
  headed : (cells all : List ℕ) → (more : List ℕ) × (all ≡ cells ++ more) → (more : List ℕ) × (header s.mode ++ all ≡ (header s.mode ++ cells) ++ more)
  headed cells all b = (b.0, ap (λ (l : List ℕ). header s.mode ++ l) b.1 ∙ sym (append_assoc (header s.mode) cells b.0))

  found_continues : (taken left : List ℕ) (found : Found) (given : Written) → bytes ≡ taken ++ left → symbols s taken ≤ s.max_symbols → IsFoundIn s taken found → GivesAt s taken (Some found) given
      → (s.max_symbols < symbols s bytes) ⊎ (symbols s bytes ≤ s.max_symbols) → Continues c limit file given
  found_continues taken left found given are few is gives (inl more) =
      let at = at_found taken left found are few is in
      let g = grows_limited s found laws.same taken left few (subst (λ (l : List ℕ). s.max_symbols < symbols s l) are more) in
      let cells : List ℕ = aligned_cells s (within_limit s bytes) (Some found) in
      let begins : cells ≡ aligned_cells s taken (Some found) ++ g.0 = ap (λ (l : List ℕ). aligned_cells s (within_limit s l) (Some found)) are ∙ g.1 in
      continued (aligned_file s taken (Some found)) (found_lines found) (aligned_file s (within_limit s bytes) (Some found)) (found_lines found) given gives (headed (aligned_cells s taken (Some found)) cells (g.0, begins))
      ([], sym (append-nil (found_lines found))) (inr (more, ap (aligned_file s (within_limit s bytes)) (sym at))) (inr (more, ap lines_at (sym at)))
  found_continues taken left found given are few is gives (inr within) =
      let at = at_found taken left found are few is in
      let g = grows s found taken left in
      let cells : List ℕ = aligned_cells s bytes (Some found) in
      let begins : cells ≡ aligned_cells s taken (Some found) ++ g.0 = ap (λ (l : List ℕ). aligned_cells s l (Some found)) are ∙ g.1 in
      continued (aligned_file s taken (Some found)) (found_lines found) (aligned_file s bytes (Some found)) (found_lines found ++ closing_at s bytes (Some found)) given gives (headed (aligned_cells s taken (Some found)) cells (g.0, begins))
      (closing_at s bytes (Some found), refl) (whole_file found at within) (whole_lines found at within)

  none_continues : (taken : List ℕ) (given : Written) → GivesAt s taken None given → (s.max_symbols < symbols s bytes) ⊎ (symbols s bytes ≤ s.max_symbols) → Continues c limit file given
  none_continues taken given gives (inl more) =
      let cells : List ℕ = aligned_cells s (within_limit s bytes) (place_of s bytes) in
      continued (header s.mode ++ []) [] (header s.mode ++ cells) (lines_at (place_of s bytes)) given gives (headed [] cells (cells, refl)) (lines_at (place_of s bytes), refl) (inr (more, refl)) (inr (more, refl))
  none_continues taken given gives (inr within) =
      let cells : List ℕ = aligned_cells s bytes (place_of s bytes) in
      let lines : List ℕ = lines_at (place_of s bytes) ++ closing_at s bytes (place_of s bytes) in
      continued (header s.mode ++ []) [] (header s.mode ++ cells) lines given gives (headed [] cells (cells, refl)) (lines, refl) (inl (within, refl)) (inl (within, refl))

  first_continue : (taken left : List ℕ) (place : Option Found) (given : Written) → bytes ≡ taken ++ left → symbols s taken ≤ s.max_symbols → PlaceIs s taken place → GivesAt s taken place given → Continues c limit file given
  first_continue taken left None given are few is gives = none_continues taken given gives (cases_lt s.max_symbols (symbols s bytes))
  first_continue taken left (Some found) given are few is gives = found_continues taken left found given are few is gives (cases_lt s.max_symbols (symbols s bytes))

  all_continue : (taken : List ℕ) (given : Written) → bytes ≡ taken → symbols s taken ≤ s.max_symbols → AllGive s taken given → Continues c limit file given
  all_continue taken given same few gives =
      let ends : AllGive s bytes given = subst (λ (l : List ℕ). AllGive s l given) (sym same) gives in
      let within : symbols s bytes ≤ s.max_symbols = subst (λ (l : List ℕ). symbols s l ≤ s.max_symbols) (sym same) few in
      let is = at_found bytes [] ends.0 (sym (append-nil bytes)) within ends.1 in
      let cells : List ℕ = aligned_file s bytes (Some ends.0) in
      let lines : List ℕ = found_lines ends.0 ++ closing_at s bytes (Some ends.0) in
      continued cells lines cells lines given ends.2 ([], sym (append-nil cells)) ([], sym (append-nil lines)) (whole_file ends.0 is within) (whole_lines ends.0 is within)

  begun : (given : Written) → GivenUpTo (aligning_work s) s.max_symbols bytes given → Continues c limit file given
  begun given up = elim up.gives [
    | inl gives ↦ first_continue up.taken up.rest gives.0 given up.are up.within gives.1 gives.2
    | inr all ↦ all_continue up.taken given (up.are ∙ ap (λ (l : List ℕ). up.taken ++ l) all.0 ∙ append-nil up.taken) up.within all.1
  ]

  pub comes : ComesTo c limit file (aligning_work s) s.max_symbols bytes
  comes = record {
    whole = whole;
    past = past;
    refused = refused;
    so_far = so_far;
    begun = begun;
    first = (written_at (header s.mode ++ []) [], (None, no_place s, (λ port. refl)));
  }

pub its_reasons : (settings old new : List ℕ) (r : Refusal) → r ≡ Cells NoPlace → MayRefuse (align_command settings old new) r × (is_among (refusal_status r) (align_command settings old new).statuses ≡ true)
its_reasons settings old new r e = subst (λ (x : Refusal). MayRefuse (align_command settings old new) x × (is_among (refusal_status x) (align_command settings old new).statuses ≡ true)) (sym e) (tt, refl)

pub command_of : (laws : Laws) (limit : ℕ) (settings old new : List ℕ) (s : TheSettings) (start : Meaning) → (start.tells ≡ true → settings_of (start.file settings) ≡ Some s)
    → CellCommand (align_command settings old new) limit settings old (Some (header s.mode)) (cell_names new) (aligning_work s) s.max_symbols start
command_of laws limit settings old new s start stated = record {
  reads = elim [ ins.Settings ↦ refl | ins.Hp ↦ refl | ins.Lp ↦ refl | ins.Cells ↦ refl ];
  writes = λ port. refl;
  header_is = λ t. ap header_by (stated t);
  no_report = refl;
  some = some_bytes s;
  done = refl;
  read_fault = refl;
  write_fault = refl;
  unheaded = λ is. refl;
  limit_passed = refl;
  most_taken = λ t. let e = ap most_cells (stated t) in omega (arith, e);
  comes = λ t. comes laws limit settings old new start.file s (stated t);
  unread = λ t unread taken. no_lines laws (settings_of (start.file settings)) (start.file old) (unread ins.Cells) taken.0 taken.1 taken.2;
  its = its_reasons settings old new;
  own = λ file. own_laws laws (settings_of (file settings)) (file old);
}
