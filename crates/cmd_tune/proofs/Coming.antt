-- What the first bytes of the cells give is a prefix of what the run produces.
use Rattle.std.proofs.Common.{◌≡◌, ℕ, ◌+◌, ◌-◌, ◌*◌, ◌/◌, ◌<◌, ◌≤◌, Bool, true, false, not, List, [], ◌∷◌, ◌++◌, ◌⊎◌, inl, inr, length, take, drop, Option, Some, None, refl, ◌∙◌, sym, ap, subst, arith, append_assoc, length-drop, take-append-drop}
use Rattle.std.specs.Prelude.{flat_map, if◌then◌else◌, is_some}
use Rattle.std.specs.Option.{option_map_or, option_or}
use Rattle.std.proofs.lemmas.Bool.{cases_lt, le-ltb, lt-ltb}
use Rattle.std.proofs.lemmas.List.{append-nil, drop-append-le, drop-take, drop_all, length-take}
use Rattle.std.proofs.Math.Seq.{take-append-add}
use Rattle.station_core.specs.declared.ports.OutPort.{OutPort}
use Rattle.station_core.specs.declared.ports.OutPort.TheVariants as outs
use Rattle.mode_set.specs.Plans.{no_plan}
use Rattle.mode_set.specs.Kept.{is_flat}
use Rattle.mode_set.specs.declared.modes.Hierarchy.{Hierarchy}
use Rattle.mode_set.specs.declared.modes.Hierarchy.TheVariants.{Flat, Alpha1, Alpha2, Alpha4}
use Rattle.mode_set.specs.declared.modes.Mode.{Mode}
use Rattle.mode_set.specs.declared.modes.Mode.TheVariants.{M2k, M8k}
use Rattle.mode_set.specs.declared.modes.Rate.{Rate}
use Rattle.mode_set.specs.declared.modes.Start.TheVariants.{Any}
use Rattle.mode_set.specs.declared.modes.Stream.{Stream}
use Rattle.mode_set.specs.declared.modes.Stream.TheVariants.{Hp, Lp}
use Rattle.mode_set.specs.StreamTable.{carriers}
use Rattle.mode_set.specs.declared.settings.Settings.{Settings}
use Rattle.rx_report.specs.Text.{event_line}
use Rattle.reception.specs.Cells.{symbol_length, symbols}
use Rattle.reception.specs.Lines.{events, event_lines, closing_lines}
use Rattle.reception.specs.Streams.{Reception, Live, Final}
use Rattle.reception.specs.Laws.{TpsCellsStay}
use Rattle.cmd_base.specs.declared.refusal.Refusal.{Refusal}
use Rattle.cmd_base.specs.declared.refusal.Refusal.TheVariants.{Cells, Limit}
use Rattle.cmd_base.specs.declared.refusal.CellsRefusal.TheVariants.{NoPlace, AnnouncedForm}
use Rattle.cmd_cells.specs.Work.{Written}
use Rattle.reception.specs.Alike.{SameFinal, SameLines, SameLive}
use Rattle.cmd_receive.specs.Received.{reception_refusal, within_limit}
use Rattle.cmd_receive.specs.Working.{FinalGives, LiveGives, final_at, live_at, plain, written_at}
use Rattle.cmd_receive.proofs.OfKinds.{Begins, KindLaws}
use Rattle.cmd_receive.proofs.Begun.{after, is_within, length_whole, whole_of}
use Rattle.cmd_receive.proofs.Parts.{symbols_are}
use Rattle.tps_word.specs.Tps.{IsValid}
use Rattle.tps_word.specs.declared.word.TpsWord.{TpsWord}
use Rattle.tune_in.specs.Announced.{IsAnnounced}
use Rattle.tune_in.specs.OfBytes.{FoundStaysInBytes, IsFoundIn, rest}
use Rattle.tune_in.specs.Places.{OneFound, begin}
use Rattle.tune_in.specs.declared.frame.Found.{Found}
use Rattle.tune_in.specs.LeastPlace.{HoldsNone, HoldsPlace, place_of}
use Rattle.tune_search.specs.Searching.{FindsLeastPlaces}
use Rattle.tune_search.proofs.Bytes.{start}
use Rattle.tune_search.proofs.Held.{finds_none, held_place}
use Rattle.cmd_tune.specs.Tuned.{ComesTo, GivesFinal, GivesLive, IsNothing, Tuned, at_place, fits, tune_refusal}

pub record Laws : Type 0 where
  pub receptions : KindLaws plain
  pub one : OneFound
  pub least : FindsLeastPlaces
  pub stays : FoundStaysInBytes
  pub tps : TpsCellsStay
  pub live : SameLive
  pub final : SameFinal
  pub lines : SameLines

-- the whole symbols after b symbols are within the limit
within_after : (m : Mode) (n b most : ℕ) → n / (5 * carriers m) ≤ most → ((n - b * (5 * carriers m)) / (5 * carriers m)) * (5 * carriers m) ≤ most * (5 * carriers m) - b * (5 * carriers m)
within_after M2k n b most l = omega (arith, l)
within_after M8k n b most l = omega (arith, l)

rest_within : (s : Settings) (found : Found) (bytes : List ℕ) (most : ℕ) → symbols s bytes ≤ most → symbols s (rest s bytes found) * symbol_length s ≤ most * symbol_length s - start s found
rest_within s found bytes most l =
    subst (λ (n : ℕ). (n / symbol_length s) * symbol_length s ≤ most * symbol_length s - start s found) (sym (length-drop (start s found) bytes))
    (within_after s.mode (length bytes) (begin found) most l)

-- the settings that valid fields announce
announced_by : (w : TpsWord) (s : Settings) → IsValid w → (a : Settings) × IsAnnounced w s a
announced_by w s v = (
  record {
    mode = s.mode;
    shape = w.shape;
    hierarchy = w.hierarchy;
    rate_hp = w.rate_hp;
    rate_lp = low;
    guard = w.guard;
    cell_id = None;
    start = Any;
    workers = s.workers;
    max_symbols = s.max_symbols;
    plan = no_plan;
    kept = record { qpsk = v.qpsk; lp = has_low w.hierarchy; some_worker = s.kept.some_worker; few_workers = s.kept.few_workers; some_symbol = s.kept.some_symbol };
  },
  record { mode_is = refl; shape_is = refl; hierarchy_is = refl; rate_hp_is = refl; rate_lp_is = refl; guard_is = refl; no_cell = refl; start_is = refl; workers_are = refl; most_are = refl; plan_is = refl },
)
  where
    low : Option Rate
    low = if is_flat w.hierarchy then None else Some w.rate_lp

    has_low : (h : Hierarchy) → is_some (if is_flat h then None else Some w.rate_lp) ≡ not (is_flat h)
    has_low Flat = refl
    has_low Alpha1 = refl
    has_low Alpha2 = refl
    has_low Alpha4 = refl

module _ (laws : Laws) (s : Settings) (two : Bool) (bytes : List ℕ) where
  -- ---- the refusal
  abbrev pub limit : Option Refusal
  limit = reception_refusal s bytes

  pub unrefused : symbols s bytes ≤ s.max_symbols → limit ≡ None
  unrefused few = ap (λ (b : Bool). if b then Some (Limit s.max_symbols) else None) (le-ltb s.max_symbols (symbols s bytes) few)

  pub passed : s.max_symbols < symbols s bytes → limit ≡ Some (Limit s.max_symbols)
  passed more = ap (λ (b : Bool). if b then Some (Limit s.max_symbols) else None) (lt-ltb s.max_symbols (symbols s bytes) more)

  abbrev refusal_at : Option Found → Option Refusal
  refusal_at place = option_map_or (λ (found : Found). if fits two found then limit else Some (Cells AnnouncedForm)) place (option_or limit (Some (Cells NoPlace)))

  pub refusal_found : (found : Found) → HoldsPlace s bytes found → tune_refusal s two bytes ≡ (if fits two found then limit else Some (Cells AnnouncedForm))
  refusal_found found holds = ap refusal_at ((laws.least s bytes).finds found holds)

  pub refusal_none : HoldsNone s bytes → tune_refusal s two bytes ≡ option_or limit (Some (Cells NoPlace))
  refusal_none none = ap refusal_at (finds_none laws.stays laws.tps s bytes (laws.least s bytes) none)

  -- ---- a run always produces something
  live_from : (found : Found) (cells : List ℕ) → HoldsPlace s bytes found → fits two found ≡ true → (given : Written) × Tuned (λ a. LiveGives a two) s two cells found given
  live_from found cells holds fit =
      let a = announced_by found.word s holds.place.announces.signals.valid in
      let r = laws.receptions.some_live a.0 (rest s cells found) in
      let behind : Written = live_at a.0 two (rest s cells found) r.0 in
      ((λ port. at_place found port ++ behind port), record { fits_form = fit; announced = a.0; is_announced = a.1; behind = behind; received = (r.0, r.1, (λ port. refl)); is = λ port. refl })

  final_from : (found : Found) (cells : List ℕ) → HoldsPlace s bytes found → fits two found ≡ true → (given : Written) × Tuned (λ a. FinalGives a two) s two cells found given
  final_from found cells holds fit =
      let a = announced_by found.word s holds.place.announces.signals.valid in
      let r = laws.receptions.some_final a.0 (rest s cells found) in
      let behind : Written = final_at a.0 two (rest s cells found) r.0 in
      ((λ port. at_place found port ++ behind port), record { fits_form = fit; announced = a.0; is_announced = a.1; behind = behind; received = (r.0, r.1, (λ port. refl)); is = λ port. refl })

  pub total : (given : Written) × ComesTo s two bytes given
  total = go (place_of s bytes) refl
    where
      of_form : (found : Found) → HoldsPlace s bytes found → fits two found ≡ true → (s.max_symbols < symbols s bytes) ⊎ (symbols s bytes ≤ s.max_symbols) → (given : Written) × ComesTo s two bytes given
      of_form found holds fit (inl past) = let g = live_from found (within_limit s bytes) holds fit in (g.0, inr (found, holds, inr (inr (past, g.1))))
      of_form found holds fit (inr within) = let g = final_from found bytes holds fit in (g.0, inr (found, holds, inr (inl (within, g.1))))

      by_form : (found : Found) → HoldsPlace s bytes found → (b : Bool) → fits two found ≡ b → (given : Written) × ComesTo s two bytes given
      by_form found holds true fit = of_form found holds fit (cases_lt s.max_symbols (symbols s bytes))
      by_form found holds false fit = ((λ port. []), inr (found, holds, inl (fit, (λ port. refl))))

      go : (o : Option Found) → place_of s bytes ≡ o → (given : Written) × ComesTo s two bytes given
      go None is = ((λ port. []), inl ((laws.least s bytes).none is, (λ port. refl)))
      go (Some found) is = by_form found ((laws.least s bytes).found found is) (fits two found) refl

  -- ---- what the first bytes give is a prefix of it
  pub record Continues (given : Written) : Type 0 where
    pub all : Written
    pub comes : ComesTo s two bytes all
    pub begins : (port : OutPort) → (rest : List ℕ) × (all port ≡ given port ++ rest)

  -- nothing is a prefix of everything
  nothing_begins : (given : Written) → IsNothing given → Continues given
  nothing_begins given none = let t = total in record { all = t.0; comes = t.1; begins = λ port. (t.0 port, ap (λ (l : List ℕ). l ++ t.0 port) (sym (none port))) }

  -- if a reception begins another, so does what is written of it
  written_begins : (q r : Reception) (more lines : List ℕ) → ((σ : Stream) → (rest : List ℕ) × (q.packets σ ≡ r.packets σ ++ rest)) → ((rest : List ℕ) × (more ≡ lines ++ rest))
      → (port : OutPort) → (rest : List ℕ) × (written_at two q.packets more port ≡ written_at two r.packets lines port ++ rest)
  written_begins q r more lines packets report outs.Cells = ([], refl)
  written_begins q r more lines packets report outs.Hp = packets Hp
  written_begins q r more lines packets report outs.Lp = if_two two
    where
      if_two : (b : Bool) → (rest : List ℕ) × ((if b then q.packets Lp else []) ≡ (if b then r.packets Lp else []) ++ rest)
      if_two true = packets Lp
      if_two false = ([], refl)
  written_begins q r more lines packets report outs.Bytes = ([], refl)
  written_begins q r more lines packets report outs.Report = report

  module _ (taken left : List ℕ) (are : bytes ≡ taken ++ left) (few : symbols s taken ≤ s.max_symbols) (found : Found) (is_in : IsFoundIn s taken found) (given : Written) (tuned : Tuned (λ a. LiveGives a two) s two taken found given) where
    abbrev a : Settings
    a = tuned.announced

    abbrev had : List ℕ
    had = rest s taken found

    abbrev r : Reception
    r = tuned.received.0

    live : Live a had r
    live = tuned.received.1

    holds : HoldsPlace s bytes found
    holds = held_place laws.stays laws.tps s bytes taken left found are few is_in

    -- all bytes after the place continue those that were taken
    rest_grows : (more : List ℕ) × (rest s bytes found ≡ had ++ more)
    rest_grows = go (cases_lt (length taken) (start s found))
      where
        go : (length taken < start s found) ⊎ (start s found ≤ length taken) → (more : List ℕ) × (rest s bytes found ≡ had ++ more)
        go (inl short) = (rest s bytes found, ap (λ (l : List ℕ). l ++ rest s bytes found) (sym (drop_all (start s found) taken (omega (arith, short)))))
        go (inr long) = (left, ap (λ (l : List ℕ). rest s l found) are ∙ drop-append-le (start s found) taken left long)

    -- a reception that continues this one is written after the same line
    continued : (q : Reception) (cells lines : List ℕ) → Begins plain a had cells r q → ((more : List ℕ) × (lines ≡ event_lines a cells q ++ more)) → (port : OutPort) → (rest : List ℕ) × (at_place found port ++ written_at two q.packets lines port ≡ given port ++ rest)
    continued q cells lines b ends port =
        let report : (rest : List ℕ) × (lines ≡ event_lines a had r ++ rest) = (b.lines.0 ++ ends.0, ends.1 ∙ ap (λ (l : List ℕ). l ++ ends.0) b.lines.1 ∙ append_assoc (event_lines a had r) b.lines.0 ends.0) in
        let f = written_begins q r lines (event_lines a had r) b.packets report port in (
          f.0,
          ap (λ (l : List ℕ). at_place found port ++ l) f.1 ∙ sym (append_assoc (at_place found port) (written_at two r.packets (event_lines a had r) port) f.0)
              ∙ ap (λ (l : List ℕ). (at_place found port ++ l) ++ f.0) (sym (tuned.received.2 port)) ∙ ap (λ (l : List ℕ). l ++ f.0) (sym (tuned.is port)),
        )

    -- within the limit: all cells
    within_by : symbols s bytes ≤ s.max_symbols → Continues given
    within_by within =
        let cells : List ℕ = rest s bytes found in
        let q = laws.receptions.some_final a cells in
        let b : Begins plain a had cells r q.0 = subst (λ (l : List ℕ). Begins plain a had l r q.0) (sym rest_grows.1)
        (laws.receptions.last a had rest_grows.0 r q.0 live (subst (λ (l : List ℕ). Final a l q.0) rest_grows.1 q.1)) in
        let behind : Written = final_at a two cells q.0 in
        record {
          all = λ port. at_place found port ++ behind port;
          comes = inr (found, holds, inr (inl (within, record { fits_form = tuned.fits_form; announced = a; is_announced = tuned.is_announced; behind = behind; received = (q.0, q.1, (λ port. refl)); is = λ port. refl })));
          begins = continued q.0 cells (event_lines a cells q.0 ++ closing_lines a cells q.0) b (closing_lines a cells q.0, refl);
        }

    -- past it: the whole symbols that were taken, and what follows within the limit
    abbrev whole : List ℕ
    whole = whole_of laws.receptions a had

    abbrev part : List ℕ
    part = after laws.receptions a had

    abbrev most : ℕ
    most = s.max_symbols * symbol_length s

    whole_length : length whole ≤ most - start s found
    whole_length =
        let few_bytes = rest_within s found taken s.max_symbols few in
        let same : symbols a had * symbol_length a ≡ symbols s had * symbol_length s = ap (λ (m : Mode). (length had / (5 * carriers m)) * (5 * carriers m)) tuned.is_announced.mode_is in
        omega (arith, few_bytes, same, length_whole laws.receptions a had)

    limited_is : (v : List ℕ) × (rest s (within_limit s bytes) found ≡ whole ++ v)
    limited_is = go (cases_lt most (start s found))
      where
        go : (most < start s found) ⊎ (start s found ≤ most) → (v : List ℕ) × (rest s (within_limit s bytes) found ≡ whole ++ v)
        go (inl behind) =
            let none : rest s (within_limit s bytes) found ≡ [] = drop_all (start s found) (take most bytes) (let l = length-take most bytes in omega (arith, l, behind)) in
            let empty : whole ≡ [] = is_empty whole (omega (arith, whole_length, behind)) in
            ([], none ∙ ap (λ (l : List ℕ). l ++ []) (sym empty))
          where
            is_empty : (l : List ℕ) → length l ≤ 0 → l ≡ []
            is_empty [] few = refl
            is_empty (x ∷ l) few = absurd (omega (arith, few))
        go (inr before) =
            let n : ℕ = most - start s found in
            let split : most ≡ start s found + n = omega (arith, before) in
            let d : ℕ = n - length whole in
            let again : n ≡ length whole + d = omega (arith, whole_length) in
            let cells : rest s bytes found ≡ whole ++ (part ++ rest_grows.0) = rest_grows.1 ∙ ap (λ (l : List ℕ). l ++ rest_grows.0) (sym (take-append-drop (symbols a had * symbol_length a) had)) ∙ append_assoc whole part rest_grows.0 in (
              take d (part ++ rest_grows.0),
              ap (λ (k : ℕ). drop (start s found) (take k bytes)) split ∙ drop-take (start s found) n bytes ∙ ap (take n) cells
                  ∙ ap (λ (k : ℕ). take k (whole ++ (part ++ rest_grows.0))) again ∙ take-append-add whole (part ++ rest_grows.0) d,
            )

    past_by : s.max_symbols < symbols s bytes → Continues given
    past_by past =
        let cells : List ℕ = rest s (within_limit s bytes) found in
        let joined : whole ++ part ≡ had = take-append-drop (symbols a had * symbol_length a) had in
        let begun : Live a whole r = laws.receptions.whole a whole part r (is_within laws.receptions a had) (subst (λ (l : List ℕ). Live a l r) (sym joined) live) in
        let q = laws.receptions.some_live a cells in
        let b = laws.receptions.live a whole limited_is.0 r q.0 begun (subst (λ (l : List ℕ). Live a l q.0) limited_is.1 q.1) in
        let same : symbols a whole ≡ symbols a had = symbols_are a whole (symbols a had) (length_whole laws.receptions a had) in
        let lines : event_lines a whole r ≡ event_lines a had r = ap (λ (k : ℕ). flat_map event_line (events a k r.reports)) same in
        let begins : Begins plain a had cells r q.0 = record { packets = b.packets; lines = (b.lines.0, ap (λ (l : List ℕ). event_lines a l q.0) limited_is.1 ∙ b.lines.1 ∙ ap (λ (l : List ℕ). l ++ b.lines.0) lines) } in
        let behind : Written = live_at a two cells q.0 in
        record {
          all = λ port. at_place found port ++ behind port;
          comes = inr (found, holds, inr (inr (past, record { fits_form = tuned.fits_form; announced = a; is_announced = tuned.is_announced; behind = behind; received = (q.0, q.1, (λ port. refl)); is = λ port. refl })));
          begins = continued q.0 cells (event_lines a cells q.0) begins ([], sym (append-nil (event_lines a cells q.0)));
        }

    tuned_begins : Continues given
    tuned_begins = go (cases_lt s.max_symbols (symbols s bytes))
      where
        go : (s.max_symbols < symbols s bytes) ⊎ (symbols s bytes ≤ s.max_symbols) → Continues given
        go (inl past) = past_by past
        go (inr within) = within_by within

  pub live_begins : (taken left : List ℕ) → bytes ≡ taken ++ left → symbols s taken ≤ s.max_symbols → (given : Written) → GivesLive s two taken given → Continues given
  live_begins taken left are few given (inl none) = nothing_begins given none.1
  live_begins taken left are few given (inr found) = tuned_begins taken left are few found.0 found.1 given found.2

  pub final_comes : symbols s bytes ≤ s.max_symbols → (given : Written) → GivesFinal s two bytes given → ComesTo s two bytes given
  final_comes few given ends = inr (ends.0, held_place laws.stays laws.tps s bytes bytes [] ends.0 (sym (append-nil bytes)) few ends.1, inr (inl (few, ends.2)))

  pub final_begins : symbols s bytes ≤ s.max_symbols → (given : Written) → GivesFinal s two bytes given → Continues given
  final_begins few given ends = record { all = given; comes = final_comes few given ends; begins = λ port. ([], sym (append-nil (given port))) }
