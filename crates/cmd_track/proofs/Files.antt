-- The new file of cells, and of cells that continue.
use Rattle.std.proofs.Common.{◌≡◌, inl, inr, ℕ, ◌+◌, ◌-◌, ◌*◌, ◌<◌, ◌≤◌, Bool, List, [], ◌∷◌, ◌++◌, length, take, drop, refl, ap, ap₂, sym, ◌∙◌, arith, append_assoc}
use Rattle.std.specs.Prelude.{if◌then◌else◌}
use Rattle.std.proofs.lemmas.Bool.{cases_lt, le-leb, lt-leb}
use Rattle.std.proofs.lemmas.List.{append-nil, take-append-drop}
use Rattle.mode_set.specs.StreamTable.{carriers}
use Rattle.mode_set.specs.declared.settings.Settings.{Settings}
use Rattle.frame_build.specs.CellFile.{header}
use Rattle.tracking.specs.Laws.{LiveSymbolsStay}
use Rattle.tracking.specs.Tracking.{Symbol, tracked_bytes}
use Rattle.reception.specs.Cells.{symbol_length, symbols, tail}
use Rattle.law_tracking.specs.Tracked.{received, tracked_file}
use Rattle.cmd_track.specs.Tracked.{ended_file, live_cells, live_file}
use Rattle.cmd_track.specs.Working.{next_given, symbol_in, symbols_from}
use Rattle.cmd_track.proofs.Bytes.{Cuts, no_fewer, no_symbols, received_grows, received_long, received_more, received_same, symbols_limited}
use Rattle.cmd_track.proofs.Growing.{corrected, corrected_begin, corrected_splits, corrected_stay, none_corrected, one_corrected}

-- what they are, from the received symbols
live_is : (s : Settings) (bytes : List ℕ) → live_cells s bytes ≡ corrected s (received s bytes) (symbols s bytes - 7)
unfolding live_cells
live_is s bytes = refl

all_is : (s : Settings) (bytes : List ℕ) → tracked_file s bytes ≡ corrected s (received s bytes) (symbols s bytes)
unfolding tracked_file
all_is s bytes = refl

-- no bytes
pub none_live : (s : Settings) → live_file s [] ≡ header s.mode
none_live s =
    let none : symbols s [] - 7 ≡ 0 = let e = no_symbols s in omega (arith, e) in
    ap (λ (l : List ℕ). header s.mode ++ l) (live_is s [] ∙ ap (corrected s (received s [])) none ∙ none_corrected s (received s [])) ∙ append-nil (header s.mode)

-- bytes that do not complete a symbol
pub part_live : Cuts → (s : Settings) (bytes more : List ℕ) → tail s bytes + length more < symbol_length s → live_file s (bytes ++ more) ≡ live_file s bytes
part_live cuts s bytes more l =
    ap (λ (z : List ℕ). header s.mode ++ z)
    (live_is s (bytes ++ more) ∙ ap₂ (λ (x : List Symbol) (n : ℕ). corrected s x (n - 7)) (received_same cuts s bytes more l) (cuts.same s bytes more l) ∙ sym (live_is s bytes))

-- one more symbol
next_is : LiveSymbolsStay → (s : Settings) (all : List Symbol) (x : Symbol) (n : ℕ) → n ≡ length all → corrected s (all ++ x ∷ []) (n + 1 - 7) ≡ corrected s all (n - 7) ++ next_given s all x
next_is law s all x n e = elim (cases_lt (length all) 7) [
  | inl few ↦
      let now : n + 1 - 7 ≡ 0 = omega (arith, e, few) in
      let before : n - 7 ≡ 0 = omega (arith, e, few) in
      let given : next_given s all x ≡ [] = ap (λ (b : Bool). if b then tracked_bytes s (all ++ x ∷ []) (length all - 7) else []) (lt-leb 7 (length all) few) in
      ap (corrected s (all ++ x ∷ [])) now ∙ none_corrected s (all ++ x ∷ []) ∙ sym (none_corrected s all) ∙ ap (corrected s all) (sym before)
      ∙ sym (append-nil (corrected s all (n - 7))) ∙ ap (λ (l : List ℕ). corrected s all (n - 7) ++ l) (sym given)
  | inr many ↦
      let now : n + 1 - 7 ≡ n - 7 + 1 = omega (arith, e, many) in
      let place : n - 7 ≡ length all - 7 = omega (arith, e) in
      let given : next_given s all x ≡ tracked_bytes s (all ++ x ∷ []) (length all - 7) = ap (λ (b : Bool). if b then tracked_bytes s (all ++ x ∷ []) (length all - 7) else []) (le-leb 7 (length all) many) in
      ap (corrected s (all ++ x ∷ [])) now ∙ one_corrected s (all ++ x ∷ []) (n - 7)
      ∙ ap₂ (λ (l r : List ℕ). l ++ r) (corrected_stay law s all (x ∷ []) (n - 7) (omega (arith, place))) (ap (tracked_bytes s (all ++ x ∷ [])) place ∙ sym given)
]

pub symbol_live : LiveSymbolsStay → Cuts → (s : Settings) (bytes piece : List ℕ) → tail s bytes ≡ 0 → tail s bytes + length piece ≡ symbol_length s
    → live_file s (bytes ++ piece) ≡ live_file s bytes ++ next_given s (received s bytes) (symbol_in piece (carriers s.mode))
symbol_live law cuts s bytes piece none ends =
    let x : Symbol = symbol_in piece (carriers s.mode) in
    let given : List ℕ = next_given s (received s bytes) x in
    let all = live_is s (bytes ++ piece) ∙ ap₂ (λ (z : List Symbol) (n : ℕ). corrected s z (n - 7)) (received_more cuts s bytes piece none ends) (cuts.next s bytes piece ends).0
    ∙ next_is law s (received s bytes) x (symbols s bytes) (sym (received_long s bytes)) ∙ ap (λ (l : List ℕ). l ++ given) (sym (live_is s bytes)) in
    ap (λ (z : List ℕ). header s.mode ++ z) all ∙ sym (append_assoc (header s.mode) (live_cells s bytes) given)

-- the end: the symbols not given yet
pub end_file : (s : Settings) (bytes : List ℕ) → ended_file s bytes ≡ live_file s bytes ++ symbols_from s (received s bytes) (symbols s bytes - 7)
end_file s bytes =
    let all : List Symbol = received s bytes in
    let n : ℕ = symbols s bytes - 7 in
    let long = received_long s bytes in
    let are : tracked_file s bytes ≡ live_cells s bytes ++ symbols_from s all n =
    all_is s bytes ∙ ap (corrected s all) (sym long) ∙ corrected_splits s all n (omega (arith, long)) ∙ ap (λ (l : List ℕ). l ++ symbols_from s all n) (sym (live_is s bytes)) in
    ap (λ (z : List ℕ). header s.mode ++ z) are ∙ sym (append_assoc (header s.mode) (live_cells s bytes) (symbols_from s all n))

-- ---- prefixes

-- the live symbols of a prefix are the first symbols of all
first_live : LiveSymbolsStay → Cuts → (s : Settings) (bytes more : List ℕ) (n : ℕ) → n ≤ symbols s bytes - 7 → corrected s (received s (bytes ++ more)) n ≡ corrected s (received s bytes) n
first_live law cuts s bytes more n h =
    let g = received_grows cuts s bytes more in
    let long = received_long s bytes in
    ap (λ (z : List Symbol). corrected s z n) g.1 ∙ corrected_stay law s (received s bytes) g.0 n (omega (arith, h, long))

pub live_begins : LiveSymbolsStay → Cuts → (s : Settings) (bytes more : List ℕ) → (rest : List ℕ) × (tracked_file s (bytes ++ more) ≡ live_cells s bytes ++ rest)
live_begins law cuts s bytes more =
    let n : ℕ = symbols s bytes - 7 in
    let fewer = no_fewer s bytes more in
    let b = corrected_begin s (received s (bytes ++ more)) n (symbols s (bytes ++ more)) (omega (arith, fewer)) in
    (b.0, all_is s (bytes ++ more) ∙ b.1 ∙ ap (λ (l : List ℕ). l ++ b.0) (first_live law cuts s bytes more n (omega arith) ∙ sym (live_is s bytes)))

-- after the header
headed : (h cells all : List ℕ) → (more : List ℕ) × (all ≡ cells ++ more) → (more : List ℕ) × (h ++ all ≡ (h ++ cells) ++ more)
headed h cells all b = (b.0, ap (λ (l : List ℕ). h ++ l) b.1 ∙ sym (append_assoc h cells b.0))

-- the file of a prefix is a prefix of the file of all ..
pub begins : LiveSymbolsStay → Cuts → (s : Settings) (bytes more : List ℕ) → (rest : List ℕ) × (ended_file s (bytes ++ more) ≡ live_file s bytes ++ rest)
begins law cuts s bytes more = headed (header s.mode) (live_cells s bytes) (tracked_file s (bytes ++ more)) (live_begins law cuts s bytes more)

-- .. and, if it is within a limit, of the file of the symbols within the limit
limited_cells : LiveSymbolsStay → Cuts → (s : Settings) (taken rest : List ℕ) (most : ℕ) → symbols s taken ≤ most → most < symbols s (taken ++ rest)
    → (more : List ℕ) × (live_cells s (take (most * symbol_length s) (taken ++ rest)) ≡ live_cells s taken ++ more)
limited_cells law cuts s taken rest most few past =
    let file : List ℕ = taken ++ rest in
    let k : ℕ = most * symbol_length s in
    let first : List ℕ = take k file in
    let held : symbols s first ≡ most = symbols_limited s file most past in
    let n : ℕ = symbols s taken - 7 in
    let b = corrected_begin s (received s file) n (most - 7) (omega (arith, few)) in
    let here : corrected s (received s file) (most - 7) ≡ live_cells s first =
    ap (λ (l : List ℕ). corrected s (received s l) (most - 7)) (sym (take-append-drop k file)) ∙ first_live law cuts s first (drop k file) (most - 7) (omega (arith, held))
    ∙ ap (λ (z : ℕ). corrected s (received s first) (z - 7)) (sym held) ∙ sym (live_is s first) in
    (b.0, sym here ∙ b.1 ∙ ap (λ (l : List ℕ). l ++ b.0) (first_live law cuts s taken rest n (omega arith) ∙ sym (live_is s taken)))

pub begins_limited : LiveSymbolsStay → Cuts → (s : Settings) (taken rest : List ℕ) (most : ℕ) → symbols s taken ≤ most → most < symbols s (taken ++ rest)
    → (more : List ℕ) × (live_file s (take (most * symbol_length s) (taken ++ rest)) ≡ live_file s taken ++ more)
begins_limited law cuts s taken rest most few past =
    headed (header s.mode) (live_cells s taken) (live_cells s (take (most * symbol_length s) (taken ++ rest))) (limited_cells law cuts s taken rest most few past)
