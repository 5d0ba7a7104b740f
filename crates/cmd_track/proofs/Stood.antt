-- The state of the work after a piece of the cells.
use Rattle.std.proofs.Common.{◌≡◌, ℕ, ◌+◌, ◌-◌, ◌*◌, ◌<◌, false, List, [], ◌∷◌, ◌++◌, length, refl, ap, ap₂, sym, ◌∙◌, subst, arith}
use Rattle.mode_set.specs.StreamTable.{carriers}
use Rattle.mode_set.specs.declared.modes.Mode.{Mode}
use Rattle.mode_set.specs.declared.settings.Settings.{Settings}
use Rattle.tracking.specs.Laws.{LiveSymbolsStay}
use Rattle.tracking.specs.Tracking.{Symbol}
use Rattle.reception.specs.Cells.{symbol_length, symbols, tail}
use Rattle.cmd_cells.specs.Work.{Written}
use Rattle.cmd_convert.specs.Working.{written_at}
use Rattle.tracker.specs.Tracks.{TrackerState, Tracks}
use Rattle.law_tracking.specs.Tracked.{received}
use Rattle.cmd_track.specs.Tracked.{live_file}
use Rattle.cmd_track.specs.Working.{Stands, next_given, symbol_in, symbols_from}
use Rattle.cmd_track.proofs.Bytes.{Cuts, longer_tail, received_long, received_more, received_same}
use Rattle.cmd_track.proofs.Files.{symbol_live}
use Rattle.cmd_track.proofs.Left.{count_of}

module _ (m : Mode) (t : TrackerState) (part : List ℕ) (capacity counted rest : ℕ) (bytes : List ℕ) (given : Written) (st : Stands m t part capacity counted rest bytes given) where
  abbrev s : Settings
  s = t.settings

  -- the tracker has counted the symbols
  pub count_is : t.window.count ≡ symbols s bytes
  count_is = count_of t (received s bytes) st.tracks ∙ received_long s bytes

  -- the number of carriers of a symbol
  pub size_is : (k : ℕ) → k ≡ carriers m → 5 * k ≡ symbol_length s
  size_is k is = ap (λ (n : ℕ). 5 * n) (is ∙ sym (ap carriers st.mode))

  -- bytes that do not complete a symbol
  pub part_stands : Cuts → (piece : List ℕ) → tail s bytes ≡ 0 → length piece < symbol_length s → Stands m t part capacity counted (length piece) (bytes ++ piece) (written_at (live_file s (bytes ++ piece)) [])
  part_stands cuts piece none short =
      let within : tail s bytes + length piece < symbol_length s = omega (arith, none, short) in
      let after : length piece ≡ tail s bytes + length piece = omega (arith, none) in
      record {
        mode = st.mode;
        tracks = subst (λ (l : List Symbol). Tracks t l) (sym (received_same cuts s bytes piece within)) st.tracks;
        going = st.going;
        none = st.none;
        room = st.room;
        whole = st.whole ∙ sym (cuts.same s bytes piece within);
        after = after ∙ sym (longer_tail s bytes piece within);
        gives = λ port. refl;
      }

  -- a whole symbol
  module _ (law : LiveSymbolsStay) (cuts : Cuts) (k : ℕ) (many : k ≡ carriers m) (piece : List ℕ) (none : tail s bytes ≡ 0) (whole : length piece ≡ 5 * k) where
    ends : tail s bytes + length piece ≡ symbol_length s
    ends = let size = size_is k many in omega (arith, none, whole, size)

    same : symbol_in piece k ≡ symbol_in piece (carriers s.mode)
    same = ap (symbol_in piece) (many ∙ sym (ap carriers st.mode))

    pub symbol_stands : (t' : TrackerState) (part' : List ℕ) (capacity' : ℕ) → t'.settings ≡ s → t'.ended ≡ false → part' ≡ [] → capacity' ≡ capacity
        → ((all : List Symbol) → Tracks t all → Tracks t' (all ++ symbol_in piece k ∷ []))
        → Stands m t' part' capacity' (counted + 1) rest (bytes ++ piece) (written_at (live_file s (bytes ++ piece)) [])
    symbol_stands t' part' capacity' set going empty room tracks =
        let more : received s (bytes ++ piece) ≡ received s bytes ++ symbol_in piece k ∷ [] = received_more cuts s bytes piece none ends ∙ ap (λ (x : Symbol). received s bytes ++ x ∷ []) (sym same) in
        let next = cuts.next s bytes piece ends in
        record {
          mode = ap (λ (z : Settings). z.mode) set ∙ st.mode;
          tracks = subst (λ (z : Settings). Tracks t' (received z (bytes ++ piece))) (sym set) (subst (λ (l : List Symbol). Tracks t' l) (sym more) (tracks (received s bytes) st.tracks));
          going = going;
          none = empty;
          room = let size = ap symbol_length set in omega (arith, size, room, st.room);
          whole = ap (λ (n : ℕ). n + 1) st.whole ∙ sym next.0 ∙ ap (λ (z : Settings). symbols z (bytes ++ piece)) (sym set);
          after = st.after ∙ none ∙ sym next.1 ∙ ap (λ (z : Settings). tail z (bytes ++ piece)) (sym set);
          gives = λ port. ap (λ (z : Settings). written_at (live_file z (bytes ++ piece)) [] port) (sym set);
        }

    pub symbol_follows : (room : List ℕ) → ((all : List Symbol) → Tracks t all → room ≡ next_given s all (symbol_in piece k)) → live_file s (bytes ++ piece) ≡ live_file s bytes ++ room
    symbol_follows room gives =
        symbol_live law cuts s bytes piece none ends ∙ ap (λ (l : List ℕ). live_file s bytes ++ l) (ap (next_given s (received s bytes)) (sym same) ∙ sym (gives (received s bytes) st.tracks))

  -- the end
  pub left_are : (t' : TrackerState) → t'.settings ≡ s → t'.given ≡ t.window.count - 7 → symbols_from t'.settings (received s bytes) t'.given ≡ symbols_from s (received s bytes) (symbols s bytes - 7)
  left_are t' set given_is = ap₂ (λ (z : Settings) (n : ℕ). symbols_from z (received s bytes) n) set (given_is ∙ ap (λ (n : ℕ). n - 7) count_is)
