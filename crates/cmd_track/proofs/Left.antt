-- The loop over the remaining symbols at the end.
use Rattle.std.proofs.Common.{◌≡◌, ℕ, ◌+◌, ◌<◌, ◌≤◌, List, [], ◌++◌, length, take, Err, refl, ◌∙◌, sym, ap, append_assoc}
use Rattle.std.proofs.Math.Seq.{take-append-add}
use Rattle.std.proofs.lemmas.List.{append-nil, length-map}
use Rattle.mode_set.specs.declared.settings.Settings.{Settings}
use Rattle.tracking.specs.Tracking.{Symbol, tracked_bytes}
use Rattle.cmd_cells.specs.declared.run_error.RunError.{RunError}
use Rattle.cmd_cells.proofs.Fronts.{front_of}
use Rattle.tracker.specs.Tracks.{TrackerState, Tracks}
use Rattle.cmd_track.specs.Working.{Appends, symbols_from}
use Rattle.cmd_track.proofs.Growing.{from_end, from_next}

-- the tracker has counted the symbols
pub count_of : (t : TrackerState) (all : List Symbol) → Tracks t all → t.window.count ≡ length all
count_of t all h = h.window.number ∙ length-map all (λ (x : Symbol). x.cells)

-- the symbols from the first one to this one were written
pub record AreWritten (s : Settings) (all : List Symbol) (first given : ℕ) (before now : List ℕ) : Type 0 where
  pub past : List ℕ
  pub is : now ≡ before ++ past
  pub are : symbols_from s all first ≡ past ++ symbols_from s all given

pub none_written : (s : Settings) (all : List Symbol) (first : ℕ) (before : List ℕ) → AreWritten s all first first before before
none_written s all first before = record { past = []; is = sym (append-nil before); are = refl }

module _ (s : Settings) (all : List Symbol) (first given : ℕ) (before now : List ℕ) (w : AreWritten s all first given before now) where
  -- one more
  pub one_written : (later : List ℕ) → given < length all → later ≡ now ++ tracked_bytes s all given → AreWritten s all first (given + 1) before later
  one_written later few is = record {
    past = w.past ++ tracked_bytes s all given;
    is = is ∙ ap (λ (l : List ℕ). l ++ tracked_bytes s all given) w.is ∙ append_assoc before w.past (tracked_bytes s all given);
    are = w.are ∙ ap (λ (l : List ℕ). w.past ++ l) (from_next s all given few) ∙ sym (append_assoc w.past (tracked_bytes s all given) (symbols_from s all (given + 1)));
  }

  -- all
  pub all_written : length all ≤ given → now ≡ before ++ symbols_from s all first
  all_written none = w.is ∙ ap (λ (l : List ℕ). before ++ l) (sym (append-nil w.past) ∙ ap (λ (l : List ℕ). w.past ++ l) (sym (from_end s all given none)) ∙ sym w.are)

  -- a prefix of one
  pub some_written : (later : List ℕ) (stop : RunError) → given < length all → Appends (tracked_bytes s all given) now later (Err stop) → Appends (symbols_from s all first) before later (Err stop)
  some_written later stop few a =
      let x : List ℕ = tracked_bytes s all given in
      let f = front_of x (symbols_from s all (given + 1)) a.1 in
      let left : List ℕ = symbols_from s all given in
      let here : take a.1 x ≡ take f.0 left = f.1 ∙ ap (take f.0) (sym (from_next s all given few)) in (
        a.0,
        length w.past + f.0,
        a.2 ∙ ap (λ (l : List ℕ). l ++ take a.1 x) w.is ∙ append_assoc before w.past (take a.1 x)
            ∙ ap (λ (l : List ℕ). before ++ l) (ap (λ (l : List ℕ). w.past ++ l) here ∙ sym (take-append-add w.past left f.0) ∙ ap (take (length w.past + f.0)) (sym w.are)),
      )
