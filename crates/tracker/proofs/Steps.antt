-- The symbols of a tracker after one more was taken, and after one was given.
use Rattle.std.proofs.Common.{◌≡◌, ℕ, refl, false, ◌+◌, ◌-◌, List, [], ◌∷◌, ◌++◌, length, map, ap, sym, ◌∙◌, subst, arith}
use Rattle.std.specs.Prelude.{Bool, Option, None}
use Rattle.mode_set.specs.StreamTable.{carriers}
use Rattle.mode_set.specs.declared.modes.Mode.{Mode}
use Rattle.mode_set.specs.declared.settings.Settings.{Settings}
use Rattle.qam_map.specs.declared.cell.Cell.{Cell}
use Rattle.tracking.specs.Comb.{comb_of}
use Rattle.tracking.specs.Moving.{mean_residue}
use Rattle.tracking.specs.Tracking.{Symbol, comb}
use Rattle.track_motion.specs.Kept.{KeepsBefore, KeepsChanges}
use Rattle.track_motion.specs.Means.{AreMeans}
use Rattle.track_motion.specs.declared.residues.Residues.{Residues}
use Rattle.track_pilots.specs.Window.{WindowState, StandsFor}
use Rattle.track_ring.specs.Ring.{RingState, Keeps}
use Rattle.tracker.specs.Tracks.{TrackerState, Tracks}
use Rattle.tracker.proofs.Stays.{cells_more, changes_stay, means_stay}
use Rattle.tracker.proofs.Symbols.{length_of}

abbrev pub cells_of : List Symbol → List (List Cell)
cells_of symbols = map (λ (x : Symbol). x.cells) symbols

abbrev pub made : Settings → WindowState → RingState → Option Residues → List ℕ → ℕ → Bool → TrackerState
made s w r means changes given ended = record { settings = s; window = w; ring = r; means = means; changes = changes; given = given; ended = ended }

-- the window and the ring, by the mode of the type
pub to_window : (s : Settings) (mode : Mode) → s.mode ≡ mode → (w : WindowState) (symbols : List Symbol) → StandsFor s.mode w (cells_of symbols) → StandsFor mode w (cells_of symbols)
to_window s mode em w symbols h = subst (λ (z : Mode). StandsFor z w (cells_of symbols)) em h

pub to_ring : (s : Settings) (mode : Mode) (k : ℕ) → s.mode ≡ mode → k ≡ carriers mode → (r : RingState) (symbols : List Symbol) → Keeps (carriers s.mode) r symbols → Keeps k r symbols
to_ring s mode k em ek r symbols h = subst (λ (z : ℕ). Keeps z r symbols) (ap carriers em ∙ sym ek) h

-- the same of the means and of the changes, and back
pub means_in : (s : Settings) (mode : Mode) → s.mode ≡ mode → (means : Option Residues) (m : ℕ) (symbols : List Symbol) → AreMeans (comb s symbols) m means → AreMeans (comb_of mode (cells_of symbols)) m means
means_in s mode em means m symbols h = subst (λ (z : Mode). AreMeans (comb_of z (cells_of symbols)) m means) em h

pub means_of : (s : Settings) (mode : Mode) → s.mode ≡ mode → (means : Option Residues) (m : ℕ) (symbols : List Symbol) → AreMeans (comb_of mode (cells_of symbols)) m means → AreMeans (comb s symbols) m means
means_of s mode em means m symbols h = subst (λ (z : Mode). AreMeans (comb_of z (cells_of symbols)) m means) (sym em) h

pub kept_of : (s : Settings) (mode : Mode) → s.mode ≡ mode → (kept : List ℕ) (symbols : List Symbol) → KeepsChanges (comb s symbols) kept → KeepsChanges (comb_of mode (cells_of symbols)) kept
kept_of s mode em kept symbols h = subst (λ (z : Mode). KeepsChanges (comb_of z (cells_of symbols)) kept) em h

-- one symbol more
pub waits : (s : Settings) (mode : Mode) (k : ℕ) (w v : WindowState) (r q : RingState) (means : Option Residues) (kept changes : List ℕ) (given : ℕ) (ended : Bool) (symbols : List Symbol) (x : Symbol)
    → s.mode ≡ mode → k ≡ carriers mode → given ≡ w.count - 7
    → ((cells : List (List Cell)) → StandsFor mode w cells → StandsFor mode v (cells ++ x.cells ∷ [])) → ((kept : List Symbol) → Keeps k r kept → Keeps k q (kept ++ x ∷ []))
    → ((cells : List (List Cell)) → StandsFor mode v cells → KeepsBefore (comb_of mode cells) kept → KeepsChanges (comb_of mode cells) changes)
    → Tracks (made s w r means kept given ended) symbols → Tracks (made s v q means changes given ended) (symbols ++ x ∷ [])
waits s mode k w v r q means kept changes given ended symbols x em ek eg ew er ec h =
    let all = symbols ++ x ∷ [] in
    let seen : StandsFor mode v (cells_of all) = subst (λ (z : List (List Cell)). StandsFor mode v z) (sym (cells_more symbols x)) (ew (cells_of symbols) (to_window s mode em w symbols h.window)) in
    let number : w.count ≡ length symbols = h.window.number ∙ length_of symbols in
    record {
      window = subst (λ (z : Mode). StandsFor z v (cells_of all)) (sym em) seen;
      ring = subst (λ (z : ℕ). Keeps z q all) (ek ∙ sym (ap carriers em)) (er symbols (to_ring s mode k em ek r symbols h.ring));
      means = means_stay s symbols x given means (eg ∙ ap (λ (z : ℕ). z - 7) number) h.means;
      changes = subst (λ (z : Mode). KeepsChanges (comb_of z (cells_of all)) changes) (sym em) (ec (cells_of all) seen (subst (λ (z : Mode). KeepsBefore (comb_of z (cells_of all)) kept) em (changes_stay s symbols x kept h.changes)));
    }

-- one symbol given
pub gives : (s : Settings) (w : WindowState) (r : RingState) (means after : Option Residues) (changes : List ℕ) (given : ℕ) (ended : Bool) (symbols : List Symbol)
    → AreMeans (comb s symbols) given after → Tracks (made s w r means changes given ended) symbols → Tracks (made s w r after changes (given + 1) ended) symbols
gives s w r means after changes given ended symbols are h =
    let e : given + 1 - 1 ≡ given = omega arith in
    record { window = h.window; ring = h.ring; means = subst (λ (z : ℕ). AreMeans (comb s symbols) z after) (sym e) are; changes = h.changes }

-- none was taken
pub begins : (s : Settings) (w : WindowState) (r : RingState) (changes : List ℕ) (mode : Mode) (k : ℕ) → s.mode ≡ mode → k ≡ carriers mode → StandsFor mode w [] → Keeps k r [] → Tracks (made s w r None changes 0 false) []
unfolding mean_residue comb_of
begins s w r changes mode k em ek hw hr =
    record {
      window = subst (λ (z : Mode). StandsFor z w []) (sym em) hw;
      ring = subst (λ (z : ℕ). Keeps z r []) (ek ∙ sym (ap carriers em)) hr;
      means = record { slow = refl; fast = refl };
      changes = record { is = λ t some there late. absurd (omega (arith, there)) };
    }

-- the window has the number of the symbols
pub count_of : (t : TrackerState) (symbols : List Symbol) → Tracks t symbols → t.window.count ≡ length symbols
count_of t symbols h = h.window.number ∙ length_of symbols
