-- One symbol more changes nothing of the running means before it.
use Rattle.std.proofs.Common.{◌≡◌, ℕ, zero, suc, ◌+◌, ◌-◌, List, [], ◌∷◌, ◌++◌, length, get_or, map, refl, ap, sym, ◌∙◌, arith, length-append}
use Rattle.std.specs.Prelude.{Option}
use Rattle.std.proofs.lemmas.List.{get_or_append_left, length-map, map-append}
use Rattle.mode_set.specs.declared.settings.Settings.{Settings}
use Rattle.qam_map.specs.declared.cell.Cell.{Cell}
use Rattle.tracking.specs.Comb.{Comb, comb_of, pilot}
use Rattle.tracking.specs.Moving.{mean_residue}
use Rattle.tracking.specs.Tracking.{Symbol, comb}
use Rattle.tracking.specs.declared.motion.Motion.{Motion}
use Rattle.tracking.specs.declared.motion.Motion.TheVariants.{Slow, Fast}
use Rattle.tracking.proofs.Live.{Agree, same_change, same_mean}
use Rattle.track_motion.specs.Kept.{KeepsBefore, KeepsChanges}
use Rattle.track_motion.specs.Means.{AreMeans}
use Rattle.track_motion.specs.declared.residues.Residues.{Residues}

pub cells_more : (symbols : List Symbol) (x : Symbol) → map (λ (z : Symbol). z.cells) (symbols ++ x ∷ []) ≡ map (λ (z : Symbol). z.cells) symbols ++ x.cells ∷ []
cells_more symbols x = map-append (λ (z : Symbol). z.cells) symbols (x ∷ [])

agree : (s : Settings) (symbols more : List Symbol) → Agree (comb s (symbols ++ more)) (comb s symbols) (length symbols)
unfolding comb_of
agree s symbols more =
    let f = λ (x : Symbol). x.cells in
    let long = length-append symbols more in
    record {
      mode = refl;
      here = omega (arith, long, length-map (symbols ++ more) f);
      there = omega (arith, length-map symbols f);
      value = λ t j h. ap (λ (z : List Cell). pilot z j) (ap (λ (z : List (List Cell)). get_or z t []) (map-append f symbols more) ∙ get_or_append_left (map f symbols) (map f more) [] t (omega (arith, h, length-map symbols f)));
    }

none : (c d : Comb) (f : Motion) → mean_residue c f 0 ≡ mean_residue d f 0
unfolding mean_residue
none c d f = refl

same : (s : Settings) (symbols : List Symbol) (x : Symbol) (given : ℕ) (f : Motion) → given ≡ length symbols - 7 → mean_residue (comb s symbols) f (given - 1) ≡ mean_residue (comb s (symbols ++ x ∷ [])) f (given - 1)
same s symbols x zero f e = none (comb s symbols) (comb s (symbols ++ x ∷ [])) f
same s symbols x (suc m) f e = sym (same_mean (comb s (symbols ++ x ∷ [])) (comb s symbols) (length symbols) (agree s symbols (x ∷ [])) f (suc m - 1) (omega (arith, e)))

pub means_stay : (s : Settings) (symbols : List Symbol) (x : Symbol) (given : ℕ) (means : Option Residues) → given ≡ length symbols - 7 → AreMeans (comb s symbols) (given - 1) means → AreMeans (comb s (symbols ++ x ∷ [])) (given - 1) means
means_stay s symbols x given means e are = record { slow = are.slow ∙ same s symbols x given Slow e; fast = are.fast ∙ same s symbols x given Fast e }

-- nor of the changes
pub changes_stay : (s : Settings) (symbols : List Symbol) (x : Symbol) (kept : List ℕ) → KeepsChanges (comb s symbols) kept → KeepsBefore (comb s (symbols ++ x ∷ [])) kept
unfolding comb_of
changes_stay s symbols x kept keeps =
    let all = symbols ++ x ∷ [] in
    let f = λ (z : Symbol). z.cells in
    let long : length (map f all) ≡ length symbols + 1 = length-map all f ∙ length-append symbols (x ∷ []) in
    let number : length (map f symbols) ≡ length symbols = length-map symbols f in
    record {
      is = λ t some there late.
          keeps.is t some (omega (arith, there, long, number)) (omega (arith, late, long, number)) ∙ sym (same_change (comb s all) (comb s symbols) (length symbols) (agree s symbols (x ∷ [])) t (omega (arith, there, long)));
    }
