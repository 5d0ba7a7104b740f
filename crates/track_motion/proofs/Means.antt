-- The running means after one more symbol, and the sums they are made of.
use Rattle.std.proofs.Common.{◌≡◌, ℕ, zero, suc, ◌+◌, ◌-◌, ◌*◌, ◌<◌, ◌≤◌, List, length, get_or, Bool, true, false, nat_le, nat_lt, not, refl, ap, sym, ◌∙◌, arith, cond}
use Rattle.std.specs.Prelude.{◌&&◌, if◌then◌else◌, Option, Some, None, sum_by}
use Rattle.std.proofs.lemmas.Bool.Decides.{nat_tests}
use Rattle.tracking.specs.Comb.{Comb, continual_points}
use Rattle.tracking.specs.Moving.{is_seen, residue, follows, mean_residue}
use Rattle.tracking.specs.declared.motion.Motion.{Motion}
use Rattle.tracking.specs.declared.motion.Motion.TheVariants.{Slow, Fast}
use Rattle.track_motion.specs.Means.{left, slow_of, fast_of, AreMeans}
use Rattle.track_motion.specs.declared.residues.Residues.{Residues}

pub residue_is : (c : Comb) (f : Motion) (m : ℕ) (points : List ℕ) → points ≡ continual_points c.mode → sum_by (left c f m) points ≡ residue c f m
unfolding residue
residue_is c f m points e = ap (sum_by (left c f m)) e

seen_late : (c : Comb) → is_seen c 0 ≡ false
unfolding is_seen
seen_late c = refl

-- symbol 0 is not seen, so the mean before it is that after it
step : (c : Comb) (f : Motion) (m : ℕ) → mean_residue c f m ≡ (if is_seen c m then Some (follows (mean_residue c f (m - 1)) (residue c f m)) else mean_residue c f (m - 1))
unfolding mean_residue
step c f zero = ap (λ (z : Bool). if z then Some (follows None (residue c f zero)) else None) (sym (seen_late c))
step c f (suc m) = let e : suc m - 1 ≡ m = omega arith in ap (λ (z : ℕ). if is_seen c (suc m) then Some (follows (mean_residue c f z) (residue c f (suc m))) else mean_residue c f z) (sym e)

pub not_seen : (c : Comb) (m : ℕ) (means : Option Residues) → is_seen c m ≡ false → AreMeans c (m - 1) means → AreMeans c m means
not_seen c m means e are =
    let same : (f : Motion) → mean_residue c f (m - 1) ≡ mean_residue c f m = λ f. ap (λ (z : Bool). if z then Some (follows (mean_residue c f (m - 1)) (residue c f m)) else mean_residue c f (m - 1)) (sym e) ∙ sym (step c f m) in
    record { slow = are.slow ∙ same Slow; fast = are.fast ∙ same Fast }

pub seen : (c : Comb) (m slow fast : ℕ) (means : Option Residues) (new : Residues) → is_seen c m ≡ true → AreMeans c (m - 1) means → slow ≡ residue c Slow m → fast ≡ residue c Fast m
    → new.slow ≡ follows (slow_of means) slow → new.fast ≡ follows (fast_of means) fast → AreMeans c m (Some new)
seen c m slow fast means new e are es ef ns nf =
    let same : (f : Motion) → Some (follows (mean_residue c f (m - 1)) (residue c f m)) ≡ mean_residue c f m = λ f. ap (λ (z : Bool). if z then Some (follows (mean_residue c f (m - 1)) (residue c f m)) else mean_residue c f (m - 1)) (sym e) ∙ sym (step c f m) in
    record {
      slow = ap (λ (z : ℕ). Some z) (ns ∙ ap (λ (z : Option ℕ). follows z slow) are.slow ∙ ap (follows (mean_residue c Slow (m - 1))) es) ∙ same Slow;
      fast = ap (λ (z : ℕ). Some z) (nf ∙ ap (λ (z : Option ℕ). follows z fast) are.fast ∙ ap (follows (mean_residue c Fast (m - 1))) ef) ∙ same Fast;
    }
