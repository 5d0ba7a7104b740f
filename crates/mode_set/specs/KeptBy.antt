-- The checks of settings, entries and plans imply the invariants of their types.
use Rattle.std.specs.Prelude.{◌≡◌, ℕ, nat_le, Bool, true, false, not, ◌&&◌, ◌||◌, List, [], ◌∷◌, ◌++◌, ◌-◌, length}
use Rattle.std.specs.Prelude.{take, replicate, Option, is_some, refl}
use Rattle.std.specs.Bool.{beq}
use Rattle.std.proofs.Common.{◌∙◌, sym, ap, arith, length-append}
use Rattle.std.proofs.lemmas.Bool.{and_parts, leb-true, true≢false}
use Rattle.std.proofs.lemmas.List.{length-replicate}
use Rattle.mode_set.specs.Kept.{IsKept, IsKeptEntry, is_flat, is_qpsk, fit, fit_together}
use Rattle.mode_set.specs.PlanList.{is_plan, is_rising, filler, filled, IsFilled}
use Rattle.mode_set.specs.declared.entry.Entry.{Entry}
use Rattle.mode_set.specs.declared.modes.Shape.{Shape}
use Rattle.mode_set.specs.declared.modes.Hierarchy.{Hierarchy}
use Rattle.mode_set.specs.declared.modes.Rate.{Rate}

implied : (a b : Bool) → (not a || b) ≡ true → a ≡ true → b ≡ true
implied true true e q = refl
implied true false e q = e
implied false true e q = refl
implied false false e q = q

same : (a b : Bool) → beq a b ≡ true → a ≡ b
same true true e = refl
same true false e = absurd (true≢false (sym e))
same false true e = e
same false false e = refl

-- checked parameters satisfy the invariant of a plan's entry
pub kept_together : (shape : Shape) (hierarchy : Hierarchy) (rate_lp : Option Rate)
    → fit_together shape hierarchy rate_lp ≡ true → IsKeptEntry shape hierarchy rate_lp
kept_together shape hierarchy rate_lp e =
    let a = and_parts (not (is_qpsk shape) || is_flat hierarchy) (beq (is_some rate_lp) (not (is_flat hierarchy))) e in
    record {
      qpsk = implied (is_qpsk shape) (is_flat hierarchy) a.0;
      lp
          = same (is_some rate_lp) (not (is_flat hierarchy)) a.1;
    }

-- checked settings satisfy their invariant
pub kept_if : (shape : Shape) (hierarchy : Hierarchy) (rate_lp : Option Rate) (workers most : ℕ)
    → fit shape hierarchy rate_lp workers most ≡ true → IsKept shape hierarchy rate_lp workers most
kept_if shape hierarchy rate_lp workers most e =
    let a = and_parts (fit_together shape hierarchy rate_lp) (nat_le 1 workers && (nat_le workers 16 && nat_le 1 most))
    e in
    let kept = kept_together shape hierarchy rate_lp a.0 in
    let b = and_parts (nat_le 1 workers) (nat_le workers 16 && nat_le 1 most) a.1 in
    let c = and_parts (nat_le workers 16) (nat_le 1 most) b.1 in
    record {
      qpsk = kept.qpsk;
      lp = kept.lp;
      some_worker = leb-true 1 workers b.0;
      few_workers = leb-true workers 16 c.0;
      some_symbol = leb-true 1 most c.1;
    }

-- the first entries of a padded plan are the entries given
pub take_front : (l m : List Entry) → take (length l) (l ++ m) ≡ l
take_front [] m = refl
take_front (x ∷ l) m = ap (λ (xs : List Entry). x ∷ xs) (take_front l m)

-- a checked plan satisfies its invariant
pub kept_plan : (es : List Entry) → is_plan es ≡ true → IsFilled (length es) (filled es)
kept_plan es e =
    let a = and_parts (nat_le (length es) 16) (is_rising es) e in
    let few = leb-true (length es) 16 a.0 in
    let front = take_front es (replicate (16 - length es) filler) in
    record {
      few = few;
      long = length-append es (replicate (16 - length es) filler)
          ∙ (let r = length-replicate (16 - length es) filler in omega (arith, r, few));
      rest = ap filled (sym front);
      rising = ap is_rising front ∙ a.1;
    }
