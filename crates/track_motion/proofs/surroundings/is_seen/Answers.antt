-- The five flags.
use Rattle.std.proofs.Common.{◌≡◌, ℕ, ◌<◌, Bool, false, true, get_or, ap, sym, ◌∙◌, arith}
use Rattle.tracking.specs.InTime.{is_good}
use Rattle.track_motion.proofs.Seen.{five, first_of, last_of, seen_is}
use Rattle.track_motion.proofs.surroundings.is_seen.Goals as goal

pub returns-clause-is : goal.returns-clause-is
returns-clause-is c = λ d m some a.
    let good = λ (p : ℕ). get_or c.args.around.now.good p false in
    c.all_five.ensures
    ∙ ap (λ (z : Bool). five z (good 5) (good 7) (good 9) (good 13)) (a.good 1 (omega arith))
    ∙ ap (λ (z : Bool). five (is_good d m 1) z (good 7) (good 9) (good 13)) (a.good 5 (omega arith))
    ∙ ap (λ (z : Bool). five (is_good d m 1) (is_good d m 5) z (good 9) (good 13)) (a.good 7 (omega arith))
    ∙ ap (λ (z : Bool). five (is_good d m 1) (is_good d m 5) (is_good d m 7) z (good 13)) (a.good 9 (omega arith))
    ∙ ap (five (is_good d m 1) (is_good d m 5) (is_good d m 7) (is_good d m 9)) (a.good 13 (omega arith))
    ∙ seen_is d m some

pub returns-clause-first : goal.returns-clause-first
returns-clause-first c = λ count m look set.
    let good = λ (p : ℕ). get_or c.args.around.now.good p false in
    look.good 1 (omega arith) (first_of (good 1) (good 5) (good 7) (good 9) (good 13) (sym c.all_five.ensures ∙ set))

pub returns-clause-last : goal.returns-clause-last
returns-clause-last c = λ count m look set.
    let good = λ (p : ℕ). get_or c.args.around.now.good p false in
    look.good 13 (omega arith) (last_of (good 1) (good 5) (good 7) (good 9) (good 13) (sym c.all_five.ensures ∙ set))
