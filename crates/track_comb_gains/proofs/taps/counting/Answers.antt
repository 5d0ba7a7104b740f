-- The places that count.
use Rattle.std.proofs.Common.{◌≡◌, ℕ, ◌+◌, ◌-◌, ◌*◌, ◌<◌, ◌≤◌, Bool, false, true, get_or, refl, ap, sym, ◌∙◌, arith}
use Rattle.tracking.specs.InTime.{place, counting}
use Rattle.track_motion.specs.Places.{in_file}
use Rattle.track_comb_gains.specs.Kept.{has, number_of, places_of}
use Rattle.track_comb_gains.proofs.PlacesOfBits.{counts_good, counts_there, bit_is}
use Rattle.track_comb_gains.proofs.taps.counting.Goals as goal

pub returns-then-good-eq0-clause-is : goal.returns-then-good-eq0-clause-is
returns-then-good-eq0-clause-is c = λ comb m a.
    let d = c.args.d in
    let h = c.requires in
    let good = λ (p : ℕ) (lt : p < 16). sym (a.good p lt) in
    let there = λ (p : ℕ) (lt : p < 16). sym (a.there p lt) in
    counts_there comb m d _ _ _ _ _ _ _ _ (good (place d 0) (omega arith)) (good (place d 1) (omega arith)) (good (place d 2) (omega arith)) (good (place d 3) (omega arith)) (sym c.flags-good.ensures.is ∙ c.if-good-eq0.true)
    (there (place d 0) (omega arith)) (there (place d 1) (omega arith)) (there (place d 2) (omega arith)) (there (place d 3) (omega arith)) ∙ ap (places_of d) (sym c.flags.ensures.is)

pub returns-else-good-eq0-clause-is : goal.returns-else-good-eq0-clause-is
returns-else-good-eq0-clause-is c = λ comb m a.
    let d = c.args.d in
    let good = λ (p : ℕ) (lt : p < 16). sym (a.good p lt) in
    counts_good comb m d _ _ _ _ (good (place d 0) (omega arith)) (good (place d 1) (omega arith)) (good (place d 2) (omega arith)) (good (place d 3) (omega arith)) (λ e. c.if-good-eq0.false (c.flags-good.ensures.is ∙ e)) ∙ ap (places_of d) (sym c.flags-good.ensures.is)

pub returns-then-good-eq0-clause-there : goal.returns-then-good-eq0-clause-there
returns-then-good-eq0-clause-there c = λ count m i look lt set.
    let d = c.args.d in
    let f = λ (k : ℕ). get_or c.args.around.now.there (place d k) false in
    let bit = bit_is (f 0) (f 1) (f 2) (f 3) f i refl refl refl refl lt in
    sym (look.there (place d i) (omega (arith, lt))) ∙ sym bit ∙ ap (λ (z : ℕ). has z i) (sym c.flags.ensures.is) ∙ set

pub returns-else-good-eq0-clause-there : goal.returns-else-good-eq0-clause-there
returns-else-good-eq0-clause-there c = λ count m i look lt set.
    let d = c.args.d in
    let f = λ (k : ℕ). get_or c.args.around.now.good (place d k) false in
    let bit = bit_is (f 0) (f 1) (f 2) (f 3) f i refl refl refl refl lt in
    look.good (place d i) (omega (arith, lt)) (sym bit ∙ ap (λ (z : ℕ). has z i) (sym c.flags-good.ensures.is) ∙ set)
