-- The parts of what is seen are those of the definitions.
use Rattle.std.proofs.Common.{◌≡◌, ℕ, ◌+◌, ◌*◌, ◌<◌, ◌≤◌, Bool, false, true, not, nat_le, nat_lt, get_or, ap, sym, ◌∙◌, arith}
use Rattle.std.specs.Prelude.{◌&&◌}
use Rattle.tracking.specs.Comb.{comb_of}
use Rattle.tracking.specs.InTime.{is_there}
use Rattle.track_motion.specs.Places.{in_file, first_place, end_place}
use Rattle.track_motion.proofs.Tests.{count_of, there_is}
use Rattle.track_motion.proofs.Looks.{good_is, same_file}
use Rattle.track_motion.proofs.surroundings.seen_by.Goals as goal

pub returns-clause-are : goal.returns-clause-are
returns-clause-are g c = λ symbols h changes.
    let comb = comb_of g.M.Carriers.MODE symbols in
    let m = c.args.m in
    let n = c.args.window.now.count in
    let count : comb.count ≡ n = count_of g.M.Carriers.MODE symbols ∙ sym h.number in
    let some : m < comb.count = omega (arith, count, c.requires.there) in
    let first = c.first_place-first.ensures in
    let end = c.end_place-end.ensures ∙ ap (λ (z : ℕ). end_place z m) (c.count.ensures ∙ sym count) in
    let lesser = c.lesser_changes-lesser.ensures.are comb m changes first end some in
    let middle = c.middle_change-middle.ensures.is comb m lesser first end some in
    record {
      there = λ p lt. c.are_there.ensures p lt ∙ same_file comb m p c.first_place-first.result c.end_place-end.result first end some;
      good = λ p lt. c.are_good.ensures p lt ∙ good_is comb m p c.first_place-first.result c.end_place-end.result c.lesser_changes-lesser.result c.middle_change-middle.result first end some lesser middle;
      turns = λ p lt there. c.turns.ensures.are symbols p h lt (sym (ap (λ (z : ℕ). in_file z m p) count) ∙ sym (there_is comb m p some) ∙ there);
      middle = middle;
    }
