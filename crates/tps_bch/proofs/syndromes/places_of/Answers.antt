-- The second error has the rest of the syndrome.
use Rattle.std.proofs.Common.{ℕ, ◌<◌, ◌≡◌, ◌∙◌, sym, ap, below_more, List, get_or}
use Rattle.std.specs.Prelude.{bit_xor}
use Rattle.tps_bch.specs.Syndromes.{syndrome_at}
use Rattle.tps_bch.proofs.Sums.{moved, parted}
use Rattle.tps_bch.proofs.syndromes.places_of.Goals as goal

pub loop-i-preserved : goal.loop-i-preserved
loop-i-preserved c =
    let i = c.loop-i.i in
    let read : get_or c.table-rest-items.result.now i 0 ≡ syndrome_at i = ap (λ (ss : List ℕ). get_or ss i 0) c.table-rest-items.ensures in
    let none = c.in_default.ensures.none in
    let here : (j : ℕ) → j < 67 → bit_xor (syndrome_at i) (syndrome_at j) ≡ c.args.syndrome → _ = λ j l e. none j l (parted (syndrome_at i) (syndrome_at j) c.args.syndrome e ∙ ap (λ (s : ℕ). bit_xor s c.args.syndrome) (sym read)) in
    λ k j. below_more (λ z. j < 67 → bit_xor (syndrome_at z) (syndrome_at j) ≡ c.args.syndrome → _) i (λ z l. c.loop-i.invariant z j l) (here j) k

pub returns-in-Some-clause-found : goal.returns-in-Some-clause-found
returns-in-Some-clause-found c =
    let i = c.loop-i.i in
    let read : get_or c.table-rest-items.result.now i 0 ≡ syndrome_at i = ap (λ (ss : List ℕ). get_or ss i 0) c.table-rest-items.ensures in
    let found = c.in-Some.ensures.found in
    (c.loop-i-test.true, found.0, moved (syndrome_at c.in-Some.j) (syndrome_at i) c.args.syndrome (found.1 ∙ ap (λ (s : ℕ). bit_xor s c.args.syndrome) read))
