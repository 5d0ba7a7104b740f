-- The points at one distance more.
use Rattle.std.proofs.Common.{◌≡◌, ℕ, ◌%◌, ◌<◌, ◌^◌, List, get_or, ap, sym, ◌∙◌, subst, arith, inl, inr}
use Rattle.std.specs.Prelude.{ℤ, pos, true}
use Rattle.std.proofs.lemmas.Bool.{cases_lt}
use Rattle.tracking.specs.Comb.{comb_of, turn}
use Rattle.tracking.specs.InTime.{distance, place, symbol_at}
use Rattle.spec_words.specs.Words.{numbers}
use Rattle.track_arithmetic.specs.Laws.{IsWithin}
use Rattle.track_arithmetic.specs.Numbers.{nothing, sum_of, times}
use Rattle.track_motion.proofs.Tests.{count_of, there_is}
use Rattle.track_motion.specs.Places.{in_file}
use Rattle.track_cells.specs.Gains.{gain_of}
use Rattle.track_cells.proofs.Tables.{entry}
use Rattle.track_comb_gains.specs.Kept.{kept_tap}
use Rattle.track_comb_gains.proofs.Shares.{gain_is, shares_are, tap_counts}
use Rattle.track_comb_gains.proofs.gains.point_gains.Goals as goal

pub symbols_at-symbols-requires-clause-in_file : goal.symbols_at-symbols-requires-clause-in_file
symbols_at-symbols-requires-clause-in_file g c = λ i lt some.
    let d = c.loop-d.d in
    let few : d < 4 = omega (arith, c.loop-d-test.true) in
    let n = get_or c.all_counting-counts.result d 0 in
    let at : get_or c.taps-row.result.now i (pos 0) ≡ kept_tap c.args.motion d n i = ap (λ (z : List ℤ). get_or z i (pos 0)) c.taps-row.ensures.is ∙ entry (kept_tap c.args.motion d n) 4 i (pos 0) lt in
    ap (λ (z : ℕ). in_file z c.args.m (place d i)) c.count.ensures ∙ c.all_counting-counts.ensures.there c.args.window.now.count c.args.m d i c.requires.look few lt (tap_counts c.args.motion d n i (λ e. some (at ∙ e)))

pub loop-d-preserved : goal.loop-d-preserved
loop-d-preserved g c =
    let d = c.loop-d.d in
    let few : d < 4 = omega (arith, c.loop-d-test.true) in
    let m = c.args.m in
    let inv = c.loop-d.invariant in
    let new = c.put_distance.new.gains in
    let n = get_or c.all_counting-counts.result d 0 in
    let taps = c.taps-row.result.now in
    let symbols = c.symbols_at-symbols.result in
    let factors = c.factors_at-factors.result in
    let turns = c.args.around.now.turns in
    let in_files : (i : ℕ) → i < 4 → (get_or taps i (pos 0) ≡ pos 0 → ⊥) → in_file c.args.window.now.count m (place d i) ≡ true = λ i lt some.
    let at : get_or taps i (pos 0) ≡ kept_tap c.args.motion d n i = ap (λ (z : List ℤ). get_or z i (pos 0)) c.taps-row.ensures.is ∙ entry (kept_tap c.args.motion d n) 4 i (pos 0) lt in
    c.all_counting-counts.ensures.there c.args.window.now.count m d i c.requires.look few lt (tap_counts c.args.motion d n i (λ e. some (at ∙ e))) in
    let not_here : (j : ℕ) → distance m j < d → j % 4 ≡ c.first_point.result → ⊥ = λ j less e. let same = c.first_point.ensures.others j e in omega (arith, same, less) in
    record {
      long = c.put_distance.ensures.long ∙ sym c.requires.long;
      is = λ all guard j h a em inside lt. elim (cases_lt (distance m j) d) [
        | inl less ↦ c.put_distance.ensures.others j (not_here j less) ∙ inv.is all guard j h a em inside less
        | inr ge ↦
            let at : distance m j ≡ d = omega (arith, ge, lt) in
            let comb = comb_of g.M.Carriers.MODE all in
            let count : comb.count ≡ c.args.window.now.count = count_of g.M.Carriers.MODE all ∙ sym h.number in
            let turned : (i : ℕ) → i < 4 → (get_or taps i (pos 0) ≡ pos 0 → ⊥) → get_or turns (place d i) nothing ≡ turn comb m (symbol_at m (place d i)) = λ i less some.
            a.turns (place d i) (omega (arith, less, few)) (there_is comb m (place d i) (omega (arith, count, c.requires.there)) ∙ ap (λ (z : ℕ). in_file z m (place d i)) count ∙ in_files i less some) in
            let sum = sum_of (λ (i : ℕ). times (gain_of factors i) (comb.value (get_or symbols i 0) j)) (numbers 4) in
            gain_is comb guard m j c.args.motion d n taps sum (gain_of new j) (sym at) em (c.all_counting-counts.ensures.is comb m d a few) c.taps-row.ensures.is
            (shares_are comb m d j taps symbols factors turns c.factors_at-factors.ensures.are turned c.symbols_at-symbols.ensures.are)
            (c.put_distance.ensures.is all j h inside (c.first_point.ensures.is j at))
      ];
      within = λ j inside lt. elim (cases_lt (distance m j) d) [
        | inl less ↦ subst (IsWithin (2 ^ 21)) (sym (c.put_distance.ensures.others j (not_here j less))) (inv.within j inside less)
        | inr ge ↦ let at : distance m j ≡ d = omega (arith, ge, lt) in c.put_distance.ensures.within j inside (c.first_point.ensures.is j at)
      ];
    }

pub returns-clause-is : goal.returns-clause-is
returns-clause-is g c = λ symbols guard j h a em inside. c.loop-d.invariant.is symbols guard j h a em inside (omega (arith, c.loop-d-test.false))

pub returns-clause-within : goal.returns-clause-within
returns-clause-within g c = λ j lt. c.loop-d.invariant.within j (omega (arith, lt, c.loop-d.invariant.long, c.requires.long)) (omega (arith, c.loop-d-test.false))
