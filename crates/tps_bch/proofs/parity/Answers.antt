-- The bits are the syndrome of the information bits.
use Rattle.std.proofs.Common.{ℕ, ◌<◌, ◌≡◌, ◌≢◌, ◌∙◌, ◌++◌, ap, sym, subst, arith, below_more, List, Bool, get_or-set_same, get_or-set_other, length, length-set}
use Rattle.std.specs.Prelude.{◌==◌}
use Rattle.std.proofs.lemmas.Nat.{and_mask}
use Rattle.spec_words.specs.Bits.{spelled}
use Rattle.tps_bch.specs.Bch.{tps_parity, IsTpsWord}
use Rattle.tps_bch.proofs.Division.{is_word}
use Rattle.tps_bch.proofs.Rests.{of_parity}
use Rattle.tps_bch.proofs.Sums.{spelled_is}
use Rattle.tps_bch.proofs.parity.Goals as goal

pub loop-i-preserved : goal.loop-i-preserved
loop-i-preserved c =
    let lt : c.loop-i.i < length c.loop-i.bit-items = omega (arith, c.loop-i.invariant.long) in
    record {
      long = length-set _ _ _ ∙ c.loop-i.invariant.long;
      same =
          below_more _ _ (λ k h. let ne : k ≢ c.loop-i.i = omega arith in rw get_or-set_other (c.loop-i.invariant.same k h))
          (rw get_or-set_same (ap (λ (z : ℕ). z == 1) (and_mask _ 1)));
    }

spells : (c : goal.After-loop-i) → c.loop-i.bit-items ≡ tps_parity c.args.info.now
spells c =
    spelled_is 14 c.syndrome-rest.result c.loop-i.bit-items c.loop-i-test.array_long (λ k l. c.loop-i.invariant.same k (omega (arith, l, c.loop-i-test.false)))
    ∙ ap (spelled 14) c.syndrome-rest.ensures ∙ of_parity c.args.info.now c.told-info

pub returns-clause-rest : goal.returns-clause-rest
returns-clause-rest c = spells c

pub returns-clause-word : goal.returns-clause-word
returns-clause-word c = subst (λ (bits : List Bool). IsTpsWord (c.args.info.now ++ bits)) (sym (spells c)) (is_word c.args.info.now c.told-info)
