use Rattle.std.proofs.Common.{[], arith}
use Rattle.measurer.proofs.Feeding.{first_stands, kept_first}
use Rattle.measurer.proofs.measurer.Measurer.new.Goals as goal

pub invariant_of-result : goal.invariant_of-result
invariant_of-result g c = record {
  few_taken = omega (arith, c.in_ok-new.ensures.taken);
  symbol = omega (arith, c.new-3.ensures.symbol);
  few_frames = omega (arith, c.new-3.ensures.read, c.new-3.ensures.bad);
  kept = λ _. kept_first _ _ c.in_ok-new.ensures.taken c.in_ok-new-2.ensures.kept;
  measured = λ _. record {
    bytes = [];
    lines = [];
    stands = first_stands _ _ _ _ c.in_ok-new.ensures.settings c.in_ok-new.ensures.had c.in_ok-new-2.ensures.goes_on c.in_ok-new-2.ensures.number c.in_ok-new-2.ensures.read c.in_ok-new-2.ensures.bad (λ mode shown. c.new-3.ensures.none mode shown);
  };
}

pub returns-clause-stands : goal.returns-clause-stands
returns-clause-stands g c =
    first_stands _ _ _ _ c.in_ok-new.ensures.settings c.in_ok-new.ensures.had c.in_ok-new-2.ensures.goes_on c.in_ok-new-2.ensures.number c.in_ok-new-2.ensures.read c.in_ok-new-2.ensures.bad (λ mode shown. c.new-3.ensures.none mode shown)
