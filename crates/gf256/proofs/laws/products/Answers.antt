use Rattle.gf256.proofs.FieldLaws.{mul_small, mul_comm, mul_assoc, one_left, mul_zero_left, mul_no_zero}
use Rattle.gf256.proofs.laws.products.Goals as goal

pub returns-clause-element : goal.returns-clause-element
returns-clause-element c = mul_small

pub returns-clause-commutes : goal.returns-clause-commutes
returns-clause-commutes c = mul_comm

pub returns-clause-associates : goal.returns-clause-associates
returns-clause-associates c = mul_assoc

pub returns-clause-one : goal.returns-clause-one
returns-clause-one c = one_left

pub returns-clause-zero : goal.returns-clause-zero
returns-clause-zero c = mul_zero_left

pub returns-clause-no_zero_divisors : goal.returns-clause-no_zero_divisors
returns-clause-no_zero_divisors c = mul_no_zero
