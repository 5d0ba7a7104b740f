-- A fact on some prefix of the bytes, if a call fails.
use Rattle.std.proofs.Common.{ℕ}
use Rattle.std.specs.Prelude.{Result, OnErr}
use Rattle.std.proofs.lemmas.Result.{on_err_weaker}

-- what follows from the fact for every number follows for the existing one
pub some_front : {T E : Type 0} {P Q : ℕ → Type 0} (r : Result T E) → ((n : ℕ) → P n → Q n) → OnErr r ((n : ℕ) × P n) → OnErr r ((n : ℕ) × Q n)
some_front {Q = Q} r f given = on_err_weaker {Q = (n : ℕ) × Q n} r (λ front. (front.0, f front.0 front.1)) given
