-- An error propagated by `?` is the original one.
use Rattle.std.proofs.Common.{◌≡◌, Result, Ok, Err, sym, subst}
use Rattle.std.specs.Result.{IsErrAnd}

pub handed_on : {T E : Type 0} (r : Result T E) (e : E) (P : Result T E → Type 0) → IsErrAnd r (λ y. y ≡ e) → P (Err e) → P r
handed_on (Ok x) e P is p = absurd is
handed_on (Err y) e P is p = subst (λ x. P (Err x)) (sym is) p
