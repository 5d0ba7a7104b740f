use Rattle.std.proofs.Common.{◌<◌, ◌≡◌, ℕ, List, length, sym, subst, ◌∙◌}
use Rattle.symbol_interleave.specs.Carried.{h, IsPermutationBelow}
use Rattle.symbol_interleave.proofs.Marks.{few, permutes}
use Rattle.symbol_interleave.proofs.permutation.Permutation.new.Goals as goal

pub inverse-requires-clause-permutation : goal.inverse-requires-clause-permutation
inverse-requires-clause-permutation g c =
    let is : c.deref.result.now ≡ h g.M.Carriers.MODE = c.deref.ensures.value ∙ c.in_ok-places.ensures in
    subst (λ (zs : List ℕ). IsPermutationBelow (length zs) zs) (sym is) (permutes g.M.Carriers.MODE)

pub inverse-requires-clause-few : goal.inverse-requires-clause-few
inverse-requires-clause-few g c =
    let is : c.deref.result.now ≡ h g.M.Carriers.MODE = c.deref.ensures.value ∙ c.in_ok-places.ensures in
    subst (λ (zs : List ℕ). length zs < 65536) (sym is) (few g.M.Carriers.MODE)
