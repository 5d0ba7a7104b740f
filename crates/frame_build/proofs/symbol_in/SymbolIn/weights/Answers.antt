-- Each weight is at most 15.
use Rattle.std.proofs.Common.{◌≡◌, ℕ, ◌+◌, ◌*◌, ◌<◌, ◌≤◌, List, take, length, length-take, sym, ap, ◌∙◌, subst, arith, slice_index, get_or}
use Rattle.std.proofs.lemmas.List.FromFn.{get_or-map-range_with_len}
use Rattle.spec_words.specs.Words.{numbers}
use Rattle.frame_build.specs.Symbol.{weight_from, weights_from}
use Rattle.frame_build.proofs.symbol_in.SymbolIn.weights.Goals as goal

small : (bytes : List ℕ) (n k : ℕ) → k < n → slice_index (weights_from bytes n) k ≤ 15
unfolding weights_from weight_from numbers
small bytes n k l =
    let here : 0 + k ≡ k = omega arith in
    let is : get_or (weights_from bytes n) k 0 ≡ weight_from bytes k = get_or-map-range_with_len (weight_from bytes) 0 n k k 0 l here in
    omega (arith, is)

-- where all bytes were taken the symbol is whole
filled : (n : ℕ) (bytes : List ℕ) (whole : ℕ) → length bytes ≡ whole → n ≤ whole → length (take n bytes) ≡ whole → n ≡ whole
filled n bytes whole long within taken = omega (arith, long, within, taken, length-take n bytes)

pub returns-clause-small : goal.returns-clause-small
returns-clause-small g c = λ k l.
    let i = c.self.inside in
    let is : c.deref.result.now ≡ weights_from i.bytes.items g.M.Carriers.K = c.deref.ensures.value ∙ c.self.invariant.weighed (filled i.filled i.bytes.items (5 * g.M.Carriers.K) c.self.invariant.bytes_of c.self.invariant.within (ap length c.self.view_is ∙ c.requires)) in
    subst (λ (z : List ℕ). slice_index z k ≤ 15) (sym is) (small i.bytes.items g.M.Carriers.K k l)
