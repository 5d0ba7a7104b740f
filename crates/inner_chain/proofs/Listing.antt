-- Pairs with the same costs are the same, and so are lists of them.
use Rattle.std.proofs.Common.{◌≡◌, ℕ, ◌+◌, ◌<◌, List, ◌++◌, length, map, get_or, sym, ap, ◌∙◌, subst, arith}
use Rattle.std.specs.List.{range_with_len}
use Rattle.std.proofs.Math.Bridge.{le_prop}
use Rattle.std.proofs.lemmas.List.{ext_get_or}
use Rattle.std.proofs.lemmas.List.FromFn.{length-map-range_with_len, get_or-map-range_with_len}
use Rattle.spec_words.specs.Words.{numbers}
use Rattle.code_paths.specs.Small.{IsSmall}
use Rattle.code_paths.specs.declared.costs.CostPair.{CostPair}
use Rattle.mode_set.specs.StreamTable.{need}
use Rattle.mode_set.specs.declared.modes.Stream.{Stream}
use Rattle.mode_set.specs.declared.settings.Settings.{Settings}
use Rattle.qam_map.specs.declared.cell.Cell.{Cell}
use Rattle.inner_chain.specs.CostPairs.{IsPairOf}
use Rattle.inner_chain.specs.PairLists.{pair_of, PairsAreListed}

same_bounds : (a b c d : ℕ) (p q : IsSmall a b c d) → p ≡ q
same_bounds a b c d p q = λ i. record { x0_small = le_prop p.x0_small q.x0_small i; x1_small = le_prop p.x1_small q.x1_small i; y0_small = le_prop p.y0_small q.y0_small i; y1_small = le_prop p.y1_small q.y1_small i }

abbrev IsThisPair : CostPair → ℕ → ℕ → ℕ → ℕ → Type 0
IsThisPair c a b x y = (q : IsSmall a b x y) → ◌≡◌ {A = CostPair} c (record { x0 = a; x1 = b; y0 = x; y1 = y; small = q })

same_pair : (c d : CostPair) → ◌≡◌ {A = ℕ × ℕ} (c.x0, c.x1) (d.x0, d.x1) → ◌≡◌ {A = ℕ × ℕ} (c.y0, c.y1) (d.y0, d.y1) → c ≡ d
same_pair c d ex ey =
    let own : IsThisPair c c.x0 c.x1 c.y0 c.y1 = λ q. ap (λ (z : IsSmall c.x0 c.x1 c.y0 c.y1). record { x0 = c.x0; x1 = c.x1; y0 = c.y0; y1 = c.y1; small = z }) (same_bounds c.x0 c.x1 c.y0 c.y1 c.small q) in
    let with_x : IsThisPair c d.x0 d.x1 c.y0 c.y1 = subst (λ (z : ℕ × ℕ). IsThisPair c z.0 z.1 c.y0 c.y1) ex own in
    let with_y : IsThisPair c d.x0 d.x1 d.y0 d.y1 = subst (λ (z : ℕ × ℕ). IsThisPair c d.x0 d.x1 z.0 z.1) ey with_x in
    with_y d.small

is_pair_of : (s : Settings) (cells : List Cell) (weights : List ℕ) (l : ℕ) (σ : Stream) (t : ℕ) (c : CostPair) → IsPairOf s cells weights l σ t c → c ≡ pair_of s cells weights l σ t
unfolding pair_of
is_pair_of s cells weights l σ t c p = same_pair c (pair_of s cells weights l σ t) p.x p.y

pub pairs_are_listed : PairsAreListed
unfolding numbers
pairs_are_listed s cells weights l σ old new a = a.is ∙ ap (λ (zs : List CostPair). old ++ zs) (ext_get_or d a.pairs all long each)
  where
    d : CostPair
    d = pair_of s cells weights l σ 0

    n : ℕ
    n = need s σ

    all : List CostPair
    all = map (pair_of s cells weights l σ) (range_with_len 0 n)

    long : length a.pairs ≡ length all
    long = a.long ∙ sym (length-map-range_with_len (pair_of s cells weights l σ) 0 n)

    each : (t : ℕ) → t < length a.pairs → get_or a.pairs t d ≡ get_or all t d
    each t m =
        let within : t < n = omega (arith, m, a.long) in
        let place : 0 + t ≡ t = omega arith in
        is_pair_of s cells weights l σ t (get_or a.pairs t d) (a.at t d within) ∙ sym (get_or-map-range_with_len (pair_of s cells weights l σ) 0 n t t d within place)
