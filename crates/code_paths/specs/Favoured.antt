-- Costs that favour one path, such as the costs of received bits at low noise.
use Rattle.std.specs.Prelude.{◌≡◌, ℕ, ◌<◌, Bool, true, false, not, ◌||◌, cond, List, [], ◌∷◌, drop, ◌⊎◌, ⊤}
use Rattle.std.specs.declared.option.Option.TheVariants.{Some}
use Rattle.code_paths.specs.declared.costs.CostPair.{CostPair}
use Rattle.code_paths.specs.Paths.{parity_x, parity_y, IsPath}
use Rattle.code_paths.specs.Streams.{IsPrefix, Given, Ended}

-- of the costs of bit values 0 and 1, that of b is the lower
abbrev pub Favours : Bool → ℕ → ℕ → Type 0
Favours b zero_cost one_cost = cond b one_cost zero_cost < cond b zero_cost one_cost

-- the sent value of a bit costs less, or both values cost the same because the bit is punctured
abbrev pub Allows : Bool → ℕ → ℕ → Type 0
Allows b zero_cost one_cost = Favours b zero_cost one_cost ⊎ (zero_cost ≡ one_cost)

-- the costs of a step favour this path; X or Y is sent
pub record SpeaksFor (c : CostPair) (p : List Bool) : Type 0 where
  pub x : Allows (parity_x p) c.x0 c.x1
  pub y : Allows (parity_y p) c.y0 c.y1
  pub sent : Favours (parity_x p) c.x0 c.x1 ⊎ Favours (parity_y p) c.y0 c.y1

-- the costs of all steps favour it
abbrev pub SpeakFor : List CostPair → List Bool → Type 0
SpeakFor [] p = ⊤
SpeakFor (c ∷ cs) p = SpeaksFor c p × SpeakFor cs (drop 1 p)

-- p was sent from register r, and the costs favour it
pub record IsShown (r : List Bool) (c : List CostPair) (p : List Bool) : Type 0 where
  pub path : IsPath (Some r) c p
  pub speak : SpeakFor c p

-- From such costs only sent bits are given, whatever is reported, and all of them at the end.
pub record KeepsSent (most : ℕ) : Type 0 where
  pub given : (r p bits : List Bool) (c : List CostPair) → IsShown r c p → Given most (Some r) c bits
      → IsPrefix bits (drop 6 p)
  pub ended : (r p bits : List Bool) (c : List CostPair) → IsShown r c p → Ended most (Some r) c bits → bits ≡ drop 6 p

-- the costs of X or of Y: those of a sent bit, or 0 for a punctured bit
abbrev pub PairHas : Bool → (Bool → ℕ) → ℕ → ℕ → Type 0
PairHas is_sent k zero_cost one_cost = (zero_cost ≡ cond is_sent (k false) 0) × (one_cost ≡ cond is_sent (k true) 0)

-- If X or Y of a step is sent, and the path's own value of each sent bit costs less than the other value, the pair
-- favours the path.
abbrev pub PairsSpeak : Type 0
PairsSpeak = (c : CostPair) (p : List Bool) (sx sy : Bool) (kx ky : Bool → ℕ) → (sx || sy) ≡ true
    → PairHas sx kx c.x0 c.x1 → PairHas sy ky c.y0 c.y1 → kx (parity_x p) < kx (not (parity_x p))
    → ky (parity_y p) < ky (not (parity_y p)) → SpeaksFor c p
