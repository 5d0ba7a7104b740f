-- Pairs made from the costs of sent bits favour the path.
use Rattle.std.proofs.Common.{◌≡◌, ℕ, ◌<◌, Bool, true, false, not, ◌||◌, List, ◌⊎◌, inl, inr, sym, ◌∙◌, subst₂}
use Rattle.code_paths.specs.declared.costs.CostPair.{CostPair}
use Rattle.code_paths.specs.Paths.{parity_x, parity_y}
use Rattle.code_paths.specs.Favoured.{Favours, Allows, SpeaksFor, PairHas}

-- a bit that costs less than the other
favoured : (b : Bool) (k : Bool → ℕ) → k b < k (not b) → Favours b (k false) (k true)
favoured true k h = h
favoured false k h = h

sent_favours : (b : Bool) (k : Bool → ℕ) (m n : ℕ) → k b < k (not b) → PairHas true k m n → Favours b m n
sent_favours b k m n h p = subst₂ (Favours b) (sym p.0) (sym p.1) (favoured b k h)

has_allows : (b s : Bool) (k : Bool → ℕ) (m n : ℕ) → k b < k (not b) → PairHas s k m n → Allows b m n
has_allows b true k m n h p = inl (sent_favours b k m n h p)
has_allows b false k m n h p = inr (p.0 ∙ sym p.1)

pub pair_speaks : (c : CostPair) (p : List Bool) (sx sy : Bool) (kx ky : Bool → ℕ) → (sx || sy) ≡ true → PairHas sx kx c.x0 c.x1 → PairHas sy ky c.y0 c.y1 → kx (parity_x p) < kx (not (parity_x p)) → ky (parity_y p) < ky (not (parity_y p)) → SpeaksFor c p
pair_speaks c p sx sy kx ky s hx hy fx fy = record {
  x = has_allows (parity_x p) sx kx c.x0 c.x1 fx hx;
  y = has_allows (parity_y p) sy ky c.y0 c.y1 fy hy;
  sent = go sx sy s hx hy;
}
  where
    go : (sx sy : Bool) → (sx || sy) ≡ true → PairHas sx kx c.x0 c.x1 → PairHas sy ky c.y0 c.y1 → Favours (parity_x p) c.x0 c.x1 ⊎ Favours (parity_y p) c.y0 c.y1
    go true sy s hx hy = inl (sent_favours (parity_x p) kx c.x0 c.x1 fx hx)
    go false true s hx hy = inr (sent_favours (parity_y p) ky c.y0 c.y1 fy hy)
    go false false s hx hy = absurd cc
