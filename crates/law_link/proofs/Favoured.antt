-- The costs of each step favour the path sent.
use Rattle.std.proofs.Common.{◌≡◌, ℕ, ◌+◌, ◌%◌, ◌<◌, ◌≤◌, ◌⊎◌, inl, inr, List, refl, sym, ◌∙◌, subst, Bool, true, false, cond, not, ◌||◌}
use Rattle.std.specs.Prelude.{IsTrue, Option, Some, None}
use Rattle.mode_set.specs.StreamTable.{coded, need, payload, rate, has_stream}
use Rattle.mode_set.specs.Laws.{SymbolsHaveWholePeriods}
use Rattle.mode_set.specs.declared.modes.Mode.{Mode}
use Rattle.mode_set.specs.declared.modes.Rate.{Rate}
use Rattle.mode_set.specs.declared.modes.Stream.{Stream}
use Rattle.mode_set.specs.declared.settings.Settings.{Settings}
use Rattle.code_paths.specs.Paths.{parity_x, parity_y}
use Rattle.code_paths.specs.Favoured.{Favours, Allows, SpeaksFor}
use Rattle.puncture.specs.SentBits.{X, Y, window, sent_bit}
use Rattle.puncture.specs.Steps.{is_sent, number_of, sent_before, costs_at}
use Rattle.puncture.specs.Laws.{StepsSendInOrder, StepsAreNumbered}
use Rattle.bit_interleave.specs.Place.{place_in_label, word_of_bit, IsSent, EachBitIsFound}
use Rattle.symbol_interleave.specs.Carried.{is_odd, HIsAPermutation, PlacesAndWordsAgree}
use Rattle.qam_map.specs.Points.{on_axis}
use Rattle.soft_metric.specs.Costs.{cost, NearPointsFavourTheirBits}
use Rattle.soft_metric.specs.Weights.{weighted, WeightsTellApart}
use Rattle.inner_chain.specs.CostPairs.{payload_place, costs_of_bit}
use Rattle.inner_chain.specs.PairLists.{pair_of}
use Rattle.symbol_parameters.specs.Spans.{settings_at}
use Rattle.symbol_parameters.specs.Laws.{ModeStays}
use Rattle.transmission.specs.Transmission.{Inputs, paths_at}
use Rattle.transmission.specs.SuperFrames.{symbols_of}
use Rattle.reception.specs.Cells.{symbol_cells, symbol_weights}
use Rattle.law_link.specs.Returned.{IsWithin}
use Rattle.law_link.specs.Counted.{AreCounted}
use Rattle.law_link.proofs.Cells.{cell_on, weight_on, label_favoured, some_weight, costs_are}
use Rattle.law_link.proofs.Places.{IsPlaced, placed, place_within, label_is}
use Rattle.law_link.proofs.Steps.{AreParities, AreWithin, numbers_within, parities}

-- the known facts on the layers below
pub record AreKnown : Type 0 where
  pub counts : (m : Mode) (l : ℕ) → AreCounted m l
  pub permutation : HIsAPermutation
  pub agree : PlacesAndWordsAgree
  pub found : EachBitIsFound
  pub favour : NearPointsFavourTheirBits
  pub apart : WeightsTellApart
  pub order : StepsSendInOrder
  pub numbers : StepsAreNumbered
  pub stays : ModeStays
  pub periods : SymbolsHaveWholePeriods

-- ---- a coded bit
favours_of : WeightsTellApart → (b : Bool) (k : Bool → ℕ) (w : ℕ) (c : ℕ × ℕ) → c ≡ weighted (k false, k true) w → k b + 15 ≤ k (not b) → 1 ≤ w → Favours b c.0 c.1
favours_of apart true k w c e l some = subst (λ (z : ℕ × ℕ). z.1 < z.0) (sym e) (apart (k true) (k false) w l some)
favours_of apart false k w c e l some = subst (λ (z : ℕ × ℕ). z.0 < z.1) (sym e) (apart (k false) (k true) w l some)

pub bit_favoured : AreKnown → (s : Settings) (inputs : Inputs) (bytes : List ℕ) (m : ℕ) (σ : Stream) (d : ℕ) → IsWithin s inputs bytes → m < symbols_of s inputs → IsTrue (has_stream (settings_at s m).hierarchy σ) → d < coded (settings_at s m) σ
    → let c = costs_of_bit (settings_at s m) (symbol_cells s bytes m) (symbol_weights s bytes m) (m % 68) σ d in Favours (sent_bit (rate (settings_at s m) σ) (paths_at s inputs m σ) d) c.0 c.1
bit_favoured known s inputs bytes m σ d w l exists few =
    favours_of known.apart (sent_bit (rate z σ) (paths_at s inputs m σ) d) k (weight_on s bytes m q) (costs_of_bit z (symbol_cells s bytes m) (symbol_weights s bytes m) (m % 68) σ d) (costs_are s bytes m q e)
    (subst (λ (b : Bool). k b + 15 ≤ k (not b)) (label_is known.found known.agree s inputs m σ d sent few p)
    (label_favoured known.favour known.stays s inputs bytes m q e w l (known.counts z.mode (m % 68)) placed_within p.place))
    (some_weight known.stays s inputs bytes m q w l (known.counts z.mode (m % 68)) placed_within)
  where
    z : Settings
    z = settings_at s m

    sent : IsSent z.shape z.hierarchy σ
    sent = record { qpsk = z.kept.qpsk; exists = exists }

    p : IsPlaced z.shape z.hierarchy σ z.mode d
    p = placed z.shape z.hierarchy σ z.mode d sent few

    q : ℕ
    q = payload_place z (m % 68) σ d

    e : ℕ
    e = place_in_label z.shape z.hierarchy σ d

    placed_within : q < payload z.mode
    placed_within = place_within known.permutation z.mode (is_odd (m % 68)) (word_of_bit z.shape z.hierarchy σ d) known.agree p.word

    k : Bool → ℕ
    k b = cost z.shape z.hierarchy (on_axis (cell_on s bytes m q) e) e b

-- ---- a step a sent bit is favoured, and a punctured one costs 0
allows_of : (f : ℕ → ℕ × ℕ) (o : Option ℕ) (sent : Bool) (n : ℕ) (b : Bool) → o ≡ cond sent (Some n) None → (sent ≡ true → Favours b (f n).0 (f n).1) → Allows b (costs_at f o).0 (costs_at f o).1
allows_of f o true n b e h = inl (subst (λ (z : Option ℕ). Favours b (costs_at f z).0 (costs_at f z).1) (sym e) (h refl))
allows_of f o false n b e h = inr (subst (λ (z : Option ℕ). (costs_at f z).0 ≡ (costs_at f z).1) (sym e) refl)

one_sent : (f : ℕ → ℕ × ℕ) (ox oy : Option ℕ) (sx sy : Bool) (i j : ℕ) (x y : Bool) → (sx || sy) ≡ true → ox ≡ cond sx (Some i) None → oy ≡ cond sy (Some j) None
    → (sx ≡ true → Favours x (f i).0 (f i).1) → (sy ≡ true → Favours y (f j).0 (f j).1)
    → Favours x (costs_at f ox).0 (costs_at f ox).1 ⊎ Favours y (costs_at f oy).0 (costs_at f oy).1
one_sent f ox oy true sy i j x y some ex ey hx hy = inl (subst (λ (z : Option ℕ). Favours x (costs_at f z).0 (costs_at f z).1) (sym ex) (hx refl))
one_sent f ox oy false true i j x y some ex ey hx hy = inr (subst (λ (z : Option ℕ). Favours y (costs_at f z).0 (costs_at f z).1) (sym ey) (hy refl))
one_sent f ox oy false false i j x y some ex ey hx hy = absurd (cc)

-- the costs of step t of symbol m favour a path with the bits sent there
pub step_speaks : AreKnown → (s : Settings) (inputs : Inputs) (bytes : List ℕ) (m t : ℕ) (σ : Stream) (p : List Bool) → IsWithin s inputs bytes → m < symbols_of s inputs → IsTrue (has_stream (settings_at s m).hierarchy σ) → t < need (settings_at s m) σ
    → parity_x p ≡ parity_x (window (paths_at s inputs m σ) t) → parity_y p ≡ parity_y (window (paths_at s inputs m σ) t) → SpeaksFor (pair_of (settings_at s m) (symbol_cells s bytes m) (symbol_weights s bytes m) (m % 68) σ t) p
unfolding pair_of
step_speaks known s inputs bytes m t σ p w l exists few px py = record {
  x = allows_of f ox sx n (parity_x p) (known.numbers r t).x x_favoured;
  y = allows_of f oy sy (n + cond sx 1 0) (parity_y p) (known.numbers r t).y y_favoured;
  sent = one_sent f ox oy sx sy n (n + cond sx 1 0) (parity_x p) (parity_y p) (known.numbers r t).some (known.numbers r t).x (known.numbers r t).y x_favoured y_favoured;
}
  where
    z : Settings
    z = settings_at s m

    r : Rate
    r = rate z σ

    n : ℕ
    n = sent_before r t

    sx : Bool
    sx = is_sent r X t

    sy : Bool
    sy = is_sent r Y t

    f : ℕ → ℕ × ℕ
    f = costs_of_bit z (symbol_cells s bytes m) (symbol_weights s bytes m) (m % 68) σ

    ox : Option ℕ
    ox = number_of r X t

    oy : Option ℕ
    oy = number_of r Y t

    within : AreWithin sx sy n (coded z σ)
    within = numbers_within known.numbers known.periods z σ t few

    same : AreParities r (paths_at s inputs m σ) t sx sy n
    same = parities known.order known.numbers r (paths_at s inputs m σ) t

    x_favoured : sx ≡ true → Favours (parity_x p) (f n).0 (f n).1
    x_favoured e = subst (λ (b : Bool). Favours b (f n).0 (f n).1) (same.x e ∙ sym px) (bit_favoured known s inputs bytes m σ n w l exists (within.x e))

    y_favoured : sy ≡ true → Favours (parity_y p) (f (n + cond sx 1 0)).0 (f (n + cond sx 1 0)).1
    y_favoured e =
        subst (λ (b : Bool). Favours b (f (n + cond sx 1 0)).0 (f (n + cond sx 1 0)).1) (same.y e ∙ sym py)
        (bit_favoured known s inputs bytes m σ (n + cond sx 1 0) w l exists (within.y e))
