-- Bytes within a symbol, and bytes that complete one.
use Rattle.std.proofs.Common.{◌≡◌, ℕ, ◌+◌, ◌-◌, ◌*◌, ◌/◌, ◌%◌, ◌<◌, ◌≤◌, inl, inr, Bool, true, false, cond, List, [], ◌++◌, length, take, map, refl, sym, ap, ap₂, ◌∙◌, subst, arith, length-append, length-take-le, ◌⊎◌}
use Rattle.std.specs.Prelude.{min}
use Rattle.spec_words.specs.Words.{numbers}
use Rattle.mode_set.specs.StreamTable.{carriers, need}
use Rattle.std.proofs.lemmas.Bool.{cases_lt}
use Rattle.std.proofs.lemmas.List.{drop_all}
use Rattle.mode_set.specs.Rows.{IsModeRow}
use Rattle.mode_set.specs.declared.modes.Mode.{Mode}
use Rattle.mode_set.specs.declared.modes.Mode.TheVariants.{M2k, M8k}
use Rattle.mode_set.specs.declared.modes.Stream.{Stream}
use Rattle.mode_set.specs.declared.settings.Settings.{Settings}
use Rattle.pilots.specs.Carriers.{tps_carriers}
use Rattle.qam_map.specs.declared.cell.Cell.{Cell}
use Rattle.frame_build.specs.Symbol.{cells_from, weights_from}
use Rattle.qam_map.specs.Cells.{cell_of}
use Rattle.inner_chain.specs.PairLists.{pair_of}
use Rattle.reception.specs.Cells.{symbols, tail, symbol_length, bytes_of_symbol, symbol_cells, symbol_weights}
use Rattle.symbol_parameters.specs.Spans.{settings_at}
use Rattle.reception.specs.Costs.{symbol_costs}
use Rattle.reception.specs.Frames.{tps_cells}
use Rattle.reception.specs.Feeds.{taken}
use Rattle.reception.specs.Laws.{IsWithin, EndsSymbol, unfinished, TailIsUnfinished, EndedSymbol}

pub still_unfinished : (rest piece new : List ℕ) (n k : ℕ) → length rest < 5 * k → n ≡ min (length piece) (5 * k - length rest) → new ≡ rest ++ take n piece → (length new ≡ 5 * k → ⊥) → length new < 5 * k
still_unfinished rest piece new n k l count is none = go (cases_lt (length new) (5 * k))
  where
    long : length new ≡ length rest + n
    long = ap length is ∙ length-append rest (take n piece) ∙ ap (λ z. length rest + z) (length-take-le n piece (omega (arith, count)))

    go : (length new < 5 * k) ⊎ (5 * k ≤ length new) → length new < 5 * k
    go (inl s) = s
    go (inr s) = absurd (none (omega (arith, s, long, count, l)))

-- the unfinished bytes are the tail
tail_is : TailIsUnfinished → (s : Settings) (bytes rest : List ℕ) → rest ≡ unfinished s bytes → tail s bytes ≡ length rest
tail_is law s bytes rest h = sym (law s bytes) ∙ ap length (sym h)

pub taken_is : TailIsUnfinished → (s : Settings) (bytes rest piece : List ℕ) (n k : ℕ) → rest ≡ unfinished s bytes → k ≡ carriers s.mode → n ≡ min (length piece) (5 * k - length rest) → n ≡ taken s bytes piece
taken_is law s bytes rest piece n k h e count = count ∙ ap₂ (λ (a b : ℕ). min (length piece) (5 * a - b)) e (sym (tail_is law s bytes rest h))

more_tail : TailIsUnfinished → (s : Settings) (bytes rest piece new : List ℕ) (n : ℕ) → rest ≡ unfinished s bytes → new ≡ rest ++ take n piece → tail s bytes + length (take n piece) ≡ length new
more_tail law s bytes rest piece new n h is = ap (λ z. z + length (take n piece)) (tail_is law s bytes rest h) ∙ sym (length-append rest (take n piece)) ∙ ap length (sym is)

pub within_is : TailIsUnfinished → (s : Settings) (bytes rest piece new : List ℕ) (n k : ℕ) → rest ≡ unfinished s bytes → k ≡ carriers s.mode → new ≡ rest ++ take n piece → length new < 5 * k → IsWithin s bytes (take n piece)
within_is law s bytes rest piece new n k h e is l = subst (λ (z : ℕ). tail s bytes + length (take n piece) < 5 * z) e (omega (arith, l, more_tail law s bytes rest piece new n h is))

pub ends_is : TailIsUnfinished → (s : Settings) (bytes rest piece new : List ℕ) (n k : ℕ) → rest ≡ unfinished s bytes → k ≡ carriers s.mode → new ≡ rest ++ take n piece → length new ≡ 5 * k → EndsSymbol s bytes (take n piece)
ends_is law s bytes rest piece new n k h e is l = more_tail law s bytes rest piece new n h is ∙ l ∙ ap (λ (z : ℕ). 5 * z) e

-- the cells of the completed symbol, and their weights
pub ended_cells : EndedSymbol → (s : Settings) (bytes p new : List ℕ) (k : ℕ) → EndsSymbol s bytes p → new ≡ unfinished s bytes ++ p → k ≡ carriers s.mode → cells_from new k ≡ symbol_cells s (bytes ++ p) (symbols s bytes)
unfolding symbol_cells
ended_cells ended s bytes p new k ends r e = ap₂ cells_from (r ∙ sym (ended s bytes p ends).0) e

pub ended_weights : EndedSymbol → (s : Settings) (bytes p new : List ℕ) (k : ℕ) → EndsSymbol s bytes p → new ≡ unfinished s bytes ++ p → k ≡ carriers s.mode → weights_from new k ≡ symbol_weights s (bytes ++ p) (symbols s bytes)
unfolding symbol_weights
ended_weights ended s bytes p new k ends r e = ap₂ weights_from (r ∙ sym (ended s bytes p ends).0) e

-- the costs of the completed symbol, from its cells
pub ended_costs : EndedSymbol → (s : Settings) (bytes p : List ℕ) (cells : List Cell) (weights new : List ℕ) (count k : ℕ) (σ : Stream) → EndsSymbol s bytes p → new ≡ unfinished s bytes ++ p → cells ≡ cells_from new k → weights ≡ weights_from new k → k ≡ carriers s.mode → count ≡ symbols s bytes
    → map (pair_of (settings_at s count) cells weights (count % 68) σ) (numbers (need (settings_at s count) σ)) ≡ symbol_costs s (bytes ++ p) σ (symbols s bytes)
unfolding symbol_costs symbol_cells symbol_weights
ended_costs ended s bytes p cells weights new count k σ ends r c w e n =
    let same : cells ≡ cells_from (bytes_of_symbol s (bytes ++ p) (symbols s bytes)) (carriers s.mode) = c ∙ ap₂ cells_from (r ∙ sym (ended s bytes p ends).0) e in
    let weighed : weights ≡ weights_from (bytes_of_symbol s (bytes ++ p) (symbols s bytes)) (carriers s.mode) = w ∙ ap₂ weights_from (r ∙ sym (ended s bytes p ends).0) e in
    ap₂ (λ (z : List Cell) (m : ℕ). map (pair_of (settings_at s m) z weights (m % 68) σ) (numbers (need (settings_at s m) σ))) same n
    ∙ ap (λ (z : List ℕ). map (pair_of (settings_at s (symbols s bytes)) (cells_from (bytes_of_symbol s (bytes ++ p) (symbols s bytes)) (carriers s.mode)) z (symbols s bytes % 68) σ) (numbers (need (settings_at s (symbols s bytes)) σ))) weighed

pub ended_tps : EndedSymbol → (s : Settings) (bytes p : List ℕ) (cells : List Cell) (new : List ℕ) (k : ℕ) → EndsSymbol s bytes p → new ≡ unfinished s bytes ++ p → cells ≡ cells_from new k → k ≡ carriers s.mode
    → tps_cells s (bytes ++ p) (symbols s bytes) ≡ map (cell_of cells) (tps_carriers s.mode)
unfolding tps_cells symbol_cells
ended_tps ended s bytes p cells new k ends r c e =
    let same : cells ≡ cells_from (bytes_of_symbol s (bytes ++ p) (symbols s bytes)) (carriers s.mode) = c ∙ ap₂ cells_from (r ∙ sym (ended s bytes p ends).0) e in
    ap (λ (z : List Cell). map (cell_of z) (tps_carriers s.mode)) (sym same)

-- at the start
pub some_carriers : (mode : Mode) (k nmax nr blocks : ℕ) → IsModeRow mode k nmax nr blocks → 0 < 5 * k
some_carriers mode k nmax nr blocks (inl h) = omega (arith, h.1)
some_carriers mode k nmax nr blocks (inr h) = omega (arith, h.1)

pub no_symbols : (m : Mode) → 0 / (5 * carriers m) ≡ 0
no_symbols M2k = refl
no_symbols M8k = refl

pub nothing_unfinished : (s : Settings) → unfinished s [] ≡ []
nothing_unfinished s = drop_all (symbols s [] * symbol_length s) [] (omega arith)

-- the rest of a symbol, completed or not
pub rest_is_short : (whole : Bool) (input : List ℕ) (k : ℕ) → 0 < 5 * k → (whole ≡ false → length input < 5 * k) → length (cond whole [] input) < 5 * k
rest_is_short true input k some l = omega (arith, some)
rest_is_short false input k some l = l refl
