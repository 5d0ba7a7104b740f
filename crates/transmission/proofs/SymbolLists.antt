-- Symbols as lists of bytes, one after another.
use Rattle.std.proofs.Common.{◌≡◌, ℕ, zero, suc, ◌+◌, ◌-◌, ◌*◌, ◌/◌, ◌≤◌, List, [], ◌∷◌, ◌++◌, length, take, drop, refl, sym, ap, ◌∙◌, subst, arith, append_assoc, append-nil}
use Rattle.std.specs.Prelude.{flat_map}
use Rattle.std.specs.List.{range_with_len}
use Rattle.std.proofs.lemmas.List.{length-append, take-append-drop}
use Rattle.std.proofs.Math.Seq.{take-append_seam}
use Rattle.std.proofs.lemmas.List.Concat.{flat_map-append}
use Rattle.spec_words.specs.Words.{numbers}
use Rattle.spec_words.proofs.Counting.{numbers_end}
use Rattle.mode_set.specs.StreamTable.{carriers}
use Rattle.mode_set.specs.declared.modes.Mode.{Mode}
use Rattle.mode_set.specs.declared.settings.Settings.{Settings}
use Rattle.symbol_parameters.specs.Spans.{settings_at}
use Rattle.symbol_parameters.specs.Laws.{ModeStays}
use Rattle.qam_map.specs.declared.cell.Cell.{Cell}
use Rattle.frame_build.specs.Announcing.{announcing_bytes, announcing_cell}
use Rattle.frame_build.specs.Symbol.{cell_bytes, sent_bytes}
use Rattle.transmission.specs.Transmission.{Inputs, announced_at, tx_label, tx_cell, tx_symbol, first_symbols}
use Rattle.transmission.specs.Laws.{SymbolsAreCells, SymbolsAreLong, NoSymbol, OneSymbolMore, FrontOfSymbols, PartOfSymbols}

pub symbols_are_cells : ModeStays → SymbolsAreCells
unfolding tx_symbol tx_cell announcing_bytes
symbols_are_cells stays s inputs m = ap (λ (z : Mode). flat_map (λ k. sent_bytes (announcing_cell (settings_at s m) (announced_at s m) m (tx_label s inputs m) k)) (numbers (carriers z))) (stays s (m / 272))

five : (c : Cell) → length (sent_bytes c) ≡ 5
unfolding sent_bytes cell_bytes
five c = refl

all_long : (f : ℕ → List ℕ) (c a n : ℕ) → ((k : ℕ) → length (f k) ≡ c) → length (flat_map f (range_with_len a n)) ≡ c * n
all_long f c a zero each = omega arith
all_long f c a (suc n) each =
    let rest : length (flat_map f (range_with_len (a + 1) n)) ≡ c * n = all_long f c (a + 1) n each in
    let here : length (f a) ≡ c = each a in
    let both : length (f a ++ flat_map f (range_with_len (a + 1) n)) ≡ length (f a) + length (flat_map f (range_with_len (a + 1) n)) = length-append (f a) (flat_map f (range_with_len (a + 1) n)) in
    omega (arith, rest, here, both)

pub symbols_are_long : ModeStays → SymbolsAreLong
unfolding tx_symbol announcing_bytes numbers
symbols_are_long stays s inputs m =
    all_long (λ k. sent_bytes (announcing_cell (settings_at s m) (announced_at s m) m (tx_label s inputs m) k)) 5 0 (carriers (settings_at s m).mode) (λ k. five (announcing_cell (settings_at s m) (announced_at s m) m (tx_label s inputs m) k))
    ∙ ap (λ (z : Mode). 5 * carriers z) (stays s (m / 272))

pub no_symbol : NoSymbol
unfolding first_symbols numbers
no_symbol s inputs = refl

pub one_symbol_more : OneSymbolMore
unfolding first_symbols
one_symbol_more s inputs n =
    ap (flat_map (tx_symbol s inputs)) (numbers_end n)
    ∙ flat_map-append (tx_symbol s inputs) (numbers n) (n ∷ [])
    ∙ ap (λ (z : List ℕ). flat_map (tx_symbol s inputs) (numbers n) ++ z) (append-nil (tx_symbol s inputs n))

-- q begins with p
pub record Continues (p q : List ℕ) : Type 0 where
  pub rest : List ℕ
  pub is : q ≡ p ++ rest

continued : (p q more : List ℕ) → Continues p q → Continues p (q ++ more)
continued p q more c = record { rest = c.rest ++ more; is = ap (λ (z : List ℕ). z ++ more) c.is ∙ append_assoc p c.rest more }

-- a prefix can be written with `take`
front_of : (p q : List ℕ) → Continues p q → (k : ℕ) × (p ≡ take k q)
front_of p q c = (length p, sym (ap (take (length p)) c.is ∙ take-append_seam p c.rest))

more_symbols : (s : Settings) (inputs : Inputs) (m d : ℕ) → Continues (first_symbols s inputs m) (first_symbols s inputs (m + d))
more_symbols s inputs m zero = let same : m + 0 ≡ m = omega arith in record { rest = []; is = ap (first_symbols s inputs) same ∙ sym (append-nil (first_symbols s inputs m)) }
more_symbols s inputs m (suc d) =
    let next : m + suc d ≡ m + d + 1 = omega arith in
    subst (Continues (first_symbols s inputs m)) (sym (ap (first_symbols s inputs) next ∙ one_symbol_more s inputs (m + d)))
    (continued (first_symbols s inputs m) (first_symbols s inputs (m + d)) (tx_symbol s inputs (m + d)) (more_symbols s inputs m d))

more_to : (s : Settings) (inputs : Inputs) (m n : ℕ) → m ≤ n → Continues (first_symbols s inputs m) (first_symbols s inputs n)
more_to s inputs m n l =
    let same : m + (n - m) ≡ n = omega (arith, l) in
    subst (λ (z : ℕ). Continues (first_symbols s inputs m) (first_symbols s inputs z)) same (more_symbols s inputs m (n - m))

pub front_of_symbols : FrontOfSymbols
front_of_symbols s inputs m n l = front_of (first_symbols s inputs m) (first_symbols s inputs n) (more_to s inputs m n l)

pub part_of_symbols : PartOfSymbols
part_of_symbols s inputs m n j l = front_of (p ++ take j x) (first_symbols s inputs n) whole
  where
    p : List ℕ
    p = first_symbols s inputs m

    x : List ℕ
    x = tx_symbol s inputs m

    next : Continues (first_symbols s inputs (m + 1)) (first_symbols s inputs n)
    next = more_to s inputs (m + 1) n (omega (arith, l))

    whole : Continues (p ++ take j x) (first_symbols s inputs n)
    whole = record {
      rest = drop j x ++ next.rest;
      is =
          next.is
          ∙ ap (λ (z : List ℕ). z ++ next.rest) (one_symbol_more s inputs m ∙ ap (λ (z : List ℕ). p ++ z) (sym (take-append-drop j x)) ∙ sym (append_assoc p (take j x) (drop j x)))
          ∙ append_assoc (p ++ take j x) (drop j x) next.rest;
    }
