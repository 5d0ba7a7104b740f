-- Places, symbol by symbol.
use Rattle.std.proofs.Common.{◌≡◌, ℕ, ◌+◌, ◌-◌, ◌<◌, ◌≤◌, Bool, inl, inr, ◌⊎◌, List, [], ◌∷◌, ◌++◌, length, refl, sym, ap, ◌∙◌, subst, arith}
use Rattle.std.specs.Prelude.{Some}
use Rattle.std.proofs.lemmas.Bool.{cases_lt}
use Rattle.std.proofs.lemmas.List.{get_or_push, get_or_append_left, length_push}
use Rattle.mode_set.specs.declared.modes.Mode.{Mode}
use Rattle.qam_map.specs.declared.cell.Cell.{Cell}
use Rattle.tps_word.specs.Vote.{tps_cells_of, bits_from}
use Rattle.tps_word.specs.declared.word.TpsWord.{TpsWord}
use Rattle.tune_in.specs.declared.frame.Found.{Found}
use Rattle.tune_in.specs.Places.{Announces, IsPlace, NoPlace, IsFound}
use Rattle.tune_in.specs.Tuning.{tps_of, TunerState, Keeps, StandsFor, Answers}
use Rattle.tune_in.proofs.Votes.{bits_agree, keeps_agree, whole_frame}

-- ---- lists of symbols

same_before : (mode : Mode) (symbols : List (List Cell)) (cells : List Cell) (m : ℕ) → m < length symbols → tps_of mode symbols m ≡ tps_of mode (symbols ++ cells ∷ []) m
unfolding tps_of
same_before mode symbols cells m l = ap (tps_cells_of mode) (sym (get_or_append_left symbols (cells ∷ []) [] m l))

this_one : (mode : Mode) (symbols : List (List Cell)) (cells : List Cell) → tps_of mode (symbols ++ cells ∷ []) (length symbols) ≡ tps_cells_of mode cells
unfolding tps_of
this_one mode symbols cells = ap (tps_cells_of mode) (get_or_push symbols cells [] (length symbols) refl)

-- ---- places

-- a place that ends before the last symbol was there before
place_before : (mode : Mode) (f g : ℕ → List Cell) (n i : ℕ) (w : TpsWord) → i + 68 ≤ n → ((m : ℕ) → m < n → f m ≡ g m) → IsPlace mode g (n + 1) i w → IsPlace mode f n i w
place_before mode f g n i w held same h = record { held = held; announces = subst (λ (b : List Bool). Announces mode b w) (sym (bits_agree f g n i held same)) h.announces }

-- if there was none, a place ends with the last symbol
place_ends : (mode : Mode) (f g : ℕ → List Cell) (n i : ℕ) (w : TpsWord) → ((m : ℕ) → m < n → f m ≡ g m) → NoPlace mode f n → IsPlace mode g (n + 1) i w → i + 68 ≡ n + 1
place_ends mode f g n i w same none h = go (cases_lt n (i + 68))
  where
    go : (n < i + 68) ⊎ (i + 68 ≤ n) → i + 68 ≡ n + 1
    go (inl l) = omega (arith, l, h.held)
    go (inr l) = absurd (none i w (place_before mode f g n i w l same h))

no_place : (mode : Mode) (t : TunerState) (f g : ℕ → List Cell) (n : ℕ) → ((m : ℕ) → m < n → f m ≡ g m) → NoPlace mode f n → Keeps mode t g (n + 1) → (length t.votes ≡ 67 → (w : TpsWord) → Announces mode t.votes w → ⊥) → NoPlace mode g (n + 1)
no_place mode t f g n same none keeps silent i w h =
    let ends : i + 68 ≡ n + 1 = place_ends mode f g n i w same none h in
    let full : length t.votes ≡ 67 = omega (arith, keeps.long, ends) in
    let at : i ≡ n + 1 - 68 = omega (arith, ends) in
    silent full w (subst (λ (b : List Bool). Announces mode b w) (ap (bits_from g) at ∙ sym (whole_frame mode t g (n + 1) full keeps)) h.announces)

a_place : (mode : Mode) (t : TunerState) (f g : ℕ → List Cell) (n : ℕ) (found : Found) → ((m : ℕ) → m < n → f m ≡ g m) → NoPlace mode f n → Keeps mode t g (n + 1) → length t.votes ≡ 67 → found.place ≡ n + 1 - 68 → Announces mode t.votes found.word → IsFound mode g (n + 1) found
a_place mode t f g n found same none keeps full at told = record {
  place = record {
    held = omega (arith, at, full, keeps.long);
    announces = subst (λ (b : List Bool). Announces mode b found.word) (whole_frame mode t g (n + 1) full keeps ∙ ap (bits_from g) (sym at)) told;
  };
  least = λ i w h. omega (arith, at, place_ends mode f g n i w same none h);
}

-- ---- one more symbol

pub keeps_more : (mode : Mode) (x y : TunerState) (cells : List Cell) (symbols : List (List Cell)) → ((shown : ℕ → List Cell) (n : ℕ) → shown n ≡ tps_cells_of mode cells → Keeps mode x shown n → Keeps mode y shown (n + 1))
    → StandsFor mode x symbols → Keeps mode y (tps_of mode (symbols ++ cells ∷ [])) (length symbols + 1)
keeps_more mode x y cells symbols takes h = takes (tps_of mode (symbols ++ cells ∷ [])) (length symbols) (this_one mode symbols cells)
    (keeps_agree mode x (tps_of mode symbols) (tps_of mode (symbols ++ cells ∷ [])) (length symbols) (same_before mode symbols cells) h.keeps)

pub answers_none : (mode : Mode) (x y : TunerState) (cells : List Cell) (symbols : List (List Cell)) → ((shown : ℕ → List Cell) (n : ℕ) → shown n ≡ tps_cells_of mode cells → Keeps mode x shown n → Keeps mode y shown (n + 1))
    → (length y.votes ≡ 67 → (w : TpsWord) → Announces mode y.votes w → ⊥) → StandsFor mode x symbols → StandsFor mode y (symbols ++ cells ∷ [])
answers_none mode x y cells symbols takes silent h =
    let long : length (symbols ++ cells ∷ []) ≡ length symbols + 1 = length_push symbols cells in
    let keeps = keeps_more mode x y cells symbols takes h in
    record {
      keeps = subst (Keeps mode y (tps_of mode (symbols ++ cells ∷ []))) (sym long) keeps;
      none = subst (NoPlace mode (tps_of mode (symbols ++ cells ∷ []))) (sym long) (no_place mode y (tps_of mode symbols) (tps_of mode (symbols ++ cells ∷ [])) (length symbols) (same_before mode symbols cells) h.none keeps silent);
    }

pub answers_some : (mode : Mode) (x y : TunerState) (cells : List Cell) (symbols : List (List Cell)) (found : Found) → ((shown : ℕ → List Cell) (n : ℕ) → shown n ≡ tps_cells_of mode cells → Keeps mode x shown n → Keeps mode y shown (n + 1))
    → length y.votes ≡ 67 → found.place ≡ y.symbols - 68 → Announces mode y.votes found.word → StandsFor mode x symbols → Answers mode (symbols ++ cells ∷ []) (Some found)
answers_some mode x y cells symbols found takes full at told h =
    let long : length (symbols ++ cells ∷ []) ≡ length symbols + 1 = length_push symbols cells in
    let keeps = keeps_more mode x y cells symbols takes h in
    let place : found.place ≡ length symbols + 1 - 68 = at ∙ ap (λ z. z - 68) keeps.number in (
      subst (λ z. IsFound mode (tps_of mode (symbols ++ cells ∷ [])) z found) (sym long) (a_place mode y (tps_of mode symbols) (tps_of mode (symbols ++ cells ∷ [])) (length symbols) found (same_before mode symbols cells) h.none keeps full place told),
      omega (arith, long, place, full, keeps.long),
    )
