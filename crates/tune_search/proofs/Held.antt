-- A place in the first bytes is the place within the limit.
use Rattle.std.proofs.Common.{◌≡◌, ℕ, ◌*◌, ◌%◌, ◌<◌, ◌≤◌, Bool, List, [], ◌++◌, Option, Some, None, refl, ◌∙◌, sym, ap, subst, arith}
use Rattle.std.proofs.Math.Nat.{div-eq_of_lt}
use Rattle.mode_set.specs.StreamTable.{carriers}
use Rattle.mode_set.specs.declared.modes.Mode.{Mode}
use Rattle.mode_set.specs.declared.modes.Mode.TheVariants.{M2k, M8k}
use Rattle.mode_set.specs.declared.settings.Settings.{Settings}
use Rattle.reception.specs.Cells.{symbol_length, symbols, tail}
use Rattle.reception.specs.Frames.{tps_cells}
use Rattle.reception.specs.Laws.{IsWithin, SameSymbols, TpsCellsStay}
use Rattle.tune_in.specs.OfBytes.{FoundStaysInBytes, HasNoPlace, IsFoundIn}
use Rattle.tune_in.specs.Places.{Announces}
use Rattle.tune_in.specs.declared.frame.Found.{Found}
use Rattle.tune_in.specs.LeastPlace.{HoldsNone, HoldsPlace, Searches, held, place_of}
use Rattle.tune_in.proofs.Votes.{bits_agree}
use Rattle.tune_search.proofs.Bytes.{symbols_grow}

pub some_bytes : (s : Settings) → 0 < symbol_length s
some_bytes s = go s.mode
  where
    go : (m : Mode) → 0 < 5 * carriers m
    go M2k = omega arith
    go M8k = omega arith

-- no bytes hold no place
pub symbols_none : (s : Settings) → symbols s [] ≡ 0
symbols_none s = div-eq_of_lt {n = 0} {m = symbol_length s} (some_bytes s)

pub tail_none : (s : Settings) → tail s [] ≡ 0
tail_none s = go s.mode
  where
    go : (m : Mode) → 0 % (5 * carriers m) ≡ 0
    go M2k = omega arith
    go M8k = omega arith

pub no_place : (s : Settings) → HasNoPlace s []
no_place s i fields p = let none = symbols_none s in absurd (omega (arith, p.held, none))

-- bytes that end no symbol make no place
pub none_more : SameSymbols → TpsCellsStay → (s : Settings) (bytes more : List ℕ) → IsWithin s bytes more → HasNoPlace s bytes → HasNoPlace s (bytes ++ more)
none_more same tps s bytes more within none i fields p =
    let count = same s bytes more within in
    none i fields (record {
      held = omega (arith, p.held, count);
      announces = subst (λ (b : List Bool). Announces s.mode b fields)
          (bits_agree (tps_cells s (bytes ++ more)) (tps_cells s bytes) (symbols s bytes) i (omega (arith, p.held, count)) (λ m l. tps s bytes more m l)) p.announces;
    })

module _ (stays : FoundStaysInBytes) (tps : TpsCellsStay) (s : Settings) (bytes : List ℕ) where
  held_few : held s bytes ≤ symbols s bytes
  held_few = omega arith

  held_at : (n : ℕ) → n ≤ symbols s bytes → n ≤ s.max_symbols → n ≤ held s bytes
  held_at n a b = omega (arith, a, b)

  -- a place in the first bytes is the place within the limit
  pub held_place : (taken left : List ℕ) (found : Found) → bytes ≡ taken ++ left → symbols s taken ≤ s.max_symbols → IsFoundIn s taken found → HoldsPlace s bytes found
  held_place taken left found are few is =
      let long : symbols s taken ≤ symbols s bytes = subst (λ (l : List ℕ). symbols s taken ≤ symbols s l) (sym are) (symbols_grow s taken left) in
      let all : IsFoundIn s bytes found = subst (λ (l : List ℕ). IsFoundIn s l found) (sym are) (stays s taken left found is) in
      let within = held_at (symbols s taken) long few in
      record {
        place = record { held = omega (arith, is.place.held, within); announces = all.place.announces };
        least = λ i fields p. all.least i fields (record { held = omega (arith, p.held, held_few); announces = p.announces });
      }

  -- if the first bytes have all symbols within the limit and no place, there is none within it
  pub held_none : (taken left : List ℕ) → bytes ≡ taken ++ left → held s bytes ≤ symbols s taken → HasNoPlace s taken → HoldsNone s bytes
  held_none taken left are long none i fields p =
      none i fields (record {
        held = omega (arith, p.held, long);
        announces = subst (λ (b : List Bool). Announces s.mode b fields)
            (bits_agree (tps_cells s bytes) (tps_cells s taken) (symbols s taken) i (omega (arith, p.held, long)) same) p.announces;
      })
    where
      same : (m : ℕ) → m < symbols s taken → tps_cells s bytes m ≡ tps_cells s taken m
      same m l = ap (λ (l : List ℕ). tps_cells s l m) are ∙ tps s taken left m l

  -- and the function finds none
  pub finds_none : Searches s bytes → HoldsNone s bytes → place_of s bytes ≡ None
  finds_none searches none = go (place_of s bytes) refl
    where
      go : (o : Option Found) → place_of s bytes ≡ o → place_of s bytes ≡ None
      go None is = is
      go (Some found) is = let h = searches.found found is in absurd (none found.place found.word h.place)
