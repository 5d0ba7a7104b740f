-- After a place symbols are skipped, and then received.
use Rattle.std.proofs.Common.{◌≡◌, ◌≢◌, ℕ, ◌+◌, ◌<◌, ◌≤◌, ◌^◌, Bool, List, [], ◌++◌, ◌⊎◌, inl, inr, length, Result, Ok, refl, ◌∙◌, sym, subst, arith}
use Rattle.station_core.specs.Meaning.{Meaning}
use Rattle.mode_set.specs.declared.settings.Settings.{Settings}
use Rattle.reception.specs.Cells.{symbol_length, symbols, tail}
use Rattle.reception.specs.Laws.{EndsSymbol, IsWithin, OneSymbolMore, SameSymbols}
use Rattle.cmd_base.specs.declared.refusal.Refusal.{Refusal}
use Rattle.cmd_cells.specs.declared.run_error.RunError.{RunError}
use Rattle.cmd_cells.specs.Work.{Does, Written}
use Rattle.cmd_receive.specs.Working.{LiveGives, reception_work}
use Rattle.cmd_cells.specs.Work as works
use Rattle.tune_in.specs.OfBytes.{rest}
use Rattle.tune_in.specs.Places.{begin}
use Rattle.tune_in.specs.declared.frame.Found.{Found}
use Rattle.tune_search.proofs.Bytes.{more_rest, no_rest, no_rest_yet, rest_fewer, same_symbols}
use Rattle.cmd_tune.specs.Working.{IsBehind}
use Rattle.cmd_tune.proofs.Calls.{does_as, does_nothing}

module _ (standing : List ℕ → Written → Type 0) (a s : Settings) (two : Bool) (found : Found) (same : a.mode ≡ s.mode) where
  -- the reception has begun if nothing is left to be skipped
  pub begun : (bytes : List ℕ) (given : Written) → IsBehind standing a s two 0 found bytes given → begin found ≤ symbols s bytes
  begun bytes given is = elim is.counts [ inl e ↦ omega (arith, e) | inr p ↦ p.1 ]

  -- the reception may go on
  pub goes_on : (skip : ℕ) (bytes : List ℕ) (given : Written) → symbols s bytes < 2 ^ 32 → IsBehind standing a s two skip found bytes given → works.GoesOn (reception_work a two) standing
  goes_on skip bytes given few is = record {
    bytes = rest s bytes found;
    given = given;
    stands = is.stands;
    few = let e = same_symbols a s (rest s bytes found) same in let f = rest_fewer s found bytes in omega (arith, e, f, few);
  }

  -- a symbol is received
  pub received : SameSymbols → OneSymbolMore → (standing' : List ℕ → Written → Type 0) (a' : Settings) (two' : Bool) → a' ≡ a → two' ≡ two → (bytes piece : List ℕ) (given : Written) (m m' : Meaning) (result : Result (Unit {0}) RunError)
      → begin found ≤ symbols s bytes → symbols s bytes ≤ symbols s (bytes ++ piece)
      → works.Takes (reception_work a two) standing' (rest s bytes found) piece given m m' result
      → Does (IsBehind standing' a' s two' 0 found (bytes ++ piece)) (LiveGives a two (rest s (bytes ++ piece) found)) (λ r. ⊥) given m m' result
  received kept more standing' a' two' same_a same_two bytes piece given m m' result reached grown takes =
      let is : rest s (bytes ++ piece) found ≡ rest s bytes found ++ piece = more_rest s found bytes piece reached in
      does_as (standing' (rest s bytes found ++ piece)) (IsBehind standing' a' s two' 0 found (bytes ++ piece)) (LiveGives a two (rest s bytes found ++ piece)) (LiveGives a two (rest s (bytes ++ piece) found)) (λ (r : Refusal). (left : List ℕ) → ⊥) (λ (r : Refusal). ⊥) given m m' result
      (λ after stands gives. record {
        counts = inr (refl, omega (arith, reached, grown));
        stands = subst (λ (l : List ℕ). standing' l after) (sym is) stands;
        gives = subst (λ (x : Settings). LiveGives x two' (rest s (bytes ++ piece) found) after) (sym same_a) (subst (λ (b : Bool). LiveGives a b (rest s (bytes ++ piece) found) after) (sym same_two) (subst (λ (l : List ℕ). LiveGives a two l after) (sym is) gives));
      })
      (λ after gives. subst (λ (l : List ℕ). LiveGives a two l after) (sym is) gives) (λ r no. no []) takes

  -- a symbol is skipped, or a part of one at the end
  pub passed : SameSymbols → OneSymbolMore → (skip skip' : ℕ) (bytes piece : List ℕ) (given : Written) (m : Meaning) → tail s bytes ≡ 0 → length piece ≤ symbol_length s → 0 < skip
      → ((length piece ≡ symbol_length s) × (skip' + 1 ≡ skip)) ⊎ ((length piece ≢ symbol_length s) × (skip' ≡ skip))
      → IsBehind standing a s two skip found bytes given
      → Does (IsBehind standing a s two skip' found (bytes ++ piece)) (LiveGives a two (rest s (bytes ++ piece) found)) (λ r. ⊥) given m m (Ok tt)
  passed kept more skip skip' bytes piece given m whole fits some cases is =
      does_nothing (IsBehind standing a s two skip' found (bytes ++ piece)) (LiveGives a two (rest s (bytes ++ piece) found)) (λ (r : Refusal). ⊥) given m
      (record { counts = inl counts; stands = subst (λ (l : List ℕ). standing l given) rests is.stands; gives = gives }) gives
    where
      before : skip + symbols s bytes ≡ begin found
      before = elim is.counts [ inl e ↦ e | inr p ↦ absurd (omega (arith, some, p.0)) ]

      rests : rest s bytes found ≡ rest s (bytes ++ piece) found
      rests = no_rest s found bytes (omega (arith, before, some)) ∙ sym (no_rest_yet s found bytes piece whole (omega (arith, before, some)) fits)

      gives : LiveGives a two (rest s (bytes ++ piece) found) given
      gives = subst (λ (l : List ℕ). LiveGives a two l given) rests is.gives

      counts : skip' + symbols s (bytes ++ piece) ≡ begin found
      counts = elim cases [
        | inl p ↦
            let ends : EndsSymbol s bytes piece = omega (arith, whole, p.0) in
            omega (arith, (more s bytes piece ends).0, before, p.1)
        | inr p ↦
            let within : IsWithin s bytes piece = omega (arith, whole, fits, p.0) in
            omega (arith, kept s bytes piece within, before, p.1)
      ]
