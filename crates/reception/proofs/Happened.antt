-- The events of one more symbol.
use Rattle.std.proofs.Common.{◌≡◌, ℕ, suc, ◌+◌, ◌<◌, ◌≤◌, Bool, true, false, refl, List, ◌++◌, length, map, sym, ap, ap₂, ◌∙◌, subst, arith, length-append, append-nil}
use Rattle.std.specs.Prelude.{◌&&◌, nat_lt, nat_le, filter, flat_map, All}
use Rattle.std.proofs.lemmas.Bool.{lt-ltb, le-ltb, lt-leb, le-leb}
use Rattle.std.proofs.lemmas.List.Elements.{All-weaker, filter-append}
use Rattle.spec_words.specs.Words.{numbers}
use Rattle.code_paths.specs.Laws.{ReportsOnce}
use Rattle.code_paths.specs.Streams.{Reports}
use Rattle.mode_set.specs.declared.modes.Stream.{Stream}
use Rattle.mode_set.specs.declared.modes.Stream.TheVariants.{Hp, Lp}
use Rattle.symbol_parameters.specs.Spans.{steps_before}
use Rattle.reception.specs.Cells.{symbols}
use Rattle.reception.specs.Costs.{symbol_costs, costs}
use Rattle.reception.specs.Streams.{memory, start_of}
use Rattle.reception.specs.Lines.{event_at, events_of, events}
use Rattle.reception.specs.Laws.{NextEvents, NoEvents}
use Rattle.reception.proofs.Numbered.{parts_end, no_parts, same_parts, none_pass, all_pass}
use Rattle.reception.proofs.CostLists.{AreSteps, costs_are_steps, next_costs}
use Rattle.reception.proofs.Symbols.{one_symbol_more}
use Rattle.reception.proofs.Reported.{IsBetween, reports_are_steps, new_reports_are_later}

-- whether a step, counted from 1, is in symbol m; `first` gives the number of steps before a symbol
abbrev pub in_symbol : (ℕ → ℕ) → ℕ → ℕ → Bool
in_symbol first m at = nat_lt (first m) at && nat_le at (first (m + 1))

no_and : (b c : Bool) → c ≡ false → (b && c) ≡ false
no_and true c e = e
no_and false c e = refl

-- a step after the symbol, one before it, and one in it
pub is_behind : (first : ℕ → ℕ) (m at : ℕ) → first (m + 1) < at → in_symbol first m at ≡ false
is_behind first m at l = no_and (nat_lt (first m) at) (nat_le at (first (m + 1))) (lt-leb at (first (m + 1)) l)

is_before : (first : ℕ → ℕ) (m at : ℕ) → at ≤ first m → in_symbol first m at ≡ false
is_before first m at l = ap (λ (b : Bool). b && nat_le at (first (m + 1))) (le-ltb (first m) at l)

is_here : (first : ℕ → ℕ) (m at : ℕ) → IsBetween (first m) (first (m + 1)) at → in_symbol first m at ≡ true
is_here first m at h = ap (λ (b : Bool). b && nat_le at (first (m + 1))) (lt-ltb (first m) at h.0) ∙ le-leb at (first (m + 1)) h.1

-- old reports are in old symbols, new ones in the new symbol
old_only : (first : ℕ → ℕ) (n m : ℕ) (rs us : List ℕ) → first (m + 1) ≤ first n → All (IsBetween (first n) (first (n + 1))) us → filter (in_symbol first m) (rs ++ us) ≡ filter (in_symbol first m) rs
old_only first n m rs us l h =
    filter-append (in_symbol first m) rs us
    ∙ ap (λ z. filter (in_symbol first m) rs ++ z) (none_pass (in_symbol first m) us (All-weaker (IsBetween (first n) (first (n + 1))) (λ at. in_symbol first m at ≡ false) (λ at k. is_behind first m at (omega (arith, l, k.0))) us h))
    ∙ append-nil (filter (in_symbol first m) rs)

new_only : (first : ℕ → ℕ) (n : ℕ) (rs us : List ℕ) → All (IsBetween 0 (first n)) rs → All (IsBetween (first n) (first (n + 1))) us → filter (in_symbol first n) (rs ++ us) ≡ us
new_only first n rs us g h =
    filter-append (in_symbol first n) rs us
    ∙ ap₂ (λ x y. x ++ y)
    (none_pass (in_symbol first n) rs (All-weaker (IsBetween 0 (first n)) (λ at. in_symbol first n at ≡ false) (λ at k. is_before first n at k.1) rs g))
    (all_pass (in_symbol first n) us (All-weaker (IsBetween (first n) (first (n + 1))) (λ at. in_symbol first n at ≡ true) (λ at k. is_here first n at k) us h))

pub no_events : NoEvents
unfolding events
no_events s reports = no_parts (λ m. events_of s reports m Hp ++ events_of s reports m Lp)

pub next_events : AreSteps → ReportsOnce → NextEvents
unfolding events
next_events steps once s bytes more before new ends r q =
    let n = symbols s bytes in
    let e : n + 1 ≡ suc n = omega arith in
    let both : Stream → List ℕ = λ σ. before σ ++ new σ in
    ap (λ k. flat_map (λ m. events_of s both m Hp ++ events_of s both m Lp) (numbers k)) e
    ∙ parts_end (λ m. events_of s both m Hp ++ events_of s both m Lp) n
    ∙ ap₂ (λ x y. x ++ y)
    (same_parts (λ m. events_of s both m Hp ++ events_of s both m Lp) (λ m. events_of s before m Hp ++ events_of s before m Lp) n (λ m l. ap₂ (λ x y. x ++ y) (old Hp m l) (old Lp m l)))
    (ap₂ (λ x y. x ++ y) (here Hp) (here Lp))
  where
    new_within : (σ : Stream) → All (IsBetween (steps_before s σ (symbols s bytes)) (steps_before s σ (symbols s bytes + 1))) (new σ)
    new_within σ =
        let c = costs s bytes σ in
        let x = symbol_costs s (bytes ++ more) σ (symbols s bytes) in
        let grown : costs s (bytes ++ more) σ ≡ c ++ x = next_costs s bytes more σ ends in
        let long : length c ≡ steps_before s σ (symbols s bytes) = costs_are_steps steps s bytes σ in
        let all : length c + length x ≡ steps_before s σ (symbols s bytes + 1) = sym (length-append c x) ∙ ap length (sym grown) ∙ costs_are_steps steps s (bytes ++ more) σ ∙ ap (steps_before s σ) (one_symbol_more s bytes more ends).0 in
        let later = new_reports_are_later once memory (start_of s.start) c x (before σ) (new σ) (r σ) (subst (λ z. Reports memory (start_of s.start) z (before σ ++ new σ)) grown (q σ)) in
        subst (λ k. All (IsBetween k (steps_before s σ (symbols s bytes + 1))) (new σ)) long (subst (λ k. All (IsBetween (length c) k) (new σ)) all later)

    old_within : (σ : Stream) → All (IsBetween 0 (steps_before s σ (symbols s bytes))) (before σ)
    old_within σ = subst (λ k. All (IsBetween 0 k) (before σ)) (costs_are_steps steps s bytes σ) (reports_are_steps memory (start_of s.start) (costs s bytes σ) (before σ) (r σ))

    old : (σ : Stream) (m : ℕ) → m < symbols s bytes → events_of s (λ σ. before σ ++ new σ) m σ ≡ events_of s before m σ
    old σ m l = ap (map (event_at σ)) (old_only (steps_before s σ) (symbols s bytes) m (before σ) (new σ) (steps.grow s σ (m + 1) (symbols s bytes) (omega (arith, l))) (new_within σ))

    here : (σ : Stream) → events_of s (λ σ. before σ ++ new σ) (symbols s bytes) σ ≡ map (event_at σ) (new σ)
    here σ = ap (map (event_at σ)) (new_only (steps_before s σ) (symbols s bytes) (before σ) (new σ) (old_within σ) (new_within σ))
