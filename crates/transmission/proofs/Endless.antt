-- Endless work is refused.
use Rattle.std.proofs.Common.{◌≡◌, ℕ, ◌+◌, ◌*◌, List, [], ◌∷◌, ◌++◌, sym, ap, ◌∙◌, subst, arith, Bool, true, false, cond, ◌⊎◌, inl, inr}
use Rattle.std.specs.Prelude.{Some, None, Option, find, flat_map, is_some, option_and_then, option_map, unwrap_or}
use Rattle.std.proofs.lemmas.Bool.{le-leb, true≢false, cases_Bool}
use Rattle.std.proofs.lemmas.List.Concat.{flat_map-append}
use Rattle.spec_words.specs.Words.{numbers}
use Rattle.spec_words.proofs.Counting.{numbers_end}
use Rattle.transmission.specs.Transmission.{Inputs}
use Rattle.transmission.specs.SuperFrames.{counts_of, super_frames, symbols_of}
use Rattle.transmission.specs.Agenda.{Item, ask_limit, send_symbol, Limit, takes, items_of, agenda, refusal, first_refusal}
use Rattle.transmission.specs.AgendaLaws.{EndlessIsRefused}
use Rattle.mode_set.specs.declared.modes.Stream.TheVariants.{Hp, Lp}
use Rattle.mode_set.specs.declared.settings.Settings.{Settings}

-- the last symbol due is the one before which the limit refuses
turns : (s : Settings) (inputs : Inputs) → super_frames s (counts_of inputs) ≡ None → symbols_of s inputs ≡ s.max_symbols + 1
unfolding symbols_of
turns s inputs e = ap (λ (o : Option ℕ). unwrap_or (option_map (λ n. 272 * n) o) (s.max_symbols + 1)) e

-- an item that passes is found, or an earlier one
pub record IsFound (p : Item → Bool) (xs : List Item) : Type 0 where
  pub item : Item
  pub is : find p xs ≡ Some item
  pub passes : p item ≡ true

found : (p : Item → Bool) (xs ys : List Item) (y : Item) → p y ≡ true → IsFound p (xs ++ y ∷ ys)
found p [] ys y e = record { item = y; is = ap (λ (b : Bool). cond b (Some y) (find p ys)) e; passes = e }
found p (x ∷ xs) ys y e = go (cases_Bool (p x)) (found p xs ys y e)
  where
    go : (p x ≡ true) ⊎ (p x ≡ false) → IsFound p (xs ++ y ∷ ys) → IsFound p (x ∷ xs ++ y ∷ ys)
    go (inl h) r = record { item = x; is = ap (λ (b : Bool). cond b (Some x) (find p (xs ++ y ∷ ys))) h; passes = h }
    go (inr h) r = record { item = r.item; is = ap (λ (b : Bool). cond b (Some x) (find p (xs ++ y ∷ ys))) h ∙ r.is; passes = r.passes }

asks_limit : (s : Settings) (inputs : Inputs) → super_frames s (counts_of inputs) ≡ None
    → (xs : List Item) × (ys : List Item) × (agenda s inputs ≡ xs ++ ask_limit s.max_symbols ∷ ys)
unfolding agenda items_of
asks_limit s inputs e =
    let most = s.max_symbols in (
      flat_map (items_of s) (numbers most),
      (takes s Hp most ++ takes s Lp most ++ send_symbol most ∷ []) ++ [],
      ap (λ (n : ℕ). flat_map (items_of s) (numbers n)) (turns s inputs e) ∙ ap (flat_map (items_of s)) (numbers_end most) ∙ flat_map-append (items_of s) (numbers most) (most ∷ []),
    )

pub endless_is_refused : EndlessIsRefused
unfolding first_refusal
endless_is_refused s most inputs e none =
    let p : Item → Bool = λ item. is_some (refusal s most inputs item) in
    let a = asks_limit s inputs e in
    let limit : p (ask_limit s.max_symbols) ≡ true = ap (λ (b : Bool). is_some (cond b (Some (Limit s.max_symbols)) None)) (le-leb s.max_symbols s.max_symbols (omega arith)) in
    let f : IsFound p (agenda s inputs) = subst (IsFound p) (sym a.2) (found p a.0 a.1 (ask_limit s.max_symbols) limit) in
    let gives : refusal s most inputs f.item ≡ None = sym (ap (option_and_then (refusal s most inputs)) f.is) ∙ none in
    true≢false (sym f.passes ∙ ap is_some gives)
