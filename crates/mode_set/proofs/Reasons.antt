-- The first reason that applies has its cause in the document.
use Rattle.std.proofs.Common.{◌≡◌, ℕ, Bool, true, false, List, [], ◌∷◌, Option, Some, None, IfSome, is_some, Result, Ok, Err, refl, sym, ap, ◌∙◌}
use Rattle.std.specs.Bool.{beq}
use Rattle.std.proofs.lemmas.Bool.{false≢true}
use Rattle.mode_set.specs.Values.{mode_words, shape_words, hierarchy_words, rate_words, guard_words, start_words, a_word, a_number}
use Rattle.std.specs.List.{AllByRecursion}
use Rattle.std.specs.Result.{result_err}
use Rattle.toml.specs.Data.{Data, Members}
use Rattle.mode_set.specs.AtKeys.{at, accepted, required, with_default, if_present, shape_in, hierarchy_in, rate_lp_in, hierarchy_clash, rate_lp_clash, first_of}
use Rattle.mode_set.specs.Document.{first_unknown, unknown, reasons}
use Rattle.mode_set.specs.PlanKey.{a_plan}
use Rattle.mode_set.specs.Plans.{no_plan}
use Rattle.mode_set.specs.Causes.{is_required, fits, HasCause}
use Rattle.mode_set.specs.Kept.{is_flat}
use Rattle.mode_set.specs.declared.key.Key.{Key}
use Rattle.mode_set.specs.declared.key.Key.TheVariants as key
use Rattle.mode_set.specs.declared.settings.Settings.{Settings}
use Rattle.mode_set.specs.declared.modes.Start.TheVariants.{Zero}
use Rattle.mode_set.specs.declared.error.SettingsError.{SettingsError}
use Rattle.mode_set.specs.declared.modes.Shape.{Shape}
use Rattle.mode_set.specs.declared.modes.Shape.TheVariants.{Qpsk, Qam16, Qam64}
use Rattle.mode_set.specs.declared.modes.Hierarchy.{Hierarchy}
use Rattle.mode_set.specs.declared.modes.Hierarchy.TheVariants.{Flat, Alpha1, Alpha2, Alpha4}
use Rattle.mode_set.specs.declared.modes.Rate.{Rate}

beq_same : (a b : Bool) → beq a b ≡ true → a ≡ b
beq_same true true h = refl
beq_same true false h = absurd (false≢true h)
beq_same false true h = absurd (false≢true h)
beq_same false false h = refl

-- a fact on every reason holds for the first that applies
first_has : (P : SettingsError → Type 0) (rs : List (Option SettingsError)) → AllByRecursion (λ r. IfSome r P) rs → IfSome (first_of rs) P
first_has P [] h = tt
first_has P (None ∷ rs) h = first_has P rs h.1
first_has P (Some e ∷ rs) h = h.0

module _ (ms : Members) where
  unknown_has : (o : Option ℕ) → first_unknown ms ≡ o → IfSome (unknown o) (HasCause ms)
  unknown_has None e = tt
  unknown_has (Some n) e = e

  wrong : {T : Type 0} (k : Key) (d : Data) → at k ms ≡ Some d → (o : Option T) → fits k d ≡ is_some o → IfSome (result_err (accepted k o)) (HasCause ms)
  wrong k d e None none = rw e none
  wrong k d e (Some v) some = tt

  required_has : {T : Type 0} (k : Key) (value : Data → Option T) → is_required k ≡ true → ((d : Data) → fits k d ≡ is_some (value d)) → (o : Option Data) → at k ms ≡ o → IfSome (result_err (required k value o)) (HasCause ms)
  required_has k value needed same None e = (needed, e)
  required_has k value needed same (Some d) e = wrong k d e (value d) (same d)

  default_has : {T : Type 0} (k : Key) (default : T) (value : Data → Option T) → ((d : Data) → fits k d ≡ is_some (value d)) → (o : Option Data) → at k ms ≡ o → IfSome (result_err (with_default k default value o)) (HasCause ms)
  default_has k default value same None e = tt
  default_has k default value same (Some d) e = wrong k d e (value d) (same d)

  present : {T : Type 0} (k : Key) (d : Data) (value : Data → Option T) → at k ms ≡ Some d → (o : Option T) → value d ≡ o → fits k d ≡ is_some o → IfSome (result_err (if_present k value (Some d))) (HasCause ms)
  present k d value e None v none = rw v (rw e none)
  present k d value e (Some x) v some = rw v tt

  if_present_has : {T : Type 0} (k : Key) (value : Data → Option T) → ((d : Data) → fits k d ≡ is_some (value d)) → (o : Option Data) → at k ms ≡ o → IfSome (result_err (if_present k value o)) (HasCause ms)
  if_present_has k value same None e = tt
  if_present_has k value same (Some d) e = present k d value e (value d) refl (same d)

  hierarchy_has : (s : Result Shape SettingsError) (h : Result Hierarchy SettingsError) → shape_in ms ≡ s → hierarchy_in ms ≡ h → IfSome (hierarchy_clash s h) (HasCause ms)
  hierarchy_has (Ok Qpsk) (Ok Flat) p q = tt
  hierarchy_has (Ok Qpsk) (Ok Alpha1) p q = (p, λ flat. cc (flat, q))
  hierarchy_has (Ok Qpsk) (Ok Alpha2) p q = (p, λ flat. cc (flat, q))
  hierarchy_has (Ok Qpsk) (Ok Alpha4) p q = (p, λ flat. cc (flat, q))
  hierarchy_has (Ok Qam16) (Ok h) p q = tt
  hierarchy_has (Ok Qam64) (Ok h) p q = tt
  hierarchy_has (Ok s) (Err e) p q = tt
  hierarchy_has (Err e) h p q = tt

  rate_lp_if : (b : Bool) (h : Hierarchy) (r : Option Rate) → beq (is_some r) (is_flat h) ≡ b → hierarchy_in ms ≡ Ok h → rate_lp_in ms ≡ Ok r → IfSome (rate_lp_clash (Ok h) (Ok r)) (HasCause ms)
  rate_lp_if true h r b p q = rw b (h, (r, (p, q, beq_same (is_some r) (is_flat h) b)))
  rate_lp_if false h r b p q = rw b tt

  rate_lp_has : (h : Result Hierarchy SettingsError) (r : Result (Option Rate) SettingsError) → hierarchy_in ms ≡ h → rate_lp_in ms ≡ r → IfSome (rate_lp_clash h r) (HasCause ms)
  rate_lp_has (Ok h) (Ok r) p q = rate_lp_if _ h r refl p q
  rate_lp_has (Ok h) (Err e) p q = tt
  rate_lp_has (Err e) r p q = tt

  reason_has : IfSome (first_of (reasons ms)) (HasCause ms)
  reason_has = first_has (HasCause ms) (reasons ms) (
    unknown_has (first_unknown ms) refl,
    (
      required_has key.Mode (a_word mode_words) refl (λ d. refl) (at key.Mode ms) refl,
      (
        required_has key.Constellation (a_word shape_words) refl (λ d. refl) (at key.Constellation ms) refl,
        (
          default_has key.Hierarchy Flat (a_word hierarchy_words) (λ d. refl) (at key.Hierarchy ms) refl,
          (
            required_has key.RateHp (a_word rate_words) refl (λ d. refl) (at key.RateHp ms) refl,
            (
              if_present_has key.RateLp (a_word rate_words) (λ d. refl) (at key.RateLp ms) refl,
              (
                required_has key.Guard (a_word guard_words) refl (λ d. refl) (at key.Guard ms) refl,
                (
                  if_present_has key.CellId (a_number 0 65535) (λ d. refl) (at key.CellId ms) refl,
                  (
                    default_has key.Start Zero (a_word start_words) (λ d. refl) (at key.Start ms) refl,
                    (
                      default_has key.Workers 1 (a_number 1 16) (λ d. refl) (at key.Workers ms) refl,
                      (
                        default_has key.MaxSymbols 1000000 (a_number 1 4294967295) (λ d. refl) (at key.MaxSymbols ms) refl,
                        (
                          default_has key.Plan no_plan a_plan (λ d. refl) (at key.Plan ms) refl,
                          (
                            hierarchy_has (shape_in ms) (hierarchy_in ms) refl refl,
                            (
                              rate_lp_has (hierarchy_in ms) (rate_lp_in ms) refl refl,
                              tt,
                            ),
                          ),
                        ),
                      ),
                    ),
                  ),
                ),
              ),
            ),
          ),
        ),
      ),
    ),
  )

  -- an error that is the first reason has its cause in the document
  pub cause_of : (r : Result Settings SettingsError) (e : SettingsError) → result_err r ≡ first_of (reasons ms) → r ≡ Err e → HasCause ms e
  cause_of r e first is = let found : first_of (reasons ms) ≡ Some e = sym first ∙ ap result_err is in rw found at reason_has
