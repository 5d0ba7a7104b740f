-- The settings that a document states are unique.
use Rattle.std.proofs.Common.{◌≡◌, ℕ, Bool, true, false, not, ◌||◌, List, Option, Some, IfOk, Result, Ok, Err, refl, sym}
use Rattle.std.specs.Prelude.{is_some}
use Rattle.std.specs.Bool.{beq}
use Rattle.std.proofs.lemmas.Bool.{and_from, le-leb, true≢false}
use Rattle.toml.specs.Data.{Members}
use Rattle.mode_set.specs.AtKeys.{document, mode_in, shape_in, hierarchy_in, rate_hp_in, rate_lp_in, guard_in, cell_id_in, start_in, workers_in, max_symbols_in}
use Rattle.mode_set.specs.Document.{States, IsStatedBy}
use Rattle.mode_set.specs.Kept.{IsKept, fit, is_flat, is_qpsk}
use Rattle.mode_set.specs.KeptBy.{kept_if}
use Rattle.mode_set.specs.PlanKey.{plan_in}
use Rattle.mode_set.specs.StatedSettings.{settings_if, settings_from, settings_of}
use Rattle.mode_set.specs.declared.error.SettingsError.{SettingsError}
use Rattle.mode_set.specs.declared.modes.Shape.{Shape}
use Rattle.mode_set.specs.declared.modes.Hierarchy.{Hierarchy}
use Rattle.mode_set.specs.declared.modes.Rate.{Rate}
use Rattle.mode_set.specs.declared.settings.Settings.{Settings}
use Rattle.mode_set.proofs.Keeping.{settings_prop}

implies : (a b : Bool) → (a ≡ true → b ≡ true) → (not a || b) ≡ true
implies true b h = h refl
implies false b h = refl

same : (a b : Bool) → a ≡ b → beq a b ≡ true
same true true e = refl
same true false e = sym e
same false true e = e
same false false e = refl

fits : (shape : Shape) (hierarchy : Hierarchy) (rate_lp : Option Rate) (workers most : ℕ) → IsKept shape hierarchy rate_lp workers most → fit shape hierarchy rate_lp workers most ≡ true
fits shape hierarchy rate_lp workers most k =
    and_from _ _ (and_from _ _ (implies (is_qpsk shape) (is_flat hierarchy) k.qpsk) (same (is_some rate_lp) (not (is_flat hierarchy)) k.lp))
    (and_from _ _ (le-leb 1 workers k.some_worker)
    (and_from _ _ (le-leb workers 16 k.few_workers) (le-leb 1 most k.some_symbol)))

made : (s : Settings) (b : Bool) (kept : b ≡ true → IsKept s.shape s.hierarchy s.rate_lp s.workers s.max_symbols) → b ≡ true
    → settings_if s.mode s.shape s.hierarchy s.rate_hp s.rate_lp s.guard s.cell_id s.start s.workers s.max_symbols s.plan b kept ≡ Some s
made s true kept e =
    λ i. Some (record s { kept = settings_prop s.shape s.hierarchy s.rate_lp s.workers s.max_symbols (kept refl) s.kept i })
made s false kept e = absurd (true≢false (sym e))

stated : (s : Settings) (ms : Members) → States ms s
    → settings_from (mode_in ms) (shape_in ms) (hierarchy_in ms) (rate_hp_in ms) (rate_lp_in ms) (guard_in ms) (cell_id_in ms) (start_in ms) (workers_in ms) (max_symbols_in ms) (plan_in ms) ≡ Some s
stated s ms h =
    rw h.mode (rw h.shape (rw h.hierarchy (rw h.rate_hp (rw h.rate_lp (rw h.guard (rw h.cell_id (rw h.start (rw h.workers (rw h.max_symbols (rw h.plan
    (made s (fit s.shape s.hierarchy s.rate_lp s.workers s.max_symbols) (kept_if s.shape s.hierarchy s.rate_lp s.workers s.max_symbols)
    (fits s.shape s.hierarchy s.rate_lp s.workers s.max_symbols s.kept))))))))))))

-- a result with settings has those that the bytes state
pub recorded : (bytes : List ℕ) (ms : Members) (r : Result Settings SettingsError) → document bytes ≡ Some ms → IfOk r (States ms) → IfOk r (λ s. IsStatedBy s bytes)
unfolding settings_of
recorded bytes ms (Ok s) d h = rw d (stated s ms h)
recorded bytes ms (Err e) d h = tt
