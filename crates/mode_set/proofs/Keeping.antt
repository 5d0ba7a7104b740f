-- The invariants of settings and entries have at most one proof.
use Rattle.std.proofs.Common.{◌≡◌, ℕ, ◌≤◌, Option}
use Rattle.std.specs.Prelude.{is_some, not, true}
use Rattle.mode_set.specs.Kept.{IsKept, IsKeptEntry, is_flat, is_qpsk}
use Rattle.mode_set.specs.declared.modes.Shape.{Shape}
use Rattle.mode_set.specs.declared.modes.Hierarchy.{Hierarchy}
use Rattle.mode_set.specs.declared.modes.Rate.{Rate}
use denote.Struct.Props.{props}

pub entry_prop : (shape : Shape) (hierarchy : Hierarchy) (rate_lp : Option Rate) → IsProp (IsKeptEntry shape hierarchy rate_lp)
entry_prop shape hierarchy rate_lp x y =
    let qpsk_prop : IsProp (is_qpsk shape ≡ true → is_flat hierarchy ≡ true) = hlevel props in
    let lp_prop : IsProp (is_some rate_lp ≡ not (is_flat hierarchy)) = hlevel props in
    λ i. record { qpsk = qpsk_prop x.qpsk y.qpsk i; lp = lp_prop x.lp y.lp i }

pub settings_prop : (shape : Shape) (hierarchy : Hierarchy) (rate_lp : Option Rate) (workers most : ℕ) → IsProp (IsKept shape hierarchy rate_lp workers most)
settings_prop shape hierarchy rate_lp workers most x y =
    let qpsk_prop : IsProp (is_qpsk shape ≡ true → is_flat hierarchy ≡ true) = hlevel props in
    let lp_prop : IsProp (is_some rate_lp ≡ not (is_flat hierarchy)) = hlevel props in
    let some_prop : IsProp (1 ≤ workers) = hlevel props in
    let few_prop : IsProp (workers ≤ 16) = hlevel props in
    let symbol_prop : IsProp (1 ≤ most) = hlevel props in
    λ i. record {
      qpsk = qpsk_prop x.qpsk y.qpsk i;
      lp = lp_prop x.lp y.lp i;
      some_worker = some_prop x.some_worker y.some_worker i;
      few_workers = few_prop x.few_workers y.few_workers i;
      some_symbol = symbol_prop x.some_symbol y.some_symbol i;
    }
