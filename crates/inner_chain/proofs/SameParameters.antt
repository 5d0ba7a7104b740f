-- Entries of the same parameters.
use Rattle.std.proofs.Common.{◌≡◌, true, not, Option, ap, subst}
use Rattle.std.specs.Prelude.{is_some}
use Rattle.mode_set.specs.Kept.{IsKeptEntry, is_flat, is_qpsk}
use Rattle.mode_set.specs.Entries.{with_entry}
use Rattle.mode_set.specs.declared.entry.Entry.{Entry}
use Rattle.mode_set.specs.declared.modes.Shape.{Shape}
use Rattle.mode_set.specs.declared.modes.Hierarchy.{Hierarchy}
use Rattle.mode_set.specs.declared.modes.Rate.{Rate}
use Rattle.mode_set.specs.declared.settings.Settings.{Settings}
use denote.Struct.Props.{props}

-- what an entry keeps is a proposition
kept_prop : (shape : Shape) (hierarchy : Hierarchy) (rate_lp : Option Rate) → IsProp (IsKeptEntry shape hierarchy rate_lp)
kept_prop shape hierarchy rate_lp x y =
    let qpsk_prop : IsProp (is_qpsk shape ≡ true → is_flat hierarchy ≡ true) = hlevel props in
    let lp_prop : IsProp (is_some rate_lp ≡ not (is_flat hierarchy)) = hlevel props in
    λ i. record { qpsk = qpsk_prop x.qpsk y.qpsk i; lp = lp_prop x.lp y.lp i }

-- settings with these parameters
made : Settings → (shape : Shape) (hierarchy : Hierarchy) (rate_hp : Rate) (rate_lp : Option Rate) → IsKeptEntry shape hierarchy rate_lp → Settings
made s shape hierarchy rate_hp rate_lp kept = with_entry s (record { after = 0; shape = shape; hierarchy = hierarchy; rate_hp = rate_hp; rate_lp = rate_lp; kept = kept })

pub alike : (s : Settings) (a b : Entry) → a.shape ≡ b.shape → a.hierarchy ≡ b.hierarchy → a.rate_hp ≡ b.rate_hp → a.rate_lp ≡ b.rate_lp → with_entry s a ≡ with_entry s b
unfolding made
alike s a b es eh ep el = all b.shape es b.hierarchy eh b.rate_hp ep b.rate_lp el b.kept
  where
    last : (k : IsKeptEntry a.shape a.hierarchy a.rate_lp) → with_entry s a ≡ made s a.shape a.hierarchy a.rate_hp a.rate_lp k
    last k = ap (λ (z : IsKeptEntry a.shape a.hierarchy a.rate_lp). made s a.shape a.hierarchy a.rate_hp a.rate_lp z) (kept_prop a.shape a.hierarchy a.rate_lp a.kept k)

    rates : (rate_lp : Option Rate) → a.rate_lp ≡ rate_lp → (k : IsKeptEntry a.shape a.hierarchy rate_lp) → with_entry s a ≡ made s a.shape a.hierarchy a.rate_hp rate_lp k
    rates rate_lp e = subst (λ (r : Option Rate). (k : IsKeptEntry a.shape a.hierarchy r) → with_entry s a ≡ made s a.shape a.hierarchy a.rate_hp r k) e last

    all : (shape : Shape) → a.shape ≡ shape → (hierarchy : Hierarchy) → a.hierarchy ≡ hierarchy → (rate_hp : Rate) → a.rate_hp ≡ rate_hp → (rate_lp : Option Rate) → a.rate_lp ≡ rate_lp → (k : IsKeptEntry shape hierarchy rate_lp)
        → with_entry s a ≡ made s shape hierarchy rate_hp rate_lp k
    all shape e = subst (λ (c : Shape). (hierarchy : Hierarchy) → a.hierarchy ≡ hierarchy → (rate_hp : Rate) → a.rate_hp ≡ rate_hp → (rate_lp : Option Rate) → a.rate_lp ≡ rate_lp → (k : IsKeptEntry c hierarchy rate_lp) → with_entry s a ≡ made s c hierarchy rate_hp rate_lp k) e
        (λ hierarchy f. subst (λ (h : Hierarchy). (rate_hp : Rate) → a.rate_hp ≡ rate_hp → (rate_lp : Option Rate) → a.rate_lp ≡ rate_lp → (k : IsKeptEntry a.shape h rate_lp) → with_entry s a ≡ made s a.shape h rate_hp rate_lp k) f
        (λ rate_hp g. subst (λ (p : Rate). (rate_lp : Option Rate) → a.rate_lp ≡ rate_lp → (k : IsKeptEntry a.shape a.hierarchy rate_lp) → with_entry s a ≡ made s a.shape a.hierarchy p rate_lp k) g
        (λ rate_lp h. rates rate_lp h)))
