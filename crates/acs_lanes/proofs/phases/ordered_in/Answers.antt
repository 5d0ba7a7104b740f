use Rattle.std.proofs.Common.{◌≡◌, refl, sym, subst, arith}
use Rattle.acs_lanes.specs.Phases.{ordered}
use Rattle.acs_lanes.proofs.PhaseMarks.{ordered_as}
use Rattle.acs_lanes.proofs.phases.ordered_in.Goals.{then-phase-eq0, else-phase-eq0, then-phase-eq1, else-phase-eq1, then-phase-eq2, else-phase-eq2, then-phase-eq3, else-phase-eq3, then-phase-eq4, else-phase-eq4}
use Rattle.acs_lanes.proofs.phases.ordered_in.Goals as goal

pub returns : goal.returns
returns c =
    elim c.if-phase-eq0.branch [
      | then-phase-eq0 w0 ↦ subst (λ r. r ≡ ordered c.args.phase c.args.bytes) (sym w0.result-is) (ordered_as c.args.phase 0 w0.if-phase-eq0.true _ c.args.bytes refl)
      | else-phase-eq0 w0 ↦ subst (λ r. r ≡ ordered c.args.phase c.args.bytes) (sym w0.result-is) (
          elim w0.if-phase-eq1.branch [
            | then-phase-eq1 w1 ↦ subst (λ r. r ≡ ordered c.args.phase c.args.bytes) (sym w1.result-is) (ordered_as c.args.phase 1 w1.if-phase-eq1.true _ c.args.bytes refl)
            | else-phase-eq1 w1 ↦ subst (λ r. r ≡ ordered c.args.phase c.args.bytes) (sym w1.result-is) (
                elim w1.if-phase-eq2.branch [
                  | then-phase-eq2 w2 ↦ subst (λ r. r ≡ ordered c.args.phase c.args.bytes) (sym w2.result-is) (ordered_as c.args.phase 2 w2.if-phase-eq2.true _ c.args.bytes refl)
                  | else-phase-eq2 w2 ↦ subst (λ r. r ≡ ordered c.args.phase c.args.bytes) (sym w2.result-is) (
                      elim w2.if-phase-eq3.branch [
                        | then-phase-eq3 w3 ↦ subst (λ r. r ≡ ordered c.args.phase c.args.bytes) (sym w3.result-is) (ordered_as c.args.phase 3 w3.if-phase-eq3.true _ c.args.bytes refl)
                        | else-phase-eq3 w3 ↦ subst (λ r. r ≡ ordered c.args.phase c.args.bytes) (sym w3.result-is) (
                            elim w3.if-phase-eq4.branch [
                              | then-phase-eq4 w4 ↦ subst (λ r. r ≡ ordered c.args.phase c.args.bytes) (sym w4.result-is) (ordered_as c.args.phase 4 w4.if-phase-eq4.true _ c.args.bytes refl)
                              | else-phase-eq4 w4 ↦ subst (λ r. r ≡ ordered c.args.phase c.args.bytes) (sym w4.result-is) (ordered_as c.args.phase 5 (omega (arith, c.requires, w0.if-phase-eq0.false, w1.if-phase-eq1.false, w2.if-phase-eq2.false, w3.if-phase-eq3.false, w4.if-phase-eq4.false)) _ c.args.bytes refl)
                            ])
                      ])
                ])
          ])
    ]
