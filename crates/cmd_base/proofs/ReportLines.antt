-- Lines written to Report, one after another.
use Rattle.std.proofs.Common.{◌≡◌, ℕ, ◌+◌, List, [], ◌++◌, length, take, Result, Ok, Err, inl, inr, refl, ap, sym, ◌∙◌, arith, append_assoc}
use Rattle.std.proofs.Math.Seq.{take-append-add}
use Rattle.std.proofs.lemmas.Bool.{cases_lt}
use Rattle.std.proofs.lemmas.List.{append-nil, take_all, take-append-le}
use Rattle.station_core.specs.Meaning.{Meaning}
use Rattle.cmd_base.specs.declared.refusal.Refusal.{Refusal}
use Rattle.cmd_base.specs.Lines.{IsFrontOf, WritesLines}

-- a prefix of a text is a prefix of a longer one
front_of : (few rest : List ℕ) (k : ℕ) → (j : ℕ) × (take k few ≡ take j (few ++ rest))
front_of few rest k = elim (cases_lt k (length few)) [
  | inl lt ↦ (k, sym (take-append-le k few rest (omega (arith, lt))))
  | inr ge ↦ (length few, take_all k few ge ∙ sym (take_all (length few) few (omega arith)) ∙ sym (take-append-le (length few) few rest (omega arith)))
]

more : (a b before mid after : List ℕ) (r : Result (Unit {0}) Refusal) → mid ≡ before ++ a → IsFrontOf b mid after r → IsFrontOf (a ++ b) before after r
more a b before mid after (Ok u) first next = next ∙ ap (λ (l : List ℕ). l ++ b) first ∙ append_assoc before a b
more a b before mid after (Err refusal) first next = (
  length a + next.0,
  next.1 ∙ ap (λ (l : List ℕ). l ++ take next.0 b) first ∙ append_assoc before a (take next.0 b) ∙ ap (λ (l : List ℕ). before ++ l) (sym (take-append-add a b next.0)),
)

keeps_report : (m0 m1 m2 : Meaning)
    → m1 ≡ record m0 { report = record m0.report { written = m1.report.written }; write_faults = m1.write_faults; report_faults = m1.report_faults }
    → m2 ≡ record m1 { report = record m1.report { written = m2.report.written }; write_faults = m2.write_faults; report_faults = m2.report_faults }
    → m2 ≡ record m0 { report = record m0.report { written = m2.report.written }; write_faults = m2.write_faults; report_faults = m2.report_faults }
keeps_report m0 m1 m2 p q = q ∙ ap (λ (x : Meaning). record x { report = record x.report { written = m2.report.written }; write_faults = m2.write_faults; report_faults = m2.report_faults }) p

pub writes_then : (a b : List ℕ) (m0 m1 m2 : Meaning) (r : Result (Unit {0}) Refusal) → WritesLines a m0 m1 (Ok tt) → WritesLines b m1 m2 r → WritesLines (a ++ b) m0 m2 r
writes_then a b m0 m1 m2 r first next =
    let tells : m1.tells ≡ m0.tells = ap (λ (x : Meaning). x.tells) first.others in
    record {
      others = keeps_report m0 m1 m2 first.others next.others;
      later_report = omega (arith, first.later_report, next.later_report);
      written = λ t. more a b m0.report.written m1.report.written m2.report.written r (first.written t) (next.written (tells ∙ t));
    }

pub writes_stopped : (a b : List ℕ) (m0 m1 : Meaning) (refusal : Refusal) → WritesLines a m0 m1 (Err refusal) → WritesLines (a ++ b) m0 m1 (Err refusal)
writes_stopped a b m0 m1 refusal first = record {
  others = first.others;
  later_report = first.later_report;
  written = λ t.
      let w = first.written t in
      let f = front_of a b w.0 in
      (f.0, w.1 ∙ ap (λ (l : List ℕ). m0.report.written ++ l) f.1);
}

-- no line was written
pub writes_nothing : (m : Meaning) → WritesLines [] m m (Ok tt)
writes_nothing m = record { others = refl; later_report = omega arith; written = λ t. sym (append-nil m.report.written) }
