-- The output of the receiver is written, port after port.
use Rattle.std.proofs.Common.{◌≡◌, true, false, Bool, ℕ, List, ◌++◌, take, ◌∙◌, sym, ap, Result, Ok, Err}
use Rattle.std.proofs.lemmas.List.{append-nil}
use Rattle.station_core.specs.Meaning.{Meaning}
use Rattle.station_core.specs.declared.ports.OutPort.TheVariants as outs
use Rattle.reception.specs.Feeds.{Output}
use Rattle.cmd_cells.specs.declared.run_error.RunError.{RunError}
use Rattle.cmd_cells.specs.declared.run_error.RunError.TheVariants.{WriteFault}
use Rattle.cmd_cells.specs.Writing.{WritesAt}
use Rattle.cmd_receive.specs.Writing.{Appends, ReportOnly, WritesLp, WritesOut, event_text, lp_bytes}
use Rattle.cmd_cells.proofs.Fronts.{all_of, none_of}
use Rattle.cmd_receive.proofs.Keeping.{hp_appends, lp_appends, hp_only, lp_only}

-- the content of Lp, if it exists
lp_whole : (two : Bool) (bytes : List ℕ) (old new : Meaning) → old.tells ≡ true → WritesLp two bytes old new (Ok tt) → new.lp_out.written ≡ old.lp_out.written ++ lp_bytes two bytes
lp_whole true bytes old new t w = lp_appends bytes old new (Ok tt) t w
lp_whole false bytes old new t w = ap (λ (x : Meaning). x.lp_out.written) w ∙ sym (append-nil old.lp_out.written)

lp_front : (two : Bool) (bytes : List ℕ) (old new : Meaning) (r : RunError) → old.tells ≡ true → WritesLp two bytes old new (Err r)
    → (r ≡ WriteFault) × (k : ℕ) × (new.lp_out.written ≡ old.lp_out.written ++ take k (lp_bytes two bytes))
lp_front true bytes old new r t w = lp_appends bytes old new (Err r) t w
lp_front false bytes old new r t w = absurd w

pub failed_hp : (two : Bool) (out : Output) (m m' : Meaning) (r : RunError) → m.tells ≡ true → WritesAt outs.Hp out.hp m m' (Err r) → WritesOut two out m m' (Err r)
failed_hp two out m m' r t w =
    let a = hp_appends out.hp m m' (Err r) t w in
    let o = hp_only out.hp m m' (Err r) w in (
      a.0,
      record {
        hp = (a.1, a.2);
        lp = none_of m.lp_out.written (lp_bytes two out.lp) m'.lp_out.written o.0;
        report = none_of m.report.written (event_text out.events) m'.report.written o.1;
      },
    )

module _ (two : Bool) (out : Output) (m m' m'' : Meaning) (t : m.tells ≡ true) (w : WritesAt outs.Hp out.hp m m' (Ok tt)) where
  t' : m'.tells ≡ true
  t' = ap (λ (x : Meaning). x.tells) w ∙ t

  hp_is : m'.hp_out.written ≡ m.hp_out.written ++ out.hp
  hp_is = hp_appends out.hp m m' (Ok tt) t w

  pub failed_lp : (r : RunError) → WritesLp two out.lp m' m'' (Err r) → WritesOut two out m m'' (Err r)
  failed_lp r v =
      let a = lp_front two out.lp m' m'' r t' v in
      let o = hp_only out.hp m m' (Ok tt) w in
      let p = lp_only two out.lp m' m'' (Err r) v in (
        a.0,
        record {
          hp = all_of m.hp_out.written out.hp m''.hp_out.written (p.0 ∙ hp_is);
          lp = (a.1, a.2 ∙ ap (λ (l : List ℕ). l ++ take a.1 (lp_bytes two out.lp)) o.0);
          report = none_of m.report.written (event_text out.events) m''.report.written (p.1 ∙ o.1);
        },
      )

  module _ (m''' : Meaning) (v : WritesLp two out.lp m' m'' (Ok tt)) (others : ReportOnly m'' m''') where
    hp_end : m'''.hp_out.written ≡ m.hp_out.written ++ out.hp
    hp_end = ap (λ (x : Meaning). x.hp_out.written) others ∙ (lp_only two out.lp m' m'' (Ok tt) v).0 ∙ hp_is

    lp_end : m'''.lp_out.written ≡ m.lp_out.written ++ lp_bytes two out.lp
    lp_end = ap (λ (x : Meaning). x.lp_out.written) others ∙ lp_whole two out.lp m' m'' t' v ∙ ap (λ (l : List ℕ). l ++ lp_bytes two out.lp) (hp_only out.hp m m' (Ok tt) w).0

    report_before : m''.report.written ≡ m.report.written
    report_before = (lp_only two out.lp m' m'' (Ok tt) v).1 ∙ (hp_only out.hp m m' (Ok tt) w).1

    pub wrote : (r : Result (Unit {0}) RunError) → Appends (event_text out.events) m''.report.written m'''.report.written r → WritesOut two out m m''' r
    wrote (Ok u) a = record { hp = hp_end; lp = lp_end; report = a ∙ ap (λ (l : List ℕ). l ++ event_text out.events) report_before }
    wrote (Err r) a = (
      a.0,
      record {
        hp = all_of m.hp_out.written out.hp m'''.hp_out.written hp_end;
        lp = all_of m.lp_out.written (lp_bytes two out.lp) m'''.lp_out.written lp_end;
        report = (a.1, a.2 ∙ ap (λ (l : List ℕ). l ++ take a.1 (event_text out.events)) report_before);
      },
    )
