use Rattle.std.proofs.Common.{◌≡◌, ℕ, List, refl, ◌∙◌, ap, subst, arith}
use Rattle.station_core.specs.Meaning.{Meaning}
use Rattle.cmd_base.specs.Packets.{first_packets}
use Rattle.cmd_base.proofs.HandedOn.{handed_on}
use Rattle.cmd_packets.specs.Coding.{Codes}
use Rattle.cmd_packets.proofs.Keeping.{keeps_again}
use Rattle.cmd_packets.proofs.Progress.{Progress, started, goes_on, refused, ended, next_packets, gives_first, taken}
use Rattle.cmd_packets.proofs.coding.code_packets.Goals as goal

pub loop-number-init : goal.loop-number-init
unfolding first_packets
loop-number-init g c = record {
  others = refl;
  read_faults = refl;
  write_faults = refl;
  same = λ packets. refl;
  same_end = λ packets. refl;
  took = λ t. c.requires.new;
  contents = λ t. started _ _ _ _ c.requires.empty;
}

pub returns-in_err-code_next-clause-contents : goal.returns-in_err-code_next-clause-contents
returns-in_err-code_next-clause-contents g c = λ t.
    let inv = c.loop-number.invariant in
    let m : Meaning = g.S.Station.meaning c.args.station.now in
    let tells = ap (λ (x : Meaning). x.tells) inv.others in
    let packets : List (List ℕ) = first_packets c.loop-number.number m.hp.left in
    let refusal = c.in_err-code_next.field-0.0 in
    let after : Meaning = g.S.Station.meaning c.code_next.new.station in
    let step = c.in_err-code_next.ensures.contents (tells ∙ t) in
    handed_on c.from_residual.result refusal (Codes (g.C.Coder.coded c.args.coder.now) c.args.limits.now.packets m.hp.left m.bytes_out.written after.hp.left after.bytes_out.written) c.from_residual.ensures.1
    (refused _ _ _ _ _ _ _ (inv.contents t) _ refusal _ _ c.loop-number-test.true
    (λ is. gives_first _ _ packets _ _ inv.same (taken refusal c.in_err-code_next.ensures.gives is packets (tells ∙ t) (inv.took t)))
    step)

pub loop-number-preserved : goal.loop-number-preserved
loop-number-preserved g c =
    let m : Meaning = g.S.Station.meaning c.args.station.now in
    let m' : Meaning = g.S.Station.meaning c.loop-number.station in
    let m'' : Meaning = g.S.Station.meaning c.code_next.new.station in
    let inv = c.loop-number.invariant in
    let tells = ap (λ (x : Meaning). x.tells) inv.others in
    let packets : List (List ℕ) = first_packets c.loop-number.number m.hp.left in
    let e = rw c.in-None.is at c.in_ok-code_next.ensures in
    record {
      others = keeps_again m m' m'' inv.others e.others;
      read_faults = e.cause.reads ∙ inv.read_faults;
      write_faults = e.cause.writes ∙ inv.write_faults;
      same = λ ps. e.same ps ∙ inv.same ps;
      same_end = λ ps. e.same_end ps ∙ inv.same_end ps;
      took = λ t. subst (g.C.Coder.took c.code_next.new.coder) (next_packets _ _ _ _ _ _ _ (inv.contents t)) (e.takes packets (tells ∙ t) (inv.took t));
      contents = λ t. goes_on _ _ _ _ _ _ _ (inv.contents t) _ _ _ c.loop-number-test.true
          (gives_first _ _ packets _ _ inv.same (e.gives packets (tells ∙ t) (inv.took t))) (e.contents (tells ∙ t));
    }

pub returns-clause-contents : goal.returns-clause-contents
returns-clause-contents g c = λ t.
    let inv = c.loop-number.invariant in
    let m : Meaning = g.S.Station.meaning c.args.station.now in
    let m' : Meaning = g.S.Station.meaning c.loop-number.station in
    let m'' : Meaning = g.S.Station.meaning c.end_at_limit.new.station in
    let limit : ℕ = c.args.limits.now.packets in
    let coded : List (List ℕ) → List ℕ = g.C.Coder.coded c.args.coder.now in
    let tells = ap (λ (x : Meaning). x.tells) inv.others in
    let all : c.loop-number.number ≡ limit = omega (arith, c.loop-number-test.false, c.loop-number.auto.number-end) in
    let p = subst (λ (n : ℕ). Progress coded limit n m.hp.left m.bytes_out.written m'.hp.left m'.bytes_out.written) all (inv.contents t) in
    ended coded limit m.hp.left m.bytes_out.written m'.hp.left m'.bytes_out.written p c.end_at_limit.result m''.hp.left m''.bytes_out.written (c.end_at_limit.ensures.contents (tells ∙ t))
