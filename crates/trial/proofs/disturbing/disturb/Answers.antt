use Rattle.std.proofs.Common.{◌≡◌, ◌+◌, ◌*◌, ◌∙◌, ◌++◌, ℕ, List, length, refl, sym, ap, subst, arith}
use Rattle.std.specs.Prelude.{◌%◌}
use Rattle.mode_set.specs.StreamTable.{carriers, payload}
use Rattle.mode_set.specs.declared.modes.Mode.{Mode}
use Rattle.mode_set.specs.declared.settings.Settings.{Settings}
use Rattle.pilots.specs.Carriers.{payload_carriers}
use Rattle.qam_map.specs.declared.cell.Cell.{Cell}
use Rattle.qam_map.specs.Points.{tolerance}
use Rattle.frame_build.specs.Symbol.{sent_bytes}
use Rattle.rand_pcg.specs.Lcg.{Lcg}
use Rattle.load_gen.specs.Draws.{after}
use Rattle.trial.specs.Drawn.{before, shifts_from}
use Rattle.trial.specs.Fed.{fed_cell}
use Rattle.trial.specs.declared.draws.Draws.{Draws}
use Rattle.trial.specs.Disturbing.{fed_carriers, payload_below}
use Rattle.trial.proofs.PacketSteps.{after_none}
use Rattle.trial.proofs.CellSteps.{all_carriers, all_payload, no_carriers, no_payload, one_carrier}
use Rattle.trial.proofs.disturbing.disturb.Goals as goal

pub next_cell-requires-clause-delta : goal.next_cell-requires-clause-delta
next_cell-requires-clause-delta g c =
    c.tolerance-delta.ensures ∙ ap (λ (z : Settings). tolerance z.shape z.hierarchy) c.parameters_of_symbol-entry.ensures.settings

pub loop-k-init : goal.loop-k-init
loop-k-init g c =
    let s : Settings = c.args.settings.now in
    let d : Draws = c.args.draws.now in
    let m : ℕ = c.args.symbol in
    let start : Lcg = shifts_from s d.number m (before s d.number m) in
    record {
      draws = ap (λ (h : Lcg). record d { load = h }) (c.requires.load ∙ sym (after_none start) ∙ ap (λ (n : ℕ). after (2 * n) start) (sym (no_payload g.M.Carriers.MODE (m % 68))));
      bytes = c.clear.ensures.items ∙ sym (no_carriers s d.number m);
      long = omega (arith, c.clear.ensures.len);
      room = refl;
    }

pub loop-k-preserved : goal.loop-k-preserved
loop-k-preserved g c =
    let s : Settings = c.args.settings.now in
    let d : Draws = c.args.draws.now in
    let m : ℕ = c.args.symbol in
    let k : ℕ = c.loop-k.k in
    let inv = c.loop-k.invariant in
    let number : c.loop-k.draws.number ≡ d.number = ap (λ (z : Draws). z.number) inv.draws in
    record {
      draws = c.next_cell.ensures.draws ∙ ap (λ (z : Draws). record z { load = after (2 * payload_below g.M.Carriers.MODE (m % 68) (k + 1)) (shifts_from s z.number m (before s z.number m)) }) inv.draws;
      bytes =
          c.push_cell.ensures.bytes
          ∙ ap (λ (z : List ℕ). z ++ sent_bytes c.next_cell.result) inv.bytes
          ∙ ap (λ (z : Cell). fed_carriers s d.number m k ++ sent_bytes z) (c.next_cell.ensures.cell ∙ ap (λ (n : ℕ). fed_cell s n m k) number)
          ∙ sym (one_carrier s d.number m k);
      long = omega (arith, c.push_cell.ensures.len, inv.long);
      room = c.push_cell.ensures.capacity ∙ inv.room;
    }

pub returns-clause-fed : goal.returns-clause-fed
returns-clause-fed g c =
    let end : c.loop-k.k ≡ carriers c.args.settings.now.mode = omega (arith, c.K-k-end.ensures, g.M.Carriers.k_of, ap carriers c.requires.mode, c.loop-k-test.false, c.loop-k.auto.k-end) in
    c.loop-k.invariant.bytes ∙ all_carriers c.args.settings.now c.args.draws.now.number c.args.symbol c.loop-k.k end

pub returns-clause-draws : goal.returns-clause-draws
returns-clause-draws g c =
    let s : Settings = c.args.settings.now in
    let d : Draws = c.args.draws.now in
    let l : ℕ = c.args.symbol % 68 in
    let mode : Mode = g.M.Carriers.MODE in
    let start : Lcg = shifts_from s d.number c.args.symbol (before s d.number c.args.symbol) in
    let end : c.loop-k.k ≡ carriers mode = omega (arith, c.K-k-end.ensures, g.M.Carriers.k_of, c.loop-k-test.false, c.loop-k.auto.k-end) in
    let law = subst (λ (z : Mode). length (payload_carriers z l) ≡ payload z) c.MODE.ensures c.symbols_have_as_many_payload_carriers.ensures in
    let all : payload_below mode l c.loop-k.k ≡ payload s.mode = ap (payload_below mode l) end ∙ all_payload mode l law ∙ ap payload (sym c.requires.mode) in
    c.loop-k.invariant.draws ∙ ap (λ (n : ℕ). record d { load = after (2 * n) start }) all
