use Rattle.std.proofs.Common.{sym, ◌∙◌, ap, length, arith}
use Rattle.std.proofs.lemmas.Bool.{true≢false}
use Rattle.inner_receiver.proofs.Feeding.{some_carriers, no_symbols, nothing_unfinished}
use Rattle.inner_receiver.proofs.cells.SymbolCosts.new.Goals as goal

pub invariant_of-result : goal.invariant_of-result
invariant_of-result g c = record {
  mode_is = c.requires.mode;
  inner_is = c.in_ok-new-2.ensures;
  unfinished = λ _. omega (arith, ap length c.in_ok-new.ensures, some_carriers _ _ _ _ _ g.M.Carriers.row);
  ended = λ e. absurd (true≢false (sym e));
  hp_room = omega (arith, c.in_ok-room_for_pairs.ensures);
  lp_room = omega (arith, c.in_ok-room_for_pairs-2.ensures);
  hp_few = omega arith;
  lp_few = omega arith;
}

pub returns-clause-had : goal.returns-clause-had
returns-clause-had g c = record { taken = sym (no_symbols c.args.settings.now.mode); rest = c.in_ok-new.ensures ∙ sym (nothing_unfinished c.args.settings.now) }
