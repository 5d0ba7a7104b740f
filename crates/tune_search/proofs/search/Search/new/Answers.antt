use Rattle.std.proofs.Common.{◌∙◌, List, [], sym, subst}
use Rattle.mode_set.specs.declared.modes.Mode.{Mode}
use Rattle.qam_map.specs.declared.cell.Cell.{Cell}
use Rattle.tune_in.specs.Tuning.{StandsFor}
use Rattle.tune_search.proofs.Held.{no_place, symbols_none}
use Rattle.tune_search.proofs.Searched.{no_symbols}
use Rattle.tune_search.proofs.search.Search.new.Goals as goal

pub returns : goal.returns
returns g c = λ s mode. record {
  stands = subst (λ (l : List (List Cell)). StandsFor s.mode c.in_ok-tuner.tuner l) (sym (no_symbols s (symbols_none s))) (subst (λ (m : Mode). StandsFor m c.in_ok-tuner.tuner []) (sym mode) c.in_ok-tuner.ensures.stands);
  searching = c.in_ok-tuner.ensures.searching;
  number = c.in_ok-tuner.ensures.symbols ∙ sym (symbols_none s);
  empty = c.in_ok-symbol.ensures;
  none = no_place s;
}
