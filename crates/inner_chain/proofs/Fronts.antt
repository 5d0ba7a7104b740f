-- The pairs at the front of a list are those of a symbol.
use Rattle.std.proofs.Common.{ℕ, ◌≤◌, List, [], ◌++◌, length, take, refl, sym, ap₂, ◌∙◌, subst, arith}
use Rattle.std.proofs.lemmas.List.{take-append-drop, get_or-take, length-take-le}
use Rattle.code_paths.specs.declared.costs.CostPair.{CostPair}
use Rattle.mode_set.specs.StreamTable.{need}
use Rattle.mode_set.specs.declared.modes.Stream.{Stream}
use Rattle.mode_set.specs.declared.settings.Settings.{Settings}
use Rattle.qam_map.specs.declared.cell.Cell.{Cell}
use Rattle.inner_chain.specs.CostPairs.{IsPairOf, AppendsPairs}
use Rattle.inner_chain.specs.CostTables.{WritesPairs}
use Rattle.inner_chain.specs.PairLists.{BeginsWithPairs}
use Rattle.inner_chain.proofs.Listing.{pairs_are_listed}

pub begins_with : (s : Settings) (cells : List Cell) (weights : List ℕ) (l : ℕ) (σ : Stream) (old new : List CostPair) → need s σ ≤ length old → WritesPairs s cells weights l σ (need s σ) old new → BeginsWithPairs s cells weights l σ old new
begins_with s cells weights l σ old new fits w =
    let n = need s σ in
    let within : n ≤ length new = omega (arith, fits, w.long) in
    let front : AppendsPairs s cells weights l σ [] (take n new) = record {
      pairs = take n new;
      long = length-take-le n new within;
      at = λ t d m. subst (IsPairOf s cells weights l σ t) (sym (get_or-take n new t d m)) (w.at t d m);
      is = refl;
    } in
    sym (take-append-drop n new) ∙ ap₂ (λ (x y : List CostPair). x ++ y) (pairs_are_listed s cells weights l σ [] (take n new) front) (w.rest n (omega arith))
