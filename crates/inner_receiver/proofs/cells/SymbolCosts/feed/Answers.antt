use Rattle.std.proofs.Common.{◌≡◌, ℕ, ◌+◌, ◌-◌, ◌*◌, ◌<◌, Bool, true, cond, List, [], ◌++◌, length, take, refl, sym, ap, ◌∙◌, subst}
use Rattle.std.specs.Prelude.{min}
use Rattle.std.proofs.lemmas.Bool.{true≢false}
use Rattle.mode_set.specs.StreamTable.{carriers}
use Rattle.mode_set.specs.declared.modes.Stream.TheVariants.{Hp, Lp}
use Rattle.mode_set.specs.declared.settings.Settings.{Settings}
use Rattle.frame_build.specs.Symbol.{cells_from, weights_from}
use Rattle.reception.specs.Costs.{costs}
use Rattle.inner_receiver.specs.Seen.{CostsState}
use Rattle.inner_receiver.specs.Fed.{HasHad, Fed}
use Rattle.inner_receiver.proofs.Feeding.{rest_is_short, some_carriers, still_unfinished, within_is, ends_is, taken_is, ended_cells, ended_weights, ended_costs, ended_tps}
use Rattle.inner_receiver.proofs.cells.SymbolCosts.feed.Goals as goal

pub put_pairs-hp_used-requires-clause-weights : goal.put_pairs-hp_used-requires-clause-weights
put_pairs-hp_used-requires-clause-weights g c =
    let e : g.M.Carriers.K ≡ carriers c.self.inside.settings.mode = g.M.Carriers.k_of ∙ ap carriers (sym c.self.invariant.mode_is) in
    record { long = c.weights-weights.ensures.count ∙ e; small = λ k below. c.weights-weights.ensures.small k (subst (λ (z : ℕ). k < z) (sym e) below) }

pub returns-then-not-whole-clause-fed : goal.returns-then-not-whole-clause-fed
returns-then-not-whole-clause-fed g c = λ b.
    let x = c.self.inside in
    let s : Settings = x.settings in
    let k : ℕ = g.M.Carriers.K in
    let rest : List ℕ = cond x.whole [] x.input in
    let piece : List ℕ = c.args.piece.now in
    let n = c.take-count.result in
    let new : List ℕ = c.take-count.new.self in
    let e : k ≡ carriers s.mode = g.M.Carriers.k_of ∙ ap carriers (sym c.self.invariant.mode_is) in
    let is : new ≡ rest ++ take n piece = c.take-count.ensures.taken ∙ ap (λ z. z ++ take n piece) c.pass_on.ensures.input in
    let short : length rest < 5 * k = rest_is_short x.whole x.input k (some_carriers _ _ _ _ _ g.M.Carriers.row) c.self.invariant.unfinished in
    let count : n ≡ min (length piece) (5 * k - length rest) = c.take-count.ensures.count ∙ ap (λ (z : List ℕ). min (length piece) (5 * k - length z)) c.pass_on.ensures.input in
    subst (λ (z : CostsState). HasHad z b → Fed (record { settings = s; rest = cond c.pass_on.new.whole [] new; taken = x.taken; whole = c.pass_on.new.whole; cells = cells_from new k; weights = weights_from new k; hp = take x.hp_used x.hp.items; lp = take x.lp_used x.lp.items }) b piece n) c.self.view_is (λ h.
    let l = still_unfinished rest piece new n k short count is (λ e. true≢false (sym (c.if-not-whole.ensures.1 e))) in
    let w = within_is c.symbols.ensures.tail s b rest piece new n k h.rest e is l in
    record {
      count = taken_is c.symbols.ensures.tail s b rest piece n k h.rest e count;
      had = record {
        taken = h.taken ∙ sym (c.symbols.ensures.same s b (take n piece) w);
        rest = ap (λ (z : Bool). cond z [] new) c.pass_on.ensures.going ∙ is ∙ ap (λ z. z ++ take n piece) h.rest ∙ sym (c.symbols.ensures.unfinished s b (take n piece) w);
      };
      within = λ _. w;
      ends = λ f. absurd (true≢false (sym f ∙ c.pass_on.ensures.going));
    })

pub returns-clause-fed : goal.returns-clause-fed
returns-clause-fed g c = λ b.
    let x = c.self.inside in
    let s : Settings = x.settings in
    let k : ℕ = g.M.Carriers.K in
    let rest : List ℕ = cond x.whole [] x.input in
    let piece : List ℕ = c.args.piece.now in
    let n = c.take-count.result in
    let new : List ℕ = c.take-count.new.self in
    let e : k ≡ carriers s.mode = g.M.Carriers.k_of ∙ ap carriers (sym c.self.invariant.mode_is) in
    let is : new ≡ rest ++ take n piece = c.take-count.ensures.taken ∙ ap (λ z. z ++ take n piece) c.pass_on.ensures.input in
    let count : n ≡ min (length piece) (5 * k - length rest) = c.take-count.ensures.count ∙ ap (λ (z : List ℕ). min (length piece) (5 * k - length z)) c.pass_on.ensures.input in
    let l : length new ≡ 5 * k = c.if-not-whole.ensures.0 refl in
    let y : CostsState = record { settings = s; rest = []; taken = x.taken + 1; whole = true; cells = cells_from new k; weights = weights_from new k; hp = take c.put_pairs-hp_used.result.0 c.put_pairs-hp_used.new.hp.items; lp = take c.put_pairs-hp_used.result.1 c.put_pairs-hp_used.new.lp.items } in
    subst (λ (z : CostsState). HasHad z b → Fed y b piece n) c.self.view_is (λ h.
    let ends = ends_is c.symbols.ensures.tail s b rest piece new n k h.rest e is l in
    let all : new ≡ _ = is ∙ ap (λ z. z ++ take n piece) h.rest in
    record {
      count = taken_is c.symbols.ensures.tail s b rest piece n k h.rest e count;
      had = record {
        taken = ap (λ z. z + 1) h.taken ∙ sym (c.symbols.ensures.next s b (take n piece) ends).0;
        rest = sym (c.symbols.ensures.ended s b (take n piece) ends).1;
      };
      within = λ f. absurd (true≢false f);
      ends = λ _. record {
        ends = ends;
        cells_are = ended_cells c.symbols.ensures.ended s b (take n piece) new k ends all e;
        weights_are = ended_weights c.symbols.ensures.ended s b (take n piece) new k ends all e;
        costs_are = elim [
          | Hp ↦ c.costs.ensures.next s b (take n piece) Hp ends ∙ ap (λ z. costs s b Hp ++ z) (sym (c.put_pairs-hp_used.ensures.hp ∙ ended_costs c.symbols.ensures.ended s b (take n piece) _ _ new x.taken k Hp ends all c.cells-cells.ensures.cells c.weights-weights.ensures.weights e h.taken))
          | Lp ↦ c.costs.ensures.next s b (take n piece) Lp ends ∙ ap (λ z. costs s b Lp ++ z) (sym (c.put_pairs-hp_used.ensures.lp ∙ ended_costs c.symbols.ensures.ended s b (take n piece) _ _ new x.taken k Lp ends all c.cells-cells.ensures.cells c.weights-weights.ensures.weights e h.taken))
        ];
        tps_are = ended_tps c.symbols.ensures.ended s b (take n piece) (cells_from new k) new k ends all refl e;
      };
    })
