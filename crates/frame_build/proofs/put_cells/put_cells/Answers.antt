-- Carrier after carrier is written.
use Rattle.std.proofs.Common.{◌≡◌, ℕ, ◌+◌, ◌-◌, ◌*◌, ◌<◌, ◌≤◌, ◌++◌, List, length, take, refl, sym, ap, ◌∙◌, arith}
use Rattle.std.proofs.lemmas.List.{take_all}
use Rattle.frame_build.specs.State.{bytes_at}
use Rattle.frame_build.proofs.Indices.{none_at, one_at, some_carriers}
use Rattle.frame_build.proofs.put_cells.put_cells.Goals as goal

pub loop-k-init : goal.loop-k-init
loop-k-init g c = record { long = refl; bytes = sym (none_at c.args.label_cells.now.cells c.args.places.now c.args.indices.now) }

pub wide-requires : goal.wide-requires
wide-requires g c = record { index = c.requires.index c.loop-k.k (omega (arith, c.loop-k-test.true)); place = c.requires.place c.loop-k.k (omega (arith, c.loop-k-test.true)) }

pub loop-k-preserved : goal.loop-k-preserved
loop-k-preserved g c =
    let before : List ℕ = bytes_at c.args.label_cells.now.cells c.args.places.now c.args.indices.now c.loop-k.k in
    record {
      long = c.put_eight.ensures.long ∙ c.loop-k.invariant.long;
      bytes = c.put_eight.ensures.bytes ∙ ap (λ (z : List ℕ). z ++ take 5 c.wide.result) c.loop-k.invariant.bytes ∙ ap (λ (z : List ℕ). before ++ z) c.wide.ensures
          ∙ sym (one_at c.args.label_cells.now.cells c.args.places.now c.args.indices.now c.loop-k.k);
    }

pub five-requires : goal.five-requires
five-requires g c =
    let few : c.K.result - 1 < c.K.result = omega (arith, c.K.ensures, g.M.Carriers.k_of, some_carriers g.M.Carriers.MODE) in
    record { index = c.requires.index (c.K.result - 1) (omega (arith, few, c.K.ensures)); place = c.requires.place (c.K.result - 1) (omega (arith, few, c.K.ensures)) }

pub returns : goal.returns
returns g c =
    let last : ℕ = c.K.result - 1 in
    let at : c.loop-k.k ≡ last = omega arith in
    let end : last + 1 ≡ g.M.Carriers.K = omega (arith, c.K.ensures, g.M.Carriers.k_of, some_carriers g.M.Carriers.MODE) in
    let front : take (5 * last) c.loop-k.to ≡ bytes_at c.args.label_cells.now.cells c.args.places.now c.args.indices.now last =
    ap (λ (z : ℕ). take (5 * z) c.loop-k.to) (sym at) ∙ c.loop-k.invariant.bytes ∙ ap (bytes_at c.args.label_cells.now.cells c.args.places.now c.args.indices.now) at in
    let all : length c.put_five.new.to ≤ 5 * (last + 1) = omega (arith, c.put_five.ensures.long, c.loop-k.invariant.long, c.requires.long, c.K.ensures) in
    sym (take_all (5 * (last + 1)) c.put_five.new.to all) ∙ c.put_five.ensures.bytes ∙ ap (λ (z : List ℕ). z ++ c.five.result) front
    ∙ ap (λ (z : List ℕ). bytes_at c.args.label_cells.now.cells c.args.places.now c.args.indices.now last ++ z) c.five.ensures
    ∙ sym (one_at c.args.label_cells.now.cells c.args.places.now c.args.indices.now last) ∙ ap (bytes_at c.args.label_cells.now.cells c.args.places.now c.args.indices.now) end
