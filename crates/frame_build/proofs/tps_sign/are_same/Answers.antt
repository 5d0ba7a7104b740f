-- Words of the same fields are the same.
use Rattle.std.proofs.Common.{rules, ◌≡◌, ℕ, Bool, ap, ◌∙◌}
use Rattle.mode_set.specs.declared.modes.Shape.{Shape}
use Rattle.mode_set.specs.declared.modes.Hierarchy.{Hierarchy}
use Rattle.mode_set.specs.declared.modes.Rate.{Rate}
use Rattle.mode_set.specs.declared.modes.Guard.{Guard}
use Rattle.mode_set.specs.declared.modes.Mode.{Mode}
use Rattle.tps_word.specs.declared.word.TpsWord.{TpsWord}
use Rattle.frame_build.proofs.tps_sign.are_same.Goals as goal

made : ℕ → Bool → Shape → Hierarchy → Rate → Rate → Guard → Mode → ℕ → TpsWord
made frame with_cell shape hierarchy rate_hp rate_lp guard mode cell_byte =
    record { frame = frame; with_cell = with_cell; shape = shape; hierarchy = hierarchy; rate_hp = rate_hp; rate_lp = rate_lp; guard = guard; mode = mode; cell_byte = cell_byte }

same_word : (a b : TpsWord) → a.frame ≡ b.frame → a.with_cell ≡ b.with_cell → a.shape ≡ b.shape → a.hierarchy ≡ b.hierarchy → a.rate_hp ≡ b.rate_hp → a.rate_lp ≡ b.rate_lp → a.guard ≡ b.guard → a.mode ≡ b.mode → a.cell_byte ≡ b.cell_byte → a ≡ b
unfolding made
same_word a b ef ew es eh ep el eg em ec =
    ap (λ (z : ℕ). made z a.with_cell a.shape a.hierarchy a.rate_hp a.rate_lp a.guard a.mode a.cell_byte) ef
    ∙ ap (λ (z : Bool). made b.frame z a.shape a.hierarchy a.rate_hp a.rate_lp a.guard a.mode a.cell_byte) ew
    ∙ ap (λ (z : Shape). made b.frame b.with_cell z a.hierarchy a.rate_hp a.rate_lp a.guard a.mode a.cell_byte) es
    ∙ ap (λ (z : Hierarchy). made b.frame b.with_cell b.shape z a.rate_hp a.rate_lp a.guard a.mode a.cell_byte) eh
    ∙ ap (λ (z : Rate). made b.frame b.with_cell b.shape b.hierarchy z a.rate_lp a.guard a.mode a.cell_byte) ep
    ∙ ap (λ (z : Rate). made b.frame b.with_cell b.shape b.hierarchy b.rate_hp z a.guard a.mode a.cell_byte) el
    ∙ ap (λ (z : Guard). made b.frame b.with_cell b.shape b.hierarchy b.rate_hp b.rate_lp z a.mode a.cell_byte) eg
    ∙ ap (λ (z : Mode). made b.frame b.with_cell b.shape b.hierarchy b.rate_hp b.rate_lp b.guard z a.cell_byte) em
    ∙ ap (λ (z : ℕ). made b.frame b.with_cell b.shape b.hierarchy b.rate_hp b.rate_lp b.guard b.mode z) ec

pub returns : goal.returns
returns c = λ same.
    let a : TpsWord = c.args.one.now in
    let b : TpsWord = c.args.other.now in
    let frame : a.frame ≡ b.frame = search rules in
    let with_cell : a.with_cell ≡ b.with_cell = search rules in
    let shape : a.shape ≡ b.shape = search rules in
    let hierarchy : a.hierarchy ≡ b.hierarchy = search rules in
    let rate_hp : a.rate_hp ≡ b.rate_hp = search rules in
    let rate_lp : a.rate_lp ≡ b.rate_lp = search rules in
    let guard : a.guard ≡ b.guard = search rules in
    let mode : a.mode ≡ b.mode = search rules in
    let cell_byte : a.cell_byte ≡ b.cell_byte = search rules in
    same_word a b frame with_cell shape hierarchy rate_hp rate_lp guard mode cell_byte
