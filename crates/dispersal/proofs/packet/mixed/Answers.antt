use Rattle.std.proofs.Common.{◌≡◌, ◌*◌, ◌∷◌, ℕ, List, length, drop, ◌∙◌, ap, arith, length-drop}
use Rattle.dispersal.specs.Packet.{xor_from}
use Rattle.dispersal.proofs.Mixed.{put_behind, behind, length-xor_from}
use Rattle.dispersal.proofs.packet.mixed.Goals as goal

pub returns : goal.returns
returns c =
    let p = c.args.packet.now in
    let whole : length p ≡ 188 = c.told-packet in
    let rest = behind p c.args.sync whole in
    let mixed : c.mix.new.bytes ≡ xor_from (188 * c.args.phase) (drop 1 p) = c.mix.ensures ∙ ap (λ (l : List ℕ). xor_from (188 * c.args.phase) l) rest in
    let size : length c.mix.new.bytes ≡ 187 = omega (arith, ap length mixed, length-xor_from (drop 1 p) (188 * c.args.phase), length-drop 1 p) in
    put_behind p c.mix.new.bytes c.args.sync whole size ∙ ap (λ (l : List ℕ). c.args.sync ∷ l) mixed
