use Rattle.std.proofs.Common.{ℕ, List, ◌∙◌, ap}
use Rattle.rand_pcg.specs.Lcg.{Lcg}
use Rattle.load_gen.specs.Draws.{after, packet_of}
use Rattle.load_gen.proofs.Drawn.{filled, drawn, cleared, put_behind}
use Rattle.load_gen.proofs.load.Load.packet.Goals as goal

pub returns-clause-value : goal.returns-clause-value
returns-clause-value c =
    let bytes = ap (λ (p : List ℕ × Lcg). p.0) c.fill_bytes_via_u32.ensures ∙ filled c.self.inside.words in
    c.in-Ok.ensures.packet ∙ cleared c.self.inside.words _ (put_behind _ _ bytes) ∙ ap packet_of c.self.view_is

pub returns-clause-next : goal.returns-clause-next
returns-clause-next c = ap (λ (p : List ℕ × Lcg). p.1) c.fill_bytes_via_u32.ensures ∙ drawn _ ∙ ap (after 47) c.self.view_is
