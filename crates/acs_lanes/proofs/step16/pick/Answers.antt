use Rattle.std.proofs.Common.{get_or, ap, ◌∙◌, length}
use Rattle.acs_lanes.proofs.Sums16.{least_len, cost_at, marks_len, mark_at, mark_small}
use Rattle.acs_lanes.proofs.step16.pick.Goals as goal

pub bytes_of-requires : goal.bytes_of-requires
bytes_of-requires c =
    let f = c.requires.lens in
    let g = c.requires.odd_lens in
    mark_small c.args.even c.args.even_step c.args.odd c.args.odd_step f.costs_len f.steps_len g.costs_len g.steps_len f.fits g.fits

pub returns : goal.returns
returns c =
    let e = c.args.even in
    let s = c.args.even_step in
    let o = c.args.odd in
    let t = c.args.odd_step in
    let f = c.requires.lens in
    let g = c.requires.odd_lens in
    record {
      costs_len = least_len e s o t f.costs_len f.steps_len g.costs_len g.steps_len f.fits g.fits;
      marks_len = ap length c.bytes_of.ensures ∙ marks_len e s o t f.costs_len f.steps_len g.costs_len g.steps_len f.fits g.fits 255;
      cost = cost_at e s o t f.costs_len f.steps_len g.costs_len g.steps_len f.fits g.fits;
      marked = λ k l. ap (λ z. get_or z k 0) c.bytes_of.ensures ∙ mark_at e s o t f.costs_len f.steps_len g.costs_len g.steps_len f.fits g.fits 255 k l;
    }
