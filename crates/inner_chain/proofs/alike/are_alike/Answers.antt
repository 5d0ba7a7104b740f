use Rattle.std.proofs.Common.{rules, ◌≡◌}
use Rattle.inner_chain.proofs.SameParameters.{alike}
use Rattle.inner_chain.proofs.alike.are_alike.Goals as goal

pub returns : goal.returns
returns c = λ same s.
    let shape : c.args.one.now.shape ≡ c.args.other.now.shape = search rules in
    let hierarchy : c.args.one.now.hierarchy ≡ c.args.other.now.hierarchy = search rules in
    let rate_hp : c.args.one.now.rate_hp ≡ c.args.other.now.rate_hp = search rules in
    let rate_lp : c.args.one.now.rate_lp ≡ c.args.other.now.rate_lp = search rules in
    alike s c.args.one.now c.args.other.now shape hierarchy rate_hp rate_lp
