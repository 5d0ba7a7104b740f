use Rattle.std.proofs.Common.{refl, sym, subst}
use Rattle.inner_decoder.specs.declared.decoder.StartState.{StartState}
use Rattle.inner_decoder.specs.Starts.{start_of}
use Rattle.bit_margin.specs.Sums.{Appended}
use Rattle.bit_margin.proofs.Passes.{rest_low}
use Rattle.bit_margin.proofs.windows.push_block.Goals as goal

pub keep_backward-requires-clause-behind : goal.keep_backward-requires-clause-behind
keep_backward-requires-clause-behind c = rest_low c.args.window.now c.args.block c.args.block c.sums_over-behind.result refl c.sums_over-behind.ensures

pub returns-in-Any-clause-margins : goal.returns-in-Any-clause-margins
returns-in-Any-clause-margins c = subst (λ (s : StartState). Appended (start_of s) c.args.window.now c.args.block c.args.to.now.items c.push_low.new.to.items) (sym c.in-Any.is) c.push_low.ensures.margins

pub returns-in-Zero-clause-margins : goal.returns-in-Zero-clause-margins
returns-in-Zero-clause-margins c = subst (λ (s : StartState). Appended (start_of s) c.args.window.now c.args.block c.args.to.now.items c.push_first.new.to.items) (sym c.in-Zero.is) c.push_first.ensures.margins
