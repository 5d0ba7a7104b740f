use Rattle.std.proofs.Common.{ℕ, ◌+◌, ◌^◌, ◌++◌, length, sym, ap, ◌∙◌, subst, arith}
use Rattle.inner_decoder.specs.Events.{ats}
use Rattle.inner_decoder.specs.Running.{BranchState}
use Rattle.reception.specs.Streams.{so_far}
use Rattle.receiver.specs.Ready.{IsReady, seen}
use Rattle.receiver.specs.Standing.{StreamGave}
use Rattle.receiver.specs.declared.stream.StreamRx.{StreamRx}
use Rattle.receiver.proofs.Pending.{few_more}
use Rattle.receiver.proofs.Stepping.{symbol_gave, length_ats}
use Rattle.receiver.proofs.stream.StreamRx.deliver.Goals as goal

pub report-requires : goal.report-requires
report-requires g c = record { few = few_more _ (2 ^ 60 + 24) (2 ^ 62) (omega arith) (c.give.ensures.few (2 ^ 60) c.requires.counts) }

pub returns-clause-ready : goal.returns-clause-ready
returns-clause-ready g c =
    subst IsReady (sym c.report.ensures.counted) (record {
      going = ap (λ (z : BranchState). z.decoder.ended) c.give.ensures.rest ∙ c.requires.may.going;
      loaded = ap (λ (z : BranchState). z.loaded) c.give.ensures.rest ∙ c.requires.may.loaded;
      wait = c.give.ensures.wait;
      none = c.give.ensures.none;
      slots = omega (arith, c.give.ensures.slots, c.requires.may.slots);
      started = c.give.ensures.started;
    })

pub returns-clause-counts : goal.returns-clause-counts
returns-clause-counts g c = λ n h. few_more _ (n + 24 + 16) (n + 40) (omega arith) (c.report.ensures.few (n + 24) (c.give.ensures.few n h))

pub returns-clause-fed : goal.returns-clause-fed
returns-clause-fed g c = λ before xs run a s d t r h.
    let x = c.give.new.self in
    let ran : BranchState = c.args.self.now.branch in
    let same = ap (λ (z : BranchState). z.events) c.give.ensures.rest in
    let gave = symbol_gave before ran x.branch c.args.self.now.outer x.outer c.args.self.now.counts x.counts (record x.counts { unmerged = x.counts.unmerged + length x.branch.events }) xs c.args.to.now.items c.give.new.to.items
    run c.give.ensures.rest c.give.ensures.wait c.give.ensures.gives
    (ap (λ (k : ℕ). record x.counts { unmerged = x.counts.unmerged + k }) (ap length same ∙ sym (length_ats ran.events))) a s d t r h in
    subst (λ (z : StreamRx). StreamGave so_far (seen z) a (s ++ xs) d (r ++ ats z.branch.events) c.args.to.now.items c.give.new.to.items) (sym c.report.ensures.counted)
    (subst (λ es. StreamGave so_far (seen (record x { counts = record x.counts { unmerged = x.counts.unmerged + length x.branch.events } })) a (s ++ xs) d (r ++ ats es) c.args.to.now.items c.give.new.to.items) (sym same) gave)
