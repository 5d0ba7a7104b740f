-- From change to change.
use Rattle.std.proofs.Common.{◌≡◌, ◌-◌, ◌<◌, ℕ, length, sym, ap, ◌∙◌, subst, arith}
use Rattle.mode_set.specs.Entries.{entry, with_entry}
use Rattle.mode_set.specs.PlanList.{filler}
use Rattle.mode_set.specs.Plans.{entries_of}
use Rattle.mode_set.specs.StreamTable.{words_per_super_frame}
use Rattle.mode_set.specs.declared.entry.Entry.{Entry}
use Rattle.mode_set.specs.declared.modes.Stream.{Stream}
use Rattle.mode_set.specs.declared.settings.Settings.{Settings}
use Rattle.spec_words.specs.Words.{rounded_up}
use Rattle.modulator.specs.Carrying.{IsLeastFor}
use Rattle.modulator.proofs.Changes.{alike_later, alike_to_next, before_all, found_least, go_on, none_least}
use Rattle.modulator.proofs.super_frames.super_frames_for.Goals as goal

pub loop-i-init : goal.loop-i-init
loop-i-init c =
    let none = c.words.ensures.none c.args.settings.now c.args.stream in
    (sym none, c.requires.some, before_all (entries_of c.args.settings.now.plan) c.args.settings.now.plan.kept.rising)

-- the words of a super-frame, from the calls that return them
words_are : (s w : Settings) (e : Entry) (σ : Stream) (start words : ℕ) → e ≡ entry s start → w ≡ with_entry s e → words ≡ words_per_super_frame w σ → words ≡ words_per_super_frame (with_entry s (entry s start)) σ
words_are s w e σ start words is made are = are ∙ ap (λ (z : Settings). words_per_super_frame z σ) made ∙ ap (λ (x : Entry). words_per_super_frame (with_entry s x) σ) is

pub overflow_sub-span : goal.overflow_sub-span
overflow_sub-span c =
    let s = c.args.settings.now in
    (alike_to_next c.settings.ensures.parameters s c.args.stream c.loop-i.i c.loop-i.start c.get.result.after c.words_per_super_frame-words.result s.plan.kept.rising c.loop-i.invariant.2 (omega (arith, c.loop-i-test.true, c.len-i-end.ensures.is))
    (ap (λ (e : Entry). e.after) (c.get.ensures filler)) (words_are s c.with_entry.result c.entry.result c.args.stream c.loop-i.start _ c.entry.ensures.is c.with_entry.ensures c.words_per_super_frame-words.ensures.words)).0

pub returns-in-Some : goal.returns-in-Some
returns-in-Some c =
    let s = c.args.settings.now in
    let alike = alike_to_next c.settings.ensures.parameters s c.args.stream c.loop-i.i c.loop-i.start c.get.result.after c.words_per_super_frame-words.result s.plan.kept.rising c.loop-i.invariant.2 (omega (arith, c.loop-i-test.true, c.len-i-end.ensures.is))
    (ap (λ (e : Entry). e.after) (c.get.ensures filler)) (words_are s c.with_entry.result c.entry.result c.args.stream c.loop-i.start _ c.entry.ensures.is c.with_entry.ensures c.words_per_super_frame-words.ensures.words) in
    let found = c.in-Some.ensures.found in
    found_least c.words.ensures.grow c.words.ensures.next s c.args.stream c.loop-i.start c.words_per_super_frame-words.result c.args.wanted (c.get.result.after - c.loop-i.start) c.in-Some.more
    (subst (λ (z : ℕ). z < c.args.wanted) c.loop-i.invariant.0 c.loop-i.invariant.1) alike.1 found.0
    (found.1 ∙ ap (λ (z : ℕ). rounded_up (c.args.wanted - z) c.words_per_super_frame-words.result) c.loop-i.invariant.0) found.2

pub loop-i-preserved : goal.loop-i-preserved
loop-i-preserved c =
    let s = c.args.settings.now in
    let at = ap (λ (e : Entry). e.after) (c.get.ensures filler) in
    let less : c.loop-i.i < length (entries_of s.plan) = omega (arith, c.loop-i-test.true, c.len-i-end.ensures.is) in
    let alike = alike_to_next c.settings.ensures.parameters s c.args.stream c.loop-i.i c.loop-i.start c.get.result.after c.words_per_super_frame-words.result s.plan.kept.rising c.loop-i.invariant.2 less
    at (words_are s c.with_entry.result c.entry.result c.args.stream c.loop-i.start _ c.entry.ensures.is c.with_entry.ensures c.words_per_super_frame-words.ensures.words) in
    go_on c.words.ensures.next s c.args.stream c.loop-i.i c.loop-i.start c.get.result.after c.words_per_super_frame-words.result c.loop-i.carried c.args.wanted s.plan.kept.rising c.loop-i.invariant.2 less
    at alike.0 alike.1 c.loop-i.invariant.0 c.loop-i.invariant.1 c.in_default.ensures.none

pub returns-in_err-more : goal.returns-in_err-more
returns-in_err-more c =
    let s = c.args.settings.now in
    let alike = alike_later c.settings.ensures.parameters s c.args.stream c.loop-i.i c.loop-i.start c.words_per_super_frame-words-2.result c.loop-i.invariant.2 (omega (arith, c.loop-i-test.false, c.len-i-end.ensures.is))
    (words_are s c.with_entry-2.result c.entry-2.result c.args.stream c.loop-i.start _ c.entry-2.ensures.is c.with_entry-2.ensures c.words_per_super_frame-words-2.ensures.words) in
    subst (IsLeastFor s c.args.stream c.args.wanted) (sym c.from_residual.ensures)
    (none_least c.words.ensures.grow c.words.ensures.next s c.args.stream c.loop-i.start c.words_per_super_frame-words-2.result c.args.wanted (subst (λ (z : ℕ). z < c.args.wanted) c.loop-i.invariant.0 c.loop-i.invariant.1) alike c.in_err-more.ensures.none)

pub returns : goal.returns
returns c =
    let s = c.args.settings.now in
    let found = c.in_ok-more.ensures.found in
    let alike = alike_later c.settings.ensures.parameters s c.args.stream c.loop-i.i c.loop-i.start c.words_per_super_frame-words-2.result c.loop-i.invariant.2 (omega (arith, c.loop-i-test.false, c.len-i-end.ensures.is))
    (words_are s c.with_entry-2.result c.entry-2.result c.args.stream c.loop-i.start _ c.entry-2.ensures.is c.with_entry-2.ensures c.words_per_super_frame-words-2.ensures.words) in
    found_least c.words.ensures.grow c.words.ensures.next s c.args.stream c.loop-i.start c.words_per_super_frame-words-2.result c.args.wanted c.in_ok-more.more c.in_ok-more.more
    (subst (λ (z : ℕ). z < c.args.wanted) c.loop-i.invariant.0 c.loop-i.invariant.1) (alike c.in_ok-more.more) found.0
    (found.1 ∙ ap (λ (z : ℕ). rounded_up (c.args.wanted - z) c.words_per_super_frame-words-2.result) c.loop-i.invariant.0) (omega arith)
