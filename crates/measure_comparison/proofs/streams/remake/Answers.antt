use Rattle.std.proofs.Common.{◌%◌}
use Rattle.std.specs.Prelude.{◌==◌}
use Rattle.mode_set.specs.Entries.{with_entry}
use Rattle.mode_set.specs.declared.modes.Stream.TheVariants.{Hp, Lp}
use Rattle.mode_set.specs.declared.settings.Settings.{Settings}
use Rattle.symbol_parameters.specs.Spans.{settings_at}
use Rattle.measure_comparison.proofs.Comparing.{labels_here, makes_here, moved_bits, moved_stands, ready_enough, still_long}
use Rattle.measure_comparison.proofs.streams.remake.Goals as goal

pub make_labels-requires-clause-hp : goal.make_labels-requires-clause-hp
make_labels-requires-clause-hp g c =
    let s : Settings = c.args.coder.now.settings in
    ready_enough c.steps.ensures.streams s (with_entry s c.args.entry.now) c.args.m c.args.hp.now c.args.lp.now c.requires.settings c.requires.ready Hp

pub make_labels-requires-clause-lp : goal.make_labels-requires-clause-lp
make_labels-requires-clause-lp g c =
    let s : Settings = c.args.coder.now.settings in
    ready_enough c.steps.ensures.streams s (with_entry s c.args.entry.now) c.args.m c.args.hp.now c.args.lp.now c.requires.settings c.requires.ready Lp

pub returns-clause-registers : goal.returns-clause-registers
returns-clause-registers g c =
    let s : Settings = c.args.coder.now.settings in
    let e = c.make_labels.ensures in
    still_long (with_entry s c.args.entry.now) (c.args.m % 2 == 1) c.args.coder.now c.make_labels.new.coder c.args.hp.now c.args.lp.now c.make_labels.new.hp c.make_labels.new.lp c.make_labels.new.labels.items c.requires.registers
    (ready_enough c.steps.ensures.streams s (with_entry s c.args.entry.now) c.args.m c.args.hp.now c.args.lp.now c.requires.settings c.requires.ready Hp)
    (ready_enough c.steps.ensures.streams s (with_entry s c.args.entry.now) c.args.m c.args.hp.now c.args.lp.now c.requires.settings c.requires.ready Lp)
    (record { hp_left = e.hp; lp_left = e.lp; made = e.labels; moved = e.next })

pub returns-clause-count : goal.returns-clause-count
returns-clause-count g c =
    let s : Settings = c.args.coder.now.settings in
    let e = c.make_labels.ensures in
    (labels_here c.steps.ensures.streams s (with_entry s c.args.entry.now) c.args.m (c.args.m % 2 == 1) c.args.coder.now c.make_labels.new.coder c.args.hp.now c.args.lp.now c.make_labels.new.hp c.make_labels.new.lp c.make_labels.new.labels.items c.requires.settings c.requires.ready c.requires.registers
    (record { hp_left = e.hp; lp_left = e.lp; made = e.labels; moved = e.next })).long

pub returns-clause-small : goal.returns-clause-small
returns-clause-small g c =
    let s : Settings = c.args.coder.now.settings in
    let e = c.make_labels.ensures in
    (labels_here c.steps.ensures.streams s (with_entry s c.args.entry.now) c.args.m (c.args.m % 2 == 1) c.args.coder.now c.make_labels.new.coder c.args.hp.now c.args.lp.now c.make_labels.new.hp c.make_labels.new.lp c.make_labels.new.labels.items c.requires.settings c.requires.ready c.requires.registers
    (record { hp_left = e.hp; lp_left = e.lp; made = e.labels; moved = e.next })).small

pub returns-clause-remade : goal.returns-clause-remade
returns-clause-remade g c = λ known h.
    let s : Settings = c.args.coder.now.settings in
    let e = c.make_labels.ensures in
    moved_bits c.steps.ensures.streams s c.args.m c.args.hp.now c.args.lp.now c.make_labels.new.hp c.make_labels.new.lp c.args.coder.now c.make_labels.new.coder known c.make_labels.new.labels.items c.requires.ready
    (makes_here (with_entry s c.args.entry.now) (settings_at s c.args.m) (c.args.m % 2 == 1) c.args.coder.now c.make_labels.new.coder c.args.hp.now c.args.lp.now c.make_labels.new.hp c.make_labels.new.lp c.make_labels.new.labels.items c.requires.settings
    (record { hp_left = e.hp; lp_left = e.lp; made = e.labels; moved = e.next })) h

pub returns-clause-passed : goal.returns-clause-passed
returns-clause-passed g c = λ known h.
    let s : Settings = c.args.coder.now.settings in
    let e = c.make_labels.ensures in
    moved_stands c.steps.ensures.next c.steps.ensures.streams s c.args.m c.args.hp.now c.args.lp.now c.make_labels.new.hp c.make_labels.new.lp c.args.coder.now c.make_labels.new.coder known c.make_labels.new.labels.items c.requires.ready
    (makes_here (with_entry s c.args.entry.now) (settings_at s c.args.m) (c.args.m % 2 == 1) c.args.coder.now c.make_labels.new.coder c.args.hp.now c.args.lp.now c.make_labels.new.hp c.make_labels.new.lp c.make_labels.new.labels.items c.requires.settings
    (record { hp_left = e.hp; lp_left = e.lp; made = e.labels; moved = e.next })) h
