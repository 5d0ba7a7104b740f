use Rattle.std.proofs.Common.{◌+◌, ◌++◌, length, sym, ap, ◌∙◌, subst, arith, length-append}
use Rattle.inner_decoder.specs.Events.{ats}
use Rattle.inner_decoder.specs.Running.{BranchState}
use Rattle.reception.specs.Streams.{so_far}
use Rattle.rescue.specs.Kept.{seen}
use Rattle.rescue.specs.Seen.{StreamState}
use Rattle.rescue.specs.Standing.{StreamGave}
use Rattle.rescue.proofs.Rooms.{little}
use Rattle.rescue.proofs.Giving.{symbol_gave, ran_wait, length_ats}
use Rattle.rescue.proofs.stream.StreamRx.deliver.Goals as goal

pub push_pairs-requires-clause-waits : goal.push_pairs-requires-clause-waits
push_pairs-requires-clause-waits c = (little _ _ _ _ _ _ c.requires.ran.some.stands).waits

pub push_pairs-requires-clause-room : goal.push_pairs-requires-clause-room
push_pairs-requires-clause-room c =
    let s = c.requires.ran.some in
    let l = little _ s.a s.c s.given s.tally s.steps s.stands in
    omega (arith, l.waits, l.byte_margins, c.args.self.now.byte_margins.ok, c.requires.few, c.requires.room_kept.byte_margins)

pub pass_bytes-requires : goal.pass_bytes-requires
pass_bytes-requires c =
    let s = c.requires.ran.some in
    let l = little _ s.a s.c s.given s.tally s.steps s.stands in
    record { room = omega (arith, l.bytes, c.args.self.now.bytes.ok, c.requires.room_kept.bytes, ran_wait _ _ _ _ _ _ _ c.requires.ran.taken s.stands.has_given s.stands.few c.requires.few) }

pub give_words-requires-clause-few : goal.give_words-requires-clause-few
give_words-requires-clause-few c =
    let s = c.requires.ran.some in
    let l = little _ s.a s.c s.given s.tally s.steps s.stands in
    let p = c.pass_bytes.ensures.passed in
    omega (arith, l.bytes, c.pass_bytes.new.to.ok, ap length p.appended, length-append c.args.self.now.bytes.items p.more, p.long, ran_wait _ _ _ _ _ _ _ c.requires.ran.taken s.stands.has_given s.stands.few c.requires.few)

pub give_words-requires-clause-begun : goal.give_words-requires-clause-begun
give_words-requires-clause-begun c = (little _ _ _ _ _ _ c.requires.ran.some.stands).begun

pub returns-clause-fed : goal.returns-clause-fed
returns-clause-fed c = λ before run a s d t steps h.
    let x : StreamState = record (seen c.args.self.now) { branch = before } in
    let ran : BranchState = c.args.self.now.branch in
    let rest = c.pass_bytes.ensures.passed.rest in
    let es = ap (λ (z : BranchState). z.events) rest in
    let y : StreamState = record { branch = c.pass_bytes.new.branch; margins = c.push_pairs.new.margins; bytes = c.give_words.new.bytes.items; byte_margins = c.give_words.new.margins.items; words = c.give_words.new.words; unmerged = c.args.self.now.unmerged + length c.events.result.now } in
    subst (λ z. StreamGave so_far y a (s ++ c.args.pairs.now) d (steps ++ ats z) c.args.to.now.items c.give_words.new.to.items) (sym es)
    (symbol_gave x y ran _ c.pass_bytes.new.to.items c.push_pairs.new.to.items c.args.pairs.now c.args.to.now.items c.give_words.new.to.items run c.pass_bytes.ensures.passed c.pass_bytes.ensures.wait
    c.push_pairs.ensures.pushed c.push_pairs.ensures.waits c.push_pairs.ensures.behind c.give_words.ensures.gives (ap (λ z. c.args.self.now.unmerged + z) (ap length (c.events.ensures.events ∙ es) ∙ sym (length_ats ran.events))) a s d t steps h)

pub returns-clause-ready : goal.returns-clause-ready
returns-clause-ready c =
    let s = c.requires.ran.some in
    let y : StreamState = record { branch = c.pass_bytes.new.branch; margins = c.push_pairs.new.margins; bytes = c.give_words.new.bytes.items; byte_margins = c.give_words.new.margins.items; words = c.give_words.new.words; unmerged = c.args.self.now.unmerged + length c.events.result.now } in
    let es = ap (λ (z : BranchState). z.events) c.pass_bytes.ensures.passed.rest in
    let w = symbol_gave (record (seen c.args.self.now) { branch = c.requires.ran.before }) y c.args.self.now.branch _ c.pass_bytes.new.to.items c.push_pairs.new.to.items c.args.pairs.now c.args.to.now.items c.give_words.new.to.items c.requires.ran.taken
    c.pass_bytes.ensures.passed c.pass_bytes.ensures.wait c.push_pairs.ensures.pushed c.push_pairs.ensures.waits c.push_pairs.ensures.behind c.give_words.ensures.gives
    (ap (λ z. c.args.self.now.unmerged + z) (ap length (c.events.ensures.events ∙ es) ∙ sym (length_ats c.args.self.now.branch.events))) s.a s.c s.given s.tally s.steps s.stands in
    record {
      going = ap (λ (z : BranchState). z.decoder.ended) c.pass_bytes.ensures.passed.rest ∙ c.requires.ran.taken.going;
      margins = c.push_pairs.ensures.going;
      room = record {
        block = omega (arith, c.push_pairs.ensures.block, c.requires.room_kept.block);
        bytes = omega (arith, c.give_words.ensures.bytes, c.pass_bytes.ensures.capacity, c.requires.room_kept.bytes);
        byte_margins = omega (arith, c.give_words.ensures.margins, c.push_pairs.ensures.capacity, c.requires.room_kept.byte_margins);
      };
      some = record { a = s.a; c = s.c ++ c.args.pairs.now; given = s.given ++ w.written; tally = w.tally; steps = s.steps ++ ats c.args.self.now.branch.events; stands = w.stands };
    }
