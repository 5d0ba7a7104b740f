use Rattle.std.proofs.Common.{length, refl, ap, arith, length-append}
use Rattle.rescue.specs.Kept.{seen}
use Rattle.rescue.specs.Seen.{StreamState}
use Rattle.rescue.proofs.Rooms.{little}
use Rattle.rescue.proofs.Giving.{finish_gave, ended_wait}
use Rattle.rescue.proofs.stream.StreamRx.finish.Goals as goal

pub returns-clause-ended_stream : goal.returns-clause-ended_stream
returns-clause-ended_stream c = λ a s d t steps h.
    let y : StreamState = record { branch = c.pass_bytes.new.branch; margins = c.end_margins.new.margins; bytes = c.give_words.new.bytes.items; byte_margins = c.give_words.new.margins.items; words = c.give_words.new.words; unmerged = c.args.self.now.unmerged } in
    finish_gave (seen c.args.self.now) y c.end.new.branch _ c.pass_bytes.new.to.items c.end_margins.new.to.items c.args.to.now.items c.give_words.new.to.items c.end.ensures.ended c.pass_bytes.ensures.passed c.pass_bytes.ensures.wait
    c.end_margins.ensures.ends c.give_words.ensures.gives refl a s d t steps h

pub end-requires-clause-going : goal.end-requires-clause-going
end-requires-clause-going c = c.requires.ready.going

pub end-requires-clause-loaded : goal.end-requires-clause-loaded
end-requires-clause-loaded c = c.requires.ready.some.stands.loaded

pub end-requires-clause-wait : goal.end-requires-clause-wait
end-requires-clause-wait c = c.requires.ready.some.stands.few

pub end_margins-requires-clause-going : goal.end_margins-requires-clause-going
end_margins-requires-clause-going c = c.requires.ready.margins

pub end_margins-requires-clause-waits : goal.end_margins-requires-clause-waits
end_margins-requires-clause-waits c = (little _ _ _ _ _ _ c.requires.ready.some.stands).waits

pub end_margins-requires-clause-block : goal.end_margins-requires-clause-block
end_margins-requires-clause-block c = c.requires.ready.room.block

pub end_margins-requires-clause-room : goal.end_margins-requires-clause-room
end_margins-requires-clause-room c = omega (arith, (little _ _ _ _ _ _ c.requires.ready.some.stands).byte_margins, c.args.self.now.byte_margins.ok, c.requires.ready.room.byte_margins)

pub pass_bytes-requires : goal.pass_bytes-requires
pass_bytes-requires c =
    let s = c.requires.ready.some in
    record { room = omega (arith, (little _ _ _ _ _ _ s.stands).bytes, c.args.self.now.bytes.ok, c.requires.ready.room.bytes, ended_wait _ _ _ _ _ _ c.end.ensures.ended s.stands.has_given s.stands.few) }

pub give_words-requires-clause-few : goal.give_words-requires-clause-few
give_words-requires-clause-few c =
    let s = c.requires.ready.some in
    let p = c.pass_bytes.ensures.passed in
    omega (arith, (little _ _ _ _ _ _ s.stands).bytes, c.pass_bytes.new.to.ok, ap length p.appended, length-append c.args.self.now.bytes.items p.more, p.long, ended_wait _ _ _ _ _ _ c.end.ensures.ended s.stands.has_given s.stands.few)

pub give_words-requires-clause-begun : goal.give_words-requires-clause-begun
give_words-requires-clause-begun c = (little _ _ _ _ _ _ c.requires.ready.some.stands).begun
