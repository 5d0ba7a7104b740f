use Rattle.std.proofs.Common.{◌≡◌, append-nil, length, subst, take}
use Rattle.bit_pack.specs.Queue.{bits_of_bytes}
use Rattle.survivor_ring.specs.Ring.{trace}
use Rattle.survivor_ring.proofs.Walks.{traces_dropped, given_any}
use Rattle.survivor_ring.proofs.ring.RingSurvivorsSurvivors.give.Goals as goal

pub returns-clause-list : goal.returns-clause-list
returns-clause-list g c = λ n l t. traces_dropped c.args.self.now.words.items _ c.args.number n c.drop_words.ensures.items

pub returns-clause-given : goal.returns-clause-given
returns-clause-given g c =
    let ws = c.args.self.now.words.items in
    given_any ws c.args.self.now.states c.lowest.result c.args.number (bits_of_bytes c.trace_back.new.bytes) _ _ c.lowest.ensures.below c.lowest.ensures.lives c.requires.within
    (subst (λ z. take (length z) (bits_of_bytes c.trace_back.new.bytes) ≡ trace z c.lowest.result) (append-nil ws) c.trace_back.ensures.bits) c.append_traced.ensures.bits c.requires.alike
