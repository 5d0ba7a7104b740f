use Rattle.std.proofs.Common.{ℕ, ◌≡◌, take, refl, sym, ◌∙◌, ap, subst}
use Rattle.tps_word.specs.Vote.{vote, tps_cells_of}
use Rattle.inner_receiver.proofs.Voting.{noted}
use Rattle.inner_receiver.proofs.frames.FrameReader.note.Goals as goal

pub returns-clause-voted : goal.returns-clause-voted
returns-clause-voted c = λ shown n e h.
    noted c.args.mode c.args.self.now _ shown n c.vote-bit.result c.put_bit.ensures.long c.requires.symbol c.put_bit.ensures.set refl refl refl
    (subst (λ (k : ℕ). take k c.take_tps_cells-count.new.to ≡ tps_cells_of c.args.mode c.args.cells.now) c.take_tps_cells-count.ensures.number c.take_tps_cells-count.ensures.taken ∙ sym e)
    (c.vote-bit.ensures ∙ ap (λ (k : ℕ). vote (take k c.args.self.now.before) (take k c.take_tps_cells-count.new.to)) c.take_tps_cells-count.ensures.number) h
