use Rattle.std.proofs.Common.{inl, inr, refl, ◌∙◌, sym, arith}
use Rattle.station_core.specs.Meaning.{Meaning}
use Rattle.station_core.specs.declared.ports.OutPort.TheVariants as outs
use Rattle.cmd_align.proofs.Copied.{counted, handed, passed}
use Rattle.cmd_align.proofs.copying.Copying.take.Goals as goal

pub write_some-requires : goal.write_some-requires
write_some-requires g c κs = ((refl, tt), (c.requires.open.made outs.Cells refl, c.requires.open.opened outs.Cells refl))

pub returns-then-piece-size-clause-takes : goal.returns-then-piece-size-clause-takes
returns-then-piece-size-clause-takes g c = λ s found bytes given size is gives none few.
    let m : Meaning = g.S.Station.meaning c.args.station.now in
    passed s found c.args.self.now _ bytes c.args.piece.now given none is gives c.symbols.ensures.same c.symbols.ensures.next m (omega (arith, few, size)) (omega (arith, c.if-self-gt0.true))
    (inl (c.if-piece-size.true ∙ size, omega (arith, c.if-self-gt0.true))) refl refl

pub returns-else-piece-size-clause-takes : goal.returns-else-piece-size-clause-takes
returns-else-piece-size-clause-takes g c = λ s found bytes given size is gives none few.
    let m : Meaning = g.S.Station.meaning c.args.station.now in
    passed s found c.args.self.now c.args.self.now bytes c.args.piece.now given none is gives c.symbols.ensures.same c.symbols.ensures.next m (omega (arith, few, size)) (omega (arith, c.if-self-gt0.true))
    (inr ((λ e. c.if-piece-size.false (e ∙ sym size)), refl)) refl refl

pub returns-then-piece-size-2-clause-takes : goal.returns-then-piece-size-2-clause-takes
returns-then-piece-size-2-clause-takes g c = λ s found bytes given size is gives none few.
    let m : Meaning = g.S.Station.meaning c.args.station.now in
    counted s found c.args.self.now _ bytes c.args.piece.now given none is gives c.symbols.ensures.same m (omega (arith, few, size, c.if-piece-size-2.true)) (omega (arith, c.if-self-gt0.false)) refl refl refl

pub returns-clause-takes : goal.returns-clause-takes
returns-clause-takes g c = λ s found bytes given size is gives none few.
    let m : Meaning = g.S.Station.meaning c.args.station.now in
    let m' : Meaning = g.S.Station.meaning c.write_some.new.station in
    handed s found c.args.self.now _ bytes c.args.piece.now given none is gives c.symbols.ensures.next m m' c.write_some.result (c.if-piece-size-2.false ∙ size) (omega (arith, c.if-self-gt0.false)) refl refl refl c.write_some.ensures.writes
