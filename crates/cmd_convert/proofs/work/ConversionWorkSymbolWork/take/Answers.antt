use Rattle.std.proofs.Common.{◌≡◌, ◌+◌, ◌++◌, ℕ, List, [], length, refl, ◌∙◌, sym, ap, subst, arith}
use Rattle.station_core.specs.Meaning.{Meaning}
use Rattle.station_core.specs.declared.ports.OutPort.TheVariants as outs
use Rattle.cmd_base.specs.declared.refusal.Refusal.{Refusal}
use Rattle.cmd_cells.specs.Symbols.{symbols}
use Rattle.cmd_convert.specs.Conversion.{Conversion, new_file}
use Rattle.cmd_convert.specs.Working.{Counts, FirstGive, written_at}
use Rattle.cmd_convert.proofs.Files.{part, symbol}
use Rattle.cmd_convert.proofs.Calls.{cells_follow, nothing_wrote, wrote_cells}
use Rattle.cmd_convert.proofs.work.ConversionWorkSymbolWork.take.Goals as goal

pub write_some-requires : goal.write_some-requires
write_some-requires g c κs = ((refl, tt), (c.requires.open.made outs.Cells refl, c.requires.open.opened outs.Cells refl))

pub returns-then-piece-size-clause-takes : goal.returns-then-piece-size-clause-takes
returns-then-piece-size-clause-takes g c = λ bytes before stood gives none fits.
    let m : Meaning = g.S.Station.meaning c.args.station.now in
    let v : Conversion = g.C.Converter.conversion c.args.self.now.converter in
    let ready = g.C.Converter.is_ready c.args.self.now.converter in
    let piece : List ℕ = c.args.piece.now in
    let more : ℕ = length piece in
    let p = part v stood.1.some bytes piece (omega (arith, none, fits, c.if-piece-size.true, c.size.ensures)) in
    nothing_wrote (λ given. (ready × Counts v c.args.self.now.symbols more (bytes ++ piece) given) × FirstGive v (bytes ++ piece) given) before (written_at (new_file v (bytes ++ piece)) []) m (
      (stood.0, record { some = stood.1.some; whole = stood.1.whole ∙ sym p.0; behind = sym (p.1 ∙ (let e : 0 + more ≡ more = omega arith in ap (λ (z : ℕ). z + more) none ∙ e)); gives = λ port. refl }),
      (λ port. refl),
    )
    (λ port. ap (λ (cells : List ℕ). written_at cells [] port) p.2 ∙ sym (gives port))

pub returns-clause-takes : goal.returns-clause-takes
returns-clause-takes g c = λ bytes before stood gives none fits.
    let m : Meaning = g.S.Station.meaning c.args.station.now in
    let m' : Meaning = g.S.Station.meaning c.write_some.new.station in
    let v : Conversion = g.C.Converter.conversion c.args.self.now.converter in
    let v' : Conversion = g.C.Converter.conversion c.convert.new.self in
    let ready = g.C.Converter.is_ready c.convert.new.self in
    let piece : List ℕ = c.args.piece.now in
    let n : ℕ = c.args.self.now.symbols in
    let s = symbol v stood.1.some bytes piece none (c.if-piece-size.false ∙ c.size.ensures) in
    let gave : c.bytes.result.now ≡ v.new_symbol (symbols v.size bytes) piece = c.bytes.ensures ∙ c.convert.ensures.bytes ∙ ap (λ (z : ℕ). v.new_symbol z piece) stood.1.whole in
    let all : List ℕ = new_file v (bytes ++ piece) in
    let counted : Counts v (n + 1) c.args.self.now.tail (bytes ++ piece) (written_at all []) =
    record { some = stood.1.some; whole = ap (λ (z : ℕ). z + 1) stood.1.whole ∙ sym s.0; behind = stood.1.behind ∙ none ∙ sym s.1; gives = λ port. refl } in
    wrote_cells (λ given. ready × Counts v' (n + 1) c.args.self.now.tail (bytes ++ piece) given) (FirstGive v (bytes ++ piece)) (λ (r : Refusal). (left : List ℕ) → ⊥) before (written_at all [])
    (c.convert.ensures.ready, subst (λ (x : Conversion). Counts x (n + 1) c.args.self.now.tail (bytes ++ piece) (written_at all [])) (sym c.convert.ensures.same) counted) (λ port. refl) m m' c.bytes.result.now
    (cells_follow v bytes before all c.bytes.result.now gives (s.2 ∙ ap (λ (l : List ℕ). new_file v bytes ++ l) (sym gave))) c.write_some.result c.write_some.ensures.writes
