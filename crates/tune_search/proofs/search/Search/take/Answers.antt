use Rattle.std.proofs.Common.{◌≡◌, ℕ, List, [], ◌∷◌, ◌++◌, length, take, ◌∙◌, sym, ap, ap₂, subst, arith}
use Rattle.std.specs.Prelude.{IfNone}
use Rattle.std.proofs.lemmas.List.{length_push, take_all}
use Rattle.frame_build.specs.Symbol.{cells_from}
use Rattle.mode_set.specs.StreamTable.{carriers}
use Rattle.mode_set.specs.declared.modes.Mode.{Mode}
use Rattle.qam_map.specs.declared.cell.Cell.{Cell}
use Rattle.reception.specs.Cells.{symbols, symbol_cells}
use Rattle.reception.specs.Laws.{EndsSymbol, IsWithin}
use Rattle.tune_in.specs.OfBytes.{symbols_of}
use Rattle.tune_in.specs.Tuning.{Answers, StandsFor}
use Rattle.tune_search.proofs.Searched.{cells_are, not_whole, whole}
use Rattle.tune_search.proofs.search.Search.take.Goals as goal

pub returns-then-piece-K : goal.returns-then-piece-K
returns-then-piece-K g c = record {
  takes = λ s bytes mode is none fits.
      let many : carriers s.mode ≡ g.M.Carriers.K = ap carriers mode ∙ sym g.M.Carriers.k_of in
      let within : IsWithin s bytes c.args.piece.now = omega (arith, none, fits, c.if-piece-K.true, c.K.ensures, many) in
      not_whole c.symbols.ensures.same c.symbols.ensures.cells c.symbols_of_bytes.ensures.none s c.args.self.now.tuner c.args.self.now.symbol bytes c.args.piece.now within is;
  place = tt;
  word = tt;
}

pub returns : goal.returns
returns g c = record {
  takes = λ s bytes mode is none fits.
      let piece : List ℕ = c.args.piece.now in
      let many : carriers s.mode ≡ g.M.Carriers.K = ap carriers mode ∙ sym g.M.Carriers.k_of in
      let ends : EndsSymbol s bytes piece = omega (arith, none, c.if-piece-K.false, c.K.ensures, many) in
      let empty : length c.args.self.now.symbol ≡ 0 = ap length is.empty in
      let all : length piece ≡ c.take.result = omega (arith, c.take.ensures.count, c.if-piece-K.false, c.K.ensures, empty) in
      let symbol : c.take.new.self ≡ piece = c.take.ensures.taken ∙ ap (λ (l : List ℕ). l ++ take c.take.result piece) is.empty ∙ take_all c.take.result piece (omega (arith, all)) in
      let shown : c.cells.result.now ≡ symbol_cells s (bytes ++ piece) (symbols s bytes) =
      c.cells.ensures.cells ∙ ap₂ cells_from symbol (sym many) ∙ cells_are c.symbols.ensures.tail c.symbols.ensures.ended s bytes piece none ends in
      let added = c.more_bytes.ensures.added s bytes piece ends in
      let list : symbols_of s bytes ++ c.cells.result.now ∷ [] ≡ symbols_of s (bytes ++ piece) = ap (λ (x : List Cell). symbols_of s bytes ++ x ∷ []) shown ∙ sym added in
      let before : StandsFor g.M.Carriers.MODE c.args.self.now.tuner (symbols_of s bytes) = subst (λ (m : Mode). StandsFor m c.args.self.now.tuner (symbols_of s bytes)) mode is.stands in
      let long : length (symbols_of s (bytes ++ piece)) ≡ symbols s (bytes ++ piece) =
      (let one = length_push (symbols_of s bytes) c.cells.result.now in let count : length (symbols_of s bytes ++ c.cells.result.now ∷ []) ≡ length (symbols_of s (bytes ++ piece)) = ap length list in
      omega (arith, one, count, is.number, is.stands.keeps.number, (c.symbols.ensures.next s bytes piece ends).0)) in
      whole c.symbols.ensures.next c.symbols_of_bytes.ensures.found c.symbols_of_bytes.ensures.none s c.args.self.now.tuner c.symbol-found.new.self c.next.new.self bytes piece c.symbol-found.result ends is.number long c.next.ensures
      (subst (λ (l : List (List Cell)). Answers s.mode l c.symbol-found.result) list (subst (λ (m : Mode). Answers m (symbols_of s bytes ++ c.cells.result.now ∷ []) c.symbol-found.result) (sym mode) (c.symbol-found.ensures.answer (symbols_of s bytes) before)))
      (subst (λ (l : List (List Cell)). IfNone c.symbol-found.result (StandsFor s.mode c.symbol-found.new.self l)) list (subst (λ (m : Mode). IfNone c.symbol-found.result (StandsFor m c.symbol-found.new.self (symbols_of s bytes ++ c.cells.result.now ∷ []))) (sym mode) (c.symbol-found.ensures.stands (symbols_of s bytes) before)))
      c.symbol-found.ensures.symbols c.symbol-found.ensures.found c.symbol-found.ensures.place c.symbol-found.ensures.word;
  place = c.symbol-found.ensures.place;
  word = c.symbol-found.ensures.word;
}
