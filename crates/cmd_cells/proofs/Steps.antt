-- One more symbol of the cells, or the rest of them.
use Rattle.std.proofs.Common.{◌≡◌, ℕ, ◌+◌, ◌*◌, ◌<◌, ◌≤◌, Bool, true, false, List, [], ◌++◌, inl, length, take, drop, refl, ◌∙◌, sym, ap, subst, arith, length-append, append_assoc, Result, Ok, Err}
use Rattle.std.proofs.lemmas.List.{take-append-drop, drop_all, length-take-le}
use Rattle.std.proofs.Math.Seq.{take-append_seam, take-append-add}
use Rattle.station_core.specs.Meaning.{Meaning, Sink, sink_at}
use Rattle.cmd_cells.specs.declared.run_error.RunError.{RunError}
use Rattle.cmd_cells.specs.declared.run_error.RunError.TheVariants.{ReadFault, WriteFault, Limit}
use Rattle.cmd_cells.specs.declared.run_error.RunError.TheVariants as stops
use Rattle.cmd_cells.specs.Symbols.{symbols, tail, within_limit}
use Rattle.cmd_cells.specs.Work.{Gave, GaveFront, Holds, HoldsFront, Takes, Work, WritesOnly, Written}
use Rattle.cmd_cells.specs.Cells.{IsPast, IsStopped, IsWorking, Next, Stopped}
use Rattle.cmd_cells.proofs.Counting.{at_least, longer, no_tail, not_longer, one_more}
use Rattle.cmd_cells.proofs.Sinks.{fault_sink, read_sink}

-- bytes that do not complete a symbol add no output
abbrev pub PartLaw : Work → Type 0
PartLaw w = (bytes more : List ℕ) (given : Written) → tail w.size bytes + length more < w.size → w.Gives bytes given → w.Gives (bytes ++ more) given

-- n bytes were read of the cells
abbrev pub IsRead : ℕ → Meaning → Meaning → Type 0
IsRead n m m' = m' ≡ record m { cells = record m.cells { left = drop n m.cells.left } }

-- the bytes read and those then left are what was left before
rejoined : (bytes left : List ℕ) (n : ℕ) (file piece : List ℕ) → file ≡ bytes ++ left → piece ≡ take n left → file ≡ (bytes ++ piece) ++ drop n left
rejoined bytes left n file piece e p =
    e ∙ ap (λ (l : List ℕ). bytes ++ l) (sym (take-append-drop n left))
    ∙ ap (λ (l : List ℕ). bytes ++ (l ++ drop n left)) (sym p) ∙ sym (append_assoc bytes piece (drop n left))

-- the output of a call follows the earlier output
pub holds_more : (start m' m'' : Meaning) (given : Written) (Is : Written → Type 0) → Holds start m' given → m'.tells ≡ true → (g : Gave Is given m' m'') → Holds start m'' g.after
holds_more start m' m'' given Is held t g port =
    g.written t port ∙ ap (λ (l : List ℕ). l ++ g.more port) (held port) ∙ append_assoc (sink_at port start).written (given port) (g.more port)
    ∙ ap (λ (l : List ℕ). (sink_at port start).written ++ l) (sym (g.follows port))

pub holds_front : (start m' m'' : Meaning) (given : Written) (Is : Written → Type 0) → Holds start m' given → m'.tells ≡ true → (g : GaveFront Is given m' m'') → HoldsFront start m'' g.after
holds_front start m' m'' given Is held t g port =
    let f = g.written t port in
    let begun : List ℕ = given port in
    let base : List ℕ = (sink_at port start).written in (
      length begun + f.0,
      f.1 ∙ ap (λ (l : List ℕ). l ++ take f.0 (g.more port)) (held port) ∙ append_assoc base begun (take f.0 (g.more port))
          ∙ ap (λ (l : List ℕ). base ++ l) (sym (take-append-add begun (g.more port) f.0))
          ∙ ap (λ (l : List ℕ). base ++ take (length begun + f.0) l) (sym (g.follows port)),
    )

module _ (w : Work) (most : ℕ) (file bytes : List ℕ) (given : Written) (standing' : List ℕ → Written → Type 0) (start m m' m'' : Meaning) (n : ℕ)
    (are_before : m.tells ≡ true → file ≡ bytes ++ m.cells.left) (held_before : m.tells ≡ true → Holds start m given) (read : IsRead n m m') (piece : List ℕ) (piece_is : m.tells ≡ true → piece ≡ take n m.cells.left)
    (writes : WritesOnly m' m'') where
  tells' : m'.tells ≡ m.tells
  tells' = ap (λ (x : Meaning). x.tells) read

  tells'' : m''.tells ≡ m.tells
  tells'' = ap (λ (x : Meaning). x.tells) writes ∙ tells'

  before : m''.tells ≡ true → m.tells ≡ true
  before t = sym tells'' ∙ t

  pub left_is : m''.cells.left ≡ drop n m.cells.left
  left_is = ap (λ (x : Meaning). x.cells.left) writes ∙ ap (λ (x : Meaning). x.cells.left) read

  are : m''.tells ≡ true → file ≡ (bytes ++ piece) ++ m''.cells.left
  are t = rejoined bytes m.cells.left n file piece (are_before (before t)) (piece_is (before t)) ∙ ap (λ (l : List ℕ). (bytes ++ piece) ++ l) (sym left_is)

  held : m''.tells ≡ true → Holds start m' given
  held t port = ap (λ (x : Sink). x.written) (ap (sink_at port) read ∙ read_sink m (record m.cells { left = drop n m.cells.left }) port) ∙ held_before (before t) port

  pub goes_on : (g : Gave (λ after. standing' (bytes ++ piece) after × w.Gives (bytes ++ piece) after) given m' m'') → IsWorking w standing' file start m'' (bytes ++ piece) g.after
  goes_on g = record {
    stands = g.is.0;
    gives = g.is.1;
    are = are;
    holds = λ t. holds_more start m' m'' given _ (held t) (tells' ∙ before t) g;
  }

  pub fails : (stop : RunError) → symbols w.size (bytes ++ piece) ≤ most → Takes w standing' bytes piece given m' m'' (Err stop) → m''.tells ≡ true → Stopped w most file start m'' stop
  fails ReadFault within takes t = absurd takes
  fails WriteFault within takes t = record {
    given = takes.after;
    up = inl (record { taken = bytes ++ piece; rest = m''.cells.left; are = are t; within = within; gives = inl takes.is });
    holds = holds_front start m' m'' given _ (held t) (tells' ∙ before t) takes;
  }
  fails Limit within takes t = absurd takes
  fails (stops.Work r) within takes t = record {
    taken = bytes ++ piece;
    given = given;
    are = are t;
    within = within;
    refuses = takes.0 m''.cells.left;
    holds = λ port. takes.1 (tells' ∙ before t) port ∙ held t port;
  }

  -- once the cells ended, nothing is left
  pub at_end : (m.tells ≡ true → n ≡ length m.cells.left) → m''.tells ≡ true → m''.cells.left ≡ []
  at_end all t = let e : n ≡ length m.cells.left = all (before t) in left_is ∙ drop_all n m.cells.left (omega (arith, e))

-- a read failed after k bytes of the symbol
pub stopped : (w : Work) → 0 < w.size → PartLaw w → (most : ℕ) (file bytes : List ℕ) (given : Written) (standing : List ℕ → Written → Type 0) (start m m' : Meaning) (n k : ℕ) → n ≤ most
    → IsWorking w standing file start m bytes given → length bytes ≡ n * w.size → k < w.size → (m.tells ≡ true → k ≤ length m.cells.left)
    → m' ≡ record m { cells = record m.cells { left = drop k m.cells.left }; read_faults = m'.read_faults }
    → m'.tells ≡ true → IsStopped w most file start m'
stopped w some part most file bytes given standing start m m' n k few was size short within read t =
    let t0 : m.tells ≡ true = sym (ap (λ (x : Meaning). x.tells) read) ∙ t in
    let piece : List ℕ = take k m.cells.left in
    let count : length piece ≡ k = length-take-le k m.cells.left (within t0) in
    let none : tail w.size bytes ≡ 0 = no_tail w.size some bytes n size in
    let left : m'.cells.left ≡ drop k m.cells.left = ap (λ (x : Meaning). x.cells.left) read in
    let less : symbols w.size (bytes ++ piece) ≤ n = not_longer w.size some bytes piece n size (omega (arith, count, short)) in
    record {
      taken = bytes ++ piece;
      given = given;
      are = rejoined bytes m.cells.left k file piece (was.are t0) refl ∙ ap (λ (l : List ℕ). (bytes ++ piece) ++ l) (sym left);
      within = omega (arith, less, few);
      gives = part bytes piece given (omega (arith, count, none, short)) was.gives;
      holds = λ port. ap (λ (x : Sink). x.written) (ap (sink_at port) read ∙ fault_sink m (record m.cells { left = drop k m.cells.left }) m'.read_faults port) ∙ was.holds t0 port;
    }

-- one more symbol, or the rest of the cells
pub next_of : (w : Work) → 0 < w.size → (standing : List ℕ → Written → Type 0) (most : ℕ) (file : List ℕ) (n k : ℕ) (start m : Meaning) (bytes piece : List ℕ) (given : Written)
    → length bytes ≡ n * w.size → length piece ≡ k → IsWorking w standing file start m (bytes ++ piece) given → (k < w.size → m.tells ≡ true → m.cells.left ≡ [])
    → (b : Bool) → (b ≡ true → k ≡ w.size) → (b ≡ false → k < w.size) → Next w standing most file n start m (Ok b)
next_of w some standing most file n k start m bytes piece given size part is end true same less = (bytes ++ piece, given, is, longer w.size some bytes piece n size (part ∙ same refl))
next_of w some standing most file n k start m bytes piece given size part is end false same less =
    let short : k < w.size = less refl in
    (bytes ++ piece, given, is, not_longer w.size some bytes piece n size (omega (arith, part, short)), end short)

-- a whole symbol past the limit was read
pub past : (w : Work) → 0 < w.size → (standing : List ℕ → Written → Type 0) (most : ℕ) (file bytes : List ℕ) (given : Written) (start m m' : Meaning)
    → IsWorking w standing file start m bytes given → length bytes ≡ most * w.size → m.tells ≡ true → w.size ≤ length m.cells.left
    → (n : ℕ) → IsRead n m m' → IsPast w most file start m'
past w some standing most file bytes given start m m' was size t more n read =
    let are : file ≡ bytes ++ m.cells.left = was.are t in
    let within : within_limit most w.size file ≡ bytes =
    ap (λ (l : List ℕ). take (most * w.size) l) are ∙ ap (λ (k : ℕ). take k (bytes ++ m.cells.left)) (sym size) ∙ take-append_seam bytes m.cells.left in
    record {
      given = given;
      past = at_least w.size some file most (omega (arith, ap length are, length-append bytes m.cells.left, size, one_more most w.size, more));
      gives = subst (λ (l : List ℕ). w.Gives l given) (sym within) was.gives;
      holds = λ port. ap (λ (x : Sink). x.written) (ap (sink_at port) read ∙ read_sink m (record m.cells { left = drop n m.cells.left }) port) ∙ was.holds t port;
    }

-- a fact on the work's setup holds for the same setup later
pub moved : {T : Type 0} (s s' : T) (P : T → Type 0) → s' ≡ s → P s' → P s
moved s s' P e p = subst P e p
