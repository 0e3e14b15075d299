use Rattle.std.proofs.Common.{[], ◌∷◌, refl}
use Rattle.std.specs.Prelude.{None}
use Rattle.prof_grammar.specs.Machine.{chars, nothing, settled, told}
use Rattle.prof_token.specs.Ahead.{IsNext}
use Rattle.prof_token.proofs.Journeys.{moves_trans, moves_pass, moves_here, moves_push, on_ok, on_ok_map, smaller_behind}
use Rattle.prof_token.proofs.Machines.{goes_trans, goes_byte}
use Rattle.prof_token.proofs.Turns as t
use Rattle.prof_token.proofs.Written.{writes_here, writes_on, writes_fault, writes_if}
use Rattle.prof_token.proofs.Owning.{owns_byte, owns_behind}
use Rattle.prof_token.proofs.string.read_pieces.Goals as goal

pub pieces-init : goal.pieces-init
pieces-init g c = record { moves = moves_here _ _; exact = λ begun k s ps h d. writes_here (λ t. chars k t None nothing ∷ ps) s h; waits = tt }

pub returns-in-Err-clause-moves : goal.returns-in-Err-clause-moves
returns-in-Err-clause-moves g c = moves_trans c.pieces.invariant.moves c.in-Err.ensures.moves

pub returns-in-Err-clause-exact : goal.returns-in-Err-clause-exact
returns-in-Err-clause-exact g c = λ begun k s ps h d.
    let w = c.pieces.invariant.exact begun k s ps h d in
    let high = c.pieces.high in
    writes_fault (goes_trans w.goes (c.in-Err.ensures.exact (chars k w.text high nothing ∷ ps) (t.chars_cut k w.text high nothing ps)))

pub returns-then-first-eq34-clause-moves : goal.returns-then-first-eq34-clause-moves
returns-then-first-eq34-clause-moves g c = moves_push c.push_lone.result c.push_lone.ensures.err (moves_pass (moves_trans c.pieces.invariant.moves c.in-Ok.ensures.moves) c.pass.ensures)

pub returns-then-first-eq34-clause-exact : goal.returns-then-first-eq34-clause-exact
returns-then-first-eq34-clause-exact g c = λ begun k s ps h d.
    let w = c.pieces.invariant.exact begun k s ps h d in
    let high = c.pieces.high in
    let needed = goes_trans w.goes (c.in-Ok.ensures.exact (chars k w.text high nothing ∷ ps) (t.chars_cut k w.text high nothing ps)) in
    let next : IsNext 34 c.need.new.self = rw c.if-first-eq34.true at c.in-Ok.ensures.byte in
    writes_if (λ t. told k t ∷ []) (λ t. ps) (settled w.text high) c.push_lone.result c.push_lone.ensures.err (on_ok_map c.push_lone.result (λ q. q begun w.text (w.kept refl)) c.push_lone.ensures.text)
    (goes_trans needed (goes_byte 34 next c.pass.ensures (t.quote_on k w.text high ps) d))

pub returns-in-Err-read_piece-clause-moves : goal.returns-in-Err-read_piece-clause-moves
returns-in-Err-read_piece-clause-moves g c = moves_trans (moves_trans c.pieces.invariant.moves c.in-Ok.ensures.moves) c.in-Err-read_piece.ensures.moves

pub returns-in-Err-read_piece-clause-exact : goal.returns-in-Err-read_piece-clause-exact
returns-in-Err-read_piece-clause-exact g c = λ begun k s ps h d.
    let w = c.pieces.invariant.exact begun k s ps h d in
    let high = c.pieces.high in
    let needed = goes_trans w.goes (c.in-Ok.ensures.exact (chars k w.text high nothing ∷ ps) (t.chars_cut k w.text high nothing ps)) in
    let v = c.in-Err-read_piece.ensures.exact begun k w.text ps (w.kept refl) d in
    writes_fault (goes_trans needed v.goes)

pub pieces-smaller : goal.pieces-smaller
pieces-smaller g c =
    smaller_behind c.pieces.input c.need.new.self c.read_piece.new.input c.in-Ok.ensures.moves.on c.in-Ok.ensures.moves.limit c.in-Ok.ensures.byte.room c.in-Ok-read_piece.ensures.further c.in-Ok-read_piece.ensures.moves.limit

pub pieces-preserved : goal.pieces-preserved
pieces-preserved g c = record {
  moves = moves_trans (moves_trans c.pieces.invariant.moves c.in-Ok.ensures.moves) c.in-Ok-read_piece.ensures.moves;
  exact = λ begun k s ps h d.
      let w = c.pieces.invariant.exact begun k s ps h d in
      let high = c.pieces.high in
      let needed = goes_trans w.goes (c.in-Ok.ensures.exact (chars k w.text high nothing ∷ ps) (t.chars_cut k w.text high nothing ps)) in
      writes_on needed (c.in-Ok-read_piece.ensures.exact begun k w.text ps (w.kept refl) d);
  waits = c.in-Ok-read_piece.ensures.waits;
}

pub returns-then-first-eq34-clause-own : goal.returns-then-first-eq34-clause-own
returns-then-first-eq34-clause-own g c =
    let next : IsNext 34 c.need.new.self = rw c.if-first-eq34.true at c.in-Ok.ensures.byte in
    on_ok c.push_lone.result (owns_behind (moves_trans c.pieces.invariant.moves c.in-Ok.ensures.moves) (owns_byte _ next refl c.pass.ensures))
