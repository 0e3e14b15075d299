use Rattle.std.proofs.Common.{◌≡◌, [], ◌∷◌, true, false, refl, arith}
use Rattle.std.specs.Prelude.{None}
use Rattle.std.proofs.lemmas.Grind.{common_steps}
use Rattle.prof_token.specs.Bytes.{is_digit}
use Rattle.prof_token.proofs.Journeys.{moves_trans, moves_pass, moves_here, on_ok, on_ok_map}
use Rattle.prof_token.proofs.Texts.{adds_some}
use Rattle.prof_token.proofs.Machines.{goes_wrong}
use Rattle.prof_token.proofs.Turns as t
use Rattle.prof_token.proofs.Written.{writes_on, writes_fault}
use Rattle.prof_grammar.specs.Machine.{digits}
use Rattle.prof_token.proofs.Owning.{any_trans, owns_any}
use Rattle.prof_token.proofs.number.read_some_digits.Goals as goal

pub read_run-requires-clause-digit : goal.read_run-requires-clause-digit
read_run-requires-clause-digit g c = grind (arith, common_steps, c.is_digit.ensures)

pub returns-then-not-is_digit-clause-exact : goal.returns-then-not-is_digit-clause-exact
returns-then-not-is_digit-clause-exact g c = λ begun n n2 s ps w r h d.
    let no : is_digit c.args.first ≡ false = grind (arith, common_steps, c.is_digit.ensures) in
    writes_fault (goes_wrong {b = c.args.input.now} {m = None} {qs = ps} {es = []} c.args.first c.requires (t.number_wrong n s ps c.args.first (w.off no) w.more) c.wrong.ensures)

pub returns-clause-moves : goal.returns-clause-moves
returns-clause-moves g c = moves_trans (moves_pass (moves_here _ _) c.in_ok-read_run.ensures.run.2) c.read_digits.ensures.moves

pub returns-clause-text : goal.returns-clause-text
returns-clause-text g c =
    let is : is_digit c.args.first ≡ true = grind (arith, common_steps, c.is_digit.ensures) in
    let t = c.in_ok-read_run.ensures.text in
    on_ok_map c.read_digits.result (adds_some t.0 is t.1 t.2) c.read_digits.ensures.text

pub returns-clause-further : goal.returns-clause-further
returns-clause-further g c =
    let some = c.in_ok-read_run.ensures.run.1 in
    let p = c.in_ok-read_run.ensures.run.2.place in
    let q = c.read_digits.ensures.moves.on in
    on_ok c.read_digits.result (omega arith)

pub returns-clause-exact : goal.returns-clause-exact
returns-clause-exact g c = λ begun n n2 s ps w r h d.
    let is : is_digit c.args.first ≡ true = grind (arith, common_steps, c.is_digit.ensures) in
    let w' = c.in_ok-read_run.ensures.exact (g.S.Counted.left c.args.src.now) begun n2 s (digits n s ∷ ps) ps (t.number_on n n2 s ps c.args.first (w.on is)) r h d in
    writes_on w'.goes (c.read_digits.ensures.exact begun n2 w'.text ps r (w'.kept refl) d)

pub returns-clause-own : goal.returns-clause-own
returns-clause-own g c =
    let some = c.in_ok-read_run.ensures.run.1 in
    let p = c.in_ok-read_run.ensures.run.2.place in
    let q = c.read_digits.ensures.moves.on in
    on_ok_map c.read_digits.result (λ k. owns_any (moves_trans (moves_pass (moves_here _ _) c.in_ok-read_run.ensures.run.2) c.read_digits.ensures.moves) (omega arith) (any_trans (c.in_ok-read_run.ensures.own _) k)) c.read_digits.ensures.own
