use Rattle.std.proofs.Common.{◌≡◌, true, false, ◌-◌, take, drop, length, sym, refl, ◌∙◌, arith}
use Rattle.std.proofs.lemmas.List.{take_all, length-drop}
use Rattle.prof_location.specs.Cutting.{begins}
use Rattle.prof_location.proofs.Cuts.{starts}
use Rattle.prof_gecko_names.proofs.naming.behind.Goals as goal

pub returns-then-starts_with : goal.returns-then-starts_with
returns-then-starts_with c =
    let piece = c.args.piece.now in
    let text = c.args.text.now in
    let test : begins piece text ≡ true = sym (starts piece text) ∙ sym c.starts_with.ensures.value ∙ c.if-starts_with.true in
    let all : take (length text - length piece) (drop (length piece) text) ≡ drop (length piece) text = take_all (length text - length piece) (drop (length piece) text) (simp length-drop (omega arith)) in
    rw (all, test) refl

pub returns-else-starts_with : goal.returns-else-starts_with
returns-else-starts_with c =
    let test : begins c.args.piece.now c.args.text.now ≡ false = sym (starts c.args.piece.now c.args.text.now) ∙ sym c.starts_with.ensures.value ∙ c.if-starts_with.false in
    rw test refl
