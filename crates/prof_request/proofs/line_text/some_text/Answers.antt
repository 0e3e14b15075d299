use Rattle.std.proofs.Common.{◌≡◌, ◌<◌, false, List, ℕ, length, sym, subst, arith}
use Rattle.std.specs.Prelude.{IsUtf8, ◌&&◌, nat_lt}
use Rattle.std.proofs.lemmas.Bool.Decides.{nat_tests}
use Rattle.prof_spell.specs.Spelling.{IsTaken}
use Rattle.prof_spell.specs.Utf8.{is_between}
use Rattle.prof_spell.proofs.Bytes.{eqb_is}
use Rattle.prof_request.specs.Reading.{some_texts}
use Rattle.prof_request.proofs.ByteLemmas.{copied}
use Rattle.prof_request.proofs.RestLemmas.{text_more, text_stuck, text_cut, text_end, none_yet, not_between, may_end}
use Rattle.prof_request.proofs.line_text.some_text.Goals as goal
use Rattle.prof_request.proofs.line_text.some_text.Goals.{then-is_empty-via-then-is_empty, then-is_empty-via-else-is_empty+then-not-is_between}

pub returns-then-not-may_stand : goal.returns-then-not-may_stand
returns-then-not-may_stand c = text_stuck c.args.cursor.now c.bytes.cursor c.bytes.bytes.items c.bytes.due c.in-Some.byte c.bytes.invariant (sym c.in-Some.ensures.byte) (sym c.if-not-may_stand.ensures)

pub bytes-preserved : goal.bytes-preserved
bytes-preserved c =
    rw (c.in-Ok.ensures.items, c.behind-due.ensures)
    (text_more c.args.cursor.now c.bytes.cursor c.pass.new.self c.bytes.bytes.items c.bytes.due c.in-Some.byte c.bytes.invariant (c.pass.ensures _ (sym c.in-Some.ensures.byte)) (sym c.if-not-may_stand.ensures))

pub returns-then-is_empty : goal.returns-then-is_empty
returns-then-is_empty c =
    let items = c.bytes.bytes.items in
    let cut : (nat_lt 0 (length items) && is_between c.bytes.due) ≡ false =
    elim c.then-is_empty.branch [
      | then-is_empty-via-then-is_empty w ↦ none_yet (length items) (is_between c.bytes.due) (let e = eqb_is _ 0 (sym w.if-is_empty.ensures) in omega (arith, c.bytes.bytes.ok.0))
      | then-is_empty-via-else-is_empty+then-not-is_between w ↦ not_between (length items) (is_between c.bytes.due) (sym w.if-not-is_between.ensures)
    ] in
    text_cut c.args.cursor.now c.bytes.cursor items c.bytes.due c.bytes.invariant (sym c.in_default.ensures.byte) cut

pub text_of-requires : goal.text_of-requires
text_of-requires c =
    let items = c.bytes.bytes.items in
    let some : 0 < length items = grind (arith, nat_tests, c.bytes.bytes.ok.0) in
    let taken = text_end c.args.cursor.now c.bytes.cursor items c.bytes.due c.bytes.invariant (sym c.in_default.ensures.byte) (may_end (length items) (is_between c.bytes.due) some (sym c.if-not-is_between.ensures)) in
    subst IsUtf8 (sym c.as_slice.ensures.value) taken.fits.0.utf8

pub returns : goal.returns
returns c =
    let items = c.bytes.bytes.items in
    let some : 0 < length items = grind (arith, nat_tests, c.bytes.bytes.ok.0) in
    let taken = text_end c.args.cursor.now c.bytes.cursor items c.bytes.due c.bytes.invariant (sym c.in_default.ensures.byte) (may_end (length items) (is_between c.bytes.due) some (sym c.if-not-is_between.ensures)) in
    copied some_texts c.args.cursor.now c.bytes.cursor c.as_slice.result.now c.text_of.result c.text_of.ensures.text c.text_of.ensures.memory
    (subst (λ (s : List ℕ). IsTaken some_texts c.args.cursor.now s c.bytes.cursor) (sym c.as_slice.ensures.value) taken)
