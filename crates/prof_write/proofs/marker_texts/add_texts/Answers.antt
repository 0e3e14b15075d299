use Rattle.std.proofs.Common.{◌≡◌, ◌<◌, ◌++◌, codes, length}
use Rattle.std.specs.Prelude.{map}
use Rattle.std.specs.List.{join_with_byte}
use Rattle.prof_page.proofs.Pages.{gathers_on, gathers_same, gathers_stopped}
use Rattle.prof_write.specs.Cells.{numbered}
use Rattle.prof_write.specs.Members.{member_text}
use Rattle.prof_write.proofs.ArrayLemmas.{data_none, data_some, empty_is, not_empty}
use Rattle.prof_write.proofs.marker_texts.add_texts.Goals as goal

pub returns-then-is_empty : goal.returns-then-is_empty
returns-then-is_empty g c =
    let texts = c.args.texts.now in
    let none : length texts ≡ 0 = empty_is (length texts) c.is_empty.result c.is_empty.ensures c.if-is_empty.true in
    gathers_same _ _ _ _ _ _ _ c.add_text.ensures (data_none texts none)

pub returns-in_err-add_text : goal.returns-in_err-add_text
returns-in_err-add_text g c =
    let texts = c.args.texts.now in
    let some : 0 < length texts = not_empty (length texts) c.is_empty.result c.is_empty.ensures c.if-is_empty.false in
    gathers_same _ _ _ _ _ _ _
    (gathers_stopped _ _ _ _ _ _ (join_with_byte 44 (map member_text (numbered texts)) ++ codes "}") _ _ c.from_residual.ensures.0 c.in_err-add_text.ensures)
    (data_some texts some)

pub returns-in_err-add_members : goal.returns-in_err-add_members
returns-in_err-add_members g c =
    let texts = c.args.texts.now in
    let some : 0 < length texts = not_empty (length texts) c.is_empty.result c.is_empty.ensures c.if-is_empty.false in
    gathers_same _ _ _ _ _ _ _
    (gathers_on _ _ _ _ _ _ _ _ _ _ c.in_ok-add_text.ensures
    (gathers_stopped _ _ _ _ _ _ (codes "}") _ _ c.from_residual-in_err-add_members.ensures.0 c.in_err-add_members.ensures))
    (data_some texts some)

pub returns : goal.returns
returns g c =
    let texts = c.args.texts.now in
    let some : 0 < length texts = not_empty (length texts) c.is_empty.result c.is_empty.ensures c.if-is_empty.false in
    gathers_same _ _ _ _ _ _ _
    (gathers_on _ _ _ _ _ _ _ _ _ _ c.in_ok-add_text.ensures
    (gathers_on _ _ _ _ _ _ _ _ _ _ c.in_ok-add_members.ensures c.add_text-3.ensures))
    (data_some texts some)
