use Rattle.std.proofs.Common.{◌++◌, codes}
use Rattle.std.specs.List.{join_with_byte}
use Rattle.prof_demo.specs.Generated.{frames, prefixes}
use Rattle.prof_page.proofs.Pages.{gathers_on, gathers_stopped}
use Rattle.prof_demo.proofs.generating.add_stacks.Goals as goal

pub returns-in_err-add_text : goal.returns-in_err-add_text
returns-in_err-add_text g c =
    gathers_stopped _ _ _ _ _ _ (join_with_byte 44 frames ++ (codes "],\"prefix\":[" ++ join_with_byte 44 prefixes)) _ _ c.from_residual.ensures.0 c.in_err-add_text.ensures

pub returns-in_err-add_column : goal.returns-in_err-add_column
returns-in_err-add_column g c =
    gathers_on _ _ _ _ _ _ _ _ _ _ c.in_ok-add_text.ensures
    (gathers_stopped _ _ _ _ _ _ (codes "],\"prefix\":[" ++ join_with_byte 44 prefixes) _ _ c.from_residual-in_err-add_column.ensures.0 c.in_err-add_column.ensures)

pub returns-in_err-add_text-2 : goal.returns-in_err-add_text-2
returns-in_err-add_text-2 g c =
    gathers_on _ _ _ _ _ _ _ _ _ _ c.in_ok-add_text.ensures
    (gathers_on _ _ _ _ _ _ _ _ _ _ c.in_ok-add_column.ensures
    (gathers_stopped _ _ _ _ _ _ (join_with_byte 44 prefixes) _ _ c.from_residual-in_err-add_text-2.ensures.0 c.in_err-add_text-2.ensures))

pub returns : goal.returns
returns g c =
    gathers_on _ _ _ _ _ _ _ _ _ _ c.in_ok-add_text.ensures
    (gathers_on _ _ _ _ _ _ _ _ _ _ c.in_ok-add_column.ensures
    (gathers_on _ _ _ _ _ _ _ _ _ _ c.in_ok-add_text-2.ensures c.add_column-2.ensures))
