-- The texts so far were added.
use Rattle.std.proofs.Common.{take, Ok}
use Rattle.std.specs.Prelude.{map}
use Rattle.std.specs.List.{join_with_byte}
use Rattle.prof_io.specs.Outside.{seen}
use Rattle.prof_page.specs.Gathering.{Gathers}
use Rattle.prof_write.specs.Cells.{numbered}
use Rattle.prof_write.specs.Members.{member_text}
use Rattle.prof_write.proofs.marker_texts.add_members.Given as goal

abbrev pub invariant-loop-place : goal.invariant-loop-place
invariant-loop-place g l =
    Gathers {T = Unit {0}} {E = Unit {0}} (seen g.S.Counted l.fn.out) (seen g.S.Counted l.out) (Ok tt) l.fn.page.bytes
    (join_with_byte 44 (take l.place (map member_text (numbered l.texts)))) l.page.bytes
