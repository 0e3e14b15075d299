use Rattle.std.proofs.Common.{◌≡◌, ◌<◌, ◌≤◌, ◌++◌, [], ap, arith, codes, length, get_or, nat_lt, sym}
use Rattle.std.specs.Prelude.{map}
use Rattle.prof_page.proofs.Pages.{gathers_none, gathers_same}
use Rattle.std.specs.Fmt.{decimal}
use Rattle.prof_writer.specs.Writing.{comma_text, quoted}
use Rattle.prof_write.specs.Cells.{numbered}
use Rattle.prof_write.specs.Members.{member_text}
use Rattle.prof_write.proofs.MemberLemmas.{length-members, member_at}
use Rattle.prof_write.proofs.Loops.{all_added, item_added, item_stopped}
use Rattle.prof_write.proofs.marker_texts.add_members.Goals as goal

pub loop-place-init : goal.loop-place-init
loop-place-init g c = gathers_none _ tt _

pub returns-in_err-add_member : goal.returns-in_err-add_member
returns-in_err-add_member g c =
    let cells = map member_text (numbered c.args.texts.now) in
    let place = c.loop-place.place in
    let many : length cells ≡ length c.args.texts.now = length-members c.args.texts.now in
    let inside : place < length c.args.texts.now = omega arith in
    let within : place < length cells = omega arith in
    let text = c.index-texts-place.result in
    let is : comma_text (nat_lt 0 place) ++ (quoted (decimal place) ++ (codes ":" ++ quoted text)) ≡ comma_text (nat_lt 0 place) ++ get_or cells place [] =
    ap (λ l. comma_text (nat_lt 0 place) ++ l) (sym (member_at c.args.texts.now place text inside c.index-texts-place.is)) in
    item_stopped _ _ _ tt _ _ cells place _ _ _ within c.from_residual.ensures.0 c.loop-place.invariant (gathers_same _ _ _ _ _ _ _ c.in_err-add_member.ensures is)

pub loop-place-preserved : goal.loop-place-preserved
loop-place-preserved g c =
    let cells = map member_text (numbered c.args.texts.now) in
    let place = c.loop-place.place in
    let many : length cells ≡ length c.args.texts.now = length-members c.args.texts.now in
    let inside : place < length c.args.texts.now = omega arith in
    let within : place < length cells = omega arith in
    let text = c.index-texts-place.result in
    let is : comma_text (nat_lt 0 place) ++ (quoted (decimal place) ++ (codes ":" ++ quoted text)) ≡ comma_text (nat_lt 0 place) ++ get_or cells place [] =
    ap (λ l. comma_text (nat_lt 0 place) ++ l) (sym (member_at c.args.texts.now place text inside c.index-texts-place.is)) in
    item_added _ _ _ tt _ cells place _ _ _ within c.loop-place.invariant (gathers_same _ _ _ _ _ _ _ c.in_ok-add_member.ensures is)

pub returns : goal.returns
returns g c =
    let cells = map member_text (numbered c.args.texts.now) in
    let many : length cells ≡ length c.args.texts.now = length-members c.args.texts.now in
    let all : length cells ≤ c.loop-place.place = omega arith in
    all_added _ _ tt _ cells c.loop-place.place _ _ all c.loop-place.invariant
