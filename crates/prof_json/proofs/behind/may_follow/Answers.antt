use Rattle.std.proofs.Common.{sym, subst, ◌∙◌}
use Rattle.prof_json.specs.Nest.{IsWithin}
use Rattle.prof_json.specs.declared.nesting.Bracket.{Bracket}
use Rattle.prof_json.specs.declared.nesting.Bracket.TheVariants.{Array, Object}
use Rattle.prof_json.specs.Parts.{behind}
use Rattle.prof_json.proofs.Enclosing.{none_last, within_last}
use Rattle.prof_json.proofs.Standing.{in_array, in_object, come_end_top, come_end_items, come_end_members, come_top, come_items, come_members}
use Rattle.prof_json.proofs.behind.may_follow.Goals as goal

pub returns-in-None-shown : goal.returns-in-None-shown
returns-in-None-shown c =
    let none = none_last c.args.brackets.now (sym c.in-None.ensures.value) in
    rw (c.in-None-shown.is, none) (sym come_end_top)

pub returns-in-Some : goal.returns-in-Some
returns-in-Some c =
    let none = none_last c.args.brackets.now (sym c.in-None.ensures.value) in
    rw (c.in-Some.is, none) (c.is_blank.ensures ∙ come_top c.in-Some.byte)

pub returns-in-None-shown-2 : goal.returns-in-None-shown-2
returns-in-None-shown-2 c =
    let v = within_last c.args.brackets.now (sym c.in-Some-Array.ensures.value) in
    let w : IsWithin Array c.args.brackets.now = subst (λ (b : Bracket). IsWithin b c.args.brackets.now) c.in-Some-Array.field-0-is v in
    rw (c.in-None-shown-2.is, in_array w) (sym (come_end_items (behind w.outer)))

pub returns-in-Some-shown : goal.returns-in-Some-shown
returns-in-Some-shown c =
    let v = within_last c.args.brackets.now (sym c.in-Some-Array.ensures.value) in
    let w : IsWithin Array c.args.brackets.now = subst (λ (b : Bracket). IsWithin b c.args.brackets.now) c.in-Some-Array.field-0-is v in
    rw (c.in-Some-shown.is, in_array w) (c.may_follow_item.ensures ∙ come_items (behind w.outer) c.in-Some-shown.byte)

pub returns-in-None-shown-3 : goal.returns-in-None-shown-3
returns-in-None-shown-3 c =
    let v = within_last c.args.brackets.now (sym c.in-Some-Object.ensures.value) in
    let w : IsWithin Object c.args.brackets.now = subst (λ (b : Bracket). IsWithin b c.args.brackets.now) c.in-Some-Object.field-0-is v in
    rw (c.in-None-shown-3.is, in_object w) (sym (come_end_members (behind w.outer)))

pub returns-in-Some-shown-2 : goal.returns-in-Some-shown-2
returns-in-Some-shown-2 c =
    let v = within_last c.args.brackets.now (sym c.in-Some-Object.ensures.value) in
    let w : IsWithin Object c.args.brackets.now = subst (λ (b : Bracket). IsWithin b c.args.brackets.now) c.in-Some-Object.field-0-is v in
    rw (c.in-Some-shown-2.is, in_object w) (c.may_follow_member.ensures ∙ come_members (behind w.outer) c.in-Some-shown-2.byte)
