use Rattle.std.proofs.Common.{◌≡◌, ◌<◌, ◌++◌, ◌∷◌, [], get_or, ap, sym, ◌∙◌, arith, append-nil, inl, inr, ◌⊎◌}
use Rattle.std.proofs.lemmas.List.{take_all}
use Rattle.prof_spell.specs.Pieces.{joined_text}
use Rattle.prof_address.specs.Views.{range_text}
use Rattle.prof_address.proofs.Marks.{next_text, within_list}
use Rattle.std.specs.Prelude.{pos}
use Rattle.prof_path.specs.declared.transform.Range.{Range}
use Rattle.prof_address.proofs.view_writing.push_ranges.Goals as goal
use Rattle.prof_address.proofs.view_writing.push_ranges.Goals.{then-i-gt0+in_ok-push_str, else-i-gt0}

-- what a read outside the list gives
abbrev outside : Range
outside = record { start = pos 0; end = pos 0 }

pub items-init : goal.items-init
items-init c = sym (append-nil c.args.text.now)

pub items-preserved : goal.items-preserved
items-preserved c =
    let choice : ((0 < c.items.i) × (c.if-i-gt0.text ≡ c.items.text ++ 126 ∷ [])) ⊎ ((c.items.i ≡ 0) × (c.if-i-gt0.text ≡ c.items.text)) =
    elim c.if-i-gt0.branch [
      | then-i-gt0+in_ok-push_str w ↦ inl (w.if-i-gt0.true, w.text-is ∙ w.in_ok-push_str.ensures.ok)
      | else-i-gt0 w ↦ inr (omega arith, w.text-is)
    ] in
    let r : Range = get_or c.args.list.now c.items.i outside in
    next_text range_text 126 c.args.list.now c.items.i r c.args.text.now c.items.text c.if-i-gt0.text c.push_range.new.text
    c.items-test.true (within_list c.args.list.now c.items.i r outside c.items-test.true) c.items.invariant choice c.in_ok-push_range.ensures

pub returns : goal.returns
returns c = c.items.invariant ∙ ap (λ t. c.args.text.now ++ joined_text range_text 126 t) (take_all c.items.i c.args.list.now (omega arith))
