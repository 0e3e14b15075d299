use Rattle.std.proofs.Common.{◌≡◌, ◌+◌, ◌<◌, ◌++◌, ◌∷◌, [], ap, sym, ◌∙◌, arith, append-nil, inl, inr, ◌⊎◌}
use Rattle.std.proofs.lemmas.List.{take_all}
use Rattle.prof_address.specs.Transforms.{transforms_text, transform_text}
use Rattle.prof_address.proofs.Marks.{next_text}
use Rattle.prof_address.proofs.writing.push_transforms.Goals as goal
use Rattle.prof_address.proofs.writing.push_transforms.Goals.{then-i-gt0+in_ok-push_str, else-i-gt0}

pub items-init : goal.items-init
items-init c = sym (append-nil c.args.text.now)

pub items-preserved : goal.items-preserved
items-preserved c =
    let choice : ((0 < c.items.i) × (c.if-i-gt0.text ≡ c.items.text ++ 126 ∷ [])) ⊎ ((c.items.i ≡ 0) × (c.if-i-gt0.text ≡ c.items.text)) =
    elim c.if-i-gt0.branch [
      | then-i-gt0+in_ok-push_str w ↦ inl (w.if-i-gt0.true, w.text-is ∙ w.in_ok-push_str.ensures.ok)
      | else-i-gt0 w ↦ inr (omega arith, w.text-is)
    ] in
    next_text transform_text 126 c.args.list.now c.items.i c.index-list-i.result c.args.text.now c.items.text c.if-i-gt0.text c.push_transform.new.text
    c.items-test.true (sym c.index-list-i.is) c.items.invariant choice c.in_ok-push_transform.ensures

pub returns : goal.returns
returns c = c.items.invariant ∙ ap (λ t. c.args.text.now ++ transforms_text t) (take_all c.items.i c.args.list.now (omega arith))
