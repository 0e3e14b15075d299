use Rattle.std.proofs.Common.{◌≡◌, ◌<◌, ◌≤◌, ◌∙◌, ap, ℕ, List, [], ◌∷◌, ◌++◌, length, arith}
use Rattle.prof_raw.specs.declared.limits.TheConstants.{MOST_ROWS}
use Rattle.prof_schema.specs.Fields.{field_texts}
use Rattle.prof_members.proofs.MoreItems.{markers_full, markers_added}
use Rattle.prof_members.proofs.lists.MarkerData.add.Goals as goal

pub returns-then-len : goal.returns-then-len
returns-then-len c v is first vs h =
    let many : MOST_ROWS < length c.args.self.now.ranges.items = let l = c.len.ensures in let t = c.if-len.true in omega arith in
    markers_full c.args.self.now many v first vs h

pub returns : goal.returns
returns c v is first vs h =
    let few : length c.args.self.now.ranges.items ≤ MOST_ROWS = let l = c.len.ensures in let t = c.if-len.false in omega arith in
    let start : c.in_ok-range.range.0 ≡ length c.args.self.now.texts.items = let r = c.in_ok-range.ensures.range.0 in omega arith in
    let end : c.in_ok-range.range.1 ≡ length c.add_texts.new.texts.items = let r = c.in_ok-range.ensures.range.1 in omega arith in
    markers_added c.args.self.now _ v (field_texts c.args.fields.now) few is c.in_ok-range.ensures.texts
    (c.in_ok-push.ensures.items
    ∙ ap (λ (n : ℕ). let l : List (ℕ × ℕ) = c.args.self.now.ranges.items ++ (n, c.in_ok-range.range.1) ∷ [] in l) start
    ∙ ap (λ (n : ℕ). let l : List (ℕ × ℕ) = c.args.self.now.ranges.items ++ (length c.args.self.now.texts.items, n) ∷ [] in l) end)
    c.in_ok-add_cell.ensures first vs h
