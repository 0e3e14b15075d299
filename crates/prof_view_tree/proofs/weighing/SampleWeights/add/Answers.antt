use Rattle.std.proofs.Common.{◌≡◌, ◌<◌, ◌≤◌, ◌+◌, ◌^◌, ◌+ℤ◌, ◌≤ℤ◌, ℤ, pos, neg_ℤ, [], ◌∷◌, ◌++◌, length, length-set, to_z, of_z, w64, sym, ap, ◌∙◌, subst, refl, arith}
use Rattle.std.specs.Prelude.{unsigned_abs}
use Rattle.std.specs.Int.{w128}
use Rattle.std.specs.Option.{IfSome}
use Rattle.std.specs.Vec.{with_items}
use Rattle.std.proofs.lemmas.Int.{ints}
use Rattle.std.proofs.lemmas.List.{with_items_is}
use Rattle.prof_tables.specs.Paths.{path}
use Rattle.prof_view_tree.specs.declared.weighing.SampleWeights.{SampleWeights}
use Rattle.prof_view_tree.specs.Weighing.{Weighs, weight_at, with_more}
use Rattle.prof_view_tree.proofs.Sampled.{same64, same128, sum_is, without_row, with_row}
use Rattle.prof_view_tree.proofs.Masses.{at-mass, small_sum, size_small, most}
use Rattle.prof_view_tree.proofs.weighing.SampleWeights.add.Goals as goal

-- a weight of 64 bits as one of 128 bits
wide : (w v : ℤ) → neg_ℤ (pos 9223372036854775808) ≤ℤ w → w ≤ℤ pos 9223372036854775807 → v ≡ to_z w64 (of_z w64 w) → to_z w128 (of_z w128 v) ≡ w
wide w v low high e =
    let small : unsigned_abs w ≤ 9223372036854775808 = size_small w low (omega (arith, ints)) in
    ap (λ z. to_z w128 (of_z w128 z)) (e ∙ same64 w low high) ∙ same128 w (omega arith)

pub add_weight-requires-clause-fits : goal.add_weight-requires-clause-fits
add_weight-requires-clause-fits c =
    let w = c.args.weight in
    let low : neg_ℤ (pos 9223372036854775808) ≤ℤ w = omega (arith, ints) in
    let high : w ≤ℤ pos 9223372036854775807 = omega (arith, ints) in
    let held = c.requires.held in
    let ws = c.args.self.now.by_row.items in
    let small : unsigned_abs w ≤ 9223372036854775808 = size_small w low (omega (arith, ints)) in
    let within : unsigned_abs (weight_at ws c.in-Some.row) + unsigned_abs w ≤ most = omega (arith, at-mass ws c.in-Some.row, small, held.2.light, held.3) in
    subst (λ l. unsigned_abs (weight_at l c.in-Some.row +ℤ to_z w128 (of_z w128 c.from.result)) < 2 ^ 127) (sym c.deref_mut.ensures.value)
    (subst (λ z. unsigned_abs (weight_at ws c.in-Some.row +ℤ z) < 2 ^ 127) (sym (wide w c.from.result low high c.from.ensures)) (small_sum (weight_at ws c.in-Some.row) w most within (omega arith)))

pub returns-in-None : goal.returns-in-None
returns-in-None c = λ stacks xs k few.
    let w = c.args.weight in
    let low : neg_ℤ (pos 9223372036854775808) ≤ℤ w = omega (arith, ints) in
    let high : w ≤ℤ pos 9223372036854775807 = omega (arith, ints) in
    let s = c.args.self.now in
    let t : SampleWeights = record { by_row = s.by_row; selected = to_z w128 (of_z w128 c.plus-self.result); dropped = to_z w128 (of_z w128 c.plus-self-in-None.result) } in
    subst (λ o. Weighs stacks (xs ++ record { steps = path stacks o; weight = w } ∷ []) t) (sym c.in-None.is)
    (without_row stacks xs w s t k few low high (sum_is s.selected w (length xs) few k.light_selected low high c.plus-self.result c.plus-self.ensures) refl
    (sum_is s.dropped w (length xs) few k.light_dropped low high c.plus-self-in-None.result c.plus-self-in-None.ensures))

pub returns-in-Some : goal.returns-in-Some
returns-in-Some c = λ stacks xs k few.
    let w = c.args.weight in
    let low : neg_ℤ (pos 9223372036854775808) ≤ℤ w = omega (arith, ints) in
    let high : w ≤ℤ pos 9223372036854775807 = omega (arith, ints) in
    let s = c.args.self.now in
    let row = c.in-Some.row in
    let rows : c.add_weight.new.weights ≡ with_more s.by_row.items row w = c.add_weight.ensures ∙ ap (with_more c.deref_mut.result.now row) (wide w c.from.result low high c.from.ensures) ∙ ap (λ l. with_more l row w) c.deref_mut.ensures.value in
    let inside : row < length s.by_row.items = subst (λ o. IfSome o (λ r. r < length s.by_row.items)) c.in-Some.is c.requires.row in
    let written : (with_items s.by_row c.add_weight.new.weights).items ≡ c.add_weight.new.weights = with_items_is s.by_row c.add_weight.new.weights (ap length rows ∙ length-set s.by_row.items row _ ∙ sym s.by_row.ok.0) in
    let t : SampleWeights = record { by_row = with_items s.by_row c.add_weight.new.weights; selected = to_z w128 (of_z w128 c.plus-self.result); dropped = s.dropped } in
    subst (λ o. Weighs stacks (xs ++ record { steps = path stacks o; weight = w } ∷ []) t) (sym c.in-Some.is)
    (with_row stacks xs w s t k few low high (sum_is s.selected w (length xs) few k.light_selected low high c.plus-self.result c.plus-self.ensures) row inside (written ∙ rows) refl)
