use Rattle.std.proofs.Common.{◌≡◌, ◌<◌, ◌≤◌, ◌+◌, ◌^◌, ◌+ℤ◌, ℕ, ℤ, pos, List, length, take, get_or, add-one, Option, None, Some, to_z, of_z, sym, ap, ◌∙◌, subst, arith}
use Rattle.std.specs.Prelude.{unsigned_abs, unwrap_or}
use Rattle.std.specs.Int.{w128}
use Rattle.std.proofs.lemmas.Int.{to_z-of_z}
use Rattle.prof_view_tree.specs.Weighing.{mass, weight_at}
use Rattle.prof_view_tree.proofs.Masses.{small_sum, fits_within, read_at, two_weights, most}
use Rattle.prof_view_tree.proofs.Standing.{below_at}
use Rattle.prof_view_tree.proofs.weighing.lift.Goals as goal

pub add_weight-requires-clause-row : goal.add_weight-requires-clause-row
add_weight-requires-clause-row c =
    let above : c.in-Some-prefix.prefix < c.args.row = below_at c.args.stacks.now c.requires.below c.args.row c.in-Some-prefix.prefix c.requires.row c.in-Some-prefix.is in
    omega (arith, c.requires.row, c.requires.lengths)

-- a row's weight and its prefix's have their sizes within that of all up to the row
two : (ws : List (Option ℤ)) (row prefix : ℕ) (w : ℤ) → prefix < row → row < length ws → get_or ws row None ≡ Some w → mass (take (row + 1) ws) ≤ most → unsigned_abs (weight_at ws prefix) + unsigned_abs w ≤ most
two ws row prefix w h k e light =
    let both = two_weights ws prefix row h k in
    let size : unsigned_abs (weight_at ws row) ≡ unsigned_abs w = ap (λ o. unsigned_abs (unwrap_or o (pos 0))) e in
    omega (arith, both, size, light, ap (λ n. mass (take n ws)) (add-one row))

same : (w : ℤ) (n : ℕ) → n + unsigned_abs w ≤ most → to_z w128 (of_z w128 w) ≡ w
same w n h = to_z-of_z w128 w (fits_within w most (omega arith) (omega arith))

pub add_weight-requires-clause-fits : goal.add_weight-requires-clause-fits
add_weight-requires-clause-fits c =
    let above : c.in-Some-prefix.prefix < c.args.row = below_at c.args.stacks.now c.requires.below c.args.row c.in-Some-prefix.prefix c.requires.row c.in-Some-prefix.is in
    let ws = c.args.weights.now in
    let w = c.in-Some.weight in
    let inside : c.args.row < length ws = omega (arith, c.requires.row, c.requires.lengths) in
    let read : get_or ws c.args.row None ≡ c.get.result = read_at ws c.args.row c.index-weights-row.result c.get.result inside c.index-weights-row.is c.get.ensures in
    let h : unsigned_abs (weight_at ws c.in-Some-prefix.prefix) + unsigned_abs w ≤ most = two ws c.args.row c.in-Some-prefix.prefix w above inside (read ∙ c.in-Some.is) c.requires.light in
    subst (λ z. unsigned_abs (weight_at ws c.in-Some-prefix.prefix +ℤ z) < 2 ^ 127) (sym (same w _ h)) (small_sum (weight_at ws c.in-Some-prefix.prefix) w most h (omega arith))
