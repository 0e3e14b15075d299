use Rattle.std.proofs.Common.{◌≡◌, ◌+◌, ◌≤◌, ◌++◌, ◌∷◌, [], length, length-take-le, take, get_or, FitsSigned, pos, w64, to_z, of_z, ◌+ℤ◌, eqb, true, false, sym, ap, ◌∙◌, subst, arith}
use Rattle.std.specs.Int.{w128}
use Rattle.std.proofs.lemmas.Int.{ints, to_z-of_z}
use Rattle.prof_tree.specs.Growing.{IsSmall}
use Rattle.prof_tree.specs.Forest.{EachOf}
use Rattle.prof_tree.specs.Nodes.{weighed, total, dropped_of}
use Rattle.prof_tree.proofs.Weights.{weighed-more, length-weighed, small-more, get_or-any}
use Rattle.prof_tree.proofs.Whole.{fits_all, fits_dropped, total-more, dropped-yes, dropped-no}
use Rattle.prof_tree.proofs.growing.sums.Goals as goal
use Rattle.prof_tree.proofs.growing.sums.Goals.{then-is_empty, else-is_empty}

pub plus-selected-requires : goal.plus-selected-requires
plus-selected-requires c =
    let xs = weighed (take c.loop-place.place c.args.paths.now) (take c.loop-place.place c.args.weights.now) in
    let few : length xs ≤ 8388607 = omega (arith, length-weighed (take c.loop-place.place c.args.paths.now) (take c.loop-place.place c.args.weights.now), length-take-le c.loop-place.place c.args.paths.now (omega arith)) in
    subst (λ z. FitsSigned w128 (z +ℤ to_z w64 (of_z w64 (get_or c.args.weights.now c.loop-place.place (pos 0))))) (sym c.loop-place.invariant.selected)
    (fits_all xs _ c.loop-place.invariant.small few (omega (arith, ints)) (omega (arith, ints)))

pub plus-dropped-requires : goal.plus-dropped-requires
plus-dropped-requires c =
    let xs = weighed (take c.loop-place.place c.args.paths.now) (take c.loop-place.place c.args.weights.now) in
    let few : length xs ≤ 8388607 = omega (arith, length-weighed (take c.loop-place.place c.args.paths.now) (take c.loop-place.place c.args.weights.now), length-take-le c.loop-place.place c.args.paths.now (omega arith)) in
    subst (λ z. FitsSigned w128 (z +ℤ to_z w64 (of_z w64 (get_or c.args.weights.now c.loop-place.place (pos 0))))) (sym c.loop-place.invariant.dropped)
    (fits_dropped xs _ c.loop-place.invariant.small few (omega (arith, ints)) (omega (arith, ints)))

pub loop-place-preserved : goal.loop-place-preserved
loop-place-preserved c =
    let ys = weighed (take (c.loop-place.place + 1) c.args.paths.now) (take (c.loop-place.place + 1) c.args.weights.now) in
    let xs = weighed (take c.loop-place.place c.args.paths.now) (take c.loop-place.place c.args.weights.now) in
    let few : length xs ≤ 8388607 = omega (arith, length-weighed (take c.loop-place.place c.args.paths.now) (take c.loop-place.place c.args.weights.now), length-take-le c.loop-place.place c.args.paths.now (omega arith)) in
    let x = c.index-paths-place.result in
    let w = get_or c.args.weights.now c.loop-place.place (pos 0) in
    let at_w : get_or c.args.weights.now c.loop-place.place w ≡ w = get_or-any c.args.weights.now c.loop-place.place w (pos 0) (omega (arith, c.requires.lengths)) in
    let more : ys ≡ xs ++ record { steps = x; weight = w } ∷ [] = weighed-more c.args.paths.now c.args.weights.now c.loop-place.place x w c.loop-place-test.true c.requires.lengths (sym c.index-paths-place.is) at_w in
    let same : to_z w64 (of_z w64 w) ≡ w = search (arith, ints, to_z-of_z) in
    let r : c.plus-selected.result ≡ total xs +ℤ w = c.plus-selected.ensures ∙ ap (λ z. z +ℤ to_z w64 (of_z w64 w)) c.loop-place.invariant.selected ∙ ap (λ z. total xs +ℤ z) same in
    record {
      selected = ap (λ z. to_z w128 (of_z w128 z)) r ∙ to_z-of_z w128 (total xs +ℤ w) (fits_all xs w c.loop-place.invariant.small few (omega (arith, ints)) (omega (arith, ints))) ∙ sym (total-more xs ys x w more);
      dropped = elim c.if-is_empty.branch [
        | then-is_empty b ↦
            let z : eqb (length x) 0 ≡ true = ap (λ l. eqb (length l) 0) (sym c.as_slice.ensures) ∙ sym b.if-is_empty.ensures in
            b.dropped-is ∙ ap (λ z. to_z w128 (of_z w128 z)) (b.plus-dropped.ensures ∙ ap (λ z. z +ℤ to_z w64 (of_z w64 w)) c.loop-place.invariant.dropped ∙ ap (λ z. dropped_of xs +ℤ z) same)
            ∙ to_z-of_z w128 (dropped_of xs +ℤ w) (fits_dropped xs w c.loop-place.invariant.small few (omega (arith, ints)) (omega (arith, ints))) ∙ sym (dropped-yes xs ys x w more z)
        | else-is_empty b ↦
            let z : eqb (length x) 0 ≡ false = ap (λ l. eqb (length l) 0) (sym c.as_slice.ensures) ∙ sym b.if-is_empty.ensures in
            b.dropped-is ∙ c.loop-place.invariant.dropped ∙ sym (dropped-no xs ys x w more z)
      ];
      small = subst (EachOf IsSmall) (sym more) (small-more xs x w c.loop-place.invariant.small (omega (arith, ints), omega (arith, ints)));
    }
