use Rattle.std.proofs.Common.{◌≡◌, ℕ, ◌++◌, ◌∷◌, [], set, take, FitsSigned, ◌+ℤ◌, w64, to_z, of_z, Option, Some, None, sym, ap, ◌∙◌, subst, refl, arith}
use Rattle.std.specs.Int.{w128}
use Rattle.std.proofs.lemmas.Int.{ints, to_z-of_z}
use Rattle.std.proofs.lemmas.List.{take_more, take_all, length-take-le}
use Rattle.prof_tree.specs.Forest.{branch}
use Rattle.prof_tree.specs.Growing.{ended, pair_eq, steps_from}
use Rattle.std.specs.HashMap.{get}
use Rattle.prof_tree.proofs.PathSteps.{HasPrefix-left}
use Rattle.prof_tree.proofs.Turns.{Walk, at_child, Walk-more, Walk-none, Grown-none, Grown-end, fits_more}
use Rattle.prof_tree.proofs.Weights.{length-steps_from}
use Rattle.prof_tree.proofs.growing.walk.Goals as goal

pub loop-depth-init : goal.loop-depth-init
loop-depth-init c = λ xs ks g. (ks, Walk-none xs _ ks _ _ g)

pub add_step-requires-clause-row : goal.add_step-requires-clause-row
add_step-requires-clause-row c =
    let w = c.requires.grown in
    let k = c.loop-depth.invariant w.0 w.1 w.2 in
    let a = at_child w.0 _ (take c.loop-depth.depth (steps_from c.args.from c.args.path.now)) _ w.0 (λ p. HasPrefix-left w.0 _ p) k.0 c.loop-depth.rows.items c.child.new.rows.items (get pair_eq c.loop-depth.index) (get pair_eq c.child.new.index) c.loop-depth.at c.loop-depth.depth c.in_ok-row.row (sym (length-take-le c.loop-depth.depth (steps_from c.args.from c.args.path.now) (omega (arith, length-steps_from c.args.from c.args.path.now)))) c.in_ok-row.ensures k.1 in
    a.1.ready.in_rows

pub add_step-requires-clause-fits : goal.add_step-requires-clause-fits
add_step-requires-clause-fits c =
    let w = c.requires.grown in
    let k = c.loop-depth.invariant w.0 w.1 w.2 in
    let a = at_child w.0 _ (take c.loop-depth.depth (steps_from c.args.from c.args.path.now)) _ w.0 (λ p. HasPrefix-left w.0 _ p) k.0 c.loop-depth.rows.items c.child.new.rows.items (get pair_eq c.loop-depth.index) (get pair_eq c.child.new.index) c.loop-depth.at c.loop-depth.depth c.in_ok-row.row (sym (length-take-le c.loop-depth.depth (steps_from c.args.from c.args.path.now) (omega (arith, length-steps_from c.args.from c.args.path.now)))) c.in_ok-row.ensures k.1 in
    subst (λ z. FitsSigned w128 (z +ℤ to_z w64 (of_z w64 c.args.weight))) (sym a.1.ready.total)
    (fits_more _ w.0 (to_z w64 (of_z w64 c.args.weight)) w.4 w.3 (omega (arith, ints)) (omega (arith, ints)))

pub loop-depth-preserved : goal.loop-depth-preserved
loop-depth-preserved c = λ xs ks g.
    let k = c.loop-depth.invariant xs ks g in
    let a = at_child xs _ (take c.loop-depth.depth (steps_from c.args.from c.args.path.now)) _ xs (λ p. HasPrefix-left xs _ p) k.0 c.loop-depth.rows.items c.child.new.rows.items (get pair_eq c.loop-depth.index) (get pair_eq c.child.new.index) c.loop-depth.at c.loop-depth.depth c.in_ok-row.row (sym (length-take-le c.loop-depth.depth (steps_from c.args.from c.args.path.now) (omega (arith, length-steps_from c.args.from c.args.path.now)))) c.in_ok-row.ensures k.1 in (
      a.0,
      subst (λ x. Walk xs xs (to_z w64 (of_z w64 c.args.weight)) x a.0 c.add_step.new.rows.items (get pair_eq c.child.new.index) (Some c.in_ok-row.row)) (sym (take_more (steps_from c.args.from c.args.path.now) c.loop-depth.depth c.step_from-step.result (omega (arith, length-steps_from c.args.from c.args.path.now)) ∙ ap (λ z. take c.loop-depth.depth (steps_from c.args.from c.args.path.now) ++ z ∷ []) (sym c.step_from-step.ensures)))
          (Walk-more xs _ (take c.loop-depth.depth (steps_from c.args.from c.args.path.now)) _ xs a.0 c.child.new.rows.items c.add_step.new.rows.items (get pair_eq c.child.new.index) c.in_ok-row.row c.add_step.ensures a.1),
    )

pub add_end-requires-clause-fits : goal.add_end-requires-clause-fits
add_end-requires-clause-fits c =
    let w = c.requires.grown in
    let k = c.loop-depth.invariant w.0 w.1 w.2 in
    let in_rows = k.1.at_in c.in-Some.row c.in-Some.is in
    subst (λ z. FitsSigned w128 (z +ℤ to_z w64 (of_z w64 c.args.weight))) (sym (k.1.owns c.in-Some.row in_rows))
    (fits_more _ w.0 (to_z w64 (of_z w64 c.args.weight)) w.4 w.3 (omega (arith, ints)) (omega (arith, ints)))

pub returns-in-Some : goal.returns-in-Some
returns-in-Some c = λ xs ks g.
    let k = c.loop-depth.invariant xs ks g in
    let whole : take c.loop-depth.depth (steps_from c.args.from c.args.path.now) ≡ (steps_from c.args.from c.args.path.now) = take_all c.loop-depth.depth (steps_from c.args.from c.args.path.now) (omega (arith, length-steps_from c.args.from c.args.path.now)) in
    let e : to_z w64 (of_z w64 c.args.weight) ≡ c.args.weight = first_of (search (arith, ints, to_z-of_z), first_of (grind (arith, ints, to_z-of_z), omega (arith, ints))) in
    let walked : Walk xs xs c.args.weight (steps_from c.args.from c.args.path.now) k.0 c.loop-depth.rows.items (get pair_eq c.loop-depth.index) (Some c.in-Some.row) =
    subst (λ o. Walk xs xs c.args.weight (steps_from c.args.from c.args.path.now) k.0 c.loop-depth.rows.items (get pair_eq c.loop-depth.index) o) c.in-Some.is
    (subst (λ z. Walk xs xs z (steps_from c.args.from c.args.path.now) k.0 c.loop-depth.rows.items (get pair_eq c.loop-depth.index) c.loop-depth.at) e
    (subst (λ x. Walk xs xs (to_z w64 (of_z w64 c.args.weight)) x k.0 c.loop-depth.rows.items (get pair_eq c.loop-depth.index) c.loop-depth.at) whole k.1)) in
    (k.0, Grown-end xs c.args.weight k.0 c.loop-depth.rows.items (get pair_eq c.loop-depth.index) (steps_from c.args.from c.args.path.now) c.add_end.new.rows.items c.in-Some.row (c.add_end.ensures ∙ ap (λ z. set c.loop-depth.rows.items c.in-Some.row (ended (branch c.loop-depth.rows.items c.in-Some.row) z)) e) walked)

pub returns-in_default : goal.returns-in_default
returns-in_default c = λ xs ks g.
    let k = c.loop-depth.invariant xs ks g in
    let whole : take c.loop-depth.depth (steps_from c.args.from c.args.path.now) ≡ (steps_from c.args.from c.args.path.now) = take_all c.loop-depth.depth (steps_from c.args.from c.args.path.now) (omega (arith, length-steps_from c.args.from c.args.path.now)) in
    let e : to_z w64 (of_z w64 c.args.weight) ≡ c.args.weight = first_of (search (arith, ints, to_z-of_z), first_of (grind (arith, ints, to_z-of_z), omega (arith, ints))) in
    let walked : Walk xs xs c.args.weight (steps_from c.args.from c.args.path.now) k.0 c.loop-depth.rows.items (get pair_eq c.loop-depth.index) None =
    subst (λ o. Walk xs xs c.args.weight (steps_from c.args.from c.args.path.now) k.0 c.loop-depth.rows.items (get pair_eq c.loop-depth.index) o) (no_some c.loop-depth.at c.in_default.not-Some)
    (subst (λ z. Walk xs xs z (steps_from c.args.from c.args.path.now) k.0 c.loop-depth.rows.items (get pair_eq c.loop-depth.index) c.loop-depth.at) e
    (subst (λ x. Walk xs xs (to_z w64 (of_z w64 c.args.weight)) x k.0 c.loop-depth.rows.items (get pair_eq c.loop-depth.index) c.loop-depth.at) whole k.1)) in
    (k.0, Grown-none xs c.args.weight k.0 c.loop-depth.rows.items (get pair_eq c.loop-depth.index) (steps_from c.args.from c.args.path.now) walked)
  where
    no_some : (o : Option ℕ) → ((p : ℕ) → o ≡ Some p → ⊥) → o ≡ None
    no_some None n = refl
    no_some (Some p) n = absurd (n p refl)
