use Rattle.std.proofs.Common.{rules, ◌≡◌, ◌+◌, ◌≤◌, ℕ, ◌++◌, ◌∷◌, [], List, length, map, reverse, length-take-le, take, get_or, pos, w64, to_z, of_z, sym, ap, ◌∙◌, subst, arith}
use Rattle.std.proofs.lemmas.Int.{ints, to_z-of_z}
use Rattle.prof_tree.specs.Growing.{IsGrown, IsSmall, pair_eq}
use Rattle.prof_tree.specs.Forest.{EachOf, HasPrefix}
use Rattle.prof_tree.specs.Nodes.{weighed, reversed, keys_of}
use Rattle.std.specs.HashMap.{get}
use Rattle.prof_tree.proofs.Weights.{weighed-more, length-weighed, small-more, IsGrown-none, get_or-any}
use Rattle.prof_tree.proofs.Counting.{rows_are_nodes, some_of_all, reversed-more, length-reversed, small-reversed, long_path}
use Rattle.prof_tree.proofs.growing.grown_backward.Goals as goal

pub loop-place-init : goal.loop-place-init
loop-place-init c = record {
  grown = ([], subst (λ z. IsGrown [] [] z (get pair_eq c.new-index.result)) (sym c.new-rows.ensures.items) (IsGrown-none _ (λ q. search (rules, c.new-index.ensures.empty))));
  small = tt;
  within = (let e = ap length c.new-rows.ensures.items in omega arith);
}

pub returns-then-steps-gt-NODE_LIMIT-clause-many : goal.returns-then-steps-gt-NODE_LIMIT-clause-many
returns-then-steps-gt-NODE_LIMIT-clause-many c = λ limit e.
    let paths = c.args.paths.now in
    let weights = c.args.weights.now in
    let xs = weighed (take c.loop-place.place paths) (take c.loop-place.place weights) in
    let zs = map reversed (weighed paths weights) in
    let x = c.index-paths-place.result in
    let w = get_or weights c.loop-place.place (pos 0) in
    let at_w : get_or weights c.loop-place.place w ≡ w = get_or-any weights c.loop-place.place w (pos 0) (omega (arith, c.requires.lengths)) in
    let more : weighed (take (c.loop-place.place + 1) paths) (take (c.loop-place.place + 1) weights) ≡ xs ++ record { steps = x; weight = w } ∷ [] =
    weighed-more paths weights c.loop-place.place x w c.loop-place-test.true c.requires.lengths (sym c.index-paths-place.is) at_w in
    let n : length x ≤ length (keys_of zs) = long_path xs zs x w (λ p h. some_of_all (c.loop-place.place + 1) paths weights p (subst (λ z. HasPrefix z p) (sym (ap (map reversed) more ∙ reversed-more xs x w)) h)) in
    let l : length c.as_slice-steps.result.now ≡ length x = ap length c.as_slice-steps.ensures in
    (cc, omega (arith, n, l, c.if-steps-gt-NODE_LIMIT.true))

pub walk-requires-clause-grown : goal.walk-requires-clause-grown
walk-requires-clause-grown c =
    let xs = weighed (take c.loop-place.place c.args.paths.now) (take c.loop-place.place c.args.weights.now) in (
      map reversed xs,
      c.loop-place.invariant.grown.0,
      c.loop-place.invariant.grown.1,
      omega (arith, length-reversed xs, length-weighed (take c.loop-place.place c.args.paths.now) (take c.loop-place.place c.args.weights.now), length-take-le c.loop-place.place c.args.paths.now (omega arith)),
      small-reversed xs c.loop-place.invariant.small,
    )

pub returns-then-len-gt-NODE_LIMIT-clause-many : goal.returns-then-len-gt-NODE_LIMIT-clause-many
returns-then-len-gt-NODE_LIMIT-clause-many c = λ limit e.
    let paths = c.args.paths.now in
    let weights = c.args.weights.now in
    let xs = weighed (take c.loop-place.place paths) (take c.loop-place.place weights) in
    let zs = map reversed (weighed paths weights) in
    let x = c.index-paths-place.result in
    let w = get_or weights c.loop-place.place (pos 0) in
    let at_w : get_or weights c.loop-place.place w ≡ w = get_or-any weights c.loop-place.place w (pos 0) (omega (arith, c.requires.lengths)) in
    let more : weighed (take (c.loop-place.place + 1) paths) (take (c.loop-place.place + 1) weights) ≡ xs ++ record { steps = x; weight = w } ∷ [] =
    weighed-more paths weights c.loop-place.place x w c.loop-place-test.true c.requires.lengths (sym c.index-paths-place.is) at_w in
    let same : to_z w64 (of_z w64 w) ≡ w = search (arith, ints, to_z-of_z) in
    let steps : reverse c.as_slice-steps.result.now ≡ reverse x = ap reverse c.as_slice-steps.ensures in
    let ys = map reversed (weighed (take (c.loop-place.place + 1) paths) (take (c.loop-place.place + 1) weights)) in
    let g : (ks : List (List ℕ)) × IsGrown (map reversed xs ++ record { steps = reverse c.as_slice-steps.result.now; weight = to_z w64 (of_z w64 w) } ∷ []) ks c.walk.new.rows.items (get pair_eq c.walk.new.index) = c.in_ok-walk.ensures (map reversed xs) c.loop-place.invariant.grown.0 c.loop-place.invariant.grown.1 in
    let grown : IsGrown ys g.0 c.walk.new.rows.items (get pair_eq c.walk.new.index) = subst (λ z. IsGrown z g.0 c.walk.new.rows.items (get pair_eq c.walk.new.index)) (ap (λ z. map reversed xs ++ record { steps = reverse c.as_slice-steps.result.now; weight = z } ∷ []) same ∙ ap (λ y. map reversed xs ++ record { steps = y; weight = w } ∷ []) steps ∙ sym (ap (map reversed) more ∙ reversed-more xs x w)) g.1 in
    let n : length c.walk.new.rows.items ≤ length (keys_of zs) = rows_are_nodes ys zs g.0 c.walk.new.rows.items (get pair_eq c.walk.new.index) grown (some_of_all (c.loop-place.place + 1) paths weights) in
    (cc, omega (arith, n, c.if-len-gt-NODE_LIMIT.true, c.len.ensures, c.walk.new.rows.ok.0))

pub loop-place-preserved : goal.loop-place-preserved
loop-place-preserved c =
    let paths = c.args.paths.now in
    let weights = c.args.weights.now in
    let xs = weighed (take c.loop-place.place paths) (take c.loop-place.place weights) in
    let x = c.index-paths-place.result in
    let w = get_or weights c.loop-place.place (pos 0) in
    let at_w : get_or weights c.loop-place.place w ≡ w = get_or-any weights c.loop-place.place w (pos 0) (omega (arith, c.requires.lengths)) in
    let more : weighed (take (c.loop-place.place + 1) paths) (take (c.loop-place.place + 1) weights) ≡ xs ++ record { steps = x; weight = w } ∷ [] =
    weighed-more paths weights c.loop-place.place x w c.loop-place-test.true c.requires.lengths (sym c.index-paths-place.is) at_w in
    let same : to_z w64 (of_z w64 w) ≡ w = search (arith, ints, to_z-of_z) in
    let steps : reverse c.as_slice-steps.result.now ≡ reverse x = ap reverse c.as_slice-steps.ensures in
    let ys = map reversed (weighed (take (c.loop-place.place + 1) paths) (take (c.loop-place.place + 1) weights)) in
    let g : (ks : List (List ℕ)) × IsGrown (map reversed xs ++ record { steps = reverse c.as_slice-steps.result.now; weight = to_z w64 (of_z w64 w) } ∷ []) ks c.walk.new.rows.items (get pair_eq c.walk.new.index) = c.in_ok-walk.ensures (map reversed xs) c.loop-place.invariant.grown.0 c.loop-place.invariant.grown.1 in
    record {
      grown = (g.0, subst (λ z. IsGrown z g.0 c.walk.new.rows.items (get pair_eq c.walk.new.index)) (ap (λ z. map reversed xs ++ record { steps = reverse c.as_slice-steps.result.now; weight = z } ∷ []) same ∙ ap (λ y. map reversed xs ++ record { steps = y; weight = w } ∷ []) steps ∙ sym (ap (map reversed) more ∙ reversed-more xs x w)) g.1);
      small = subst (EachOf IsSmall) (sym more) (small-more xs x w c.loop-place.invariant.small (omega (arith, ints), omega (arith, ints)));
      within = omega (arith, c.if-len-gt-NODE_LIMIT.false, c.len.ensures, c.walk.new.rows.ok.0);
    }
