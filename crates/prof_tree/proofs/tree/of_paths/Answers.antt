use Rattle.std.proofs.Common.{◌≡◌, ◌+◌, ◌<◌, ◌++◌, ◌∷◌, [], List, length, length-take-le, take, get_or, pos, w64, to_z, of_z, sym, ap, ◌∙◌, subst, arith}
use Rattle.std.proofs.lemmas.Int.{ints, to_z-of_z}
use Rattle.std.proofs.lemmas.List.{take_all}
use Rattle.prof_tree.specs.Building.{Holds}
use Rattle.prof_tree.specs.Nodes.{Weighed, weighed}
use Rattle.prof_tree.proofs.Weights.{weighed-more, length-weighed, get_or-any}
use Rattle.prof_tree.proofs.tree.of_paths.Goals as goal

pub add-requires-clause-held : goal.add-requires-clause-held
add-requires-clause-held c = (
  weighed (take c.loop-place.place c.args.paths.now) (take c.loop-place.place c.args.weights.now),
  c.loop-place.invariant,
  omega (arith, c.loop-place-test.true, length-weighed (take c.loop-place.place c.args.paths.now) (take c.loop-place.place c.args.weights.now), length-take-le c.loop-place.place c.args.paths.now (omega (arith, c.loop-place-test.true))),
)

pub loop-place-preserved : goal.loop-place-preserved
loop-place-preserved c =
    let k = c.loop-place.place in
    let xs = weighed (take k c.args.paths.now) (take k c.args.weights.now) in
    let x = c.index-paths-place.result in
    let w = get_or c.args.weights.now k (pos 0) in
    let at_w : get_or c.args.weights.now k w ≡ w = get_or-any c.args.weights.now k w (pos 0) (omega (arith, c.requires.lengths)) in
    let more : weighed (take (k + 1) c.args.paths.now) (take (k + 1) c.args.weights.now) ≡ xs ++ record { steps = x; weight = w } ∷ [] =
    weighed-more c.args.paths.now c.args.weights.now k x w c.loop-place-test.true c.requires.lengths (sym c.index-paths-place.is) at_w in
    let same : to_z w64 (of_z w64 w) ≡ w = search (arith, ints, to_z-of_z) in
    let few : length xs < 8388608 = omega (arith, c.loop-place-test.true, length-weighed (take k c.args.paths.now) (take k c.args.weights.now), length-take-le k c.args.paths.now (omega (arith, c.loop-place-test.true))) in
    let held : Holds (xs ++ record { steps = c.as_slice.result.now; weight = to_z w64 (of_z w64 w) } ∷ []) c.add.new.self = c.in_ok-add.ensures xs c.loop-place.invariant few in
    subst (λ (z : List Weighed). Holds z c.add.new.self) (ap (λ z. xs ++ record { steps = c.as_slice.result.now; weight = z } ∷ []) same ∙ ap (λ y. xs ++ record { steps = y; weight = w } ∷ []) c.as_slice.ensures ∙ sym more) held

pub returns-clause-each_once : goal.returns-clause-each_once
returns-clause-each_once c =
    let k = c.loop-place.place in
    let paths : take k c.args.paths.now ≡ c.args.paths.now = take_all k c.args.paths.now (omega (arith, c.loop-place-test.false)) in
    let weights : take k c.args.weights.now ≡ c.args.weights.now = take_all k c.args.weights.now (omega (arith, c.loop-place-test.false, c.requires.lengths)) in
    let held : Holds (weighed c.args.paths.now c.args.weights.now) c.loop-place.builder = subst (λ ps. Holds (weighed ps c.args.weights.now) c.loop-place.builder) paths (subst (λ ws. Holds (weighed (take k c.args.paths.now) ws) c.loop-place.builder) weights c.loop-place.invariant) in
    c.in_ok-tree.ensures.each_once (weighed c.args.paths.now c.args.weights.now) held
