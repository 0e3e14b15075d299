use Rattle.std.proofs.Common.{◌≡◌, ◌<◌, ◌++◌, ◌∷◌, [], List, length, length-take-le, map, take, to_z, of_z, w64, subst, arith}
use Rattle.std.proofs.lemmas.Int.{ints}
use Rattle.std.proofs.lemmas.List.{length-map}
use Rattle.prof_tables.specs.Paths.{path}
use Rattle.prof_tree.specs.Nodes.{Weighed}
use Rattle.prof_view_tree.specs.Weighing.{Weighs, own_path}
use Rattle.prof_view_tree.proofs.Sampled.{own_more, same64}
use Rattle.prof_view_tree.proofs.weighing.weights_of.Goals as goal

pub loop-k-preserved : goal.loop-k-preserved
loop-k-preserved c =
    let t = c.args.thread.now in
    let s = c.sample-sample.result in
    let range = c.sample-sample.ensures.weight in
    let same : to_z w64 (of_z w64 s.weight) ≡ s.weight = same64 s.weight (omega (arith, ints, range.0)) (omega (arith, ints, range.1)) in
    let xs : List Weighed = map (own_path t) (take c.loop-k.k t.samples) in
    let few : length xs < 8388608 = omega (arith, c.loop-k-test.true, c.sample_count-k-end.ensures.few, length-map (take c.loop-k.k t.samples) (own_path t), length-take-le c.loop-k.k t.samples (omega (arith, c.loop-k-test.true, c.sample_count-k-end.ensures.count))) in
    subst (λ (z : List Weighed). Weighs t.shared.stacks z c.add.new.self) (own_more t c.loop-k.k s c.sample-sample.ensures.row)
    (subst (λ w. Weighs t.shared.stacks (xs ++ record { steps = path t.shared.stacks s.stack; weight = w } ∷ []) c.add.new.self) same
    (c.add.ensures t.shared.stacks xs c.loop-k.invariant few))

pub returns-clause-light : goal.returns-clause-light
returns-clause-light c =
    let t = c.args.thread.now in
    omega (arith, c.loop-k.invariant.light, c.loop-k.auto.k-end, c.sample_count-k-end.ensures.few, length-map (take c.loop-k.k t.samples) (own_path t), length-take-le c.loop-k.k t.samples (omega (arith, c.loop-k.auto.k-end, c.sample_count-k-end.ensures.count)))
