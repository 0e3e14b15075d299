use Rattle.std.proofs.Common.{◌++◌, ◌∷◌, [], ℕ, List, w64, to_z, of_z, sym, subst, arith}
use Rattle.std.proofs.lemmas.Int.{ints}
use Rattle.prof_tree.specs.Nodes.{Weighed}
use Rattle.std.specs.HashMap.{get}
use Rattle.prof_tree.specs.Growing.{IsGrown, pair_eq}
use Rattle.prof_tree.proofs.Weights.{small-more}
use Rattle.prof_tree.proofs.Adding.{same_weight, sum_fits, dropped_fits, one_more, one_more_empty, one_more_kept}
use Rattle.prof_tree.proofs.builder.TreeBuilder.add.Goals as goal

pub walk-requires-clause-grown : goal.walk-requires-clause-grown
walk-requires-clause-grown c =
    let h = c.requires.held in
    (h.0, h.1.keys, h.1.grown, omega (arith, h.2), h.1.small)

pub plus-self-requires : goal.plus-self-requires
plus-self-requires c = sum_fits c.requires.held.0 c.args.self.now c.args.weight c.requires.held.1 c.requires.held.2 (omega (arith, ints)) (omega (arith, ints))

pub plus-self-requires-then-is_empty : goal.plus-self-requires-then-is_empty
plus-self-requires-then-is_empty c = dropped_fits c.requires.held.0 c.args.self.now c.args.weight c.requires.held.1 c.requires.held.2 (omega (arith, ints)) (omega (arith, ints))

pub returns-then-is_empty : goal.returns-then-is_empty
returns-then-is_empty c = λ xs h few.
    let w = c.args.weight in
    let one : Weighed = record { steps = c.args.path.now; weight = to_z w64 (of_z w64 w) } in
    let g : (ks : List (List ℕ)) × IsGrown (xs ++ one ∷ []) ks c.walk.new.rows.items (get pair_eq c.walk.new.index) = c.in_ok-walk.ensures xs h.keys h.grown in
    record {
      keys = g.0;
      grown = subst (λ z. IsGrown (xs ++ record { steps = c.args.path.now; weight = z } ∷ []) g.0 c.walk.new.rows.items (get pair_eq c.walk.new.index)) (same_weight w (omega (arith, ints)) (omega (arith, ints))) g.1;
      small = small-more xs c.args.path.now w h.small (omega (arith, ints), omega (arith, ints));
      selected = one_more xs c.args.self.now c.args.path.now w c.plus-self.result h few (omega (arith, ints)) (omega (arith, ints)) c.plus-self.ensures;
      dropped = one_more_empty xs c.args.self.now c.args.path.now w c.plus-self-then-is_empty.result h few (omega (arith, ints)) (omega (arith, ints)) c.plus-self-then-is_empty.ensures (sym c.if-is_empty.ensures);
    }

pub returns-else-is_empty : goal.returns-else-is_empty
returns-else-is_empty c = λ xs h few.
    let w = c.args.weight in
    let one : Weighed = record { steps = c.args.path.now; weight = to_z w64 (of_z w64 w) } in
    let g : (ks : List (List ℕ)) × IsGrown (xs ++ one ∷ []) ks c.walk.new.rows.items (get pair_eq c.walk.new.index) = c.in_ok-walk.ensures xs h.keys h.grown in
    record {
      keys = g.0;
      grown = subst (λ z. IsGrown (xs ++ record { steps = c.args.path.now; weight = z } ∷ []) g.0 c.walk.new.rows.items (get pair_eq c.walk.new.index)) (same_weight w (omega (arith, ints)) (omega (arith, ints))) g.1;
      small = small-more xs c.args.path.now w h.small (omega (arith, ints), omega (arith, ints));
      selected = one_more xs c.args.self.now c.args.path.now w c.plus-self.result h few (omega (arith, ints)) (omega (arith, ints)) c.plus-self.ensures;
      dropped = one_more_kept xs c.args.self.now c.args.path.now w h (sym c.if-is_empty.ensures);
    }
