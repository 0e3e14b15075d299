use Rattle.std.proofs.Common.{◌≡◌, ◌≤◌, None, List, length, map, vec_len}
use Rattle.std.specs.List.{All}
use Rattle.prof_grammar.specs.Value.{Value}
use Rattle.prof_layout.specs.Lists.{is_object, first_unfit}
use Rattle.prof_tables.specs.Profiles.{CountsIn}
use Rattle.prof_read.specs.Bases.{StandsOn}
use Rattle.prof_members.specs.Gathered.{AreThreads}
use Rattle.prof_read.proofs.Listing.{AreBuilt}
use Rattle.prof_read.proofs.building.threads_of.Given as goal

abbrev pub invariant-loop-parts : goal.invariant-loop-parts
invariant-loop-parts l = record {
  count : vec_len l.built ≡ length l.yielded;
  most : vec_len l.built ≤ 1024;
  counts : All (CountsIn l.categories l.default) (map (λ t. t.value) l.built.items);
  built : (v : Value) (vs : List Value) → StandsOn v l.categories l.default l.base → first_unfit is_object vs ≡ None → AreThreads vs l.fn.threads.items → AreBuilt v (length l.yielded) vs (map (λ t. t.value) l.built.items);
}
