use Rattle.std.proofs.Common.{◌≤◌, length, take}
use Rattle.prof_view_tree.specs.Groups.{AreBelow, bulk, bundle, rest_path}
use Rattle.prof_view_tree.specs.Weighing.{AreAlike, back_path}
use Rattle.prof_view_tree.proofs.groups.prefixes_of.Given as goal

abbrev pub invariant-loop-entry : goal.invariant-loop-entry
invariant-loop-entry l = record {
  paths : AreAlike (bundle (rest_path l.stacks) (take l.entry-index l.group)) (bundle (back_path l.stacks) l.above.items);
  rows : AreBelow (length l.stacks) l.above.items;
  light : bulk l.above.items ≤ bulk (take l.entry-index l.group);
}
