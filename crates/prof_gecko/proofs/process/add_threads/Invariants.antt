use Rattle.std.proofs.Common.{◌≡◌, ◌+◌, ◌≤◌, length, map, drop, vec_len}
use Rattle.prof_gecko.specs.Columns.{shift_of}
use Rattle.prof_gecko.specs.Converted.{gecko_thread}
use Rattle.prof_gecko.specs.Checks.{gecko_thread_broken}
use Rattle.prof_gecko.proofs.Walking.{Added}
use Rattle.prof_gecko.proofs.process.add_threads.Given as goal

abbrev pub invariant-loop-cells : goal.invariant-loop-cells
invariant-loop-cells l = record {
  count : vec_len l.threads ≡ vec_len l.fn.threads + length l.yielded;
  most : vec_len l.threads ≤ 1024;
  added : Added
      (λ k g. gecko_thread_broken k l.common.categories l.libs (shift_of l.shift) g)
      (gecko_thread l.common.categories l.common.default l.libs (shift_of l.shift))
      (map (λ t. t.value) l.fn.threads.items) l.fn.gathered.items (drop (length l.yielded) l.fn.gathered.items) (map (λ t. t.value) l.threads.items);
}
