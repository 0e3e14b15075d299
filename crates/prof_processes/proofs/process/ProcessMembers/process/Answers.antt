use Rattle.std.proofs.Common.{◌≡◌, ◌∙◌, arith, to_z, of_z}
use Rattle.std.specs.Prelude.{codes}
use Rattle.std.specs.Int.{w64}
use Rattle.std.proofs.lemmas.Int.{ints}
use Rattle.std.proofs.lemmas.List.Elements.{All-cons}
use Rattle.prof_gecko.specs.Processes.{HasRanges}
use Rattle.prof_grammar.specs.Value.{last_named}
use Rattle.prof_processes.specs.Processes.{child_entries}
use Rattle.prof_processes.proofs.Processing.{start_of, entries_kept}
use Rattle.prof_processes.proofs.process.ProcessMembers.process.Goals as goal

pub returns-clause-entries : goal.returns-clause-entries
returns-clause-entries c ms h =
    let start = start_of ms c.start_in-start.result (c.start_in-start.ensures (last_named (codes "meta") ms) h.meta) in
    let same : to_z w64 (of_z w64 c.start_in-start.result.start) ≡ c.start_in-start.result.start = omega (arith, ints) in
    entries_kept ms _ _ (record {
      start_fault = start.fault_is;
      start = λ e. same ∙ start.start e;
      libs_fault_ = h.libs.fault_is;
      libs = h.libs.libs;
      threads_fault = c.fault-threads_fault.ensures (last_named (codes "threads") ms) h.threads;
      threads = h.threads.are.threads;
    }) h.children

pub returns-clause-ranges : goal.returns-clause-ranges
returns-clause-ranges c threads children = All-cons HasRanges _ (child_entries c.args.self.children) threads children
