use Rattle.std.proofs.Common.{rules, ◌∷◌, ℤ, SFits, ◌∙◌, ap}
use Rattle.std.proofs.lemmas.Int.{to_z-of_z}
use mir.Syntax.{w64}
use Rattle.prof_gecko.specs.Gathered.{process}
use Rattle.prof_gecko.specs.Work.{entries_left}
use Rattle.prof_gecko.proofs.Walking.{opened}
use Rattle.prof_gecko.proofs.profile.take_apart.Goals as goal

pub returns : goal.returns
returns c =
    let fits : SFits w64 c.p.inside.start = search rules in
    ap (λ (s : ℤ). process (record {
      start = s;
      start_fault = c.p.inside.start_fault;
      libs = c.p.inside.libs.items;
      libs_fault = c.p.inside.libs_fault;
      threads = c.p.inside.threads.items;
      threads_fault = c.p.inside.threads_fault;
    }) ∷ entries_left c.add_children.new.work.items) (to_z-of_z w64 c.p.inside.start fits)
    ∙ opened _ c.p.inside.children.items c.p.inside.children_fault c.args.p _ _ _ c.p.view_is c.in_ok-add_fault.ensures c.in_ok-add_children.ensures
