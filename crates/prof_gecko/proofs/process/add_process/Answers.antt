use Rattle.std.proofs.Common.{rules, ◌≡◌, ℤ, ◌-ℤ◌, SFits, length, sym, ◌∙◌, ap, subst, arith}
use Rattle.std.proofs.lemmas.Int.{to_z-of_z}
use mir.Syntax.{w64}
use Rattle.std.specs.List.{All}
use Rattle.prof_gecko.specs.declared.shift.Shift.{Shift}
use Rattle.prof_gecko.specs.Columns.{shift_of}
use Rattle.prof_gecko.specs.Gathered.{ProcessCells}
use Rattle.prof_gecko.specs.Processes.{ThreadHasRanges, process_broken}
use Rattle.prof_gecko.proofs.Adding.{process_added, process_fails}
use Rattle.prof_gecko.proofs.Refusing.{names}
use Rattle.prof_gecko.proofs.Walking.{head_few}
use Rattle.prof_gecko.proofs.process.add_process.Goals as goal

pub returns-in_err-check_head : goal.returns-in_err-check_head
returns-in_err-check_head c = names _ c.from_residual.result c.in_err-check_head.field-0.0 (process_broken c.args.common.categories c.args.common.root _ c.args.p) _
    (ap (λ k. process_broken c.args.common.categories c.args.common.root k c.args.p) (sym c.len.ensures)
    ∙ process_fails c.args.common.categories c.args.common.root c.len.result c.args.p c.in_err-check_head.field-0.0 c.in_err-check_head.ensures)
    c.from_residual.ensures.1

pub add_threads-requires : goal.add_threads-requires
add_threads-requires c =
    let most = head_few c.len.result c.args.p c.in_ok-check_head.ensures in
    let many = ap (λ (x : ProcessCells). length x.threads) c.p.view_is in
    let there = c.p.inside.threads.ok.0 in
    let at = c.len.ensures in
    record {
      default = c.requires.default;
      few = omega arith;
      ranges = subst (λ (x : ProcessCells). All ThreadHasRanges x.threads) (sym c.p.view_is) c.requires.ranges;
    }

pub returns : goal.returns
returns c =
    let fits : SFits w64 c.args.common.root = search rules in
    let shift : shift_of c.shift-shift.result ≡ c.args.p.start -ℤ c.args.common.root =
    ap (λ (s : Shift). shift_of s) c.shift-shift.ensures ∙ ap (λ (r : ℤ). c.args.p.start -ℤ r) (to_z-of_z w64 c.args.common.root fits) in
    process_added _ c.add_threads.result c.args.common.categories c.args.common.default c.args.common.root _ c.len.result _ _ _ _ c.args.p
    (c.deref.ensures.value ∙ ap (λ (x : ProcessCells). x.libs) c.p.view_is) shift (ap (λ (x : ProcessCells). x.threads) c.p.view_is)
    c.len.ensures c.in_ok-check_head.ensures c.add_threads.ensures
