use Rattle.std.proofs.Common.{None, sym, ◌∙◌, ap}
use Rattle.prof_raw.specs.Checks.{named}
use Rattle.prof_raw.specs.declared.rule.Table.TheVariants as table
use Rattle.prof_raw.specs.declared.rule.Column.TheVariants as column
use Rattle.prof_layout.specs.Profile.{categories_member, categories_broken, category_names, default_category}
use Rattle.prof_read.proofs.Refusing.{names, fault_none, both}
use Rattle.prof_read.proofs.building.categories_of.Goals as goal

pub returns-in_err-check-clause-categories : goal.returns-in_err-check-clause-categories
unfolding categories_broken
returns-in_err-check-clause-categories c = λ v list.
    names _ c.from_residual.result c.in_err-check.field-0.0 (categories_broken v)
    (ap (named None table.Meta column.Categories) (sym (c.fault.ensures (categories_member v) list)) ∙ c.in_err-check.ensures) c.from_residual.ensures.1

pub returns-clause-categories : goal.returns-clause-categories
unfolding categories_broken category_names default_category
returns-clause-categories c = λ v list.
    let fault = c.fault.ensures (categories_member v) list in
    let whole = ap (named None table.Meta column.Categories) (sym fault) ∙ c.in_ok-check.ensures in
    let is = c.in_ok-categories.ensures.is (categories_member v) list (fault_none None table.Meta column.Categories _ whole) in
    (whole, both is.0 is.1)
