use Rattle.std.proofs.Common.{◌≡◌, Option, sym, ◌∙◌, ap}
use Rattle.std.specs.declared.rc.Rc.{Rc}
use Rattle.std.specs.declared.alloc.Global.{Global}
use Rattle.prof_tables.specs.declared.shared.Shared.{Shared}
use Rattle.prof_raw.specs.declared.strings.Strings.{Strings}
use Rattle.std.specs.Prelude.{codes}
use Rattle.std.specs.Option.{option_map}
use Rattle.prof_grammar.specs.Value.{field, last_named}
use Rattle.prof_layout.specs.Profile.{base_broken, common_broken, common_of}
use Rattle.prof_members.specs.Gathered.{AreShared}
use Rattle.prof_read.specs.Bases.{IsBaseOf}
use Rattle.prof_read.proofs.Refusing.{names-on, names-unbuilt}
use Rattle.prof_read.proofs.Standing.{object_found, none_found, none_shared, shared_at, common_at, base_by_strings, base_by_tables, tables_by}
use Rattle.prof_read.proofs.building.base_of.Goals as goal

pub returns-in_default : goal.returns-in_default
returns-in_default c = record {
  ok = tt;
  err = tt;
  base = λ v counts there. let none = none_shared v (none_found AreShared (field (codes "shared") v) c.args.shared c.in_default.not-Object there) in (none.0, (none.1, none.2));
}

pub returns-in_err-built-clause-base : goal.returns-in_err-built-clause-base
returns-in_err-built-clause-base c = λ v counts there.
    let o = object_found AreShared (field (codes "shared") v) c.args.shared c.in-Object.tables c.in-Object.is there in
    let shared = shared_at v o.0 o.1 ∙ sym (c.has_stacks.ensures o.0 o.2) ∙ c.if-has_stacks.true in
    names-unbuilt (λ (s : Rc Shared Global). s.value) (IsBaseOf v) c.in_err-built.field-0.0 c.from_residual-in_err-built.result _ (base_broken v) _ c.in_err-built.ensures
    (base_by_tables v o.0 c.args.categories c.args.default c.in_ok-raw.raw counts o.1 shared (c.in_ok-raw.ensures o.0 o.2))
    c.from_residual-in_err-built.ensures.1

pub returns-then-has_stacks-clause-base : goal.returns-then-has_stacks-clause-base
returns-then-has_stacks-clause-base c = λ v counts there.
    let o = object_found AreShared (field (codes "shared") v) c.args.shared c.in-Object.tables c.in-Object.is there in
    let shared = shared_at v o.0 o.1 ∙ sym (c.has_stacks.ensures o.0 o.2) ∙ c.if-has_stacks.true in
    let raw = c.in_ok-raw.ensures o.0 o.2 in
    let built = c.in_ok-built.ensures in (
      sym (base_by_tables v o.0 c.args.categories c.args.default c.in_ok-raw.raw counts o.1 shared raw) ∙ built.0,
      (shared, built.1 ∙ tables_by v o.0 c.args.categories c.args.default c.in_ok-raw.raw counts o.1 raw built.0),
    )

pub returns-in_err-strings-clause-base : goal.returns-in_err-strings-clause-base
returns-in_err-strings-clause-base c = λ v counts there.
    let o = object_found AreShared (field (codes "shared") v) c.args.shared c.in-Object.tables c.in-Object.is there in
    let apart = shared_at v o.0 o.1 ∙ sym (c.has_stacks.ensures o.0 o.2) ∙ c.if-has_stacks.false in
    let member = last_named (codes "stringArray") o.0 in
    names-on (λ (strings : Option (Rc Strings Global)). option_map (λ s. s.value) strings ≡ common_of member) (IsBaseOf v) c.in_err-strings.field-0.0 c.from_residual-in_err-strings.result
    (common_broken member) (base_broken v) (c.in_err-strings.ensures.strings member o.2.strings)
    (λ b e. base_by_strings v apart ∙ ap common_broken (common_at v o.0 o.1) ∙ e)
    c.from_residual-in_err-strings.ensures.1

pub returns-clause-base : goal.returns-clause-base
returns-clause-base c = λ v counts there.
    let o = object_found AreShared (field (codes "shared") v) c.args.shared c.in-Object.tables c.in-Object.is there in
    let apart = shared_at v o.0 o.1 ∙ sym (c.has_stacks.ensures o.0 o.2) ∙ c.if-has_stacks.false in
    let held = c.in_ok-strings.ensures.strings (last_named (codes "stringArray") o.0) o.2.strings in (
      base_by_strings v apart ∙ ap common_broken (common_at v o.0 o.1) ∙ held.0,
      (apart, held.1 ∙ ap common_of (sym (common_at v o.0 o.1))),
    )
