use Rattle.std.proofs.Common.{rules, ◌≡◌, ◌<◌, List, None, Some, length, map, SFits, to_z, of_z, sym, ◌∙◌, ap, subst, arith}
use Rattle.std.proofs.lemmas.Int.{to_z-of_z}
use Rattle.std.proofs.lemmas.List.{length-map}
use mir.Syntax.{w64}
use Rattle.prof_raw.specs.declared.place.Place.{Place}
use Rattle.prof_raw.specs.declared.rule.Table.TheVariants as table
use Rattle.prof_raw.specs.declared.rule.Column.TheVariants as column
use Rattle.prof_raw.specs.Checks.{named}
use Rattle.prof_tables.specs.Profiles.{ProfileTables}
use Rattle.prof_tables.specs.Threads.{ThreadTables}
use Rattle.prof_gecko.specs.Gathered.{ProfileCells}
use Rattle.prof_gecko.specs.Processes.{root_start, entries_broken, profile_broken, profile_of}
use Rattle.prof_gecko.proofs.Refusing.{names, names-on}
use Rattle.prof_gecko.proofs.Walking.{profile_fails, profile_checks, profile_makes, profile_is}
use Rattle.prof_gecko.proofs.profile.convert.Goals as goal

pub returns-in_err-pass : goal.returns-in_err-pass
returns-in_err-pass c = names (λ (p : ProfileTables). p) c.from_residual.result c.in_err-pass.field-0.0 (profile_broken c.args.g) (profile_of c.args.g)
    (profile_fails c.args.g _ c.in_err-pass.field-0.0 c.g.view_is
    (ap (λ (q : Place). named q.thread q.table q.column c.g.inside.category_fault) (sym c.at-list.ensures) ∙ c.in_err-pass.ensures))
    c.from_residual.ensures.1

pub returns-in_err-threads : goal.returns-in_err-threads
returns-in_err-threads c =
    let fits : SFits w64 c.start_of.result = search rules in
    let start : to_z w64 (of_z w64 c.start_of.result) ≡ root_start c.g.inside.root = to_z-of_z w64 c.start_of.result fits ∙ c.start_of.ensures in
    let many : c.len.result ≡ length c.g.inside.categories.items = c.len.ensures ∙ c.g.inside.categories.ok.0 in
    let listed : named None table.Meta column.Categories c.g.inside.category_fault ≡ None =
    ap (λ (q : Place). named q.thread q.table q.column c.g.inside.category_fault) (sym c.at-list.ensures) ∙ c.in_ok-pass.ensures in
    names-on (λ (ts : List ThreadTables). ts) (λ (p : ProfileTables). p) c.in_err-threads.field-0.0 c.from_residual-in_err-threads.result
    (entries_broken c.len.result (to_z w64 (of_z w64 c.start_of.result)) 0 c.g.inside.root) (profile_broken c.args.g) _ (profile_of c.args.g) c.in_err-threads.ensures.built
    (λ b e. profile_checks c.args.g _ c.len.result (to_z w64 (of_z w64 c.start_of.result)) (Some b) c.g.view_is many start listed e)
    c.from_residual-in_err-threads.ensures.1

pub invariant_of-result : goal.invariant_of-result
invariant_of-result c =
    let many : c.len.result ≡ length c.g.inside.categories.items = c.len.ensures ∙ c.g.inside.categories.ok.0 in
    let most = c.in_ok-threads.ensures.few in
    let there = c.in_ok-threads.threads.ok.0 in
    let built = length-map c.in_ok-threads.threads.items (λ t. t.value) in
    profile_is c.len.result c.g.inside.default (to_z w64 (of_z w64 c.start_of.result)) c.g.inside.categories.items c.g.inside.root (map (λ t. t.value) c.in_ok-threads.threads.items) (omega arith) many
    (subst (λ (x : ProfileCells). x.default < length x.categories) (sym c.g.view_is) c.requires.default) c.in_ok-threads.ensures.built.1

pub returns : goal.returns
returns c =
    let fits : SFits w64 c.start_of.result = search rules in
    let start : to_z w64 (of_z w64 c.start_of.result) ≡ root_start c.g.inside.root = to_z-of_z w64 c.start_of.result fits ∙ c.start_of.ensures in
    let many : c.len.result ≡ length c.g.inside.categories.items = c.len.ensures ∙ c.g.inside.categories.ok.0 in
    let listed : named None table.Meta column.Categories c.g.inside.category_fault ≡ None =
    ap (λ (q : Place). named q.thread q.table q.column c.g.inside.category_fault) (sym c.at-list.ensures) ∙ c.in_ok-pass.ensures in (
      profile_checks c.args.g _ c.len.result (to_z w64 (of_z w64 c.start_of.result)) None c.g.view_is many start listed c.in_ok-threads.ensures.built.0,
      profile_makes c.args.g _ c.len.result (to_z w64 (of_z w64 c.start_of.result)) (map (λ t. t.value) c.in_ok-threads.threads.items) c.g.view_is many start c.in_ok-threads.ensures.built.1,
    )
