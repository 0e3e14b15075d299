use Rattle.std.proofs.Common.{◌<◌, ◌≤◌, ◌∙◌, sym, ap, arith, rules, ℕ, Option, Some, length}
use Rattle.prof_raw.specs.declared.limits.TheConstants.{MOST_CATEGORIES}
use Rattle.prof_layout.specs.Profile.{is_category}
use Rattle.std.specs.Option.{option_map}
use Rattle.prof_layout.specs.Lists.{wrong_kind}
use Rattle.prof_column.specs.Kept.{kept_items}
use Rattle.prof_members.proofs.WholeLists.{fault_of, optional_over, optional_within, names-count}
use Rattle.prof_members.proofs.lists.CategoryList.fault.Goals as goal

pub returns-in-Array : goal.returns-in-Array
returns-in-Array c member h =
    let count = names-count (kept_items MOST_CATEGORIES member) c.args.self.now.names.items h.names in
    let many : MOST_CATEGORIES < length (kept_items MOST_CATEGORIES member) = let l = c.len.ensures in let t = c.if-len.true in omega arith in
    ap Some c.whole-in-Array.ensures ∙ sym (optional_over is_category MOST_CATEGORIES member (sym h.state ∙ c.in-Array.is) many)

pub returns-in-Array-2 : goal.returns-in-Array-2
returns-in-Array-2 c member h =
    let count = names-count (kept_items MOST_CATEGORIES member) c.args.self.now.names.items h.names in
    let few : length (kept_items MOST_CATEGORIES member) ≤ MOST_CATEGORIES = let l = c.len.ensures in let t = c.if-len.false in omega arith in
    let within = optional_within is_category MOST_CATEGORIES member (sym h.state ∙ c.in-Array-2.is) few in
    fault_of c.args.self.now.bad c.map.result _ (λ n l q. search rules) c.map.ensures.cases ∙ ap (λ (o : Option ℕ). option_map wrong_kind o) h.bad ∙ sym within
