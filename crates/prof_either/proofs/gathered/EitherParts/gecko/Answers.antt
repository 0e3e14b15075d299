use Rattle.std.proofs.Common.{◌≡◌, ℕ, List, Option, None, Some, refl, subst}
use Rattle.std.specs.Prelude.{codes, unwrap_or}
use Rattle.std.specs.Option.{option_and_then}
use Rattle.prof_grammar.specs.Value.{Value, field, last_named}
use Rattle.prof_members.specs.Gathered as named
use Rattle.prof_either.proofs.gathered.EitherParts.gecko.Goals as goal

pub returns-clause-ranges : goal.returns-clause-ranges
returns-clause-ranges c = c.process.ensures.ranges c.args.self.threads.ranges c.args.self.ranges

field_in : (name : List ℕ) (o : Option Value) → option_and_then (field name) o ≡ field name (unwrap_or o Value.null)
field_in name None = refl
field_in name (Some v) = refl

pub returns-clause-categories : goal.returns-clause-categories
returns-clause-categories c ms are =
    let meta = last_named (codes "meta") ms in
    subst (λ (member : Option Value). named.IsCategoryList member c.gecko_meta-categories.result.0) (field_in (codes "categories") meta) (c.gecko_meta-categories.ensures.categories meta are.meta)
