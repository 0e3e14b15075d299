use Rattle.std.proofs.Common.{◌<◌, ◌≤◌, ◌∙◌, sym, ap, arith, Option, None, false, List, ℕ, [], length}
use Rattle.prof_raw.specs.declared.limits.TheConstants.{MOST_CATEGORIES}
use Rattle.std.specs.Prelude.{string_bytes, is_some, unwrap_or, codes}
use Rattle.std.specs.Option.{option_map}
use Rattle.prof_grammar.specs.Value.{Value, last_named}
use Rattle.prof_gather.specs.Taking.{ReadsOn, TakesItem}
use Rattle.prof_members.specs.Columns.{IsCategoryListOf}
use Rattle.prof_members.proofs.Begun.{ok_more, takes_item, reads_object, not_object, no_category}
use Rattle.prof_members.proofs.MoreItems.{categories_full, categories_added, string-some, string-text}
use Rattle.prof_members.proofs.categories.CategoryListFromItems.take_item.Goals as goal

pub returns-then-len-clause-item : goal.returns-then-len-clause-item
returns-then-len-clause-item g c =
    let many : MOST_CATEGORIES < length c.args.self.now.names.items = let l = c.len.ensures in let t = c.if-len.true in omega arith in
    ok_more ((v : Value) × ReadsOn c.args.feed.now c.skip_behind.new.feed v) (TakesItem (λ a vs b. IsCategoryListOf a vs b) c.args.feed.now c.skip_behind.new.feed c.args.self.now c.args.self.now)
    (λ k. takes_item _ _ _ _ _ k.0 k.1 (categories_full c.args.self.now many k.0)) c.skip_behind.result c.skip_behind.ensures.value

pub returns-in_ok-add-in-ObjectStart-clause-item : goal.returns-in_ok-add-in-ObjectStart-clause-item
returns-in_ok-add-in-ObjectStart-clause-item g c =
    let read = c.in_ok-name-in-ObjectStart.ensures.members in
    let begun = rw c.in-ObjectStart.is at c.requires in
    let few : length c.args.self.now.names.items ≤ MOST_CATEGORIES = let l = c.len.ensures in let t = c.if-len.false in omega arith in
    takes_item _ _ _ _ _ (Value.object read.0) (reads_object c.args.feed.now c.members.new.feed read.0 begun.2 read.1)
    (categories_added c.args.self.now c.add.new.self (Value.object read.0) (option_map string_bytes c.in_ok-name-in-ObjectStart.field-0.name) c.in_ok-name-in-ObjectStart.field-0.grey few
    (ap (λ (t : Option (List ℕ)). is_some t) read.2.name ∙ string-some (last_named (codes "name") read.0))
    (ap (λ (t : Option (List ℕ)). unwrap_or t []) read.2.name ∙ string-text (last_named (codes "name") read.0))
    read.2.grey c.in_ok-add-in-ObjectStart.ensures)

pub returns-in_ok-add-in_default : goal.returns-in_ok-add-in_default
returns-in_ok-add-in_default g c =
    let read = c.in_ok-skip_behind-in_default.ensures.value in
    let few : length c.args.self.now.names.items ≤ MOST_CATEGORIES = let l = c.len.ensures in let t = c.if-len.false in omega arith in
    let no = no_category read.0 (not_object c.args.first c.args.feed.now read.0 c.requires c.in_default.not-ObjectStart read.1.begins) in
    record {
      ok = c.in_ok-skip_behind-in_default.ensures.ok;
      item = takes_item _ _ _ _ _ read.0 read.1 (categories_added c.args.self.now c.add-in_default.new.self read.0 None false few (sym no.0) (sym no.1) (sym no.2) c.in_ok-add-in_default.ensures);
      err = tt;
    }
