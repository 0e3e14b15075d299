use Rattle.std.proofs.Common.{◌≡◌, ◌≤◌, ◌<◌, ℕ, Some, None, length, arith, sym, ◌∙◌, ap}
use Rattle.prof_raw.specs.declared.limits.TheConstants.{MOST_STRINGS}
use Rattle.std.specs.Prelude.{not, if◌then◌else◌, Bool}
use Rattle.std.specs.Option.{option_or}
use Rattle.prof_grammar.specs.Value.{Value}
use Rattle.prof_column.proofs.ValuesRead.{on-string, on-ok}
use Rattle.prof_column.proofs.TextLists.{texts-full, texts-more, no-text, or-none}
use Rattle.prof_column.proofs.texts.TextListFromItems.take_item.Goals as goal

pub returns-then-len-clause-item : goal.returns-then-len-clause-item
returns-then-len-clause-item g c =
    let over : MOST_STRINGS < length c.args.self.now.texts.items = let l = c.len.ensures in let t = c.if-len.true in omega arith in
    on-ok c.skip_behind.result (λ on. record { value = on.0; reads = on.1; taken = λ first vs is. texts-full first c.args.self.now vs on.0 over is }) c.skip_behind.ensures.value

pub returns-in_ok-push-in-Str-clause-item : goal.returns-in_ok-push-in-Str-clause-item
returns-in_ok-push-in-Str-clause-item g c =
    let few : length c.args.self.now.texts.items ≤ MOST_STRINGS = let l = c.len.ensures in let t = c.if-len.false in omega arith in
    let text = c.string.result.now in
    record {
      value = Value.string text;
      reads = on-string c.args.feed.now text c.string.ensures;
      taken = λ first vs is. texts-more first c.args.self.now _ vs (Value.string text) c.in_ok-text-in-Str.text few c.in_ok-push-in-Str.ensures.items c.in_ok-text-in-Str.ensures.ok (or-none c.args.self.now.bad) is;
    }

pub returns-in_ok-push-in_default : goal.returns-in_ok-push-in_default
returns-in_ok-push-in_default g c =
    let few : length c.args.self.now.texts.items ≤ MOST_STRINGS = let l = c.len.ensures in let t = c.if-len.false in omega arith in
    let on = c.in_ok-skip_behind-in_default.ensures.value in
    let other = no-text c.args.first c.args.feed.now on.0 c.requires c.in_default.not-Str on.1.begins in
    let row : c.len-row.result ≡ length c.args.self.now.texts.items = let l = c.len-row.ensures in omega arith in
    let bad = c.or-self.ensures ∙ ap (λ (n : ℕ). option_or c.args.self.now.bad (Some n)) row ∙ sym (ap (λ (b : Bool). option_or c.args.self.now.bad (if not b then Some (length c.args.self.now.texts.items) else None)) other.0) in
    record {
      ok = c.in_ok-skip_behind-in_default.ensures.ok;
      item = record {
        value = on.0;
        reads = on.1;
        taken = λ first vs is. texts-more first c.args.self.now _ vs on.0 c.new.result few c.in_ok-push-in_default.ensures.items (c.new.ensures.bytes ∙ sym other.1) bad is;
      };
      err = tt;
    }
