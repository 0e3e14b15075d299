use Rattle.std.proofs.Common.{◌≡◌, ℕ, ◌+◌, List, [], ◌∷◌, length, Some, None, ap, sym, ◌∙◌, arith}
use Rattle.std.specs.Prelude.{is_some, string_bytes}
use Rattle.std.specs.Str.{bytes_eq}
use Rattle.std.specs.String.{string_eq}
use Rattle.std.proofs.lemmas.Map.Text.{hash_map_updates_text}
use Rattle.indexmap.specs.IndexMap.{get, get_by}
use Rattle.indexmap.proofs.CallerLemmas.{insert_entry-new}
use Rattle.prof_raw.proofs.TextLemmas.{found_text, kept_places, new_places, app-nil, is_none_from, pushed_text}
use Rattle.prof_raw.proofs.PushLemmas.{length-push}
use Rattle.prof_raw.proofs.strings.entry_of.Goals as goal

pub returns-in-Some-clause-text : goal.returns-in-Some-clause-text
returns-in-Some-clause-text c = found_text string_bytes c.args.index.now.entries c.as_str.result.now c.in-Some.entry c.args.text (sym c.in-Some.ensures.index) ∙ c.as_str.ensures.value

pub returns-in-Some-clause-kept : goal.returns-in-Some-clause-kept
returns-in-Some-clause-kept c = ([], app-nil c.args.index.now.entries)

pub returns-in-Some-clause-places : goal.returns-in-Some-clause-places
returns-in-Some-clause-places c = kept_places (λ q. get_by (λ k. bytes_eq q (string_bytes k)) c.args.index.now) (string_bytes c.args.text) c.args.place
    (ap (λ (x : List ℕ). is_some (get_by (λ k. bytes_eq x (string_bytes k)) c.args.index.now)) (sym c.as_str.ensures.value) ∙ sym c.in-Some.ensures.found)

pub returns-in_ok-insert-in-None-clause-text : goal.returns-in_ok-insert-in-None-clause-text
returns-in_ok-insert-in-None-clause-text c =
    let none : get string_eq c.args.index.now c.args.text ≡ None = ap (λ (x : List ℕ). get_by (λ k. bytes_eq x (string_bytes k)) c.args.index.now) (sym c.as_str.ensures.value) ∙ is_none_from _ c.in-None.ensures.found in
    pushed_text string_bytes c.args.index.now.entries c.insert.new.self.entries c.args.text c.args.place c.len-entry.result
    (c.in_ok-insert-in-None.ensures.entries ∙ insert_entry-new string_eq c.args.index.now c.args.text c.args.place none) c.len-entry.ensures.len

pub returns-in_ok-insert-in-None-clause-within : goal.returns-in_ok-insert-in-None-clause-within
returns-in_ok-insert-in-None-clause-within c =
    let none : get string_eq c.args.index.now c.args.text ≡ None = ap (λ (x : List ℕ). get_by (λ k. bytes_eq x (string_bytes k)) c.args.index.now) (sym c.as_str.ensures.value) ∙ is_none_from _ c.in-None.ensures.found in
    let grown = c.in_ok-insert-in-None.ensures.entries ∙ insert_entry-new string_eq c.args.index.now c.args.text c.args.place none in
    let at : c.len-entry.result ≡ length c.args.index.now.entries = c.len-entry.ensures.len in
    let many : length c.insert.new.self.entries ≡ 1 + length c.args.index.now.entries = ap length grown ∙ length-push c.args.index.now.entries (c.args.text, c.args.place) ∙ omega arith in
    omega arith

pub returns-in_ok-insert-in-None-clause-kept : goal.returns-in_ok-insert-in-None-clause-kept
returns-in_ok-insert-in-None-clause-kept c =
    let none : get string_eq c.args.index.now c.args.text ≡ None = ap (λ (x : List ℕ). get_by (λ k. bytes_eq x (string_bytes k)) c.args.index.now) (sym c.as_str.ensures.value) ∙ is_none_from _ c.in-None.ensures.found in
    ((c.args.text, c.args.place) ∷ [], c.in_ok-insert-in-None.ensures.entries ∙ insert_entry-new string_eq c.args.index.now c.args.text c.args.place none)

pub returns-in_ok-insert-in-None-clause-few : goal.returns-in_ok-insert-in-None-clause-few
returns-in_ok-insert-in-None-clause-few c =
    let none : get string_eq c.args.index.now c.args.text ≡ None = ap (λ (x : List ℕ). get_by (λ k. bytes_eq x (string_bytes k)) c.args.index.now) (sym c.as_str.ensures.value) ∙ is_none_from _ c.in-None.ensures.found in
    let grown = c.in_ok-insert-in-None.ensures.entries ∙ insert_entry-new string_eq c.args.index.now c.args.text c.args.place none in
    let many : length c.insert.new.self.entries ≡ 1 + length c.args.index.now.entries = ap length grown ∙ length-push c.args.index.now.entries (c.args.text, c.args.place) ∙ omega arith in
    omega arith

pub returns-in_ok-insert-in-None-clause-places : goal.returns-in_ok-insert-in-None-clause-places
returns-in_ok-insert-in-None-clause-places c =
    let none : get string_eq c.args.index.now c.args.text ≡ None = ap (λ (x : List ℕ). get_by (λ k. bytes_eq x (string_bytes k)) c.args.index.now) (sym c.as_str.ensures.value) ∙ is_none_from _ c.in-None.ensures.found in
    new_places (λ q. get_by (λ k. bytes_eq q (string_bytes k)) c.args.index.now) (λ q. get_by (λ k. bytes_eq q (string_bytes k)) c.insert.new.self) (string_bytes c.args.text) c.args.place none
    (hash_map_updates_text (string_bytes c.args.text) c.args.index.now c.insert.new.self (Some c.args.place) c.in_ok-insert-in-None.ensures.updates)
