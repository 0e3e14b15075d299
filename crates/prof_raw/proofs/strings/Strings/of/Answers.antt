use Rattle.std.proofs.Common.{◌≡◌, ◌<◌, ◌≤◌, ◌++◌, ◌∷◌, [], length, length-append, ap, sym, ◌∙◌, subst, arith}
use Rattle.std.specs.Prelude.{All, string_bytes}
use Rattle.std.specs.Str.{bytes_eq}
use Rattle.std.proofs.lemmas.List.Elements.{All-push, All-weaker}
use Rattle.indexmap.specs.IndexMap.{get_by}
use Rattle.prof_raw.specs.Texts.{texts_of, entered}
use Rattle.prof_raw.proofs.TextLemmas.{read_push, found_push}
use Rattle.prof_raw.proofs.strings.Strings.of.Goals as goal

pub loop-text-preserved : goal.loop-text-preserved
loop-text-preserved c =
    let e = c.in_ok-entry.entry in
    let old = c.loop-text.index.entries in
    let new = c.entry_of.new.index.entries in
    let places = c.loop-text.places.items in
    let more : c.push.new.self.items ≡ places ++ e ∷ [] = c.in_ok-push.ensures.items in
    let wider : length old ≤ length new = omega (arith, ap length c.in_ok-entry.ensures.kept.1, length-append old c.in_ok-entry.ensures.kept.0) in
    let at : c.len-place.result ≡ length c.loop-text.yielded = omega (arith, c.loop-text.invariant.many) in
    record {
      many = omega (arith, ap length more, length-append places (e ∷ []), length-append c.loop-text.yielded (c.in-Some.text ∷ []), c.loop-text.invariant.many);
      few = omega (arith, ap length more, length-append places (e ∷ []), c.loop-text.invariant.few, c.in_ok-entry.ensures.few);
      within = subst (All (λ x. x < length new)) (sym more)
          (All-push (λ x. x < length new) places e (All-weaker (λ x. x < length old) (λ x. x < length new) (λ x h. omega arith) places c.loop-text.invariant.within) c.in_ok-entry.ensures.within);
      read = ap (texts_of (λ p. string_bytes p.0) new) more
          ∙ read_push string_bytes old new places e c.loop-text.yielded c.in-Some.text c.in_ok-entry.ensures.kept c.loop-text.invariant.within c.loop-text.invariant.read c.in_ok-entry.ensures.text;
      found = λ q. (c.in_ok-entry.ensures.places q
          ∙ ap (λ n. entered (get_by (λ k. bytes_eq q (string_bytes k)) c.loop-text.index) q (string_bytes c.in-Some.text) n) at
          ∙ found_push string_bytes c.loop-text.yielded c.in-Some.text (get_by (λ k. bytes_eq q (string_bytes k)) c.loop-text.index) q (c.loop-text.invariant.found q));
    }
