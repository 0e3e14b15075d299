use Rattle.std.proofs.Common.{◌≡◌, ◌<◌, ◌≤◌, ◌++◌, ◌∷◌, [], Some, length, length-append, ap, refl, sym, ◌∙◌, subst, arith}
use Rattle.std.specs.Prelude.{All, string_bytes}
use Rattle.std.specs.Str.{bytes_eq}
use Rattle.std.proofs.lemmas.List.Elements.{All-push, All-weaker}
use Rattle.indexmap.specs.IndexMap.{get_by}
use Rattle.prof_raw.specs.Texts.{entry_text, texts_of, first_place, entered}
use Rattle.prof_raw.proofs.TextLemmas.{texts_push, place_push, place-pushed, with_text-new, length-map}
use Rattle.prof_raw.proofs.strings.Strings.place_or_push.Goals as goal

pub invariant_of-self-2 : goal.invariant_of-self-2
invariant_of-self-2 c =
    let e = c.in_ok-entry.entry in
    let old = c.self.inside.index.entries in
    let new = c.entry_of.new.index.entries in
    let places = c.self.inside.places.items in
    let text = c.args.text.now in
    let same : string_bytes c.in_ok-text.text ≡ text = c.in_ok-text.ensures.ok in
    let grown : c.push_reserved.new.self.items ≡ places ++ e ∷ [] = c.push_reserved.ensures.items ∙ ap (λ xs. xs ++ e ∷ []) c.in_ok-reserve.ensures.items in
    let many = ap length grown in
    let count = length-append places (e ∷ []) in
    let wider : length old ≤ length new = omega (arith, ap length c.in_ok-entry.ensures.kept.1, length-append old c.in_ok-entry.ensures.kept.0) in
    let read = texts_push string_bytes old new places e (texts_of (λ p. string_bytes p.0) old places) text c.in_ok-entry.ensures.kept c.self.invariant.2 refl (c.in_ok-entry.ensures.text ∙ same) in
    let stands : length (texts_of (λ p. string_bytes p.0) old places) ≡ length places = length-map _ places in
    let room : length (texts_of (λ p. string_bytes p.0) old places) < 4294967295 = rw c.self.view_is c.requires in
    let at : c.len-place.result ≡ length (texts_of (λ p. string_bytes p.0) old places) = omega (arith, ap length c.in_ok-reserve.ensures.items, stands) in (
      omega arith,
      (let few = c.in_ok-entry.ensures.few in let before = c.self.invariant.1 in omega arith),
      subst (All (λ x. x < length new)) (sym grown)
          (All-push (λ x. x < length new) places e (All-weaker (λ x. x < length old) (λ x. x < length new) (λ x h. omega arith) places c.self.invariant.2) c.in_ok-entry.ensures.within),
      λ q. c.in_ok-entry.ensures.places q
          ∙ ap (λ t. entered (get_by (λ k. bytes_eq q (string_bytes k)) c.self.inside.index) q t c.len-place.result) same
          ∙ place_push (texts_of (λ p. string_bytes p.0) old places) text q _ c.len-place.result (c.self.invariant.3 q) at
          ∙ ap (λ xs. first_place xs q) (sym (ap (texts_of (λ p. string_bytes p.0) new) grown ∙ read)),
    )

pub returns-clause-place : goal.returns-clause-place
returns-clause-place c =
    let e = c.in_ok-entry.entry in
    let places = c.self.inside.places.items in
    let text = c.args.text.now in
    let grown : c.push_reserved.new.self.items ≡ places ++ e ∷ [] = c.push_reserved.ensures.items ∙ ap (λ xs. xs ++ e ∷ []) c.in_ok-reserve.ensures.items in
    let read = texts_push string_bytes c.self.inside.index.entries c.entry_of.new.index.entries places e c.args.self.now text c.in_ok-entry.ensures.kept c.self.invariant.2 c.self.view_is (c.in_ok-entry.ensures.text ∙ c.in_ok-text.ensures.ok) in
    let at : c.len-place.result ≡ length c.args.self.now = omega (arith, ap length c.in_ok-reserve.ensures.items, length-map (entry_text (λ p. string_bytes p.0) c.self.inside.index.entries) places, ap length c.self.view_is) in
    ap (λ xs. first_place xs text) (ap (texts_of (λ p. string_bytes p.0) c.entry_of.new.index.entries) grown ∙ read)
    ∙ place-pushed c.args.self.now text (sym c.in_default.ensures) ∙ ap Some (sym at)

pub returns-clause-with : goal.returns-clause-with
returns-clause-with c =
    let e = c.in_ok-entry.entry in
    let places = c.self.inside.places.items in
    let text = c.args.text.now in
    let grown : c.push_reserved.new.self.items ≡ places ++ e ∷ [] = c.push_reserved.ensures.items ∙ ap (λ xs. xs ++ e ∷ []) c.in_ok-reserve.ensures.items in
    let read = texts_push string_bytes c.self.inside.index.entries c.entry_of.new.index.entries places e c.args.self.now text c.in_ok-entry.ensures.kept c.self.invariant.2 c.self.view_is (c.in_ok-entry.ensures.text ∙ c.in_ok-text.ensures.ok) in
    ap (texts_of (λ p. string_bytes p.0) c.entry_of.new.index.entries) grown ∙ read ∙ with_text-new c.args.self.now text (sym c.in_default.ensures)
