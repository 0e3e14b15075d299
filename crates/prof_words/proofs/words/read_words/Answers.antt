use Rattle.std.proofs.Common.{◌≡◌, ◌∙◌, Some, None, Err, length, ap, sym, subst, codes, List, ℕ, Bor, Option, option_map}
use Rattle.std.proofs.lemmas.List.{length-map}
use Rattle.clap.specs.Matches.{found_of}
use Rattle.clap.specs.Walk.{Row, Text, all_of, rows_of}
use Rattle.clap.proofs.WalkLemmas.{raw_values-rows}
use Rattle.prof_words.specs.declared.order.Order.{Order}
use Rattle.prof_words.specs.Reading.{Reads, texts, texts_of}
use Rattle.prof_words.specs.Words.{order_of, ordered}
use Rattle.prof_words.proofs.Asked.{asked, fits-taken, refused, rows, rows-behind, rows-found, unasked}
use Rattle.prof_words.proofs.words.read_words.Goals as goal

pub returns-in_default : goal.returns-in_default
returns-in_default c = unasked (texts_of c.args.words.now) (sym c.in_default.ensures)

pub returns-in-Err : goal.returns-in-Err
returns-in-Err c =
    let words = texts_of c.args.words.now in
    refused words c.in-Some.command (asked words c.in-Some.command (sym c.in-Some.ensures)) c.in-Err.refusal (λ e. c.in-Err.ensures.usage (ap Err e))

pub unreachable-requires : goal.unreachable-requires
unreachable-requires c =
    let words = texts_of c.args.words.now in
    let a = asked words c.in-Some.command (sym c.in-Some.ensures) in
    let found = ap (λ (o : Option (Text × List Row)). option_map (λ q. q.1) o) (c.in-Ok.ensures.rows ∙ rows-found words c.in-Some.command a) in
    let met = rw c.in_default-subcommand.is at c.subcommand.ensures.rows in
    let bad : None ≡ Some (rows words c.in-Some.command a) = met ∙ found in
    cc bad

pub order-requires : goal.order-requires
order-requires c =
    let words = texts_of c.args.words.now in
    let a = asked words c.in-Some.command (sym c.in-Some.ensures) in
    let found = ap (λ (o : Option (Text × List Row)). option_map (λ q. q.1) o) (c.in-Ok.ensures.rows ∙ rows-found words c.in-Some.command a) in
    let met = rw c.in-Some-subcommand.is at c.subcommand.ensures.rows in
    let inner : Some (rows_of (found_of c.in-Some-subcommand.inner.now)) ≡ Some (rows words c.in-Some.command a) = met ∙ found in
    let same : rows_of (found_of c.in-Some-subcommand.inner.now) ≡ rows words c.in-Some.command a = cc inner in
    let value = c.get_strs.ensures ∙ raw_values-rows (found_of c.in-Some-subcommand.inner.now) (codes "words") ∙ ap (all_of (codes "words")) same ∙ rows-behind words c.in-Some.command a c.in-Ok.ensures.fits in
    let told = rw c.in-Some-get_strs.is at value in
    let behind : texts c.in-Some-get_strs.behind.now ≡ a.rest = cc told in
    let many : length c.in-Some-get_strs.behind.now ≡ length a.rest = sym (length-map c.in-Some-get_strs.behind.now (λ (w : Bor (List ℕ)). w.now)) ∙ ap length behind in
    rw many (fits-taken words c.in-Some.command a c.in-Ok.ensures.fits)

pub unreachable-requires-in-None : goal.unreachable-requires-in-None
unreachable-requires-in-None c =
    let words = texts_of c.args.words.now in
    let a = asked words c.in-Some.command (sym c.in-Some.ensures) in
    let found = ap (λ (o : Option (Text × List Row)). option_map (λ q. q.1) o) (c.in-Ok.ensures.rows ∙ rows-found words c.in-Some.command a) in
    let met = rw c.in-Some-subcommand.is at c.subcommand.ensures.rows in
    let inner : Some (rows_of (found_of c.in-Some-subcommand.inner.now)) ≡ Some (rows words c.in-Some.command a) = met ∙ found in
    let same : rows_of (found_of c.in-Some-subcommand.inner.now) ≡ rows words c.in-Some.command a = cc inner in
    let value = c.get_strs.ensures ∙ raw_values-rows (found_of c.in-Some-subcommand.inner.now) (codes "words") ∙ ap (all_of (codes "words")) same ∙ rows-behind words c.in-Some.command a c.in-Ok.ensures.fits in
    let bad = rw c.in-None.is at value in
    cc bad

pub returns : goal.returns
returns c =
    let words = texts_of c.args.words.now in
    let a = asked words c.in-Some.command (sym c.in-Some.ensures) in
    let found = ap (λ (o : Option (Text × List Row)). option_map (λ q. q.1) o) (c.in-Ok.ensures.rows ∙ rows-found words c.in-Some.command a) in
    let met = rw c.in-Some-subcommand.is at c.subcommand.ensures.rows in
    let inner : Some (rows_of (found_of c.in-Some-subcommand.inner.now)) ≡ Some (rows words c.in-Some.command a) = met ∙ found in
    let same : rows_of (found_of c.in-Some-subcommand.inner.now) ≡ rows words c.in-Some.command a = cc inner in
    let value = c.get_strs.ensures ∙ raw_values-rows (found_of c.in-Some-subcommand.inner.now) (codes "words") ∙ ap (all_of (codes "words")) same ∙ rows-behind words c.in-Some.command a c.in-Ok.ensures.fits in
    let told = rw c.in-Some-get_strs.is at value in
    let behind : texts c.in-Some-get_strs.behind.now ≡ a.rest = cc told in
    let order : order_of words ≡ ordered c.in-Some.command (texts c.in-Some-get_strs.behind.now) = a.order ∙ ap (ordered c.in-Some.command) (sym behind) in
    subst (λ (o : Option Order). Reads o c.order.result) (sym order) c.order.ensures
