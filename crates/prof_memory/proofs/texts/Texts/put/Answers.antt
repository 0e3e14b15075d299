use Rattle.std.proofs.Common.{◌≡◌, ◌∙◌, ap, arith}
use Rattle.prof_io.specs.Shelf.{Shelf}
use Rattle.prof_io.specs.Named.{place_of}
use Rattle.prof_memory.proofs.KeptTexts.{set_puts_at, push_puts_at}
use Rattle.prof_memory.proofs.texts.Texts.put.Goals as goal

pub returns-then-place-len-clause-ok : goal.returns-then-place-len-clause-ok
returns-then-place-len-clause-ok c =
    let entries : Shelf = c.args.self.now.entries.items in
    let place : c.find-place.result ≡ place_of entries c.args.key.now = c.find-place.ensures ∙ ap (λ (l : Shelf). place_of l c.args.key.now) c.deref.ensures.value in
    set_puts_at entries _ _ _ _ _ c.in_ok-text.ensures place (omega arith) c.index_mut.ensures.value

pub returns-clause-ok : goal.returns-clause-ok
returns-clause-ok c =
    let entries : Shelf = c.args.self.now.entries.items in
    let place : c.find-place.result ≡ place_of entries c.args.key.now = c.find-place.ensures ∙ ap (λ (l : Shelf). place_of l c.args.key.now) c.deref.ensures.value in
    push_puts_at entries _ _ _ _ _ _ c.in_ok-push.ensures.items c.in_ok-key.ensures c.in_ok-text.ensures place (omega arith)
