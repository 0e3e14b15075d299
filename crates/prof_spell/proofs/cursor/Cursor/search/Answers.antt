use Rattle.std.proofs.Common.{◌≡◌, ℕ, List, true, false, refl, sym, subst, inl, inr}
use Rattle.std.specs.Prelude.{◌⊎◌, Some, IsUtf8}
use Rattle.prof_spell.specs.Spelling.{first, IsTaken}
use Rattle.prof_spell.specs.declared.utf8.Due.TheVariants.{Character}
use Rattle.prof_spell.specs.Utf8.{is_between}
use Rattle.prof_spell.specs.Chains.{chains}
use Rattle.prof_spell.specs.Escapes.{escape_chain, searches, is_escaped_byte}
use Rattle.prof_spell.proofs.Parts.{err_built}
use Rattle.prof_spell.proofs.Chained.{Came, came_none, came_more, err_item, taken_chain}
use Rattle.prof_spell.proofs.SearchLemmas.{linked_escapes, searches_built, search_taken, byte_shorter, copied}
use Rattle.prof_spell.proofs.cursor.Cursor.search.Goals as goal
use Rattle.prof_spell.proofs.cursor.Cursor.search.Goals.{then-not-is_between, else-not-is_between+then-begins_escape}

pub returns-in-Err : goal.returns-in-Err
returns-in-Err c =
    let why : (is_between c.bytes.due ≡ false) ⊎ ((b : ℕ) × (first c.bytes.self ≡ Some b) × (is_escaped_byte b ≡ true)) =
    elim c.if-not-is_between.branch [
      | then-not-is_between w ↦ inl (sym w.if-not-is_between.ensures)
      | else-not-is_between+then-begins_escape w ↦ inr (w.if-begins_escape.ensures.yes refl)
    ] in
    err_built searches (chains escape_chain Character) (λ b. b) c.args.self.now c.search_byte.new.self c.in-Err.stop searches_built
    (err_item escape_chain Character c.bytes.due c.args.self.now c.bytes.self c.search_byte.new.self c.bytes.bytes.items c.in-Err.stop linked_escapes
    c.bytes.invariant c.in-Err.ensures why)

pub bytes-init : goal.bytes-init
bytes-init c = subst (λ (s : List ℕ). Came escape_chain Character c.args.self.now s Character c.args.self.now) (sym c.new-bytes.ensures.items) (came_none escape_chain Character c.args.self.now)

pub bytes-smaller : goal.bytes-smaller
bytes-smaller c = byte_shorter c.bytes.due c.bytes.self c.search_byte.new.self c.in-Ok.byte c.in-Ok.ensures

pub bytes-preserved : goal.bytes-preserved
bytes-preserved c =
    rw (c.in-Ok-push.ensures.items, c.behind-due.ensures)
    (came_more escape_chain Character c.args.self.now c.bytes.bytes.items c.bytes.due c.bytes.self c.search_byte.new.self c.in-Ok.byte c.bytes.invariant c.in-Ok.ensures)

pub text_of-requires : goal.text_of-requires
text_of-requires c =
    let taken = search_taken c.args.self.now c.bytes.self c.bytes.bytes.items
    (taken_chain escape_chain Character c.bytes.due c.args.self.now c.bytes.self c.bytes.bytes.items c.bytes.invariant (sym c.if-not-is_between.ensures) (c.if-begins_escape.ensures.no refl)) in
    subst IsUtf8 (sym c.as_slice.ensures.value) taken.fits

pub returns : goal.returns
returns c =
    let taken = search_taken c.args.self.now c.bytes.self c.bytes.bytes.items
    (taken_chain escape_chain Character c.bytes.due c.args.self.now c.bytes.self c.bytes.bytes.items c.bytes.invariant (sym c.if-not-is_between.ensures) (c.if-begins_escape.ensures.no refl)) in
    copied c.args.self.now c.bytes.self c.as_slice.result.now c.text_of.result c.text_of.ensures.text c.text_of.ensures.memory
    (subst (λ (s : List ℕ). IsTaken searches c.args.self.now s c.bytes.self) (sym c.as_slice.ensures.value) taken)
