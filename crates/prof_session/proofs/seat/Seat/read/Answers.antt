use Rattle.std.proofs.Common.{◌≡◌, ◌∙◌, ℕ, List, Option, Some, None, sym, ap, length}
use Rattle.std.specs.Prelude.{Result, Ok, Err}
use Rattle.std.specs.Result.{result_unwrap_or}
use Rattle.prof_keep.specs.Saved.{SavedLists}
use Rattle.prof_keep.proofs.SavedLemmas.{saved_of}
use Rattle.prof_machine.specs.declared.refusal.Refusal.{Refusal}
use Rattle.prof_machine.specs.Machine.{read_refusal, restored, no_saved}
use Rattle.prof_machine.proofs.ReadingLemmas.{saved_read, saved_fault}
use Rattle.prof_session.specs.Seated.{Seated}
use Rattle.prof_session.specs.declared.restoring.Unread.{Unread}
use Rattle.prof_session.specs.declared.restoring.Unread.TheVariants.{Refused}
use Rattle.prof_session.proofs.KeptLemmas.{views_accepted, restored_sound}
use Rattle.prof_session.proofs.seat.Seat.read.Goals as goal

same_refused : (a b : Refusal) → ◌≡◌ {A = Result Seated Unread} (Err (Refused a)) (Err (Refused b)) → a ≡ b
same_refused a b h = cc

pub returns-in-Err-BadAddress-clause-refused : goal.returns-in-Err-BadAddress-clause-refused
returns-in-Err-BadAddress-clause-refused c = λ refusal e.
    ap (read_refusal c.args.known.now (length c.args.text.now)) (saved_fault c.args.text.now c.in-Err-BadAddress.at (rw c.in-Err-BadAddress.field-0-is at c.in-Err-BadAddress.ensures)) ∙ ap (λ (r : Refusal). Some r) (same_refused _ refusal (rw c.in-Err-BadAddress.field-0-is at e))

pub returns-in-Some-clause-refused : goal.returns-in-Some-clause-refused
returns-in-Some-clause-refused c = λ refusal e.
    let p = c.args.known.now in
    let text = c.args.text.now in
    let s = c.in-Ok.saved in
    ap (read_refusal p (length text)) (saved_read text c.in-Ok.ensures.0 s c.in-Ok.ensures.1)
    ∙ (sym c.saved_refusal.ensures ∙ (c.in-Some.is ∙ ap (λ (r : Refusal). Some r) (same_refused c.in-Some.refusal refusal e)))

pub restored-requires-clause-few : goal.restored-requires-clause-few
restored-requires-clause-few c = c.in-Ok.ensures.1.fits.few

pub restored-requires-clause-place : goal.restored-requires-clause-place
restored-requires-clause-place c = c.in-Ok.ensures.1.fits.place

pub restored-requires-clause-sound : goal.restored-requires-clause-sound
restored-requires-clause-sound c = views_accepted c.args.known.now (length c.args.text.now) c.in-Ok.saved (sym c.saved_refusal.ensures ∙ c.in_default.is)

pub returns-in-Ok-restored-clause-ok : goal.returns-in-Ok-restored-clause-ok
returns-in-Ok-restored-clause-ok c =
    let p = c.args.known.now in
    let text = c.args.text.now in
    let name = c.args.name.now in
    let s = c.in-Ok.saved in
    let seat = c.in-Ok-restored.seat in
    let is : saved_of text ≡ Ok s = saved_read text c.in-Ok.ensures.0 s c.in-Ok.ensures.1 in
    let none : read_refusal p (length text) (Ok s) ≡ None = sym c.saved_refusal.ensures ∙ c.in_default.is in (
      ap (read_refusal p (length text)) is ∙ none,
      c.in-Ok-restored.ensures.session ∙ ap (λ r. restored name (result_unwrap_or r no_saved)) (sym is),
      restored_sound p seat name s (views_accepted p (length text) s none) c.in-Ok-restored.ensures.session c.in-Ok-restored.ensures.layers,
      c.in-Ok-restored.ensures.layers,
    )
