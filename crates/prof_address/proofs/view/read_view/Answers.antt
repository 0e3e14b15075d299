use Rattle.std.proofs.Common.{◌≡◌, ℕ, ◌-◌, ◌<◌, List, length, ap, sym, subst, ◌∙◌, arith}
use Rattle.prof_spell.specs.Spelling.{IsFault, IsTaken, IsStuck}
use Rattle.prof_spell.proofs.Parts.{stuck_fault, left_fault, spelled}
use Rattle.prof_address.specs.declared.kind.Form.TheVariants.{Second}
use Rattle.prof_address.specs.Views.{views}
use Rattle.prof_address.proofs.ViewLemmas.{splits_views}
use Rattle.prof_address.proofs.view.read_view.Goals as goal

pub returns-then-len-eq0 : goal.returns-then-len-eq0
returns-then-len-eq0 c =
    let start : c.new-cursor.result ≡ c.args.text.now = c.new-cursor.ensures ∙ c.as_bytes.ensures.value in
    let taken = subst (λ (s : List ℕ). IsTaken (views Second) s c.in-Ok.view c.next_view.new.cursor) start c.in-Ok.ensures in
    let none : length c.next_view.new.cursor ≡ 0 = omega arith in
    spelled (views Second) c.args.text.now c.next_view.new.cursor c.in-Ok.view (splits_views Second) taken none

pub returns-else-len-eq0 : goal.returns-else-len-eq0
returns-else-len-eq0 c =
    let start : c.new-cursor.result ≡ c.args.text.now = c.new-cursor.ensures ∙ c.as_bytes.ensures.value in
    let taken = subst (λ (s : List ℕ). IsTaken (views Second) s c.in-Ok.view c.next_view.new.cursor) start c.in-Ok.ensures in
    let left : 0 < length c.next_view.new.cursor = omega arith in
    let same : length c.args.text.now - length c.next_view.new.cursor ≡ length c.args.text.now - c.len-in-Ok.result = ap (λ n. length c.args.text.now - n) (sym c.len-in-Ok.ensures) in
    subst (λ (n : ℕ). IsFault (views Second) c.args.text.now n) same
    (left_fault (views Second) c.args.text.now c.next_view.new.cursor c.in-Ok.view (splits_views Second) taken left)

pub returns-in-Err-Fault : goal.returns-in-Err-Fault
returns-in-Err-Fault c =
    let start : c.new-cursor.result ≡ c.args.text.now = c.new-cursor.ensures ∙ c.as_bytes.ensures.value in
    let stuck = subst (λ (s : List ℕ). IsStuck (views Second) s c.next_view.new.cursor) start (rw c.in-Err-Fault.field-0-is at c.in-Err-Fault.ensures) in
    let same : length c.args.text.now - length c.next_view.new.cursor ≡ length c.args.text.now - c.len-in-Err-Fault.result = ap (λ n. length c.args.text.now - n) (sym c.len-in-Err-Fault.ensures) in
    subst (λ (n : ℕ). IsFault (views Second) c.args.text.now n) same (stuck_fault (views Second) c.args.text.now c.next_view.new.cursor stuck)
