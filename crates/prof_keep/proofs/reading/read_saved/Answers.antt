use Rattle.std.proofs.Common.{◌≡◌, ℕ, ◌-◌, List, length, ap, sym, subst, ◌∙◌}
use Rattle.prof_spell.specs.Spelling.{IsFault, IsTaken, IsStuck}
use Rattle.prof_keep.specs.Saved.{saves}
use Rattle.prof_keep.specs.Reading.{wholes}
use Rattle.prof_keep.proofs.SavedLemmas.{saved_spells, saved_faults}
use Rattle.prof_keep.proofs.reading.read_saved.Goals as goal

pub returns-in-Ok : goal.returns-in-Ok
returns-in-Ok c =
    let start : c.new-cursor.result ≡ c.args.text.now = c.new-cursor.ensures ∙ c.as_bytes.ensures.value in
    let f = c.in-Ok.found in (
      f.0.0,
      saved_spells c.args.text.now c.whole.new.cursor (f.0, (f.1.digest, (tt, (f.1.version, (tt, (f.1.place, (tt, f.1.views)))))))
          (subst (λ (s : List ℕ). IsTaken wholes s (f.0, (f.1.digest, (tt, (f.1.version, (tt, (f.1.place, (tt, f.1.views))))))) c.whole.new.cursor) start c.in-Ok.ensures),
    )

pub returns-in-Err-Fault : goal.returns-in-Err-Fault
returns-in-Err-Fault c =
    let start : c.new-cursor.result ≡ c.args.text.now = c.new-cursor.ensures ∙ c.as_bytes.ensures.value in
    let stuck = subst (λ (s : List ℕ). IsStuck wholes s c.whole.new.cursor) start (rw c.in-Err-Fault.field-0-is at c.in-Err-Fault.ensures) in
    let same : length c.args.text.now - length c.whole.new.cursor ≡ length c.args.text.now - c.len.result = ap (λ n. length c.args.text.now - n) (sym c.len.ensures) in
    subst (λ (n : ℕ). IsFault saves c.args.text.now n) same (saved_faults c.args.text.now c.whole.new.cursor stuck)
