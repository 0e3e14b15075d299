-- What a reader of whole texts answered is what the text comes to
use Rattle.std.proofs.Common.{◌≡◌, ℕ, List, ap}
use Rattle.std.specs.Prelude.{Ok, Err}
use Rattle.prof_spell.specs.Spelling.{IsFault, Spells}
use Rattle.prof_spell.specs.Readings.{outcome}
use Rattle.prof_spell.proofs.Readings.{tells, tells_one}
use Rattle.prof_path.specs.Views.{ViewLists}
use Rattle.prof_address.specs.declared.kind.Form.{Form}
use Rattle.prof_address.specs.declared.kind.Form.TheVariants.{Second}
use Rattle.prof_address.specs.Views.{views}
use Rattle.prof_address.proofs.OutcomeLemmas.{view_of, tells_view}
use Rattle.prof_keep.specs.Saved.{SavedLists, saves}
use Rattle.prof_keep.proofs.SavedLemmas.{saved_of, saved_from, reading_saved, splits_saves}

pub view_read : (text : List ℕ) (v : ViewLists) → Spells (views Second) text v → view_of text ≡ Ok v
view_read text v s = tells_one (views Second) text (view_of text) (Ok v) (tells_view text) s

pub view_fault : (text : List ℕ) (at : ℕ) → IsFault (views Second) text at → view_of text ≡ Err at
view_fault text at f = tells_one (views Second) text (view_of text) (Err at) (tells_view text) f

pub saved_read : (text : List ℕ) (form : Form) (s : SavedLists) → Spells saves text (form, s) → saved_of text ≡ Ok s
unfolding saved_of
saved_read text form s h = ap saved_from (tells_one saves text (outcome saves text (reading_saved text)) (Ok (form, s)) (tells saves text splits_saves (reading_saved text)) h)

pub saved_fault : (text : List ℕ) (at : ℕ) → IsFault saves text at → saved_of text ≡ Err at
unfolding saved_of
saved_fault text at f = ap saved_from (tells_one saves text (outcome saves text (reading_saved text)) (Err at) (tells saves text splits_saves (reading_saved text)) f)
