-- Kept texts, and the sessions that are made of them
use Rattle.std.proofs.Common.{◌≡◌, ℕ, ◌+◌, ◌<◌, ◌≤◌, false, List, [], ◌∷◌, length, get_or, map, zero, suc, Option, Some, None, refl, sym, ap, ◌∙◌, subst, arith}
use Rattle.std.specs.Prelude.{nat_le, Ok}
use Rattle.std.specs.Option.{option_or, option_map}
use Rattle.std.specs.List.{All}
use Rattle.std.proofs.lemmas.List.Elements.{All-drop}
use Rattle.prof_path.specs.Views.{ViewLists}
use Rattle.prof_layer.specs.Simulates.{LayerLists}
use Rattle.prof_spell.specs.Pieces.{EachFits}
use Rattle.prof_address.specs.Views.{HasPaths}
use Rattle.prof_keep.specs.Saved.{SavedLists}
use Rattle.prof_machine.specs.declared.refusal.Refusal.{Refusal}
use Rattle.prof_machine.specs.declared.refusal.Refusal.TheVariants.{BadSaved}
use Rattle.prof_machine.specs.Known.{Known, thread_of, intervals}
use Rattle.prof_machine.specs.Session.{Session, present}
use Rattle.prof_machine.specs.Machine.{load_refusal, text_refusal, read_refusal, first_of, view_refusal, restored}
use Rattle.prof_machine.proofs.RuleLemmas.{neither, has_paths}
use Rattle.prof_session.specs.Seated.{Seated, IsSound, bare}

le_false : (m n : ℕ) → n < m → nat_le m n ≡ false
le_false m n h = grind arith

or_none : {X : Type 0} (o : Option X) → option_or o None ≡ o
or_none None = refl
or_none (Some x) = refl

pub text_load : (p : Known) (count : ℕ) (kept : Option (List ℕ)) → count < 1000 → load_refusal (Some p) count kept ≡ text_refusal p kept
text_load p count kept few = rw (le_false 1000 count few) (or_none (text_refusal p kept))

-- no view breaks a rule, where none of them has a refusal
accepted_at : (p : Known) (vs : List ViewLists) → first_of (map (view_refusal p) vs) ≡ None → (k : ℕ) (d : ViewLists) → k < length vs → view_refusal p (get_or vs k d) ≡ None
accepted_at p [] h k d lt = absurd (omega arith)
accepted_at p (v ∷ vs) h zero d lt = let n = neither _ _ h in n.0
accepted_at p (v ∷ vs) h (suc k) d lt = let n = neither _ _ h in accepted_at p vs n.1 k d (omega arith)

pub all_accepted : (p : Known) (vs : List ViewLists) → first_of (map (view_refusal p) vs) ≡ None → All (λ v. view_refusal p v ≡ None) vs
all_accepted p vs h = accepted_at p vs h

-- the paths of views that break no rule
pub all_paths : (p : Known) (vs : List ViewLists) → All (λ v. view_refusal p v ≡ None) vs → EachFits HasPaths vs
all_paths p [] h = tt
all_paths p (v ∷ vs) h = (has_paths p v (h 0 v (omega arith)), all_paths p vs (All-drop (λ v. view_refusal p v ≡ None) 1 (v ∷ vs) h))

-- the views of a kept text that isn't refused
not_mapped : (o : Option Refusal) (r : Refusal) → option_map (λ _. r) o ≡ None → o ≡ None
not_mapped None r h = refl
not_mapped (Some x) r h = cc

pub views_accepted : (p : Known) (size : ℕ) (s : SavedLists) → read_refusal p size (Ok s) ≡ None → All (λ v. view_refusal p v ≡ None) s.views
views_accepted p size s h =
    let a = neither _ _ h in
    let b = neither _ _ a.1 in
    all_accepted p s.views (not_mapped _ (BadSaved size) b.0)

pub restored_sound : (p : Known) (seat : Seated) (profile : List ℕ) (s : SavedLists) → All (λ v. view_refusal p v ≡ None) s.views → seat.session ≡ restored profile s
    → seat.layers ≡ bare (thread_of p (present seat.session)) → IsSound p seat
restored_sound p seat profile s ok e laid = record {
  views = subst (λ (q : Session). All (λ v. view_refusal p v ≡ None) q.views) (sym e) ok;
  base = ap (λ (l : LayerLists). l.base) laid;
  spans = subst (λ (l : LayerLists). l.spans ≡ map (intervals l.base) l.settled) (sym laid) refl;
}
