-- How layers stand after a request, and how many rows it reads.
use Rattle.std.proofs.Common.{◌≡◌, ◌∙◌, ℕ, suc, ◌+◌, ◌-◌, ◌*◌, ◌≤◌, ◌==◌, List, [], ◌∷◌, length, take, true, false, cond, None, Some, Option, refl, sym, ap, subst, arith}
use Rattle.std.specs.Option.{option_map}
use Rattle.std.proofs.lemmas.Bool.{false≢true}
use Rattle.std.proofs.lemmas.Bool.Decides.{Decides-eqb}
use Rattle.prof_tables.specs.Threads.{ThreadTables}
use Rattle.prof_path.specs.declared.transform.Transform.{Transform}
use Rattle.prof_layer.specs.Common.{IsCommon}
use Rattle.prof_layer.specs.Simulates.{LayerLists}
use Rattle.prof_tree.specs.Trees.{TreeLists}
use Rattle.prof_request.specs.declared.request.Command.{Command}
use Rattle.prof_request.specs.declared.request.Command.TheVariants as ask
use Rattle.prof_machine.specs.declared.refusal.Reply.{Reply}
use Rattle.prof_machine.specs.Known.{Known, thread_of, inverted_of}
use Rattle.prof_machine.specs.Session.{Session, present, same_transform}
use Rattle.prof_machine.specs.Machine.{asks_keeper, inverted_reply, profile_of, step}
use Rattle.prof_machine.proofs.SameLemmas.{change_of}
use Rattle.prof_session.specs.Seated.{Seated, KeepsLayers, ReadsAtMost, is_shown, is_tree}
use Rattle.prof_session_desk.specs.Desk.{LaysOwn, ReadsOwn}
use Rattle.prof_script.specs.Readings.{Laid, laid_of, laid_anew, relaid, common_length, readings_at}

-- ---- a request for a tree is answered by one, and asks no keeper

shown_inverted : (tree : Option TreeLists) → is_shown (inverted_reply tree) ≡ true
shown_inverted None = refl
shown_inverted (Some tree) = refl

pub shows : (profiles : List (List ℕ × Known)) (count : ℕ) (s : Session) (kept : Option (List ℕ)) (command : Command)
    → is_tree command ≡ true → is_shown (step profiles count (Some s) kept command).reply ≡ true
shows profiles count s kept ask.Tree t = refl
shows profiles count s kept ask.Inverted t = shown_inverted (inverted_of (thread_of (profile_of profiles s) (present s)) (present s))
shows profiles count s kept command t = absurd (false≢true t)

pub asks_no_tree : (profiles : List (List ℕ × Known)) (count : ℕ) (own : Option Session) (command : Command) → asks_keeper profiles count own command ≡ true → is_tree command ≡ true → ⊥
asks_no_tree profiles count None ask.Tree a t = false≢true a
asks_no_tree profiles count (Some s) ask.Tree a t = false≢true a
asks_no_tree profiles count None ask.Inverted a t = false≢true a
asks_no_tree profiles count (Some s) ask.Inverted a t = false≢true a
asks_no_tree profiles count own command a t = false≢true t

-- ---- the layers of the own session

abbrev pub session_of : Seated → Session
session_of seat = seat.session

abbrev laid_by : List Transform → ThreadTables → Laid
laid_by settled t = record { settled = settled; rows = length t.shared.stacks }

same_layers : (old new : LayerLists) → new ≡ old → laid_by new.settled new.base ≡ laid_by old.settled old.base
same_layers old new e = ap (λ (l : LayerLists). laid_by l.settled l.base) e

settled_layers : (new : LayerLists) (base : ThreadTables) (ts : List Transform) → new.base ≡ base → new.settled ≡ ts → laid_by new.settled new.base ≡ laid_by ts base
settled_layers new base ts b s = ap (λ l. laid_by l new.base) s ∙ ap (laid_by ts) b

kept_layers : (p : Known) (old new : Seated) (l : Option Laid) → option_map laid_of (Some old) ≡ l → KeepsLayers p old new
    → Some (laid_of new) ≡ cond ((present new.session).thread == (present old.session).thread) l (Some (laid_anew p new.session))
kept_layers p old new l e keeps =
    (elim ((present new.session).thread == (present old.session).thread) as (λ b. ((present new.session).thread == (present old.session).thread) ≡ b → Some (laid_of new) ≡ cond b l (Some (laid_anew p new.session))) [
      | true ↦ λ t. ap (λ x. Some x) (same_layers old.layers new.layers (keeps.stay ((Decides-eqb (present new.session).thread (present old.session).thread).0 t))) ∙ e
      | false ↦ λ f. ap (λ (y : LayerLists). Some (laid_by y.settled y.base)) (keeps.anew (λ same. false≢true (sym f ∙ (Decides-eqb (present new.session).thread (present old.session).thread).1 same)))
    ]) refl

pub own_laid : (profiles : List (List ℕ × Known)) (command : Command) (reply : Reply) (o n : Option Seated) (l : Option Laid) → option_map laid_of o ≡ l → LaysOwn profiles command reply o n
    → ((s : Session) → option_map session_of o ≡ Some s → is_tree command ≡ true → is_shown reply ≡ true)
    → option_map laid_of n ≡ relaid profiles command (option_map session_of o) (option_map session_of n) l
own_laid profiles command reply None None l e h shown = refl
own_laid profiles command reply (Some old) None l e h shown = refl
own_laid profiles command reply None (Some new) l e h shown = ap (λ (y : LayerLists). Some (laid_by y.settled y.base)) h
own_laid profiles command reply (Some old) (Some new) l e h shown =
    (elim (is_tree command) as (λ b. is_tree command ≡ b → Some (laid_of new) ≡ cond b (option_map (λ (x : Laid). record x { settled = (present old.session).transforms }) l)
    (cond ((present new.session).thread == (present old.session).thread) l (Some (laid_anew (profile_of profiles old.session) new.session)))) [
      | true ↦ λ t.
          let k = h.tree t in
          ap (λ x. Some x) (settled_layers new.layers old.layers.base (present old.session).transforms k.towards.base (k.settled (shown old.session refl t)))
          ∙ ap (option_map (λ (x : Laid). record x { settled = (present old.session).transforms })) e
      | false ↦ λ f. kept_layers (profile_of profiles old.session) old new l e (h.others f)
    ]) refl

-- ---- the readings of a request

same_of : (t u : Transform) → same_transform t u ≡ true → t ≡ u
same_of t u h = pushed (change_of (ask.Push 0 t) (ask.Push 0 u) h)
  where
    pushed : ask.Push 0 t ≡ ask.Push 0 u → t ≡ u
    pushed e = cc

pub is_common : (ts us : List Transform) → IsCommon (common_length ts us) ts us
is_common [] us = record { first = omega arith; second = omega arith; same = refl }
is_common (t ∷ ts) [] = record { first = omega arith; second = omega arith; same = refl }
is_common (t ∷ ts) (u ∷ us) =
    (elim (same_transform t u) as (λ b. same_transform t u ≡ b → IsCommon (cond b (suc (common_length ts us)) 0) (t ∷ ts) (u ∷ us)) [
      | true ↦ λ h.
          let k = is_common ts us in
          record { first = omega (arith, k.first); second = omega (arith, k.second); same = ap (λ x. x ∷ take (common_length ts us) ts) (same_of t u h) ∙ ap (λ l. u ∷ l) k.same }
      | false ↦ λ h. record { first = omega arith; second = omega arith; same = refl }
    ]) refl

pub own_readings : (command : Command) (o : Option Seated) (l : Option Laid) (before now : ℕ) → option_map laid_of o ≡ l → ReadsOwn command o before now
    → now ≤ before + readings_at command (option_map session_of o) l
own_readings command None l before now e h = omega arith
own_readings command (Some seat) l before now e h = subst (λ (x : Option Laid). now ≤ before + readings_at command (Some seat.session) x) e (read h)
  where
    read : ReadsAtMost command seat before now → now ≤ before + readings_at command (Some seat.session) (Some (laid_of seat))
    read r =
        (elim (is_tree command) as (λ b. is_tree command ≡ b → now ≤ before + cond b ((length (present seat.session).transforms - common_length seat.layers.settled (present seat.session).transforms + 1) * length seat.layers.base.shared.stacks) 0) [
          | true ↦ λ t. r.tree t (common_length seat.layers.settled (present seat.session).transforms) (is_common seat.layers.settled (present seat.session).transforms)
          | false ↦ λ f. let same = r.others f in omega arith
        ]) refl
