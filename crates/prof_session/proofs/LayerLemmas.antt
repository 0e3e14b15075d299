-- Layers that are cut and settled
use Rattle.std.proofs.Common.{◌≡◌, ℕ, zero, suc, ◌+◌, ◌*◌, ◌≤◌, List, [], ◌∷◌, None, length, map, take, refl, sym, ap, ◌∙◌, subst, arith}
use Rattle.std.specs.List.{All}
use Rattle.std.proofs.lemmas.List.{take-map}
use Rattle.prof_tables.specs.Threads.{ThreadTables}
use Rattle.prof_path.specs.declared.lists.Span.{Span}
use Rattle.prof_path.specs.declared.transform.Transform.{Transform}
use Rattle.prof_path.specs.Refusals.{refusal_of}
use Rattle.prof_path.specs.Views.{ViewLists}
use Rattle.prof_layer.specs.Common.{IsCommon}
use Rattle.prof_layer.specs.Simulates.{LayerLists}
use Rattle.prof_machine.specs.Known.{Known, thread_of, intervals}
use Rattle.prof_machine.specs.Session.{present}
use Rattle.prof_machine.specs.Machine.{view_refusal}
use Rattle.prof_machine.proofs.RuleLemmas.{all_allowed}
use Rattle.prof_session.specs.Seated.{Seated, IsSound}

-- a front of a front
front_of_front : {A : Type 0} (k n : ℕ) (xs : List A) → k ≤ n → take k (take n xs) ≡ take k xs
front_of_front zero n xs h = refl
front_of_front (suc k) zero xs h = absurd (omega arith)
front_of_front (suc k) (suc n) [] h = refl
front_of_front (suc k) (suc n) (x ∷ xs) h = ap (λ l. x ∷ l) (front_of_front k n xs (omega arith))

-- what was cut still begins as the wanted list does
pub common_cut : (s c w : List Transform) → c ≡ take (length c) w → ((k : ℕ) → IsCommon k s w → k ≤ length c) → (k : ℕ) → IsCommon k s w → IsCommon k c w
common_cut s c w front kept k h = record {
  first = kept k h;
  second = h.second;
  same = ap (take k) front ∙ front_of_front k (length c) w (kept k h);
}

-- the intervals of a front, and of what is common
pub front_spans : (f : Transform → List Span) (s w : List Transform) (p q : List (List Span)) → q ≡ map f w → s ≡ take (length s) w → p ≡ take (length s) q → p ≡ map f s
front_spans f s w p q a b c = c ∙ (ap (take (length s)) a ∙ (take-map f (length s) w ∙ ap (map f) (sym b)))

pub common_spans : (f : Transform → List Span) (s w : List Transform) (p q : List (List Span)) → p ≡ map f s → q ≡ map f w → (k : ℕ) → IsCommon k s w → take k p ≡ take k q
common_spans f s w p q a b k h = ap (take k) a ∙ (take-map f k s ∙ (ap (map f) h.same ∙ (sym (take-map f k w) ∙ ap (take k) (sym b))))

-- the wanted transforms are allowed at the base
pub base_allows : (p : Known) (seat : Seated) (base : ThreadTables) (us : List Transform) → IsSound p seat → view_refusal p (present seat.session) ≡ None → base ≡ seat.layers.base → us ≡ (present seat.session).transforms
    → All (λ (u : Transform). refusal_of base.shared u ≡ None) us
base_allows p seat base us sound ok same at =
    subst (λ (l : List Transform). All (λ (u : Transform). refusal_of base.shared u ≡ None) l) (sym at)
    (subst (λ (t : ThreadTables). All (λ (u : Transform). refusal_of t.shared u ≡ None) (present seat.session).transforms) (sym (same ∙ sound.base)) (all_allowed p (present seat.session) ok))

-- a seat with other layers over the same thread
pub sound_laid : (p : Known) (old new : Seated) → IsSound p old → new.session ≡ old.session → new.layers.base ≡ old.layers.base → new.layers.spans ≡ map (intervals old.layers.base) new.layers.settled → IsSound p new
sound_laid p old new sound session base spans = record {
  views = subst (λ s. All (λ v. view_refusal p v ≡ None) s.views) (sym session) sound.views;
  base = base ∙ (sound.base ∙ ap (λ s. thread_of p (present s)) (sym session));
  spans = spans ∙ ap (λ (t : ThreadTables). map (intervals t) new.layers.settled) (sym base);
}

-- one pass over the top behind the settling
pub reads_sum : (before middle now n r top : ℕ) → middle ≤ before + n * r → now ≤ middle + top → top ≤ r → now ≤ before + (n + 1) * r
reads_sum before middle now n r top a b d = grind arith

pub reads_more : (before now n r : ℕ) → now ≤ before + n * r → now ≤ before + (n + 1) * r
reads_more before now n r a = grind arith
