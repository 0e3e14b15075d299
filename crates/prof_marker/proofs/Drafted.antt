-- Drafts by their markers and standings
use Rattle.std.proofs.Common.{◌≡◌, ℕ, zero, suc, List, [], ◌∷◌, ◌++◌, length, set, map, Some, sym, ap, refl, arith}
use Rattle.std.specs.Prelude.{slice_get}
use Rattle.std.proofs.lemmas.Option.{none-some, same_Some}
use Rattle.prof_marker.specs.declared.list.Marker.{Marker}
use Rattle.prof_marker.specs.declared.drafts.Standing.{Standing}
use Rattle.prof_marker.specs.Markers.{Draft}
use Rattle.prof_marker.specs.Kept.{is_waiting, drafts_with}

abbrev pub draft : Marker → Standing → Draft
draft m s = record { marker = m; is_open = is_waiting s }

pub drafts-push : (ms : List Marker) (ss : List Standing) (m : Marker) (s : Standing) → length ss ≡ length ms
    → drafts_with (ms ++ m ∷ []) (ss ++ s ∷ []) ≡ drafts_with ms ss ++ draft m s ∷ []
drafts-push [] [] m s h = refl
drafts-push [] (x ∷ ss) m s h = absurd (omega (arith, h))
drafts-push (y ∷ ms) [] m s h = absurd (omega (arith, h))
drafts-push (y ∷ ms) (x ∷ ss) m s h = ap (λ ds. draft y x ∷ ds) (drafts-push ms ss m s (omega (arith, h)))

pub drafts-set : (ms : List Marker) (ss : List Standing) (k : ℕ) (m : Marker) (s : Standing)
    → drafts_with (set ms k m) (set ss k s) ≡ set (drafts_with ms ss) k (draft m s)
drafts-set [] [] k m s = refl
drafts-set [] (x ∷ ss) zero m s = refl
drafts-set [] (x ∷ ss) (suc k) m s = refl
drafts-set (y ∷ ms) [] zero m s = refl
drafts-set (y ∷ ms) [] (suc k) m s = refl
drafts-set (y ∷ ms) (x ∷ ss) zero m s = refl
drafts-set (y ∷ ms) (x ∷ ss) (suc k) m s = ap (λ ds. draft y x ∷ ds) (drafts-set ms ss k m s)

pub drafts-markers : (ms : List Marker) (ss : List Standing) → length ss ≡ length ms → map (λ (d : Draft). d.marker) (drafts_with ms ss) ≡ ms
drafts-markers [] ss h = refl
drafts-markers (y ∷ ms) [] h = absurd (omega (arith, h))
drafts-markers (y ∷ ms) (x ∷ ss) h = ap (λ xs. y ∷ xs) (drafts-markers ms ss (omega (arith, h)))

pub length-drafts : (ms : List Marker) (ss : List Standing) → length ss ≡ length ms → length (drafts_with ms ss) ≡ length ms
length-drafts [] ss h = refl
length-drafts (y ∷ ms) [] h = absurd (omega (arith, h))
length-drafts (y ∷ ms) (x ∷ ss) h = ap suc (length-drafts ms ss (omega (arith, h)))

-- what a draft is made of
pub record IsMadeOf (ms : List Marker) (ss : List Standing) (k : ℕ) (d : Draft) : Type 0 where
  pub standing : Standing
  pub marker_at : slice_get ms k ≡ Some d.marker
  pub standing_at : slice_get ss k ≡ Some standing
  pub is_open : d.is_open ≡ is_waiting standing

pub drafts-get : (ms : List Marker) (ss : List Standing) (k : ℕ) (d : Draft) → slice_get (drafts_with ms ss) k ≡ Some d → IsMadeOf ms ss k d
drafts-get [] ss k d h = absurd (none-some d h)
drafts-get (y ∷ ms) [] k d h = absurd (none-some d h)
drafts-get (y ∷ ms) (x ∷ ss) zero d h =
    let same : draft y x ≡ d = same_Some (draft y x) d h in
    record { standing = x; marker_at = ap (λ (e : Draft). Some e.marker) same; standing_at = refl; is_open = ap (λ (e : Draft). e.is_open) (sym same) }
drafts-get (y ∷ ms) (x ∷ ss) (suc k) d h =
    let w = drafts-get ms ss k d h in
    record { standing = w.standing; marker_at = w.marker_at; standing_at = w.standing_at; is_open = w.is_open }
