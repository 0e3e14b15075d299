-- The items at the places that pass a test are the items that pass it
use Rattle.std.proofs.Common.{◌≡◌, ℕ, ◌+◌, cond, Bool, true, false, List, [], ◌∷◌, ◌++◌, map, length, get_or, append_assoc, refl, sym, ap, ◌∙◌, subst, arith, length-append}
use Rattle.std.specs.Prelude.{Result, Ok, Err, IfOk}
use Rattle.std.specs.List.{filter, enumerate_from}
use Rattle.std.proofs.Math.Seq.{get_or-append_seam}
use Rattle.prof_marker.specs.Found.{places}

module _ {X : Type 0} (test : X → Bool) (d : X) where
  abbrev places_from : ℕ → List X → List ℕ
  places_from n xs = map (λ e. e.0) (filter (λ (e : ℕ × X). test e.1) (enumerate_from n xs))

  items_from : (front xs : List X) → map (λ k. get_or (front ++ xs) k d) (places_from (length front) xs) ≡ filter test xs
  items_from front [] = refl
  items_from front (x ∷ xs) =
      let next : map (λ k. get_or (front ++ (x ∷ xs)) k d) (places_from ((length front + 1)) xs) ≡ filter test xs =
      ap (λ l. map (λ k. get_or l k d) (places_from ((length front + 1)) xs)) (sym (append_assoc front (x ∷ []) xs))
      ∙ (ap (λ n. map (λ k. get_or ((front ++ (x ∷ [])) ++ xs) k d) (places_from n xs)) (count front x) ∙ items_from (front ++ (x ∷ [])) xs) in
      at (test x) next
    where
      count : (front : List X) (x : X) → (length front + 1) ≡ length (front ++ (x ∷ []))
      count front x = omega (arith, length-append front (x ∷ []))

      at : (b : Bool) → map (λ k. get_or (front ++ (x ∷ xs)) k d) (places_from ((length front + 1)) xs) ≡ filter test xs
          → map (λ k. get_or (front ++ (x ∷ xs)) k d) (map (λ e. e.0) (cond b ((length front, x) ∷ filter (λ (e : ℕ × X). test e.1) (enumerate_from ((length front + 1)) xs)) (filter (λ (e : ℕ × X). test e.1) (enumerate_from ((length front + 1)) xs))))
          ≡ cond b (x ∷ filter test xs) (filter test xs)
      at true next = ap (λ y. y ∷ map (λ k. get_or (front ++ (x ∷ xs)) k d) (places_from ((length front + 1)) xs)) (get_or-append_seam front x xs d) ∙ ap (λ l. x ∷ l) next
      at false next = next

  pub items-places : (xs : List X) → map (λ k. get_or xs k d) (places test xs) ≡ filter test xs
  items-places xs = items_from [] xs

-- what an answer has, if there is one
pub ok_same : {T E : Type 0} (r : Result T E) (x y : T) → IfOk r (λ t. t ≡ x) → x ≡ y → IfOk r (λ t. t ≡ y)
ok_same (Ok t) x y h e = h ∙ e
ok_same (Err f) x y h e = tt

pub ok_holds : {T E : Type 0} (P : T → Type 0) (r : Result T E) (x : T) → IfOk r (λ t. t ≡ x) → P x → IfOk r P
ok_holds P (Ok t) x h p = subst P (sym h) p
ok_holds P (Err f) x h p = tt
