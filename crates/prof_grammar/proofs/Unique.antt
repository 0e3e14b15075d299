-- No value's events begin another's.
use Rattle.std.proofs.Common.{◌≡◌, List, [], ◌∷◌, ◌++◌, ap, append_assoc, refl, sym, ◌∙◌}
use Rattle.prof_grammar.specs.Value.{Value, Values, Members, flatten, flatten_values, flatten_members}
use Rattle.prof_grammar.specs.Event.{Event}

-- no value begins with the end of an array, nor of an object
no_array_end : (w : Value) (a b : List Event) → Event.array_end ∷ a ≡ flatten w ++ b → ⊥
no_array_end Value.null a b h = cc
no_array_end (Value.boolean t) a b h = cc
no_array_end (Value.number t) a b h = cc
no_array_end (Value.string t) a b h = cc
no_array_end (Value.array t) a b h = cc
no_array_end (Value.object t) a b h = cc

closed : (x y : List Event) (e : Event) (r : List Event) → (x ++ (e ∷ [])) ++ r ≡ x ++ (e ∷ r)
closed x y e r = append_assoc x (e ∷ []) r

mutual
  pub one : (v w : Value) (a b : List Event) → flatten v ++ a ≡ flatten w ++ b → (v ≡ w) × (a ≡ b)
  one Value.null Value.null a b h = (refl, cc)
  one (Value.boolean s) (Value.boolean t) a b h = (cc, cc)
  one (Value.number s) (Value.number t) a b h = (cc, cc)
  one (Value.string s) (Value.string t) a b h = (cc, cc)
  one (Value.array s) (Value.array t) a b h =
      let e : flatten_values s ++ (Event.array_end ∷ a) ≡ flatten_values t ++ (Event.array_end ∷ b) = let x = closed (flatten_values s) [] Event.array_end a in let y = closed (flatten_values t) [] Event.array_end b in cc in
      let r = many s t a b e in (ap Value.array r.0, r.1)
  one (Value.object s) (Value.object t) a b h =
      let e : flatten_members s ++ (Event.object_end ∷ a) ≡ flatten_members t ++ (Event.object_end ∷ b) = let x = closed (flatten_members s) [] Event.object_end a in let y = closed (flatten_members t) [] Event.object_end b in cc in
      let r = named s t a b e in (ap Value.object r.0, r.1)
  one _ _ a b h = cc

  pub many : (v w : Values) (a b : List Event) → flatten_values v ++ (Event.array_end ∷ a) ≡ flatten_values w ++ (Event.array_end ∷ b) → (v ≡ w) × (a ≡ b)
  many Values.no_values Values.no_values a b h = (refl, cc)
  many Values.no_values (Values.value w ws) a b h = absurd (no_array_end w a (flatten_values ws ++ (Event.array_end ∷ b)) (h ∙ append_assoc (flatten w) (flatten_values ws) (Event.array_end ∷ b)))
  many (Values.value v vs) Values.no_values a b h = absurd (no_array_end v b (flatten_values vs ++ (Event.array_end ∷ a)) (sym h ∙ append_assoc (flatten v) (flatten_values vs) (Event.array_end ∷ a)))
  many (Values.value v vs) (Values.value w ws) a b h =
      let r = one v w (flatten_values vs ++ (Event.array_end ∷ a)) (flatten_values ws ++ (Event.array_end ∷ b)) (sym (append_assoc (flatten v) (flatten_values vs) (Event.array_end ∷ a)) ∙ h ∙ append_assoc (flatten w) (flatten_values ws) (Event.array_end ∷ b)) in
      let q = many vs ws a b r.1 in
      (let x = r.0 in let y = q.0 in cc, q.1)

  pub named : (v w : Members) (a b : List Event) → flatten_members v ++ (Event.object_end ∷ a) ≡ flatten_members w ++ (Event.object_end ∷ b) → (v ≡ w) × (a ≡ b)
  named Members.no_members Members.no_members a b h = (refl, cc)
  named Members.no_members (Members.member n w ws) a b h = cc
  named (Members.member n v vs) Members.no_members a b h = cc
  named (Members.member m v vs) (Members.member n w ws) a b h =
      let same_name : m ≡ n = cc in
      let e : flatten v ++ (flatten_members vs ++ (Event.object_end ∷ a)) ≡ flatten w ++ (flatten_members ws ++ (Event.object_end ∷ b)) =
      let x = append_assoc (flatten v) (flatten_members vs) (Event.object_end ∷ a) in let y = append_assoc (flatten w) (flatten_members ws) (Event.object_end ∷ b) in cc in
      let r = one v w (flatten_members vs ++ (Event.object_end ∷ a)) (flatten_members ws ++ (Event.object_end ∷ b)) e in
      let q = named vs ws a b r.1 in
      (let x = r.0 in let y = q.0 in cc, q.1)
