-- Texts made of items one behind another.
use Rattle.std.specs.Prelude.{◌≡◌, ℕ, Bool, true, List, [], ◌∷◌, ◌++◌, ⊤}
use Rattle.prof_spell.specs.Spelling.{Language}

-- Which items may come in a state, the state behind one, whether the text may end in a state, and which bytes may not
-- stand behind a text that ends there.
pub record Chain (S A : Type 0) : Type 1 where
  pub items : S → Language A
  pub next : S → A → S
  pub ends : S → Bool
  pub goes : S → ℕ → Bool

-- the texts of the items, from a state on
abbrev pub chain_text : {S A : Type 0} → Chain S A → S → List A → List ℕ
chain_text C s [] = []
chain_text C s (a ∷ xs) = (C.items s).text a ++ chain_text C (C.next s a) xs

-- the state behind the items
abbrev pub after : {S A : Type 0} → Chain S A → S → List A → S
after C s [] = s
after C s (a ∷ xs) = after C (C.next s a) xs

-- each item may come where it does
abbrev pub MayCome : {S A : Type 0} → Chain S A → S → List A → Type 0
MayCome C s [] = ⊤
MayCome C s (a ∷ xs) = (C.items s).Fits a × MayCome C (C.next s a) xs

-- each item may come where it does, and the text may end behind the last
pub record IsWhole {S A : Type 0} (C : Chain S A) (s : S) (xs : List A) : Type 0 where
  pub each : MayCome C s xs
  pub ends : C.ends (after C s xs) ≡ true

-- the items that begin in a state and end where they may
abbrev pub chains : {S A : Type 0} → Chain S A → S → Language (List A)
chains C s = record { text = chain_text C s; Fits = IsWhole C s; goes = λ xs. C.goes (after C s xs) }
