-- Lists of transforms.
use Rattle.std.proofs.Common.{◌≡◌, ◌≢◌, ℕ, ◌+◌, ◌-◌, ◌<◌, true, false, List, [], ◌∷◌, ◌++◌, length, length-append, take, suc, refl, sym, subst, ap, ◌∙◌, arith}
use Rattle.std.specs.Prelude.{Result, Ok, Err}
use Rattle.prof_spell.specs.Spelling.{Begins, IsFault, Spells, Splits}
use Rattle.prof_spell.specs.Pieces.{joined_goes}
use Rattle.prof_spell.proofs.Parts.{EndsAtMark, splits_joined}
use Rattle.prof_path.specs.declared.transform.Transform.{Transform}
use Rattle.prof_path.specs.declared.transform.Transform.TheVariants.{MergeFunction, MergeCallNode, DropFunction, FocusSubtree, FocusFunction, FocusCategory, CollapseResource, CollapseDirectRecursion, CollapseRecursion, CollapseFunctionSubtree, FilterSamples}
use Rattle.prof_address.specs.Transforms.{transforms, some_transforms, transform_lists, transform_goes, transform_text, transforms_text, u32s}
use Rattle.prof_address.specs.declared.kind.Form.{Form}
use Rattle.prof_spell.specs.Readings.{Reading, Readable, outcome, Tells}
use Rattle.prof_spell.proofs.Readings.{reading_joined, tells}
use Rattle.prof_address.proofs.ByKind.{splits_transforms, reading_transform}

path_ends : (q : List ℕ) → joined_goes u32s.goes 46 q 126 ≡ false
path_ends [] = refl
path_ends (n ∷ []) = refl
path_ends (n ∷ m ∷ q) = path_ends (m ∷ q)

-- a tilde ends a transform
goes_tilde : (t : Transform) → transform_goes t 126 ≡ false
goes_tilde (MergeFunction n) = refl
goes_tilde (MergeCallNode i q) = path_ends q
goes_tilde (DropFunction n) = refl
goes_tilde (FocusSubtree i q true) = refl
goes_tilde (FocusSubtree i q false) = rw (path_ends q) refl
goes_tilde (FocusFunction n) = refl
goes_tilde (FocusCategory n) = refl
goes_tilde (CollapseResource i n) = refl
goes_tilde (CollapseDirectRecursion i n) = refl
goes_tilde (CollapseRecursion n) = refl
goes_tilde (CollapseFunctionSubtree n) = refl
goes_tilde (FilterSamples s) = refl

pub ends_at_tilde : (form : Form) → EndsAtMark (transforms form) 126
ends_at_tilde form t f = goes_tilde t

pub splits_some : (form : Form) → Splits (some_transforms form)
splits_some form = splits_joined (transforms form) 126 (splits_transforms form) (ends_at_tilde form)

-- a list with a text that isn't empty isn't empty
not_empty : (list : List Transform) (bytes : List ℕ) → 0 < length bytes → transforms_text list ≡ bytes → list ≢ []
not_empty list bytes some e z = let f : [] ≡ bytes = ap transforms_text (sym z) ∙ e in let g : 0 ≡ length bytes = ap length f in omega arith

begins_lists : (form : Form) (front : List ℕ) → Begins (some_transforms form) front → Begins (transform_lists form) front
begins_lists form front b = (b.0, b.1.1, b.2)

front_some : (s t : List ℕ) → 0 < length s → 0 < length (s ++ t)
front_some [] t l = absurd (omega arith)
front_some (b ∷ s) t l = omega arith

begins_some : (form : Form) (front : List ℕ) → 0 < length front → Begins (transform_lists form) front → Begins (some_transforms form) front
begins_some form front some b = (b.0, (not_empty b.0 (front ++ b.2.0) (front_some front b.2.0 some) b.2.1, b.1), b.2)

taken_some : (bytes : List ℕ) (n : ℕ) → n < length bytes → 0 < length (take (n + 1) bytes)
taken_some [] n l = omega arith
taken_some (b ∷ bs) n l = let e : n + 1 ≡ suc n = omega arith in subst (λ (m : ℕ). 0 < length (take m (b ∷ bs))) (sym e) (omega arith)

-- of a text that isn't empty
pub fault_lists : (form : Form) (bytes : List ℕ) (place : ℕ) → 0 < length bytes → IsFault (some_transforms form) bytes place → IsFault (transform_lists form) bytes place
fault_lists form bytes place some f = record {
  within = f.within;
  begins = begins_lists form (take place bytes) f.begins;
  longest = λ l b. f.longest l (begins_some form (take (place + 1) bytes) (taken_some bytes place l) b);
  none = λ v fv e. f.none v (not_empty v bytes some e, fv) e;
}

pub spells_lists : (form : Form) (bytes : List ℕ) (list : List Transform) → 0 < length bytes → Spells (some_transforms form) bytes list → Spells (transform_lists form) bytes list
spells_lists form bytes list some s = record {
  fits = s.fits.1;
  same = s.same;
  only = λ w fw e. s.only w (not_empty w bytes some e, fw) e;
}

-- a transform's text isn't empty
pub starts : (t : Transform) → 0 < length (transform_text t)
starts (MergeFunction n) = omega arith
starts (MergeCallNode i q) = omega arith
starts (DropFunction n) = omega arith
starts (FocusSubtree i q b) = omega arith
starts (FocusFunction n) = omega arith
starts (FocusCategory n) = omega arith
starts (CollapseResource i n) = omega arith
starts (CollapseDirectRecursion i n) = omega arith
starts (CollapseRecursion n) = omega arith
starts (CollapseFunctionSubtree n) = omega arith
starts (FilterSamples s) = omega arith

pub starts_list : (t : Transform) (list : List Transform) → 0 < length (transforms_text (t ∷ list))
starts_list t [] = starts t
starts_list t (u ∷ list) = let l = starts t in omega (arith, length-append (transform_text t) (126 ∷ transforms_text (u ∷ list)))

has_start : (t : Transform) → transform_text t ≢ []
has_start t e = let l = starts t in let f : length (transform_text t) ≡ 0 = ap length e in omega arith

append_empty : (s t : List ℕ) → s ++ t ≡ [] → s ≡ []
append_empty [] t e = refl
append_empty (b ∷ s) t e = absurd cc

empty : (w : List Transform) → transforms_text w ≡ [] → w ≡ []
empty [] e = refl
empty (t ∷ []) e = absurd (has_start t e)
empty (t ∷ u ∷ w) e = absurd (has_start t (append_empty (transform_text t) (126 ∷ transforms_text (u ∷ w)) e))

-- no text is the text of none
pub spells_none : (form : Form) → Spells (transform_lists form) [] []
spells_none form = record { fits = tt; same = refl; only = λ w fw e. empty w e }

pub no_bytes : (bytes : List ℕ) → length bytes ≡ 0 → bytes ≡ []
no_bytes [] e = refl
no_bytes (b ∷ bs) e = absurd (omega arith)

-- ---- each is read to an end

pub reading_some : (form : Form) → Readable (some_transforms form)
reading_some form = reading_joined (transforms form) 126 (splits_transforms form) (ends_at_tilde form) (λ t f. starts t) (reading_transform form)

-- the list that a text spells, or the place of its fault
pub lists_outcome : (form : Form) (bytes : List ℕ) → Reading (some_transforms form) bytes → Result (List Transform) ℕ
lists_outcome form [] r = Ok []
lists_outcome form (b ∷ bytes) r = outcome (some_transforms form) (b ∷ bytes) r

pub lists_tell : (form : Form) (bytes : List ℕ) (r : Reading (some_transforms form) bytes) → Tells (transform_lists form) bytes (lists_outcome form bytes r)
unfolding lists_outcome
lists_tell form [] r = spells_none form
lists_tell form (b ∷ bytes) r = lifted (outcome (some_transforms form) (b ∷ bytes) r) (tells (some_transforms form) (b ∷ bytes) (splits_some form) r)
  where
    lifted : (o : Result (List Transform) ℕ) → Tells (some_transforms form) (b ∷ bytes) o → Tells (transform_lists form) (b ∷ bytes) o
    lifted (Ok list) s = spells_lists form (b ∷ bytes) list (omega arith) s
    lifted (Err place) f = fault_lists form (b ∷ bytes) place (omega arith) f
