-- What `meta` says, by what was found of it.
use Rattle.std.proofs.Common.{◌≡◌, ℕ, List, Option, None, Some, false, refl, sym, ◌∙◌}
use Rattle.std.specs.Prelude.{codes, is_some, unwrap_or}
use Rattle.std.specs.Option.{option_and_then}
use Rattle.prof_gather.specs.Taking.{IsFoundIn}
use Rattle.prof_gather.specs.declared.objects.Found.{Found}
use Rattle.prof_gather.specs.declared.objects.Found.TheVariants as found
use Rattle.prof_grammar.specs.Value.{Value, field}
use Rattle.prof_either.specs.Parts.{AreMeta}
use Rattle.prof_either.specs.declared.meta.EitherMeta.{EitherMeta}

-- the value of the member, and null where it is absent
abbrev value_in : Option Value → Value
value_in member = unwrap_or member Value.null

pub processed_object : (member : Option Value) (f : Found EitherMeta) (m : EitherMeta) → f ≡ found.Object m → IsFoundIn AreMeta member f → m.processed ≡ is_some (field (codes "preprocessedProfileVersion") (value_in member))
processed_object None f m e h = (let k : found.Absent ≡ found.Object m = sym h ∙ e in cc)
processed_object (Some Value.null) f m e h = (let k : found.Null ≡ found.Object m = sym h ∙ e in cc)
processed_object (Some (Value.boolean b)) f m e h = (let k : found.Other ≡ found.Object m = sym h ∙ e in cc)
processed_object (Some (Value.number n)) f m e h = (let k : found.Other ≡ found.Object m = sym h ∙ e in cc)
processed_object (Some (Value.string n)) f m e h = (let k : found.Other ≡ found.Object m = sym h ∙ e in cc)
processed_object (Some (Value.array vs)) f m e h = (let k : found.Other ≡ found.Object m = sym h ∙ e in cc)
processed_object (Some (Value.object ms)) f m e h = let k : AreMeta ms m = rw e at h in k.processed

pub version_object : (member : Option Value) (f : Found EitherMeta) (m : EitherMeta) → f ≡ found.Object m → IsFoundIn AreMeta member f → m.version ≡ is_some (field (codes "version") (value_in member))
version_object None f m e h = (let k : found.Absent ≡ found.Object m = sym h ∙ e in cc)
version_object (Some Value.null) f m e h = (let k : found.Null ≡ found.Object m = sym h ∙ e in cc)
version_object (Some (Value.boolean b)) f m e h = (let k : found.Other ≡ found.Object m = sym h ∙ e in cc)
version_object (Some (Value.number n)) f m e h = (let k : found.Other ≡ found.Object m = sym h ∙ e in cc)
version_object (Some (Value.string n)) f m e h = (let k : found.Other ≡ found.Object m = sym h ∙ e in cc)
version_object (Some (Value.array vs)) f m e h = (let k : found.Other ≡ found.Object m = sym h ∙ e in cc)
version_object (Some (Value.object ms)) f m e h = let k : AreMeta ms m = rw e at h in k.version

-- where no object was found it has no members
pub none_object : (name : List ℕ) (member : Option Value) (f : Found EitherMeta) → ((m : EitherMeta) → f ≡ found.Object m → ⊥) → IsFoundIn AreMeta member f → false ≡ is_some (field name (value_in member))
none_object name None f n h = refl
none_object name (Some Value.null) f n h = refl
none_object name (Some (Value.boolean b)) f n h = refl
none_object name (Some (Value.number t)) f n h = refl
none_object name (Some (Value.string t)) f n h = refl
none_object name (Some (Value.array vs)) f n h = refl
none_object name (Some (Value.object ms)) (found.Object m) n h = absurd (n m refl)
none_object name (Some (Value.object ms)) found.Absent n h = absurd h
none_object name (Some (Value.object ms)) found.Null n h = absurd h
none_object name (Some (Value.object ms)) found.Other n h = absurd h

-- a member of the value is one of the member that the value is
pub field_in : (name : List ℕ) (member : Option Value) → option_and_then (field name) member ≡ field name (value_in member)
field_in name None = refl
field_in name (Some v) = refl
