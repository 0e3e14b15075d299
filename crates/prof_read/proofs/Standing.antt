-- What threads stand on, by what was gathered of `shared`.
use Rattle.std.proofs.Common.{◌≡◌, ℕ, suc, ◌≤◌, Option, Some, None, IfSome, List, Bool, true, false, length, take, refl, sym, ◌∙◌, ap, arith}
use Rattle.prof_raw.specs.declared.limits.TheConstants.{MOST_STRINGS}
use Rattle.std.specs.Prelude.{codes, is_some, unwrap_or}
use Rattle.std.specs.Option.{option_map}
use Rattle.std.proofs.lemmas.List.{take_all}
use Rattle.prof_grammar.specs.Value.{Value, Members, field, last_named}
use Rattle.prof_raw.specs.declared.raw.State.{State}
use Rattle.prof_raw.specs.declared.raw.State.TheVariants.{Absent, NotArray, Array}
use Rattle.prof_raw.specs.declared.rule.Table.TheVariants as table
use Rattle.prof_raw.specs.declared.rule.Column.TheVariants as column
use Rattle.prof_raw.specs.Cells.{SharedCells}
use Rattle.prof_raw.specs.Checks.{named, shared_broken}
use Rattle.prof_tables.specs.Rows.{shared_of}
use Rattle.prof_layout.specs.Kept.{kept_shared}
use Rattle.prof_layout.specs.Lists.{unless_null, is_object, texts_of}
use Rattle.prof_layout.specs.Tables.{strings_fault, raw_shared}
use Rattle.prof_layout.specs.Profile.{is_shared, shared_tables, shared_member, common_member, common_of, common_broken, category_names, base_broken}
use Rattle.prof_layout.proofs.Checking.{common-few}
use Rattle.prof_layout.proofs.KeptValue.{shared_breaks, shared_stands}
use Rattle.prof_gather.specs.declared.objects.Found.{Found}
use Rattle.prof_gather.specs.declared.objects.Found.TheVariants as found
use Rattle.prof_gather.specs.Taking.{IsFoundIn}
use Rattle.prof_read.specs.declared.raw.HeldStrings.{HeldStrings}
use Rattle.prof_column.specs.Kept.{state_by}
use Rattle.std.specs.declared.rc.Rc.{Rc}
use Rattle.std.specs.declared.alloc.Global.{Global}
use Rattle.prof_raw.specs.declared.strings.Strings.{Strings}
use Rattle.prof_read.specs.Raw.{HoldsStrings, counting_texts, counting_fault}
use Rattle.prof_read.specs.Bases.{AreCounts}

-- ---- what is found of a member

-- an object that was found is the member's
pub object_found : {T : Type 0} (Is : Members → T → Type 0) (m : Option Value) (f : Found T) (t : T) → f ≡ found.Object t → IsFoundIn Is m f → (ms : Members) × (m ≡ Some (Value.object ms)) × Is ms t
object_found Is None f t e h = (let k : found.Absent ≡ found.Object t = sym h ∙ e in cc)
object_found Is (Some Value.null) f t e h = (let k : found.Null ≡ found.Object t = sym h ∙ e in cc)
object_found Is (Some (Value.boolean b)) f t e h = (let k : found.Other ≡ found.Object t = sym h ∙ e in cc)
object_found Is (Some (Value.number n)) f t e h = (let k : found.Other ≡ found.Object t = sym h ∙ e in cc)
object_found Is (Some (Value.string n)) f t e h = (let k : found.Other ≡ found.Object t = sym h ∙ e in cc)
object_found Is (Some (Value.array vs)) f t e h = (let k : found.Other ≡ found.Object t = sym h ∙ e in cc)
object_found Is (Some (Value.object ms)) f t e h = (ms, refl, rw e at h)

-- where none was, the member is none
pub none_found : {T : Type 0} (Is : Members → T → Type 0) (m : Option Value) (f : Found T) → ((t : T) → f ≡ found.Object t → ⊥) → IsFoundIn Is m f → is_object (unwrap_or m Value.null) ≡ false
none_found Is None f none h = refl
none_found Is (Some Value.null) f none h = refl
none_found Is (Some (Value.boolean b)) f none h = refl
none_found Is (Some (Value.number n)) f none h = refl
none_found Is (Some (Value.string n)) f none h = refl
none_found Is (Some (Value.array vs)) f none h = refl
none_found Is (Some (Value.object ms)) (found.Object t) none h = absurd (none t refl)
none_found Is (Some (Value.object ms)) found.Absent none h = absurd h
none_found Is (Some (Value.object ms)) found.Null none h = absurd h
none_found Is (Some (Value.object ms)) found.Other none h = absurd h

-- what is no object has no members
pub no_field : (name : List ℕ) (v : Value) → is_object v ≡ false → field name v ≡ None
no_field name Value.null h = refl
no_field name (Value.boolean b) h = refl
no_field name (Value.number n) h = refl
no_field name (Value.string n) h = refl
no_field name (Value.array vs) h = refl
no_field name (Value.object ms) h = cc

-- ---- the strings that threads share

-- whether a needed list is absent, by a test of its state
pub absent_by : (test : State → Bool) (s : State) (member : Option Value) → s ≡ state_by true member → test NotArray ≡ false → test Array ≡ false → test s ≡ true → member ≡ None
absent_by test s None e n a t = refl
absent_by test s (Some Value.null) e n a t = let k : false ≡ true = sym n ∙ ap test (sym e) ∙ t in cc
absent_by test s (Some (Value.boolean b)) e n a t = let k : false ≡ true = sym n ∙ ap test (sym e) ∙ t in cc
absent_by test s (Some (Value.number b)) e n a t = let k : false ≡ true = sym n ∙ ap test (sym e) ∙ t in cc
absent_by test s (Some (Value.string b)) e n a t = let k : false ≡ true = sym n ∙ ap test (sym e) ∙ t in cc
absent_by test s (Some (Value.array b)) e n a t = let k : false ≡ true = sym a ∙ ap test (sym e) ∙ t in cc
absent_by test s (Some (Value.object b)) e n a t = let k : false ≡ true = sym n ∙ ap test (sym e) ∙ t in cc

pub there_by : (test : State → Bool) (s : State) (member : Option Value) → s ≡ state_by true member → test Absent ≡ true → test s ≡ false → (v : Value) × (member ≡ Some v)
there_by test s None e a t = let k : true ≡ false = sym a ∙ ap test (sym e) ∙ t in cc
there_by test s (Some v) e a t = (v, refl)

-- strings of which no more than the most are kept are all kept
pub few_kept : (texts : List (List ℕ)) → length texts ≤ MOST_STRINGS → take (suc MOST_STRINGS) texts ≡ texts
few_kept texts few = take_all (suc MOST_STRINGS) texts (omega arith)

-- a list that is there and breaks nothing
pub common_held : (member : Option Value) (v : Value) (fault : Option _) (held : HeldStrings) → member ≡ Some v → fault ≡ strings_fault member → named None table.StringArray column.List fault ≡ None →
    HoldsStrings (texts_of member) (strings_fault member) held → (common_broken member ≡ None) × (Some held.strings.value ≡ common_of member)
common_held None v fault held e f n h = cc
common_held (Some w) v fault held e f n h =
    let whole : common_broken (Some w) ≡ None = rw f at n in
    (whole, ap (λ (t : List (List ℕ)). Some t) (h.strings ∙ few_kept (texts_of (Some w)) (common-few (Some w) whole)))

-- ---- the base

pub shared_at : (v : Value) (ms : Members) → field (codes "shared") v ≡ Some (Value.object ms) → is_shared v ≡ is_some (unless_null (last_named (codes "stackTable") ms))
unfolding is_shared
shared_at v ms e = rw e refl

pub common_at : (v : Value) (ms : Members) → field (codes "shared") v ≡ Some (Value.object ms) → common_member v ≡ last_named (codes "stringArray") ms
common_at v ms e = rw e refl

-- where `shared` is no object, threads share nothing
pub none_shared : (v : Value) → is_object (shared_member v) ≡ false → (base_broken v ≡ None) × (is_shared v ≡ false) × (None ≡ common_of (common_member v))
unfolding is_shared base_broken
none_shared v other =
    let stacks = no_field (codes "stackTable") (shared_member v) other in
    let strings = no_field (codes "stringArray") (shared_member v) other in
    (rw (stacks, strings) refl, rw stacks refl, rw strings refl)

pub base_by_strings : (v : Value) → is_shared v ≡ false → base_broken v ≡ common_broken (common_member v)
unfolding base_broken
base_by_strings v e = rw e refl

pub base_by_tables : (v : Value) (ms : Members) (categories default : ℕ) (raw : SharedCells) → AreCounts v categories default → field (codes "shared") v ≡ Some (Value.object ms) → is_shared v ≡ true →
    raw ≡ kept_shared (raw_shared (Value.object ms)) → shared_broken None categories raw ≡ base_broken v
unfolding base_broken
base_by_tables v ms categories default raw counts e shared is = rw (shared, e, is, counts.categories_are) (shared_breaks None (length (category_names v)) (Value.object ms))

pub tables_by : (v : Value) (ms : Members) (categories default : ℕ) (raw : SharedCells) → AreCounts v categories default → field (codes "shared") v ≡ Some (Value.object ms) →
    raw ≡ kept_shared (raw_shared (Value.object ms)) → shared_broken None categories raw ≡ None → shared_of categories default raw ≡ shared_tables v
unfolding shared_tables
tables_by v ms categories default raw counts e is none =
    let whole : shared_broken None categories (raw_shared (Value.object ms)) ≡ None = sym (shared_breaks None categories (Value.object ms)) ∙ ap (shared_broken None categories) (sym is) ∙ none in
    let same : raw ≡ raw_shared (Value.object ms) = is ∙ shared_stands None categories (Value.object ms) whole in
    rw (e, same, counts.categories_are, counts.default_is) refl

-- a thread without strings of its own counts by those that all threads share
pub common_counts : (common : Option (Rc Strings Global)) (strings copy : Rc Strings Global) (texts : Option (List (List ℕ))) (member : Option Value) → common ≡ Some strings → copy.value ≡ strings.value →
    option_map (λ s. s.value) common ≡ texts → IfSome texts (λ strings. length strings ≤ MOST_STRINGS) → member ≡ None →
    HoldsStrings (counting_texts texts member) (counting_fault texts member) (record { strings = copy; fault = None })
common_counts None strings copy texts member e same t few gone = cc
common_counts (Some s) strings copy None member e same t few gone = cc
common_counts (Some s) strings copy (Some held) (Some v) e same t few gone = cc
common_counts (Some s) strings copy (Some held) None e same t few gone =
    let is : copy.value ≡ held = cc in
    record { strings = is ∙ sym (few_kept held few); fault_is = refl }
