-- A build whose columns were checked before.
use Rattle.std.proofs.Common.{◌≡◌, ℕ, true, Option, None, Some, Result, List, map, refl, sym, ◌∙◌, ap, subst}
use Rattle.std.specs.Option.{option_or}
use Rattle.prof_raw.specs.declared.raw.TableLength.TheVariants.{Unsaid}
use Rattle.prof_raw.specs.declared.rule.Broken.{Broken}
use Rattle.prof_raw.specs.Cells.{Cells, SharedCells, OwnCells}
use Rattle.prof_raw.specs.Checks.{thread_broken}
use Rattle.prof_tables.specs.declared.refusal.BuildRefusal.{BuildRefusal}
use Rattle.prof_tables.specs.Builds.{Builds}
use Rattle.prof_tables.specs.Rows.{shared_of, thread_of}
use Rattle.prof_tables.specs.Threads.{ThreadTables}
use Rattle.prof_gecko.specs.Gathered.{Lib}
use Rattle.prof_gecko_names.specs.declared.func.Func.{Func}
use Rattle.prof_gecko_names.specs.Lists.{Lists}
use Rattle.prof_gecko.specs.Columns.{StackCells, ThreadParts}
use Rattle.prof_gecko.specs.Converted.{lists_in, numbering_in, filled, number_cell, numbers_column, maybe_cell, minus_cell, truth_cell, shared_cells, shared_in, thread_in}
use Rattle.prof_gecko.specs.Checks.{columns_broken, limits_broken, parts_broken}
use Rattle.prof_gecko.proofs.Passes.{or_nothing}
use Rattle.prof_gecko.proofs.Again.{passes_again}

-- the same check, and the same value
pub builds_same : {X Y : Type 0} (view : X → Y) (r : Result X BuildRefusal) (a b : Option Broken) (w z : Y) → a ≡ b → w ≡ z → Builds view r a w → Builds view r b z
builds_same view r a b w z e f h = subst (λ (x : Option Broken). Builds view r x z) e (subst (λ (y : _). Builds view r a y) f h)

-- the checks come first, and the build is of what they checked
builds_checked : {X : Type 0} (view : X → ThreadTables) (r : Result X BuildRefusal) (number categories default : ℕ) (libs : List Lib) (p : ThreadParts) (shared : SharedCells) → shared ≡ shared_in libs p
    → columns_broken (Some number) categories p ≡ None → limits_broken (Some number) (lists_in libs p.strings p.frames) ≡ None
    → Builds view r (thread_broken number categories (record { shared = shared; own = p.own })) (thread_of (shared_of categories default shared) p.own)
    → Builds view r (limits_broken (Some number) (lists_in libs p.strings p.frames)) (thread_in categories default libs p)
unfolding thread_in
builds_checked view r number categories default libs p shared e columns limits h =
    builds_same view r (thread_broken number categories (record { shared = shared; own = p.own })) (limits_broken (Some number) (lists_in libs p.strings p.frames))
    (thread_of (shared_of categories default shared) p.own) (thread_in categories default libs p)
    (ap (λ (s : SharedCells). thread_broken number categories (record { shared = s; own = p.own })) e ∙ passes_again number categories libs p columns limits ∙ sym limits)
    (ap (λ (s : SharedCells). thread_of (shared_of categories default s) p.own) e)
    h

-- the tables of columns that were made of what was derived
pub shared_is : (lists d : Lists) (numbers : List ℕ) (category : Cells) (stacks given : StackCells) (strings : List (List ℕ)) (resources name is_js relevant resource file func : Cells) → lists ≡ d → stacks ≡ given
    → strings ≡ lists.strings → resources ≡ numbers_column lists.resources
    → name ≡ filled (map (λ (f : Func). number_cell f.name) lists.funcs) → is_js ≡ filled (map (λ (f : Func). truth_cell f.is_js) lists.funcs) → relevant ≡ filled (map (λ (f : Func). truth_cell f.relevant_for_js) lists.funcs)
    → resource ≡ filled (map (λ (f : Func). minus_cell f.resource) lists.funcs) → file ≡ filled (map (λ (f : Func). maybe_cell f.file) lists.funcs) → func ≡ numbers_column numbers
    → ◌≡◌ {A = SharedCells} (record {
      strings = strings;
      string_fault = None;
      has_resources = true;
      resource_name = resources;
      resource_length = Unsaid;
      func_name = name;
      func_is_js = is_js;
      func_relevant_for_js = relevant;
      func_resource = resource;
      func_file_name = file;
      func_length = Unsaid;
      frame_func = func;
      frame_category = category;
      frame_length = Unsaid;
      stack_frame = stacks.frame;
      stack_prefix = stacks.prefix;
      stack_length = Unsaid;
    }) (shared_cells d numbers category given)
shared_is lists d numbers category stacks given strings resources name is_js relevant resource file func el ek es er en ej ev eo ef eu =
    rw (es, er, en, ej, ev, eo, ef, eu) (ap (λ (x : Lists). shared_cells x numbers category stacks) el ∙ ap (λ (x : StackCells). shared_cells d numbers category x) ek)

-- the tables of what was derived are those of the columns
shared_made : (libs : List Lib) (p : ThreadParts) (d : Lists) (numbers : List ℕ) (category : Cells) → d ≡ lists_in libs p.strings p.frames → numbers ≡ (numbering_in libs p.strings p.frames).numbers
    → category ≡ p.frames.category → shared_cells d numbers category p.stacks ≡ shared_in libs p
shared_made libs p d numbers category lists counted same =
    ap (λ (x : Lists). shared_cells x numbers category p.stacks) lists
    ∙ ap (λ (ns : List ℕ). shared_cells (lists_in libs p.strings p.frames) ns category p.stacks) counted
    ∙ ap (λ (k : Cells). shared_cells (lists_in libs p.strings p.frames) (numbering_in libs p.strings p.frames).numbers k p.stacks) same

-- the thread of tables that were made of what was derived
pub builds_shared : {X : Type 0} (view : X → ThreadTables) (r : Result X BuildRefusal) (number categories default : ℕ) (a b : SharedCells) (own : OwnCells) → a ≡ b
    → Builds view r (thread_broken number categories (record { shared = a; own = own })) (thread_of (shared_of categories default a) own)
    → Builds view r (thread_broken number categories (record { shared = b; own = own })) (thread_of (shared_of categories default b) own)
builds_shared view r number categories default a b own e h =
    subst (λ (s : SharedCells). Builds view r (thread_broken number categories (record { shared = s; own = own })) (thread_of (shared_of categories default s) own)) e h

-- the limits of derived lists, of columns whose parts were taken out
pub limits_over : (thread : Option ℕ) (libs : List Lib) (p q : ThreadParts) (d : Lists) (o : Option Broken) → p ≡ q → d ≡ lists_in libs p.strings p.frames → limits_broken thread d ≡ o → limits_broken thread (lists_in libs q.strings q.frames) ≡ o
limits_over thread libs p q d o e lists h =
    subst (λ (x : ThreadParts). limits_broken thread (lists_in libs x.strings x.frames) ≡ o) e (subst (λ (x : Lists). limits_broken thread x ≡ o) lists h)

-- the thread of columns that passed, whose parts were taken out
pub checked_made : {X : Type 0} (view : X → ThreadTables) (r : Result X BuildRefusal) (number categories default : ℕ) (libs : List Lib) (p q : ThreadParts) (d : Lists) (numbers : List ℕ) (category : Cells) → p ≡ q
    → columns_broken (Some number) categories q ≡ None → d ≡ lists_in libs p.strings p.frames → limits_broken (Some number) d ≡ None → numbers ≡ (numbering_in libs p.strings p.frames).numbers → category ≡ p.frames.category
    → Builds view r (thread_broken number categories (record { shared = shared_cells d numbers category p.stacks; own = p.own })) (thread_of (shared_of categories default (shared_cells d numbers category p.stacks)) p.own)
    → Builds view r (limits_broken (Some number) (lists_in libs q.strings q.frames)) (thread_in categories default libs q)
checked_made view r number categories default libs p q d numbers category e columns lists limits counted same h =
    let shared = shared_cells d numbers category p.stacks in
    subst (λ (x : ThreadParts). Builds view r (limits_broken (Some number) (lists_in libs x.strings x.frames)) (thread_in categories default libs x)) e
    (builds_checked view r number categories default libs p shared (shared_made libs p d numbers category lists counted same)
    (subst (λ (x : ThreadParts). columns_broken (Some number) categories x ≡ None) (sym e) columns)
    (subst (λ (x : Lists). limits_broken (Some number) x ≡ None) lists limits)
    h)

-- a check of the columns fails
pub columns_fail : (number categories : ℕ) (libs : List Lib) (p : ThreadParts) (b : Broken) → columns_broken (Some number) categories p ≡ Some b → parts_broken number categories libs p ≡ Some b
unfolding parts_broken
columns_fail number categories libs p b columns = rw columns refl

-- and where none does, the limits are what is left
columns_pass : (number categories : ℕ) (libs : List Lib) (p : ThreadParts) → columns_broken (Some number) categories p ≡ None → limits_broken (Some number) (lists_in libs p.strings p.frames) ≡ parts_broken number categories libs p
unfolding parts_broken
columns_pass number categories libs p h =
    let limits = limits_broken (Some number) (lists_in libs p.strings p.frames) in
    sym (ap (λ (o : Option Broken). option_or o (option_or limits None)) h ∙ or_nothing limits)

pub parts_made : {X : Type 0} (view : X → ThreadTables) (r : Result X BuildRefusal) (number categories : ℕ) (libs : List Lib) (p : ThreadParts) (w : ThreadTables) → columns_broken (Some number) categories p ≡ None
    → Builds view r (limits_broken (Some number) (lists_in libs p.strings p.frames)) w → Builds view r (parts_broken number categories libs p) w
parts_made view r number categories libs p w h built =
    builds_same view r (limits_broken (Some number) (lists_in libs p.strings p.frames)) (parts_broken number categories libs p) w w (columns_pass number categories libs p h) refl built

-- the thread of columns that were made of a Gecko thread
pub thread_made : {X : Type 0} (view : X → ThreadTables) (r : Result X BuildRefusal) (number categories default : ℕ) (libs : List Lib) (p q : ThreadParts) → p ≡ q
    → Builds view r (parts_broken number categories libs p) (thread_in categories default libs p) → Builds view r (parts_broken number categories libs q) (thread_in categories default libs q)
thread_made view r number categories default libs p q e h =
    subst (λ (x : ThreadParts). Builds view r (parts_broken number categories libs x) (thread_in categories default libs x)) e h
