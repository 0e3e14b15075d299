-- The functions and the stack rows of a written thread are read as its own, and so all its tables are that threads may share.
use Rattle.std.proofs.Common.{◌≡◌, ◌∙◌, ℕ, zero, suc, ◌<◌, ◌≤◌, List, [], ◌∷◌, ◌++◌, Option, None, Some, length, take, refl, sym, ap, subst, arith, Bool, true, false}
use Rattle.std.specs.Prelude.{ℤ, pos, negsuc, IfSome, map, slice_get}
use Rattle.std.specs.Option.{option_map, option_map_or}
use Rattle.std.proofs.lemmas.Option.{slice_get_within}
use Rattle.prof_raw.specs.Cells.{cell_at}
use Rattle.prof_raw.specs.CellValues.{index_of, index_or_none, truth_of}
use Rattle.prof_tables.specs.declared.rows.FrameRow.{FrameRow}
use Rattle.prof_tables.specs.declared.rows.StackRow.{StackRow}
use Rattle.prof_tables.specs.Threads.{Func, SharedTables, ThreadTables}
use Rattle.prof_tables.specs.Frames.{category_before, stack_after}
use Rattle.prof_tables.specs.Ties.{IsShared}
use Rattle.prof_tables.specs.Rows.{rows_of, frame_at, frames_of, func_at, funcs_of, resources_of, shared_of, stack_frames_of, stacks_below, stacks_of}
use Rattle.prof_layout.specs.Tables.{raw_tables}
use Rattle.prof_write.specs.Written.{thread_value}
use Rattle.prof_back.proofs.Columns.{length_map}
use Rattle.prof_back.proofs.Frames.{frame_back, frames_back, number_told, resources_back, stack_frames_back, strings_back}
use Rattle.prof_back.proofs.Samples.{cells_at, option_back, rows_of_same}
use Rattle.prof_back.proofs.SharedTold.{file_told, is_js_told, name_told, prefix_told, relevant_told, resource_told, shared_raw, shared_told, truth_told}

-- ---- functions

truth_same : (b : Bool) → truth_of (truth_told b) ≡ b
truth_same true = refl
truth_same false = refl

resource_same : (o : Option ℕ) → index_or_none (Some (option_map_or pos o (negsuc 0))) ≡ o
resource_same None = refl
resource_same (Some n) = refl

same_func : (f : Func) (name : ℕ) (is_js relevant : Bool) (resource file : Option ℕ) → name ≡ f.name → is_js ≡ f.is_js → relevant ≡ f.relevant_for_js → resource ≡ f.resource → file ≡ f.file →
    (let r : Func = record { name = name; is_js = is_js; relevant_for_js = relevant; resource = resource; file = file } in r) ≡ f
same_func f name is_js relevant resource file a b c d e = rw (a, b, c, d, e) refl

func_back : (t : SharedTables) (i : ℕ) (f : Func) → slice_get t.funcs i ≡ Some f → func_at (shared_told t) i ≡ f
func_back t i f e =
    same_func f (index_of (cell_at (map name_told t.funcs) i)) (truth_of (cell_at (map is_js_told t.funcs) i)) (truth_of (cell_at (map relevant_told t.funcs) i))
    (index_or_none (cell_at (map resource_told t.funcs) i)) (index_or_none (cell_at (map file_told t.funcs) i))
    (ap index_of (cells_at name_told t.funcs i f e))
    (ap truth_of (cells_at is_js_told t.funcs i f e) ∙ truth_same f.is_js)
    (ap truth_of (cells_at relevant_told t.funcs i f e) ∙ truth_same f.relevant_for_js)
    (ap index_or_none (cells_at resource_told t.funcs i f e) ∙ resource_same f.resource)
    (ap index_or_none (cells_at file_told t.funcs i f e) ∙ option_back f.file)

funcs_told : (t : SharedTables) → funcs_of (shared_told t) ≡ t.funcs
unfolding funcs_of
funcs_told t = ap (rows_of (func_at (shared_told t))) (length_map name_told t.funcs) ∙ rows_of_same (func_at (shared_told t)) t.funcs (func_back t)

-- ---- stack rows

pub at_place : {A : Type 0} (xs : List A) (i : ℕ) → i < length xs → (x : A) × (slice_get xs i ≡ Some x)
at_place [] i h = absurd (omega arith)
at_place (x ∷ xs) zero h = (x, refl)
at_place (x ∷ xs) (suc i) h = at_place xs i (omega arith)

take_more : {A : Type 0} (xs : List A) (n : ℕ) (x : A) → slice_get xs n ≡ Some x → take (suc n) xs ≡ take n xs ++ x ∷ []
take_more [] n x e = absurd (cc)
take_more {A} (y ∷ xs) zero x e = let same : y ≡ x = cc in ap (λ (z : A). let l : List A = z ∷ [] in l) same
take_more {A} (y ∷ xs) (suc n) x e = ap (λ (l : List A). y ∷ l) (take_more xs n x e)

take_all : {A : Type 0} (xs : List A) → take (length xs) xs ≡ xs
take_all [] = refl
take_all {A} (x ∷ xs) = ap (λ (l : List A). x ∷ l) (take_all xs)

at_taken : {A : Type 0} (xs : List A) (n i : ℕ) → i < n → slice_get (take n xs) i ≡ slice_get xs i
at_taken [] zero i h = absurd (omega arith)
at_taken [] (suc n) i h = refl
at_taken (x ∷ xs) zero i h = absurd (omega arith)
at_taken (x ∷ xs) (suc n) zero h = refl
at_taken (x ∷ xs) (suc n) (suc i) h = at_taken xs n i (omega arith)

-- the row before stands among the rows so far
before_taken : (rows : List StackRow) (n : ℕ) (prefix : Option ℕ) → IfSome prefix (λ p. p < n) → category_before (take n rows) prefix ≡ category_before rows prefix
before_taken rows n None h = refl
before_taken rows n (Some p) h = ap (option_map (λ (row : StackRow). row.category)) (at_taken rows n p h)

after_taken : (default : ℕ) (rows : List StackRow) (n : ℕ) (prefix : Option ℕ) (f : FrameRow) → IfSome prefix (λ p. p < n) → stack_after default (take n rows) prefix f ≡ stack_after default rows prefix f
after_taken default rows n prefix f h = rw (before_taken rows n prefix h) refl

stack_told : (t : SharedTables) → IsShared t → (n : ℕ) (row : StackRow) → slice_get t.stacks n ≡ Some row →
    stack_after t.default (take n t.stacks) (index_or_none (cell_at (map prefix_told t.stacks) n)) (frame_at (shared_told t) (index_of (cell_at (map number_told t.stack_frames) n))) ≡ row
stack_told t kept n row e =
    let inside : n < length t.stacks = slice_get_within t.stacks n row e in
    let many : length t.stack_frames ≡ length t.stacks = kept.frames.many in
    let place = at_place t.stack_frames n (omega arith) in
    let is = kept.frames.frame n place.0 place.1 in
    let here : slice_get t.stacks n ≡ Some is.0 = is.1.1.0 in
    let same : is.0 ≡ row = cc in
    let P : StackRow → Type 0 = λ r. r ≡ stack_after t.default t.stacks r.prefix is.1.0 in
    let wanted : row ≡ stack_after t.default t.stacks row.prefix is.1.0 = subst P same is.1.1.2 in
    let prefix : index_or_none (cell_at (map prefix_told t.stacks) n) ≡ row.prefix = ap index_or_none (cells_at prefix_told t.stacks n row e) ∙ option_back row.prefix in
    let frame : frame_at (shared_told t) (index_of (cell_at (map number_told t.stack_frames) n)) ≡ is.1.0 =
    ap (λ (o : Option ℤ). frame_at (shared_told t) (index_of o)) (cells_at number_told t.stack_frames n place.0 place.1) ∙ frame_back t.frames place.0 is.1.0 is.1.1.1 in
    ap (λ (o : Option ℕ). stack_after t.default (take n t.stacks) o (frame_at (shared_told t) (index_of (cell_at (map number_told t.stack_frames) n)))) prefix
    ∙ (ap (stack_after t.default (take n t.stacks) row.prefix) frame
    ∙ (after_taken t.default t.stacks n row.prefix is.1.0 (kept.prefixes n row e) ∙ sym wanted))

stacks_taken : (t : SharedTables) → IsShared t → (n : ℕ) → n ≤ length t.stacks → stacks_below t.default (shared_told t) n ≡ take n t.stacks
unfolding stacks_below
stacks_taken t kept zero h = refl
stacks_taken t kept (suc n) h =
    let place = at_place t.stacks n (omega arith) in
    let prefix = index_or_none (cell_at (map prefix_told t.stacks) n) in
    let frame = frame_at (shared_told t) (index_of (cell_at (map number_told t.stack_frames) n)) in
    ap (λ (rows : List StackRow). rows ++ stack_after t.default rows prefix frame ∷ []) (stacks_taken t kept n (omega arith))
    ∙ (ap (λ (r : StackRow). take n t.stacks ++ r ∷ []) (stack_told t kept n place.0 place.1)
    ∙ sym (take_more t.stacks n place.0 place.1))

stacks_told : (t : SharedTables) → IsShared t → stacks_of t.default (shared_told t) ≡ t.stacks
unfolding stacks_of
stacks_told t kept =
    let many : length (map number_told t.stack_frames) ≡ length t.stacks = length_map number_told t.stack_frames ∙ kept.frames.many in
    ap (stacks_below t.default (shared_told t)) many ∙ (stacks_taken t kept (length t.stacks) (omega arith) ∙ take_all t.stacks)

-- ---- all tables

same_tables : (t : SharedTables) (strings : List (List ℕ)) (resources : List ℕ) (funcs : List Func) (frames : List FrameRow) (stacks : List StackRow) (stack_frames : List ℕ) →
    strings ≡ t.strings → resources ≡ t.resources → funcs ≡ t.funcs → frames ≡ t.frames → stacks ≡ t.stacks → stack_frames ≡ t.stack_frames →
    (let s : SharedTables = record { strings = strings; resources = resources; funcs = funcs; frames = frames; stacks = stacks; stack_frames = stack_frames; categories = t.categories; default = t.default } in s) ≡ t
same_tables t strings resources funcs frames stacks stack_frames a b c d e f = rw (a, b, c, d, e, f) refl

pub tables_back : (t : ThreadTables) → IsShared t.shared → t.shared.categories ≤ 65536 → shared_of t.shared.categories t.shared.default (raw_tables None (thread_value t)) ≡ t.shared
tables_back t kept few =
    let raw = raw_tables None (thread_value t) in
    let is = shared_raw t kept few in
    same_tables t.shared raw.strings (resources_of raw) (funcs_of raw) (frames_of raw) (stacks_of t.shared.default raw) (stack_frames_of raw)
    (strings_back t) (resources_back t kept.tied) (ap funcs_of is ∙ funcs_told t.shared) (frames_back t kept.tied few)
    (ap (stacks_of t.shared.default) is ∙ stacks_told t.shared kept) (stack_frames_back t kept)
