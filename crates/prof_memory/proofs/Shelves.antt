-- Where a file stands among files with their names.
use Rattle.std.proofs.Common.{◌≡◌, ℕ, zero, suc, ◌+◌, ◌<◌, List, [], ◌∷◌, length, drop, get_or, true, false, Some, None, IsSome, unwrap_or, cond, refl, sym, ap, arith, add-one, ◌-◌, ◌≤◌}
use Rattle.std.proofs.Math.Seq.{drop-nil}
use Rattle.std.specs.Prelude.{Vec}
use Rattle.std.specs.Str.{bytes_eq}
use Rattle.std.specs.declared.alloc.Global.{Global}
use Rattle.prof_io.specs.Shelf.{file_at, content}
use Rattle.prof_io.specs.Named.{place_of}
use Rattle.prof_memory.specs.Memory.{shelf_of, first_bytes, bytes_at, parts_of, part_before}

-- the file at the place of a name is the one that is found
pub bytes_at-place_of : (files : List (List ℕ × Vec ℕ Global)) (name : List ℕ)
    → bytes_at (shelf_of files) (place_of files name) ≡ content (shelf_of files) name
bytes_at-place_of [] name = refl
bytes_at-place_of (x ∷ xs) name =
    elim (bytes_eq x.0 name) as (λ b. bytes_at (shelf_of (x ∷ xs)) (cond b 0 (suc (place_of xs name))) ≡ unwrap_or (cond b (Some x.1.items) (file_at (shelf_of xs) name)) [])
    [ true ↦ refl | false ↦ bytes_at-place_of xs name ]

-- a file that is there has a place
pub place_there : (files : List (List ℕ × Vec ℕ Global)) (name : List ℕ) → IsSome (file_at (shelf_of files) name) → place_of files name < length files
place_there [] name = λ h. cc
place_there (x ∷ xs) name =
    elim (bytes_eq x.0 name) as (λ b. IsSome (cond b (Some x.1.items) (file_at (shelf_of xs) name)) → cond b 0 (suc (place_of xs name)) < suc (length xs))
    [ true ↦ λ h. omega arith | false ↦ λ h. let t : place_of xs name < length xs = place_there xs name h in omega arith ]

-- a name with a place has a file
pub file_there : (files : List (List ℕ × Vec ℕ Global)) (name : List ℕ) → place_of files name < length files → file_at (shelf_of files) name ≡ None → ⊥
file_there [] name = λ h e. absurd (omega arith)
file_there (x ∷ xs) name =
    elim (bytes_eq x.0 name) as (λ b. cond b 0 (suc (place_of xs name)) < suc (length xs) → cond b (Some x.1.items) (file_at (shelf_of xs) name) ≡ None → ⊥)
    [ true ↦ λ h e. cc | false ↦ λ h e. file_there xs name (omega arith) e ]

-- a name past the last place has no file
pub file_lacks : (files : List (List ℕ × Vec ℕ Global)) (name : List ℕ) → length files ≤ place_of files name → file_at (shelf_of files) name ≡ None
file_lacks [] name = λ h. refl
file_lacks (x ∷ xs) name =
    elim (bytes_eq x.0 name) as (λ b. suc (length xs) ≤ cond b 0 (suc (place_of xs name)) → cond b (Some x.1.items) (file_at (shelf_of xs) name) ≡ None)
    [ true ↦ λ h. absurd (omega arith) | false ↦ λ h. file_lacks xs name (omega arith) ]

-- the bytes at a place are those of the file there
pub at_place : (files : List (List ℕ × Vec ℕ Global)) (i : ℕ) (file : List ℕ × Vec ℕ Global)
    → i < length files → file ≡ get_or files i file → bytes_at (shelf_of files) i ≡ file.1.items
at_place [] i file h e = absurd (omega arith)
at_place (x ∷ xs) zero file h e = ap (λ (f : List ℕ × Vec ℕ Global). f.1.items) (sym e)
at_place (x ∷ xs) (suc i) file h e = at_place xs i file (omega arith) e

-- past the last file there are no bytes
pub past_end : (files : List (List ℕ × Vec ℕ Global)) (i : ℕ) → length files ≤ i → bytes_at (shelf_of files) i ≡ []
past_end [] i h = ap first_bytes (drop-nil i)
past_end (x ∷ xs) zero h = absurd (omega arith)
past_end (x ∷ xs) (suc i) h = past_end xs i (omega arith)

-- the last of the first so many lists
pub last_part : (parts : List (Vec ℕ Global)) (n : ℕ) (part : Vec ℕ Global)
    → n < length parts → part ≡ get_or parts n part → part_before (parts_of parts) (suc n) ≡ part.items
last_part [] n part h e = absurd (omega arith)
last_part (x ∷ xs) zero part h e = ap (λ (p : Vec ℕ Global). p.items) (sym e)
last_part (x ∷ xs) (suc n) part h e = last_part xs n part (omega arith) e

pub part_there : (parts : List (Vec ℕ Global)) (n : ℕ) (part : Vec ℕ Global)
    → 0 < n → n - 1 < length parts → part ≡ get_or parts (n - 1) part → part_before (parts_of parts) n ≡ part.items
part_there parts zero part p h e = absurd (omega arith)
part_there parts (suc n) part p h e = let same : suc n - 1 ≡ n = omega arith in last_part parts n part (omega arith) (rw same at e)

-- the next list is the first of those to come
pub goes_on : (parts : List (Vec ℕ Global)) (i : ℕ) → i < length parts
    → (came : List ℕ) × (rest : List (List ℕ)) × (drop i (parts_of parts) ≡ came ∷ rest) × (drop (i + 1) (parts_of parts) ≡ rest) × (part_before (parts_of parts) (i + 1) ≡ came)
goes_on [] i h = absurd (omega arith)
goes_on (x ∷ xs) zero h = (x.items, parts_of xs, refl, refl, refl)
goes_on (x ∷ xs) (suc i) h =
    let (came, rest, a, b, e) = goes_on xs i (omega arith) in
    (came, rest, a, rw add-one (rw add-one at b), rw add-one (rw add-one at e))
