-- Threads that are built one after another, by the values that they were gathered of.
use Rattle.std.proofs.Common.{◌≡◌, ℕ, zero, suc, ◌<◌, ◌+◌, Option, Some, None, List, [], ◌∷◌, ◌++◌, true, length, map, take, drop, get_or, refl, sym, ◌∙◌, ap, arith}
use Rattle.std.specs.Prelude.{not, if◌then◌else◌}
use Rattle.std.proofs.lemmas.List.{map-append, take_all}
use Rattle.prof_grammar.specs.Value.{Value, Members}
use Rattle.prof_raw.specs.declared.rule.Broken.{Broken}
use Rattle.prof_tables.specs.Threads.{ThreadTables}
use Rattle.prof_layout.specs.Lists.{is_object, first_where}
use Rattle.prof_layout.specs.Profile.{first_thread, thread_fails, thread_tables}
use Rattle.prof_layout.proofs.Checking.{first_thread-push, first_thread-found}
use Rattle.prof_members.specs.declared.threads.ThreadParts.{ThreadParts}
use Rattle.prof_members.specs.Gathered.{AreThread, IsThread, AreThreads}

-- the threads of so many of the values are built, and none of them breaks a rule
pub record AreBuilt (v : Value) (count : ℕ) (vs : List Value) (built : List ThreadTables) : Type 0 where
  pub are : built ≡ map (thread_tables v) (take count vs)
  pub whole : first_thread (thread_fails v) 0 (take count vs) ≡ None

-- the row of the values at which the next thread stands
pub record IsRow (n : ℕ) (vs : List Value) (p : ThreadParts) : Type 0 where
  pub members : Members
  pub are : AreThread members p
  pub split : vs ≡ take n vs ++ Value.object members ∷ drop (suc n) vs
  pub more : take (suc n) vs ≡ take n vs ++ Value.object members ∷ []
  pub before : length (take n vs) ≡ n

is_first : (v : Value) (row : ℕ) (rest : Option ℕ) → (if not (is_object v) then Some row else rest) ≡ None → (is_object v ≡ true) × (rest ≡ None)
is_first Value.null row rest h = cc
is_first (Value.boolean b) row rest h = cc
is_first (Value.number t) row rest h = cc
is_first (Value.string t) row rest h = cc
is_first (Value.array vs) row rest h = cc
is_first (Value.object ms) row rest h = (refl, h)

of_object : (v : Value) (p : ThreadParts) → is_object v ≡ true → IsThread v p → (ms : Members) × (v ≡ Value.object ms) × AreThread ms p
of_object Value.null p o h = cc
of_object (Value.boolean b) p o h = cc
of_object (Value.number t) p o h = cc
of_object (Value.string t) p o h = cc
of_object (Value.array vs) p o h = cc
of_object (Value.object ms) p o h = (ms, refl, h)

pub row_at : (row : ℕ) (vs : List Value) (ts : List ThreadParts) (n : ℕ) (p : ThreadParts) → first_where (λ v. not (is_object v)) row vs ≡ None → AreThreads vs ts → n < length ts → p ≡ get_or ts n p → IsRow n vs p
row_at row [] [] n p none are below e = absurd (omega arith)
row_at row [] (t ∷ ts) n p none are below e = absurd are
row_at row (v ∷ vs) [] n p none are below e = absurd are
row_at row (v ∷ vs) (t ∷ ts) zero p none are below e =
    let first = is_first v row (first_where (λ v. not (is_object v)) (suc row) vs) none in
    let o = of_object v t first.0 are.0 in
    record { members = o.0; are = rw e o.2; split = ap (λ (w : Value). w ∷ vs) o.1; more = ap (λ (w : Value). w ∷ []) o.1; before = refl }
row_at row (v ∷ vs) (t ∷ ts) (suc n) p none are below e =
    let first = is_first v row (first_where (λ v. not (is_object v)) (suc row) vs) none in
    let r = row_at (suc row) vs ts n p first.1 are.1 (omega arith) e in
    record { members = r.members; are = r.are; split = ap (λ (t : List Value). v ∷ t) r.split; more = ap (λ (t : List Value). v ∷ t) r.more; before = ap suc r.before }

pub length_threads : (vs : List Value) (ts : List ThreadParts) → AreThreads vs ts → length vs ≡ length ts
length_threads [] [] are = refl
length_threads [] (t ∷ ts) are = absurd are
length_threads (v ∷ vs) [] are = absurd are
length_threads (v ∷ vs) (t ∷ ts) are = ap suc (length_threads vs ts are.1)

pub built_none : (v : Value) (vs : List Value) → AreBuilt v 0 vs []
built_none v vs = record { are = refl; whole = refl }

-- one more is built
pub built_more : (v : Value) (n next : ℕ) (vs : List Value) (p : ThreadParts) (built : List ThreadTables) (t : ThreadTables) (row : IsRow n vs p) → next ≡ suc n → AreBuilt v n vs built →
    thread_fails v n (Value.object row.members) ≡ None → t ≡ thread_tables v (Value.object row.members) → AreBuilt v next vs (built ++ t ∷ [])
built_more v n next vs p built t row at so passes is =
    let o = Value.object row.members in
    let here : thread_fails v (0 + length (take n vs)) o ≡ None = ap (λ k. thread_fails v k o) (let b = row.before in let e : 0 + length (take n vs) ≡ n = omega arith in e) ∙ passes in
    record {
      are = rw (at, row.more, map-append (thread_tables v) (take n vs) (o ∷ []), so.are, is) refl;
      whole = rw (at, row.more) (first_thread-push (thread_fails v) 0 (take n vs) o ∙ rw (so.whole, here) refl);
    }

-- the next one breaks a rule
pub built_fails : (v : Value) (n : ℕ) (vs : List Value) (p : ThreadParts) (built : List ThreadTables) (b : Broken) (row : IsRow n vs p) → AreBuilt v n vs built →
    thread_fails v n (Value.object row.members) ≡ Some b → first_thread (thread_fails v) 0 vs ≡ Some b
built_fails v n vs p built b row so fails =
    let o = Value.object row.members in
    let here : thread_fails v (0 + length (take n vs)) o ≡ Some b = ap (λ k. thread_fails v k o) (let b = row.before in let e : 0 + length (take n vs) ≡ n = omega arith in e) ∙ fails in
    ap (first_thread (thread_fails v) 0) row.split ∙ first_thread-found (thread_fails v) 0 (take n vs) o (drop (suc n) vs) b so.whole here

-- all are built
pub built_all : (v : Value) (n : ℕ) (vs : List Value) (ts : List ThreadParts) (built : List ThreadTables) → n ≡ length ts → AreThreads vs ts → AreBuilt v n vs built →
    (first_thread (thread_fails v) 0 vs ≡ None) × (built ≡ map (thread_tables v) vs)
built_all v n vs ts built at are so =
    let e = length_threads vs ts are in
    let whole : take n vs ≡ vs = take_all n vs (omega arith) in
    (ap (first_thread (thread_fails v) 0) (sym whole) ∙ so.whole, so.are ∙ ap (map (thread_tables v)) whole)
