-- The lists of threads in both ways.
use Rattle.std.proofs.Common.{◌≡◌, ◌<◌, ℕ, Bool, Option, None, Some, ap, List, [], ◌∷◌, ◌++◌, length, subst}
use Rattle.std.specs.Prelude.{if◌then◌else◌}
use Rattle.prof_raw.specs.declared.limits.TheConstants.{MOST_THREADS}
use Rattle.prof_members.proofs.MoreItems as named
use Rattle.prof_processes.proofs.ThreadLists as rows
use Rattle.prof_gather.specs.Taking.{IsTaken}
use Rattle.prof_gather.specs.declared.objects.Kind.{Kind}
use Rattle.prof_grammar.specs.Value.{Value}
use Rattle.prof_members.specs.Columns.{IsThreadListOf}
use Rattle.prof_processes.specs.Processes.{AreThreadsOf}
use Rattle.prof_either.specs.Threads.{AreListsOf}
use Rattle.prof_either.specs.declared.gathered.ThreadLists.{ThreadLists}

-- what was taken in both ways was taken in each
pub lists_named : (v : Value) (first last : ThreadLists) (k : Kind) → IsTaken (λ a vs b. AreListsOf a vs b) v first k last → IsTaken (λ a vs b. IsThreadListOf a vs b) v first.named k last.named
lists_named Value.null first last k h = (h.0, ap (λ (l : ThreadLists). l.named) h.1)
lists_named (Value.boolean b) first last k h = (h.0, ap (λ (l : ThreadLists). l.named) h.1)
lists_named (Value.number text) first last k h = (h.0, ap (λ (l : ThreadLists). l.named) h.1)
lists_named (Value.string text) first last k h = (h.0, ap (λ (l : ThreadLists). l.named) h.1)
lists_named (Value.array vs) first last k h = (h.0, h.1.named)
lists_named (Value.object ms) first last k h = (h.0, ap (λ (l : ThreadLists). l.named) h.1)

pub lists_rows : (v : Value) (first last : ThreadLists) (k : Kind) → IsTaken (λ a vs b. AreListsOf a vs b) v first k last → IsTaken (λ a vs b. AreThreadsOf a vs b) v first.rows k last.rows
lists_rows Value.null first last k h = (h.0, ap (λ (l : ThreadLists). l.rows) h.1)
lists_rows (Value.boolean b) first last k h = (h.0, ap (λ (l : ThreadLists). l.rows) h.1)
lists_rows (Value.number text) first last k h = (h.0, ap (λ (l : ThreadLists). l.rows) h.1)
lists_rows (Value.string text) first last k h = (h.0, ap (λ (l : ThreadLists). l.rows) h.1)
lists_rows (Value.array vs) first last k h = (h.0, h.1.rows)
lists_rows (Value.object ms) first last k h = (h.0, ap (λ (l : ThreadLists). l.rows) h.1)

-- where more than the most are kept in both, another thread changes nothing
pub lists_full : (l : ThreadLists) → MOST_THREADS < length l.named.threads.items → MOST_THREADS < length l.rows.threads.items
    → (v : Value) (first : ThreadLists) (vs : List Value) → AreListsOf first vs l → AreListsOf first (vs ++ v ∷ []) l
lists_full l many more v first vs h = record {
  named = named.threads_full l.named many v first.named vs h.named;
  rows = rows.threads_full l.rows more v first.rows vs h.rows;
}

-- the row of an item that is no object
pub bad_row_is : (fits is : Bool) (n m : ℕ) (r : Option ℕ) → r ≡ (if fits then None else Some n) → fits ≡ is → n ≡ m → r ≡ (if is then None else Some m)
bad_row_is fits is n m r h e f =
    subst (λ (b : Bool). r ≡ (let o : Option ℕ = if b then None else Some m in o)) e
    (subst (λ (k : ℕ). r ≡ (let o : Option ℕ = if fits then None else Some k in o)) f h)
