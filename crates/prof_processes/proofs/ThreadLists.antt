-- Threads of a list, one more at a time.
use Rattle.std.proofs.Common.{◌≡◌, ℕ, suc, ◌<◌, ◌≤◌, Option, Some, None, List, [], ◌∷◌, ◌++◌, true, false, refl, sym, ◌∙◌, ap, arith, length, take, inl, inr}
use Rattle.std.specs.Prelude.{map, not, nat_le, if◌then◌else◌, Bool}
use Rattle.std.specs.Option.{option_or, option_map, MatchOption, IsSomeAnd}
use Rattle.std.proofs.lemmas.Bool.{cases_Bool}
use Rattle.std.proofs.lemmas.Bool.Decides.{nat_tests}
use Rattle.std.proofs.lemmas.List.{length-map, map_push}
use Rattle.prof_grammar.specs.Value.{Value, null, boolean, number, string, array, object, no_members}
use Rattle.prof_raw.specs.declared.limits.TheConstants.{MOST_THREADS}
use Rattle.prof_raw.specs.declared.rule.Rule.TheVariants as rule
use Rattle.prof_raw.specs.declared.rule.ListFault.{ListFault}
use Rattle.prof_raw.specs.declared.raw.State.TheVariants as state
use Rattle.prof_raw.specs.Rules.{whole_fault}
use Rattle.prof_layout.specs.Lists.{is_object, items_of, first_unfit, wrong_kind, list_fault, needed_list_fault}
use Rattle.prof_layout.proofs.Items.{kept-full, kept-push, first_where-meets, first_where-fails, kept_fault}
use Rattle.prof_gecko.specs.Gathered.{GeckoCells}
use Rattle.prof_gecko_layout.specs.GeckoTables.{gecko_cells}
use Rattle.prof_gather.specs.Taking.{IsTaken}
use Rattle.prof_gather.specs.declared.objects.Kind.{Kind}
use Rattle.prof_column.specs.Columns.{state_for}
use Rattle.prof_column.specs.Kept.{state_by}
use Rattle.prof_processes.specs.Threads.{kept_cells}
use Rattle.prof_processes.specs.Processes.{AreThreadsOf, IsThreadList}
use Rattle.prof_processes.specs.declared.list.ThreadList.{ThreadList}
use Rattle.prof_processes.proofs.Options.{or_none}

threads-count : (vs : List Value) (ts : List GeckoCells) → ts ≡ map kept_cells (take (suc MOST_THREADS) vs) → length ts ≡ length (take (suc MOST_THREADS) vs)
threads-count vs ts e = ap (λ (t : List GeckoCells). length t) e ∙ length-map (take (suc MOST_THREADS) vs) kept_cells

-- where more than the most are kept, another changes nothing
pub threads_full : (l : ThreadList) → MOST_THREADS < length l.threads.items → (v : Value) (first : ThreadList) (vs : List Value) → AreThreadsOf first vs l → AreThreadsOf first (vs ++ v ∷ []) l
threads_full l many v first vs h = record {
  are = λ no.
      let so_far = h.are no in
      let n = threads-count vs l.threads.items so_far.threads in
      let same = kept-full MOST_THREADS vs v (omega arith) in
      record {
        threads = so_far.threads ∙ ap (λ (t : List Value). map kept_cells t) (sym same);
        bad = so_far.bad ∙ ap (λ (t : List Value). first_unfit is_object t) (sym same);
      };
}

-- the first item that is no object, and one more
bad_more : (kept : List Value) (v : Value) (old new : Option ℕ) → old ≡ first_unfit is_object kept → new ≡ option_or old (if is_object v then None else Some (length kept)) → new ≡ first_unfit is_object (kept ++ v ∷ [])
bad_more kept v old new so_far is = elim (cases_Bool (is_object v)) [
  | inl e ↦ (let fits : not (is_object v) ≡ false = rw e refl in let k : new ≡ option_or old None = rw e at is in k ∙ or_none old ∙ so_far ∙ sym (first_where-fails (λ w. not (is_object w)) kept v fits))
  | inr e ↦ (let fits : not (is_object v) ≡ true = rw e refl in let k : new ≡ option_or old (Some (length kept)) = rw e at is in k ∙ ap (λ (o : Option ℕ). option_or o (Some (length kept))) so_far ∙ sym (first_where-meets (λ w. not (is_object w)) kept v fits))
]

-- else it is kept behind the others
pub thread_added : (old new : ThreadList) (v : Value) (t : GeckoCells) → length old.threads.items ≤ MOST_THREADS → new.threads.items ≡ old.threads.items ++ t ∷ [] → t ≡ kept_cells v →
    new.bad ≡ option_or old.bad (if is_object v then None else Some (length old.threads.items)) → (first : ThreadList) (vs : List Value) → AreThreadsOf first vs old → AreThreadsOf first (vs ++ v ∷ []) new
thread_added old new v t few grown is bad first vs h = record {
  are = λ no.
      let so_far = h.are no in
      let kept = take (suc MOST_THREADS) vs in
      let n : length old.threads.items ≡ length kept = threads-count vs old.threads.items so_far.threads in
      let more : take (suc MOST_THREADS) (vs ++ v ∷ []) ≡ kept ++ v ∷ [] = kept-push MOST_THREADS vs v (omega arith) in
      let row : new.bad ≡ option_or old.bad (if is_object v then None else Some (length kept)) = bad ∙ ap (λ (m : ℕ). option_or old.bad (let o : Option ℕ = if is_object v then None else Some m in o)) n in
      record {
        threads = grown
            ∙ ap (λ (ts : List GeckoCells). ts ++ t ∷ []) so_far.threads
            ∙ ap (λ (x : GeckoCells). map kept_cells kept ++ x ∷ []) is
            ∙ sym (map_push kept_cells kept v)
            ∙ ap (λ (ws : List Value). map kept_cells ws) (sym more);
        bad = bad_more kept v old.bad new.bad so_far.bad row ∙ ap (λ (ws : List Value). first_unfit is_object ws) (sym more);
      };
}

-- what is no object has no members
pub other_cells : (v : Value) → is_object v ≡ false → kept_cells (object no_members) ≡ kept_cells v
unfolding kept_cells gecko_cells
other_cells null h = refl
other_cells (boolean b) h = refl
other_cells (number text) h = refl
other_cells (string text) h = refl
other_cells (array vs) h = refl
other_cells (object ms) h = cc

pub threads_read : (v : Value) (first l new : ThreadList) (k : Kind) → IsThreadList None first → IsTaken (λ a vs b. AreThreadsOf a vs b) v first k l →
    new.state ≡ state_for true k → new.threads.items ≡ l.threads.items → new.bad ≡ l.bad → IsThreadList (Some v) new
threads_read (array vs) first l new k none h s a b =
    let are = h.1.are none.are in
    record { state = s ∙ ap (state_for true) h.0; are = record { threads = a ∙ are.threads; bad = b ∙ are.bad } }
threads_read null first l new k none h s a b =
    record { state = s ∙ ap (state_for true) h.0; are = record { threads = a ∙ ap (λ (x : ThreadList). x.threads.items) h.1 ∙ none.are.threads; bad = b ∙ ap (λ (x : ThreadList). x.bad) h.1 ∙ none.are.bad } }
threads_read (boolean t) first l new k none h s a b =
    record { state = s ∙ ap (state_for true) h.0; are = record { threads = a ∙ ap (λ (x : ThreadList). x.threads.items) h.1 ∙ none.are.threads; bad = b ∙ ap (λ (x : ThreadList). x.bad) h.1 ∙ none.are.bad } }
threads_read (number t) first l new k none h s a b =
    record { state = s ∙ ap (state_for true) h.0; are = record { threads = a ∙ ap (λ (x : ThreadList). x.threads.items) h.1 ∙ none.are.threads; bad = b ∙ ap (λ (x : ThreadList). x.bad) h.1 ∙ none.are.bad } }
threads_read (string t) first l new k none h s a b =
    record { state = s ∙ ap (state_for true) h.0; are = record { threads = a ∙ ap (λ (x : ThreadList). x.threads.items) h.1 ∙ none.are.threads; bad = b ∙ ap (λ (x : ThreadList). x.bad) h.1 ∙ none.are.bad } }
threads_read (object t) first l new k none h s a b =
    record { state = s ∙ ap (state_for true) h.0; are = record { threads = a ∙ ap (λ (x : ThreadList). x.threads.items) h.1 ∙ none.are.threads; bad = b ∙ ap (λ (x : ThreadList). x.bad) h.1 ∙ none.are.bad } }

-- ---- what the list breaks

array_fault : (fits : Value → Bool) (most : ℕ) (member : Option Value) → state_by true member ≡ state.Array → needed_list_fault fits most member ≡ list_fault fits most (items_of member)
array_fault fits most None s = cc
array_fault fits most (Some null) s = cc
array_fault fits most (Some (boolean b)) s = cc
array_fault fits most (Some (number text)) s = cc
array_fault fits most (Some (string text)) s = cc
array_fault fits most (Some (array vs)) s = refl
array_fault fits most (Some (object ms)) s = cc

kept_threads : (member : Option Value) (l : ThreadList) → IsThreadList member l → l.state ≡ state.Array →
    needed_list_fault is_object MOST_THREADS member ≡ (if nat_le (length l.threads.items) MOST_THREADS then option_map wrong_kind l.bad else Some (whole_fault rule.RowLimit))
kept_threads member l h s =
    let kept = take (suc MOST_THREADS) (items_of member) in
    let n : length kept ≡ length l.threads.items = sym (threads-count (items_of member) l.threads.items h.are.threads) in
    array_fault is_object MOST_THREADS member (sym h.state ∙ s)
    ∙ kept_fault is_object MOST_THREADS (items_of member) kept refl
    ∙ ap (λ (m : ℕ). let f : Option ListFault = if nat_le m MOST_THREADS then option_map wrong_kind (first_unfit is_object kept) else Some (whole_fault rule.RowLimit) in f) n
    ∙ ap (λ (o : Option ℕ). let f : Option ListFault = if nat_le (length l.threads.items) MOST_THREADS then option_map wrong_kind o else Some (whole_fault rule.RowLimit) in f) (sym h.are.bad)

pub threads_over : (member : Option Value) (l : ThreadList) → IsThreadList member l → l.state ≡ state.Array → MOST_THREADS < length l.threads.items → Some (whole_fault rule.RowLimit) ≡ needed_list_fault is_object MOST_THREADS member
threads_over member l h s many =
    let e : nat_le (length l.threads.items) MOST_THREADS ≡ false = grind (arith, nat_tests) in
    sym (kept_threads member l h s ∙ rw e refl)

pub threads_within : (member : Option Value) (l : ThreadList) → IsThreadList member l → l.state ≡ state.Array → length l.threads.items ≤ MOST_THREADS → option_map wrong_kind l.bad ≡ needed_list_fault is_object MOST_THREADS member
threads_within member l h s few =
    let e : nat_le (length l.threads.items) MOST_THREADS ≡ true = grind (arith, nat_tests) in
    sym (kept_threads member l h s ∙ rw e refl)

-- the fault of the first item that is no object
pub fault_of : (o : Option ℕ) (r : Option ListFault) (Q : ℕ → ListFault → Type 0) → ((n : ℕ) (l : ListFault) → Q n l → l ≡ wrong_kind n) →
    MatchOption o (r ≡ None) (λ n. IsSomeAnd r (Q n)) → r ≡ option_map wrong_kind o
fault_of None r Q f h = h
fault_of (Some n) None Q f h = absurd h
fault_of (Some n) (Some l) Q f h = ap (λ (x : ListFault). let o : Option ListFault = Some x in o) (f n l h)
