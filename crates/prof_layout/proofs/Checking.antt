-- The first check that fails, one check at a time.
use Rattle.std.proofs.Common.{◌≡◌, ℕ, suc, ◌+◌, ◌≤◌, Option, None, Some, IfSome, List, [], ◌∷◌, ◌++◌, length, true, false, refl, sym, ◌∙◌, ap, arith}
use Rattle.std.specs.Option.{option_or}
use Rattle.std.proofs.lemmas.List.{length-map}
use Rattle.prof_grammar.specs.Value.{Value}
use Rattle.prof_raw.specs.declared.rule.Table.{Table}
use Rattle.prof_raw.specs.declared.rule.Table.TheVariants as table
use Rattle.prof_raw.specs.declared.rule.Column.{Column}
use Rattle.prof_raw.specs.declared.rule.Column.TheVariants as column
use Rattle.prof_raw.specs.declared.rule.ListFault.{ListFault}
use Rattle.prof_raw.specs.declared.rule.Broken.{Broken}
use Rattle.prof_raw.specs.Checks.{named}
use Rattle.prof_layout.specs.Lists.{items_of, text_of, is_text, is_object, needed_list_fault}
use Rattle.prof_layout.specs.Profile.{is_processed, categories_broken, common_of, common_broken, base_broken, threads_member, threads_broken, thread_fails, first_thread, processed_broken, unknown_format, broken}
use Rattle.prof_layout.proofs.Kept.{none_of}
use Rattle.prof_layout.proofs.KeptValue.{needed_few}
use Rattle.prof_raw.specs.declared.limits.TheConstants.{MOST_STRINGS, MOST_THREADS}

or-none : (o : Option Broken) → option_or o None ≡ o
or-none None = refl
or-none (Some b) = refl

or-assoc : (a b c : Option Broken) → option_or (option_or a b) c ≡ option_or a (option_or b c)
or-assoc None b c = refl
or-assoc (Some x) b c = refl

-- a check that fails is named where those before it pass
pub broken-format : (v : Value) → is_processed v ≡ false → broken v ≡ Some unknown_format
unfolding broken
broken-format v e = rw e refl

-- a value that is no object is none
pub not-processed : (v : Value) → is_object v ≡ false → is_processed v ≡ false
not-processed Value.null h = refl
not-processed (Value.boolean b) h = refl
not-processed (Value.number t) h = refl
not-processed (Value.string t) h = refl
not-processed (Value.array vs) h = refl
not-processed (Value.object ms) h = cc

broken-checks : (v : Value) (o : Option Broken) → is_processed v ≡ true → processed_broken v ≡ o → broken v ≡ o
unfolding broken
broken-checks v o e p = rw e p

pub broken-categories : (v : Value) (b : Broken) → is_processed v ≡ true → categories_broken v ≡ Some b → broken v ≡ Some b
unfolding processed_broken
broken-categories v b e c = broken-checks v (Some b) e (rw c refl)

pub broken-base : (v : Value) (b : Broken) → is_processed v ≡ true → categories_broken v ≡ None → base_broken v ≡ Some b → broken v ≡ Some b
unfolding processed_broken
broken-base v b e c s = broken-checks v (Some b) e (rw (c, s) refl)

pub broken-threads : (v : Value) (b : Broken) → is_processed v ≡ true → categories_broken v ≡ None → base_broken v ≡ None → threads_broken v ≡ Some b → broken v ≡ Some b
unfolding processed_broken
broken-threads v b e c s t = broken-checks v (Some b) e (rw (c, s, t) refl)

-- the first thread that fails, or none
pub broken-thread : (v : Value) (o : Option Broken) → is_processed v ≡ true → categories_broken v ≡ None → base_broken v ≡ None → threads_broken v ≡ None →
    first_thread (thread_fails v) 0 (items_of (threads_member v)) ≡ o → broken v ≡ o
unfolding processed_broken
broken-thread v o e c s t f = broken-checks v o e (rw (c, s, t) (or-none (first_thread (thread_fails v) 0 (items_of (threads_member v))) ∙ f))

-- one more thread
pub first_thread-push : (fails : ℕ → Value → Option Broken) (number : ℕ) (threads : List Value) (t : Value) →
    first_thread fails number (threads ++ t ∷ []) ≡ option_or (first_thread fails number threads) (fails (number + length threads) t)
first_thread-push fails number [] t = let e : number ≡ number + 0 = omega arith in or-none (fails number t) ∙ ap (λ n. fails n t) e
first_thread-push fails number (u ∷ threads) t =
    let e : suc number + length threads ≡ number + suc (length threads) = omega arith in
    ap (λ o. option_or (fails number u) o) (first_thread-push fails (suc number) threads t ∙ ap (λ n. option_or (first_thread fails (suc number) threads) (fails n t)) e)
    ∙ sym (or-assoc (fails number u) (first_thread fails (suc number) threads) (fails (number + suc (length threads)) t))

-- the first thread that fails is named, however many follow
pub first_thread-found : (fails : ℕ → Value → Option Broken) (number : ℕ) (before : List Value) (t : Value) (behind : List Value) (b : Broken) →
    first_thread fails number before ≡ None → fails (number + length before) t ≡ Some b → first_thread fails number (before ++ t ∷ behind) ≡ Some b
first_thread-found fails number [] t behind b none e =
    let zero : number ≡ number + 0 = omega arith in
    let k : fails number t ≡ Some b = ap (λ n. fails n t) zero ∙ e in
    rw k refl
first_thread-found fails number (u ∷ before) t behind b none e =
    let both = none_of (fails number u) (first_thread fails (suc number) before) none in
    let same : suc number + length before ≡ number + suc (length before) = omega arith in
    rw both.0 (first_thread-found fails (suc number) before t behind b both.1 (ap (λ n. fails n t) same ∙ e))

-- each thread of a list that passes does
pub first_thread-each : (fails : ℕ → Value → Option Broken) (number : ℕ) (before : List Value) (t : Value) (behind : List Value) →
    first_thread fails number (before ++ t ∷ behind) ≡ None → fails (number + length before) t ≡ None
first_thread-each fails number [] t behind none =
    let zero : number + 0 ≡ number = omega arith in
    ap (λ n. fails n t) zero ∙ (none_of (fails number t) (first_thread fails (suc number) behind) none).0
first_thread-each fails number (u ∷ before) t behind none =
    let same : number + suc (length before) ≡ suc number + length before = omega arith in
    ap (λ n. fails n t) same ∙ first_thread-each fails (suc number) before t behind (none_of (fails number u) (first_thread fails (suc number) (before ++ t ∷ behind)) none).1

fault-none : (thread : Option ℕ) (t : Table) (c : Column) (f : Option ListFault) → named thread t c f ≡ None → f ≡ None
fault-none thread t c None h = refl
fault-none thread t c (Some f) h = cc

-- a list that was checked has at most the most rows
pub threads-few : (v : Value) → threads_broken v ≡ None → length (items_of (threads_member v)) ≤ MOST_THREADS
unfolding threads_broken
threads-few v h = needed_few is_object MOST_THREADS (threads_member v) (fault-none None table.Threads column.List (needed_list_fault is_object MOST_THREADS (threads_member v)) h)

pub common-few : (member : Option Value) → common_broken member ≡ None → IfSome (common_of member) (λ strings. length strings ≤ MOST_STRINGS)
common-few None h = tt
common-few (Some strings) h =
    let few : length (items_of (Some strings)) ≤ MOST_STRINGS = needed_few is_text MOST_STRINGS (Some strings) (fault-none None table.StringArray column.List (needed_list_fault is_text MOST_STRINGS (Some strings)) h) in
    let e = length-map (items_of (Some strings)) text_of in
    omega arith
