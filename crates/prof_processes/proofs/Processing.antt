-- The process that its members make.
use Rattle.std.proofs.Common.{◌≡◌, Option, None, Some, List, ◌∷◌, refl, sym, subst}
use Rattle.std.specs.Prelude.{codes, unwrap_or}
use Rattle.std.specs.Option.{option_and_then}
use Rattle.prof_grammar.specs.Value.{Value, object, null, boolean, number, string, array, Members, field, last_named}
use Rattle.prof_gather.specs.Taking.{IsFoundIn}
use Rattle.prof_gather.specs.declared.objects.Found.{Found}
use Rattle.prof_gather.specs.declared.objects.Found.TheVariants as found
use Rattle.prof_gecko.specs.Gathered.{ProcessCells, Entry, process}
use Rattle.prof_gecko_layout.specs.GeckoProfile.{entries, below, start_member}
use Rattle.prof_processes.specs.Libs.{IsStart, IsMeta}
use Rattle.prof_processes.specs.Processes.{KeepEntries, IsProcess}
use Rattle.prof_processes.specs.declared.start.ProcessStart.{ProcessStart}

-- the start that an object says
pub start_found : (member : Option Value) (s : ProcessStart) → IsFoundIn IsMeta member (found.Object s) → IsStart (option_and_then (field (codes "startTime")) member) s
start_found None s h = cc
start_found (Some null) s h = cc
start_found (Some (boolean b)) s h = cc
start_found (Some (number text)) s h = cc
start_found (Some (string text)) s h = cc
start_found (Some (array vs)) s h = cc
start_found (Some (object ms)) s h = h

-- what is no object says none
pub start_unsaid : (member : Option Value) (f : Found ProcessStart) (s : ProcessStart) → IsFoundIn IsMeta member f → ((t : ProcessStart) → f ≡ found.Object t → ⊥) → IsStart None s → IsStart (option_and_then (field (codes "startTime")) member) s
start_unsaid None f s h n k = k
start_unsaid (Some null) f s h n k = k
start_unsaid (Some (boolean b)) f s h n k = k
start_unsaid (Some (number text)) f s h n k = k
start_unsaid (Some (string text)) f s h n k = k
start_unsaid (Some (array vs)) f s h n k = k
start_unsaid (Some (object ms)) found.Absent s h n k = absurd h
start_unsaid (Some (object ms)) found.Null s h n k = absurd h
start_unsaid (Some (object ms)) found.Other s h n k = absurd h
start_unsaid (Some (object ms)) (found.Object t) s h n k = absurd (n t refl)

start-where : (o : Option Value) → field (codes "startTime") (unwrap_or o null) ≡ option_and_then (field (codes "startTime")) o
start-where None = refl
start-where (Some v) = refl

-- the start of a process is that of its last `meta`
pub start_of : (ms : Members) (s : ProcessStart) → IsStart (option_and_then (field (codes "startTime")) (last_named (codes "meta") ms)) s → IsStart (start_member (object ms)) s
start_of ms s h = subst (λ (o : Option Value). IsStart o s) (sym (start-where (last_named (codes "meta") ms))) h

-- a process, and then those below it
pub entries_kept : (ms : Members) (p : ProcessCells) (kept : List Entry) → IsProcess (object ms) p → KeepEntries (below ms) kept → KeepEntries (entries (object ms)) (process p ∷ kept)
unfolding entries
entries_kept ms p kept is h = (record { value = object ms; whole_is = refl; kept_is = is }, h)
