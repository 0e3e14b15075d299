-- Libraries, one more at a time.
use Rattle.std.proofs.Common.{◌≡◌, ℕ, suc, ◌+◌, Option, Some, None, List, [], ◌∷◌, ◌++◌, true, false, refl, sym, ◌∙◌, ap, arith, length}
use Rattle.std.specs.Prelude.{map, is_some}
use Rattle.std.specs.Option.{option_or, option_map}
use Rattle.std.proofs.lemmas.List.{length-map, map_push}
use Rattle.prof_grammar.specs.Value.{Value, Values, items, null, boolean, number, string, array, object}
use Rattle.prof_raw.specs.declared.rule.Rule.{Rule}
use Rattle.prof_raw.specs.declared.rule.Rule.TheVariants as rule
use Rattle.prof_raw.specs.declared.rule.ListFault.{ListFault}
use Rattle.prof_layout.specs.Lists.{is_object}
use Rattle.prof_gecko_layout.specs.GeckoProfile.{first_lib_fault, lib_rule, lib_of}
use Rattle.prof_gecko.specs.Gathered.{Lib}
use Rattle.prof_processes.specs.Libs.{AreLibsOf, IsLibList}
use Rattle.prof_processes.specs.declared.libs.LibList.{LibList}
use Rattle.prof_processes.proofs.Options.{or_assoc, or_none}

pub lib_fault-push : (row : ℕ) (vs : List Value) (v : Value) →
    first_lib_fault row (vs ++ v ∷ []) ≡ option_or (first_lib_fault row vs) (option_map (λ r. let f : ListFault = record { rule = r; row = Some (row + length vs) } in f) (lib_rule v))
lib_fault-push row [] v = let e : row ≡ row + 0 = omega arith in or_none _ ∙ ap (λ (n : ℕ). option_map (λ r. let f : ListFault = record { rule = r; row = Some n } in f) (lib_rule v)) e
lib_fault-push row (w ∷ vs) v =
    let e : suc row + length vs ≡ row + suc (length vs) = omega arith in
    ap (λ (t : Option ListFault). option_or (option_map (λ r. let f : ListFault = record { rule = r; row = Some row } in f) (lib_rule w)) t)
    (lib_fault-push (suc row) vs v ∙ ap (λ (n : ℕ). option_or (first_lib_fault (suc row) vs) (option_map (λ r. let f : ListFault = record { rule = r; row = Some n } in f) (lib_rule v))) e)
    ∙ or_assoc _ (first_lib_fault (suc row) vs) _

-- what is no object is no library
pub other_rule : (v : Value) → is_object v ≡ false → lib_rule v ≡ Some rule.WrongKind
other_rule null h = refl
other_rule (boolean b) h = refl
other_rule (number text) h = refl
other_rule (string text) h = refl
other_rule (array vs) h = refl
other_rule (object ms) h = cc

-- behind a fault nothing counts
pub libs_full : (l : LibList) (f : ListFault) → l.fault ≡ Some f → (v : Value) (first : LibList) (vs : List Value) → AreLibsOf first vs l → AreLibsOf first (vs ++ v ∷ []) l
libs_full l f is v first vs h = record {
  are = λ no.
      let so_far = h.are no in
      let found : first_lib_fault 0 vs ≡ Some f = sym so_far.fault_is ∙ is in
      let same : first_lib_fault 0 (vs ++ v ∷ []) ≡ Some f = lib_fault-push 0 vs v ∙ rw found refl in
      record { fault_is = is ∙ sym same; libs = λ e. let k : Some f ≡ None = sym is ∙ e in cc };
}

-- the next library is added where none before it broke a rule
pub lib_added : (old new : LibList) (v : Value) (lib : Lib) → old.fault ≡ None → new.fault ≡ None → new.libs.items ≡ old.libs.items ++ lib ∷ [] → lib_rule v ≡ None → lib ≡ lib_of v →
    (first : LibList) (vs : List Value) → AreLibsOf first vs old → AreLibsOf first (vs ++ v ∷ []) new
lib_added old new v lib none now grown fits is first vs h = record {
  are = λ no.
      let so_far = h.are no in
      let before : first_lib_fault 0 vs ≡ None = sym so_far.fault_is ∙ none in
      let after : first_lib_fault 0 (vs ++ v ∷ []) ≡ None = lib_fault-push 0 vs v ∙ rw (before, fits) refl in
      record {
        fault_is = now ∙ sym after;
        libs = λ e. grown ∙ ap (λ (t : List Lib). t ++ lib ∷ []) (so_far.libs none) ∙ ap (λ (x : Lib). map lib_of vs ++ x ∷ []) is ∙ sym (map_push lib_of vs v);
      };
}

-- or the rule that it breaks
pub lib_failed : (old new : LibList) (v : Value) (broken : Rule) → old.fault ≡ None → new.fault ≡ Some (record { rule = broken; row = Some (length old.libs.items) }) → lib_rule v ≡ Some broken →
    (first : LibList) (vs : List Value) → AreLibsOf first vs old → AreLibsOf first (vs ++ v ∷ []) new
lib_failed old new v broken none now breaks first vs h = record {
  are = λ no.
      let so_far = h.are no in
      let before : first_lib_fault 0 vs ≡ None = sym so_far.fault_is ∙ none in
      let count : length old.libs.items ≡ length vs = ap (λ (t : List Lib). length t) (so_far.libs none) ∙ length-map vs lib_of in
      let row : 0 + length vs ≡ length vs = omega arith in
      let after : first_lib_fault 0 (vs ++ v ∷ []) ≡ Some (record { rule = broken; row = Some (0 + length vs) }) = lib_fault-push 0 vs v ∙ rw (before, breaks) refl in
      let same : new.fault ≡ first_lib_fault 0 (vs ++ v ∷ []) = now ∙ ap (λ (n : ℕ). let f : Option ListFault = Some (record { rule = broken; row = Some n }) in f) (count ∙ sym row) ∙ sym after in
      record { fault_is = same; libs = λ e. let k : Some (record { rule = broken; row = Some (length old.libs.items) }) ≡ None = sym now ∙ e in cc };
}

-- the libraries of a member that was read
pub libs_array : (vs : Values) (none l : LibList) → IsLibList None none → AreLibsOf none (items vs) l → IsLibList (Some (array vs)) l
libs_array vs none l h k =
    let are = k.are (record { fault_is = h.fault_is; libs = h.libs }) in
    record { fault_is = are.fault_is; libs = are.libs }

behind : (l : LibList) (o : Option ListFault) → l.fault ≡ o → is_some o ≡ true → (v : Value) (first : LibList) (vs : List Value) → AreLibsOf first vs l → AreLibsOf first (vs ++ v ∷ []) l
behind l None e t = cc
behind l (Some f) e t = libs_full l f e

pub libs_behind : (l : LibList) → is_some l.fault ≡ true → (v : Value) (first : LibList) (vs : List Value) → AreLibsOf first vs l → AreLibsOf first (vs ++ v ∷ []) l
libs_behind l t = behind l l.fault refl t
