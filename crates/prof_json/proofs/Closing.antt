-- Numbers behind which a byte is shown, and a bracket that was not opened.
use Rattle.std.proofs.Common.{◌≡◌, ℕ, true, false, List, [], ◌∷◌, length, inl, inr, ◌<◌, refl, ap, ◌∙◌}
use Rattle.std.specs.Prelude.{◌⊎◌, Option, Some, None}
use Rattle.prof_grammar.specs.Event as t
use Rattle.prof_grammar.specs.Event.{Event}
use Rattle.prof_grammar.specs.Machine.{Part, Stage, digits, class, step, finish, give, prefix}
use Rattle.prof_grammar.specs.Reading.{max_depth}
use Rattle.prof_grammar.specs.Told.{depth}
use Rattle.prof_token.specs.Ahead.{Ahead, IsNext, IsShown}
use Rattle.prof_token.specs.Goes.{Goes}
use Rattle.prof_token.specs.Stages.{MayEnd, may_come, no_byte}
use Rattle.prof_token.specs.declared.fault.JsonFault.{JsonFault}
use Rattle.prof_token.specs.declared.fault.JsonFault.TheVariants.{NotJson, TooDeep, NoMemory}
use Rattle.prof_token.proofs.Machines.{goes_full, goes_deep, goes_tells, goes_tells_last, goes_cut, goes_wrong}
use Rattle.prof_json.specs.declared.nesting.Bracket.{Bracket}
use Rattle.prof_json.proofs.Standing.{IsBehind, behind_step, number_over, number_finish, some_of, none_of}

pub number_told : {a : Ahead} {l : Option (List ℕ)} {ps : List Part} (n : Stage) (s : List ℕ) (o : Option ℕ) → IsBehind ps → MayEnd n no_byte o → IsShown o a l → may_come ps o ≡ true → Goes None a l (digits n s ∷ ps) (t.number s ∷ []) a l ps
number_told {ps = ps} n s None h e shown c =
    let f = some_of (finish ps) c in
    goes_tells_last shown f.1 (number_finish n s ps e.ends ∙ ap (give (t.number s ∷ [])) f.1)
number_told {ps = ps} n s (Some b) h e shown c =
    let f = some_of (step ps (class b) b) c in
    goes_tells f.0.0 f.0.1 b shown f.1 (number_over n s ps b (e.over refl) e.ends ∙ ap (prefix (t.number s ∷ [])) f.1) (behind_step h b f.0.0 f.0.1 f.1)

pub number_refused : {f : JsonFault} {a b : Ahead} {l m : Option (List ℕ)} {ps qs : List Part} {es : List Event} (n : Stage) (s : List ℕ) (o : Option ℕ) → MayEnd n no_byte o → IsShown o a l → may_come ps o ≡ false → f ≡ NotJson a.place → Goes (Some f) a l (digits n s ∷ ps) es b m qs
number_refused {ps = ps} n s None e shown c w = goes_cut shown (number_finish n s ps e.ends ∙ ap (give (t.number s ∷ [])) (none_of (finish ps) c)) w
number_refused {ps = ps} n s (Some b) e shown c w = goes_wrong b shown (number_over n s ps b (e.over refl) e.ends ∙ ap (prefix (t.number s ∷ [])) (none_of (step ps (class b) b) c)) w

-- a bracket that was not opened
pub unopened : {f : JsonFault} {a b : Ahead} {l m : Option (List ℕ)} {ps qs rs : List Part} {es fs : List Event} {x : ℕ} (xs : List Bracket) → IsNext x a → step ps (class x) x ≡ Some (fs, rs) → (length xs ≡ 256 → max_depth < depth rs) →
    ((f ≡ NoMemory) ⊎ ((f ≡ TooDeep a.place) × (length xs ≡ 256))) → Goes (Some f) a l ps es b m qs
unopened xs n s d (inl e) = goes_full e
unopened {rs = rs} {fs = fs} {x} xs n s d (inr e) = goes_deep x rs fs n s (d e.1) e.0
