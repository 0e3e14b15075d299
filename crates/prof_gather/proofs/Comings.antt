-- Events that come one after another.
use Rattle.std.proofs.Common.{◌≡◌, List, [], ◌∷◌, ◌++◌, refl, sym, ap, subst, ◌∙◌, append_assoc, append-nil}
use Rattle.std.specs.Prelude.{Option, Some, None}
use Rattle.prof_grammar.specs.Event.{Event}
use Rattle.prof_grammar.specs.Told.{Reading, tell, stop}
use Rattle.prof_gather.specs.Reading.{Comes}

abbrev told_after : (es : List Event) (r : Reading) → Reading
told_after es r = record { events = es; ending = r.ending }

pub tell-append : (es fs : List Event) (r : Reading) → tell es (tell fs r) ≡ tell (es ++ fs) r
tell-append es fs r = ap (λ x. told_after x r) (sym (append_assoc es fs r.events))

pub comes_here : (a : Option Reading) → Comes a [] a
comes_here None = tt
comes_here (Some r) = refl

pub comes_trans : (a b c : Option Reading) (es fs : List Event) → Comes a es b → Comes b fs c → Comes a (es ++ fs) c
comes_trans None b c es fs p q = tt
comes_trans (Some r) None c es fs p q = absurd p
comes_trans (Some r) (Some s) None es fs p q = absurd q
comes_trans (Some r) (Some s) (Some t) es fs p q = p ∙ (ap (tell es) q ∙ tell-append es fs t)

pub comes_as : (a b : Option Reading) (es fs : List Event) → es ≡ fs → Comes a es b → Comes a fs b
comes_as a b es fs e p = subst (λ x. Comes a x b) e p
