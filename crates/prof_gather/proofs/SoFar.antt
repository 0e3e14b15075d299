-- What was read of a text so far.
use Rattle.std.proofs.Common.{◌≡◌, ℕ, List, [], ◌∷◌, ◌++◌, refl, sym, ap, subst, ◌∙◌}
use Rattle.std.specs.Prelude.{Option, Some, None, IfSome}
use Rattle.prof_grammar.specs.Event as told
use Rattle.prof_grammar.specs.Machine.{start}
use Rattle.prof_grammar.specs.Reading.{Ending, finished, not_json, too_deep, too_long}
use Rattle.prof_grammar.specs.Told.{Reading, reading, tell, stop}
use Rattle.prof_token.specs.Ahead.{Knows}
use Rattle.prof_json.specs.Position.{Position}
use Rattle.prof_json.specs.Tells.{rest, Tells, FailsBy}
use Rattle.prof_json.specs.Tells as reader
use Rattle.prof_token.specs.declared.fault.JsonFault.{JsonFault}
use Rattle.prof_token.specs.declared.fault.JsonFault.TheVariants.{NotJson, TooDeep, TooLong, ReadFault, NoMemory}
use Rattle.prof_grammar.specs.declared.TheConstants.{LONGEST}
use Rattle.prof_gather.specs.Reading.{rest_of, Comes, Ends, IsEnding, IsSoFar, EndsBy, IsOfReading}
use Rattle.prof_gather.proofs.Comings.{tell-append}

-- what comes next, as the reader tells it
pub comes_of : (p q : Position) (left left' : Option (List ℕ)) (es : List told.Event) → Tells p left es q left' → Comes (rest_of p left) es (rest_of q left')
comes_of p q None left' es t = tt
comes_of p q (Some l) None es t = absurd t
comes_of p q (Some l) (Some m) es t = t

more : (p q : Position) (text left left' : Option (List ℕ)) (es : List told.Event) → IsSoFar text p left → Tells p left es q left' → IsSoFar text q left'
more p q None left left' es s t = tt
more p q (Some b) None left' es s t = absurd s
more p q (Some b) (Some l) None es s t = absurd t
more p q (Some b) (Some l) (Some m) es s t = (s.0 ++ es, s.1 ∙ (ap (tell s.0) t ∙ tell-append s.0 es (rest q m)))

sound : (o : Option JsonFault) (text left : Option (List ℕ)) (p : Position) → o ≡ None → IsOfReading o text p left → IsSoFar text p left
sound None text left p e s = s
sound (Some f) text left p e s = absurd (cc)

-- the events that were told belong to what was read
pub so_far_more : (p q : Position) (text left left' : Option (List ℕ)) (es : List told.Event) → p.fault ≡ None → q.fault ≡ None → IsOfReading p.fault text p left → Tells p left es q left' → IsOfReading q.fault text q left'
so_far_more p q text left left' es first none s t = subst (λ o. IsOfReading o text q left') (sym none) (more p q text left left' es (sound p.fault text left p first s) t)

-- how the text's reading ends, by what is still to be read
ending_on : (p : Position) (b l : List ℕ) (es : List told.Event) → reading LONGEST 0 start b ≡ tell es (rest p l) → (reading LONGEST 0 start b).ending ≡ (rest p l).ending
ending_on p b l es e = ap (λ (r : Reading). r.ending) e

fails : (f : JsonFault) (p : Position) (text left : Option (List ℕ)) → IsSoFar text p left → FailsBy f p left → EndsBy f text
fails f p None left s h = tt
fails f p (Some b) None s h = absurd s
fails (NotJson at) p (Some b) (Some l) s h = ending_on p b l s.0 s.1 ∙ h
fails (TooDeep at) p (Some b) (Some l) s h = ending_on p b l s.0 s.1 ∙ h
fails TooLong p (Some b) (Some l) s h = ending_on p b l s.0 s.1 ∙ h
fails ReadFault p (Some b) (Some l) s h = tt
fails NoMemory p (Some b) (Some l) s h = tt

-- the fault is that of the text
pub ends_by : (p : Position) (f : JsonFault) (text left : Option (List ℕ)) → IsOfReading p.fault text p left → IfSome p.fault (λ g. f ≡ g) → (p.fault ≡ None → FailsBy f p left) → EndsBy f text
ends_by p f text left s a h = go p.fault s a h
  where
    go : (o : Option JsonFault) → IsOfReading o text p left → IfSome o (λ g. f ≡ g) → (o ≡ None → FailsBy f p left) → EndsBy f text
    go None s a h = fails f p text left s (h refl)
    go (Some g) s a h = subst (λ x. EndsBy x text) (sym a) s

-- a reading that stops here ends so
pub fails_here : (f : JsonFault) (p : Position) (left : Option (List ℕ)) → reader.EndsBy f p left → FailsBy f p left
fails_here (NotJson at) p None h = tt
fails_here (NotJson at) p (Some l) h = ap (λ (r : Reading). r.ending) h
fails_here (TooDeep at) p None h = tt
fails_here (TooDeep at) p (Some l) h = ap (λ (r : Reading). r.ending) h
fails_here TooLong p None h = tt
fails_here TooLong p (Some l) h = ap (λ (r : Reading). r.ending) h
fails_here ReadFault p left h = tt
fails_here NoMemory p left h = tt

pub ends_of : (p : Position) (left : Option (List ℕ)) → reader.Ends finished p left → Ends (rest_of p left)
ends_of p None h = tt
ends_of p (Some l) h = h
