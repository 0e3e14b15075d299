-- Readings that go on.
use Rattle.std.proofs.Common.{◌≡◌, ℕ, ◌+◌, ◌<◌, ◌≤◌, Bool, true, false, suc, List, [], ◌∷◌, ◌++◌, length, take, drop, refl, sym, ap, ◌∙◌, arith}
use Rattle.std.specs.Prelude.{Option, Some, None, nat_lt, ◌==◌}
use Rattle.std.proofs.lemmas.Bool.Decides.{nat_tests}
use Rattle.std.proofs.lemmas.List.{append_assoc, append-nil, take-append-drop, length-take}
use Rattle.std.proofs.Common.{add-zero}
use Rattle.prof_grammar.specs.Event.{Event}
use Rattle.prof_grammar.specs.Machine.{Part, class, step, finish}
use Rattle.prof_grammar.specs.Reading.{Ending, finished, not_json, too_deep, too_long, max_depth}
use Rattle.prof_grammar.specs.Told.{Reading, reading, tell, stop, depth, at_end}
use Rattle.prof_token.specs.Ahead.{Ahead, IsNext, IsSame, IsShown, Passes}
use Rattle.prof_token.specs.Bytes.{Each, none, more}
use Rattle.prof_token.specs.Goes.{Goes, Answers, Stops, IsEndedBy, HasEnding, IsFaultOf, rest_of}
use Rattle.prof_token.specs.declared.fault.JsonFault.{JsonFault}
use Rattle.prof_token.specs.declared.fault.JsonFault.TheVariants.{NotJson, TooDeep, TooLong, ReadFault, NoMemory}

-- ---- one byte

reading_long : (limit at : ℕ) (ps : List Part) (b : ℕ) (bs : List ℕ) → at ≡ limit → reading limit at ps (b ∷ bs) ≡ stop too_long
unfolding reading
reading_long limit at ps b bs h =
    let e : (at == limit) ≡ true = grind (arith, nat_tests) in rw e

pub reading_step : (limit at : ℕ) (ps qs : List Part) (es : List Event) (b : ℕ) (bs : List ℕ) → at < limit → step ps (class b) b ≡ Some (es, qs) → depth qs ≤ max_depth →
    reading limit at ps (b ∷ bs) ≡ tell es (reading limit (at + 1) qs bs)
unfolding reading
reading_step limit at ps qs es b bs room s d =
    let e : (at == limit) ≡ false = grind (arith, nat_tests) in
    let f : nat_lt max_depth (depth qs) ≡ false = grind (arith, nat_tests) in
    rw (e, s, f)

reading_wrong : (limit at : ℕ) (ps : List Part) (b : ℕ) (bs : List ℕ) → at < limit → step ps (class b) b ≡ None → reading limit at ps (b ∷ bs) ≡ stop (not_json at)
unfolding reading
reading_wrong limit at ps b bs room s =
    let e : (at == limit) ≡ false = grind (arith, nat_tests) in rw (e, s)

reading_deep : (limit at : ℕ) (ps qs : List Part) (es : List Event) (b : ℕ) (bs : List ℕ) → at < limit → step ps (class b) b ≡ Some (es, qs) → max_depth < depth qs →
    reading limit at ps (b ∷ bs) ≡ stop (too_deep at)
unfolding reading
reading_deep limit at ps qs es b bs room s d =
    let e : (at == limit) ≡ false = grind (arith, nat_tests) in
    let f : nat_lt max_depth (depth qs) ≡ true = grind (arith, nat_tests) in
    rw (e, s, f)

reading_as : (limit at : ℕ) (ps qs : List Part) (b : ℕ) (bs : List ℕ) → step ps (class b) b ≡ step qs (class b) b → reading limit at ps (b ∷ bs) ≡ reading limit at qs (b ∷ bs)
unfolding reading
reading_as limit at ps qs b bs e = rw e

reading_ended : (limit at : ℕ) (ps qs : List Part) → finish ps ≡ finish qs → reading limit at ps [] ≡ reading limit at qs []
unfolding reading
reading_ended limit at ps qs e = ap (at_end at) e

reading_end : (limit at : ℕ) (ps : List Part) → finish ps ≡ None → reading limit at ps [] ≡ stop (not_json at)
unfolding reading
reading_end limit at ps s = ap (at_end at) s

reading_finish : (limit at : ℕ) (ps : List Part) (es : List Event) → finish ps ≡ Some es → reading limit at ps [] ≡ record { events = es; ending = finished }
unfolding reading
reading_finish limit at ps es s = ap (at_end at) s

-- ---- states of a window

rest_same : (a b : Ahead) (l m : List ℕ) (ps : List Part) → a.bytes ++ l ≡ b.bytes ++ m → b.place ≡ a.place → b.limit ≡ a.limit → rest_of a ps l ≡ rest_of b ps m
rest_same a b l m ps e p q = cc

rest_at : (a : Ahead) (l : List ℕ) (ps : List Part) (x : ℕ) (rest : List ℕ) → a.bytes ≡ x ∷ rest → rest_of a ps l ≡ reading a.limit a.place ps (x ∷ (rest ++ l))
rest_at a l ps x rest e = ap (λ bs. reading a.limit a.place ps (bs ++ l)) e

stops_trans : (e : Ending) (a b : Ahead) (l m : Option (List ℕ)) (ps qs : List Part) → Answers None a l ps [] b m qs → Stops e b m qs → Stops e a l ps
stops_trans e a b None m ps qs h k = tt
stops_trans e a b (Some l) None ps qs h k = absurd h
stops_trans e a b (Some l) (Some m) ps qs h k = h ∙ ap (tell []) k

ended_trans : (f : JsonFault) (a b : Ahead) (l m : Option (List ℕ)) (ps qs : List Part) → Answers None a l ps [] b m qs → IsEndedBy f b m qs → IsEndedBy f a l ps
ended_trans (NotJson at) a b l m ps qs h k = stops_trans _ a b l m ps qs h k
ended_trans (TooDeep at) a b l m ps qs h k = stops_trans _ a b l m ps qs h k
ended_trans TooLong a b l m ps qs h k = stops_trans _ a b l m ps qs h k
ended_trans ReadFault a b l m ps qs h k = tt
ended_trans NoMemory a b l m ps qs h k = tt

pub told_trans : (a b c : Ahead) (l m n : Option (List ℕ)) (ps qs rs : List Part) (es fs : List Event) → Answers None a l ps es b m qs → Answers None b m qs fs c n rs → Answers None a l ps (es ++ fs) c n rs
told_trans a b c None m n ps qs rs es fs h k = tt
told_trans a b c (Some l) None n ps qs rs es fs h k = absurd h
told_trans a b c (Some l) (Some m) None ps qs rs es fs h k = absurd k
told_trans a b c (Some l) (Some m) (Some n) ps qs rs es fs h k = h ∙ ap (tell es) k ∙ ap (λ x. tell_of x (rest_of c rs n)) (sym (append_assoc es fs (rest_of c rs n).events))
  where
    tell_of : List Event → Reading → Reading
    tell_of x r = record { events = x; ending = r.ending }

pub goes_trans : {o : Option JsonFault} {a b c : Ahead} {l m n : Option (List ℕ)} {ps qs rs : List Part} {fs : List Event} → Goes None a l ps [] b m qs → Goes o b m qs fs c n rs → Goes o a l ps fs c n rs
goes_trans {o = None} {a} {b} {c} {l} {m} {n} {ps} {qs} {rs} {fs} h k = record { is = told_trans a b c l m n ps qs rs [] fs h.is k.is }
goes_trans {o = Some f} {a} {b} {c} {l} {m} {n} {ps} {qs} {rs} {fs} h k = record { is = ended_trans f a b l m ps qs h.is k.is }

-- events, and then more
pub goes_more : {a b c : Ahead} {l m n : Option (List ℕ)} {ps qs rs : List Part} {es fs : List Event} → Goes None a l ps es b m qs → Goes None b m qs fs c n rs → Goes None a l ps (es ++ fs) c n rs
goes_more {a} {b} {c} {l} {m} {n} {ps} {qs} {rs} {es} {fs} h k = record { is = told_trans a b c l m n ps qs rs es fs h.is k.is }

has_ending : (e : Ending) (a b : Ahead) (l m : Option (List ℕ)) (ps qs : List Part) (es : List Event) → Answers None a l ps es b m qs → Stops e b m qs → HasEnding e a l ps
has_ending e a b None m ps qs es h k = tt
has_ending e a b (Some l) None ps qs es h k = absurd h
has_ending e a b (Some l) (Some m) ps qs es h k = ap (λ (r : Reading). r.ending) (h ∙ ap (tell es) k)

-- events, and then a fault
pub fails_behind : {f : JsonFault} {a b c : Ahead} {l m n : Option (List ℕ)} {ps qs rs : List Part} {es fs : List Event} → Goes None a l ps es b m qs → Goes (Some f) b m qs fs c n rs → IsFaultOf f a l ps
fails_behind {f} {a} {b} {c} {l} {m} {n} {ps} {qs} {rs} {es} {fs} h k = go f k.is
  where
    go : (f : JsonFault) → IsEndedBy f b m qs → IsFaultOf f a l ps
    go (NotJson at) k = has_ending (not_json at) a b l m ps qs es h.is k
    go (TooDeep at) k = has_ending (too_deep at) a b l m ps qs es h.is k
    go TooLong k = has_ending too_long a b l m ps qs es h.is k
    go ReadFault k = tt
    go NoMemory k = tt

-- a fault says nothing of what comes behind it
pub goes_as : {f : JsonFault} {a b c : Ahead} {l m n : Option (List ℕ)} {ps qs rs : List Part} {es fs : List Event} → Goes (Some f) a l ps es b m qs → Goes (Some f) a l ps fs c n rs
goes_as h = record { is = h.is }

pub goes_same : {a b : Ahead} {l m : Option (List ℕ)} (ps : List Part) → IsSame a l b m → Goes None a l ps [] b m ps
goes_same {a} {b} {l} {m} ps s = record { is = go l m s }
  where
    go : (l m : Option (List ℕ)) → IsSame a l b m → Answers None a l ps [] b m ps
    go None m s = tt
    go (Some l) None s = s.bytes
    go (Some l) (Some m) s = rest_same a b l m ps s.bytes s.place s.limit

pub goes_here : (a : Ahead) (l : Option (List ℕ)) (ps : List Part) → Goes None a l ps [] a l ps
goes_here a l ps = record { is = go l }
  where
    go : (l : Option (List ℕ)) → Answers None a l ps [] a l ps
    go None = tt
    go (Some l) = refl

-- the byte that is shown was passed
pub goes_byte : {a b : Ahead} {l : Option (List ℕ)} {ps qs : List Part} {es : List Event} (x : ℕ) → IsNext x a → Passes 1 a b → step ps (class x) x ≡ Some (es, qs) → depth qs ≤ max_depth → Goes None a l ps es b l qs
goes_byte {a} {b} {l} {ps} {qs} {es} x n p s d = record { is = go l }
  where
    go : (l : Option (List ℕ)) → Answers None a l ps es b l qs
    go None = tt
    go (Some l) =
        let bytes : b.bytes ≡ n.rest = p.bytes ∙ ap (drop 1) n.bytes in
        let at = p.place in
        let limit = p.limit in
        let same : reading a.limit (a.place + 1) qs (n.rest ++ l) ≡ rest_of b qs l = cc in
        rest_at a l ps x n.rest n.bytes ∙ reading_step a.limit a.place ps qs es x (n.rest ++ l) n.room s d ∙ ap (tell es) same

-- the byte that is shown can't stand there
pub goes_wrong : {f : JsonFault} {a b : Ahead} {l m : Option (List ℕ)} {ps qs : List Part} {es : List Event} (x : ℕ) → IsNext x a → step ps (class x) x ≡ None → f ≡ NotJson a.place → Goes (Some f) a l ps es b m qs
goes_wrong {f} {a} {b} {l} {m} {ps} {qs} {es} x n s e = rw e (record { is = go l })
  where
    go : (l : Option (List ℕ)) → Stops (not_json a.place) a l ps
    go None = tt
    go (Some l) = rest_at a l ps x n.rest n.bytes ∙ reading_wrong a.limit a.place ps x (n.rest ++ l) n.room s

-- the byte that is shown is a bracket too many
pub goes_deep : {f : JsonFault} {a b : Ahead} {l m : Option (List ℕ)} {ps qs : List Part} {es : List Event} (x : ℕ) (rs : List Part) (fs : List Event) → IsNext x a → step ps (class x) x ≡ Some (fs, rs) → max_depth < depth rs → f ≡ TooDeep a.place →
    Goes (Some f) a l ps es b m qs
goes_deep {f} {a} {b} {l} {m} {ps} {qs} {es} x rs fs n s d e = rw e (record { is = go l })
  where
    go : (l : Option (List ℕ)) → Stops (too_deep a.place) a l ps
    go None = tt
    go (Some l) = rest_at a l ps x n.rest n.bytes ∙ reading_deep a.limit a.place ps rs fs x (n.rest ++ l) n.room s d

-- the text ends, where it can't
pub goes_cut : {f : JsonFault} {a b : Ahead} {l m : Option (List ℕ)} {ps qs : List Part} {es : List Event} → IsShown None a l → finish ps ≡ None → f ≡ NotJson a.place → Goes (Some f) a l ps es b m qs
goes_cut {f} {a} {b} {l} {m} {ps} {qs} {es} n s e = rw e (record { is = go l n })
  where
    go : (l : Option (List ℕ)) → IsShown None a l → Stops (not_json a.place) a l ps
    go None n = tt
    go (Some l) n =
        let nothing : a.bytes ++ l ≡ [] = rw (n.0, n.1) in
        ap (reading a.limit a.place ps) nothing ∙ reading_end a.limit a.place ps s

pub goes_full : {f : JsonFault} {a b : Ahead} {l m : Option (List ℕ)} {ps qs : List Part} {es : List Event} → f ≡ NoMemory → Goes (Some f) a l ps es b m qs
goes_full {f} {a} {b} {l} {m} {ps} {qs} {es} e = rw e (record { is = tt })

pub goes_unread : {a b : Ahead} {l m : Option (List ℕ)} {ps qs : List Part} {es : List Event} → Goes (Some ReadFault) a l ps es b m qs
goes_unread = record { is = tt }

-- the byte that is shown is nothing to the first part
pub goes_over : {a : Ahead} {l : Option (List ℕ)} {ps qs : List Part} (x : ℕ) → IsNext x a → step ps (class x) x ≡ step qs (class x) x → Goes None a l ps [] a l qs
goes_over {a} {l} {ps} {qs} x n e = record { is = go l }
  where
    go : (l : Option (List ℕ)) → Answers None a l ps [] a l qs
    go None = tt
    go (Some l) = rest_at a l ps x n.rest n.bytes ∙ reading_as a.limit a.place ps qs x (n.rest ++ l) e ∙ sym (rest_at a l qs x n.rest n.bytes)

-- the text ends, and so it does without the first part
pub goes_ended : {a : Ahead} {l : Option (List ℕ)} {ps qs : List Part} → IsShown None a l → finish ps ≡ finish qs → Goes None a l ps [] a l qs
goes_ended {a} {l} {ps} {qs} n e = record { is = go l n }
  where
    go : (l : Option (List ℕ)) → IsShown None a l → Answers None a l ps [] a l qs
    go None n = tt
    go (Some l) n =
        let left : a.bytes ++ l ≡ [] = rw (n.0, n.1) in
        ap (reading a.limit a.place ps) left ∙ reading_ended a.limit a.place ps qs e ∙ sym (ap (reading a.limit a.place qs) left)

-- An event is told before the byte that is shown, which goes on as it would without it.
pub goes_tells : {a : Ahead} {l : Option (List ℕ)} {ps qs : List Part} {e : Event} (es : List Event) (rs : List Part) (x : ℕ) → IsNext x a → step qs (class x) x ≡ Some (es, rs) → step ps (class x) x ≡ Some (e ∷ es, rs) → depth rs ≤ max_depth → Goes None a l ps (e ∷ []) a l qs
goes_tells {a} {l} {ps} {qs} {e} es rs x n s t d = record { is = go l }
  where
    go : (l : Option (List ℕ)) → Answers None a l ps (e ∷ []) a l qs
    go None = tt
    go (Some l) =
        rest_at a l ps x n.rest n.bytes ∙ reading_step a.limit a.place ps rs (e ∷ es) x (n.rest ++ l) n.room t d
        ∙ sym (ap (tell (e ∷ [])) (rest_at a l qs x n.rest n.bytes ∙ reading_step a.limit a.place qs rs es x (n.rest ++ l) n.room s d))

-- An event is told at the end of the text.
pub goes_tells_last : {a : Ahead} {l : Option (List ℕ)} {ps qs : List Part} {e : Event} {es : List Event} → IsShown None a l → finish qs ≡ Some es → finish ps ≡ Some (e ∷ es) → Goes None a l ps (e ∷ []) a l qs
goes_tells_last {a} {l} {ps} {qs} {e} {es} n s t = record { is = go l n }
  where
    go : (l : Option (List ℕ)) → IsShown None a l → Answers None a l ps (e ∷ []) a l qs
    go None n = tt
    go (Some l) n =
        let left : a.bytes ++ l ≡ [] = rw (n.0, n.1) in
        ap (reading a.limit a.place ps) left ∙ reading_finish a.limit a.place ps (e ∷ es) t
        ∙ sym (ap (tell (e ∷ [])) (ap (reading a.limit a.place qs) left ∙ reading_finish a.limit a.place qs es s))

-- the reading is over where the text ends
pub stops_finished : (a : Ahead) (l : Option (List ℕ)) (ps : List Part) → IsShown None a l → finish ps ≡ Some [] → Stops finished a l ps
stops_finished a l ps n s = go l n
  where
    go : (l : Option (List ℕ)) → IsShown None a l → Stops finished a l ps
    go None n = tt
    go (Some l) n =
        let left : a.bytes ++ l ≡ [] = rw (n.0, n.1) in
        ap (reading a.limit a.place ps) left ∙ reading_finish a.limit a.place ps [] s

pub stops_behind : (e : Ending) {a b : Ahead} {l m : Option (List ℕ)} {ps qs : List Part} → Goes None a l ps [] b m qs → Stops e b m qs → Stops e a l ps
stops_behind e {a} {b} {l} {m} {ps} {qs} g k = stops_trans e a b l m ps qs g.is k

-- a byte stands at the limit
pub goes_long : {a b c : Ahead} {l m n : Option (List ℕ)} {ps qs : List Part} {es : List Event} (x : ℕ) (rest : List ℕ) → IsSame a l b m → b.bytes ≡ x ∷ rest → b.place ≡ b.limit → Goes (Some TooLong) a l ps es c n qs
goes_long {a} {b} {c} {l} {m} {n} {ps} {qs} {es} x rest s e h = record { is = go l m s }
  where
    go : (l m : Option (List ℕ)) → IsSame a l b m → Stops too_long a l ps
    go None m s = tt
    go (Some l) None s = absurd s.bytes
    go (Some l) (Some m) s = rest_same a b l m ps s.bytes s.place s.limit ∙ rest_at b m ps x rest e ∙ reading_long b.limit b.place ps x (rest ++ m) h

-- ---- runs of bytes that leave the same parts to come, but for what was read

pub reading_run : {test : ℕ → Bool} {run : List ℕ} → Each test run → (Q : List ℕ → List Part) → ((s : List ℕ) (b : ℕ) → test b ≡ true → step (Q s) (class b) b ≡ Some ([], Q (s ++ b ∷ []))) → ((s : List ℕ) → depth (Q s) ≤ max_depth) →
    (limit at : ℕ) (s r : List ℕ) → at + length run ≤ limit → reading limit at (Q s) (run ++ r) ≡ reading limit (at + length run) (Q (s ++ run)) r
reading_run none Q f d limit at s r h = rw (append-nil s, add-zero)
reading_run (more {b} {bs} p a) Q f d limit at s r h =
    let room : at < limit = omega arith in
    let rest : at + 1 + length bs ≤ limit = omega arith in
    let place : at + 1 + length bs ≡ at + suc (length bs) = omega arith in
    reading_step limit at (Q s) (Q (s ++ b ∷ [])) [] b (bs ++ r) room (f s b p) (d (s ++ b ∷ []))
    ∙ reading_run a Q f d limit (at + 1) (s ++ b ∷ []) r rest
    ∙ ap (λ n. reading limit n (Q ((s ++ b ∷ []) ++ bs)) r) place
    ∙ ap (λ x. reading limit (at + suc (length bs)) (Q x) r) (append_assoc s (b ∷ []) bs)

pub goes_run : {test : ℕ → Bool} {a b : Ahead} {l : Option (List ℕ)} (Q : List ℕ → List Part) (s run : List ℕ) (n : ℕ) → ((s : List ℕ) (b : ℕ) → test b ≡ true → step (Q s) (class b) b ≡ Some ([], Q (s ++ b ∷ []))) → ((s : List ℕ) → depth (Q s) ≤ max_depth) →
    Each test run → run ≡ take n a.bytes → Passes n a b → Goes None a l (Q s) [] b l (Q (s ++ run))
goes_run {test} {a} {b} {l} Q s run n f d e t p = record { is = go l }
  where
    go : (l : Option (List ℕ)) → Answers None a l (Q s) [] b l (Q (s ++ run))
    go None = tt
    go (Some l) =
        let here = p.here in
        let within = p.within in
        let at = p.place in
        let limit = p.limit in
        let bytes = p.bytes in
        let len : length run ≡ n = rw t (simp length-take (omega arith)) in
        let split : a.bytes ≡ run ++ drop n a.bytes = sym (take-append-drop n a.bytes) ∙ ap (λ x. x ++ drop n a.bytes) (sym t) in
        let room : a.place + length run ≤ a.limit = omega arith in
        let place : a.place + length run ≡ b.place = omega arith in
        let same : reading a.limit (a.place + length run) (Q (s ++ run)) (drop n a.bytes ++ l) ≡ rest_of b (Q (s ++ run)) l = cc in
        ap (λ x. reading a.limit a.place (Q s) (x ++ l)) split ∙ ap (reading a.limit a.place (Q s)) (append_assoc run (drop n a.bytes) l) ∙ reading_run e Q f d a.limit a.place s (drop n a.bytes ++ l) room ∙ same
