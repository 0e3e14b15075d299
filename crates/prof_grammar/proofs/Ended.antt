-- The reading of a text by the machine is a reading by the grammar.
use Rattle.std.proofs.Common.{◌≡◌, ℕ, ◌+◌, ◌<◌, ◌≤◌, Bool, true, false, cond, List, [], ◌∷◌, ◌++◌, length, refl, sym, subst, ap, ◌∙◌, arith}
use Rattle.std.specs.Prelude.{Option, Some, None, IsSome, ◌==◌, nat_lt}
use Rattle.std.proofs.lemmas.Bool.Decides.{nat_tests}
use Rattle.std.proofs.lemmas.List.{append-nil, append_assoc, length-append}
use Rattle.prof_grammar.specs.Event.{Event, number}
use Rattle.prof_grammar.specs.Grammar.{IsJson}
use Rattle.prof_grammar.specs.Machine.{Part, Class, Next, class, step, run, feed, finish, start, prefix, give, and_feed}
use Rattle.prof_grammar.specs.Machine as m
use Rattle.prof_grammar.specs.Told.{Reading, reading, stop, tell, at_end, go_on, depth}
use Rattle.prof_grammar.specs.Reading.{max_depth, too_deep, too_long, NestsWithin, BeginsShallow, IsSoundFront, IsReading, whole, cut, wrong, deep, long}
use Rattle.prof_grammar.proofs.Sound.{Ended, run_sound}
use Rattle.prof_grammar.proofs.Complete.{and_run, json_run}
use Rattle.prof_grammar.proofs.Begins.{Fed, fed, run_feed, completed, json_from, begins}
use Rattle.prof_grammar.proofs.Further.{most}
use Rattle.prof_grammar.proofs.Depth.{opened, opened_join, nests_join, nests_open, Keeps, keeps, completed_nests}

pub prefix_nil : (r : Next) → prefix [] r ≡ r
prefix_nil None = refl
prefix_nil (Some n) = refl

pub prefix_prefix : (es fs : List Event) (r : Next) → prefix es (prefix fs r) ≡ prefix (es ++ fs) r
prefix_prefix es fs None = refl
prefix_prefix es fs (Some n) = ap (λ x. Some (x, n.1)) (sym (append_assoc es fs n.0))

pub and_feed-prefix : (ys : List ℕ) (es : List Event) (r : Next) → and_feed ys (prefix es r) ≡ prefix es (and_feed ys r)
and_feed-prefix ys es None = refl
and_feed-prefix ys es (Some n) = sym (prefix_prefix es n.0 (feed n.1 ys))

pub feed_join : (xs ys : List ℕ) (ps : List Part) → feed ps (xs ++ ys) ≡ and_feed ys (feed ps xs)
unfolding feed
feed_join [] ys ps = sym (prefix_nil (feed ps ys))
feed_join (x ∷ xs) ys ps = go (step ps (class x) x) (feed_join xs ys)
  where
    go : (r : Next) → ((qs : List Part) → feed qs (xs ++ ys) ≡ and_feed ys (feed qs xs)) → and_feed (xs ++ ys) r ≡ and_feed ys (and_feed xs r)
    go None h = refl
    go (Some n) h = ap (prefix n.0) (h n.1) ∙ sym (and_feed-prefix ys n.0 (feed n.1 xs))

feed_byte : (front : List ℕ) (b : ℕ) (es : List Event) (ps : List Part) (r : Next) → feed start front ≡ Some (es, ps) → step ps (class b) b ≡ r → feed start (front ++ b ∷ []) ≡ prefix es (and_feed [] r)
unfolding feed
feed_byte front b es ps r e s = feed_join front (b ∷ []) start ∙ ap (and_feed (b ∷ [])) e ∙ ap (λ x. prefix es (and_feed [] x)) s

feed_taken : (front : List ℕ) (b : ℕ) (es : List Event) (ps : List Part) (n : List Event × List Part) → feed start front ≡ Some (es, ps) → step ps (class b) b ≡ Some n → feed start (front ++ b ∷ []) ≡ Some (es ++ n.0, n.1)
unfolding feed
feed_taken front b es ps n e s = feed_byte front b es ps (Some n) e s ∙ ap (λ x. Some (es ++ x, n.1)) (append-nil n.0)

give_some : (es all : List Event) (r : Option (List Event)) → give es r ≡ Some all → (others : List Event) × (all ≡ es ++ others)
give_some es all None e = absurd cc
give_some es all (Some fs) e = (fs, cc)

ran : (front more : List ℕ) (es : List Event) (ps : List Part) → feed start front ≡ Some (es, ps) → run start (front ++ more) ≡ give es (run ps more)
ran front more es ps e = run_feed front more start ∙ ap (and_run more) e

told_first : (front more : List ℕ) (es all : List Event) (ps : List Part) → feed start front ≡ Some (es, ps) → IsJson (front ++ more) all → (others : List Event) × (all ≡ es ++ others)
told_first front more es all ps e j = give_some es all (run ps more) (sym (ran front more es ps e) ∙ json_run j)

sound_front : (limit : ℕ) (front : List ℕ) (es : List Event) (ps : List Part) → feed start front ≡ Some (es, ps) → NestsWithin max_depth 0 es → length front ≤ limit → IsSoundFront limit front es
sound_front limit front es ps e n l =
    let x = completed ps in
    let f : Fed start front (Some (es, ps)) = subst (Fed start front) e (fed front start) in
    record {
      within = l;
      begins = (x.0, es ++ x.1, record { json = json_from (front ++ x.0) (es ++ x.1) (f x.0 x.1 x.2); depth = nests_join max_depth 0 es x.1 n (completed_nests ps (opened 0 es)) });
      told = λ more all j. told_first front more es all ps e j;
      most = λ fs h. most front es ps e fs h;
    }

-- the end of a text tells no bracket
abbrev EndNests : Option (List Event) → Type 0
EndNests None = Unit {0}
EndNests (Some fs) = (k : ℕ) → NestsWithin max_depth k fs

end_behind : (s : List ℕ) (r : Option (List Event)) → EndNests r → EndNests (give (number s ∷ []) r)
end_behind s None h = tt
end_behind s (Some fs) h = h

end_digits : (u : Bool) (s : List ℕ) (r : Option (List Event)) → EndNests r → EndNests (cond u (give (number s ∷ []) r) None)
end_digits true s r h = end_behind s r h
end_digits false s r h = tt

end_nests : (ps : List Part) → EndNests (finish ps)
unfolding finish
end_nests [] = λ k. tt
end_nests (m.mark ∷ ps) = end_nests ps
end_nests (m.blank ∷ ps) = end_nests ps
end_nests (m.symbol x ∷ ps) = tt
end_nests (m.word cs w ∷ ps) = tt
end_nests (m.digits n s ∷ ps) = end_digits (m.may_end n) s (finish ps) (end_nests ps)
end_nests (m.chars k s p g ∷ ps) = tt

pub json_of_run : (t : List ℕ) (es : List Event) → run start t ≡ Some es → IsJson t es
json_of_run t es e = json_from t es (subst (Ended start t) e (run_sound t start))

-- what is known of the machine behind the front
record Stands (limit : ℕ) (front : List ℕ) (es : List Event) (ps : List Part) (at : ℕ) : Type 0 where
  fed : feed start front ≡ Some (es, ps)
  nests : NestsWithin max_depth 0 es
  open_is : opened 0 es ≡ depth ps
  place : at ≡ length front
  within : at ≤ limit

front_of : (limit : ℕ) (front : List ℕ) (es : List Event) (ps : List Part) (at : ℕ) → Stands limit front es ps at → IsSoundFront limit front es
front_of limit front es ps at h = let p = h.place in let w = h.within in sound_front limit front es ps h.fed h.nests (omega arith)

Reads : ℕ → List ℕ → List Event → Reading → Type 0
Reads limit text es r = IsReading limit text (es ++ r.events) r.ending

at_the_end : (limit : ℕ) (front : List ℕ) (es : List Event) (ps : List Part) (at : ℕ) → Stands limit front es ps at → (r : Option (List Event)) → finish ps ≡ r → EndNests r → Reads limit front es (at_end at r)
unfolding Reads run
at_the_end limit front es ps at h None e n =
    let ended : run start front ≡ None = ap (run start) (sym (append-nil front)) ∙ ran front [] es ps h.fed ∙ ap (give es) e in
    rw (append-nil es, h.place) (cut (front_of limit front es ps at h) (λ all j. let x = json_run j in cc))
at_the_end limit front es ps at h (Some fs) e n =
    let ended : run start front ≡ Some (es ++ fs) = ap (run start) (sym (append-nil front)) ∙ ran front [] es ps h.fed ∙ ap (give es) e in
    let p = h.place in
    let w = h.within in
    whole (record { json = json_of_run front (es ++ fs) ended; depth = nests_join max_depth 0 es fs h.nests (n (opened 0 es)) }) (omega arith)

Goes_on : ℕ → List ℕ → Type 0
Goes_on limit rest = (front : List ℕ) (es : List Event) (ps : List Part) (at : ℕ) → Stands limit front es ps at → Reads limit (front ++ rest) es (reading limit at ps rest)

not_shallow : (front : List ℕ) (b : ℕ) (es : List Event) (ps : List Part) (n : List Event × List Part) → feed start front ≡ Some (es, ps) → opened 0 es ≡ depth ps → step ps (class b) b ≡ Some n → max_depth < depth n.1 → BeginsShallow (front ++ b ∷ []) → ⊥
not_shallow front b es ps n e o s d h =
    let x = told_first (front ++ b ∷ []) h.0 (es ++ n.0) h.1 n.1 (feed_taken front b es ps n e s) h.2.json in
    let nests : NestsWithin max_depth 0 ((es ++ n.0) ++ x.0) = rw x.1 at h.2.depth in
    let few : opened 0 (es ++ n.0) ≤ max_depth = nests_open max_depth 0 (es ++ n.0) x.0 (omega arith) nests in
    let kept : Keeps (depth ps) (Some n) = subst (Keeps (depth ps)) s (keeps ps (class b) b) in
    let behind : opened 0 (es ++ n.0) ≡ depth n.1 = opened_join 0 es n.0 ∙ ap (λ k. opened k n.0) o ∙ kept.0 in
    omega arith

regroup : (limit : ℕ) (front : List ℕ) (b : ℕ) (bs : List ℕ) (es fs : List Event) (r : Reading) → Reads limit ((front ++ b ∷ []) ++ bs) (es ++ fs) r → Reads limit (front ++ b ∷ bs) es (tell fs r)
unfolding Reads
regroup limit front b bs es fs r h =
    let P : List ℕ → Type 0 = λ x. IsReading limit x ((es ++ fs) ++ r.events) r.ending in
    let Q : List Event → Type 0 = λ x. IsReading limit (front ++ b ∷ bs) x r.ending in
    subst Q (append_assoc es fs r.events) (subst P (append_assoc front (b ∷ []) bs) h)

next_byte : (limit : ℕ) (front : List ℕ) (es : List Event) (ps : List Part) (at b : ℕ) (bs : List ℕ) → Stands limit front es ps at → (at ≡ limit → ⊥) → Goes_on limit bs →
    (r : Next) → step ps (class b) b ≡ r → Reads limit (front ++ b ∷ bs) es (go_on at r (λ qs. reading limit (at + 1) qs bs))
unfolding Reads Goes_on
next_byte limit front es ps at b bs h far ih None s =
    let dead : feed start (front ++ b ∷ []) ≡ None = feed_byte front b es ps None h.fed s in
    rw (append-nil es, h.place) (wrong b bs (front_of limit front es ps at h) (λ e. far (h.place ∙ e)) (λ j. let alive : IsSome {T = List Event × List Part} None = subst IsSome dead ((begins (front ++ b ∷ [])).0 j) in cc))
next_byte limit front es ps at b bs h far ih (Some n) s = deep_or_not (nat_lt max_depth (depth n.1)) refl
  where
    taken : feed start (front ++ b ∷ []) ≡ Some (es ++ n.0, n.1)
    taken = feed_taken front b es ps n h.fed s

    kept : Keeps (depth ps) (Some n)
    kept = subst (Keeps (depth ps)) s (keeps ps (class b) b)

    deep_or_not : (t : Bool) → nat_lt max_depth (depth n.1) ≡ t → Reads limit (front ++ b ∷ bs) es (cond t (stop (too_deep at)) (tell n.0 (reading limit (at + 1) n.1 bs)))
    deep_or_not true d =
        let too_many : max_depth < depth n.1 = grind (arith, nat_tests) in
        rw (append-nil es, h.place) (deep b bs (front_of limit front es ps at h) (λ e. far (h.place ∙ e)) ((begins (front ++ b ∷ [])).1 (subst IsSome (sym taken) refl)) (not_shallow front b es ps n h.fed h.open_is s too_many))
    deep_or_not false d =
        let few : depth n.1 ≤ max_depth = grind (arith, nat_tests) in
        let p = h.place in
        let w = h.within in
        let stands : Stands limit (front ++ b ∷ []) (es ++ n.0) n.1 (at + 1) = record {
          fed = taken;
          nests = nests_join max_depth 0 es n.0 h.nests (rw h.open_is (kept.1 few));
          open_is = opened_join 0 es n.0 ∙ ap (λ k. opened k n.0) h.open_is ∙ kept.0;
          place = omega (arith, length-append front (b ∷ []));
          within = omega arith;
        } in
        regroup limit front b bs es n.0 (reading limit (at + 1) n.1 bs) (ih (front ++ b ∷ []) (es ++ n.0) n.1 (at + 1) stands)

goes : (rest : List ℕ) (limit : ℕ) → Goes_on limit rest
unfolding reading Reads Goes_on
goes [] limit = λ front es ps at h. rw (append-nil front) (at_the_end limit front es ps at h (finish ps) refl (end_nests ps))
goes (b ∷ bs) limit = λ front es ps at h. at_limit front es ps at h (at == limit) refl (goes bs limit)
  where
    at_limit : (front : List ℕ) (es : List Event) (ps : List Part) (at : ℕ) → Stands limit front es ps at → (t : Bool) → (at == limit) ≡ t → Goes_on limit bs →
        Reads limit (front ++ b ∷ bs) es (cond t (stop too_long) (go_on at (step ps (class b) b) (λ qs. reading limit (at + 1) qs bs)))
    at_limit front es ps at h true e ih =
        let full : at ≡ limit = grind (arith, nat_tests) in
        rw (append-nil es) (long b bs (front_of limit front es ps at h) (sym h.place ∙ full))
    at_limit front es ps at h false e ih = next_byte limit front es ps at b bs h (grind (arith, nat_tests)) ih (step ps (class b) b) refl

pub reads_right : (limit : ℕ) (text : List ℕ) → IsReading limit text (reading limit 0 start text).events (reading limit 0 start text).ending
unfolding feed Reads Goes_on
reads_right limit text = goes text limit [] [] start 0 (record { fed = refl; nests = tt; open_is = refl; place = refl; within = omega arith })
