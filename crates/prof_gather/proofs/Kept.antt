-- What is kept over the calls of the reader.
use Rattle.std.proofs.Common.{option_to_list, ◌≡◌, ◌≢◌, ℕ, ◌≤◌, ◌<◌, List, refl, sym, subst, ◌∙◌, arith}
use Rattle.std.specs.Prelude.{Option, Some, None, IfSome}
use Rattle.std.specs.Io.KnownBytes.{IsAtEnd}
use Rattle.prof_grammar.specs.Event as told
use Rattle.prof_io.specs.Causes.{Rose}
use Rattle.prof_io.specs.Shelf.{Place}
use Rattle.prof_json.specs.Nest.{Leads, Occurs}
use Rattle.prof_json.specs.Position.{Position, IsLast}
use Rattle.prof_json.specs.Skip.{Closes, IsText, IsSkippable}
use Rattle.prof_json.specs.Skip as skip
use Rattle.prof_json.specs.Tells.{Tells, FailsBy}
use Rattle.prof_gather.specs.Reading.{Comes, Ends, rest_of, IsOfReading}
use Rattle.prof_gather.proofs.SoFar.{so_far_more, ends_by, comes_of}
use Rattle.prof_json.specs.declared.answer.Event.{Event}
use Rattle.prof_json.specs.declared.answer.Event.TheVariants as event
use Rattle.prof_token.specs.declared.fault.JsonFault.{JsonFault}
use Rattle.prof_token.specs.declared.fault.JsonFault.TheVariants as fault
use Rattle.prof_gather.specs.Feeding.{told_of, Gives, Passes}
use Rattle.prof_gather.specs.Keeping.{IsKept, Blames, IsBehind}
use Rattle.prof_gather.proofs.Steps.{leads_occurs, leads_behind, gives, closes_passes, closes_occurs}
use Rattle.prof_gather.proofs.Blame.{blames}

unblamed : (o : Option JsonFault) (before now : ℕ) (unsure : Type 0) → o ≡ None → now ≡ before → Blames o before now unsure
unblamed None before now unsure e s = s
unblamed (Some f) before now unsure e s = absurd (cc)

-- who has met no fault has counted none
uncounted : (o : Option JsonFault) (before now : ℕ) (unsure : Type 0) → o ≡ None → Blames o before now unsure → now ≡ before
uncounted None before now unsure e b = b
uncounted (Some f) before now unsure e b = absurd (cc)

-- a reader that has met no fault has counted none
pub sound_counts : (p : Position) (text left : Option (List ℕ)) (wrote first_wrote : Option (List ℕ)) (stand first_stand : Place) (before now : ℕ) (surely unsure : Type 0)
    → IsKept p text left wrote first_wrote stand first_stand before now surely unsure → p.fault ≡ None → now ≡ before
sound_counts p text left wrote first_wrote stand first_stand before now surely unsure k none = uncounted p.fault before now unsure none k.blames

-- an event came
pub next_keeps : (p q : Position) (e : Event) (text left left' : Option (List ℕ)) (es : List told.Event) (w w' fw : Option (List ℕ)) (pl pl' fpl : Place) (before then_ now : ℕ) (steady steady' unsure : Type 0)
    → IsKept p text left w fw pl fpl before then_ steady unsure → Leads p.nest e q.nest → IsLast e q.last → q.limit ≡ p.limit → Tells p left es q left' → p.fault ≡ None → q.fault ≡ None → q.place ≤ q.limit → w' ≡ w → pl' ≡ pl → now ≡ then_ → (steady → steady')
    → IsKept q text left' w' fw pl' fpl before now steady' unsure
next_keeps p q e text left left' es w w' fw pl pl' fpl before then_ now steady steady' unsure k leads last limit told first none within ew epl same s = record {
  nest = λ _. leads_occurs leads;
  behind = λ _. leads_behind leads last;
  within = within;
  most = limit ∙ k.most;
  reads = so_far_more p q text left left' es first none k.reads told;
  written = ew ∙ k.written;
  stays = epl ∙ k.stays;
  later = omega (arith, same, k.later);
  steady = s k.steady;
  blames = unblamed q.fault before now unsure none (same ∙ uncounted p.fault before then_ unsure first k.blames);
}

-- a value was read over
pub skip_keeps : (p q : Position) (text left left' : Option (List ℕ)) (es : List told.Event) (w w' fw : Option (List ℕ)) (pl pl' fpl : Place) (before then_ now : ℕ) (steady steady' unsure : Type 0)
    → IsKept p text left w fw pl fpl before then_ steady unsure → Closes p.last p.nest q.nest → q.last ≡ None → q.limit ≡ p.limit → Tells p left es q left' → p.fault ≡ None → q.fault ≡ None → q.place ≤ q.limit → w' ≡ w → pl' ≡ pl → now ≡ then_ → (steady → steady')
    → IsKept q text left' w' fw pl' fpl before now steady' unsure
skip_keeps p q text left left' es w w' fw pl pl' fpl before then_ now steady steady' unsure k closes last limit told first none within ew epl same s = record {
  nest = λ _. closes_occurs closes;
  behind = λ _. subst (λ l. IsBehind l q.nest.phase) (sym last) tt;
  within = within;
  most = limit ∙ k.most;
  reads = so_far_more p q text left left' es first none k.reads told;
  written = ew ∙ k.written;
  stays = epl ∙ k.stays;
  later = omega (arith, same, k.later);
  steady = s k.steady;
  blames = unblamed q.fault before now unsure none (same ∙ uncounted p.fault before then_ unsure first k.blames);
}

-- a fault was met
pub fault_keeps : (p q : Position) (f : JsonFault) (text left left' : Option (List ℕ)) (w w' fw : Option (List ℕ)) (pl pl' fpl : Place) (before then_ now : ℕ) (steady steady' unsure : Type 0)
    → IsKept p text left w fw pl fpl before then_ steady unsure → q.limit ≡ p.limit → (p.fault ≡ None → FailsBy f p left) → q.fault ≡ Some f → q.place ≤ q.limit → w' ≡ w → pl' ≡ pl → then_ ≤ now → (steady → steady')
    → (f ≢ fault.ReadFault → now ≡ then_) → IfSome p.fault (λ g. f ≡ g) → (p.fault ≡ None → f ≡ fault.ReadFault → Rose then_ now) → (p.fault ≡ None → f ≡ fault.ReadFault → unsure)
    → IsKept q text left' w' fw pl' fpl before now steady' unsure
fault_keeps p q f text left left' w w' fw pl pl' fpl before then_ now steady steady' unsure k limit fails met within ew epl later s same again cause sure = record {
  nest = λ none. let clash : Some f ≡ None = sym met ∙ none in absurd (cc);
  behind = λ none. let clash : Some f ≡ None = sym met ∙ none in absurd (cc);
  within = within;
  most = limit ∙ k.most;
  reads = subst (λ o. IsOfReading o text q left') (sym met) (ends_by p f text left k.reads again fails);
  written = ew ∙ k.written;
  stays = epl ∙ k.stays;
  later = omega (arith, k.later);
  steady = s k.steady;
  blames = subst (λ o. Blames o before now unsure) (sym met) (blames p.fault f before then_ now unsure k.later later k.blames same again cause sure);
}

-- what an event gives
pub next_gives : (p q : Position) (left left' : Option (List ℕ)) (e : Event) → (p.fault ≡ None → Occurs p.nest.phase p.nest.open_) → p.fault ≡ None → Leads p.nest e q.nest → IsLast e q.last
    → (e ≢ event.End → p.place < q.place) → q.limit ≡ p.limit → q.place ≤ q.limit → (e ≡ event.End → IsAtEnd left') → q.fault ≡ None → Comes (rest_of p left) (option_to_list q.last) (rest_of q left') → (e ≡ event.End → Ends (rest_of p left)) → Gives (told_of p left) e (told_of q left')
next_gives p q left left' e occurs none leads last further limit within end sound comes ends =
    gives p.nest q.nest (told_of p left) (told_of q left') e refl refl leads (occurs none) last (λ ne. let lt = further ne in omega arith) end sound comes ends

-- what reading over a value does
pub skip_passes : (p q : Position) (left left' : Option (List ℕ)) → (p.fault ≡ None → IsBehind p.last p.nest.phase) → p.fault ≡ None → Closes p.last p.nest q.nest
    → p.place < q.place → q.limit ≡ p.limit → q.place ≤ q.limit → Passes (told_of p left) (told_of q left')
skip_passes p q left left' behind none closes further limit within = record {
  frames = closes_passes closes (behind none);
  room = omega arith;
}

-- the last event's text
pub name_text : (l : Option told.Event) (n : List ℕ) → l ≡ Some (told.name n) → (s : List ℕ) × IsText l s
name_text l n e = (n, subst (λ x. IsText x n) (sym e) skip.name)

pub string_text : (l : Option told.Event) (n : List ℕ) → l ≡ Some (told.str n) → (s : List ℕ) × IsText l s
string_text l n e = (n, subst (λ x. IsText x n) (sym e) skip.str)

pub skippable_name : (l : Option told.Event) (n : List ℕ) → l ≡ Some (told.name n) → IsSkippable l
skippable_name l n e = subst IsSkippable (sym e) skip.member_value

pub skippable_array : (l : Option told.Event) → l ≡ Some told.array_start → IsSkippable l
skippable_array l e = subst IsSkippable (sym e) skip.all_items

pub skippable_object : (l : Option told.Event) → l ≡ Some told.object_start → IsSkippable l
skippable_object l e = subst IsSkippable (sym e) skip.all_members
