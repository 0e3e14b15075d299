-- Tokens that lie whole within a window, as events.
use Rattle.std.proofs.Common.{◌≡◌, ℕ, ◌<◌, ◌≤◌, true, false, List, [], ◌∷◌, ◌++◌, length, take, refl, sym, ap, ◌∙◌, inl, inr, arith}
use Rattle.std.specs.Prelude.{◌⊎◌, Option, Some, None, Ok}
use Rattle.std.proofs.lemmas.List.{append_assoc}
use Rattle.std.proofs.lemmas.Bool.Decides.{nat_tests}
use Rattle.prof_time.specs.Numeral as n
use Rattle.prof_time.specs.Numeral.{IsInt}
use Rattle.prof_grammar.specs.Event as t
use Rattle.prof_grammar.specs.Grammar.{value, member, more_members}
use Rattle.prof_grammar.specs.Machine.{Part, blank, symbol, chars, nothing, class, step, begin_value, as_name, as_value}
use Rattle.prof_grammar.specs.Reading.{max_depth}
use Rattle.prof_grammar.specs.Told.{depth}
use Rattle.prof_io.specs.Outside.{Seen}
use Rattle.prof_token.specs.Ahead.{Ahead, IsNext}
use Rattle.prof_token.specs.Bytes.{is_digit, is_space}
use Rattle.prof_token.specs.Goes.{Goes}
use Rattle.prof_token.specs.Kept.{Kept, Gains}
use Rattle.prof_token.specs.Moves.{Moves}
use Rattle.prof_token.specs.Numbers.{IsPlain}
use Rattle.prof_token.specs.Own.{Owns}
use Rattle.prof_token.specs.Writes.{Writes, ReadsString}
use Rattle.prof_token.proofs.Journeys.{moves_here, moves_pass}
use Rattle.prof_token.proofs.Machines.{goes_trans, goes_over}
use Rattle.prof_token.proofs.Owning.{plain_own}
use Rattle.prof_token.proofs.Strings.{owns_string}
use Rattle.prof_token.proofs.Texts.{gains_on}
use Rattle.prof_token.proofs.Turns.{blank_over}
use Rattle.prof_token.proofs.Written.{writes_goes}
use Rattle.prof_json.specs.Gives.{told_by, parts_behind}
use Rattle.prof_json.specs.Parts.{behind, parts_in}
use Rattle.prof_json.specs.Nest.{IsWithin}
use Rattle.prof_json.specs.Step as s
use Rattle.prof_json.specs.Step.{BeginsValue, ReadsNumber, ReadsPlain}
use Rattle.prof_json.specs.declared.answer.Event.{Event}
use Rattle.prof_json.specs.declared.answer.Event.TheVariants.{Name, Str, Number}
use Rattle.prof_json.specs.declared.nesting.Bracket.{Bracket}
use Rattle.prof_json.specs.declared.nesting.Bracket.TheVariants.{Object}
use Rattle.prof_json.specs.declared.nesting.Phase.TheVariants.{AfterName}
use Rattle.prof_json.proofs.Enclosing.{begins_str, begins_number}
use Rattle.prof_json.proofs.Items.{Turns, still, on, goes_number, goes_quoted, quote_turns, adds_plain}
use Rattle.prof_json.proofs.Standing.{IsBehind, in_object, behind_is, behind_few, outer_few, value_step, more_members_comma, takes_next_name}

-- ---- a number

pub number_some : {text : List ℕ} → IsPlain text → 0 < length text
number_some {text} h = go h.begins h.is
  where
    go : {w : List ℕ} → IsInt w → text ≡ w ++ h.fraction → 0 < length text
    go n.zero_int e = omega (arith, ap length e)
    go (n.int digit other digits) e = omega (arith, ap length e)

pub owns_number : {a b : Ahead} {k m : Kept} {before : ℕ} {ps : List Part} (l : Option (List ℕ)) → ReadsNumber before ps a k b m → Owns a.bytes l b.bytes l
owns_number None r = record { is = tt }
owns_number {a} {b} {before = before} (Some l) r =
    let front = take before a.bytes in
    let own = plain_own r.plain in
    record {
      is = record {
        others = front ++ own.others;
        last = own.last;
        split = ap (λ x. x ++ l) r.ahead ∙ append_assoc front (r.text ++ b.bytes) l ∙ ap (λ x. front ++ x) (append_assoc r.text b.bytes l ∙ ap (λ x. x ++ (b.bytes ++ l)) own.is ∙ append_assoc own.others (own.last ∷ []) (b.bytes ++ l))
            ∙ sym (append_assoc front own.others (own.last ∷ (b.bytes ++ l)));
        own = own.own;
      };
    }

begins_own : (b : ℕ) → ((b ≡ 45) ⊎ (is_digit b ≡ true)) → is_space b ≡ false
begins_own b (inl e) = rw e refl
begins_own b (inr h) = grind (arith, nat_tests)

-- a number whose first byte is shown
pub goes_shown : {a b : Ahead} {l : Option (List ℕ)} {k m : Kept} {qs : List Part} (ps : List Part) (x : ℕ) → IsNext x a → ((x ≡ 45) ⊎ (is_digit x ≡ true)) → step qs (class x) x ≡ begin_value (class x) x ps → IsBehind ps → depth ps ≤ max_depth → (r : ReadsNumber 0 ps a k b m) →
    Goes None a l qs (t.number r.text ∷ []) b l ps
goes_shown {qs = qs} ps x next begins e h d r =
    let same : step qs (class x) x ≡ step (blank ∷ symbol value ∷ ps) (class x) x = e ∙ sym (value_step ps x) ∙ sym (blank_over (symbol value ∷ ps) x (begins_own x begins)) in
    goes_trans (goes_over x next same) (goes_number still refl h d r)

-- ---- a string or a number

pub plain_moves : {a b : Ahead} {k m : Kept} {mark : ℕ} {ps : List Part} {event : Event} (seen : Seen) → ReadsPlain mark ps a k b m event → Moves None a seen b seen
plain_moves seen (s.string e r) = moves_pass (moves_here _ _) r.passed
plain_moves seen (s.number e r) = moves_pass (moves_here _ _) r.passed

pub plain_begins : {a b : Ahead} {k m : Kept} {mark : ℕ} {ps : List Part} {event : Event} {xs : List Bracket} → length xs ≤ 256 → ReadsPlain mark ps a k b m event → BeginsValue xs event xs a b k m
plain_begins few (s.string e r) = let place = r.passed.place in begins_str few (omega arith)
plain_begins few (s.number e r) = let place = r.passed.place in begins_number few (omega arith) (adds_plain r.plain r.kept)

pub plain_owns : {a b : Ahead} {k m : Kept} {mark : ℕ} {ps : List Part} {event : Event} (l : Option (List ℕ)) → ReadsPlain mark ps a k b m event → Owns a.bytes l b.bytes l
plain_owns l (s.string e r) = owns_string l r
plain_owns l (s.number e r) = owns_number l r

pub plain_writes : {a b : Ahead} {begun k m : Kept} {l : Option (List ℕ)} {mark : ℕ} {qs : List Part} {event : Event} (xs : List Bracket) → length xs ≤ 256 → Turns (mark ∷ []) qs (blank ∷ symbol value ∷ behind xs) → Gains begun [] k → ReadsPlain mark (behind xs) a k b m event →
    Writes None begun a l qs (told_by (Ok event)) b l m (λ t. parts_behind (Ok event) xs)
plain_writes xs few t h (s.string e r) = writes_goes (told_by (Ok Str)) (λ t. behind xs) r.text (gains_on h r.kept) (goes_quoted as_value (quote_turns t (behind_few xs few)) e (behind_few xs few) r)
plain_writes xs few t h (s.number e r) = writes_goes (told_by (Ok Number)) (λ t. behind xs) r.text (gains_on h r.kept) (goes_number t e (behind_is xs few) (behind_few xs few) r)

-- ---- a name

pub name_turns : {xs : List Bracket} → IsWithin Object xs → length xs ≤ 256 → Turns (44 ∷ 34 ∷ []) (behind xs) (chars as_name [] None nothing ∷ parts_in AfterName (behind xs))
name_turns {xs} w few =
    let outer = behind w.outer in
    let comma : step (behind xs) (class 44) 44 ≡ Some ([], blank ∷ symbol member ∷ symbol more_members ∷ outer) = ap (λ ps. step ps (class 44) 44) (in_object w) ∙ blank_over (symbol more_members ∷ outer) 44 refl ∙ more_members_comma outer in
    on comma (outer_few w few) (on ((takes_next_name w 34 refl).quote refl) (behind_few xs few) still)

pub name_writes : {a b : Ahead} {begun k m : Kept} {l : Option (List ℕ)} {xs : List Bracket} → IsWithin Object xs → length xs ≤ 256 → Gains begun [] k → take 2 a.bytes ≡ 44 ∷ 34 ∷ [] → ReadsString 2 a k b m →
    Writes None begun a l (behind xs) (told_by (Ok Name)) b l m (λ t. parts_behind (Ok Name) xs)
name_writes {xs = xs} w few h e r = writes_goes (told_by (Ok Name)) (λ t. parts_in AfterName (behind xs)) r.text (gains_on h r.kept) (goes_quoted as_name (name_turns w few) e (behind_few xs few) r)
