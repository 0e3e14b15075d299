-- Changes that are the same have the same content
use Rattle.std.proofs.Common.{◌≡◌, ℕ, eqb, Bool, true, false, ◌&&◌, List, refl, sym, ap, ◌∙◌}
use Rattle.std.proofs.lemmas.Bool.Decides.{Decides-eqb, Decides-int_eq}
use Rattle.std.proofs.lemmas.Bool.{false≢true}
use Rattle.std.proofs.lemmas.Slice.Eq.{bytes_eq-Decides}
use Rattle.std.specs.Str.{bytes_eq}
use Rattle.std.specs.Ordering.{int_eq}
use Rattle.std.specs.Prelude.{ℤ}
use Rattle.prof_path.specs.declared.transform.Implementation.{Implementation}
use Rattle.prof_path.specs.declared.transform.Implementation.TheVariants.{Combined, Js, Cpp}
use Rattle.prof_path.specs.declared.transform.Range.{Range}
use Rattle.prof_path.specs.declared.transform.Transform.{Transform}
use Rattle.prof_path.specs.declared.transform.Transform.TheVariants.{MergeFunction, MergeCallNode, DropFunction, FocusSubtree, FocusFunction, FocusCategory, CollapseResource, CollapseDirectRecursion, CollapseRecursion, CollapseFunctionSubtree, FilterSamples}
use Rattle.prof_request.specs.declared.request.Command.{Command}
use Rattle.prof_request.specs.declared.request.Command.TheVariants.{Push, PopTo, CommitRange, PopRangesTo, SetImplementation, SetSearch, Undo, Redo, Goto}
use Rattle.prof_machine.specs.Session.{is_change, same_filter, same_bool, same_transform, same_range, same_change}

both : (a b : Bool) → (a && b) ≡ true → (a ≡ true) × (b ≡ true)
both true b h = (refl, h)
both false b h = absurd (false≢true h)

all : (a b : Bool) → a ≡ true → b ≡ true → (a && b) ≡ true
all true b g h = h
all false b g h = absurd (false≢true g)

number : (a b : ℕ) → eqb a b ≡ true → a ≡ b
number a b h = (Decides-eqb a b).0 h

own_number : (a : ℕ) → eqb a a ≡ true
own_number a = (Decides-eqb a a).1 refl

bytes : (a b : List ℕ) → bytes_eq a b ≡ true → a ≡ b
bytes a b h = (bytes_eq-Decides a b).0 h

own_bytes : (a : List ℕ) → bytes_eq a a ≡ true
own_bytes a = (bytes_eq-Decides a a).1 refl

filter_of : (i j : Implementation) → same_filter i j ≡ true → i ≡ j
filter_of Combined Combined h = refl
filter_of Js Js h = refl
filter_of Cpp Cpp h = refl
filter_of i j h = absurd (false≢true h)

own_filter : (i : Implementation) → same_filter i i ≡ true
own_filter Combined = refl
own_filter Js = refl
own_filter Cpp = refl

flag : (a b : Bool) → same_bool a b ≡ true → a ≡ b
flag true b h = sym h
flag false true h = absurd (false≢true h)
flag false false h = refl

own_flag : (a : Bool) → same_bool a a ≡ true
own_flag true = refl
own_flag false = refl

transform_of : (t u : Transform) → same_transform t u ≡ true → t ≡ u
transform_of (MergeFunction f) (MergeFunction g) h = ap MergeFunction (number f g h)
transform_of (MergeCallNode i q) (MergeCallNode j r) h =
    let b = both (same_filter i j) (bytes_eq q r) h in
    ap (λ k. MergeCallNode k q) (filter_of i j b.0) ∙ ap (MergeCallNode j) (bytes q r b.1)
transform_of (DropFunction f) (DropFunction g) h = ap DropFunction (number f g h)
transform_of (FocusSubtree i q inverted) (FocusSubtree j r other) h =
    let a = both (same_filter i j && bytes_eq q r) (same_bool inverted other) h in
    let b = both (same_filter i j) (bytes_eq q r) a.0 in
    ap (λ k. FocusSubtree k q inverted) (filter_of i j b.0) ∙ (ap (λ p. FocusSubtree j p inverted) (bytes q r b.1) ∙ ap (FocusSubtree j r) (flag inverted other a.1))
transform_of (FocusFunction f) (FocusFunction g) h = ap FocusFunction (number f g h)
transform_of (FocusCategory c) (FocusCategory d) h = ap FocusCategory (number c d h)
transform_of (CollapseResource i r) (CollapseResource j s) h =
    let b = both (same_filter i j) (eqb r s) h in
    ap (λ k. CollapseResource k r) (filter_of i j b.0) ∙ ap (CollapseResource j) (number r s b.1)
transform_of (CollapseDirectRecursion i f) (CollapseDirectRecursion j g) h =
    let b = both (same_filter i j) (eqb f g) h in
    ap (λ k. CollapseDirectRecursion k f) (filter_of i j b.0) ∙ ap (CollapseDirectRecursion j) (number f g b.1)
transform_of (CollapseRecursion f) (CollapseRecursion g) h = ap CollapseRecursion (number f g h)
transform_of (CollapseFunctionSubtree f) (CollapseFunctionSubtree g) h = ap CollapseFunctionSubtree (number f g h)
transform_of (FilterSamples text) (FilterSamples other) h = ap FilterSamples (bytes text other h)
transform_of t u h = absurd (false≢true h)

own_transform : (t : Transform) → same_transform t t ≡ true
own_transform (MergeFunction f) = own_number f
own_transform (MergeCallNode i q) = all (same_filter i i) (bytes_eq q q) (own_filter i) (own_bytes q)
own_transform (DropFunction f) = own_number f
own_transform (FocusSubtree i q inverted) = all (same_filter i i && bytes_eq q q) (same_bool inverted inverted) (all (same_filter i i) (bytes_eq q q) (own_filter i) (own_bytes q)) (own_flag inverted)
own_transform (FocusFunction f) = own_number f
own_transform (FocusCategory c) = own_number c
own_transform (CollapseResource i r) = all (same_filter i i) (eqb r r) (own_filter i) (own_number r)
own_transform (CollapseDirectRecursion i f) = all (same_filter i i) (eqb f f) (own_filter i) (own_number f)
own_transform (CollapseRecursion f) = own_number f
own_transform (CollapseFunctionSubtree f) = own_number f
own_transform (FilterSamples text) = own_bytes text

range_of : (r q : Range) → same_range r q ≡ true → r ≡ q
range_of r q h =
    let b = both (int_eq r.start q.start) (int_eq r.end q.end) h in
    let start : r.start ≡ q.start = (Decides-int_eq r.start q.start).0 b.0 in
    let end : r.end ≡ q.end = (Decides-int_eq r.end q.end).0 b.1 in
    ap (λ (s : ℤ). let range : Range = record { start = s; end = r.end } in range) start ∙ ap (λ (e : ℤ). let range : Range = record { start = q.start; end = e } in range) end

own_range : (r : Range) → same_range r r ≡ true
own_range r = all (int_eq r.start r.start) (int_eq r.end r.end) ((Decides-int_eq r.start r.start).1 refl) ((Decides-int_eq r.end r.end).1 refl)

pub change_of : (c d : Command) → same_change c d ≡ true → c ≡ d
change_of (Push a t) (Push b u) h = let k = both (eqb a b) (same_transform t u) h in ap (λ n. Push n t) (number a b k.0) ∙ ap (Push b) (transform_of t u k.1)
change_of (PopTo a n) (PopTo b m) h = let k = both (eqb a b) (eqb n m) h in ap (λ v. PopTo v n) (number a b k.0) ∙ ap (PopTo b) (number n m k.1)
change_of (CommitRange a r) (CommitRange b q) h = let k = both (eqb a b) (same_range r q) h in ap (λ v. CommitRange v r) (number a b k.0) ∙ ap (CommitRange b) (range_of r q k.1)
change_of (PopRangesTo a n) (PopRangesTo b m) h = let k = both (eqb a b) (eqb n m) h in ap (λ v. PopRangesTo v n) (number a b k.0) ∙ ap (PopRangesTo b) (number n m k.1)
change_of (SetImplementation a i) (SetImplementation b j) h = let k = both (eqb a b) (same_filter i j) h in ap (λ v. SetImplementation v i) (number a b k.0) ∙ ap (SetImplementation b) (filter_of i j k.1)
change_of (SetSearch a text) (SetSearch b other) h = let k = both (eqb a b) (bytes_eq text other) h in ap (λ v. SetSearch v text) (number a b k.0) ∙ ap (SetSearch b) (bytes text other k.1)
change_of (Undo a) (Undo b) h = ap Undo (number a b h)
change_of (Redo a) (Redo b) h = ap Redo (number a b h)
change_of (Goto a text) (Goto b other) h = let k = both (eqb a b) (bytes_eq text other) h in ap (λ v. Goto v text) (number a b k.0) ∙ ap (Goto b) (bytes text other k.1)
change_of c d h = absurd (false≢true h)

pub own_change : (c : Command) → is_change c ≡ true → same_change c c ≡ true
own_change (Push a t) h = all (eqb a a) (same_transform t t) (own_number a) (own_transform t)
own_change (PopTo a n) h = all (eqb a a) (eqb n n) (own_number a) (own_number n)
own_change (CommitRange a r) h = all (eqb a a) (same_range r r) (own_number a) (own_range r)
own_change (PopRangesTo a n) h = all (eqb a a) (eqb n n) (own_number a) (own_number n)
own_change (SetImplementation a i) h = all (eqb a a) (same_filter i i) (own_number a) (own_filter i)
own_change (SetSearch a text) h = all (eqb a a) (bytes_eq text text) (own_number a) (own_bytes text)
own_change (Undo a) h = own_number a
own_change (Redo a) h = own_number a
own_change (Goto a text) h = all (eqb a a) (bytes_eq text text) (own_number a) (own_bytes text)
own_change c h = absurd (false≢true h)

-- a test that says whether two changes are equal
pub same_test : (b : Bool) (c d : Command) → is_change d ≡ true → (b ≡ true → c ≡ d) → (c ≡ d → b ≡ true) → b ≡ same_change c d
same_test true c d is forth back = sym (ap (λ e. same_change e d) (forth refl) ∙ own_change d is)
same_test false c d is forth back = (elim (same_change c d) as (λ s. same_change c d ≡ s → false ≡ s) [ true ↦ λ h. back (change_of c d h) | false ↦ λ h. refl ]) refl
