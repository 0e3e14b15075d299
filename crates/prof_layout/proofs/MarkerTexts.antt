-- The texts of markers, one more row or member at a time.
use Rattle.std.proofs.Common.{◌≡◌, ℕ, suc, ◌+◌, Option, None, Some, List, [], ◌∷◌, ◌++◌, Bool, true, false, refl, sym, ◌∙◌, ap, subst, arith, length, inl, inr, append_assoc, length-append}
use Rattle.std.specs.Prelude.{map, not, is_some, if◌then◌else◌}
use Rattle.std.specs.List.{flat_map, filter}
use Rattle.std.specs.Option.{option_or}
use Rattle.std.proofs.lemmas.Bool.{cases_Bool}
use Rattle.std.proofs.lemmas.List.{append-nil, map_push}
use Rattle.std.proofs.lemmas.List.Elements.{filter-append}
use Rattle.prof_grammar.specs.Value.{Value, Members, no_members, member, last_named, same_text, snoc}
use Rattle.prof_layout.specs.Markers.{names, string_text, data_texts, all_texts, ranges_from}
use Rattle.prof_layout.proofs.Members.{last_named-same, last_named-other, same_text-true, same_text-self, same_text-swap}

pub flat_map-push : {X Y : Type 0} (f : X → List Y) (xs : List X) (x : X) → flat_map f (xs ++ x ∷ []) ≡ flat_map f xs ++ f x
flat_map-push f [] x = append-nil (f x)
flat_map-push f (y ∷ xs) x = ap (λ (t : List _). f y ++ t) (flat_map-push f xs x) ∙ sym (append_assoc (f y) (flat_map f xs) (f x))

-- one more row's texts stand behind the others
pub all_texts-push : (rows : List Value) (v : Value) → all_texts (rows ++ v ∷ []) ≡ all_texts rows ++ data_texts v
all_texts-push rows v = flat_map-push data_texts rows v

ranges-push : (start : ℕ) (rows : List Value) (v : Value) →
    ranges_from start (rows ++ v ∷ []) ≡ ranges_from start rows ++ (start + length (all_texts rows), start + length (all_texts rows) + length (data_texts v)) ∷ []
ranges-push start [] v = let e : start ≡ start + 0 = omega arith in ap (λ (n : ℕ). let l : List (ℕ × ℕ) = (n, n + length (data_texts v)) ∷ [] in l) e
ranges-push start (w ∷ rows) v =
    let here = length (data_texts w) in
    let many : length (all_texts (w ∷ rows)) ≡ here + length (all_texts rows) = length-append (data_texts w) (all_texts rows) in
    let e : start + here + length (all_texts rows) ≡ start + length (all_texts (w ∷ rows)) = omega arith in
    ap (λ (t : List (ℕ × ℕ)). (start, start + here) ∷ t) (ranges-push (start + here) rows v
    ∙ ap (λ (n : ℕ). let l : List (ℕ × ℕ) = ranges_from (start + here) rows ++ (n, n + length (data_texts v)) ∷ [] in l) e)

-- one more row's range is that of the texts that it adds
pub ranges_from-push : (rows : List Value) (v : Value) →
    ranges_from 0 (rows ++ v ∷ []) ≡ ranges_from 0 rows ++ (length (all_texts rows), length (all_texts (rows ++ v ∷ []))) ∷ []
ranges_from-push rows v =
    let a : 0 + length (all_texts rows) ≡ length (all_texts rows) = omega arith in
    let b : length (all_texts (rows ++ v ∷ [])) ≡ length (all_texts rows) + length (data_texts v) = ap (λ (t : List (List ℕ)). length t) (all_texts-push rows v) ∙ length-append (all_texts rows) (data_texts v) in
    ranges-push 0 rows v
    ∙ ap (λ (n : ℕ). let l : List (ℕ × ℕ) = ranges_from 0 rows ++ (n, n + length (data_texts v)) ∷ [] in l) a
    ∙ ap (λ (n : ℕ). let l : List (ℕ × ℕ) = ranges_from 0 rows ++ (length (all_texts rows), n) ∷ [] in l) (sym b)

pub length-ranges : (start : ℕ) (rows : List Value) → length (ranges_from start rows) ≡ length rows
length-ranges start [] = refl
length-ranges start (v ∷ rows) = ap suc (length-ranges (start + length (data_texts v)) rows)

-- the names but for one, and one more name
filter-push : (m n : List ℕ) (ns : List (List ℕ)) → filter (λ other. not (same_text m other)) (ns ++ n ∷ []) ≡ filter (λ other. not (same_text m other)) ns ++ (if same_text m n then [] else n ∷ [])
filter-push m n ns = filter-append (λ other. not (same_text m other)) ns (n ∷ []) ∙ elim (cases_Bool (same_text m n)) [
  | inl t ↦ rw t refl
  | inr f ↦ rw f refl
]

names-step : (m n : List ℕ) (w : Value) (ns more : List (List ℕ)) (found : Option Value) → more ≡ (if is_some found then ns else ns ++ n ∷ []) →
    m ∷ filter (λ other. not (same_text m other)) more ≡
    (if is_some (option_or found (if same_text m n then Some w else None)) then m ∷ filter (λ other. not (same_text m other)) ns else (m ∷ filter (λ other. not (same_text m other)) ns) ++ n ∷ [])
names-step m n w ns more (Some x) e = ap (λ (t : List (List ℕ)). m ∷ filter (λ other. not (same_text m other)) t) e
names-step m n w ns more None e =
    ap (λ (t : List (List ℕ)). m ∷ filter (λ other. not (same_text m other)) t) e
    ∙ ap (λ (t : List (List ℕ)). m ∷ t) (filter-push m n ns)
    ∙ elim (cases_Bool (same_text m n)) [
      | inl t ↦ rw t (ap (λ (l : List (List ℕ)). m ∷ l) (append-nil (filter (λ other. not (same_text m other)) ns)))
      | inr f ↦ rw f refl
    ]

-- a name that an object has keeps its place, and a new one stands behind the others
pub names-snoc : (ms : Members) (n : List ℕ) (v : Value) → names (snoc ms n v) ≡ (if is_some (last_named n ms) then names ms else names ms ++ n ∷ [])
names-snoc no_members n v = refl
names-snoc (member m w ms) n v = names-step m n w (names ms) (names (snoc ms n v)) (last_named n ms) (names-snoc ms n v)

-- the members as pairs of a name and what is kept of its last value, in the order of the names
abbrev pub entries_of : {X : Type 0} → (Option Value → X) → Members → List (List ℕ) → List (List ℕ × X)
entries_of keep ms ns = map (λ n. (n, keep (last_named n ms))) ns

abbrev pub entries : {X : Type 0} → (Option Value → X) → Members → List (List ℕ × X)
entries keep ms = entries_of keep ms (names ms)

-- an entry is put: a name that is there keeps its place and takes the value, and a new one goes last
abbrev pub put : {X : Type 0} → List (List ℕ × X) → List ℕ → X → List (List ℕ × X)
put [] n x = (n, x) ∷ []
put (e ∷ es) n x = if same_text n e.0 then (e.0, x) ∷ es else e ∷ put es n x

-- no name of these is n
abbrev Lacks : List ℕ → List (List ℕ) → Type 0
Lacks n [] = Unit {0}
Lacks n (m ∷ ns) = (same_text n m ≡ false) × Lacks n ns

abbrev Distinct : List (List ℕ) → Type 0
Distinct [] = Unit {0}
Distinct (m ∷ ns) = Lacks m ns × Distinct ns

abbrev has : List ℕ → List (List ℕ) → Bool
has n [] = false
has n (m ∷ ns) = if same_text n m then true else has n ns

lacks-filter : (n : List ℕ) (test : List ℕ → Bool) (ns : List (List ℕ)) → Lacks n ns → Lacks n (filter test ns)
lacks-filter n test [] h = tt
lacks-filter n test (m ∷ ns) h = elim (cases_Bool (test m)) [
  | inl t ↦ rw t (h.0, lacks-filter n test ns h.1)
  | inr f ↦ rw f (lacks-filter n test ns h.1)
]

lacks-others : (n : List ℕ) (ns : List (List ℕ)) → Lacks n (filter (λ other. not (same_text n other)) ns)
lacks-others n [] = tt
lacks-others n (m ∷ ns) = elim (cases_Bool (same_text n m)) [
  | inl t ↦ rw t (lacks-others n ns)
  | inr f ↦ rw f (f, lacks-others n ns)
]

distinct-filter : (test : List ℕ → Bool) (ns : List (List ℕ)) → Distinct ns → Distinct (filter test ns)
distinct-filter test [] h = tt
distinct-filter test (m ∷ ns) h = elim (cases_Bool (test m)) [
  | inl t ↦ rw t (lacks-filter m test ns h.0, distinct-filter test ns h.1)
  | inr f ↦ rw f (distinct-filter test ns h.1)
]

names-distinct : (ms : Members) → Distinct (names ms)
names-distinct no_members = tt
names-distinct (member m w ms) = (lacks-others m (names ms), distinct-filter (λ other. not (same_text m other)) (names ms) (names-distinct ms))

has-others : (m n : List ℕ) (ns : List (List ℕ)) → same_text n m ≡ false → has n (filter (λ other. not (same_text m other)) ns) ≡ has n ns
has-others m n [] h = refl
has-others m n (k ∷ ns) h = elim (cases_Bool (same_text m k)) [
  | inl t ↦
      let e : same_text n k ≡ false = ap (λ (x : List ℕ). same_text n x) (sym (same_text-true m k t)) ∙ h in
      rw (t, e) (has-others m n ns h)
  | inr f ↦ rw f (ap (λ (b : Bool). if same_text n k then true else b) (has-others m n ns h))
]

some-or : {X : Type 0} (o p : Option X) → is_some (option_or o p) ≡ (if is_some p then true else is_some o)
some-or None None = refl
some-or None (Some y) = refl
some-or (Some x) None = refl
some-or (Some x) (Some y) = refl

-- the names are those that members have
has-names : (n : List ℕ) (ms : Members) → is_some (last_named n ms) ≡ has n (names ms)
has-names n no_members = refl
has-names n (member m w ms) = elim (cases_Bool (same_text n m)) [
  | inl t ↦
      let u : same_text m n ≡ true = same_text-swap m n ∙ t in
      some-or (last_named n ms) (if same_text m n then Some w else None) ∙ rw (u, t) refl
  | inr f ↦
      let u : same_text m n ≡ false = same_text-swap m n ∙ f in
      some-or (last_named n ms) (if same_text m n then Some w else None) ∙ rw (u, f) (has-names n ms ∙ sym (has-others m n (names ms) f))
]

-- other names keep their entries
entries-lacking : {X : Type 0} (keep : Option Value → X) (ms : Members) (n : List ℕ) (v : Value) (ns : List (List ℕ)) → Lacks n ns → entries_of keep (snoc ms n v) ns ≡ entries_of keep ms ns
entries-lacking keep ms n v [] h = refl
entries-lacking keep ms n v (m ∷ ns) h =
    ap (λ (o : Option Value). (m, keep o) ∷ entries_of keep (snoc ms n v) ns) (last_named-other m ms n v h.0)
    ∙ ap (λ (t : List _). (m, keep (last_named m ms)) ∷ t) (entries-lacking keep ms n v ns h.1)

put-entry : {X : Type 0} (keep : Option Value → X) (ms : Members) (n : List ℕ) (v : Value) (ns : List (List ℕ)) → Distinct ns →
    put (entries_of keep ms ns) n (keep (Some v)) ≡ (if has n ns then entries_of keep (snoc ms n v) ns else entries_of keep (snoc ms n v) ns ++ (n, keep (Some v)) ∷ [])
put-entry keep ms n v [] h = refl
put-entry keep ms n v (m ∷ ns) h = elim (cases_Bool (same_text n m)) [
  | inl t ↦
      let lacks : Lacks n ns = subst (λ (x : List ℕ). Lacks x ns) (sym (same_text-true n m t)) h.0 in
      rw t (
      ap (λ (o : Option Value). (m, keep o) ∷ entries_of keep ms ns) (sym (last_named-same m ms n v t))
      ∙ ap (λ (l : List _). (m, keep (last_named m (snoc ms n v))) ∷ l) (sym (entries-lacking keep ms n v ns lacks)))
  | inr f ↦
      rw f (
      ap (λ (o : Option Value). (m, keep o) ∷ put (entries_of keep ms ns) n (keep (Some v))) (sym (last_named-other m ms n v f))
      ∙ ap (λ (l : List _). (m, keep (last_named m (snoc ms n v))) ∷ l) (put-entry keep ms n v ns h.1)
      ∙ elim (cases_Bool (has n ns)) [
        | inl there ↦ rw there refl
        | inr gone ↦ rw gone refl
      ])
]

entries_of-push : {X : Type 0} (keep : Option Value → X) (ms : Members) (n : List ℕ) (ns : List (List ℕ)) → entries_of keep ms (ns ++ n ∷ []) ≡ entries_of keep ms ns ++ (n, keep (last_named n ms)) ∷ []
entries_of-push keep ms n ns = map_push (λ (x : List ℕ). (x, keep (last_named x ms))) ns n

-- one more member is put among the entries
pub entries-snoc : {X : Type 0} (keep : Option Value → X) (ms : Members) (n : List ℕ) (v : Value) → entries keep (snoc ms n v) ≡ put (entries keep ms) n (keep (Some v))
entries-snoc keep ms n v = elim (cases_Bool (has n (names ms))) [
  | inl there ↦
      let found : is_some (last_named n ms) ≡ true = has-names n ms ∙ there in
      let same : names (snoc ms n v) ≡ names ms = names-snoc ms n v ∙ rw found refl in
      let is : put (entries keep ms) n (keep (Some v)) ≡ entries_of keep (snoc ms n v) (names ms) = put-entry keep ms n v (names ms) (names-distinct ms) ∙ rw there refl in
      ap (entries_of keep (snoc ms n v)) same ∙ sym is
  | inr gone ↦
      let none : is_some (last_named n ms) ≡ false = has-names n ms ∙ gone in
      let more : names (snoc ms n v) ≡ names ms ++ n ∷ [] = names-snoc ms n v ∙ rw none refl in
      let is : put (entries keep ms) n (keep (Some v)) ≡ entries_of keep (snoc ms n v) (names ms) ++ (n, keep (Some v)) ∷ [] = put-entry keep ms n v (names ms) (names-distinct ms) ∙ rw gone refl in
      ap (entries_of keep (snoc ms n v)) more
      ∙ entries_of-push keep (snoc ms n v) n (names ms)
      ∙ ap (λ (o : Option Value). entries_of keep (snoc ms n v) (names ms) ++ (n, keep o) ∷ []) (last_named-same n ms n v (same_text-self n))
      ∙ sym is
]

-- the texts of an object, by its entries
entries-texts : (ms : Members) (ns : List (List ℕ)) → flat_map (λ n. string_text (last_named n ms)) ns ≡ flat_map (λ (e : List ℕ × List (List ℕ)). e.1) (entries_of string_text ms ns)
entries-texts ms [] = refl
entries-texts ms (n ∷ ns) = ap (λ (t : List (List ℕ)). string_text (last_named n ms) ++ t) (entries-texts ms ns)

pub data_texts-entries : (ms : Members) → data_texts (Value.object ms) ≡ flat_map (λ (e : List ℕ × List (List ℕ)). e.1) (entries string_text ms)
data_texts-entries ms = entries-texts ms (names ms)
